-- Which store bytes are an image of.
use Rattle.std.specs.Prelude.{◌≡◌, ℕ, ◌-◌, List, length, Ok, Err}
use Rattle.db_store.specs.State.{State, laid}
use Rattle.hybrid_store.specs.Parts.{layout_of_parts}
use Rattle.image_text.specs.declared.image.Format.{Format}
use Rattle.image_text.specs.declared.image.Image.{Image}
use Rattle.image_parts.specs.declared.decoding.ImageStop.{ImageStop}
use Rattle.image_parts.specs.declared.decoding.ImageStop.TheVariants.{NotAnImage, Memory}
use Rattle.image_parts.specs.Whole.{image_at}
use Rattle.db_image.specs.Parts.{parts_of}

-- the bytes are an image of the state in a format: its layout is that of the parts that they stand for
pub record IsImageOf (format : Format) (bytes : List ℕ) (s : State) : Type 0 where
  pub image : Image
  pub read : image_at format bytes ≡ Ok image
  pub layout : s ≡ laid (layout_of_parts (parts_of image))

-- the bytes are no image in a format, and the first item that breaks a rule begins there; of want of memory nothing is said
abbrev pub IsNoImage : Format → List ℕ → ImageStop → Type 0
IsNoImage format bytes (NotAnImage at) = (left : ℕ) × (image_at format bytes ≡ Err left) × (at ≡ length bytes - left)
IsNoImage format bytes Memory = Unit {0}
