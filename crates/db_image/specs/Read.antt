-- The images of which the parts can be made.
use Rattle.std.specs.Prelude.{◌≡◌, true, length}
use Rattle.db_value.specs.Relations.{is_counted}
use Rattle.image_text.specs.declared.image.Image.{Image}
use Rattle.db_image.specs.Parts.{AllFit}

-- what is asked of an image, and holds of each that is read
pub record IsFit (i : Image) : Type 0 where
  pub counted : is_counted i.relations ≡ true
  pub same_count : length i.segments ≡ length i.relations
  pub fit : AllFit i.relations i.segments
