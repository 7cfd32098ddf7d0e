-- The spelling of the image of a store's layout is an image of the store.
use Rattle.std.proofs.Common.{◌≡◌, ℕ, List, refl, sym, ap, ◌∙◌, arith}
use Rattle.db_store.specs.State.{laid}
use Rattle.hybrid_store.specs.declared.store.HybridStore.{HybridStore}
use Rattle.hybrid_store.specs.Store.{layout_of, state_of}
use Rattle.image_text.specs.declared.image.Format.TheVariants.{Two}
use Rattle.image_text.specs.Spelling.{spelling}
use Rattle.image_parts.specs.Whole.{image_at}
use Rattle.db_image.specs.Images.{image_of}
use Rattle.db_image.specs.Imaged.{AllNumbersFit, IsImaged}
use Rattle.db_image.specs.Stores.{IsImageOf}
use Rattle.db_image.proofs.LayoutBack.{layout_back}
use Rattle.db_image.proofs.ReadWhole.{image_back}
use Rattle.db_image.proofs.Ruled.{ruled}
use Rattle.db_image.proofs.StoreWithin.{are_within}

pub store_image : (s : HybridStore) (bytes : List ℕ) → bytes ≡ spelling Two (image_of (layout_of s)) → AllNumbersFit (layout_of s) → IsImaged (layout_of s) → IsImageOf Two bytes (state_of s)
store_image s bytes e numbers is = record {
  image = image_of (layout_of s);
  read = ap (image_at Two) e ∙ image_back Two (image_of (layout_of s)) (ruled (layout_of s) s.laid s.sound s.counted (are_within s.schema s.lanes.items s.order.items s.segments.items s.laid) (let n = s.numbered in omega (arith, n)) numbers is) refl;
  layout = ap laid (sym (layout_back (layout_of s) (are_within s.schema s.lanes.items s.order.items s.segments.items s.laid) is.ordered));
}
