use Rattle.std.proofs.Common.{◌≡◌, ◌∙◌, ap}
use Rattle.hybrid_store.specs.Store.{layout_of}
use Rattle.image_text.specs.declared.image.Format.TheVariants.{Two}
use Rattle.image_text.specs.Spelling.{spelling}
use Rattle.db_image.specs.Images.{image_of}
use Rattle.db_image.proofs.NumbersFit.{numbers_fit}
use Rattle.db_image.proofs.StoreImage.{store_image}
use Rattle.db_image.proofs.encoding.encode.Goals as goal

pub returns-clause-image : goal.returns-clause-image
returns-clause-image c =
    let e : c.of.result ≡ spelling Two (image_of (layout_of c.args.store.now)) = c.of.ensures ∙ c.in_ok-bytes.ensures ∙ ap (spelling Two) c.in_ok-image.ensures.value in
    let image = c.in_ok-image.ensures in
    store_image c.args.store.now c.of.result e (numbers_fit (layout_of c.args.store.now) c.in_ok-image.image image.value image.fits.segments image.ranged)
