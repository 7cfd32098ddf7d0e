use Rattle.std.proofs.Common.{subst}
use Rattle.std.specs.List.{AllByRecursion}
use Rattle.db_value.specs.Value.{IsValue}
use Rattle.db_image.proofs.image_records.fits_its_types.Goals as goal

pub returns : goal.returns
returns c = record {
  key = c.key_fits.ensures;
  values = subst (AllByRecursion IsValue) c.packed-packed.ensures.value c.packed-packed.ensures.is.each;
}
