use Rattle.std.proofs.Common.{arith}
use Rattle.hybrid_store.specs.Store.{layout_of}
use Rattle.db_image.specs.Images.{row_image}
use Rattle.db_image.proofs.ImageSteps.{parts_next}
use Rattle.db_image.proofs.image_segments.rows_image.Goals as goal

pub loop-branch-preserved : goal.loop-branch-preserved
loop-branch-preserved c = record {
  rows = parts_next (row_image (layout_of c.args.store.now) c.args.relation c.args.segment) c.loop-branch.branch c.loop-branch.rows.items c.put_row.new.rows.items c.in_ok-put_row.ensures.rows c.loop-branch.invariant.rows;
  fits = c.in_ok-put_row.ensures.fits c.loop-branch.invariant.fits;
  few = let a = c.in_ok-put_row.ensures.few in let b = c.loop-branch.invariant.few in omega (arith, a, b);
}
