use Rattle.std.proofs.Common.{List, ℕ, sym, subst}
use Rattle.hybrid_store.specs.Store.{layout_of}
use Rattle.image_text.specs.declared.image.Format.TheVariants.{Two}
use Rattle.db_image.specs.Stores.{IsImageOf}
use Rattle.generations.specs.Stored.{state_in}
use Rattle.generations.proofs.Imaging.{front_imaged}
use Rattle.generations.proofs.Owing.{either_file, nothing_done}
use Rattle.generations.proofs.dataset.DatasetLogDatasetStore.checkpoint.Goals as goal

pub returns-in-Err-clause-kept : goal.returns-in-Err-clause-kept
returns-in-Err-clause-kept g c es f either = nothing_done g.D.Disk g.met.D.Disk.only_now c.args.self.now (state_in c.args.store.now) es f _ either

pub returns-in-Ok-clause-kept : goal.returns-in-Ok-clause-kept
returns-in-Ok-clause-kept g c es f either =
    let store = c.args.store.now in
    let file = either_file c.args.self.now (state_in store) es f either in
    let image = c.in-Ok.ensures.image (front_imaged file.front c.args.self.now.generation (layout_of store) es file.is_front) in
    c.checkpoint_bytes.ensures.kept (state_in store) es f (subst (λ (l : List ℕ). IsImageOf Two l (state_in store)) (sym c.as_slice.ensures) image) either
