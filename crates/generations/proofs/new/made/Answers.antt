use Rattle.std.proofs.Common.{◌∷◌, ◌++◌, [], Bool, ◌∙◌, subst}
use Rattle.new_image.specs.Image.{image_of}
use Rattle.generations.specs.Created.{AreEmptyBy}
use Rattle.generations.specs.Written.{behind_gate}
use Rattle.generations.proofs.Creating.{new_keeps}
use Rattle.generations.proofs.new.made.Goals as goal

pub returns-in-Ok-false-clause-stop : goal.returns-in-Ok-false-clause-stop
returns-in-Ok-false-clause-stop g c s d told_s told_d = subst (λ (q : Bool). AreEmptyBy q s d) c.in-Ok-false.field-0-test (c.in-Ok-false.ensures.told s d told_s told_d)

pub returns-in-Ok-make_file-clause-kept : goal.returns-in-Ok-make_file-clause-kept
returns-in-Ok-make_file-clause-kept g c =
    let rs = c.args.schema.now in
    new_keeps rs c.in-Ok.file.1.at c.in-Ok.file.1.clean (g.D.Disk.image c.make_file.new.disk) (g.D.Disk.image c.are_empty.new.disks.second) c.requires c.in-Ok.ensures.few c.in-Ok.ensures.at c.in-Ok.ensures.clean
    (c.in-Ok-make_file.ensures.opened (behind_gate 1 (image_of rs) ++ 0 ∷ []) (c.deref.ensures.value ∙ c.in-Ok.ensures.bytes)) (c.in-Ok-true.ensures.second c.in-Ok-true.field-0-test)

pub returns-in-Ok-make_file-clause-empty : goal.returns-in-Ok-make_file-clause-empty
returns-in-Ok-make_file-clause-empty g c s d told_s told_d = subst (λ (q : Bool). AreEmptyBy q s d) c.in-Ok-true.field-0-test (c.in-Ok-true.ensures.told s d told_s told_d)
