use Rattle.std.proofs.Common.{List, refl}
use Rattle.db_store.specs.Parts.{Part}
use Rattle.field_merge.specs.declared.sides.Sides.{Sides}
use Rattle.field_merge.proofs.SplitLemmas.{base_part, left_part, right_part}
use Rattle.field_merge.proofs.unshared.take_turn.Goals as goal

pub returns-in_ok-gather_part-in-Base-clause-split : goal.returns-in_ok-gather_part-in-Base-clause-split
returns-in_ok-gather_part-in-Base-clause-split g c =
    let bs : List Part = g.B.View.parts_of c.args.base.now c.args.relation in
    let ls : List Part = g.L.View.parts_of c.args.left.now c.args.relation in
    let rs : List Part = g.R.View.parts_of c.args.right.now c.args.relation in
    let old : Sides = c.args.sides.now in
    let new : Sides = record { base = c.gather_part.new.rows; left = old.left; right = old.right } in
    base_part bs ls rs c.args.taken.now old new c.requires.split (c.next_turn.ensures.base c.in-Base.is).within c.in_ok-gather_part-in-Base.ensures refl refl

pub returns-in_ok-gather_part-in-Left-clause-split : goal.returns-in_ok-gather_part-in-Left-clause-split
returns-in_ok-gather_part-in-Left-clause-split g c =
    let bs : List Part = g.B.View.parts_of c.args.base.now c.args.relation in
    let ls : List Part = g.L.View.parts_of c.args.left.now c.args.relation in
    let rs : List Part = g.R.View.parts_of c.args.right.now c.args.relation in
    let old : Sides = c.args.sides.now in
    let new : Sides = record { base = old.base; left = c.gather_part-in-Left.new.rows; right = old.right } in
    left_part bs ls rs c.args.taken.now old new c.requires.split (c.next_turn.ensures.left c.in-Left.is).within refl c.in_ok-gather_part-in-Left.ensures refl

pub returns-in_ok-gather_part-in-Right-clause-split : goal.returns-in_ok-gather_part-in-Right-clause-split
returns-in_ok-gather_part-in-Right-clause-split g c =
    let bs : List Part = g.B.View.parts_of c.args.base.now c.args.relation in
    let ls : List Part = g.L.View.parts_of c.args.left.now c.args.relation in
    let rs : List Part = g.R.View.parts_of c.args.right.now c.args.relation in
    let old : Sides = c.args.sides.now in
    let new : Sides = record { base = old.base; left = old.left; right = c.gather_part-in-Right.new.rows } in
    right_part bs ls rs c.args.taken.now old new c.requires.split (c.next_turn.ensures.right c.in-Right.is).within refl refl c.in_ok-gather_part-in-Right.ensures
