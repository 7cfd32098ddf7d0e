use Rattle.std.proofs.Common.{List, sym, ◌∙◌}
use Rattle.db_store.specs.Parts.{Part}
use Rattle.field_merge.proofs.TurnLemmas.{all_turn, base_turn, left_turn, right_turn, end_turn}
use Rattle.field_merge.proofs.turns.next_turn.Goals as goal

pub returns-clause-all : goal.returns-clause-all
returns-clause-all g c = λ e.
    let bs : List Part = g.B.View.parts_of c.args.base.now c.args.relation in
    let ls : List Part = g.L.View.parts_of c.args.left.now c.args.relation in
    let rs : List Part = g.R.View.parts_of c.args.right.now c.args.relation in
    all_turn bs ls rs c.args.taken.now c.info_at-of_base.result c.info_at-of_left.result c.info_at-of_right.result c.info_at-of_base.ensures.some c.info_at-of_left.ensures.some c.info_at-of_right.ensures.some (sym c.turn_of.ensures ∙ e)

pub returns-clause-base : goal.returns-clause-base
returns-clause-base g c = λ e.
    let bs : List Part = g.B.View.parts_of c.args.base.now c.args.relation in
    let ls : List Part = g.L.View.parts_of c.args.left.now c.args.relation in
    let rs : List Part = g.R.View.parts_of c.args.right.now c.args.relation in
    base_turn bs ls rs c.args.taken.now c.info_at-of_base.result c.info_at-of_left.result c.info_at-of_right.result c.info_at-of_base.ensures.some (sym c.turn_of.ensures ∙ e)

pub returns-clause-left : goal.returns-clause-left
returns-clause-left g c = λ e.
    let bs : List Part = g.B.View.parts_of c.args.base.now c.args.relation in
    let ls : List Part = g.L.View.parts_of c.args.left.now c.args.relation in
    let rs : List Part = g.R.View.parts_of c.args.right.now c.args.relation in
    left_turn bs ls rs c.args.taken.now c.info_at-of_base.result c.info_at-of_left.result c.info_at-of_right.result c.info_at-of_left.ensures.some (sym c.turn_of.ensures ∙ e)

pub returns-clause-right : goal.returns-clause-right
returns-clause-right g c = λ e.
    let bs : List Part = g.B.View.parts_of c.args.base.now c.args.relation in
    let ls : List Part = g.L.View.parts_of c.args.left.now c.args.relation in
    let rs : List Part = g.R.View.parts_of c.args.right.now c.args.relation in
    right_turn bs ls rs c.args.taken.now c.info_at-of_base.result c.info_at-of_left.result c.info_at-of_right.result c.info_at-of_right.ensures.some (sym c.turn_of.ensures ∙ e)

pub returns-clause-end : goal.returns-clause-end
returns-clause-end g c = λ e.
    let bs : List Part = g.B.View.parts_of c.args.base.now c.args.relation in
    let ls : List Part = g.L.View.parts_of c.args.left.now c.args.relation in
    let rs : List Part = g.R.View.parts_of c.args.right.now c.args.relation in
    end_turn bs ls rs c.args.taken.now c.info_at-of_base.result c.info_at-of_left.result c.info_at-of_right.result c.info_at-of_base.ensures.none c.info_at-of_left.ensures.none c.info_at-of_right.ensures.none (sym c.turn_of.ensures ∙ e)
