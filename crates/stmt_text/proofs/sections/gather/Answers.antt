use Rattle.std.proofs.Common.{arith, ap, sym, ◌∙◌, ◌+◌, ℕ, List}
use Rattle.db_value.specs.Text.{lines}
use Rattle.stmt_text.specs.Sections.{input_lines, with_line}
use Rattle.stmt_text.proofs.SectionLemmas.{gathered_none, line_added}
use Rattle.stmt_text.proofs.sections.gather.Goals as goal

pub loop-rest-init : goal.loop-rest-init
loop-rest-init c = record { all = gathered_none c.args.first c.args.count c.in_ok-lists.lists.items (input_lines c.args.text.now) c.in_ok-lists.ensures; room = omega arith }

pub loop-rest-preserved-in_ok-add_line : goal.loop-rest-preserved-in_ok-add_line
loop-rest-preserved-in_ok-add_line c =
    let number : ℕ = c.loop-rest.number + 1 in
    let text = c.of-text.ensures ∙ c.in_ok-from_slice.ensures.items in
    let grew = c.in_ok-add_line.ensures ∙ ap (λ (t : List ℕ). with_line c.in-Some.place (record { line = number; text = t }) c.loop-rest.lists.items) text in
    record {
      all = line_added c.args.first c.args.count number c.in-Some.place c.loop-rest.lists.items c.add_line.new.lists.items c.first_line.result.0.now (lines c.loop-rest.rest.now) (lines c.first_line.result.1.now) (input_lines c.args.text.now) (sym c.in-Some.ensures) c.first_line.ensures.lines grew c.loop-rest.invariant.all;
      room = omega (arith, c.loop-rest.invariant.room, c.first_line.ensures.shorter);
    }
