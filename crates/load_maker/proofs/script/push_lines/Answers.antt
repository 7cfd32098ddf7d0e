use Rattle.std.proofs.Common.{◌∙◌, sym}
use Rattle.load_maker.proofs.ScriptLemmas.{drawn_first, drawn_next, lines_next, no_lines}
use Rattle.load_maker.proofs.script.push_lines.Goals as goal

pub loop-before-init : goal.loop-before-init
loop-before-init c = record { drawn_is = c.from-x.ensures ∙ sym (drawn_first c.args.n); written = no_lines c.args.n c.args.out.now.items }

pub loop-before-preserved : goal.loop-before-preserved
loop-before-preserved c =
    let next = drawn_next c.args.n c.loop-before.before c.loop-before.x c.next_drawn-x.result c.loop-before.invariant.drawn_is c.next_drawn-x.ensures in
    record {
      drawn_is = next;
      written = lines_next c.args.n c.loop-before.before c.next_drawn-x.result c.args.out.now.items c.loop-before.out.items c.push_line.new.out.items c.extend_from_slice.new.self.items
          next c.loop-before.invariant.written c.in_ok-push_line.ensures c.in_ok-extend_from_slice.ensures.items;
    }
