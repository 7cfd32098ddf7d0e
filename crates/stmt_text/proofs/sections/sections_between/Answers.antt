use Rattle.std.proofs.Common.{◌≡◌, ◌∙◌, ◌+◌, ◌++◌, ◌-◌, ℕ, suc, List, length, ap, sym, arith}
use Rattle.stmt_text.specs.declared.sections.TextLine.{TextLine}
use Rattle.stmt_text.specs.declared.sections.Section.{Section}
use Rattle.stmt_text.specs.Sections.{if_some_line, sections_from, input_lines}
use Rattle.stmt_text.proofs.SectionLemmas.{all_gathered, lists_from, long_lists, one_longer, next_list, step, stop}
use Rattle.stmt_text.proofs.sections.sections_between.Goals as goal

pub loop-list-init : goal.loop-list-init
loop-list-init c =
    let first : ℕ = c.args.first in
    let n : ℕ = c.args.count in
    let ls : List TextLine = input_lines c.args.text.now in
    let are : c.in_ok-lists.lists.items ≡ lists_from first n ls = all_gathered first n c.in_ok-lists.lists.items ls c.in_ok-lists.ensures in
    let left : c.into_iter-list-iterator.result.rest.items ≡ lists_from first n ls = c.into_iter-list-iterator.ensures.into_iter_gives.0 ∙ are in
    let long : length c.into_iter-list-iterator.result.rest.items ≡ n = ap length left ∙ long_lists first n ls in
    let same : n ≡ first + n - first = omega arith in
    record {
      done = ap (λ (x : List Section). x ++ sections_from first (first + n - first) ls) c.new-items.ensures.items ∙ ap (λ k. sections_from first k ls) (sym same);
      left = left ∙ ap (λ k. lists_from first k ls) same;
      count = omega (arith, long);
    }

pub loop-list-preserved : goal.loop-list-preserved
loop-list-preserved c =
    let s : ℕ = c.loop-list.session in
    let end : ℕ = c.args.first + c.args.count in
    let ls : List TextLine = input_lines c.args.text.now in
    let v = c.loop-list.invariant in
    let long : length c.loop-list.list-iterator.rest.items ≡ suc (length c.next.new.self.rest.items) = one_longer c.in-Some.list c.loop-list.list-iterator.rest.items c.next.new.self.rest.items c.in-Some.ensures.steps.0 in
    let count : s + length c.loop-list.list-iterator.rest.items ≡ end = v.count in
    let e : end - s ≡ suc (end - (s + 1)) = omega (arith, long, count) in
    let list : c.add_section.new.items.items ≡ c.loop-list.items.items ++ if_some_line s c.in-Some.list = c.in_ok-add_section.ensures ∙ ap (λ (x : List TextLine). c.loop-list.items.items ++ if_some_line s x) c.list.view_is in
    let next = next_list s (end - s) (end - (s + 1)) ls c.in-Some.list c.loop-list.list-iterator.rest.items c.next.new.self.rest.items c.in-Some.ensures.steps.0 v.left e in
    record {
      done = step c.loop-list.items.items c.add_section.new.items.items s (end - (s + 1)) (end - s) c.in-Some.list ls (sections_from c.args.first c.args.count ls) e next.0 list v.done;
      left = next.1;
      count = omega (arith, long, count);
    }

pub returns : goal.returns
returns c =
    let s : ℕ = c.loop-list.session in
    let v = c.loop-list.invariant in
    let rest = c.loop-list.list-iterator.rest in
    let end : ℕ = c.args.first + c.args.count in
    let count : s + length rest.items ≡ end = v.count in
    let none : length rest.items ≡ 0 = sym rest.ok.0 ∙ c.in-None.ensures.steps.0 in
    let e : end - s ≡ 0 = omega (arith, count, none) in
    let ls : List TextLine = input_lines c.args.text.now in
    stop c.loop-list.items.items s (end - s) ls (sections_from c.args.first c.args.count ls) e v.done
