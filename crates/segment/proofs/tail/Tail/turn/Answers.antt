use Rattle.std.proofs.Common.{arith, ◌≡◌, ◌<◌, ◌≤◌, ◌++◌, ◌∷◌, ◌⊎◌, [], ℕ, List, true, length, map, ap, sym, ◌∙◌, subst}
use Rattle.std.specs.Arc.{arc_value}
use Rattle.std.proofs.lemmas.List.{length-map}
use Rattle.db_value.specs.Widths.{are_widths}
use Rattle.record_page.specs.Page.{Rows, capacity}
use Rattle.segment.specs.Pages.{pages_of}
use Rattle.segment.proofs.PageLemmas.{capacity_some}
use Rattle.segment.proofs.BlockLemmas.{after_put, few_put}
use Rattle.segment.proofs.tail.Tail.turn.Goals as goal

pub invariant_of-self : goal.invariant_of-self
invariant_of-self c =
    let t = c.fold.new.self in
    let old : List Rows = map arc_value t.pages.items in
    let new : List Rows = map arc_value c.put_page.new.links.items in
    let full : c.replace-full.result ≡ t.last = c.replace-full.ensures.value in
    let either : (new ≡ old) ⊎ (new ≡ old ++ t.last ∷ []) = subst (λ (p : Rows). (new ≡ old) ⊎ (new ≡ old ++ p ∷ [])) full c.put_page.ensures.either in
    let most : length t.last.records ≤ capacity t.widths = subst (λ (k : List ℕ). length t.last.records ≤ capacity k) t.same c.len-count.ensures.paged.room in
    let least : capacity t.widths ≤ length t.last.records = subst (λ (p : Rows). capacity t.widths ≤ length p.records) (sym c.in_ok-fold.ensures.last) (subst (λ (k : List ℕ). capacity k ≤ length c.args.self.now.last.records) (sym c.in_ok-fold.ensures.widths) c.requires) in
    let room = c.in_ok-fold.ensures.room in
    let m = length-map t.pages.items arc_value in
    let n = length-map c.put_page.new.links.items arc_value in
    let few = few_put old new t.last either (omega (arith, room, m)) in
    record {
      same = ap (λ (p : Rows). p.widths) (c.replace-full.ensures.after ∙ c.in_ok-fresh.ensures);
      full = after_put t.widths (pages_of (arc_value t.blocks)) old new t.last either t.full t.same (omega (arith, most, least));
      whole = t.whole;
      few = omega (arith, few, n);
    }

pub returns-clause-room : goal.returns-clause-room
returns-clause-room c =
    let t = c.fold.new.self in
    let are : are_widths t.widths ≡ true = subst (λ (k : List ℕ). are_widths k ≡ true) t.same c.len-count.ensures.paged.are in
    let none = ap (λ (p : Rows). length p.records) (c.replace-full.ensures.after ∙ c.in_ok-fresh.ensures) in
    let some = capacity_some t.widths are in
    omega (arith, none, some)
