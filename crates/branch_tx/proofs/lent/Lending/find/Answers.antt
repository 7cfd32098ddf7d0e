use Rattle.std.proofs.Common.{◌≡◌, ◌∙◌, ap, sym, arith, Some, None, map, [], get_or}
use Rattle.std.proofs.lemmas.List.{length-map, get_or-map}
use Rattle.std.specs.Option.{option_copied}
use Rattle.std.specs.BTreeMap.{get}
use Rattle.branch_tx.specs.declared.lent.Lent.{Lent}
use Rattle.branch_tx.specs.Granted.{lent_table}
use Rattle.branch_tx.specs.Shown.{parts_by}
use Rattle.branch_tx.specs.Lending.{Views, key_cmp, place_of}
use Rattle.branch_tx.proofs.LentLemmas.{within, found_at, none_at}
use Rattle.branch_tx.proofs.lent.Lending.find.Goals as goal

pub index-requires : goal.index-requires
index-requires g c =
    let name = λ (l : Lent g.row.V.Denot). l.name in
    let at : place_of c.args.name.now (map name c.self.inside.lent.items) ≡ Some c.in-Some.place.now = sym (c.self.invariant c.args.name.now) ∙ ap (get key_cmp c.self.inside.places) (sym c.of.ensures) ∙ sym c.get.ensures.value ∙ ap option_copied c.in-Some.is in
    omega (arith, within (map name c.self.inside.lent.items) c.args.name.now c.in-Some.place.now at, length-map c.self.inside.lent.items name, c.self.inside.lent.ok.0)

pub returns-in-None-clause-none : goal.returns-in-None-clause-none
returns-in-None-clause-none g c =
    let name = λ (l : Lent g.row.V.Denot). l.name in
    let table = λ (l : Lent g.row.V.Denot). g.V.View.table l.view in
    let at : place_of c.args.name.now (map name c.self.inside.lent.items) ≡ None = sym (c.self.invariant c.args.name.now) ∙ ap (get key_cmp c.self.inside.places) (sym c.of.ensures) ∙ sym c.get.ensures.value ∙ ap option_copied c.in-None.is in
    ap (λ (vs : Views). lent_table vs.0 c.args.name.now) (sym c.self.view_is) ∙ none_at name table c.self.inside.lent.items c.args.name.now at

pub returns-in-Some-clause-some : goal.returns-in-Some-clause-some
returns-in-Some-clause-some g c =
    let name = λ (l : Lent g.row.V.Denot). l.name in
    let table = λ (l : Lent g.row.V.Denot). g.V.View.table l.view in
    let at : place_of c.args.name.now (map name c.self.inside.lent.items) ≡ Some c.in-Some.place.now = sym (c.self.invariant c.args.name.now) ∙ ap (get key_cmp c.self.inside.places) (sym c.of.ensures) ∙ sym c.get.ensures.value ∙ ap option_copied c.in-Some.is in
    ap (λ (vs : Views). lent_table vs.0 c.args.name.now) (sym c.self.view_is)
    ∙ (found_at name table c.self.inside.lent.items c.args.name.now c.in-Some.place.now c.index.result.now at).1
    ∙ sym (ap (λ l. Some (table l)) c.index.ensures)

pub returns-in-Some-clause-shown : goal.returns-in-Some-clause-shown
returns-in-Some-clause-shown g c =
    let name = λ (l : Lent g.row.V.Denot). l.name in
    let table = λ (l : Lent g.row.V.Denot). g.V.View.table l.view in
    let shows = λ (l : Lent g.row.V.Denot). parts_by (g.V.View.parts_of l.view) in
    let at : place_of c.args.name.now (map name c.self.inside.lent.items) ≡ Some c.in-Some.place.now = sym (c.self.invariant c.args.name.now) ∙ ap (get key_cmp c.self.inside.places) (sym c.of.ensures) ∙ sym c.get.ensures.value ∙ ap option_copied c.in-Some.is in
    let there = (found_at name table c.self.inside.lent.items c.args.name.now c.in-Some.place.now c.index.result.now at).0 in
    (c.in-Some.place.now, ap (λ (vs : Views). get_or vs.1 c.in-Some.place.now []) (sym c.self.view_is) ∙ get_or-map shows c.self.inside.lent.items c.in-Some.place.now c.index.result.now [] there ∙ ap shows (sym c.index.ensures))
