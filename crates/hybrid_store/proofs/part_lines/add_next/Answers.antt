use Rattle.std.proofs.Common.{◌≡◌, ◌∙◌, ◌<◌, ◌++◌, ◌∷◌, [], Option, None, suc, length, get_or, ap, sym, subst, arith}
use Rattle.std.specs.Prelude.{All}
use Rattle.std.proofs.lemmas.List.{get_or_default}
use Rattle.db_value.specs.declared.version.VersionPlace.{VersionPlace}
use Rattle.db_store.specs.Dataset.{root, before}
use Rattle.db_store.specs.Order.{number_in, numbers_if}
use Rattle.bit_rows.specs.Kept.{KeptLane, no_kept}
use Rattle.hybrid_store.specs.PartLines.{proper_in, proper_if_in, second_in}
use Rattle.hybrid_store.proofs.PartLines.{list_below}
use Rattle.hybrid_store.proofs.part_lines.add_next.Goals as goal

pub number_before-first-requires-clause-before : goal.number_before-first-requires-clause-before
number_before-first-requires-clause-before c =
    let e = c.requires.can.earlier c.args.index c.requires.index.0 c.requires.index.1 0 0 (omega arith) in
    subst (λ (at : VersionPlace). number_in c.args.order.now at < c.args.index) (sym c.proper_of.ensures) e

pub number_before_if-other-requires-clause-before : goal.number_before_if-other-requires-clause-before
number_before_if-other-requires-clause-before c =
    let at : VersionPlace = get_or c.args.order.now c.args.index root in
    let there = c.requires.can.there c.args.index c.requires.index.0 c.requires.index.1 in
    let second : c.second-second.result ≡ second_in c.args.lanes.now at =
    c.second-second.ensures ∙ ap (λ (k : KeptLane). get_or k.seconds at.position None) (c.index-lanes-at.is ∙ get_or_default c.args.lanes.now at.branch c.index-lanes-at.result no_kept there.0) in
    subst (λ (o : Option VersionPlace). All (λ p. p < c.args.index) (numbers_if c.args.order.now (proper_if_in c.args.lanes.now o))) (sym second)
    (λ k d h. c.requires.can.earlier c.args.index c.requires.index.0 c.requires.index.1 (suc k) d (omega (arith, h)))

pub add_version-requires-clause-first : goal.add_version-requires-clause-first
add_version-requires-clause-first c =
    let e = c.requires.can.earlier c.args.index c.requires.index.0 c.requires.index.1 0 0 (omega arith) in
    let first = c.number_before-first.ensures ∙ ap (number_in c.args.order.now) c.proper_of.ensures in
    omega (arith, first, e, c.requires.count)

pub add_version-requires-clause-second : goal.add_version-requires-clause-second
add_version-requires-clause-second c =
    let at : VersionPlace = get_or c.args.order.now c.args.index root in
    let there = c.requires.can.there c.args.index c.requires.index.0 c.requires.index.1 in
    let second : c.second-second.result ≡ second_in c.args.lanes.now at =
    c.second-second.ensures ∙ ap (λ (k : KeptLane). get_or k.seconds at.position None) (c.index-lanes-at.is ∙ get_or_default c.args.lanes.now at.branch c.index-lanes-at.result no_kept there.0) in
    list_below c.number_before_if-other.result (numbers_if c.args.order.now (proper_if_in c.args.lanes.now (second_in c.args.lanes.now at))) (length c.args.graph.now.versions)
    (c.number_before_if-other.ensures ∙ ap (λ (o : Option VersionPlace). numbers_if c.args.order.now (proper_if_in c.args.lanes.now o)) second)
    (λ k d h. let e = c.requires.can.earlier c.args.index c.requires.index.0 c.requires.index.1 (suc k) d (omega (arith, h)) in omega (arith, e, c.requires.count))

pub returns-clause-versions : goal.returns-clause-versions
returns-clause-versions c =
    let at : VersionPlace = get_or c.args.order.now c.args.index root in
    let there = c.requires.can.there c.args.index c.requires.index.0 c.requires.index.1 in
    let second : c.second-second.result ≡ second_in c.args.lanes.now at =
    c.second-second.ensures ∙ ap (λ (k : KeptLane). get_or k.seconds at.position None) (c.index-lanes-at.is ∙ get_or_default c.args.lanes.now at.branch c.index-lanes-at.result no_kept there.0) in
    let other = c.number_before_if-other.ensures ∙ ap (λ (o : Option VersionPlace). numbers_if c.args.order.now (proper_if_in c.args.lanes.now o)) second in
    let first : c.number_before-first.result ≡ number_in c.args.order.now (proper_in c.args.lanes.now (before at)) = c.number_before-first.ensures ∙ ap (number_in c.args.order.now) c.proper_of.ensures in
    c.add_version.ensures.versions ∙ (λ j. c.args.graph.now.versions ++ (first j ∷ other j) ∷ [])
