use Rattle.std.proofs.Common.{◌≡◌, ◌∙◌, ap, arith, length, get_or}
use Rattle.std.proofs.lemmas.List.{get_or_default}
use Rattle.bit_rows.specs.Kept.{KeptLane, no_kept}
use Rattle.hybrid_store.proofs.StoredLemmas.{kept_count, kept_name, kept_base, kept_versions}
use Rattle.hybrid_store.proofs.store.HybridStore.lane.Goals as goal

pub returns-clause-name : goal.returns-clause-name
returns-clause-name c =
    let s = c.args.self.now in
    let is : c.index.result.now ≡ get_or s.lanes.items c.args.branch no_kept = c.index.ensures ∙ get_or_default s.lanes.items c.args.branch c.index.result.now no_kept c.requires in
    ap (λ (k : KeptLane). k.name) is ∙ kept_name s.schema s.lanes.items s.order.items s.segments.items c.args.branch c.requires

pub returns-clause-base : goal.returns-clause-base
returns-clause-base c =
    let s = c.args.self.now in
    let is : c.index.result.now ≡ get_or s.lanes.items c.args.branch no_kept = c.index.ensures ∙ get_or_default s.lanes.items c.args.branch c.index.result.now no_kept c.requires in
    ap (λ (k : KeptLane). k.base) is ∙ kept_base s.schema s.lanes.items s.order.items s.segments.items c.args.branch c.requires

pub returns-clause-count : goal.returns-clause-count
returns-clause-count c =
    let s = c.args.self.now in
    let is : c.index.result.now ≡ get_or s.lanes.items c.args.branch no_kept = c.index.ensures ∙ get_or_default s.lanes.items c.args.branch c.index.result.now no_kept c.requires in
    ap (λ (k : KeptLane). length k.seconds) is ∙ kept_versions s.schema s.lanes.items s.order.items s.segments.items c.args.branch c.requires

pub returns-clause-versions : goal.returns-clause-versions
returns-clause-versions c =
    let s = c.args.self.now in
    let n = kept_count s.schema s.lanes.items s.order.items s.segments.items in
    let e = returns-clause-count c in
    let some = s.sound.rooted c.args.branch (omega (arith, n, c.requires)) in
    let few = s.sound.few_versions c.args.branch (omega (arith, n, c.requires)) in
    record { some = omega (arith, e, some); few = omega (arith, e, few) }
