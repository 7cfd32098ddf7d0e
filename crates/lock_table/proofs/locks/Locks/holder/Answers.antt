use Rattle.std.proofs.Common.{◌≡◌, ℕ, ◌+◌, Option, ◌<◌, ◌∷◌, [], ◌++◌, List, Some, false, map, length, take, get_or, ap, ◌∙◌, sym, subst, arith}
use Rattle.std.proofs.lemmas.List.{take_more, take_all}
use Rattle.lock_table.specs.declared.need.Need.{Need}
use Rattle.lock_table.specs.Rows.{Table, lesser, holder}
use Rattle.lock_table.specs.Kept.{LockGrants, row_of, rows_from}
use Rattle.lock_table.proofs.Kept.{holder_part}
use Rattle.lock_table.proofs.Least.{IsLeast, Blocking, least_none, least_more, least_same, same_least, holder_least}
use Rattle.lock_table.proofs.locks.Locks.holder.Goals as goal

pub loop-need-init : goal.loop-need-init
loop-need-init c = least_none c.args.session (rows_from 0 c.as_slice-locks.result.now)

pub loop-need-preserved : goal.loop-need-preserved
loop-need-preserved c =
    let none : Need = record { lock = 0; exclusive = false } in
    let needs = c.args.needs.now in
    let i = c.loop-need.need-index in
    let n = get_or needs i none in
    let locks = c.as_slice-locks.result.now in
    let rows = rows_from 0 locks in
    let s = c.args.session in
    let within : n.lock < length locks = let count : length locks ≡ 1025 = ap length c.as_slice-locks.ensures ∙ c.self.invariant.count in let h = c.requires i none c.loop-need-test.true in omega (arith, count, h) in
    let here : c.holder.result ≡ holder s (n ∷ []) rows = c.holder.ensures ∙ ap (λ (k : LockGrants). holder s (n ∷ []) (map (row_of n.lock) k.grants)) c.index-locks-need.is ∙ holder_part s n locks c.index-locks-need.result within in
    let more : (u : Option (ℕ × ℕ)) → IsLeast (Blocking s (take i needs ++ n ∷ []) rows) u → IsLeast (Blocking s (take (i + 1) needs) rows) u =
    λ u h. subst (λ (ns : List Need). IsLeast (Blocking s ns rows) u) (sym (take_more needs i none c.loop-need-test.true)) h in
    elim c.match-holder.branch [
      | goal.in-Some w ↦
          let is : c.match-holder.least ≡ Some (lesser w.in-Some.found c.loop-need.least) = w.least-is ∙ ap (λ (p : ℕ × ℕ). Some p) w.lesser.ensures in
          more c.match-holder.least (subst (λ (u : Option (ℕ × ℕ)). IsLeast (Blocking s (take i needs ++ n ∷ []) rows) u) (sym is) (least_more s (take i needs) n rows w.in-Some.found c.loop-need.least (sym here ∙ w.in-Some.is) c.loop-need.invariant))
      | goal.in_default w ↦
          more c.match-holder.least (subst (λ (u : Option (ℕ × ℕ)). IsLeast (Blocking s (take i needs ++ n ∷ []) rows) u) (sym w.least-is) (least_same s (take i needs) n rows c.loop-need.least (sym here ∙ w.in_default.is) c.loop-need.invariant))
    ]

pub returns : goal.returns
returns c =
    let rows = rows_from 0 c.as_slice-locks.result.now in
    let whole : IsLeast (Blocking c.args.session c.args.needs.now rows) c.loop-need.least =
    subst (λ (ns : List Need). IsLeast (Blocking c.args.session ns rows) c.loop-need.least) (take_all c.loop-need.need-index c.args.needs.now c.loop-need-test.false) c.loop-need.invariant in
    same_least (Blocking c.args.session c.args.needs.now rows) (Blocking c.args.session c.args.needs.now rows) (λ q k. k) (λ q k. k) c.loop-need.least (holder c.args.session c.args.needs.now rows) whole (holder_least c.args.session c.args.needs.now rows)
    ∙ ap (λ (ks : List LockGrants). holder c.args.session c.args.needs.now (rows_from 0 ks)) c.as_slice-locks.ensures
    ∙ ap (λ (t : Table). holder c.args.session c.args.needs.now t.rows) c.self.view_is
