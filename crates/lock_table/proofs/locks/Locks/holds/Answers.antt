use Rattle.std.proofs.Common.{◌≡◌, ◌+◌, ◌<◌, ◌∷◌, [], ◌++◌, List, false, map, length, take, drop, get_or, ap, ◌∙◌, sym, subst, arith}
use Rattle.std.proofs.lemmas.List.{take_more, take-append-drop}
use Rattle.lock_table.specs.declared.need.Need.{Need}
use Rattle.lock_table.specs.Rows.{Row, Table, holds}
use Rattle.lock_table.specs.Kept.{LockGrants, row_of, rows_from}
use Rattle.lock_table.proofs.Holding.{holds_part, none_held, held_more, held_among}
use Rattle.lock_table.proofs.locks.Locks.holds.Goals as goal

pub loop-need-init : goal.loop-need-init
loop-need-init c = none_held c.args.session (rows_from 0 c.as_slice-locks.result.now)

pub returns-then-holds : goal.returns-then-holds
returns-then-holds c =
    let none : Need = record { lock = 0; exclusive = false } in
    let needs = c.args.needs.now in
    let i = c.loop-need.need-index in
    let n : Need = get_or needs i none in
    let locks = c.as_slice-locks.result.now in
    let rows : List Row = rows_from 0 locks in
    let s = c.args.session in
    let within : n.lock < length locks = let count : length locks ≡ 1025 = ap length c.as_slice-locks.ensures ∙ c.self.invariant.count in let h = c.requires i none c.loop-need-test.true in omega (arith, count, h) in
    let here : c.holds.result ≡ holds s (n ∷ []) rows = c.holds.ensures ∙ ap (λ (k : LockGrants). holds s (n ∷ []) (map (row_of n.lock) k.grants)) c.index-locks-need.is ∙ holds_part s n locks c.index-locks-need.result within in
    let whole : (take i needs ++ n ∷ []) ++ drop (i + 1) needs ≡ needs = ap (λ (ns : List Need). ns ++ drop (i + 1) needs) (sym (take_more needs i none c.loop-need-test.true)) ∙ take-append-drop (i + 1) needs in
    sym (held_among s (take i needs) (drop (i + 1) needs) n rows (sym here ∙ c.if-holds.true)) ∙ (λ j. holds s (whole j) rows) ∙ ap (λ (ks : List LockGrants). holds s needs (rows_from 0 ks)) c.as_slice-locks.ensures ∙ ap (λ (t : Table). holds s needs t.rows) c.self.view_is

pub loop-need-preserved : goal.loop-need-preserved
loop-need-preserved c =
    let none : Need = record { lock = 0; exclusive = false } in
    let needs = c.args.needs.now in
    let i = c.loop-need.need-index in
    let n : Need = get_or needs i none in
    let locks = c.as_slice-locks.result.now in
    let rows : List Row = rows_from 0 locks in
    let s = c.args.session in
    let within : n.lock < length locks = let count : length locks ≡ 1025 = ap length c.as_slice-locks.ensures ∙ c.self.invariant.count in let h = c.requires i none c.loop-need-test.true in omega (arith, count, h) in
    let here : c.holds.result ≡ holds s (n ∷ []) rows = c.holds.ensures ∙ ap (λ (k : LockGrants). holds s (n ∷ []) (map (row_of n.lock) k.grants)) c.index-locks-need.is ∙ holds_part s n locks c.index-locks-need.result within in
    subst (λ (ns : List Need). holds s ns rows ≡ false) (sym (take_more needs i none c.loop-need-test.true)) (held_more s (take i needs) n rows c.loop-need.invariant (sym here ∙ c.if-holds.false))
