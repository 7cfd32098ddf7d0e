use Rattle.std.proofs.Common.{◌<◌, ◌≤◌, length, take, arith, sym}
use Rattle.std.proofs.lemmas.List.{take_more_set, take_all}
use Rattle.std.proofs.lemmas.List.Elements.{All-push, All-same}
use Rattle.lock_table.specs.Kept.{LockGrants}
use Rattle.lock_table.proofs.Rooms.{zip_same, zip_set}
use Rattle.lock_table.proofs.blocks.reserve_all.Goals as goal

pub loop-lock-init : goal.loop-lock-init
loop-lock-init c = (zip_same c.args.locks.now, λ k d lt. absurd (omega arith))

pub returns-in_err-reserve-clause-grows : goal.returns-in_err-reserve-clause-grows
returns-in_err-reserve-clause-grows c =
    zip_set c.args.locks.now c.loop-lock.lock-items c.loop-lock.lock-index c.lock-item.result c.reserve.new.self c.loop-lock.invariant.0 (c.reserve.ensures.grants, c.reserve.ensures.kept)

pub loop-lock-preserved : goal.loop-lock-preserved
loop-lock-preserved c =
    let wide : LockGrants → Type 0 = λ k. c.args.room ≤ k.room in
    let within : c.loop-lock.lock-index < length c.loop-lock.lock-items = omega (arith, c.loop-lock-test.true, c.loop-lock.auto.lock-items) in (
      zip_set c.args.locks.now c.loop-lock.lock-items c.loop-lock.lock-index c.lock-item.result c.reserve.new.self c.loop-lock.invariant.0 (c.reserve.ensures.grants, c.reserve.ensures.kept),
      All-same wide _ _ (take_more_set c.loop-lock.lock-items c.loop-lock.lock-index c.reserve.new.self within) (All-push wide (take c.loop-lock.lock-index c.loop-lock.lock-items) c.reserve.new.self c.loop-lock.invariant.1 c.in_ok-reserve.ensures.room),
    )

pub returns-clause-room : goal.returns-clause-room
returns-clause-room c =
    All-same (λ (k : LockGrants). c.args.room ≤ k.room) _ _ (sym (take_all c.loop-lock.lock-index c.loop-lock.lock-items (omega (arith, c.loop-lock-test.false, c.loop-lock.auto.lock-items)))) c.loop-lock.invariant.1
