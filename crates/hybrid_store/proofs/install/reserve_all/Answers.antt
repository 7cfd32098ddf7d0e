use Rattle.std.proofs.Common.{◌<◌, length, take, arith, sym}
use Rattle.std.proofs.lemmas.List.{take_more_set, take_all}
use Rattle.std.proofs.lemmas.List.Elements.{All-push, All-same}
use Rattle.hybrid_store.specs.Stored.{HasRoom}
use Rattle.hybrid_store.proofs.WidenLemmas.{zip_same, zip_set}
use Rattle.hybrid_store.proofs.install.reserve_all.Goals as goal

pub loop-lane-init : goal.loop-lane-init
loop-lane-init c = (zip_same c.args.lanes.now, λ k d lt. absurd (omega arith))

pub returns-in_err-reserve-clause-widened : goal.returns-in_err-reserve-clause-widened
returns-in_err-reserve-clause-widened c =
    zip_set c.args.lanes.now c.loop-lane.lane-items c.loop-lane.lane-index c.lane-item.result c.reserve.new.self c.loop-lane.invariant.0 (c.reserve.ensures.lane, c.reserve.ensures.kept)

pub loop-lane-preserved : goal.loop-lane-preserved
loop-lane-preserved c =
    let within : c.loop-lane.lane-index < length c.loop-lane.lane-items = omega (arith, c.loop-lane-test.true, c.loop-lane.auto.lane-items) in (
      zip_set c.args.lanes.now c.loop-lane.lane-items c.loop-lane.lane-index c.lane-item.result c.reserve.new.self c.loop-lane.invariant.0 (c.reserve.ensures.lane, c.reserve.ensures.kept),
      All-same (HasRoom c.args.more) _ _ (take_more_set c.loop-lane.lane-items c.loop-lane.lane-index c.reserve.new.self within) (All-push (HasRoom c.args.more) (take c.loop-lane.lane-index c.loop-lane.lane-items) c.reserve.new.self c.loop-lane.invariant.1 c.in_ok-reserve.ensures.room),
    )

pub returns-clause-room : goal.returns-clause-room
returns-clause-room c =
    All-same (HasRoom c.args.more) _ _ (sym (take_all c.loop-lane.lane-index c.loop-lane.lane-items (omega (arith, c.loop-lane-test.false, c.loop-lane.auto.lane-items)))) c.loop-lane.invariant.1
