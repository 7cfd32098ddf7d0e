use Rattle.std.proofs.Common.{◌+◌, length, ap, arith}
use Rattle.commit_history.proofs.Rooms.{room_enough}
use Rattle.commit_history.proofs.level.Level.push.Goals as goal

pub push_reserved-requires : goal.push_reserved-requires
push_reserved-requires c =
    let made = c.make_room-self-inside in
    let enough = room_enough (length c.self.inside.items.items + 1) in
    let same = ap length made.ensures.items in
    omega (arith, enough, same, made.ensures.room, made.ensures.there, made.new.items.ok.0)
