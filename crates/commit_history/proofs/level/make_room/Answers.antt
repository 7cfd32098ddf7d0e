use Rattle.std.proofs.Common.{◌≡◌, ◌≤◌, ◌+◌, ◌*◌, length, ap, ◌∙◌, sym, arith}
use Rattle.commit_history.specs.Runs.{room_of}
use Rattle.commit_history.proofs.Rooms.{room_enough, room_full}
use Rattle.commit_history.proofs.level.make_room.Goals as goal

pub move_all-requires : goal.move_all-requires
move_all-requires c =
    let n = length c.args.items.now.items in
    let enough = room_enough n in
    let full : n ≡ room_of n = omega (arith, enough, c.if-len-room.false, c.len.ensures, c.args.items.now.ok.0, c.requires.room) in
    let next = room_full n full in
    let room = c.requires.bigger.2 full in
    let none = ap length c.requires.bigger.1 in
    omega (arith, next, room, none)

pub returns-clause-room : goal.returns-clause-room
returns-clause-room c =
    let n = length c.args.items.now.items in
    let enough = room_enough n in
    let full : n ≡ room_of n = omega (arith, enough, c.if-len-room.false, c.len.ensures, c.args.items.now.ok.0, c.requires.room) in
    let next = room_full n full in
    omega (arith, next, full, c.requires.room)

pub returns-clause-there : goal.returns-clause-there
returns-clause-there c =
    let n = length c.args.items.now.items in
    let enough = room_enough n in
    let full : n ≡ room_of n = omega (arith, enough, c.if-len-room.false, c.len.ensures, c.args.items.now.ok.0, c.requires.room) in
    let next = room_full n full in
    let room = c.requires.bigger.2 full in
    omega (arith, next, full, room, c.requires.room, c.move_all.ensures.capacity)
