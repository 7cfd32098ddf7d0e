use Rattle.std.proofs.Common.{◌≡◌, [], ap, ◌∙◌}
use Rattle.history_note.specs.Shown.{AtPen}
use Rattle.db_core.proofs.Batches.{offered_none}
use Rattle.db_hub.specs.Rooms.{AtRoom}
use Rattle.db_hub.proofs.Batches.{fits_none}
use Rattle.session_run.proofs.run.opened.Goals as goal

pub returns-in-Err-clause-board : goal.returns-in-Err-clause-board
returns-in-Err-clause-board g c = ap (λ r. r.board) c.room.view_is ∙ c.seated.ensures.board ∙ ap (λ r. r.board) c.new-room.ensures

pub invariant_of-whole : goal.invariant_of-whole
invariant_of-whole g c =
    let r : AtRoom _ = c.seated.new.room in
    let b = c.in-Ok.batch in
    let kept : r.pen.kept ≡ [] = c.seated.ensures.kept ∙ ap (λ (x : AtRoom _). x.pen.kept) c.new-room.ensures ∙ ap (λ (p : AtPen). p.kept) c.requires.named.1 in (
      fits_none g.St.Store.Prepares r b.queue b.numbers.items b.waiting.members.items (offered_none g.St.Store.Prepares r.board.ready r.board.kept b.queue b.waiting.members.items c.in-Ok.ensures.1 c.in-Ok.ensures.0) c.in-Ok.ensures.1 c.in-Ok.ensures.2 kept,
      c.requires.named.2.all_stay,
    )
