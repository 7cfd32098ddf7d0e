use Rattle.std.proofs.Common.{◌∙◌, sym, ap}
use Rattle.std.proofs.lemmas.Bool.{false≢true}
use Rattle.history_note.specs.Shown.{is_carrying}
use Rattle.db_hub.specs.Rooms.{AtRoom}
use Rattle.db_hub.proofs.Batches.{fits_with}
use Rattle.db_hub.proofs.whole.Whole.second_visit.Goals as goal

pub settle_for-requires : goal.settle_for-requires
settle_for-requires g c = ap (λ (r : AtRoom _). is_carrying r.pen) (sym c.self.view_is) ∙ sym c.carries.ensures ∙ c.if-carries.false

pub fetch-requires-clause-free : goal.fetch-requires-clause-free
fetch-requires-clause-free g c = ap (λ (r : AtRoom _). is_carrying r.pen) c.self-2.view_is ∙ c.settle_for.ensures.free

pub fetch-requires-clause-out : goal.fetch-requires-clause-out
fetch-requires-clause-out g c = λ stays. absurd (false≢true (sym stays ∙ c.self-2.invariant.1))

pub invariant_of-self : goal.invariant_of-self
invariant_of-self g c =
    let inside = c.self-2.inside in
    (fits_with g.St.Store.Prepares inside.room.inner c.fetch.new.self c.fetch.new.self.pen inside.batch.queue inside.batch.numbers.items inside.batch.waiting.members.items c.self-2.invariant.0 c.fetch.ensures.room, c.self-2.invariant.1)
