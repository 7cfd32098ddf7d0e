use Rattle.std.proofs.Common.{◌≡◌, ◌∙◌, ℕ, List, [], Bool, None, length, drop, refl, sym, ap, subst, arith}
use Rattle.std.specs.Prelude.{is_some, is_err}
use Rattle.db_value.specs.declared.step.Step.{Step}
use Rattle.history_note.specs.Shown.{AtPen, carried_line}
use Rattle.db_core.specs.Kept.{Kept}
use Rattle.db_core.specs.Members.{AtMember, member_steps}
use Rattle.db_core.specs.Waiting.{members_of}
use Rattle.db_hub.specs.Rooms.{AtRoom, AllOutIf}
use Rattle.db_hub.specs.Left.{BatchFits, MayWriteAll, written_for}
use Rattle.db_hub.proofs.Counted.{length_steps}
use Rattle.db_hub.proofs.Storing.{since_settled}
use Rattle.db_hub.proofs.Batches.{no_waiting, none_kept_lines, fits_none, empty_is, some_is, as_many, new_steps, steps_long, may, kept_none, carried_same, noted_same, room_settled, desks_settled, taken_settled}
use Rattle.db_hub.proofs.room.Room.settle.Goals as goal

pub settle-requires-clause-offered : goal.settle-requires-clause-offered
settle-requires-clause-offered g c =
    let inside = c.self.inside in
    let i = c.self.invariant in
    let o = g.T.Opened.opened in
    let since = g.T.Tag.since in
    let out : List (ℕ × ℕ) = inside.out.items in
    let b : Kept = inside.board.kept in
    let pen0 : AtPen = inside.pen in
    let ns : List ℕ = c.args.batch.now.numbers.items in
    let ks = c.args.batch.now.waiting.members.items in
    let ms : List AtMember = members_of ks in
    let q = c.args.batch.now.queue in
    let room0 : AtRoom _ = record { board = inside.board; pen = pen0; out = out; desks = inside.desks.items; issued = inside.issued } in
    let f : BatchFits g.St.Store.Prepares room0 q ns ks = subst (λ (x : AtRoom _). BatchFits g.St.Store.Prepares x q ns ks) (sym c.self.view_is) c.requires.fits in
    let free : carried_line pen0 ≡ None = ap (λ (x : AtRoom _). carried_line x.pen) c.self.view_is ∙ c.requires.free in
    f.offered

pub write_members-requires-clause-may : goal.write_members-requires-clause-may
write_members-requires-clause-may g c =
    let inside = c.self.inside in
    let i = c.self.invariant in
    let o = g.T.Opened.opened in
    let since = g.T.Tag.since in
    let out : List (ℕ × ℕ) = inside.out.items in
    let b : Kept = inside.board.kept in
    let pen0 : AtPen = inside.pen in
    let ns : List ℕ = c.args.batch.now.numbers.items in
    let ks = c.args.batch.now.waiting.members.items in
    let ms : List AtMember = members_of ks in
    let q = c.args.batch.now.queue in
    let room0 : AtRoom _ = record { board = inside.board; pen = pen0; out = out; desks = inside.desks.items; issued = inside.issued } in
    let f : BatchFits g.St.Store.Prepares room0 q ns ks = subst (λ (x : AtRoom _). BatchFits g.St.Store.Prepares x q ns ks) (sym c.self.view_is) c.requires.fits in
    let free : carried_line pen0 ≡ None = ap (λ (x : AtRoom _). carried_line x.pen) c.self.view_is ∙ c.requires.free in
    let failed : Bool = is_err c.settle.result in
    let s = c.settle.ensures in
    let b1 : Kept = c.settle.new.self.kept in
    let from : ℕ = length c.steps-from.result.now in
    let from_is : from ≡ length b.steps = ap length c.steps-from.ensures in
    let steps : drop from c.steps.result.now ≡ member_steps failed ms = ap (drop from) c.steps.ensures ∙ new_steps failed b b1 ms s.settled.kept from from_is in
    subst (λ (x : List ℕ × List Step). MayWriteAll x.0 x.1 pen0) (λ j. (sym c.as_slice.ensures.value j, sym steps j)) (may g.T.Tag.note g.T.Tag.numbers o since inside.note pen0 b out inside.issued i.0 ns ms f.kept_are f.numbers_are free failed f.offered.each f.offered.apart)

pub write_members-requires-clause-within : goal.write_members-requires-clause-within
write_members-requires-clause-within g c =
    let inside = c.self.inside in
    let i = c.self.invariant in
    let o = g.T.Opened.opened in
    let since = g.T.Tag.since in
    let out : List (ℕ × ℕ) = inside.out.items in
    let b : Kept = inside.board.kept in
    let pen0 : AtPen = inside.pen in
    let ns : List ℕ = c.args.batch.now.numbers.items in
    let ks = c.args.batch.now.waiting.members.items in
    let ms : List AtMember = members_of ks in
    let q = c.args.batch.now.queue in
    let room0 : AtRoom _ = record { board = inside.board; pen = pen0; out = out; desks = inside.desks.items; issued = inside.issued } in
    let f : BatchFits g.St.Store.Prepares room0 q ns ks = subst (λ (x : AtRoom _). BatchFits g.St.Store.Prepares x q ns ks) (sym c.self.view_is) c.requires.fits in
    let free : carried_line pen0 ≡ None = ap (λ (x : AtRoom _). carried_line x.pen) c.self.view_is ∙ c.requires.free in
    let failed : Bool = is_err c.settle.result in
    let s = c.settle.ensures in
    let b1 : Kept = c.settle.new.self.kept in
    let from : ℕ = length c.steps-from.result.now in
    let from_is : from ≡ length b.steps = ap length c.steps-from.ensures in
    let steps : drop from c.steps.result.now ≡ member_steps failed ms = ap (drop from) c.steps.ensures ∙ new_steps failed b b1 ms s.settled.kept from from_is in
    let long = steps_long failed b b1 ms s.settled.kept in
    let many = as_many failed out i.0.out_fits.once ns ms f.numbers_are in
    let all = ap length c.steps.ensures in
    let numbers = ap length c.as_slice.ensures.value in
    omega (arith, long, many, from_is, all, numbers)

pub write_members-requires-clause-lines : goal.write_members-requires-clause-lines
write_members-requires-clause-lines g c =
    let inside = c.self.inside in
    let i = c.self.invariant in
    let o = g.T.Opened.opened in
    let since = g.T.Tag.since in
    let out : List (ℕ × ℕ) = inside.out.items in
    let b : Kept = inside.board.kept in
    let pen0 : AtPen = inside.pen in
    let ns : List ℕ = c.args.batch.now.numbers.items in
    let ks = c.args.batch.now.waiting.members.items in
    let ms : List AtMember = members_of ks in
    let q = c.args.batch.now.queue in
    let room0 : AtRoom _ = record { board = inside.board; pen = pen0; out = out; desks = inside.desks.items; issued = inside.issued } in
    let f : BatchFits g.St.Store.Prepares room0 q ns ks = subst (λ (x : AtRoom _). BatchFits g.St.Store.Prepares x q ns ks) (sym c.self.view_is) c.requires.fits in
    let free : carried_line pen0 ≡ None = ap (λ (x : AtRoom _). carried_line x.pen) c.self.view_is ∙ c.requires.free in
    sym (length_steps pen0.lines) ∙ sym (ap length i.0.steps_are) ∙ sym (ap length c.steps-from.ensures)

pub invariant_of-self : goal.invariant_of-self
invariant_of-self g c =
    let inside = c.self.inside in
    let i = c.self.invariant in
    let o = g.T.Opened.opened in
    let since = g.T.Tag.since in
    let out : List (ℕ × ℕ) = inside.out.items in
    let b : Kept = inside.board.kept in
    let pen0 : AtPen = inside.pen in
    let ns : List ℕ = c.args.batch.now.numbers.items in
    let ks = c.args.batch.now.waiting.members.items in
    let ms : List AtMember = members_of ks in
    let q = c.args.batch.now.queue in
    let room0 : AtRoom _ = record { board = inside.board; pen = pen0; out = out; desks = inside.desks.items; issued = inside.issued } in
    let f : BatchFits g.St.Store.Prepares room0 q ns ks = subst (λ (x : AtRoom _). BatchFits g.St.Store.Prepares x q ns ks) (sym c.self.view_is) c.requires.fits in
    let free : carried_line pen0 ≡ None = ap (λ (x : AtRoom _). carried_line x.pen) c.self.view_is ∙ c.requires.free in
    let failed : Bool = is_err c.settle.result in
    let s = c.settle.ensures in
    let b1 : Kept = c.settle.new.self.kept in
    let from : ℕ = length c.steps-from.result.now in
    let from_is : from ≡ length b.steps = ap length c.steps-from.ensures in
    let steps : drop from c.steps.result.now ≡ member_steps failed ms = ap (drop from) c.steps.ensures ∙ new_steps failed b b1 ms s.settled.kept from from_is in
    let pen1 : AtPen = c.write_members.new.pen in
    let is : pen1 ≡ written_for ns (member_steps failed ms) pen0 = c.write_members.ensures ∙ (λ j. written_for (c.as_slice.ensures.value j) (steps j) pen0) in
    let some : ms ≡ [] → ⊥ = λ e. some_is c.args.batch.now.waiting.members.len ks c.args.batch.now.waiting.members.ok.0 (sym c.is_empty.ensures ∙ c.if-is_empty.false) (no_waiting ks e) in
    let noted = noted_same g.T.Tag.note g.T.Tag.numbers o since inside.note pen0 b out inside.issued i.0 ns ms f.kept_are f.numbers_are free failed f.offered.each f.offered.apart pen1 is in (
      room_settled g.T.Tag.note g.T.Tag.numbers o since inside.note pen0 b out inside.issued i.0 ns ms f.kept_are f.numbers_are free failed f.offered.each f.offered.apart pen1 is b1 s.settled.kept s.stands,
      ap (λ (k : Kept). k.first_count) s.settled.kept ∙ i.1,
      since_settled g.J.Log g.T.LogTag.log inside.board c.settle.new.self failed ms some i.0.stands f.offered.each f.offered.apart s.settled i.2,
      desks_settled failed b i.0.stands ms f.offered.each f.offered.apart pen0.noted out inside.desks.items ns f.numbers_are i.3 b1 s.settled.kept pen1.noted noted,
      subst (λ (l : List (ℕ × ℕ)). AllOutIf g.T.Tag.stays l out) (sym noted) i.4,
    )

pub returns-clause-fits : goal.returns-clause-fits
returns-clause-fits g c =
    let inside = c.self.inside in
    let i = c.self.invariant in
    let o = g.T.Opened.opened in
    let since = g.T.Tag.since in
    let out : List (ℕ × ℕ) = inside.out.items in
    let b : Kept = inside.board.kept in
    let pen0 : AtPen = inside.pen in
    let ns : List ℕ = c.args.batch.now.numbers.items in
    let ks = c.args.batch.now.waiting.members.items in
    let ms : List AtMember = members_of ks in
    let q = c.args.batch.now.queue in
    let room0 : AtRoom _ = record { board = inside.board; pen = pen0; out = out; desks = inside.desks.items; issued = inside.issued } in
    let f : BatchFits g.St.Store.Prepares room0 q ns ks = subst (λ (x : AtRoom _). BatchFits g.St.Store.Prepares x q ns ks) (sym c.self.view_is) c.requires.fits in
    let free : carried_line pen0 ≡ None = ap (λ (x : AtRoom _). carried_line x.pen) c.self.view_is ∙ c.requires.free in
    let failed : Bool = is_err c.settle.result in
    let s = c.settle.ensures in
    let b1 : Kept = c.settle.new.self.kept in
    let from : ℕ = length c.steps-from.result.now in
    let from_is : from ≡ length b.steps = ap length c.steps-from.ensures in
    let steps : drop from c.steps.result.now ≡ member_steps failed ms = ap (drop from) c.steps.ensures ∙ new_steps failed b b1 ms s.settled.kept from from_is in
    let pen1 : AtPen = c.write_members.new.pen in
    let is : pen1 ≡ written_for ns (member_steps failed ms) pen0 = c.write_members.ensures ∙ (λ j. written_for (c.as_slice.ensures.value j) (steps j) pen0) in
    fits_none g.St.Store.Prepares (record { board = c.settle.new.self; pen = pen1; out = out; desks = inside.desks.items; issued = inside.issued }) c.settle.new.queue c.clear.new.self.items c.settle.new.waiting.members.items s.offered s.none c.clear.ensures.items (kept_none g.T.Tag.note g.T.Tag.numbers o since inside.note pen0 b out inside.issued i.0 ns ms f.kept_are f.numbers_are free failed f.offered.each f.offered.apart pen1 is)

pub returns-clause-none : goal.returns-clause-none
returns-clause-none g c =
    let inside = c.self.inside in
    let i = c.self.invariant in
    let o = g.T.Opened.opened in
    let since = g.T.Tag.since in
    let out : List (ℕ × ℕ) = inside.out.items in
    let b : Kept = inside.board.kept in
    let pen0 : AtPen = inside.pen in
    let ns : List ℕ = c.args.batch.now.numbers.items in
    let ks = c.args.batch.now.waiting.members.items in
    let ms : List AtMember = members_of ks in
    let q = c.args.batch.now.queue in
    let room0 : AtRoom _ = record { board = inside.board; pen = pen0; out = out; desks = inside.desks.items; issued = inside.issued } in
    let f : BatchFits g.St.Store.Prepares room0 q ns ks = subst (λ (x : AtRoom _). BatchFits g.St.Store.Prepares x q ns ks) (sym c.self.view_is) c.requires.fits in
    let free : carried_line pen0 ≡ None = ap (λ (x : AtRoom _). carried_line x.pen) c.self.view_is ∙ c.requires.free in
    let failed : Bool = is_err c.settle.result in
    let s = c.settle.ensures in
    let b1 : Kept = c.settle.new.self.kept in
    let from : ℕ = length c.steps-from.result.now in
    let from_is : from ≡ length b.steps = ap length c.steps-from.ensures in
    let steps : drop from c.steps.result.now ≡ member_steps failed ms = ap (drop from) c.steps.ensures ∙ new_steps failed b b1 ms s.settled.kept from from_is in
    let pen1 : AtPen = c.write_members.new.pen in
    let is : pen1 ≡ written_for ns (member_steps failed ms) pen0 = c.write_members.ensures ∙ (λ j. written_for (c.as_slice.ensures.value j) (steps j) pen0) in
    (s.none, kept_none g.T.Tag.note g.T.Tag.numbers o since inside.note pen0 b out inside.issued i.0 ns ms f.kept_are f.numbers_are free failed f.offered.each f.offered.apart pen1 is)

pub returns-clause-carries : goal.returns-clause-carries
returns-clause-carries g c =
    let inside = c.self.inside in
    let i = c.self.invariant in
    let o = g.T.Opened.opened in
    let since = g.T.Tag.since in
    let out : List (ℕ × ℕ) = inside.out.items in
    let b : Kept = inside.board.kept in
    let pen0 : AtPen = inside.pen in
    let ns : List ℕ = c.args.batch.now.numbers.items in
    let ks = c.args.batch.now.waiting.members.items in
    let ms : List AtMember = members_of ks in
    let q = c.args.batch.now.queue in
    let room0 : AtRoom _ = record { board = inside.board; pen = pen0; out = out; desks = inside.desks.items; issued = inside.issued } in
    let f : BatchFits g.St.Store.Prepares room0 q ns ks = subst (λ (x : AtRoom _). BatchFits g.St.Store.Prepares x q ns ks) (sym c.self.view_is) c.requires.fits in
    let free : carried_line pen0 ≡ None = ap (λ (x : AtRoom _). carried_line x.pen) c.self.view_is ∙ c.requires.free in
    let failed : Bool = is_err c.settle.result in
    let s = c.settle.ensures in
    let b1 : Kept = c.settle.new.self.kept in
    let from : ℕ = length c.steps-from.result.now in
    let from_is : from ≡ length b.steps = ap length c.steps-from.ensures in
    let steps : drop from c.steps.result.now ≡ member_steps failed ms = ap (drop from) c.steps.ensures ∙ new_steps failed b b1 ms s.settled.kept from from_is in
    let pen1 : AtPen = c.write_members.new.pen in
    let is : pen1 ≡ written_for ns (member_steps failed ms) pen0 = c.write_members.ensures ∙ (λ j. written_for (c.as_slice.ensures.value j) (steps j) pen0) in
    ap is_some (carried_same g.T.Tag.note g.T.Tag.numbers o since inside.note pen0 b out inside.issued i.0 ns ms f.kept_are f.numbers_are free failed f.offered.each f.offered.apart pen1 is) ∙ ap (λ (x : AtRoom _). is_some x.pen.carried) c.self.view_is

pub returns-clause-taken : goal.returns-clause-taken
returns-clause-taken g c =
    let inside = c.self.inside in
    let i = c.self.invariant in
    let o = g.T.Opened.opened in
    let since = g.T.Tag.since in
    let out : List (ℕ × ℕ) = inside.out.items in
    let b : Kept = inside.board.kept in
    let pen0 : AtPen = inside.pen in
    let ns : List ℕ = c.args.batch.now.numbers.items in
    let ks = c.args.batch.now.waiting.members.items in
    let ms : List AtMember = members_of ks in
    let q = c.args.batch.now.queue in
    let room0 : AtRoom _ = record { board = inside.board; pen = pen0; out = out; desks = inside.desks.items; issued = inside.issued } in
    let f : BatchFits g.St.Store.Prepares room0 q ns ks = subst (λ (x : AtRoom _). BatchFits g.St.Store.Prepares x q ns ks) (sym c.self.view_is) c.requires.fits in
    let free : carried_line pen0 ≡ None = ap (λ (x : AtRoom _). carried_line x.pen) c.self.view_is ∙ c.requires.free in
    let failed : Bool = is_err c.settle.result in
    let s = c.settle.ensures in
    let b1 : Kept = c.settle.new.self.kept in
    let from : ℕ = length c.steps-from.result.now in
    let from_is : from ≡ length b.steps = ap length c.steps-from.ensures in
    let steps : drop from c.steps.result.now ≡ member_steps failed ms = ap (drop from) c.steps.ensures ∙ new_steps failed b b1 ms s.settled.kept from from_is in
    let pen1 : AtPen = c.write_members.new.pen in
    let is : pen1 ≡ written_for ns (member_steps failed ms) pen0 = c.write_members.ensures ∙ (λ j. written_for (c.as_slice.ensures.value j) (steps j) pen0) in
    λ v t h. taken_settled g.T.Tag.note g.T.Tag.numbers o since inside.note pen0 b out inside.issued i.0 ns ms f.kept_are f.numbers_are free failed f.offered.each f.offered.apart pen1 is b1 s.settled.kept s.stands c.args.self.now (record { board = c.settle.new.self; pen = pen1; out = out; desks = inside.desks.items; issued = inside.issued })
    (ap (λ (x : AtRoom _). x.board.kept) (sym c.self.view_is)) (ap (λ (x : AtRoom _). x.pen) (sym c.self.view_is)) (ap (λ (x : AtRoom _). x.out) (sym c.self.view_is)) refl refl refl v t h

pub returns-then-is_empty-clause-none : goal.returns-then-is_empty-clause-none
returns-then-is_empty-clause-none g c =
    let ks = c.args.batch.now.waiting.members.items in
    let empty = empty_is c.args.batch.now.waiting.members.len ks c.args.batch.now.waiting.members.ok.0 (sym c.is_empty.ensures ∙ c.if-is_empty.true) in
    (empty, c.requires.fits.kept_are ∙ none_kept_lines c.args.batch.now.numbers.items (members_of ks) (ap members_of empty))
