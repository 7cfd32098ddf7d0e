use Rattle.std.proofs.Common.{◌≡◌, [], ◌∷◌, ap, ◌∙◌}
use Rattle.db_value.specs.declared.step.Step.{Step}
use Rattle.db_store.specs.State.{State}
use Rattle.history_note.specs.declared.view.PassView.{PassView}
use Rattle.history_note.specs.Shown.{AtNote, AtPen, AtPass, known, new_pen, noting, issued_pass, carrying, leaving, writing, handing, handed_pass}
use Rattle.thread_tests.proofs.history_note_tests.line_written_later.Goals as goal

-- the pen after each pass was issued, and both passes
abbrev noted_one : AtNote → AtPen
noted_one n = noting 3 7 (new_pen n)

abbrev first_new : AtNote → AtPass
first_new n = issued_pass 3 7 (new_pen n)

abbrev noted_both : AtNote → AtPen
noted_both n = noting 4 8 (noted_one n)

abbrev second_new : AtNote → AtPass
second_new n = issued_pass 4 8 (noted_one n)

-- the pen after the first line was written, and after the other one was left, and the first pass then
abbrev pen_own : AtNote → Step → AtPen
pen_own n t = writing 3 t (carrying (first_new n) (noted_both n))

abbrev pen_left : AtNote → Step → AtPen
pen_left n t = leaving t.line (pen_own n t)

abbrev first_own : AtNote → PassView State
first_own n = record (known (first_new n)) { mine = 0 ∷ [] }

abbrev first_left : AtNote → Step → AtPass
first_left n t = handed_pass (first_own n) (pen_left n t)

-- the pen after the line was written, and the second pass then
abbrev pen_written : AtNote → Step → AtPen
pen_written n t = writing 3 t (carrying (second_new n) (handing (pen_left n t)))

abbrev second_given : AtNote → Step → AtPass
second_given n t = handed_pass (known (second_new n)) (pen_written n t)

-- the pen after the first pass was taken in again
abbrev pen_back : AtNote → Step → AtPen
pen_back n t = carrying (first_left n t) (handing (pen_written n t))

pub take_in-requires-3-clause-pass : goal.take_in-requires-3-clause-pass
take_in-requires-3-clause-pass g c =
    let n = c.args.note.now in
    let t = c.args.step.now in
    let e1 : c.issue.new.pen ≡ noted_one n = c.in_ok-first.ensures.pen ∙ ap (noting 3 7) c.requires in
    let f0 : c.in_ok-first.first ≡ first_new n = c.in_ok-first.ensures.pass ∙ ap (issued_pass 3 7) c.requires in
    let e2 : c.issue-2.new.pen ≡ noted_both n = c.in_ok-second.ensures.pen ∙ ap (noting 4 8) e1 in
    let e3 = c.take_in.ensures.taken ∙ (λ i. carrying (f0 i) (e2 i)) in
    let e4 : c.leave.new.pen ≡ pen_left n t = c.leave.ensures.left ∙ ap (leaving t.line) (c.write.ensures.written ∙ ap (writing 3 t) e3) in
    let f1 : c.in_ok-first-2.first ≡ first_left n t = c.in_ok-first-2.ensures.pass (first_own n) (ap (λ (p : AtPen). p.carried) e4) ∙ ap (handed_pass (first_own n)) e4 in
    ap (λ (q : AtPass). q.note) f1

pub returns : goal.returns
returns g c =
    let n = c.args.note.now in
    let t = c.args.step.now in
    let e1 : c.issue.new.pen ≡ noted_one n = c.in_ok-first.ensures.pen ∙ ap (noting 3 7) c.requires in
    let f0 : c.in_ok-first.first ≡ first_new n = c.in_ok-first.ensures.pass ∙ ap (issued_pass 3 7) c.requires in
    let e2 : c.issue-2.new.pen ≡ noted_both n = c.in_ok-second.ensures.pen ∙ ap (noting 4 8) e1 in
    let s0 : c.in_ok-second.second ≡ second_new n = c.in_ok-second.ensures.pass ∙ ap (issued_pass 4 8) e1 in
    let e3 = c.take_in.ensures.taken ∙ (λ i. carrying (f0 i) (e2 i)) in
    let e4 : c.leave.new.pen ≡ pen_left n t = c.leave.ensures.left ∙ ap (leaving t.line) (c.write.ensures.written ∙ ap (writing 3 t) e3) in
    let e5 = c.in_ok-first-2.ensures.pen ∙ ap handing e4 in
    let f1 : c.in_ok-first-2.first ≡ first_left n t = c.in_ok-first-2.ensures.pass (first_own n) (ap (λ (p : AtPen). p.carried) e4) ∙ ap (handed_pass (first_own n)) e4 in
    let e6 = c.take_in-2.ensures.taken ∙ (λ i. carrying (s0 i) (e5 i)) in
    let e7 : c.write-2.new.pen ≡ pen_written n t = c.write-2.ensures.written ∙ ap (writing 3 t) e6 in
    let e8 = c.in_ok-second-2.ensures.pen ∙ ap handing e7 in
    let s1 : c.in_ok-second-2.second ≡ second_given n t = c.in_ok-second-2.ensures.pass (known (second_new n)) (ap (λ (p : AtPen). p.carried) e7) ∙ ap (handed_pass (known (second_new n))) e7 in
    let e9 : c.take_in-3.new.pen ≡ pen_back n t = c.take_in-3.ensures.taken ∙ (λ i. carrying (f1 i) (e8 i)) in
    let f2 : c.in_ok-first-3.first ≡ handed_pass (known (first_left n t)) (pen_back n t) = c.in_ok-first-3.ensures.pass (known (first_left n t)) (ap (λ (p : AtPen). p.carried) e9) ∙ ap (handed_pass (known (first_left n t))) e9 in
    record {
      note = (ap (λ (q : AtPass). q.note) f2, ap (λ (q : AtPass). q.note) s1);
      left = (ap (λ (q : AtPass). q.left) f2, ap (λ (q : AtPass). q.left) s1);
      seen = (ap (λ (q : AtPass). q.seen) f2, ap (λ (q : AtPass). q.seen) s1);
      mine = (ap (λ (q : AtPass). q.mine) f2, ap (λ (q : AtPass). q.mine) s1);
    }
