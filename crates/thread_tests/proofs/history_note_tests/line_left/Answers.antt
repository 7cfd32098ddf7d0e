use Rattle.std.proofs.Common.{◌≡◌, ap, ◌∙◌}
use Rattle.db_value.specs.declared.step.Step.{Step}
use Rattle.history_note.specs.Shown.{AtNote, AtPen, AtPass, known, new_pen, noting, issued_pass, carrying, leaving, handed_pass}
use Rattle.thread_tests.proofs.history_note_tests.line_left.Goals as goal

-- the pen after the pass was issued, and the pass
abbrev noted_one : AtNote → AtPen
noted_one n = noting 3 7 (new_pen n)

abbrev first_new : AtNote → AtPass
first_new n = issued_pass 3 7 (new_pen n)

-- the pen after the line was left
abbrev pen_left : AtNote → Step → AtPen
pen_left n t = leaving t.line (carrying (first_new n) (noted_one n))

pub returns : goal.returns
returns g c =
    let n = c.args.note.now in
    let t = c.args.step.now in
    let e1 : c.issue.new.pen ≡ noted_one n = c.in_ok-first.ensures.pen ∙ ap (noting 3 7) c.requires in
    let f0 : c.in_ok-first.first ≡ first_new n = c.in_ok-first.ensures.pass ∙ ap (issued_pass 3 7) c.requires in
    let e2 = c.take_in.ensures.taken ∙ (λ i. carrying (f0 i) (e1 i)) in
    let e3 : c.leave.new.pen ≡ pen_left n t = c.leave.ensures.left ∙ ap (leaving t.line) e2 in
    let f1 : c.in_ok-first-2.first ≡ handed_pass (known (first_new n)) (pen_left n t) = c.in_ok-first-2.ensures.pass (known (first_new n)) (ap (λ (p : AtPen). p.carried) e3) ∙ ap (handed_pass (known (first_new n))) e3 in
    record { note = ap (λ (q : AtPass). q.note) f1; left = ap (λ (q : AtPass). q.left) f1 }
