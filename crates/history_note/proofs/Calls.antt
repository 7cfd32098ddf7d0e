-- What each call comes to, as its caller sees it.
use Rattle.std.proofs.Common.{◌≡◌, ℕ, ◌+◌, ◌≤◌, List, [], ◌++◌, length, drop, eqb, true, false, true≢false, refl, sym, ap, ◌∙◌, subst, append-nil}
use Rattle.std.proofs.Math.Seq.{drop-append_seam}
use Rattle.std.specs.Prelude.{Option, Some, None, is_some}
use mathlib.Core.Option.{none, some}
use prog.Atomic.{either}
use Rattle.atomic_table.specs.Seated.{TableId}
use Rattle.atomic_table.specs.Table.{Me, step, Allows, Splits, Joins}
use Rattle.db_value.specs.declared.step.Step.{Step}
use Rattle.db_store.specs.State.{State}
use Rattle.history_note.specs.declared.view.NotedLine.{NotedLine}
use Rattle.history_note.specs.declared.view.PenView.{PenView}
use Rattle.history_note.specs.declared.view.PassView.{PassView}
use Rattle.history_note.specs.declared.view.View.{View}
use Rattle.history_note.specs.declared.view.View.TheVariants.{Spent, OfPen, OfPass}
use Rattle.history_note.specs.Places.{places, owed_to, kept_for, IsIssued}
use Rattle.history_note.specs.Views.{says, says_number, writes, leaves_by, leaves, carried_after, owed_after, handing_by, handed_by, noting_view, issued_view, handing_view, handed_view, taking_view}
use Rattle.history_note.specs.Rule.{Fits, IsCarried, CarriedFits, IsNext, IsPen, PenIs, Carries, IsPass, PassIs, Kept, Tells, with_pen, said_number, said_session, wrote, left_line}
use Rattle.history_note.specs.Shown.{AtNote, AtPen, AtPass, is_carrying, pen_at, pass_at, shown_pass, shown_carried, noting, issued_pass, carrying, MayEnter, writing, leaving_by, leaving, handing, handing_one, handed_pass, FitsPen, IsHanded, IsPenAt}
use Rattle.history_note.proofs.Counting.{no_places, completed_is, all_owed_without}
use Rattle.history_note.proofs.Steps.{says_number_at, says_session_at, write_at, write_pen, note_pen, issue_at, hand_at, take_at, leave_at, leave_pen}

-- what is added to a list and leaves it as it is has nothing
nothing_more : (xs ys : List ℕ) → xs ≡ xs ++ ys → ys ≡ []
nothing_more xs ys e = sym (drop-append_seam xs ys) ∙ ap (drop (length xs)) (sym e ∙ sym (append-nil xs)) ∙ drop-append_seam xs []

-- the pass that is there, or another one
abbrev some_or : Option (PassView State) → PassView State → PassView State
some_or None d = d
some_or (Some c) d = c

module _ {St : Type 0} where
  -- what holds of each pen's view holds of a view that is a pen's
  by_pen : (F : View St → Type 0) → ((p : PenView St) → IsPen p → F (OfPen p)) → (v : View St) → PenIs v → F v
  by_pen F f (OfPen p) h = f p h
  by_pen F f Spent h = absurd h
  by_pen F f (OfPass q) h = absurd h

  -- the same of a pass
  by_pass : (F : View St → Type 0) → ((q : PassView St) → IsPass q → F (OfPass q)) → (v : View St) → PassIs v → F v
  by_pass F f (OfPass q) h = f q h
  by_pass F f Spent h = absurd h
  by_pass F f (OfPen p) h = absurd h

  -- the carried pass as callers see it
  carried_some : (f : St → State) (c : Option (PassView St)) → is_some (shown_carried f c) ≡ true → (x : PassView St) × (c ≡ Some x)
  carried_some f (Some x) e = (x, refl)
  carried_some f None e = absurd (true≢false (sym e))

  carried_after_shown : (f : St → State) (n at : ℕ) (c : Option (PassView St)) → shown_carried f (carried_after n at c) ≡ carried_after n at (shown_carried f c)
  carried_after_shown f n at None = refl
  carried_after_shown f n at (Some c) = refl

  owed_after_shown : (f : St → State) (n at : ℕ) (c : Option (PassView St)) (os : List (ℕ × ℕ)) → owed_after n at c os ≡ owed_after n at (shown_carried f c) os
  owed_after_shown f n at None os = refl
  owed_after_shown f n at (Some c) os = refl

  still_some : (f : St → State) (n at : ℕ) (c : Option (PassView St)) → is_some (shown_carried f (carried_after n at c)) ≡ is_some (shown_carried f c)
  still_some f n at None = refl
  still_some f n at (Some c) = refl

  carried_fits_shown : (f : St → State) (o : St) (noted : List (ℕ × ℕ)) (lines : List NotedLine) (owed : List (ℕ × ℕ)) (kept_then : Option (List ℕ)) (c : Option (PassView St)) → CarriedFits o noted lines owed kept_then c → CarriedFits (f o) noted lines owed kept_then (shown_carried f c)
  carried_fits_shown f o noted lines owed kept_then None h = tt
  carried_fits_shown f o noted lines owed kept_then (Some c) h = record { opening_is = ap f h.opening_is; is_noted = h.is_noted; rest = h.rest; written = h.written; prefix = h.prefix; mine_is = h.mine_is; rest_is = h.rest_is; left_fits = h.left_fits }

  -- a pass that was just taken in fits as one that is out
  fits_shown : (f : St → State) (o : St) (noted : List (ℕ × ℕ)) (lines : List NotedLine) (owed : List (ℕ × ℕ)) (kept : List (ℕ × List ℕ)) (q : PassView St) → IsCarried o noted lines owed (kept_for q.number kept) q → IsPass q → Fits (f o) noted lines owed kept (shown_pass f q)
  fits_shown f o noted lines owed kept q h k =
      let none_written = nothing_more (places q.number q.seen) h.written (sym k ∙ h.mine_is) in
      record {
        opening_is = ap f h.opening_is;
        is_noted = h.is_noted;
        mine_is = k;
        rest = h.rest;
        prefix = h.prefix;
        rest_is = h.rest_is ∙ ap (λ w. owed_to q.number owed ++ w) none_written ∙ append-nil (owed_to q.number owed);
        left_fits = h.left_fits;
      }

  -- the pen, or the pass, is of the note
  pen_note : (f : St → State) (z : TableId) (v : View St) → (pen_at f z v).note ≡ z
  pen_note f z (OfPen p) = refl
  pen_note f z Spent = refl
  pen_note f z (OfPass q) = refl

  pass_note : (f : St → State) (z : TableId) (v : View St) → (pass_at f z v).note ≡ z
  pass_note f z (OfPass q) = refl
  pass_note f z Spent = refl
  pass_note f z (OfPen p) = refl

  pub pen_on : (f : St → State) (z : TableId) (v : View St) (pen : AtPen) (n n0 : AtNote) → pen_at f z v ≡ pen → n0 ≡ n → pen.note ≡ n.note → z ≡ n0.note
  pen_on f z v pen n n0 a b e = sym (pen_note f z v) ∙ ap (λ (p : AtPen). p.note) a ∙ e ∙ sym (ap (λ (x : AtNote). x.note) b)

  pub pass_on : (f : St → State) (z : TableId) (v : View St) (pass : AtPass) (n n0 : AtNote) → pass_at f z v ≡ pass → n0 ≡ n → pass.note ≡ n.note → z ≡ n0.note
  pass_on f z v pass n n0 a b e = sym (pass_note f z v) ∙ ap (λ (p : AtPass). p.note) a ∙ e ∙ sym (ap (λ (x : AtNote). x.note) b)

  -- the same table and view are seen as the same pen, or pass
  pub pen_same : (f : St → State) (z z' : TableId) (v v' : View St) → z' ≡ z → v' ≡ v → pen_at f z' v' ≡ pen_at f z v
  pen_same f z z' v v' e h = λ i. pen_at f (e i) (h i)

  pub pass_same : (f : St → State) (z z' : TableId) (v v' : View St) → z' ≡ z → v' ≡ v → pass_at f z' v' ≡ pass_at f z v
  pass_same f z z' v v' e h = λ i. pass_at f (e i) (h i)

  -- what is known of a pen holds as its caller sees it
  pub facts_shown : (f : St → State) (z : TableId) (v : View St) → PenIs v → IsPenAt (pen_at f z v)
  facts_shown f z v = by_pen (λ u. IsPenAt (pen_at f z u))
      (λ p h. (p.kept_then, record { lines_issued = h.lines_issued; owed_issued = h.owed_issued; kept_issued = h.kept_issued; carried_fits = carried_fits_shown f p.opening p.noted p.lines p.owed p.kept_then p.carried h.carried_fits }))
      v

  -- whether the pen carries a pass doesn't depend on its table
  pub carries_same : (f : St → State) (z z' : TableId) (v : View St) → is_carrying (pen_at f z' v) ≡ is_carrying (pen_at f z v)
  carries_same f z z' (OfPen p) = refl
  carries_same f z z' Spent = refl
  carries_same f z z' (OfPass q) = refl

  -- say
  pub numbers : (o : St) (slots id : ℕ) (me : Me Step (View St)) (x : ℕ) → PenIs me.0 → Allows (Kept o) slots id me 0 (λ n. either (eqb n x) x n) (said_number (step slots 0 x x none) me)
  numbers o slots id me x = by_pen (λ v. Allows (Kept o) slots id (v, me.1) 0 (λ n. either (eqb n x) x n) (said_number (step slots 0 x x none) (v, me.1)))
      (λ p h. says_number_at o slots id (OfPen p, me.1) p x refl)
      me.0

  pub sessions : (o : St) (slots id : ℕ) (me : Me Step (View St)) (x : ℕ) → PenIs me.0 → Allows (Kept o) slots id me 0 (λ n. either (eqb n x) x n) (said_session (step slots 0 x x none) me)
  sessions o slots id me x = by_pen (λ v. Allows (Kept o) slots id (v, me.1) 0 (λ n. either (eqb n x) x n) (said_session (step slots 0 x x none) (v, me.1)))
      (λ p h. says_session_at o slots id (OfPen p, me.1) p x refl)
      me.0

  pub number_said : (v : View St) (x : ℕ) → PenIs v → PenIs (with_pen (says_number x) v)
  number_said v x = by_pen (λ u. PenIs (with_pen (says_number x) u)) (λ p h. record { lines_issued = h.lines_issued; owed_issued = h.owed_issued; kept_issued = h.kept_issued; carried_fits = h.carried_fits }) v

  same_facts : (p : PenView St) (x y : ℕ) → IsPen p → IsPen (says x y p)
  same_facts p x y h = record { lines_issued = h.lines_issued; owed_issued = h.owed_issued; kept_issued = h.kept_issued; carried_fits = h.carried_fits }

  -- issue
  pub issue_splits : (f : St → State) (z : TableId) (o : St) (id : ℕ) (v w : View St) (x y : ℕ) → PenIs v → (IsIssued (pen_at f z v).noted x → ⊥) → w ≡ with_pen (says x y) v → Splits (Kept o) id w (noting_view w) (issued_view w)
  issue_splits f z o id v w x y = by_pen (λ u. (IsIssued (pen_at f z u).noted x → ⊥) → w ≡ with_pen (says x y) u → Splits (Kept o) id w (noting_view w) (issued_view w))
      (λ p h new e. issue_at o id w (says x y p) e new)
      v

  pub issue_pass : (f : St → State) (z : TableId) (v : View St) (x y : ℕ) → PenIs v → (IsIssued (pen_at f z v).noted x → ⊥) → PassIs (issued_view (with_pen (says x y) v))
  issue_pass f z v x y = by_pen (λ u. (IsIssued (pen_at f z u).noted x → ⊥) → PassIs (issued_view (with_pen (says x y) u)))
      (λ p h new. sym (no_places p.noted x 0 p.lines new h.lines_issued))
      v

  pub issue_pen : (v : View St) (x y : ℕ) → PenIs v → PenIs (noting_view (with_pen (says x y) v))
  issue_pen v x y = by_pen (λ u. PenIs (noting_view (with_pen (says x y) u))) (λ p h. note_pen (says x y p) (same_facts p x y h)) v

  pub issue_pen_at : (f : St → State) (z : TableId) (v : View St) (x y : ℕ) → PenIs v → pen_at f z (noting_view (with_pen (says x y) v)) ≡ noting x y (pen_at f z v)
  issue_pen_at f z v x y = by_pen (λ u. pen_at f z (noting_view (with_pen (says x y) u)) ≡ noting x y (pen_at f z u)) (λ p h. refl) v

  pub issue_pass_at : (f : St → State) (z : TableId) (v : View St) (x y : ℕ) → PenIs v → pass_at f z (issued_view (with_pen (says x y) v)) ≡ issued_pass x y (pen_at f z v)
  issue_pass_at f z v x y = by_pen (λ u. pass_at f z (issued_view (with_pen (says x y) u)) ≡ issued_pass x y (pen_at f z u)) (λ p h. refl) v

  -- take in
  pub take_joins : (o : St) (id other : ℕ) (v w : View St) → PenIs v → PassIs w → Joins (Kept o) id v other w (taking_view v w) Spent
  take_joins o id other v w h = by_pass (λ u. Joins (Kept o) id v other u (taking_view v u) Spent)
      (λ q k. by_pen (λ t. Joins (Kept o) id t other (OfPass q) (taking_view t (OfPass q)) Spent) (λ p i. take_at o id other (OfPen p) (OfPass q) p q refl refl) v h)
      w

  pub take_pen_at : (f : St → State) (z z' : TableId) (v w : View St) → PenIs v → PassIs w → pen_at f z (taking_view v w) ≡ carrying (pass_at f z' w) (pen_at f z v)
  take_pen_at f z z' v w h = by_pass (λ u. pen_at f z (taking_view v u) ≡ carrying (pass_at f z' u) (pen_at f z v))
      (λ q k. by_pen (λ t. pen_at f z (taking_view t (OfPass q)) ≡ carrying (pass_at f z' (OfPass q)) (pen_at f z t)) (λ p i. refl) v h)
      w

  -- what the look after it tells the pen
  pub told_pen : (n : ℕ) (v w : View St) → PenIs v → PassIs w → Tells n (taking_view v w) → PenIs (taking_view v w)
  told_pen n v w h = by_pass (λ u. Tells n (taking_view v u) → PenIs (taking_view v u))
      (λ q k. by_pen (λ t. Tells n (taking_view t (OfPass q)) → PenIs (taking_view t (OfPass q))) (λ p i told. told.1) v h)
      w

  pub told_fits : (f : St → State) (z z' : TableId) (n : ℕ) (v w : View St) → PenIs v → PassIs w → Tells n (taking_view v w) → FitsPen (pen_at f z v) (pass_at f z' w)
  told_fits f z z' n v w h = by_pass (λ u. Tells n (taking_view v u) → FitsPen (pen_at f z v) (pass_at f z' u))
      (λ q k. by_pen (λ t. Tells n (taking_view t (OfPass q)) → FitsPen (pen_at f z t) (pass_at f z' (OfPass q)))
      (λ p i told. fits_shown f p.opening p.noted p.lines p.owed p.kept q told.1.carried_fits k)
      v h)
      w

  pub carries_after_take : (f : St → State) (z : TableId) (v w : View St) → PenIs v → PassIs w → true ≡ is_carrying (pen_at f z (taking_view v w))
  carries_after_take f z v w h = by_pass (λ u. true ≡ is_carrying (pen_at f z (taking_view v u)))
      (λ q k. by_pen (λ t. true ≡ is_carrying (pen_at f z (taking_view t (OfPass q)))) (λ p i. refl) v h)
      w

  -- write
  next_shown : (f : St → State) (kept : List (ℕ × List ℕ)) (c : Option (PassView St)) (n : ℕ) (t : List ℕ) → IsNext kept (shown_carried f c) n t → IsNext kept c n t
  next_shown f kept None n t h = h
  next_shown f kept (Some c) n t h = h

  pub write_allowed : (f : St → State) (z : TableId) (o : St) (slots id : ℕ) (v : View St) (me : Me Step (View St)) (x y old : ℕ) (t : Step) → PenIs v → IsIssued (pen_at f z v).noted x → MayEnter x t.line (pen_at f z v) → me.0 ≡ with_pen (says x y) v → Tells old me.0
      → Allows (Kept o) slots id me 0 (λ n. either (eqb n old) (old + 1) n) (wrote (step slots 0 old (old + 1) (some t)) me)
  write_allowed f z o slots id v me x y old t = by_pen
      (λ u. IsIssued (pen_at f z u).noted x → MayEnter x t.line (pen_at f z u) → me.0 ≡ with_pen (says x y) u → Tells old me.0 → Allows (Kept o) slots id me 0 (λ n. either (eqb n old) (old + 1) n) (wrote (step slots 0 old (old + 1) (some t)) me))
      (λ p h i may e told. write_at o slots id me (says x y p) t old e i (next_shown f p.kept p.carried x t.line may) (subst (λ u. Tells old u) e told).0)
      v

  pub write_pen_at : (f : St → State) (z : TableId) (v : View St) (x y : ℕ) (t : Step) → PenIs v → pen_at f z (with_pen (writes t) (with_pen (says x y) v)) ≡ writing x t (pen_at f z v)
  write_pen_at f z v x y t = by_pen (λ u. pen_at f z (with_pen (writes t) (with_pen (says x y) u)) ≡ writing x t (pen_at f z u))
      (λ p h. λ i. record {
        note = z;
        opening = f p.opening;
        noted = p.noted;
        lines = (writes t (says x y p)).lines;
        owed = owed_after_shown f x (length p.lines) p.carried p.owed i;
        kept = (writes t (says x y p)).kept;
        carried = carried_after_shown f x (length p.lines) p.carried i;
      })
      v

  pub write_is : (f : St → State) (z : TableId) (v : View St) (x y : ℕ) (t : Step) → PenIs v → IsIssued (pen_at f z v).noted x → PenIs (with_pen (writes t) (with_pen (says x y) v))
  write_is f z v x y t = by_pen (λ u. IsIssued (pen_at f z u).noted x → PenIs (with_pen (writes t) (with_pen (says x y) u)))
      (λ p h i. write_pen t (says x y p) i (same_facts p x y h))
      v

  pub write_carries : (f : St → State) (z : TableId) (v : View St) (x y : ℕ) (t : Step) → PenIs v → is_carrying (pen_at f z (with_pen (writes t) (with_pen (says x y) v))) ≡ is_carrying (pen_at f z v)
  write_carries f z v x y t = by_pen (λ u. is_carrying (pen_at f z (with_pen (writes t) (with_pen (says x y) u))) ≡ is_carrying (pen_at f z u))
      (λ p h. still_some f x (length p.lines) p.carried)
      v

  -- leave
  -- what holds of a pen's view that carries a pass holds of a view that does
  by_carrying : (F : View St → Type 0) → ((p : PenView St) → IsPen p → is_some p.carried ≡ true → F (OfPen p)) → (v : View St) → Carries v → F v
  by_carrying F f (OfPen p) h = f p h.0 h.1
  by_carrying F f Spent h = absurd h
  by_carrying F f (OfPass q) h = absurd h

  there : (c : Option (PassView St)) → is_some c ≡ true → (x : PassView St) × (c ≡ Some x)
  there (Some x) e = (x, refl)
  there None e = absurd (true≢false (sym e))

  pub leave_allowed : (o : St) (slots id : ℕ) (me : Me Step (View St)) (t : List ℕ) (x : ℕ) → Carries me.0 → Allows (Kept o) slots id me 0 (λ n. either (eqb n x) x n) (left_line t (step slots 0 x x none) me)
  leave_allowed o slots id me t x = by_carrying (λ u. Allows (Kept o) slots id (u, me.1) 0 (λ n. either (eqb n x) x n) (left_line t (step slots 0 x x none) (u, me.1)))
      (λ p h k. let c = there p.carried k in leave_at o slots id (OfPen p, me.1) p c.0 t x refl c.1)
      me.0

  shown_there : (f : St → State) (c : Option (PassView St)) → is_some (shown_carried f c) ≡ true → is_some c ≡ true
  shown_there f (Some c) e = refl
  shown_there f None e = absurd (true≢false (sym e))

  pub carries_shown : (f : St → State) (z : TableId) (v : View St) → PenIs v → is_carrying (pen_at f z v) ≡ true → Carries v
  carries_shown f z v = by_pen (λ u. is_carrying (pen_at f z u) ≡ true → Carries u) (λ p h k. (h, shown_there f p.carried k)) v

  leaves_shown : (f : St → State) (z : TableId) (t : List ℕ) (p : PenView St) (x : Option (PassView St)) → pen_at f z (OfPen (leaves_by x t p)) ≡ leaving_by (shown_carried f x) t (pen_at f z (OfPen p))
  leaves_shown f z t p (Some c) = refl
  leaves_shown f z t p None = refl

  pub leave_pen_at : (f : St → State) (z : TableId) (v : View St) (t : List ℕ) → PenIs v → pen_at f z (with_pen (leaves t) v) ≡ leaving t (pen_at f z v)
  leave_pen_at f z v t = by_pen (λ u. pen_at f z (with_pen (leaves t) u) ≡ leaving t (pen_at f z u)) (λ p h. leaves_shown f z t p p.carried) v

  leaves_is : (p : PenView St) (t : List ℕ) (x : Option (PassView St)) → p.carried ≡ x → IsPen p → IsPen (leaves_by x t p)
  leaves_is p t (Some c) e h = leave_pen p c t e h
  leaves_is p t None e h = h

  pub leave_is : (v : View St) (t : List ℕ) → PenIs v → PenIs (with_pen (leaves t) v)
  leave_is v t = by_pen (λ u. PenIs (with_pen (leaves t) u)) (λ p h. leaves_is p t p.carried refl h) v

  leaves_carry : (f : St → State) (z : TableId) (t : List ℕ) (p : PenView St) (x : Option (PassView St)) → is_carrying (pen_at f z (OfPen (leaves_by x t p))) ≡ is_carrying (pen_at f z (OfPen p))
  leaves_carry f z t p (Some c) = refl
  leaves_carry f z t p None = refl

  pub leave_carries : (f : St → State) (z : TableId) (v : View St) (t : List ℕ) → PenIs v → is_carrying (pen_at f z (with_pen (leaves t) v)) ≡ is_carrying (pen_at f z v)
  leave_carries f z v t = by_pen (λ u. is_carrying (pen_at f z (with_pen (leaves t) u)) ≡ is_carrying (pen_at f z u)) (λ p h. leaves_carry f z t p p.carried) v

  -- hand out
  pub hand_splits : (f : St → State) (z : TableId) (o : St) (id : ℕ) (v : View St) → PenIs v → is_carrying (pen_at f z v) ≡ true → Splits (Kept o) id v (handing_view v) (handed_view v)
  hand_splits f z o id v = by_pen (λ u. is_carrying (pen_at f z u) ≡ true → Splits (Kept o) id u (handing_view u) (handed_view u))
      (λ p h k. let c = carried_some f p.carried k in hand_at o id (OfPen p) p c.0 refl c.1)
      v

  pass_by : (f : St → State) (p : PenView St) (x : Option (PassView St)) → CarriedFits p.opening p.noted p.lines p.owed p.kept_then x → is_some (shown_carried f x) ≡ true → PassIs (handed_by x p)
  pass_by f p (Some c) fits k = completed_is p.opening p.noted p.owed p.kept_then p.lines c fits
  pass_by f p None fits k = absurd (true≢false (sym k))

  pub hand_pass : (f : St → State) (z : TableId) (v : View St) → PenIs v → is_carrying (pen_at f z v) ≡ true → PassIs (handed_view v)
  hand_pass f z v = by_pen (λ u. is_carrying (pen_at f z u) ≡ true → PassIs (handed_view u)) (λ p h k. pass_by f p p.carried h.carried_fits k) v

  pen_by : (p : PenView St) (x : Option (PassView St)) → IsPen p → IsPen (handing_by x p)
  pen_by p (Some c) h = record { lines_issued = h.lines_issued; owed_issued = all_owed_without p.noted p.owed c.number h.owed_issued; kept_issued = h.kept_issued; carried_fits = tt }
  pen_by p None h = h

  pub hand_pen : (v : View St) → PenIs v → PenIs (handing_view v)
  hand_pen v = by_pen (λ u. PenIs (handing_view u)) (λ p h. pen_by p p.carried h) v

  handing_shown : (f : St → State) (z : TableId) (p : PenView St) (x : Option (PassView St)) → pen_at f z (OfPen (handing_by x p)) ≡ handing_one (shown_carried f x) (pen_at f z (OfPen p))
  handing_shown f z p (Some c) = refl
  handing_shown f z p None = refl

  pub hand_pen_at : (f : St → State) (z : TableId) (v : View St) → PenIs v → pen_at f z (handing_view v) ≡ handing (pen_at f z v)
  hand_pen_at f z v = by_pen (λ u. pen_at f z (handing_view u) ≡ handing (pen_at f z u)) (λ p h. handing_shown f z p p.carried) v

  handed_shown : (f : St → State) (z : TableId) (p : PenView St) (x : Option (PassView St)) (c : PassView State) → shown_carried f x ≡ Some c → pass_at f z (handed_by x p) ≡ handed_pass c (pen_at f z (OfPen p))
  handed_shown f z p (Some d) c e = ap (λ (y : Option (PassView State)). handed_pass (some_or y c) (pen_at f z (OfPen p))) e
  handed_shown f z p None c e = absurd (true≢false (sym (ap is_some e)))

  pub hand_pass_at : (f : St → State) (z : TableId) (v : View St) → PenIs v → IsHanded (pen_at f z v) (pass_at f z (handed_view v))
  hand_pass_at f z v = by_pen (λ u. IsHanded (pen_at f z u) (pass_at f z (handed_view u))) (λ p h c e. handed_shown f z p p.carried c e) v

  carries_none : (f : St → State) (z : TableId) (p : PenView St) (x : Option (PassView St)) → is_some (shown_carried f x) ≡ true → false ≡ is_carrying (pen_at f z (OfPen (handing_by x p)))
  carries_none f z p (Some c) k = refl
  carries_none f z p None k = absurd (true≢false (sym k))

  pub carries_after_hand : (f : St → State) (z : TableId) (v : View St) → PenIs v → is_carrying (pen_at f z v) ≡ true → false ≡ is_carrying (pen_at f z (handing_view v))
  carries_after_hand f z v = by_pen (λ u. is_carrying (pen_at f z u) ≡ true → false ≡ is_carrying (pen_at f z (handing_view u))) (λ p h k. carries_none f z p p.carried k) v

  -- a pass's own lines
  pub mine_of : (f : St → State) (z : TableId) (v : View St) → PassIs v → (pass_at f z v).mine ≡ places (pass_at f z v).number (pass_at f z v).seen
  mine_of f z v = by_pass (λ u. (pass_at f z u).mine ≡ places (pass_at f z u).number (pass_at f z u).seen) (λ q h. h) v

  -- what a look tells a pass
  pub told_pass : (f : St → State) (z : TableId) (v : View St) (n : ℕ) → PassIs v → Tells n v → length (pass_at f z v).seen ≤ n
  told_pass f z v n = by_pass (λ u. Tells n u → length (pass_at f z u).seen ≤ n) (λ q h told. told.0) v
