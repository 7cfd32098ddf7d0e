-- Each step keeps the rule.
use Rattle.std.proofs.Common.{◌≡◌, ◌≢◌, ◌⊎◌, ℕ, zero, suc, ◌+◌, List, [], ◌∷◌, ◌++◌, length, set, cond, eqb, refl, sym, ap, ◌∙◌, subst, inl, inr, ⊎_elim, arith, length-append, append-nil, eq-eqb, ne_eqb}
use Rattle.std.specs.Prelude.{Option, Some, None, slice_set, slice_index}
use mathlib.Core.Option.{Option as ListOption, none, some, some-injective, some-ne-none}
use lib.ListN.{get_elem?}
use prog.Atomic.{either}
use Rattle.atomic_table.specs.Table.{State, Me, step, keeps, Allows, Splits, Joins, opening}
use Rattle.atomic_table.proofs.Lists.{at_set, set_again, exchanged}
use Rattle.db_value.specs.declared.step.Step.{Step}
use Rattle.history_note.specs.declared.view.NotedLine.{NotedLine}
use Rattle.history_note.specs.declared.view.PenView.{PenView}
use Rattle.history_note.specs.declared.view.PassView.{PassView}
use Rattle.history_note.specs.declared.view.View.{View}
use Rattle.history_note.specs.declared.view.View.TheVariants.{Spent, OfPen, OfPass}
use Rattle.history_note.specs.Places.{place_if, places, owed_to, without, kept_for, IsIssued}
use Rattle.history_note.specs.Views.{first_pen, says_number, says_session, notes, issued, writes, noted_line, leaves_by, leaves, takes, lets_go, handed, noting_view, issued_view, handing_by, handed_by, handing_view, handed_view, taking_view}
use Rattle.history_note.specs.Rule.{Fits, IsCarried, CarriedFits, IsNotCarried, IsNext, IsPen, IsOut, SeatFits, KeptAs, Kept, Tells, looked, said_number, said_session, wrote, left_line}
use Rattle.history_note.proofs.Counting.{owed_without_same, owed_without_other, noted_more, noted_last, all_issued_more, all_owed_more, all_issued_last, all_owed_without, no_places, no_debts, owed_after_is, all_owed_after, not_carried_after, rest_longer, prefix_longer, carried_write, completed_is, kept_none, kept_more_other, all_kept_more, all_kept_last, all_kept_without, left_move, left_kept, left_write}

module _ {V : Type 0} where
  -- one view replaced
  pub each_set : (F : ℕ → V → Type 0) (views : List V) (by : ℕ) (w : V) → ((j : ℕ) (u : V) → j ≢ by → get_elem? views j ≡ some u → F j u) → F by w → (j : ℕ) (u : V) → get_elem? (set views by w) j ≡ some u → F j u
  each_set F views by w others mine j u e =
      ⊎_elim
      (λ (x : (j ≡ by) × (w ≡ u)). subst (λ (y : ℕ × V). F y.0 y.1) (λ i. (sym x.0 i, x.1 i)) mine)
      (λ (x : (j ≢ by) × (get_elem? views j ≡ some u)). others j u x.0 x.1)
      (at_set views by j w u e)

  -- which view stands at a place of a longer list
  at_added : (l : List V) (a b : V) (j : ℕ) → get_elem? (l ++ a ∷ []) j ≡ some b → (get_elem? l j ≡ some b) ⊎ ((j ≡ length l) × (a ≡ b))
  at_added [] a b zero e = inr (refl, some-injective a b e)
  at_added [] a b (suc j) e = absurd (some-ne-none b (sym e))
  at_added (x ∷ xs) a b zero e = inl e
  at_added (x ∷ xs) a b (suc j) e = ⊎_elim (λ t. inl t) (λ t. inr (ap suc t.0, t.1)) (at_added xs a b j e)

  -- one view added
  pub each_added : (F : ℕ → V → Type 0) (views : List V) (w : V) → ((j : ℕ) (u : V) → get_elem? views j ≡ some u → F j u) → F (length views) w → (j : ℕ) (u : V) → get_elem? (views ++ w ∷ []) j ≡ some u → F j u
  each_added F views w others mine j u e =
      ⊎_elim
      (λ was. others j u was)
      (λ (x : (j ≡ length views) × (w ≡ u)). subst (λ (y : ℕ × V). F y.0 y.1) (λ i. (sym x.0 i, x.1 i)) mine)
      (at_added views w u j e)

-- a word that is written as it is stays as it is
same_word : (x n : ℕ) → either (eqb n x) x n ≡ n
same_word x n = exchanged n x x (λ m. m ≡ n) (λ e. sym e) (λ ne. refl)

-- the word after a step that makes f of it
word_after : (words : List ℕ) (n m : ℕ) (f : ℕ → ℕ) → words ≡ n ∷ [] → f n ≡ m → slice_set words 0 (f (slice_index words 0)) ≡ m ∷ []
word_after words n m f e h = ap (λ ws. slice_set ws 0 (f (slice_index ws 0))) e ∙ ap (λ (x : ℕ). x ∷ []) h

module _ {St : Type 0} where
  -- what fits goes on to fit after more numbers were noted
  carried_more : (opening : St) (noted more : List (ℕ × ℕ)) (lines : List NotedLine) (owed : List (ℕ × ℕ)) (kept_then : Option (List ℕ)) (c : Option (PassView St)) → CarriedFits opening noted lines owed kept_then c → CarriedFits opening (noted ++ more) lines owed kept_then c
  carried_more opening noted more lines owed kept_then None h = tt
  carried_more opening noted more lines owed kept_then (Some c) h = record { opening_is = h.opening_is; is_noted = noted_more noted more c.number c.session h.is_noted; rest = h.rest; written = h.written; prefix = h.prefix; mine_is = h.mine_is; rest_is = h.rest_is; left_fits = h.left_fits }

  fits_more : (opening : St) (noted more : List (ℕ × ℕ)) (lines : List NotedLine) (owed : List (ℕ × ℕ)) (kept : List (ℕ × List ℕ)) (q : PassView St) → Fits opening noted lines owed kept q → Fits opening (noted ++ more) lines owed kept q
  fits_more opening noted more lines owed kept q h = record { opening_is = h.opening_is; is_noted = noted_more noted more q.number q.session h.is_noted; mine_is = h.mine_is; rest = h.rest; prefix = h.prefix; rest_is = h.rest_is; left_fits = h.left_fits }

  -- the seat that steps is the pen's
  pub at_pen : (o : St) (s : State Step (View St)) (id : ℕ) (p : PenView St) → Kept o s → get_elem? s.views id ≡ some (OfPen p) → KeptAs o s id p
  at_pen o s id p k at = let f = k.2.each id (OfPen p) at in subst (λ (x : ℕ × PenView St). KeptAs o s x.0 x.1) (λ i. (sym f.0 i, sym f.1 i)) k.2

  -- another seat than the pen's, after the pen's view was replaced
  moved : (seat : ℕ) (holder holder' : ℕ → ℕ) (p p' : PenView St) (j : ℕ) (u : View St) → j ≢ seat → ((q : PassView St) → j ≡ holder q.number → IsOut p q → (j ≡ holder' q.number) × IsOut p' q)
      → SeatFits seat holder p j u → SeatFits seat holder' p' j u
  moved seat holder holder' p p' j Spent ne f h = tt
  moved seat holder holder' p p' j (OfPen r) ne f h = absurd (ne h.0)
  moved seat holder holder' p p' j (OfPass q) ne f h = f q h.0 h.1

  -- the pen's view replaced
  pub set_pen : (o : St) (s : State Step (View St)) (id : ℕ) (p p' : PenView St) (words : List ℕ) (homes : List (ListOption Step)) → KeptAs o s id p → words ≡ length p'.lines ∷ [] → p'.opening ≡ p.opening → IsPen p'
      → ((q : PassView St) → IsOut p q → IsOut p' q) → KeptAs o (record { words = words; homes = homes; views = set s.views id (OfPen p') }) id p'
  set_pen o s id p p' words homes k w op is f = record {
    holder = k.holder;
    word = w;
    opening_is = op ∙ k.opening_is;
    pen_is = is;
    each = each_set (SeatFits id k.holder p') s.views id (OfPen p') (λ j u ne e. moved id k.holder k.holder p p' j u ne (λ q h fits. (h, f q fits)) (k.each j u e)) (refl, refl);
  }

  -- the pen's view replaced, and a pass added
  pub add_pass : (o : St) (s : State Step (View St)) (id : ℕ) (p p' : PenView St) (r : PassView St) → KeptAs o s id p → p'.lines ≡ p.lines → p'.opening ≡ p.opening → IsPen p' → IsOut p' r
      → ((q : PassView St) → IsOut p q → (q.number ≢ r.number) × IsOut p' q)
      → KeptAs o (record { words = s.words; homes = s.homes; views = set s.views id (OfPen p') ++ OfPass r ∷ [] }) id p'
  add_pass o s id p p' r k same op is new f =
      let views = set s.views id (OfPen p') in
      let holder : ℕ → ℕ = λ n. cond (eqb n r.number) (length views) (k.holder n) in
      record {
        holder = holder;
        word = k.word ∙ ap (λ (ls : List NotedLine). length ls ∷ []) (sym same);
        opening_is = op ∙ k.opening_is;
        pen_is = is;
        each = each_added (SeatFits id holder p') views (OfPass r)
            (each_set (SeatFits id holder p') s.views id (OfPen p')
            (λ j u ne e. moved id k.holder holder p p' j u ne (λ q h fits. let g = f q fits in (h ∙ sym (ap (λ b. cond b (length views) (k.holder q.number)) (ne_eqb q.number r.number g.0)), g.1)) (k.each j u e))
            (refl, refl))
            (sym (ap (λ b. cond b (length views) (k.holder r.number)) (eq-eqb r.number r.number refl)), new);
      }

  -- what the rule tells a seat
  tells_of : (seat : ℕ) (holder : ℕ → ℕ) (p : PenView St) (id n : ℕ) (v : View St) → n ≡ length p.lines → IsPen p → SeatFits seat holder p id v → Tells n v
  tells_of seat holder p id n Spent e is h = tt
  tells_of seat holder p id n (OfPen r) e is h = (e ∙ sym (ap (λ (x : PenView St). length x.lines) h.1), subst (λ (x : PenView St). IsPen x) (sym h.1) is)
  tells_of seat holder p id n (OfPass q) e is h =
      let l : length p.lines ≡ length q.seen + length h.1.fits.rest = ap length h.1.fits.prefix ∙ length-append q.seen h.1.fits.rest in
      (omega arith, h.1.fits.mine_is)

  pub tells : (o : St) (s : State Step (View St)) (id : ℕ) (v : View St) → Kept o s → get_elem? s.views id ≡ some v → Tells (slice_index s.words 0) v
  tells o s id v k at = tells_of k.0 k.2.holder k.1 id (slice_index s.words 0) v (ap (λ ws. slice_index ws 0) k.2.word) k.2.pen_is (k.2.each id v at)

  -- a new note
  pub begins : (o : St) → Kept o (opening (0 ∷ []) [] (OfPen (first_pen o)))
  begins o = (0, first_pen o, record { holder = λ n. 0; word = refl; opening_is = refl; pen_is = record { lines_issued = tt; owed_issued = tt; kept_issued = tt; carried_fits = tt }; each = one })
    where
      one : (by : ℕ) (v : View St) → get_elem? (OfPen (first_pen o) ∷ []) by ≡ some v → SeatFits 0 (λ n. 0) (first_pen o) by v
      one zero v e = subst (λ w. SeatFits 0 (λ n. 0) (first_pen o) 0 w) (some-injective (OfPen (first_pen o)) v e) (refl, refl)
      one (suc by) v e = absurd (some-ne-none v (sym e))

  -- load
  pub looks : (o : St) (slots id : ℕ) (me : Me Step (View St)) → Allows (Kept o) slots id me 0 (λ n. n) (looked (step slots 0 0 0 none) me)
  looks o slots id me s k len at bound = (
    me.0,
    keeps,
    tt,
    (
      k.0,
      k.1,
      record {
        holder = k.2.holder;
        word = word_after s.words (length k.1.lines) (length k.1.lines) (λ n. n) k.2.word refl;
        opening_is = k.2.opening_is;
        pen_is = k.2.pen_is;
        each = λ j u e. k.2.each j u (subst (λ vs. get_elem? vs j ≡ some u) (set_again s.views id me.0 at) e);
      },
    ),
    (refl, tells o s id me.0 k at),
  )

  -- the pen says a number
  says_number_base : (o : St) (slots id : ℕ) (p : PenView St) (c : List (ℕ × Step)) (x : ℕ) → Allows (Kept o) slots id (OfPen p, c) 0 (λ n. either (eqb n x) x n) (said_number (step slots 0 x x none) (OfPen p, c))
  says_number_base o slots id p c x s k len at bound =
      let k' = at_pen o s id p k at in
      let i = k'.pen_is in (
        OfPen (says_number x p),
        keeps,
        tt,
        (
          id,
          says_number x p,
          set_pen o s id p (says_number x p) (slice_set s.words 0 (either (eqb (slice_index s.words 0) x) x (slice_index s.words 0))) s.homes k' (word_after s.words (length p.lines) (length p.lines) (λ n. either (eqb n x) x n) k'.word (same_word x (length p.lines))) refl
              record { lines_issued = i.lines_issued; owed_issued = i.owed_issued; kept_issued = i.kept_issued; carried_fits = i.carried_fits }
              (λ q f. record { fits = f.fits; not_carried = f.not_carried }),
        ),
        (refl, tells o s id (OfPen p) k at),
      )

  pub says_number_at : (o : St) (slots id : ℕ) (me : Me Step (View St)) (p : PenView St) (x : ℕ) → me.0 ≡ OfPen p → Allows (Kept o) slots id me 0 (λ n. either (eqb n x) x n) (said_number (step slots 0 x x none) me)
  says_number_at o slots id me p x e = subst (λ v. Allows (Kept o) slots id (v, me.1) 0 (λ n. either (eqb n x) x n) (said_number (step slots 0 x x none) (v, me.1))) (sym e) (says_number_base o slots id p me.1 x)

  -- the pen says a session
  says_session_base : (o : St) (slots id : ℕ) (p : PenView St) (c : List (ℕ × Step)) (x : ℕ) → Allows (Kept o) slots id (OfPen p, c) 0 (λ n. either (eqb n x) x n) (said_session (step slots 0 x x none) (OfPen p, c))
  says_session_base o slots id p c x s k len at bound =
      let k' = at_pen o s id p k at in
      let i = k'.pen_is in (
        OfPen (says_session x p),
        keeps,
        tt,
        (
          id,
          says_session x p,
          set_pen o s id p (says_session x p) (slice_set s.words 0 (either (eqb (slice_index s.words 0) x) x (slice_index s.words 0))) s.homes k' (word_after s.words (length p.lines) (length p.lines) (λ n. either (eqb n x) x n) k'.word (same_word x (length p.lines))) refl
              record { lines_issued = i.lines_issued; owed_issued = i.owed_issued; kept_issued = i.kept_issued; carried_fits = i.carried_fits }
              (λ q f. record { fits = f.fits; not_carried = f.not_carried }),
        ),
        (refl, tells o s id (OfPen p) k at),
      )

  pub says_session_at : (o : St) (slots id : ℕ) (me : Me Step (View St)) (p : PenView St) (x : ℕ) → me.0 ≡ OfPen p → Allows (Kept o) slots id me 0 (λ n. either (eqb n x) x n) (said_session (step slots 0 x x none) me)
  says_session_at o slots id me p x e = subst (λ v. Allows (Kept o) slots id (v, me.1) 0 (λ n. either (eqb n x) x n) (said_session (step slots 0 x x none) (v, me.1))) (sym e) (says_session_base o slots id p me.1 x)

  -- a line is written
  write_fits : (t : Step) (p : PenView St) → IsNext p.kept p.carried p.said_number t.line → (q : PassView St) → IsOut p q → IsOut (writes t p) q
  write_fits t p may q h =
      let f = h.fits in
      record {
        fits = record {
          opening_is = f.opening_is;
          is_noted = f.is_noted;
          mine_is = f.mine_is;
          rest = f.rest ++ noted_line p.said_number t ∷ [];
          prefix = prefix_longer (noted_line p.said_number t) q.seen f.rest p.lines f.prefix;
          rest_is = rest_longer q.number p.said_number t q.seen f.rest p.lines f.prefix ∙ ap (λ x. x ++ (place_if q.number p.said_number (length p.lines) ++ [])) f.rest_is ∙ sym (owed_after_is q.number p.said_number (length p.lines) p.carried p.owed h.not_carried);
          left_fits = left_write q.number p.said_number t p.lines p.kept p.owed p.carried q.left h.not_carried may f.left_fits;
        };
        not_carried = not_carried_after q.number p.said_number (length p.lines) p.carried h.not_carried;
      }

  pub write_pen : (t : Step) (p : PenView St) → IsIssued p.noted p.said_number → IsPen p → IsPen (writes t p)
  write_pen t p issued i = record {
    lines_issued = all_issued_last p.noted p.lines (noted_line p.said_number t) i.lines_issued issued;
    owed_issued = all_owed_after p.noted p.said_number (length p.lines) p.carried p.owed issued i.owed_issued;
    kept_issued = all_kept_without p.noted p.kept p.said_number i.kept_issued;
    carried_fits = carried_write p.opening p.noted p.owed p.kept_then p.lines p.said_number t p.carried i.carried_fits;
  }

  write_base : (o : St) (slots id : ℕ) (p : PenView St) (c : List (ℕ × Step)) (t : Step) (old : ℕ) → IsIssued p.noted p.said_number → IsNext p.kept p.carried p.said_number t.line → old ≡ length p.lines
      → Allows (Kept o) slots id (OfPen p, c) 0 (λ n. either (eqb n old) (old + 1) n) (wrote (step slots 0 old (old + 1) (some t)) (OfPen p, c))
  write_base o slots id p c t old issued may is s k len at bound =
      let k' = at_pen o s id p k at in
      let longer : length (writes t p).lines ≡ length p.lines + 1 = length-append p.lines (noted_line p.said_number t ∷ []) in
      let w : either (eqb (length p.lines) old) (old + 1) (length p.lines) ≡ length (writes t p).lines = exchanged (length p.lines) old (old + 1) (λ m. m ≡ length (writes t p).lines) (λ e. omega arith) (λ ne. absurd (ne (sym is))) in (
        OfPen (writes t p),
        keeps,
        tt,
        (
          id,
          writes t p,
          set_pen o s id p (writes t p) (slice_set s.words 0 (either (eqb (slice_index s.words 0) old) (old + 1) (slice_index s.words 0))) s.homes k' (word_after s.words (length p.lines) (length (writes t p).lines) (λ n. either (eqb n old) (old + 1) n) k'.word w) refl
              (write_pen t p issued k'.pen_is)
              (write_fits t p may),
        ),
        (λ u e. ap (λ (x : Step). (OfPen (writes x p), c)) (some-injective t u e)),
      )

  pub write_at : (o : St) (slots id : ℕ) (me : Me Step (View St)) (p : PenView St) (t : Step) (old : ℕ) → me.0 ≡ OfPen p → IsIssued p.noted p.said_number → IsNext p.kept p.carried p.said_number t.line → old ≡ length p.lines
      → Allows (Kept o) slots id me 0 (λ n. either (eqb n old) (old + 1) n) (wrote (step slots 0 old (old + 1) (some t)) me)
  write_at o slots id me p t old e issued may is = subst (λ v. Allows (Kept o) slots id (v, me.1) 0 (λ n. either (eqb n old) (old + 1) n) (wrote (step slots 0 old (old + 1) (some t)) (v, me.1))) (sym e) (write_base o slots id p me.1 t old issued may is)

  -- a pass is issued
  not_the_carried : (p : PenView St) (c : Option (PassView St)) → (IsIssued p.noted p.said_number → ⊥) → CarriedFits p.opening p.noted p.lines p.owed p.kept_then c → IsNotCarried p.said_number c
  not_the_carried p None new h = tt
  not_the_carried p (Some c) new h = λ e. new (subst (IsIssued p.noted) (sym e) (c.session, h.is_noted))

  pub note_pen : (p : PenView St) → IsPen p → IsPen (notes p)
  note_pen p i = record {
    lines_issued = all_issued_more p.noted ((p.said_number, p.said_session) ∷ []) p.lines i.lines_issued;
    owed_issued = all_owed_more p.noted ((p.said_number, p.said_session) ∷ []) p.owed i.owed_issued;
    kept_issued = all_kept_more p.noted ((p.said_number, p.said_session) ∷ []) p.kept i.kept_issued;
    carried_fits = carried_more p.opening p.noted ((p.said_number, p.said_session) ∷ []) p.lines p.owed p.kept_then p.carried i.carried_fits;
  }

  issue_base : (o : St) (id : ℕ) (p : PenView St) → (IsIssued p.noted p.said_number → ⊥) → Splits (Kept o) id (OfPen p) (OfPen (notes p)) (OfPass (issued p))
  issue_base o id p new s k at =
      let k' = at_pen o s id p k at in
      let i = k'.pen_is in (
        id,
        notes p,
        add_pass o s id p (notes p) (issued p) k' refl refl (note_pen p i)
            record {
              fits = record {
                opening_is = refl;
                is_noted = noted_last p.noted p.said_number p.said_session;
                mine_is = sym (no_places p.noted p.said_number 0 p.lines new i.lines_issued);
                rest = [];
                prefix = sym (append-nil p.lines);
                rest_is = sym (no_debts p.noted p.said_number p.owed new i.owed_issued);
                left_fits = (kept_none p.noted p.said_number p.kept new i.kept_issued, no_debts p.noted p.said_number p.owed new i.owed_issued);
              };
              not_carried = not_the_carried p p.carried new i.carried_fits;
            }
            (λ q f. (
              (λ e. new (subst (IsIssued p.noted) e (q.session, f.fits.is_noted))),
              record { fits = fits_more p.opening p.noted ((p.said_number, p.said_session) ∷ []) p.lines p.owed p.kept q f.fits; not_carried = f.not_carried },
            )),
      )

  pub issue_at : (o : St) (id : ℕ) (v : View St) (p : PenView St) → v ≡ OfPen p → (IsIssued p.noted p.said_number → ⊥) → Splits (Kept o) id v (noting_view v) (issued_view v)
  issue_at o id v p e new = subst (λ x. Splits (Kept o) id x (noting_view x) (issued_view x)) (sym e) (issue_base o id p new)

  -- the carried pass is handed out
  hand_base : (o : St) (id : ℕ) (p : PenView St) (c : PassView St) → p.carried ≡ Some c → Splits (Kept o) id (OfPen p) (OfPen (lets_go c p)) (OfPass (handed c p))
  hand_base o id p c has s k at =
      let k' = at_pen o s id p k at in
      let i = k'.pen_is in
      let fits : IsCarried p.opening p.noted p.lines p.owed p.kept_then c = subst (CarriedFits p.opening p.noted p.lines p.owed p.kept_then) has i.carried_fits in (
        id,
        lets_go c p,
        add_pass o s id p (lets_go c p) (handed c p) k' refl refl
            record { lines_issued = i.lines_issued; owed_issued = all_owed_without p.noted p.owed c.number i.owed_issued; kept_issued = i.kept_issued; carried_fits = tt }
            record {
              fits = record {
                opening_is = refl;
                is_noted = fits.is_noted;
                mine_is = completed_is p.opening p.noted p.owed p.kept_then p.lines c fits;
                rest = [];
                prefix = sym (append-nil p.lines);
                rest_is = sym (owed_without_same c.number p.owed);
                left_fits = left_kept p.lines c.number (kept_for c.number p.kept) (owed_to c.number (without c.number p.owed)) (owed_without_same c.number p.owed);
              };
              not_carried = tt;
            }
            (λ q f.
            let other : q.number ≢ c.number = subst (IsNotCarried q.number) has f.not_carried in (
              other,
              record {
                fits = record {
                  opening_is = f.fits.opening_is;
                  is_noted = f.fits.is_noted;
                  mine_is = f.fits.mine_is;
                  rest = f.fits.rest;
                  prefix = f.fits.prefix;
                  rest_is = f.fits.rest_is ∙ sym (owed_without_other q.number c.number p.owed other);
                  left_fits = left_move p.lines q.number q.left (kept_for q.number p.kept) (kept_for q.number p.kept) (owed_to q.number p.owed) (owed_to q.number (without c.number p.owed)) refl (owed_without_other q.number c.number p.owed other) f.fits.left_fits;
                };
                not_carried = tt;
              },
            )),
      )

  pub hand_at : (o : St) (id : ℕ) (v : View St) (p : PenView St) (c : PassView St) → v ≡ OfPen p → p.carried ≡ Some c → Splits (Kept o) id v (handing_view v) (handed_view v)
  hand_at o id v p c e has = subst (λ x. Splits (Kept o) id x (handing_view x) (handed_view x)) (sym e)
      (subst (λ x. Splits (Kept o) id (OfPen p) (OfPen (handing_by x p)) (handed_by x p)) (sym has) (hand_base o id p c has))

  -- a pass is taken in
  take_base : (o : St) (id other : ℕ) (p : PenView St) (q : PassView St) → Joins (Kept o) id (OfPen p) other (OfPass q) (OfPen (takes q p)) Spent
  take_base o id other p q s k at apart there =
      let k' = at_pen o s id p k at in
      let i = k'.pen_is in
      let w : View St = OfPen (takes q p) in
      let mine : (other ≡ k'.holder q.number) × IsOut p q = ⊎_elim (λ (t : (other ≡ id) × (w ≡ OfPass q)). absurd (apart t.0)) (λ (t : (other ≢ id) × (get_elem? s.views other ≡ some (OfPass q))). k'.each other (OfPass q) t.1) (at_set s.views id other w (OfPass q) there) in
      let f = mine.1.fits in (
        id,
        takes q p,
        record {
          holder = k'.holder;
          word = k'.word;
          opening_is = k'.opening_is;
          pen_is = record {
            lines_issued = i.lines_issued;
            owed_issued = i.owed_issued;
            kept_issued = i.kept_issued;
            carried_fits = record {
              opening_is = f.opening_is;
              is_noted = f.is_noted;
              rest = f.rest;
              written = [];
              prefix = f.prefix;
              mine_is = f.mine_is ∙ sym (append-nil (places q.number q.seen));
              rest_is = f.rest_is ∙ sym (append-nil (owed_to q.number p.owed));
              left_fits = f.left_fits;
            };
          };
          each = each_set (SeatFits id k'.holder (takes q p)) (set s.views id w) other Spent
              (λ j u ne e. each_set (λ j u. j ≢ other → SeatFits id k'.holder (takes q p) j u) s.views id w
              (λ j u ne' e' far. moved id k'.holder k'.holder p (takes q p) j u ne'
              (λ r h g. (
                h,
                record { fits = g.fits; not_carried = λ x. far (h ∙ ap k'.holder x ∙ sym mine.0) },
              ))
              (k'.each j u e'))
              (λ _. (refl, refl)) j u e ne)
              tt;
        },
      )

  pub take_at : (o : St) (id other : ℕ) (v w : View St) (p : PenView St) (q : PassView St) → v ≡ OfPen p → w ≡ OfPass q → Joins (Kept o) id v other w (taking_view v w) Spent
  take_at o id other v w p q e h = subst (λ (x : View St × View St). Joins (Kept o) id x.0 other x.1 (taking_view x.0 x.1) Spent) (λ i. (sym e i, sym h i)) (take_base o id other p q)

  -- a line is left with the pen
  leave_fits : (p : PenView St) (c : PassView St) (t : List ℕ) → p.carried ≡ Some c → (q : PassView St) → IsOut p q → IsOut (leaves_by (Some c) t p) q
  leave_fits p c t has q h =
      let f = h.fits in
      let other : q.number ≢ c.number = subst (IsNotCarried q.number) has h.not_carried in
      record {
        fits = record {
          opening_is = f.opening_is;
          is_noted = f.is_noted;
          mine_is = f.mine_is;
          rest = f.rest;
          prefix = f.prefix;
          rest_is = f.rest_is;
          left_fits = left_move p.lines q.number q.left (kept_for q.number p.kept) (kept_for q.number (p.kept ++ (c.number, t) ∷ [])) (owed_to q.number p.owed) (owed_to q.number p.owed) (kept_more_other q.number c.number t p.kept other) refl f.left_fits;
        };
        not_carried = h.not_carried;
      }

  pub leave_pen : (p : PenView St) (c : PassView St) (t : List ℕ) → p.carried ≡ Some c → IsPen p → IsPen (leaves_by (Some c) t p)
  leave_pen p c t has i =
      let fits : IsCarried p.opening p.noted p.lines p.owed p.kept_then c = subst (CarriedFits p.opening p.noted p.lines p.owed p.kept_then) has i.carried_fits in
      record {
        lines_issued = i.lines_issued;
        owed_issued = i.owed_issued;
        kept_issued = all_kept_last p.noted p.kept (c.number, t) i.kept_issued (c.session, fits.is_noted);
        carried_fits = i.carried_fits;
      }

  leave_base : (o : St) (slots id : ℕ) (p : PenView St) (b : List (ℕ × Step)) (c : PassView St) (t : List ℕ) (x : ℕ) → p.carried ≡ Some c → Allows (Kept o) slots id (OfPen p, b) 0 (λ n. either (eqb n x) x n) (left_line t (step slots 0 x x none) (OfPen p, b))
  leave_base o slots id p b c t x has s k len at bound =
      let k' = at_pen o s id p k at in
      let p' : PenView St = leaves_by (Some c) t p in
      let same : leaves t p ≡ p' = ap (λ y. leaves_by y t p) has in (
        OfPen p',
        keeps,
        tt,
        (
          id,
          p',
          set_pen o s id p p' (slice_set s.words 0 (either (eqb (slice_index s.words 0) x) x (slice_index s.words 0))) s.homes k' (word_after s.words (length p.lines) (length p.lines) (λ n. either (eqb n x) x n) k'.word (same_word x (length p.lines))) refl
              (leave_pen p c t has k'.pen_is)
              (leave_fits p c t has),
        ),
        ap (λ (y : PenView St). (OfPen y, b)) (sym same),
      )

  pub leave_at : (o : St) (slots id : ℕ) (me : Me Step (View St)) (p : PenView St) (c : PassView St) (t : List ℕ) (x : ℕ) → me.0 ≡ OfPen p → p.carried ≡ Some c → Allows (Kept o) slots id me 0 (λ n. either (eqb n x) x n) (left_line t (step slots 0 x x none) me)
  leave_at o slots id me p c t x e has = subst (λ v. Allows (Kept o) slots id (v, me.1) 0 (λ n. either (eqb n x) x n) (left_line t (step slots 0 x x none) (v, me.1))) (sym e) (leave_base o slots id p me.1 c t x has)
