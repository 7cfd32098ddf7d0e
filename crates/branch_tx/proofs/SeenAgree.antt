-- What a transaction sees agrees: its working table with the views that it was lent, and these with each other.
use Rattle.std.proofs.Common.{◌≡◌, ℕ, zero, suc, ◌<◌, ◌≤◌, Bool, true, false, List, [], ◌∷◌, length, map, get_or, refl, ap, sym, subst, ◌∙◌, arith, inl, inr, ◌⊎◌}
use Rattle.std.specs.Prelude.{nat_lt}
use Rattle.std.specs.List.{All, AllByRecursion}
use Rattle.std.proofs.lemmas.Bool.{ltb-true, ltb-false}
use Rattle.std.proofs.lemmas.List.Elements.{recursion_from_All}
use Rattle.db_value.specs.Schema.{most_relations}
use Rattle.db_value.specs.declared.record.Record.{Record}
use Rattle.db_store.specs.declared.view.View.{Ghosts}
use Rattle.db_store.specs.declared.seen.Seen.{Seen}
use Rattle.db_store.specs.declared.seen.Seen.TheVariants.{Kept, Own}
use Rattle.db_store.specs.declared.work.Work.{Work}
use Rattle.work_region.specs.declared.rows.RowFrame.{RowFrame as Touch}
use Rattle.db_store.specs.Touched.{touches_at}
use Rattle.db_store.specs.Parts.{Part, part_at, records_in}
use Rattle.db_store.specs.WorkParts.{masked_slot, own_part, parts_over}
use Rattle.db_store.specs.SeenState.{seen_parts}
use Rattle.db_store.proofs.WorkLemmas.{part_below, part_last}
use Rattle.multi_scan.specs.Agree.{AgreeOn, AllAgree}
use Rattle.multi_scan.specs.Places.{shown}
use Rattle.branch_tx.specs.Shown.{Shown, parts_at, parts_in, ViewsAgree}
use Rattle.branch_tx.specs.Granted.{Granted, views_of}
use Rattle.branch_tx.specs.SeenFrom.{IsWorkOf, IsFrom, AreFrom, parts_below, LackOwnId, IsApart}
use Rattle.branch_tx.proofs.ShownLemmas.{shown_at}

-- masks leave the records of slots
masked_records : (ts : List Touch) (ss : List (Record × Bool)) → map (λ s. s.0) (map (masked_slot ts) ss) ≡ map (λ s. s.0) ss
masked_records ts [] = refl
masked_records ts (s ∷ ss) = ap (λ (rows : List Record). s.0 ∷ rows) (masked_records ts ss)

-- masks leave ids
pub masked_ids : (parts : List Part) (r : ℕ) (ts : List Touch) (count : ℕ) → count ≤ length parts → LackOwnId (parts_over parts r ts) count → LackOwnId parts count
masked_ids parts r ts count h l i k e = l i k (ap (λ (p : Part). p.id) (part_below parts r ts i (omega (arith, h, k))) ∙ e)

-- a part of a working table is one of below, with the same id and the same records, or its own
pub record IsBelow (some below : Part) : Type 0 where
  pub id : some.id ≡ below.id
  pub records : records_in some ≡ records_in below

abbrev pub Which : List Part → ℕ → List Touch → Part → ℕ → Type 0
Which parts r ts part i = ((i < length parts) × IsBelow part (part_at parts i)) ⊎ (part ≡ own_part r ts)

pub which : (parts : List Part) (r : ℕ) (ts : List Touch) (i : ℕ) → i < length (parts_over parts r ts) → Which parts r ts (part_at (parts_over parts r ts) i) i
which parts r ts i h = by (nat_lt i (length parts)) refl
  where
    by : (b : Bool) → nat_lt i (length parts) ≡ b → Which parts r ts (part_at (parts_over parts r ts) i) i
    by true e =
        let k = ltb-true i (length parts) e in
        let is = part_below parts r ts i k in
        inl (k, record { id = ap (λ (p : Part). p.id) is; records = ap records_in is ∙ masked_records (touches_at ts r) (part_at parts i).slots })
    by false e = inr (part_last parts r ts i (ltb-false i (length parts) e) h)

module _ {V : Type 0} {g : Ghosts V} (t : Granted) (r : ℕ) (small : r < most_relations) (agree : ViewsAgree (views_of t)) (w : Work V g) (is : IsWorkOf t w) where
  -- the parts below are those of a view
  base_at : (s : Seen V g) → IsFrom t w s → (v : ℕ) × (parts_in (views_of t) v r ≡ parts_below s r)
  base_at (Kept view) (v, e) = (suc v, ap (λ (x : Shown). parts_at x r) e ∙ shown_at (g.parts_of view.now) r small)
  base_at (Own work) e = (0, ap (λ (x : Shown). parts_at x r) (sym is.below) ∙ shown_at (g.parts_of w.view) r small ∙ ap (λ (x : Work V g). g.parts_of x.view r) (sym e))

  below_agree : (s u : Seen V g) → IsFrom t w s → IsFrom t w u → AgreeOn (parts_below s r) (parts_below u r)
  below_agree s u f h =
      let a = base_at s f in
      let b = base_at u h in
      subst (λ (ps : List Part). AgreeOn ps (parts_below u r)) a.1 (subst (AgreeOn (parts_in (views_of t) a.0 r)) b.1 (agree r a.0 b.0))

  -- what it sees, part by part
  seen_which : (s : Seen V g) → IsFrom t w s → (i : ℕ) → i < length (seen_parts s r) → Which (parts_below s r) r w.touched.keys (part_at (seen_parts s r) i) i
  seen_which (Kept view) f i h = inl (h, record { id = refl; records = refl })
  seen_which (Own work) f i h = subst (λ (x : Work V g). Which (g.parts_of work.now.view r) r x.touched.keys (part_at (seen_parts (Own work) r) i) i) f (which (g.parts_of work.now.view r) r work.now.touched.keys i h)

  pair_by : (some others : List Part) (p q : Part) (i j : ℕ) → AgreeOn some others → LackOwnId some (length some) → LackOwnId others (length others) → p.id ≡ q.id
      → Which some r w.touched.keys p i → Which others r w.touched.keys q j → records_in p ≡ records_in q
  pair_by some others p q i j a l m e (inl x) (inl y) = x.1.records ∙ a i j x.0 y.0 (sym x.1.id ∙ e ∙ y.1.id) ∙ sym y.1.records
  pair_by some others p q i j a l m e (inl x) (inr y) = absurd (l i x.0 (sym x.1.id ∙ e ∙ ap (λ (z : Part). z.id) y))
  pair_by some others p q i j a l m e (inr x) (inl y) = absurd (m j y.0 (sym y.1.id ∙ sym e ∙ ap (λ (z : Part). z.id) x))
  pair_by some others p q i j a l m e (inr x) (inr y) = ap records_in x ∙ sym (ap records_in y)

  -- whatever two of them are
  pair : (s u : Seen V g) → IsFrom t w s → IsFrom t w u → IsApart s r → IsApart u r → AgreeOn (seen_parts s r) (seen_parts u r)
  pair s u f h l m i j x y e =
      pair_by (parts_below s r) (parts_below u r) (part_at (seen_parts s r) i) (part_at (seen_parts u r) j) i j (below_agree s u f h) l m e (seen_which s f i x) (seen_which u h j y)

  -- what stands at a place of a list
  abbrev Good : List Part → Type 0
  Good ps = ((s : Seen V g) × IsFrom t w s × IsApart s r × (ps ≡ seen_parts s r)) ⊎ (ps ≡ [])

  good_at : (views : List (Seen V g)) → AllByRecursion (IsFrom t w) views → AllByRecursion (λ s. IsApart s r) views → (v : ℕ) → Good (get_or (shown seen_parts r views) v [])
  good_at [] f a v = inr refl
  good_at (s ∷ views) f a zero = inl (s, f.0, a.0, refl)
  good_at (s ∷ views) f a (suc v) = good_at views f.1 a.1 v

  both : (ps qs : List Part) → Good ps → Good qs → AgreeOn ps qs
  both ps qs (inl (s, f, l, e)) (inl (u, h, m, d)) = subst (λ (xs : List Part). AgreeOn xs qs) (sym e) (subst (AgreeOn (seen_parts s r)) (sym d) (pair s u f h l m))
  both ps qs (inr e) b = subst (λ (xs : List Part). AgreeOn xs qs) (sym e) (λ i j h. absurd (omega (arith, h)))
  both ps qs (inl a) (inr d) = subst (AgreeOn ps) (sym d) (λ i j h k. absurd (omega (arith, k)))

  all_by : (views : List (Seen V g)) → All (IsFrom t w) views → All (λ s. IsApart s r) views → AllAgree (shown seen_parts r views)
  all_by views f a v u =
      let fs = recursion_from_All (IsFrom t w) views f in
      let bs = recursion_from_All (λ (s : Seen V g). IsApart s r) views a in
      both (get_or (shown seen_parts r views) v []) (get_or (shown seen_parts r views) u []) (good_at views fs bs v) (good_at views fs bs u)

-- all that it sees agrees
pub seen_agree : {V : Type 0} {g : Ghosts V} (t : Granted) (r : ℕ) (views : List (Seen V g)) → r < most_relations → ViewsAgree (views_of t) → AreFrom t views → All (λ s. IsApart s r) views → AllAgree (shown seen_parts r views)
seen_agree {V} {g} t r views small agree (w, is, from) apart = all_by {V = V} {g = g} t r small agree w is views from apart
