-- Records of three versions, without some that all three have, and further ones.
use Rattle.std.proofs.Common.{◌≡◌, ℕ, ◌+◌, ◌<◌, ◌≤◌, Bool, true, false, cond, List, [], ◌∷◌, ◌++◌, length, take, get_or, append_assoc, take_all, ap, sym, ◌∙◌, refl, subst, arith, Result}
use Rattle.std.specs.Prelude.{OnOk}
use Rattle.std.specs.List.Sorted.{IsPermutation}
use Rattle.std.proofs.lemmas.List.{take_more, append-nil, get_or-map}
use Rattle.std.proofs.lemmas.List.Sorted.{IsPermutation-refl, IsPermutation-sym, IsPermutation-trans, IsPermutation-append, IsPermutation-append_right, IsPermutation-append_comm}
use Rattle.std.proofs.lemmas.Grind.{flat_map-append}
use Rattle.db_value.specs.declared.record.Record.{Record}
use Rattle.db_store.specs.Parts.{Part, part_at, no_part, no_slot, records_in, live_rows, rows_in}
use Rattle.field_merge.specs.declared.turns.Taken.{Taken}
use Rattle.field_merge.specs.declared.sides.Sides.{Sides}
use Rattle.field_merge.specs.Turns.{AreTaken}
use Rattle.field_merge.specs.Shared.{live_row, are_same, IsSplit, Takes, IsSplitAt}

-- ---- further records

more_rows : (xs bs cs us : List Record) → IsPermutation xs (bs ++ cs) → IsPermutation (xs ++ us) ((bs ++ us) ++ cs)
more_rows xs bs cs us h =
    let first : IsPermutation (xs ++ us) ((bs ++ cs) ++ us) = IsPermutation-append xs (bs ++ cs) us us h (IsPermutation-refl us) in
    let swapped : IsPermutation (bs ++ (cs ++ us)) (bs ++ (us ++ cs)) = IsPermutation-append_right bs (cs ++ us) (us ++ cs) (IsPermutation-append_comm cs us) in
    let around : IsPermutation ((bs ++ cs) ++ us) ((bs ++ us) ++ cs) = subst (λ (l : List Record). IsPermutation l ((bs ++ us) ++ cs)) (sym (append_assoc bs cs us)) (subst (λ (l : List Record). IsPermutation (bs ++ (cs ++ us)) l) (sym (append_assoc bs us cs)) swapped) in
    IsPermutation-trans (xs ++ us) ((bs ++ cs) ++ us) ((bs ++ us) ++ cs) first around

more_common : (xs bs cs us : List Record) → IsPermutation xs (bs ++ cs) → IsPermutation (xs ++ us) (bs ++ (cs ++ us))
more_common xs bs cs us h = subst (λ (l : List Record). IsPermutation (xs ++ us) l) (append_assoc bs cs us) (IsPermutation-append xs (bs ++ cs) us us h (IsPermutation-refl us))

-- each side gets its own
pub grown : (us vs ws : List Record) (old new : Sides) → new.base ≡ old.base ++ us → new.left ≡ old.left ++ vs → new.right ≡ old.right ++ ws → Takes us vs ws old new
grown us vs ws old new b l r = λ xs ys zs s. record {
  common = s.common;
  of_base = subst (λ (rows : List Record). IsPermutation (xs ++ us) (rows ++ s.common)) (sym b) (more_rows xs old.base s.common us s.of_base);
  of_left = subst (λ (rows : List Record). IsPermutation (ys ++ vs) (rows ++ s.common)) (sym l) (more_rows ys old.left s.common vs s.of_left);
  of_right = subst (λ (rows : List Record). IsPermutation (zs ++ ws) (rows ++ s.common)) (sym r) (more_rows zs old.right s.common ws s.of_right);
}

-- or all have them in common
pub alike : (us vs ws : List Record) (s : Sides) → us ≡ vs → vs ≡ ws → Takes us vs ws s s
alike us vs ws s e d = λ xs ys zs h. record {
  common = h.common ++ us;
  of_base = more_common xs s.base h.common us h.of_base;
  of_left = subst (λ (rows : List Record). IsPermutation (ys ++ rows) (s.left ++ (h.common ++ us))) e (more_common ys s.left h.common us h.of_left);
  of_right = subst (λ (rows : List Record). IsPermutation (zs ++ rows) (s.right ++ (h.common ++ us))) (e ∙ d) (more_common zs s.right h.common us h.of_right);
}

-- some, and then others
pub both_taken : (us vs ws us2 vs2 ws2 : List Record) (a b c : Sides) → Takes us vs ws a b → Takes us2 vs2 ws2 b c → Takes (us ++ us2) (vs ++ vs2) (ws ++ ws2) a c
both_taken us vs ws us2 vs2 ws2 a b c f k = λ xs ys zs s.
    let h : IsSplit ((xs ++ us) ++ us2) ((ys ++ vs) ++ vs2) ((zs ++ ws) ++ ws2) c = k (xs ++ us) (ys ++ vs) (zs ++ ws) (f xs ys zs s) in
    record {
      common = h.common;
      of_base = subst (λ (l : List Record). IsPermutation l (c.base ++ h.common)) (append_assoc xs us us2) h.of_base;
      of_left = subst (λ (l : List Record). IsPermutation l (c.left ++ h.common)) (append_assoc ys vs vs2) h.of_left;
      of_right = subst (λ (l : List Record). IsPermutation l (c.right ++ h.common)) (append_assoc zs ws ws2) h.of_right;
    }

pub taken_as : {A E : Type 0} (result : Result A E) (us vs ws us2 vs2 ws2 : List Record) (a b : Sides) → us ≡ us2 → vs ≡ vs2 → ws ≡ ws2 → OnOk result (Takes us vs ws a b) → OnOk result (Takes us2 vs2 ws2 a b)
taken_as result us vs ws us2 vs2 ws2 a b e d f h =
    subst (λ (l : List Record). OnOk result (Takes us2 vs2 l a b)) f (subst (λ (l : List Record). OnOk result (Takes us2 l ws a b)) d (subst (λ (l : List Record). OnOk result (Takes l vs ws a b)) e h))

-- ---- one slot more

live_append : (ss ts : List (Record × Bool)) → live_rows ss ++ live_rows ts ≡ live_rows (ss ++ ts)
live_append [] ts = refl
live_append (s ∷ ss) ts = elim s.1 as (λ b. cond b (s.0 ∷ live_rows ss) (live_rows ss) ++ live_rows ts ≡ cond b (s.0 ∷ live_rows (ss ++ ts)) (live_rows (ss ++ ts))) [
  | true ↦ ap (λ (rows : List Record). s.0 ∷ rows) (live_append ss ts)
  | false ↦ live_append ss ts
]

pub slot_more : (slots : List (Record × Bool)) (n : ℕ) → n < length slots → live_rows (take n slots) ++ live_rows (get_or slots n no_slot ∷ []) ≡ live_rows (take (n + 1) slots)
slot_more slots n h = live_append (take n slots) (get_or slots n no_slot ∷ []) ∙ sym (ap live_rows (take_more slots n no_slot h))

-- ---- one part more

pub part_more : (parts : List Part) (n : ℕ) → n < length parts → rows_in (take n parts) ++ live_rows (part_at parts n).slots ≡ rows_in (take (n + 1) parts)
part_more parts n h =
    ap (λ (rows : List Record). rows_in (take n parts) ++ rows) (sym (append-nil (live_rows (part_at parts n).slots)))
    ∙ sym (flat_map-append (λ (p : Part). live_rows p.slots) (take n parts) (part_at parts n ∷ []))
    ∙ sym (ap rows_in (take_more parts n no_part h))

pub all_parts : (parts : List Part) (n : ℕ) → length parts ≤ n → rows_in (take n parts) ≡ rows_in parts
all_parts parts n h = ap rows_in (take_all n parts h)

-- a part of one side, or of all three
pub split_more : (xs ys zs us vs ws xs2 ys2 zs2 : List Record) (a b : Sides) → xs ++ us ≡ xs2 → ys ++ vs ≡ ys2 → zs ++ ws ≡ zs2 → Takes us vs ws a b → IsSplit xs ys zs a → IsSplit xs2 ys2 zs2 b
split_more xs ys zs us vs ws xs2 ys2 zs2 a b e d f t s =
    let h : IsSplit (xs ++ us) (ys ++ vs) (zs ++ ws) b = t xs ys zs s in
    record {
      common = h.common;
      of_base = subst (λ (l : List Record). IsPermutation l (b.base ++ h.common)) e h.of_base;
      of_left = subst (λ (l : List Record). IsPermutation l (b.left ++ h.common)) d h.of_left;
      of_right = subst (λ (l : List Record). IsPermutation l (b.right ++ h.common)) f h.of_right;
    }

-- the same in another order
pub split_moved : (xs ys zs xs2 ys2 zs2 : List Record) (s : Sides) → IsPermutation xs xs2 → IsPermutation ys ys2 → IsPermutation zs zs2 → IsSplit xs ys zs s → IsSplit xs2 ys2 zs2 s
split_moved xs ys zs xs2 ys2 zs2 s p q r h = record {
  common = h.common;
  of_base = IsPermutation-trans xs2 xs (s.base ++ h.common) (IsPermutation-sym xs xs2 p) h.of_base;
  of_left = IsPermutation-trans ys2 ys (s.left ++ h.common) (IsPermutation-sym ys ys2 q) h.of_left;
  of_right = IsPermutation-trans zs2 zs (s.right ++ h.common) (IsPermutation-sym zs zs2 r) h.of_right;
}

-- the records of each side in another order
pub split_sorted : (xs ys zs : List Record) (old new : Sides) → IsPermutation old.base new.base → IsPermutation old.left new.left → IsPermutation old.right new.right → IsSplit xs ys zs old → IsSplit xs ys zs new
split_sorted xs ys zs old new p q r h = record {
  common = h.common;
  of_base = IsPermutation-trans xs (old.base ++ h.common) (new.base ++ h.common) h.of_base (IsPermutation-append old.base new.base h.common h.common p (IsPermutation-refl h.common));
  of_left = IsPermutation-trans ys (old.left ++ h.common) (new.left ++ h.common) h.of_left (IsPermutation-append old.left new.left h.common h.common q (IsPermutation-refl h.common));
  of_right = IsPermutation-trans zs (old.right ++ h.common) (new.right ++ h.common) h.of_right (IsPermutation-append old.right new.right h.common h.common r (IsPermutation-refl h.common));
}

-- ---- a slot that all three have

pub same_record : (p q : Part) (slot : ℕ) → records_in p ≡ records_in q → length p.slots ≡ length q.slots → slot < length p.slots → (get_or p.slots slot no_slot).0 ≡ (get_or q.slots slot no_slot).0
same_record p q slot e n h =
    sym (get_or-map (λ (s : Record × Bool). s.0) p.slots slot no_slot no_slot.0 h)
    ∙ ap (λ (rows : List Record). get_or rows slot no_slot.0) e
    ∙ get_or-map (λ (s : Record × Bool). s.0) q.slots slot no_slot no_slot.0 (omega (arith, h, n))

-- live in all three, or in none
pub same_live : (b l r : Bool) (x y z : Record) → are_same b l r ≡ true → y ≡ x → y ≡ z → (live_row b x ≡ live_row l y) × (live_row l y ≡ live_row r z)
same_live true true true x y z e p q = (ap (λ (row : Record). row ∷ []) (sym p), ap (λ (row : Record). row ∷ []) q)
same_live true true false x y z e p q = absurd cc
same_live true false r x y z e p q = absurd cc
same_live false true r x y z e p q = absurd cc
same_live false false true x y z e p q = absurd cc
same_live false false false x y z e p q = (refl, refl)

-- ---- parts, slot by slot

pub rows_more : (old mid new : List Record) (slots : List (Record × Bool)) (n : ℕ) → n < length slots → mid ≡ old ++ live_rows (take n slots) → new ≡ mid ++ live_rows (get_or slots n no_slot ∷ []) → new ≡ old ++ live_rows (take (n + 1) slots)
rows_more old mid new slots n h e d =
    let one : List Record = live_rows (get_or slots n no_slot ∷ []) in
    d ∙ ap (λ (rows : List Record). rows ++ one) e ∙ append_assoc old (live_rows (take n slots)) one ∙ ap (λ (rows : List Record). old ++ rows) (slot_more slots n h)

pub slots_more : (ss ts us : List (Record × Bool)) (n : ℕ) (a b c : Sides) → n < length ss → n < length ts → n < length us
    → Takes (live_rows (take n ss)) (live_rows (take n ts)) (live_rows (take n us)) a b
    → Takes (live_rows (get_or ss n no_slot ∷ [])) (live_rows (get_or ts n no_slot ∷ [])) (live_rows (get_or us n no_slot ∷ [])) b c
    → Takes (live_rows (take (n + 1) ss)) (live_rows (take (n + 1) ts)) (live_rows (take (n + 1) us)) a c
slots_more ss ts us n a b c h k l f e = λ xs ys zs s.
    let one = both_taken _ _ _ _ _ _ a b c f e xs ys zs s in
    record {
      common = one.common;
      of_base = subst (λ (rows : List Record). IsPermutation (xs ++ rows) (c.base ++ one.common)) (slot_more ss n h) one.of_base;
      of_left = subst (λ (rows : List Record). IsPermutation (ys ++ rows) (c.left ++ one.common)) (slot_more ts n k) one.of_left;
      of_right = subst (λ (rows : List Record). IsPermutation (zs ++ rows) (c.right ++ one.common)) (slot_more us n l) one.of_right;
    }

pub all_slots : (ss ts us : List (Record × Bool)) (n : ℕ) (a b : Sides) → length ss ≤ n → length ts ≤ n → length us ≤ n
    → Takes (live_rows (take n ss)) (live_rows (take n ts)) (live_rows (take n us)) a b → Takes (live_rows ss) (live_rows ts) (live_rows us) a b
all_slots ss ts us n a b h k l f =
    subst (λ (l : List Record). Takes (live_rows ss) (live_rows ts) l a b) (ap live_rows (take_all n us l)) (subst (λ (l : List Record). Takes (live_rows ss) l (live_rows (take n us)) a b) (ap live_rows (take_all n ts k)) (subst (λ (l : List Record). Takes l (live_rows (take n ts)) (live_rows (take n us)) a b) (ap live_rows (take_all n ss h)) f))

-- ---- views, part by part

same_rows : (xs : List Record) → xs ≡ xs ++ []
same_rows xs = sym (append-nil xs)

module _ (bs ls rs : List Part) (t : Taken) (a b : Sides) (so_far : IsSplitAt bs ls rs t a) where
  abbrev xs : List Record
  xs = rows_in (take t.base bs)

  abbrev ys : List Record
  ys = rows_in (take t.left ls)

  abbrev zs : List Record
  zs = rows_in (take t.right rs)

  pub base_part : t.base < length bs → b.base ≡ a.base ++ live_rows (part_at bs t.base).slots → b.left ≡ a.left → b.right ≡ a.right
      → IsSplit (rows_in (take (t.base + 1) bs)) (rows_in (take t.left ls)) (rows_in (take t.right rs)) b
  base_part h e d f = split_more xs ys zs (live_rows (part_at bs t.base).slots) [] [] _ _ _ a b (part_more bs t.base h) (append-nil ys) (append-nil zs)
      (grown (live_rows (part_at bs t.base).slots) [] [] a b e (d ∙ same_rows a.left) (f ∙ same_rows a.right)) so_far

  pub left_part : t.left < length ls → b.base ≡ a.base → b.left ≡ a.left ++ live_rows (part_at ls t.left).slots → b.right ≡ a.right
      → IsSplit (rows_in (take t.base bs)) (rows_in (take (t.left + 1) ls)) (rows_in (take t.right rs)) b
  left_part h e d f = split_more xs ys zs [] (live_rows (part_at ls t.left).slots) [] _ _ _ a b (append-nil xs) (part_more ls t.left h) (append-nil zs)
      (grown [] (live_rows (part_at ls t.left).slots) [] a b (e ∙ same_rows a.base) d (f ∙ same_rows a.right)) so_far

  pub right_part : t.right < length rs → b.base ≡ a.base → b.left ≡ a.left → b.right ≡ a.right ++ live_rows (part_at rs t.right).slots
      → IsSplit (rows_in (take t.base bs)) (rows_in (take t.left ls)) (rows_in (take (t.right + 1) rs)) b
  right_part h e d f = split_more xs ys zs [] [] (live_rows (part_at rs t.right).slots) _ _ _ a b (append-nil xs) (append-nil ys) (part_more rs t.right h)
      (grown [] [] (live_rows (part_at rs t.right).slots) a b (e ∙ same_rows a.base) (d ∙ same_rows a.left) f) so_far

  pub shared_part : t.base < length bs → t.left < length ls → t.right < length rs
      → Takes (live_rows (part_at bs t.base).slots) (live_rows (part_at ls t.left).slots) (live_rows (part_at rs t.right).slots) a b
      → IsSplit (rows_in (take (t.base + 1) bs)) (rows_in (take (t.left + 1) ls)) (rows_in (take (t.right + 1) rs)) b
  shared_part h k l f = split_more xs ys zs _ _ _ _ _ _ a b (part_more bs t.base h) (part_more ls t.left k) (part_more rs t.right l) f so_far

  -- all of them
  pub whole_split : (us vs ws : List Record) → AreTaken bs ls rs t → IsPermutation (rows_in bs) us → IsPermutation (rows_in ls) vs → IsPermutation (rows_in rs) ws → IsSplit us vs ws a
  whole_split us vs ws e p q r = split_moved xs ys zs us vs ws a
      (subst (λ (l : List Record). IsPermutation l us) (sym (all_parts bs t.base e.of_base)) p)
      (subst (λ (l : List Record). IsPermutation l vs) (sym (all_parts ls t.left e.of_left)) q)
      (subst (λ (l : List Record). IsPermutation l ws) (sym (all_parts rs t.right e.of_right)) r) so_far
