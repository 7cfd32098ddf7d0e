-- Which slots runs have, and what they tell of them.
use Rattle.std.proofs.Common.{Global, ◌≡◌, inl, inr, ℕ, zero, suc, ◌+◌, ◌<◌, ◌≤◌, List, [], ◌∷◌, ◌++◌, length, map, drop, Option, Some, None, refl, arith, ap, sym, ◌∙◌, subst, get_or}
use Rattle.std.specs.Arc.{arc_value}
use Rattle.std.specs.declared.sync.Arc.{Arc}
use Rattle.std.specs.List.{Contains}
use Rattle.std.specs.List.Sorted.{IsPermutation}
use Rattle.std.proofs.lemmas.Bool.{cases_lt}
use Rattle.std.proofs.lemmas.List.{get_or_append_left, get_or_push, length_push}
use Rattle.std.proofs.lemmas.List.Elements.{All-append, All-contains, All-nil, All-push, All-weaker, Contains-append_left, Contains-append_right, Contains-push}
use Rattle.std.proofs.lemmas.List.Sorted.{All-permutation, Contains-permutation}
use Rattle.db_value.specs.declared.record.Record.{Record}
use Rattle.record_page.specs.Page.{record_at}
use Rattle.segment.specs.declared.slot.KeyedSlot.{KeyedSlot}
use Rattle.segment.specs.declared.run.Run.{Run}
use Rattle.segment.specs.Keys.{AreOf, AreRuns, AreSlots, IsLastIn, LacksKey, runs_of}
use Rattle.segment.specs.declared.keys.Runs.{Runs}
use Rattle.segment.specs.declared.keys.KeySlots.{KeySlots}
use Rattle.segment.specs.Slots.{IsGreatest}

abbrev no_row : Record
no_row = record { key = 0; fields = [] }

-- what is known of each
abbrev Fits : List Record → ℕ → ℕ → KeyedSlot → Type 0
Fits records from to keyed = (from ≤ keyed.slot) × ((keyed.slot < to) × ((record_at records keyed.slot).key ≡ keyed.key))

-- no slots
pub of_none : (records : List Record) (n : ℕ) → AreOf records n n []
of_none records n = record {
  ordered = omega arith;
  each = λ slot f t. absurd (omega (arith, f, t));
  only = All-nil (Fits records n n);
}

-- the same slots in another order
pub of_sorted : (records : List Record) (from to : ℕ) (xs ys : List KeyedSlot) → IsPermutation xs ys → AreOf records from to xs → AreOf records from to ys
of_sorted records from to xs ys p is = record {
  ordered = is.ordered;
  each = λ slot f t. Contains-permutation xs ys (record { key = (record_at records slot).key; slot = slot }) p (is.each slot f t);
  only = All-permutation (Fits records from to) xs ys p is.only;
}

-- two spans of slots, the later first
pub of_both : (records : List Record) (from mid to : ℕ) (xs ys : List KeyedSlot) → AreOf records mid to xs → AreOf records from mid ys → AreOf records from to (xs ++ ys)
of_both records from mid to xs ys late early = record {
  ordered = omega (arith, a, b);
  each = λ slot f t. elim (cases_lt slot mid) [
    | inl lt ↦ Contains-append_right xs ys (record { key = (record_at records slot).key; slot = slot }) (early.each slot f lt)
    | inr ge ↦ Contains-append_left xs ys (record { key = (record_at records slot).key; slot = slot }) (late.each slot ge t)
  ];
  only = All-append (Fits records from to) xs ys
      (All-weaker (Fits records mid to) (Fits records from to) (λ x h. let l = h.0 in (omega (arith, a, l), h.1)) xs late.only)
      (All-weaker (Fits records from mid) (Fits records from to) (λ x h. let l = h.1.0 in (h.0, (omega (arith, b, l), h.1.1))) ys early.only);
}
  where
    a : from ≤ mid
    a = early.ordered

    b : mid ≤ to
    b = late.ordered

-- one slot more
pub of_more : (records : List Record) (from to : ℕ) (slots : List KeyedSlot) → AreOf records from to slots → AreOf records from (to + 1) (slots ++ record { key = (record_at records to).key; slot = to } ∷ [])
of_more records from to slots is = record {
  ordered = omega (arith, o);
  each = λ slot f t. elim (cases_lt slot to) [
    | inl lt ↦ Contains-append_left slots (last ∷ []) (record { key = (record_at records slot).key; slot = slot }) (is.each slot f lt)
    | inr ge ↦ let e : to ≡ slot = omega (arith, ge, t) in subst (λ (n : ℕ). Contains (slots ++ last ∷ []) (record { key = (record_at records n).key; slot = n })) e (Contains-push slots last)
  ];
  only = All-push (Fits records from (to + 1)) slots last
      (All-weaker (Fits records from to) (Fits records from (to + 1)) (λ x h. let l = h.1.0 in (h.0, (omega (arith, l), h.1.1))) slots is.only)
      (o, (omega arith, refl));
}
  where
    last : KeyedSlot
    last = record { key = (record_at records to).key; slot = to }

    o : from ≤ to
    o = is.ordered

-- ---- further records

key_stays : (records more : List Record) (slot : ℕ) → slot < length records → (record_at (records ++ more) slot).key ≡ (record_at records slot).key
key_stays records more slot h = ap (λ (r : Record). r.key) (get_or_append_left records more no_row slot h)

pub of_longer : (records more : List Record) (from to : ℕ) (slots : List KeyedSlot) → to ≤ length records → AreOf records from to slots → AreOf (records ++ more) from to slots
of_longer records more from to slots w is = record {
  ordered = is.ordered;
  each = λ slot f t. subst (λ (k : ℕ). Contains slots (record { key = k; slot = slot })) (sym (key_stays records more slot (omega (arith, t, w)))) (is.each slot f t);
  only = All-weaker (Fits records from to) (Fits (records ++ more) from to) (λ x h. let l = h.1.0 in (h.0, (h.1.0, key_stays records more x.slot (omega (arith, l, w)) ∙ h.1.1))) slots is.only;
}

pub runs_longer : (records more : List Record) (runs : List Run) (to : ℕ) → to ≤ length records → AreRuns records runs to → AreRuns (records ++ more) runs to
runs_longer records more [] to w is = is
runs_longer records more (run ∷ older) to w is =
    let o = is.0.ordered in
    (of_longer records more run.from to run.slots.items w is.0, runs_longer records more older run.from (omega (arith, o, w)) is.1)

-- ---- the greatest slot of a key in a span

pub last_among : (records : List Record) (from to key bound : ℕ) (slots : List KeyedSlot) (last : Option ℕ) → AreOf records from to slots → IsGreatest slots key bound last → IsLastIn records from to key bound last
last_among records from to key bound slots None is g = λ slot f t b e.
    let n = All-contains (λ (x : KeyedSlot). x.key ≡ key → bound ≤ x.slot) slots (record { key = (record_at records slot).key; slot = slot }) g (is.each slot f t) e in
    absurd (omega (arith, b, n))
last_among records from to key bound slots (Some last) is g =
    let fits = All-contains (Fits records from to) slots (record { key = key; slot = last }) is.only g.1.0 in
    let begun : from ≤ last = fits.0 in (
      g.0,
      (
        fits.1.0,
        (
          fits.1.1,
          λ slot l t b e.
              let n = All-contains (λ (x : KeyedSlot). x.key ≡ key → x.slot < bound → x.slot ≤ last) slots (record { key = (record_at records slot).key; slot = slot }) g.1.1 (is.each slot (omega (arith, begun, l)) t) e b in
              absurd (omega (arith, n, l)),
        ),
      ),
    )

-- all slots are at the bound or past it
pub last_past : (records : List Record) (from to key bound : ℕ) → bound ≤ from → IsLastIn records from to key bound None
last_past records from to key bound h = λ slot f t b e. absurd (omega (arith, h, f, b))

-- past all records
pub lacks_all : (records : List Record) (key bound : ℕ) → bound ≤ length records → LacksKey records key (length records) bound
lacks_all records key bound w slot f t = absurd (omega (arith, w, f, t))

pub lacks_newest : (records : List Record) (from key bound : ℕ) → bound ≤ length records → IsLastIn records from (length records) key bound None → LacksKey records key from bound
lacks_newest records from key bound w is slot f t = is slot f (omega (arith, w, t)) t

-- ---- a loop over runs

-- the run that a link leads to, and the older ones
pub run_there : (links : List (Arc Run Global)) (i : ℕ) (link : Arc Run Global) → i < length links → link ≡ get_or links i link → drop i (map arc_value links) ≡ arc_value link ∷ drop (i + 1) (map arc_value links)
run_there [] i link h e = absurd (omega (arith, h))
run_there (x ∷ xs) zero link h e = ap (λ (l : Arc Run Global). arc_value l ∷ map arc_value xs) (sym e)
run_there (x ∷ xs) (suc i) link h e =
    let n : suc (i + 1) ≡ suc i + 1 = omega arith in
    run_there xs i link (omega (arith, h)) e ∙ ap (λ (k : ℕ). arc_value link ∷ drop k (map arc_value (x ∷ xs))) n

pub no_run_left : (links : List (Arc Run Global)) (i : ℕ) → length links ≤ i → drop i (map arc_value links) ≡ []
no_run_left [] zero h = refl
no_run_left [] (suc i) h = refl
no_run_left (x ∷ xs) zero h = absurd (omega (arith, h))
no_run_left (x ∷ xs) (suc i) h = no_run_left xs i (omega (arith, h))

-- ---- all slots

-- one run more, and no newest slots
pub slots_with_run : (records : List Record) (slots : KeySlots) (run : Run) (older : List Run) → slots.from ≡ length records → slots.newest.items ≡ [] → runs_of slots ≡ run ∷ older → AreRuns records (run ∷ older) (length records) → AreSlots slots records
slots_with_run records slots run older from none runs is = record {
  newest = subst (λ (n : ℕ). AreOf records n (length records) slots.newest.items) (sym from) (subst (AreOf records (length records) (length records)) (sym none) (of_none records (length records)));
  runs = subst (λ (n : ℕ). AreRuns records (runs_of slots) n) (sym from) (subst (λ (rs : List Run). AreRuns records rs (length records)) (sym runs) is);
}

-- one slot more
pub slots_more : (keys next : KeySlots) (records : List Record) (row : Record) → next.runs ≡ keys.runs → next.from ≡ keys.from
    → next.newest.items ≡ keys.newest.items ++ record { key = row.key; slot = length records } ∷ [] → AreSlots keys records → AreSlots next (records ++ row ∷ [])
slots_more keys next records row runs from newest is = record {
  newest = subst (λ (n : ℕ). AreOf all n (length all) next.newest.items) (sym from)
      (subst (λ (n : ℕ). AreOf all keys.from n next.newest.items) (sym count)
      (subst (AreOf all keys.from (length records + 1)) (sym newest)
      (subst (λ (k : ℕ). AreOf all keys.from (length records + 1) (keys.newest.items ++ record { key = k; slot = length records } ∷ [])) key
      (of_more all keys.from (length records) keys.newest.items (of_longer records (row ∷ []) keys.from (length records) keys.newest.items (omega arith) is.newest)))));
  runs = subst (λ (n : ℕ). AreRuns all (runs_of next) n) (sym from)
      (subst (λ (rs : List Run). AreRuns all rs keys.from) (ap (λ (r : Arc Runs Global). map arc_value (arc_value r).items.items) (sym runs))
      (runs_longer records (row ∷ []) (runs_of keys) keys.from is.newest.ordered is.runs));
}
  where
    all : List Record
    all = records ++ row ∷ []

    count : length all ≡ length records + 1
    count = length_push records row

    key : (record_at all (length records)).key ≡ row.key
    key = ap (λ (r : Record). r.key) (get_or_push records row no_row (length records) refl)
