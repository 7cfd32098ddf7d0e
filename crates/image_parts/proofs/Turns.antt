-- What a bit that is set or cleared does to the counts of a walk.
use Rattle.std.proofs.Common.{◌≡◌, ℕ, zero, suc, ◌+◌, ◌-◌, ◌<◌, ◌≤◌, ◌==◌, ◌&&◌, Bool, true, false, cond, List, [], ◌∷◌, length, get_or, set, replicate, refl, sym, ap, inl, inr, subst, ◌∙◌, arith}
use Rattle.std.specs.Prelude.{nat_lt}
use Rattle.std.proofs.lemmas.Bool.{eqb-true, eqb-false, cases_lt, lt-ltb, le-ltb}
use Rattle.std.proofs.lemmas.List.{length-set, length-replicate, get_or-set_same, get_or-set_other}
use Rattle.image_parts.specs.declared.keys.Walk.{Walk}
use Rattle.image_parts.specs.Walk.{weigh, times, live, again, AreSmall, Agrees}

same_as : (x k : ℕ) (p q : Bool) → (x == k) ≡ p → (k == x) ≡ q → p ≡ q
same_as x k true true e f = refl
same_as x k false false e f = refl
same_as x k true false e f = let is : x ≡ k = eqb-true x k e in sym (subst (λ y. (x == y) ≡ true) (sym is) (subst (λ y. (x == y) ≡ true) is (subst (λ y. (x == y) ≡ true) (sym is) e))) ∙ subst (λ y. (y == y) ≡ false) refl (subst (λ y. (y == x) ≡ false) (sym is) f)
same_as x k false true e f = let is : k ≡ x = eqb-true k x f in sym e ∙ subst (λ y. (x == y) ≡ true) (sym is) (subst (λ y. (y == x) ≡ true) is f)

-- equality of numbers goes both ways
eqb_both : (x k : ℕ) → (x == k) ≡ (k == x)
eqb_both x k = same_as x k (x == k) (k == x) refl refl

-- ---- one bit more

pub times_more : (k : ℕ) (keys : List ℕ) (bits : List Bool) (place : ℕ) → place < length keys → length bits ≡ length keys → get_or bits place false ≡ false
    → times k keys (set bits place true) ≡ weigh (get_or keys place 0 == k) + times k keys bits
times_more k [] bits place lt len e = absurd (omega (arith, lt))
times_more k (x ∷ xs) [] place lt len e = absurd (omega (arith, len))
times_more k (x ∷ xs) (true ∷ bits) zero lt len e = absurd cc
times_more k (x ∷ xs) (false ∷ bits) zero lt len e = omega arith
times_more k (x ∷ xs) (b ∷ bits) (suc place) lt len e =
    let h : times k xs (set bits place true) ≡ weigh (get_or xs place 0 == k) + times k xs bits = times_more k xs bits place (omega (arith, lt)) (omega (arith, len)) e in
    omega (arith, h)

pub live_more : (bits : List Bool) (place : ℕ) → place < length bits → get_or bits place false ≡ false → live (set bits place true) ≡ live bits + 1
live_more [] place lt e = absurd (omega (arith, lt))
live_more (true ∷ bits) zero lt e = absurd cc
live_more (false ∷ bits) zero lt e = omega arith
live_more (b ∷ bits) (suc place) lt e =
    let h : live (set bits place true) ≡ live bits + 1 = live_more bits place (omega (arith, lt)) e in
    omega (arith, h)

pub past_none : (t : ℕ) → weigh (nat_lt 0 (0 + t)) ≡ weigh (nat_lt 0 t)
past_none t = let same : 0 + t ≡ t = omega arith in ap (λ (n : ℕ). weigh (nat_lt 0 n)) same

pub past_one : (t : ℕ) → weigh (nat_lt 0 (1 + t)) ≡ 1
past_one t = rw (lt-ltb 0 (1 + t) (omega arith)) refl

swapped : (q : Bool) (tx tk a : ℕ) → (q ≡ true → tk ≡ tx) → weigh (nat_lt 0 (weigh q + tx)) + (weigh (nat_lt 0 tk) + a) ≡ weigh (nat_lt 0 (weigh q + tk)) + (weigh (nat_lt 0 tx) + a)
swapped true tx tk a same = omega (arith, past_one tx, past_one tk, ap (λ (t : ℕ). weigh (nat_lt 0 t)) (same refl))
swapped false tx tk a same = omega (arith, past_none tx, past_none tk)

again_at : (b : Bool) (x k tx tk more a : ℕ) → (k ≡ x → tk ≡ tx) → more ≡ weigh (k == x) + tx → weigh (b && nat_lt 0 more) + (weigh (nat_lt 0 tk) + a) ≡ weigh (nat_lt 0 (weigh (b && (x == k)) + tk)) + (weigh (b && nat_lt 0 tx) + a)
again_at false x k tx tk more a same e = omega (arith, past_none tk)
again_at true x k tx tk more a same e = rw (e, eqb_both x k) (swapped (k == x) tx tk a (λ h. same (eqb-true k x h)))

pub again_more : (keys : List ℕ) (bits : List Bool) (place : ℕ) → place < length keys → length bits ≡ length keys → get_or bits place false ≡ false
    → again keys (set bits place true) ≡ weigh (nat_lt 0 (times (get_or keys place 0) keys bits)) + again keys bits
again_more [] bits place lt len e = absurd (omega (arith, lt))
again_more (x ∷ xs) [] place lt len e = absurd (omega (arith, len))
again_more (x ∷ xs) (true ∷ bits) zero lt len e = absurd cc
again_more (x ∷ xs) (false ∷ bits) zero lt len e = omega (arith, past_none (times x xs bits))
again_more (x ∷ xs) (b ∷ bits) (suc place) lt len e =
    let k : ℕ = get_or xs place 0 in
    let in_xs : place < length xs = omega (arith, lt) in
    let as_long : length bits ≡ length xs = omega (arith, len) in
    ap (λ (n : ℕ). weigh (b && nat_lt 0 (times x xs (set bits place true))) + n) (again_more xs bits place in_xs as_long e)
    ∙ again_at b x (get_or xs place 0) (times x xs bits) (times (get_or xs place 0) xs bits) (times x xs (set bits place true)) (again xs bits) (λ h. ap (λ (y : ℕ). times y xs bits) h) (times_more x xs bits place in_xs as_long e)

-- ---- bounds

pub weigh_few : (b : Bool) → weigh b ≤ 1
weigh_few true = omega arith
weigh_few false = omega arith

pub times_few : (k : ℕ) (keys : List ℕ) (bits : List Bool) → times k keys bits ≤ live bits
times_few k [] bits = omega arith
times_few k (x ∷ xs) [] = omega arith
times_few k (x ∷ xs) (false ∷ bits) = let h = times_few k xs bits in omega (arith, h)
times_few k (x ∷ xs) (true ∷ bits) = by (x == k) (times_few k xs bits)
  where
    by : (q : Bool) → times k xs bits ≤ live bits → weigh q + times k xs bits ≤ 1 + live bits
    by true h = omega (arith, h)
    by false h = omega (arith, h)

pub again_few : (keys : List ℕ) (bits : List Bool) → again keys bits ≤ live bits
again_few [] bits = omega arith
again_few (x ∷ xs) [] = omega arith
again_few (x ∷ xs) (false ∷ bits) = let h = again_few xs bits in omega (arith, h)
again_few (x ∷ xs) (true ∷ bits) = by (nat_lt 0 (times x xs bits)) (again_few xs bits)
  where
    by : (q : Bool) → again xs bits ≤ live bits → weigh q + again xs bits ≤ 1 + live bits
    by true h = omega (arith, h)
    by false h = omega (arith, h)

pub live_within : (bits : List Bool) → live bits ≤ length bits
live_within [] = omega arith
live_within (true ∷ bits) = let h = live_within bits in omega (arith, h)
live_within (false ∷ bits) = let h = live_within bits in omega (arith, h)

pub live_room : (bits : List Bool) (place : ℕ) → place < length bits → get_or bits place false ≡ false → live bits < length bits
live_room bits place lt e =
    let more = live_more bits place lt e in
    let within = live_within (set bits place true) in
    let len : length (set bits place true) ≡ length bits = length-set bits place true in
    omega (arith, more, within, len)

-- ---- the walk

-- the count of a number, once that of one number is set
set_count : (counts : List ℕ) (number count q : ℕ) (p : Bool) → number < length counts → (number == q) ≡ p → get_or (set counts number count) q 0 ≡ cond p count (get_or counts q 0)
set_count counts number count q true lt e = let is : number ≡ q = eqb-true number q e in subst (λ (k : ℕ). get_or (set counts number count) k 0 ≡ count) is (get_or-set_same counts number count 0 lt)
set_count counts number count q false lt e = get_or-set_other counts number q count 0 (λ h. eqb-false number q e (sym h))

counts_with : (q : Bool) (k key count : ℕ) (t o : ℕ) → (q ≡ true → count ≡ t) → o ≡ t → cond q (count + 1) o ≡ weigh q + t
counts_with true k key count t o same e = omega (arith, same refl)
counts_with false k key count t o same e = omega (arith, e)

other_default : (xs : List ℕ) (i d e : ℕ) → i < length xs → get_or xs i d ≡ get_or xs i e
other_default [] i d e lt = absurd (omega (arith, lt))
other_default (x ∷ xs) zero d e lt = refl
other_default (x ∷ xs) (suc i) d e lt = other_default xs i d e (omega (arith, lt))

-- the count that stands there, whatever stands past the last one
pub count_at : (keys : List ℕ) (w : Walk) (place count : ℕ) → place < length keys → Agrees keys w → count ≡ get_or w.counts.items (get_or keys place 0) count → count ≡ get_or w.counts.items (get_or keys place 0) 0
count_at keys w place count lt a is = is ∙ other_default w.counts.items (get_or keys place 0) count 0 (rw a.wide (a.small place lt))

-- a bit is set
pub added : (keys : List ℕ) (w v : Walk) (place count : ℕ) → place < length keys → Agrees keys w → get_or w.bits.items place false ≡ false
    → v.bits.items ≡ set w.bits.items place true → count ≡ get_or w.counts.items (get_or keys place 0) 0
    → v.counts.items ≡ set w.counts.items (get_or keys place 0) (count + 1)
    → v.live ≡ w.live + 1 → v.again ≡ w.again + weigh (nat_lt 0 count) → Agrees keys v
added keys w v place count lt a clear bits is counts live_is again_is =
    let key : ℕ = get_or keys place 0 in
    let within : place < length w.bits.items = rw a.len lt in
    let there : get_or keys place 0 < length w.counts.items = rw a.wide (a.small place lt) in
    record {
      small = a.small;
      len = ap length bits ∙ length-set w.bits.items place true ∙ a.len;
      wide = ap length counts ∙ length-set w.counts.items (get_or keys place 0) (count + 1) ∙ a.wide;
      counts = λ q. ap (λ (l : List ℕ). get_or l q 0) counts ∙ set_count w.counts.items (get_or keys place 0) (count + 1) q (get_or keys place 0 == q) there refl
          ∙ counts_with (get_or keys place 0 == q) (get_or keys place 0) q count (times q keys w.bits.items) (get_or w.counts.items q 0)
          (λ h. is ∙ a.counts (get_or keys place 0) ∙ ap (λ (y : ℕ). times y keys w.bits.items) (eqb-true (get_or keys place 0) q h)) (a.counts q)
          ∙ sym (times_more q keys w.bits.items place lt a.len clear) ∙ ap (λ (l : List Bool). times q keys l) (sym bits);
      live = live_is ∙ ap (λ (n : ℕ). n + 1) a.live ∙ sym (live_more w.bits.items place within clear) ∙ ap (λ (l : List Bool). live l) (sym bits);
      again =
          let more = again_more keys w.bits.items place lt a.len clear in
          let same : count ≡ times (get_or keys place 0) keys w.bits.items = is ∙ a.counts (get_or keys place 0) in
          let own = ap (λ (n : ℕ). weigh (nat_lt 0 n)) same in
          let all : v.again ≡ again keys (set w.bits.items place true) = omega (arith, again_is, a.again, more, own) in
          all ∙ ap (λ (l : List Bool). again keys l) (sym bits);
    }

-- the bits with one cleared, and set again
set_back : (bits : List Bool) (place : ℕ) → place < length bits → get_or bits place false ≡ true → set (set bits place false) place true ≡ bits
set_back [] place lt e = absurd (omega (arith, lt))
set_back (b ∷ bits) zero lt e = ap (λ c. c ∷ bits) (sym e)
set_back (b ∷ bits) (suc place) lt e = ap (λ l. b ∷ l) (set_back bits place (omega (arith, lt)) e)

less_count : (q : Bool) (count t t' o : ℕ) → (q ≡ true → count ≡ t) → o ≡ t → t ≡ weigh q + t' → cond q (count - 1) o ≡ t'
less_count true count t t' o same e is = omega (arith, same refl, is)
less_count false count t t' o same e is = omega (arith, e, is)

again_less : (count t : ℕ) → count ≡ 1 + t → weigh (nat_lt 1 count) ≡ weigh (nat_lt 0 t)
again_less count t e =
    elim (cases_lt 0 t) [
      | inl lt ↦ rw (lt-ltb 1 count (omega (arith, e, lt)), lt-ltb 0 t lt) refl
      | inr le ↦ rw (le-ltb 1 count (omega (arith, e, le)), le-ltb 0 t le) refl
    ]

eqb_self : (k : ℕ) → weigh (k == k) ≡ 1
eqb_self k = by (k == k) refl
  where
    by : (q : Bool) → (k == k) ≡ q → weigh q ≡ 1
    by true e = refl
    by false e = absurd (eqb-false k k e refl)

-- a bit is cleared
pub record Cleared (keys : List ℕ) (w : Walk) (place : ℕ) : Type 0 where
  pub each : (q : ℕ) → times q keys w.bits.items ≡ weigh (get_or keys place 0 == q) + times q keys (set w.bits.items place false)
  pub few : live w.bits.items ≡ live (set w.bits.items place false) + 1
  pub more : again keys w.bits.items ≡ weigh (nat_lt 0 (times (get_or keys place 0) keys (set w.bits.items place false))) + again keys (set w.bits.items place false)

pub cleared_is : (keys : List ℕ) (w : Walk) (place : ℕ) → place < length keys → Agrees keys w → get_or w.bits.items place false ≡ true → Cleared keys w place
cleared_is keys w place lt a e =
    let within : place < length w.bits.items = rw a.len lt in
    let back = set_back w.bits.items place within e in
    let len : length (set w.bits.items place false) ≡ length keys = length-set w.bits.items place false ∙ a.len in
    let clear : get_or (set w.bits.items place false) place false ≡ false = get_or-set_same w.bits.items place false false within in
    record {
      each = λ q. ap (λ (l : List Bool). times q keys l) (sym back) ∙ times_more q keys (set w.bits.items place false) place lt len clear;
      few = ap (λ (l : List Bool). live l) (sym back) ∙ live_more (set w.bits.items place false) place (rw len lt) clear;
      more = ap (λ (l : List Bool). again keys l) (sym back) ∙ again_more keys (set w.bits.items place false) place lt len clear;
    }

pub cleared : (keys : List ℕ) (w v : Walk) (place count : ℕ) → place < length keys → Agrees keys w → get_or w.bits.items place false ≡ true
    → v.bits.items ≡ set w.bits.items place false → count ≡ get_or w.counts.items (get_or keys place 0) 0
    → v.counts.items ≡ set w.counts.items (get_or keys place 0) (count - 1)
    → v.live ≡ w.live - 1 → v.again ≡ w.again - weigh (nat_lt 1 count) → Agrees keys v
cleared keys w v place count lt a e bits is counts live_is again_is =
    let c = cleared_is keys w place lt a e in
    let there : get_or keys place 0 < length w.counts.items = rw a.wide (a.small place lt) in
    let same : count ≡ times (get_or keys place 0) keys w.bits.items = is ∙ a.counts (get_or keys place 0) in
    let one : count ≡ 1 + times (get_or keys place 0) keys (set w.bits.items place false) = same ∙ c.each (get_or keys place 0) ∙ ap (λ (n : ℕ). n + times (get_or keys place 0) keys (set w.bits.items place false)) (eqb_self (get_or keys place 0)) in
    record {
      small = a.small;
      len = ap length bits ∙ length-set w.bits.items place false ∙ a.len;
      wide = ap length counts ∙ length-set w.counts.items (get_or keys place 0) (count - 1) ∙ a.wide;
      counts = λ q. ap (λ (l : List ℕ). get_or l q 0) counts ∙ set_count w.counts.items (get_or keys place 0) (count - 1) q (get_or keys place 0 == q) there refl
          ∙ less_count (get_or keys place 0 == q) count (times q keys w.bits.items) (times q keys (set w.bits.items place false)) (get_or w.counts.items q 0)
          (λ h. same ∙ ap (λ (y : ℕ). times y keys w.bits.items) (eqb-true (get_or keys place 0) q h)) (a.counts q) (c.each q)
          ∙ ap (λ (l : List Bool). times q keys l) (sym bits);
      live = (let all : v.live ≡ live (set w.bits.items place false) = omega (arith, live_is, a.live, c.few) in all) ∙ ap (λ (l : List Bool). live l) (sym bits);
      again =
          let own = again_less count (times (get_or keys place 0) keys (set w.bits.items place false)) one in
          let all : v.again ≡ again keys (set w.bits.items place false) = omega (arith, again_is, a.again, c.more, own) in
          all ∙ ap (λ (l : List Bool). again keys l) (sym bits);
    }

-- a cleared bit was counted
pub some_count : (keys : List ℕ) (w : Walk) (place count : ℕ) → place < length keys → Agrees keys w → get_or w.bits.items place false ≡ true → count ≡ get_or w.counts.items (get_or keys place 0) 0
    → (1 ≤ count) × (1 ≤ w.live) × (weigh (nat_lt 1 count) ≤ w.again)
some_count keys w place count lt a e is =
    let c = cleared_is keys w place lt a e in
    let same : count ≡ times (get_or keys place 0) keys w.bits.items = is ∙ a.counts (get_or keys place 0) in
    let one : count ≡ 1 + times (get_or keys place 0) keys (set w.bits.items place false) = same ∙ c.each (get_or keys place 0) ∙ ap (λ (n : ℕ). n + times (get_or keys place 0) keys (set w.bits.items place false)) (eqb_self (get_or keys place 0)) in
    let own = again_less count (times (get_or keys place 0) keys (set w.bits.items place false)) one in
    (omega (arith, one), omega (arith, a.live, c.few), omega (arith, a.again, c.more, own))

-- and there is room to count one more
pub count_room : (keys : List ℕ) (w : Walk) (place count : ℕ) → place < length keys → Agrees keys w → get_or w.bits.items place false ≡ false → count ≡ get_or w.counts.items (get_or keys place 0) 0
    → (count < length w.bits.items) × (w.live < length w.bits.items) × (w.again < length w.bits.items)
count_room keys w place count lt a e is =
    let within : place < length w.bits.items = rw a.len lt in
    let room = live_room w.bits.items place within e in
    let few = times_few (get_or keys place 0) keys w.bits.items in
    let fewer = again_few keys w.bits.items in
    (omega (arith, is, a.counts (get_or keys place 0), few, room), omega (arith, a.live, room), omega (arith, a.again, fewer, room))

-- no bit is set
none_times : (k : ℕ) (keys : List ℕ) (n : ℕ) → times k keys (replicate n false) ≡ 0
none_times k [] n = refl
none_times k (x ∷ xs) zero = refl
none_times k (x ∷ xs) (suc n) = let h = none_times k xs n in omega (arith, h)

none_again : (keys : List ℕ) (n : ℕ) → again keys (replicate n false) ≡ 0
none_again [] n = refl
none_again (x ∷ xs) zero = refl
none_again (x ∷ xs) (suc n) = let h = none_again xs n in omega (arith, h)

none_live : (n : ℕ) → live (replicate n false) ≡ 0
none_live zero = refl
none_live (suc n) = let h = none_live n in omega (arith, h)

none_count : (n k d : ℕ) → get_or (replicate n d) k d ≡ d
none_count zero k d = refl
none_count (suc n) zero d = refl
none_count (suc n) (suc k) d = none_count n k d

pub none_set : (keys : List ℕ) (w : Walk) (n : ℕ) → length keys ≡ n → AreSmall keys → w.bits.items ≡ replicate n false → w.counts.items ≡ replicate n 0 → w.live ≡ 0 → w.again ≡ 0 → Agrees keys w
none_set keys w n len small bits counts live_is again_is =
    record {
      small = small;
      len = ap length bits ∙ length-replicate n false ∙ sym len;
      wide = ap length counts ∙ length-replicate n 0 ∙ sym len;
      counts = λ q. ap (λ (l : List ℕ). get_or l q 0) counts ∙ none_count n q 0 ∙ sym (none_times q keys n) ∙ ap (λ (l : List Bool). times q keys l) (sym bits);
      live = live_is ∙ sym (none_live n) ∙ ap (λ (l : List Bool). live l) (sym bits);
      again = again_is ∙ sym (none_again keys n) ∙ ap (λ (l : List Bool). again keys l) (sym bits);
    }
