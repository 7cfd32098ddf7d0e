-- How the file that doesn't count stands, and what its images are.
use Rattle.std.proofs.Common.{◌≡◌, ◌⊎◌, inl, inr, ℕ, ◌+◌, ◌<◌, ◌^◌, nat_le, nat_eq, Bool, true, false, List, [], ◌∷◌, ◌++◌, ◌&&◌, ◌||◌, length, get_or, take, drop, refl, sym, ◌∙◌, ap, subst, arith, append_assoc, length-append}
use Rattle.std.proofs.lemmas.Bool.{and_parts, eqb-true}
use Rattle.std.specs.Cmp.Lexicographic.{pointwise}
use Rattle.db_value.specs.declared.entry.Entry.{Entry}
use Rattle.db_store.specs.State.{State}
use Rattle.db_outside.specs.Disk.{Begins, InAll}
use Rattle.gate_journal.specs.Gate.{IsShut, IsBehind, IsOpen, IsNoneOrWhole}
use Rattle.gate_journal.specs.Leaves.{IsSameBehind}
use Rattle.gate_journal.proofs.Gates.{none_or_whole, behind_there, shut_behind}
use Rattle.image_text.specs.declared.image.Format.TheVariants.{One, Two}
use Rattle.generations.specs.declared.other_gate.OtherGate.{OtherGate}
use Rattle.generations.specs.declared.other_gate.OtherGate.TheVariants.{Unread, Low, Shut, Owed}
use Rattle.generations.specs.Asides.{IsFront, IsBeside, IsLow, is_owed, is_unread, is_shut, StandsBy, IsBesideOrNext, IsGateOf}
use Rattle.generations.specs.Ends.{Ends}
use Rattle.generations.specs.Files.{mark, is_mark, has_header, generation_of}
use Rattle.generations.specs.FrontLaws.{header_there, generation_there}

-- a file with a header begins with an open gate
first_byte : (c : List ℕ) → has_header c ≡ true → c ≡ 1 ∷ drop 1 c
first_byte [] is = absurd (cc is)
first_byte (x ∷ xs) is =
    let parts = and_parts (nat_le 57 (length (x ∷ xs))) (is_mark (take 9 (x ∷ xs))) is in
    ap (λ (k : ℕ). k ∷ xs) (eqb-true x 1 (one_first (nat_eq x 1) (pointwise nat_eq (take 8 xs) (drop 1 (mark One))) (pointwise nat_eq (take 8 xs) (drop 1 (mark Two))) parts.1))
  where
    one_first : (p q r : Bool) → ((p && q) || (p && r)) ≡ true → p ≡ true
    one_first true q r either = refl
    one_first false q r either = absurd (cc either)

open_gate : (c : List ℕ) → has_header c ≡ true → get_or c 0 1 ≡ 1
open_gate c is = ap (λ (l : List ℕ). get_or l 0 1) (first_byte c is)

-- a file whose gate is closed doesn't count
shut_beside : (second : Bool) (g : ℕ) (d : List ℕ) → IsShut 0 d → IsBeside second g d
shut_beside false g d shut = λ header. absurd (shut (open_gate d header))
shut_beside true g d shut = λ header. absurd (shut (open_gate d header))

low_beside : (second : Bool) (g : ℕ) (d : List ℕ) → IsLow second g d → IsBeside second g d
low_beside false g d low = λ header. subst (λ (l : List ℕ). IsBeside false g l) (sym (first_byte d header)) low header
low_beside true g d low = λ header. subst (λ (l : List ℕ). IsBeside true g l) (sym (first_byte d header)) low header

low_same : (second : Bool) (g : ℕ) (c d : List ℕ) → drop 1 c ≡ drop 1 d → IsLow second g d → IsLow second g c
low_same second g c d same low = subst (λ (l : List ℕ). IsBeside second g (1 ∷ l)) (sym same) low

pub low_empty : (second : Bool) (g : ℕ) → IsLow second g []
low_empty false g = λ header. absurd (cc header)
low_empty true g = λ header. absurd (cc header)

opened_is : (d : List ℕ) → get_or d 0 0 ≡ 1 → d ≡ 1 ∷ drop 1 d
opened_is [] one = absurd (omega (arith, one))
opened_is (x ∷ xs) one = ap (λ (k : ℕ). k ∷ xs) one

-- an empty file, and one with an open gate that doesn't count, doesn't count whatever its gate
pub low_from : (second : Bool) (g : ℕ) (d : List ℕ) → IsBeside second g d → (d ≡ []) ⊎ (get_or d 0 0 ≡ 1) → IsLow second g d
low_from second g d beside (inl none) = subst (λ (l : List ℕ). IsLow second g l) (sym none) (low_empty second g)
low_from second g d beside (inr one) = subst (λ (l : List ℕ). IsBeside second g l) (opened_is d one) beside

-- a file that begins with a front of this generation is earlier than the next one
module _ (g : ℕ) (s : State) (es : List Entry) (front c : List ℕ) (is : IsFront front g s es) (begins : Begins front c) where
  header_here : has_header c ≡ true
  header_here = ap has_header begins.1 ∙ header_there front begins.0 is.header

  generation_here : generation_of c ≡ g
  generation_here = ap generation_of begins.1 ∙ generation_there front begins.0 is.header ∙ is.generation

  pub front_beside : (second : Bool) → IsBeside second (g + 1) c
  front_beside false = λ header. omega (arith, generation_here)
  front_beside true = λ header. omega (arith, generation_here)

  pub front_low : (second : Bool) → IsLow second (g + 1) c
  front_low second = subst (λ (l : List ℕ). IsBeside second (g + 1) l) (first_byte c header_here) (front_beside second)

-- a whole file behind an open gate
pub next_ends : (back d : List ℕ) → IsOpen 0 (back ++ 0 ∷ []) d → Ends (1 ∷ back) d
next_ends back d open_there = record {
  spelled = (0 ∷ open_there.0, open_there.1 ∙ ap (λ (l : List ℕ). 1 ∷ l) (append_assoc back (0 ∷ []) open_there.0));
  shut = shut_behind 0 (length (1 ∷ back)) back d (omega (arith, length-append back (0 ∷ []))) open_there;
}

pub next_or : (second : Bool) (g : ℕ) (s : State) (back d : List ℕ) → g < 2 ^ 63 → IsFront (1 ∷ back) (g + 1) s [] → IsNoneOrWhole 0 (back ++ 0 ∷ []) d → IsBesideOrNext second g s d
next_or second g s back d more is (inl shut) = inl (shut_beside second g d shut)
next_or second g s back d more is (inr open_there) = inr (more, 1 ∷ back, is, next_ends back d open_there)

behind_or : (second : Bool) (g : ℕ) (s : State) (back d : List ℕ) → g < 2 ^ 63 → IsFront (1 ∷ back) (g + 1) s [] → IsBehind 0 (back ++ 0 ∷ []) d → IsBesideOrNext second g s d
behind_or second g s back d more is behind = next_or second g s back d more is (none_or_whole 0 (back ++ 0 ∷ []) d (omega (arith, behind_there 0 0 back d behind)) behind)

-- what images are, by how they stand
pub stands_or : (gate : OtherGate) (second : Bool) (g : ℕ) (s : State) (image : List ℕ → Type 0) → StandsBy gate second g s image → InAll image (IsBesideOrNext second g s)
stands_or Unread second g s image stands d now = inl (stands d now)
stands_or Low second g s image stands d now = inl (low_beside second g d (stands d now))
stands_or Shut second g s image stands d now = inl (shut_beside second g d (stands d now))
stands_or Owed second g s image stands d now = behind_or second g s stands.back d stands.more stands.is_front (stands.stands d now)

-- where no gate is owed, none counts
pub stands_beside : (gate : OtherGate) (second : Bool) (g : ℕ) (s : State) (image : List ℕ → Type 0) → is_owed gate ≡ false → StandsBy gate second g s image → InAll image (IsBeside second g)
stands_beside Unread second g s image owed stands = stands
stands_beside Low second g s image owed stands = λ d now. low_beside second g d (stands d now)
stands_beside Shut second g s image owed stands = λ d now. shut_beside second g d (stands d now)
stands_beside Owed second g s image owed stands = absurd (cc owed)

-- where no gate is owed, they stand so beside any state
pub stands_any : (gate : OtherGate) (second : Bool) (g : ℕ) (s t : State) (image : List ℕ → Type 0) → is_owed gate ≡ false → StandsBy gate second g s image → StandsBy gate second g t image
stands_any Unread second g s t image owed stands = stands
stands_any Low second g s t image owed stands = stands
stands_any Shut second g s t image owed stands = stands
stands_any Owed second g s t image owed stands = absurd (cc owed)

-- fewer images stand as before
pub fewer_stand : (gate : OtherGate) (second : Bool) (g : ℕ) (s : State) (old new : List ℕ → Type 0) → ((d : List ℕ) → new d → old d) → StandsBy gate second g s old → StandsBy gate second g s new
fewer_stand Unread second g s old new none stands = λ d now. stands d (none d now)
fewer_stand Low second g s old new none stands = λ d now. stands d (none d now)
fewer_stand Shut second g s old new none stands = λ d now. stands d (none d now)
fewer_stand Owed second g s old new none stands = record { more = stands.more; back = stands.back; is_front = stands.is_front; stands = λ d now. stands.stands d (none d now) }

-- while a gate that is not surely closed is closed
pub while_closed : (gate : OtherGate) (second : Bool) (g : ℕ) (s : State) (image : List ℕ → Type 0) → is_unread gate ≡ false → is_shut gate ≡ false → StandsBy gate second g s image
    → (c : List ℕ) → IsSameBehind image c → IsBesideOrNext second g s c
while_closed Unread second g s image read open_there stands c same = absurd (cc read)
while_closed Low second g s image read open_there stands c same = inl (low_beside second g c (low_same second g c same.0 same.2 (stands same.0 same.1)))
while_closed Shut second g s image read open_there stands c same = absurd (cc open_there)
while_closed Owed second g s image read open_there stands c same =
    let was = stands.stands same.0 same.1 in behind_or second g s stands.back c stands.more stands.is_front (was.0, same.2 ∙ was.1)

-- after that failed
pub still_stands : (gate : OtherGate) (second : Bool) (g : ℕ) (s : State) (old new : List ℕ → Type 0) → is_unread gate ≡ false → is_shut gate ≡ false → ((c : List ℕ) → new c → IsSameBehind old c) → StandsBy gate second g s old
    → StandsBy gate second g s new
still_stands Unread second g s old new read open_there same stands = absurd (cc read)
still_stands Low second g s old new read open_there same stands = λ c now. let was = same c now in low_same second g c was.0 was.2 (stands was.0 was.1)
still_stands Shut second g s old new read open_there same stands = absurd (cc open_there)
still_stands Owed second g s old new read open_there same stands = record {
  more = stands.more;
  back = stands.back;
  is_front = stands.is_front;
  stands = λ c now. let was = same c now in let stood = stands.stands was.0 was.1 in (stood.0, was.2 ∙ stood.1);
}

-- a file that was read
pub read_stands : (gate : OtherGate) (second : Bool) (g : ℕ) (s : State) (old new : List ℕ → Type 0) → is_owed gate ≡ false → ((d : List ℕ) → new d → old d) → ((d : List ℕ) → new d → IsGateOf gate d) → StandsBy Unread second g s old → StandsBy gate second g s new
read_stands Unread second g s old new owed none says stands = λ d now. stands d (none d now)
read_stands Low second g s old new owed none says stands = λ d now. low_from second g d (stands d (none d now)) (says d now)
read_stands Shut second g s old new owed none says stands = λ d now. says d now
read_stands Owed second g s old new owed none says stands = absurd (cc owed)

pub unread_is : (gate : OtherGate) → is_unread gate ≡ true → gate ≡ Unread
unread_is Unread is = refl
unread_is Low is = absurd (cc is)
unread_is Shut is = absurd (cc is)
unread_is Owed is = absurd (cc is)

pub shut_by : (gate : OtherGate) (d : List ℕ) → gate ≡ Shut → IsGateOf gate d → IsShut 0 d
shut_by gate d is says = subst (λ (x : OtherGate). IsGateOf x d) is says

-- behind an open gate
pub open_behind : (bytes d : List ℕ) → IsOpen 0 bytes d → IsBehind 0 bytes d
open_behind bytes d open_there = (open_there.0, ap (λ (l : List ℕ). drop 1 l) open_there.1)
