-- What an opened dataset keeps.
use Rattle.std.proofs.Common.{◌≡◌, ◌≢◌, ℕ, ◌<◌, ◌≤◌, ◌&&◌, nat_lt, cond, Bool, true, false, List, refl, sym, ◌∙◌, ap, subst, arith, Option, Some, None}
use Rattle.db_value.specs.declared.entry.Entry.{Entry}
use Rattle.db_store.specs.State.{State}
use Rattle.db_outside.specs.Disk.{Begins, IsAllOnDisk, InAll}
use Rattle.gate_journal.specs.Gate.{IsShut}
use Rattle.generations.specs.Files.{Outcome, opened, no_header, counts, has_header, generation_of, file_reads, counting, reads, number_of}
use Rattle.generations.specs.declared.other_gate.OtherGate.{OtherGate}
use Rattle.generations.specs.declared.other_gate.OtherGate.TheVariants.{Unread}
use Rattle.generations.specs.Asides.{IsFront, IsBeside, StandsBy, is_owed}
use Rattle.generations.specs.Fronts.{Keeps}
use Rattle.generations.specs.Picks.{of_two}
use Rattle.generations.proofs.Back.{found}

-- which file counts, from what the two are read as
pub record Counted (second : Bool) (g : ℕ) (o : Outcome) (c d : List ℕ) : Type 0 where
  pub header : has_header (of_two second c d) ≡ true
  pub generation : generation_of (of_two second c d) ≡ g
  pub is : file_reads (of_two second c d) ≡ o
  pub beside : IsBeside second g (of_two second d c)

counts_is : (m n g h : ℕ) (o p : Outcome) → counts m g o ≡ counts n h p → (m ≡ n) × (g ≡ h) × (o ≡ p)
counts_is m n g h o p is = (cc is, cc is, cc is)

not_less : (a b : ℕ) → nat_lt a b ≡ false → b ≤ a
not_less a b is = search (arith, is)

less : (a b : ℕ) → nat_lt a b ≡ true → a < b
less a b is = search (arith, is)

module _ (c d : List ℕ) (g : ℕ) (o : Outcome) where
  first_counts : has_header c ≡ true → (has_header d ≡ true → generation_of d ≤ generation_of c) → counting 0 c ≡ counts 0 g o → Counted false g o c d
  first_counts header le is =
      let parts = counts_is 0 0 (generation_of c) g (file_reads c) o is in
      record { header = header; generation = parts.1; is = parts.2; beside = λ there. subst (λ (n : ℕ). generation_of d ≤ n) parts.1 (le there) }

  second_counts : has_header d ≡ true → (has_header c ≡ true → generation_of c < generation_of d) → counting 1 d ≡ counts 1 g o → Counted true g o c d
  second_counts header lt is =
      let parts = counts_is 1 1 (generation_of d) g (file_reads d) o is in
      record { header = header; generation = parts.1; is = parts.2; beside = λ there. subst (λ (n : ℕ). generation_of c < n) parts.1 (lt there) }

  wrong_number : (m n h : ℕ) (p : Outcome) → m ≢ n → counts m h p ≡ counts n g o → ⊥
  wrong_number m n h p differ is = differ (counts_is m n h g p o is).0

  by_tests : (x y z : Bool) → has_header c ≡ x → has_header d ≡ y → nat_lt (generation_of c) (generation_of d) ≡ z → (second : Bool)
      → cond x (cond (y && z) (counting 1 d) (counting 0 c)) (cond y (counting 1 d) no_header) ≡ counts (number_of second) g o → Counted second g o c d
  by_tests true true true p q r true is = second_counts q (λ _. less (generation_of c) (generation_of d) r) is
  by_tests true true true p q r false is = absurd (wrong_number 1 0 (generation_of d) (file_reads d) (λ e. omega (arith, e)) is)
  by_tests true true false p q r true is = absurd (wrong_number 0 1 (generation_of c) (file_reads c) (λ e. omega (arith, e)) is)
  by_tests true true false p q r false is = first_counts p (λ _. not_less (generation_of c) (generation_of d) r) is
  by_tests true false z p q r true is = absurd (wrong_number 0 1 (generation_of c) (file_reads c) (λ e. omega (arith, e)) is)
  by_tests true false z p q r false is = first_counts p (λ there. let bad : true ≡ false = sym there ∙ q in absurd (cc bad)) is
  by_tests false true z p q r true is = second_counts q (λ there. let bad : true ≡ false = sym there ∙ p in absurd (cc bad)) is
  by_tests false true z p q r false is = absurd (wrong_number 1 0 (generation_of d) (file_reads d) (λ e. omega (arith, e)) is)
  by_tests false false z p q r second is = absurd (cc is)

  pub counted_by : (second : Bool) → reads c d ≡ counts (number_of second) g o → Counted second g o c d
  counted_by second is = by_tests (has_header c) (has_header d) (nat_lt (generation_of c) (generation_of d)) refl refl refl second is

-- where both disks have on them what a read gives, the dataset keeps its state
pub keeps_it : (second : Bool) (g at : ℕ) (clean : Bool) (gate : OtherGate) (image beside : List ℕ → Type 0) (s : State) (es : List Entry) (c d : List ℕ) → clean ≡ true → gate ≡ Unread → reads c d ≡ counts (number_of second) g (opened s es at)
    → InAll image (λ i. i ≡ of_two second c d) → InAll beside (λ i. i ≡ of_two second d c) → Keeps second g at clean gate image beside s es None
keeps_it second g at clean gate image beside s es c d is_clean unread is all all_beside =
    let counted = counted_by c d g (opened s es at) second is in
    let f = found (of_two second c d) s es at counted.header counted.is in
    let aside : StandsBy Unread second g s beside = λ i now. subst (λ (l : List ℕ). IsBeside second g l) (sym (all_beside i now)) counted.beside in
    record {
      file = record {
        front = f.front;
        is_front = subst (λ (n : ℕ). IsFront f.front n s es) counted.generation f.is_front;
        kept = record {
          place = f.place;
          begins = λ i now. subst (λ (l : List ℕ). Begins f.front l) (sym (all i now)) f.ends.spelled;
          shut = λ _. (refl, λ i now. subst (λ (l : List ℕ). IsShut at l) (sym (all i now)) (subst (λ (n : ℕ). IsShut n (of_two second c d)) (sym f.place) f.ends.shut));
          behind = λ unclean. let bad : true ≡ false = sym is_clean ∙ unclean in absurd (cc bad);
        };
        fits = λ body none. let bad : None ≡ Some body = none in absurd (cc bad);
      };
      gate_is = ap is_owed unread;
      other = subst (λ (x : OtherGate). StandsBy x second g s beside) (sym unread) aside;
    }

some_same : (x y : List ℕ) → Some x ≡ Some y → x ≡ y
some_same x y is = cc is

-- the one image of a disk that was synced and then only read
pub one_image : (seen_old seen_new : Option (List ℕ)) (image : List ℕ → Type 0) (c : List ℕ) → seen_old ≡ Some c → seen_new ≡ seen_old → IsAllOnDisk seen_new image → InAll image (λ i. i ≡ c)
one_image seen_old seen_new image c told stays all i now = some_same i c (sym (all i now) ∙ stays ∙ told)

-- of two disks in their order the one that counts and the one beside it
pub file_of : {D : Type 0} (q : Bool) (file beside : D) → cond q (cond q file beside) (cond q beside file) ≡ file
file_of true file beside = refl
file_of false file beside = refl

pub beside_of : {D : Type 0} (q : Bool) (file beside : D) → cond q (cond q beside file) (cond q file beside) ≡ beside
beside_of true file beside = refl
beside_of false file beside = refl

pub all_two : {D : Type 0} (image : D → List ℕ → Type 0) (q : Bool) (first second disk : D) (c d : List ℕ) → disk ≡ cond q second first → InAll (image first) (λ i. i ≡ c) → InAll (image second) (λ i. i ≡ d) → InAll (image disk) (λ i. i ≡ of_two q c d)
all_two image true first second disk c d is all_first all_second i now = all_second i (subst (λ x. image x i) is now)
all_two image false first second disk c d is all_first all_second i now = all_first i (subst (λ x. image x i) is now)

-- the place that was found has a shut gate
pub shut_found : (s : List ℕ) (t : State) (es : List Entry) (at : ℕ) → has_header s ≡ true → file_reads s ≡ opened t es at → IsShut at s
shut_found s t es at header is = let f = found s t es at header is in subst (λ (n : ℕ). IsShut n s) (sym f.place) f.ends.shut

pub in_one : {D : Type 0} (image : D → List ℕ → Type 0) (q : Bool) (first second : D) (P : List ℕ → Type 0) → (q ≡ false → InAll (image first) P) → (q ≡ true → InAll (image second) P) → InAll (image (cond q second first)) P
in_one image true first second P a b = b refl
in_one image false first second P a b = a refl
