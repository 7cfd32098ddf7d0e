-- What a dataset keeps and opens to where an image may be owed.
use Rattle.std.proofs.Common.{◌≡◌, ◌⊎◌, inl, inr, ℕ, ◌+◌, ◌<◌, ◌≤◌, ◌^◌, not, Bool, true, false, cond, List, [], ◌∷◌, ◌++◌, Option, None, Result, Ok, Err, OnOk, OnErr, refl, sym, ◌∙◌, ap, subst, arith, length, length-append}
use Rattle.db_value.specs.declared.entry.Entry.{Entry}
use Rattle.db_store.specs.State.{State}
use Rattle.db_outside.specs.Disk.{LeavesOnly, InAll}
use Rattle.db_outside.specs.declared.disk.Disk.{Ghosts}
use Rattle.entry_codec.specs.Logs.{Follows, Opening, MayGive, GivesOneOf, GivesImage, KeepsOrOwes, Checkpoints, entries_after, next_generation}
use Rattle.gate_journal.specs.declared.place.Journal.{Journal}
use Rattle.generations.specs.declared.pair.Pair.{Pair}
use Rattle.std.proofs.lemmas.Bool.{lt-ltb, le-ltb}
use Rattle.gate_journal.specs.Gate.{IsOpen}
use Rattle.generations.specs.declared.dataset.Dataset.{Dataset}
use Rattle.generations.specs.declared.other_gate.OtherGate.{OtherGate}
use Rattle.generations.specs.declared.other_gate.OtherGate.TheVariants.{Unread, Low, Shut, Owed}
use Rattle.generations.specs.Asides.{StandsBy, IsBesideOrNext, IsNextFile, is_owed}
use Rattle.generations.specs.AsideLaws.{front_low}
use Rattle.generations.specs.BesideKeeps.{StandsIn}
use Rattle.generations.specs.Datasets.{KeepsIn, OwesIn, generation_in, moment_in, OpensSinceIn, Turns}
use Rattle.generations.proofs.Besides.{still}
use Rattle.generations.specs.Ends.{MayEnd, EndsInOneOf}
use Rattle.generations.specs.Fronts.{KeepsFile, KeepsBy, Keeps}
use Rattle.generations.specs.Given.{Opens}
use Rattle.generations.specs.KeptLaws.{at_rest}
use Rattle.generations.specs.LogLaws.{shows, shows_one}
use Rattle.generations.proofs.Appending.{any_of_both}
use Rattle.generations.proofs.Creating.{whole_file}

-- ---- whether an image is owed or not

module _ {D : Type 0} {g : Ghosts D} (l : Dataset D g) (s : State) (es : List Entry) (f : Option (List ℕ)) where
  pub either_file : KeepsOrOwes KeepsIn OwesIn l s es f → KeepsFile l.generation l.file.journal.at l.file.journal.clean (g.image l.file.disk) s es f
  either_file (inl keeps) = keeps.file
  either_file (inr owes) = owes.file

  pub either_stands : KeepsOrOwes KeepsIn OwesIn l s es f → StandsIn l.beside l.second l.generation s
  either_stands (inl keeps) = keeps.other
  either_stands (inr owes) = owes.other

pub one_of_them : (second : Bool) (n at : ℕ) (clean : Bool) (gate : OtherGate) (image beside : List ℕ → Type 0) (s : State) (es : List Entry) (f : Option (List ℕ)) → KeepsFile n at clean image s es f → StandsBy gate second n s beside
    → KeepsBy false second n at clean gate image beside s es f ⊎ KeepsBy true second n at clean gate image beside s es f
one_of_them second n at clean gate image beside s es f file stands = by (is_owed gate) refl
  where
    by : (q : Bool) → is_owed gate ≡ q → KeepsBy false second n at clean gate image beside s es f ⊎ KeepsBy true second n at clean gate image beside s es f
    by false is = inl (record { file = file; gate_is = is; other = stands })
    by true is = inr (record { file = file; gate_is = is; other = stands })

owed_more : (gate : OtherGate) (second : Bool) (n : ℕ) (s : State) (image : List ℕ → Type 0) → is_owed gate ≡ true → StandsBy gate second n s image → n < 2 ^ 63
owed_more Unread second n s image owed stands = absurd (cc owed)
owed_more Low second n s image owed stands = absurd (cc owed)
owed_more Shut second n s image owed stands = absurd (cc owed)
owed_more Owed second n s image owed stands = stands.more

-- at the last generation none is owed
pub last_closed : (gate : OtherGate) (second : Bool) (n : ℕ) (s : State) (image : List ℕ → Type 0) → 2 ^ 63 ≤ n → StandsBy gate second n s image → is_owed gate ≡ false
last_closed gate second n s image last stands = by (is_owed gate) refl
  where
    by : (q : Bool) → is_owed gate ≡ q → is_owed gate ≡ false
    by false is = is
    by true is = absurd (omega (arith, last, owed_more gate second n s image is stands))

or_more : {A B C : Type 0} → (A → B) → A ⊎ C → B ⊎ C
or_more h (inl a) = inl (h a)
or_more h (inr c) = inr c

module _ {D : Type 0} (g : Ghosts D) (only_now : (d : D) (c : List ℕ) → g.since d (g.moment d) c → g.image d c) (second : Bool) (n at : ℕ) (clean : Bool) (file aside_old aside_new : D)
    (s : State) (es : List Entry) (f : Option (List ℕ)) (keeps : KeepsFile n at clean (g.image file) s es f) (aside : LeavesOnly g.moment g.since aside_old aside_new (IsBesideOrNext second n s)) where
  -- while calls of the other file alone go on
  pub while_aside : (o : Opening) → Opens (g.since (cond second aside_new file) (g.moment (cond second aside_old file))) (g.since (cond second file aside_new) (g.moment (cond second file aside_old))) o
      → MayGive n s es f o ⊎ GivesImage n s o
  while_aside = any_of_both g file file aside_old aside_new (MayEnd keeps.front f) (IsBesideOrNext second n s) (λ o. MayGive n s es f o ⊎ GivesImage n s o)
      (at_rest g.moment g.since g.image file file at keeps.front f clean (only_now file) keeps.kept) aside second
      (λ c d o may or is. shows second n s es keeps.front keeps.is_front c d o is f keeps.fits may or)

  -- while the file that counts takes a batch after them
  pub while_both : (new : D) (batch : List ℕ) → Follows s batch → LeavesOnly g.moment g.since file new (EndsInOneOf keeps.front f batch)
      → (o : Opening) → Opens (g.since (cond second aside_new new) (g.moment (cond second aside_old file))) (g.since (cond second new aside_new) (g.moment (cond second file aside_old))) o
      → GivesOneOf n s es f batch o ⊎ GivesImage n s o
  while_both new batch follows leaves = any_of_both g file new aside_old aside_new (EndsInOneOf keeps.front f batch) (IsBesideOrNext second n s) (λ o. GivesOneOf n s es f batch o ⊎ GivesImage n s o)
      leaves aside second
      (λ c d o ends or is. shows_one second n s es keeps.front keeps.is_front c d o is f batch keeps.fits follows ends or)

  -- the same, of a batch that wasn't begun
  pub while_closing : (batch : List ℕ) (o : Opening) → Opens (g.since (cond second aside_new file) (g.moment (cond second aside_old file))) (g.since (cond second file aside_new) (g.moment (cond second file aside_old))) o
      → GivesOneOf n s es f batch o ⊎ GivesImage n s o
  while_closing batch o opens = or_more (λ may. inl may) (while_aside o opens)

-- while the journal alone is repaired
module _ {D : Type 0} (g : Ghosts D) (only_now : (d : D) (c : List ℕ) → g.since d (g.moment d) c → g.image d c) (second : Bool) (n at : ℕ) (clean : Bool) (file new aside : D)
    (s : State) (es : List Entry) (f : Option (List ℕ)) (keeps : KeepsFile n at clean (g.image file) s es f) (or : InAll (g.image aside) (IsBesideOrNext second n s)) where
  pub while_repaired : LeavesOnly g.moment g.since file new (MayEnd keeps.front f)
      → (o : Opening) → Opens (g.since (cond second aside new) (g.moment (cond second aside file))) (g.since (cond second new aside) (g.moment (cond second file aside))) o → MayGive n s es f o ⊎ GivesImage n s o
  while_repaired leaves = any_of_both g file new aside aside (MayEnd keeps.front f) (IsBesideOrNext second n s) (λ o. MayGive n s es f o ⊎ GivesImage n s o)
      leaves (record { later = omega arith; each = λ c left. or c (only_now aside c left); before = λ t c le left. inl left; keeps = λ t c le left. left }) second
      (λ c d o may is_or is. shows second n s es keeps.front keeps.is_front c d o is f keeps.fits may is_or)

-- ---- the files changed places

-- the next file stands open, so it counts, and the one that counted doesn't count whatever its gate
pub turned_keeps : (second : Bool) (n at at_2 : ℕ) (clean clean_2 : Bool) (gate : OtherGate) (image beside : List ℕ → Type 0) (s : State) (es : List Entry) (f : Option (List ℕ)) (bytes : List ℕ) → KeepsFile n at clean beside s es f → IsNextFile n s bytes
    → InAll image (IsOpen 0 bytes) → at_2 ≡ length bytes → clean_2 ≡ true → gate ≡ Low → Keeps (not second) (n + 1) at_2 clean_2 gate image beside s [] None
turned_keeps second n at at_2 clean clean_2 gate image beside s es f bytes keeps next opened place is_clean is_low =
    let all : InAll image (IsOpen 0 (next.back ++ 0 ∷ [])) = subst (λ (l : List ℕ). InAll image (IsOpen 0 l)) next.spelled opened in
    let size : length bytes ≡ length next.back + 1 = ap length next.spelled ∙ length-append next.back (0 ∷ []) in
    let gate_low : StandsBy Low (not second) (n + 1) s beside = λ d now. front_low n s es keeps.front d keeps.is_front (keeps.kept.begins d now) (not second) in
    record {
      file = whole_file next.back (n + 1) at_2 clean_2 image s next.is_front (omega (arith, place, size)) is_clean all;
      gate_is = ap is_owed is_low;
      other = subst (λ (x : OtherGate). StandsBy x (not second) (n + 1) s beside) (sym is_low) gate_low;
    }

module _ {D : Type 0} {g : Ghosts D} (mid new : Dataset D g) (journal : Journal) (turns : Turns mid new journal) where
  pub turned_in : (s : State) (es : List Entry) (f : Option (List ℕ)) (bytes : List ℕ) → KeepsFile mid.generation mid.file.journal.at mid.file.journal.clean (g.image mid.file.disk) s es f → IsNextFile mid.generation s bytes
      → InAll (g.image mid.beside.disk) (IsOpen 0 bytes) → journal.at ≡ length bytes → journal.clean ≡ true → KeepsIn new s [] None
  turned_in s es f bytes keeps next opened place is_clean =
      let was = subst (λ (x : D). KeepsFile mid.generation mid.file.journal.at mid.file.journal.clean (g.image x) s es f) (sym turns.beside) keeps in
      let open_there = subst (λ (x : D). InAll (g.image x) (IsOpen 0 bytes)) (sym turns.disk) opened in
      let kept = turned_keeps mid.second mid.generation mid.file.journal.at new.file.journal.at mid.file.journal.clean new.file.journal.clean new.beside.gate (g.image new.file.disk) (g.image new.beside.disk) s es f bytes was next open_there
      (ap (λ (j : Journal). j.at) turns.journal ∙ place) (ap (λ (j : Journal). j.clean) turns.journal ∙ is_clean) turns.gate in
      let second_there = subst (λ (q : Bool). KeepsBy false q (mid.generation + 1) new.file.journal.at new.file.journal.clean new.beside.gate (g.image new.file.disk) (g.image new.beside.disk) s [] None) (sym turns.second) kept in
      subst (λ (k : ℕ). KeepsBy false new.second k new.file.journal.at new.file.journal.clean new.beside.gate (g.image new.file.disk) (g.image new.beside.disk) s [] None) (sym turns.generation) second_there

  pub turned_since : (t : ℕ × ℕ) (R : Opening → Type 0) → ((o : Opening) → OpensSinceIn mid t o → R o) → (o : Opening) → OpensSinceIn new t o → R o
  turned_since t R so = subst (λ (p : Pair D). (o : Opening) → Opens (g.since p.first t.0) (g.since p.second t.1) o → R o) (sym turns.pair) so

-- the entries and the generation after a checkpoint
pub none_after : (n : ℕ) (es : List Entry) → n < 2 ^ 63 → entries_after n es ≡ []
none_after n es lt = ap (λ (q : Bool). cond q [] es) (lt-ltb n (2 ^ 63) lt)

pub one_greater : (n : ℕ) → n < 2 ^ 63 → next_generation n ≡ n + 1
one_greater n lt = ap (λ (q : Bool). cond q (n + 1) n) (lt-ltb n (2 ^ 63) lt)

pub same_after : (n : ℕ) (es : List Entry) → 2 ^ 63 ≤ n → entries_after n es ≡ es
same_after n es le = ap (λ (q : Bool). cond q [] es) (le-ltb n (2 ^ 63) le)

pub same_generation : (n : ℕ) → 2 ^ 63 ≤ n → next_generation n ≡ n
same_generation n le = ap (λ (q : Bool). cond q (n + 1) n) (le-ltb n (2 ^ 63) le)

-- nothing was done
pub nothing_done : {D E : Type 0} (g : Ghosts D) (only_now : (d : D) (c : List ℕ) → g.since d (g.moment d) c → g.image d c) (l : Dataset D g) (s : State) (es : List Entry) (f : Option (List ℕ)) (stop : E) → KeepsOrOwes KeepsIn OwesIn l s es f
    → Checkpoints {T = Unit {0}} {E = E} KeepsIn OwesIn generation_in moment_in OpensSinceIn l l (Err stop) s es f
nothing_done g only_now l s es f stop either = record {
  any_moment = while_aside g only_now l.second l.generation l.file.journal.at l.file.journal.clean l.file.disk l.beside.disk l.beside.disk s es f (either_file l s es f either)
      (still l.second l.generation s only_now l.beside (either_stands l s es f either)).any_moment;
  done = tt;
  failed = (f, inr refl, either);
}

module _ {L T E T_2 E_2 : Type 0} (Keeps Owes : L → State → List Entry → Option (List ℕ) → Type 0) (generation : L → ℕ) (moment : L → ℕ × ℕ) (opens_since : L → ℕ × ℕ → Opening → Type 0)
    (old new : L) (s : State) (es : List Entry) (f : Option (List ℕ)) (r : Result T E) (checkpoints : Checkpoints Keeps Owes generation moment opens_since old new r s es f) where
  -- the same, told by another result
  pub told_ok : (x : T) (y : T_2) → r ≡ Ok x → Checkpoints {E = E_2} Keeps Owes generation moment opens_since old new (Ok y) s es f
  told_ok x y is = record { any_moment = checkpoints.any_moment; done = subst (λ (q : Result T E). OnOk q (Keeps new s (entries_after (generation old) es) None)) is checkpoints.done; failed = tt }

  pub told_err : (x : E) (y : E_2) → r ≡ Err x → Checkpoints {T = T_2} Keeps Owes generation moment opens_since old new (Err y) s es f
  told_err x y is = record {
    any_moment = checkpoints.any_moment;
    done = tt;
    failed = subst (λ (q : Result T E). OnErr q ((h : Option (List ℕ)) × ((h ≡ None) ⊎ (h ≡ f)) × KeepsOrOwes Keeps Owes new s es h)) is checkpoints.failed;
  }
