-- What a dataset's log keeps, and what opening it gives.
use Rattle.std.proofs.Common.{◌≡◌, ◌⊎◌, inl, inr, ℕ, ◌+◌, ◌^◌, ◌<◌, not, Bool, true, false, cond, List, [], ◌∷◌, ◌++◌, Option, Some, refl, sym, ◌∙◌, ap, append_assoc}
use Rattle.db_value.specs.declared.entry.Entry.{Entry}
use Rattle.db_store.specs.State.{State}
use Rattle.db_outside.specs.Disk.{Begins}
use Rattle.db_outside.specs.Record.{record_of}
use Rattle.entry_codec.specs.Logs.{Opening, gives, GivesMore, MayGive, GivesOneOf, GivesImage}
use Rattle.generations.specs.Files.{reads_by}
use Rattle.generations.specs.declared.other_gate.OtherGate.{OtherGate}
use Rattle.generations.specs.Asides.{IsFront, IsBesideOrNext}
use Rattle.generations.specs.AsideLaws.{front_beside, stands_or, stands_beside}
use Rattle.generations.specs.Ends.{with_record, Ends, MayEnd, EndsInOneOf}
use Rattle.generations.specs.Fronts.{Follows, OpensTo, OpensToMore, MayOpenTo, OpensToOneOf, Keeps, KeepsBy}
use Rattle.generations.specs.Given.{opening_of, Opens}
use Rattle.generations.specs.FrontLaws.{opens_to, may_open, one_of}
use Rattle.generations.specs.KeptLaws.{kept_opens}

module _ (second : Bool) (g : ℕ) (s : State) (es : List Entry) (c d : List ℕ) (o : Opening) (is : opening_of (reads_by second c d) ≡ o) where
  pub gives_it : OpensTo second g s es c d → o ≡ gives g s es
  gives_it opens = sym is ∙ ap opening_of opens.1

module _ (second : Bool) (g : ℕ) (s : State) (es : List Entry) (c d : List ℕ) (o : Opening) (is : opening_of (reads_by second c d) ≡ o) where
  pub gives_more : (body : List ℕ) → OpensToMore second g s es body c d → GivesMore g s es body o
  gives_more body opens = (opens.0, gives_it second g opens.0.state (es ++ opens.0.entries) c d o is opens.1)

  pub may_give : (f : Option (List ℕ)) → MayOpenTo second g s es f c d → MayGive g s es f o
  may_give f (inl opens) = inl (gives_it second g s es c d o is opens)
  may_give f (inr more) = inr (more.0, more.1, gives_more more.0 more.2)

  pub gives_one : (f : Option (List ℕ)) (batch : List ℕ) → OpensToOneOf second g s es f batch c d → GivesOneOf g s es f batch o
  gives_one f batch (inl may) = inl (may_give f may)
  gives_one f batch (inr more) = inr (gives_more batch more)

longer_begins : (front body c : List ℕ) → Begins (with_record front body) c → Begins front c
longer_begins front body c begins = ((1 ∷ record_of body) ++ begins.0, begins.1 ∙ append_assoc front (1 ∷ record_of body) begins.0)

may_begins : (front c : List ℕ) (f : Option (List ℕ)) → MayEnd front f c → Begins front c
may_begins front c f (inl ends) = ends.spelled
may_begins front c f (inr more) = longer_begins front more.0 c more.2.spelled

pub one_begins : (front c : List ℕ) (f : Option (List ℕ)) (batch : List ℕ) → EndsInOneOf front f batch c → Begins front c
one_begins front c f batch (inl may) = may_begins front c f may
one_begins front c f batch (inr ends) = longer_begins front batch c ends.spelled

flipped : (second : Bool) (c d : List ℕ) → reads_by second c d ≡ reads_by (not second) d c
flipped false c d = refl
flipped true c d = refl

module _ (second : Bool) (g : ℕ) (s : State) (es : List Entry) (front : List ℕ) (is : IsFront front g s es) (c d : List ℕ) (o : Opening) (opens : opening_of (reads_by second c d) ≡ o) where
  -- a whole file of the next generation counts beside one that begins with this front
  next_gives : Begins front c → (more : g < 2 ^ 63) × (next : List ℕ) × IsFront next (g + 1) s [] × Ends next d → GivesImage g s o
  next_gives begins next =
      let counts_there = opens_to (not second) (g + 1) s [] next.1 next.2 d c next.3 (front_beside g s es front c is begins (not second)) in
      (next.0, sym opens ∙ ap opening_of (flipped second c d ∙ counts_there.1))

  -- the pair opens to the state, to the one with the pending body more, or to the next generation's image
  pub shows : (f : Option (List ℕ)) → ((body : List ℕ) → f ≡ Some body → Follows s body) → MayEnd front f c → IsBesideOrNext second g s d → MayGive g s es f o ⊎ GivesImage g s o
  shows f fits may (inl beside) = inl (may_give second g s es c d o opens f (may_open second g s es front is f c d fits may beside))
  shows f fits may (inr next) = inr (next_gives (may_begins front c f may) next)

  -- or to the one with this batch more
  pub shows_one : (f : Option (List ℕ)) (batch : List ℕ) → ((body : List ℕ) → f ≡ Some body → Follows s body) → Follows s batch → EndsInOneOf front f batch c → IsBesideOrNext second g s d
      → GivesOneOf g s es f batch o ⊎ GivesImage g s o
  shows_one f batch fits follows ends (inl beside) = inl (gives_one second g s es c d o opens f batch (one_of second g s es front is f batch c d fits follows ends beside))
  shows_one f batch fits follows ends (inr next) = inr (next_gives (one_begins front c f batch ends) next)

-- the images of a kept file and those of the one beside it
module _ (second : Bool) (g at : ℕ) (clean : Bool) (gate : OtherGate) (image beside : List ℕ → Type 0) (s : State) (es : List Entry) (f : Option (List ℕ)) where
  kept_by : Keeps second g at clean gate image beside s es f → (c d : List ℕ) → image c → beside d → (o : Opening) → opening_of (reads_by second c d) ≡ o → MayGive g s es f o
  kept_by keeps c d had_c had_d o is =
      may_give second g s es c d o is f
      (may_open second g s es keeps.file.front keeps.file.is_front f c d keeps.file.fits (kept_opens at clean image keeps.file.front f keeps.file.kept c had_c) (stands_beside gate second g s beside keeps.gate_is keeps.other d had_d))

  owed_by : (owed : Bool) → KeepsBy owed second g at clean gate image beside s es f → (c d : List ℕ) → image c → beside d → (o : Opening) → opening_of (reads_by second c d) ≡ o → MayGive g s es f o ⊎ GivesImage g s o
  owed_by owed keeps c d had_c had_d o is =
      shows second g s es keeps.file.front keeps.file.is_front c d o is f keeps.file.fits (kept_opens at clean image keeps.file.front f keeps.file.kept c had_c) (stands_or gate second g s beside keeps.other d had_d)

module _ {D : Type 0} {gate : OtherGate} (image : D → List ℕ → Type 0) where
  -- the two files in their order
  pub kept_gives : (second : Bool) (g at : ℕ) (clean : Bool) (file beside : D) (s : State) (es : List Entry) (f : Option (List ℕ)) → Keeps second g at clean gate (image file) (image beside) s es f
      → (o : Opening) → Opens (image (cond second beside file)) (image (cond second file beside)) o → MayGive g s es f o
  kept_gives false g at clean file beside s es f keeps o opens = kept_by false g at clean gate (image file) (image beside) s es f keeps opens.0 opens.1 opens.2 opens.3 o opens.4
  kept_gives true g at clean file beside s es f keeps o opens = kept_by true g at clean gate (image file) (image beside) s es f keeps opens.1 opens.0 opens.3 opens.2 o opens.4

  pub owed_gives : (owed second : Bool) (g at : ℕ) (clean : Bool) (file beside : D) (s : State) (es : List Entry) (f : Option (List ℕ)) → KeepsBy owed second g at clean gate (image file) (image beside) s es f
      → (o : Opening) → Opens (image (cond second beside file)) (image (cond second file beside)) o → MayGive g s es f o ⊎ GivesImage g s o
  owed_gives owed false g at clean file beside s es f keeps o opens = owed_by false g at clean gate (image file) (image beside) s es f owed keeps opens.0 opens.1 opens.2 opens.3 o opens.4
  owed_gives owed true g at clean file beside s es f keeps o opens = owed_by true g at clean gate (image file) (image beside) s es f owed keeps opens.1 opens.0 opens.3 opens.2 o opens.4

pub counts_both : (first second since since_2 : List ℕ → Type 0) (o : Opening) → ((c : List ℕ) → first c → since c) → ((c : List ℕ) → second c → since_2 c) → Opens first second o → Opens since since_2 o
counts_both first second since since_2 o one other opens = (opens.0, opens.1, one opens.0 opens.2, other opens.1 opens.3, opens.4)
