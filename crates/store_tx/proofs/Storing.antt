-- Entries that fit, as a batch.
use Rattle.std.proofs.Common.{◌≡◌, ◌⊎◌, inl, inr, ⊎_elim, subst, ℕ, ◌<◌, ◌≤◌, cond, true, false, Bool, List, [], ◌∷◌, ◌++◌, length, refl, sym, ◌∙◌, ap, arith, Option, Some, None}
use Rattle.std.specs.Prelude.{Result, Ok, Err, OnOk, OnErr, IsErrOf, ◌↔◌}
use Rattle.std.proofs.lemmas.List.{append-nil}
use Rattle.std.proofs.lemmas.Bool.{cases_lt}
use Rattle.db_value.specs.declared.entry.Entry.{Entry}
use Rattle.db_value.specs.declared.entry.Entry.TheVariants.{Commit, Branch}
use Rattle.db_store.specs.Fits.{fits}
use Rattle.db_store.specs.State.{State, dataset_of, grow}
use Rattle.db_outside.specs.Record.{most_body}
use Rattle.db_outside.specs.declared.batch.BatchStop.{BatchStop}
use Rattle.db_outside.specs.declared.batch.BatchStop.TheVariants.{Full}
use Rattle.entry_codec.specs.Spelling.{spelling, spellings, entry_size, HasFewChanges}
use Rattle.entry_codec.specs.Grammar.{entries_in}
use Rattle.entry_codec.specs.Laws.{IsEntry, AreEntries}
use Rattle.entry_codec.specs.declared.log.Log.{Ghosts}
use Rattle.entry_codec.specs.declared.stop.CheckpointStop.{CheckpointStop}
use Rattle.entry_codec.specs.declared.stop.CheckpointStop.TheVariants.{DiskFault}
use Rattle.entry_codec.specs.Logs.{applied, Follows, Opening, MayGive, GivesOneOf, GivesImage, GivesOnly, GoesOn, AddsOnly, KeepsAny, KeepsOneOf, KeepsOrOwes, WhereKept, WhereKeptOrOwed, StoresOwing, Checkpoints, Renews, CountsStops, next_generation, entries_after}
use Rattle.db_outside.specs.Device.{Rose}
use Rattle.store_tx.specs.declared.stored.LogCall.TheVariants.{Nothing, Append, Save}
use Rattle.store_tx.specs.Stored.{batch, image, all_grown, Has, GivesIn, GivesOwed, IsPendingOf, StoresAsked, Stores}
use Rattle.entry_codec.proofs.Back.{size_is, all}
use Rattle.entry_codec.proofs.Fitting.{met_fit}

pub few_changes : (e : Entry) → IsEntry e → HasFewChanges e
few_changes (Commit branch second cs) is = is.few
few_changes (Branch name origin) is = tt

pub spelled_some : (e : Entry) → spelling e ≡ [] → ⊥
spelled_some (Commit branch second cs) none = cc none
spelled_some (Branch name origin) none = cc none

pub size_some : (e : Entry) → 0 < entry_size e
size_some (Commit branch second cs) = omega arith
size_some (Branch name origin) = omega arith

-- Entries that fit one after another, and are within the rules, as the body of a batch.
pub record IsBatch (s : State) (es : List Entry) (b : List ℕ) : Type 0 where
  pub same : b ≡ spellings es
  pub some : 0 < length b
  pub few : length b ≤ most_body
  pub fit : applied s es ≡ Some (all_grown s es)
  pub are : AreEntries es

-- one entry is a batch
pub one_batch : (s : State) (e : Entry) (b : List ℕ) → b ≡ spelling e → length b ≤ most_body → fits (dataset_of s) e ≡ true → IsEntry e → IsBatch s (e ∷ []) b
one_batch s e b same few fit is = record {
  same = same ∙ sym (append-nil (spelling e));
  some = omega (arith, ap length same, size_is e (met_fit (dataset_of s) e fit), size_some e);
  few = few;
  fit = ap (λ (q : Bool). cond q (Some (grow s e)) None) fit;
  are = (is, tt);
}

-- the entries of a batch follow
abbrev pub follows_all : (s : State) (es : List Entry) (b : List ℕ) → IsBatch s es b → Follows s b
follows_all s es b is = record { some = is.some; few = is.few; entries = es; read = ap entries_in is.same ∙ all es is.are; state = all_grown s es; fit = is.fit }

-- bytes that were added to a batch had space there
pub not_full : {T : Type 0} (r : Result T BatchStop) (x : T) → r ≡ Ok x → (n : ℕ) → (IsErrOf r Full ↔ (most_body < n)) → n ≤ most_body
not_full r x e n full = ⊎_elim (λ lt. absurd (cc (sym e ∙ full.1 lt))) (λ le. le) (cases_lt most_body n)

-- ---- what a log does for a batch

module _
    {L S V P Q T E : Type 0} (g : Ghosts L S V P Q) (s : State) (added : List Entry) (b : List ℕ) (is : IsBatch s added b) (old new : L) (result : Result T E)
    (gives : WhereKept g.Keeps old b (λ t es f h. GivesOnly g.moment g.Quiet g.opens_since old new (GivesOneOf (g.generation old) t es f b)))
    (owed : WhereKept g.Owes old b (λ t es f h. StoresOwing g.Keeps g.Owes g.generation g.moment g.opens_since old new result t es f b h))
    (goes_on : GoesOn g.generation g.moment g.counts old new) (later : g.faults old ≤ g.faults new) where
  abbrev follows : Follows s b
  follows = follows_all s added b is

  abbrev same : b ≡ spellings added
  same = is.same

  any_now : (owing : Bool) (es : List Entry) (f : Option (List ℕ)) → Has g owing old s es f → (o : Opening) → g.opens_since new (g.moment old) o → GivesIn (g.generation old) s es f (batch added) o ⊎ GivesOwed owing (g.generation old) s o
  any_now false es f keeps o opens = inl (subst (λ (x : List ℕ). GivesOneOf (g.generation old) s es f x o) same ((gives s es f follows keeps).any_moment o opens))
  any_now true es f (inl keeps) o opens = inl (subst (λ (x : List ℕ). GivesOneOf (g.generation old) s es f x o) same ((gives s es f follows keeps).any_moment o opens))
  any_now true es f (inr owes) o opens = subst (λ (x : List ℕ). GivesOneOf (g.generation old) s es f x o ⊎ GivesImage (g.generation old) s o) same ((owed s es f follows owes).any_moment o opens)

  quiet_now : (es : List Entry) (f : Option (List ℕ)) → g.Keeps old s es f → AddsOnly g.moment g.Quiet g.opens_since old new (GivesIn (g.generation old) s es f (batch added))
  quiet_now es f keeps = subst (λ (x : List ℕ). AddsOnly g.moment g.Quiet g.opens_since old new (GivesOneOf (g.generation old) s es f x)) same (gives s es f follows keeps).quiet

  -- it stored the entries
  module _ (value : T) (ok : result ≡ Ok value) (done : WhereKept g.Keeps old b (λ t es f h. g.Keeps new h.state (es ++ h.entries) None)) where
    has_done : (owing : Bool) (es : List Entry) (f : Option (List ℕ)) → Has g owing old s es f → g.Keeps new (all_grown s added) (es ++ added) None
    has_done false es f keeps = done s es f follows keeps
    has_done true es f (inl keeps) = done s es f follows keeps
    has_done true es f (inr owes) = subst (λ (r : Result T E). OnOk r (g.Keeps new (all_grown s added) (es ++ added) None)) ok (owed s es f follows owes).done

    pub stores_done : StoresAsked g s false (batch added) old new
    stores_done = record {
      some = λ bad. absurd (cc bad);
      spared = λ none. absurd (cc none);
      cause = λ bad. absurd (cc bad);
      any_moment = any_now;
      quiet = λ _. quiet_now;
      has = has_done;
      generation = goes_on.generation_stays;
      time = goes_on.time;
      later = later;
      each = goes_on.each;
    }

  -- it failed
  module _ (why : E) (err : result ≡ Err why) (failed : WhereKept g.Keeps old b (λ t es f h. KeepsOneOf g.Keeps new t es f b)) where
    in_batch : (f h : Option (List ℕ)) → (h ≡ None) ⊎ (h ≡ f) ⊎ (h ≡ Some b) → IsPendingOf f (batch added) h
    in_batch f h = subst (λ (x : List ℕ). (h ≡ None) ⊎ (h ≡ f) ⊎ (h ≡ Some x)) same

    has_failed : (owing : Bool) (es : List Entry) (f : Option (List ℕ)) → Has g owing old s es f → (h : Option (List ℕ)) × IsPendingOf f (batch added) h × Has g owing new s es h
    has_failed false es f keeps = let h = failed s es f follows keeps in (h.0, in_batch f h.0 h.1, h.2)
    has_failed true es f (inl keeps) = let h = failed s es f follows keeps in (h.0, in_batch f h.0 h.1, inl h.2)
    has_failed true es f (inr owes) =
        let h = subst (λ (r : Result T E). OnErr r ((h : Option (List ℕ)) × ((h ≡ None) ⊎ (h ≡ f) ⊎ (h ≡ Some b)) × KeepsOrOwes g.Keeps g.Owes new s es h)) err (owed s es f follows owes).failed in
        (h.0, in_batch f h.0 h.1, h.2)

    pub stores_failed : Rose (g.faults old) (g.faults new) → StoresAsked g s true (batch added) old new
    stores_failed rose = record {
      some = λ _. refl;
      spared = λ none. absurd (cc none);
      cause = λ _. rose;
      any_moment = any_now;
      quiet = λ _. quiet_now;
      has = has_failed;
      generation = goes_on.generation_stays;
      time = goes_on.time;
      later = later;
      each = goes_on.each;
    }

-- ---- what it does for an image

module _
    {L S V P Q T : Type 0} (g : Ghosts L S V P Q) (s : State) (old new : L) (result : Result T CheckpointStop)
    (kept : WhereKeptOrOwed g.Keeps g.Owes old s (λ es f. Checkpoints g.Keeps g.Owes g.generation g.moment g.opens_since old new result s es f))
    (renewed : Renews g.generation g.moment g.counts old new result) (counts : CountsStops g.faults old new result) where
  has_either : (owing : Bool) (es : List Entry) (f : Option (List ℕ)) → Has g owing old s es f → KeepsOrOwes g.Keeps g.Owes old s es f
  has_either false es f keeps = inl keeps
  has_either true es f has = has

  any_saved : (owing : Bool) (es : List Entry) (f : Option (List ℕ)) → Has g owing old s es f → (o : Opening) → g.opens_since new (g.moment old) o → GivesIn (g.generation old) s es f image o ⊎ GivesOwed owing (g.generation old) s o
  any_saved owing es f has o opens = inl ((kept es f (has_either owing es f has)).any_moment o opens)

  pub saves_done : (value : T) → result ≡ Ok value → Stores g s false Save old new
  saves_done value ok = record {
    some = λ bad. absurd (cc bad);
    spared = λ none. absurd (cc none);
    cause = λ bad. absurd (cc bad);
    any_moment = any_saved;
    quiet = λ bad. absurd (cc bad);
    has = λ owing es f has. subst (λ (r : Result T CheckpointStop). OnOk r (g.Keeps new s (entries_after (g.generation old) es) None)) ok (kept es f (has_either owing es f has)).done;
    generation = subst (λ (r : Result T CheckpointStop). OnOk r (g.generation new ≡ next_generation (g.generation old))) ok renewed.done;
    time = renewed.time;
    later = counts.later;
    each = renewed.each;
  }

  pub saves_failed : result ≡ Err DiskFault → Stores g s true Save old new
  saves_failed err = record {
    some = λ _. refl;
    spared = λ none. absurd (cc none);
    cause = λ _. counts.cause (subst (λ (r : Result T CheckpointStop). IsErrOf r DiskFault) (sym err) refl);
    any_moment = any_saved;
    quiet = λ bad. absurd (cc bad);
    has = λ owing es f has. subst (λ (r : Result T CheckpointStop). OnErr r ((h : Option (List ℕ)) × ((h ≡ None) ⊎ (h ≡ f)) × KeepsOrOwes g.Keeps g.Owes new s es h)) err (kept es f (has_either owing es f has)).failed;
    generation = subst (λ (r : Result T CheckpointStop). OnErr r (g.generation new ≡ g.generation old)) err renewed.failed;
    time = renewed.time;
    later = counts.later;
    each = renewed.each;
  }

-- ---- a log that isn't called

module _
    {L S V P Q : Type 0} (g : Ghosts L S V P Q)
    (kept_opens : (log : L) (s : State) (es : List Entry) (f : Option (List ℕ)) → g.Keeps log s es f → (o : Opening) → g.opens_now log o → MayGive (g.generation log) s es f o)
    (owes_opens : (log : L) (s : State) (es : List Entry) (f : Option (List ℕ)) → g.Owes log s es f → (o : Opening) → g.opens_now log o → MayGive (g.generation log) s es f o ⊎ GivesImage (g.generation log) s o)
    (only_now : (log : L) (o : Opening) → g.opens_since log (g.moment log) o → g.opens_now log o) where
  opens_as : (s : State) (log : L) (owing : Bool) (es : List Entry) (f : Option (List ℕ)) → Has g owing log s es f → (o : Opening) → g.opens_since log (g.moment log) o → MayGive (g.generation log) s es f o ⊎ GivesOwed owing (g.generation log) s o
  opens_as s log false es f keeps o opens = inl (kept_opens log s es f keeps o (only_now log o opens))
  opens_as s log true es f (inl keeps) o opens = inl (kept_opens log s es f keeps o (only_now log o opens))
  opens_as s log true es f (inr owes) o opens = owes_opens log s es f owes o (only_now log o opens)

  pub stores_none : (s : State) (log : L) → Stores g s false Nothing log log
  stores_none s log = record {
    some = λ bad. absurd (cc bad);
    spared = λ none. refl;
    cause = λ bad. absurd (cc bad);
    any_moment = opens_as s log;
    quiet = λ _ es f keeps. record { stays = λ t q. q; adds = λ t le q o opens. inl opens };
    has = λ owing es f has. has;
    generation = refl;
    time = (omega arith, omega arith);
    later = omega arith;
    each = (omega arith, omega arith);
  }

  -- it keeps any state, so that the entry is as good as stored
  pub stores_unasked : (s : State) (e : Entry) (log : L) → KeepsAny g.Keeps log → Stores g s false (Append e) log log
  stores_unasked s e log any = record {
    some = λ bad. absurd (cc bad);
    spared = λ none. absurd (cc none);
    cause = λ bad. absurd (cc bad);
    any_moment = λ owing es f has o opens. ⊎_elim (λ gives. inl (inl gives)) inr (opens_as s log owing es f has o opens);
    quiet = λ _ es f keeps. record { stays = λ t q. q; adds = λ t le q o opens. inl opens };
    has = λ owing es f has. any (grow s e) (es ++ e ∷ []) None;
    generation = refl;
    time = (omega arith, omega arith);
    later = omega arith;
    each = (omega arith, omega arith);
  }
