-- Bodies taken one after another.
use Rattle.std.proofs.Common.{◌≡◌, ℕ, ◌+◌, ◌<◌, List, [], ◌++◌, length, get_or, drop, refl, sym, ◌∙◌, ap, arith, length-append, Option}
use Rattle.std.proofs.lemmas.List.{drop_more}
use Rattle.db_value.specs.declared.entry.Entry.{Entry}
use Rattle.db_store.specs.State.{State}
use Rattle.gate_journal.specs.declared.cause.Cause.TheVariants.{Grammar, EntryUnfit}
use Rattle.gate_journal.specs.Reading.{End, closed_at, damaged_at}
use Rattle.generations.specs.Files.{Outcome, damaged, opened, applied, behind, walk, by_entries, by_state}
use Rattle.generations.specs.declared.replay.Taken.TheVariants.{All, NotEntries, Unfit}
use Rattle.generations.specs.Replays.{TakesBody}
use Rattle.generations.specs.FrontLaws.{behind_behind}

-- entries that were added so far, and what the bodies that are left make
pub record Goes (s : State) (from : ℕ) (bodies : List (List ℕ)) (t : State) (at : ℕ) (left : List (List ℕ)) (count : ℕ) : Type 0 where
  pub entries : List Entry
  pub number : length entries ≡ count
  pub walks : (end : End) → walk s from bodies end ≡ behind entries (walk t at left end)

pub behind_none : (o : Outcome) → behind [] o ≡ o
behind_none (damaged at cause) = refl
behind_none (opened s es at) = refl

pub starts : (s : State) (from : ℕ) (bodies : List (List ℕ)) → Goes s from bodies s from bodies 0
starts s from bodies = record { entries = []; number = refl; walks = λ end. sym (behind_none (walk s from bodies end)) }

pub goes_on : (s : State) (from : ℕ) (bodies : List (List ℕ)) (t u : State) (at : ℕ) (i n count : ℕ) → Goes s from bodies t at (drop i bodies) count → i < length bodies → TakesBody (All n) t (get_or bodies i []) u
    → Goes s from bodies u (at + (37 + length (get_or bodies i []))) (drop (i + 1) bodies) (count + n)
goes_on s from bodies t u at i n count goes lt takes =
    let body = get_or bodies i [] in
    let rest = drop (i + 1) bodies in
    record {
      entries = goes.entries ++ takes.0;
      number = omega (arith, length-append goes.entries takes.0, goes.number, takes.2);
      walks = λ end.
          goes.walks end ∙ ap (λ (l : List (List ℕ)). behind goes.entries (walk t at l end)) (drop_more bodies i [] lt)
          ∙ ap (λ (o : Option (List Entry)). behind goes.entries (by_entries at o (λ es. by_state at (applied t es) (λ v. behind es (walk v (at + (37 + length body)) rest end))))) takes.1
          ∙ ap (λ (o : Option State). behind goes.entries (by_state at o (λ v. behind takes.0 (walk v (at + (37 + length body)) rest end)))) takes.3
          ∙ behind_behind goes.entries takes.0 (walk u (at + (37 + length body)) rest end);
    }

pub stops_grammar : (s : State) (from : ℕ) (bodies : List (List ℕ)) (t u : State) (at : ℕ) (i count : ℕ) → Goes s from bodies t at (drop i bodies) count → i < length bodies → TakesBody NotEntries t (get_or bodies i []) u
    → (end : End) → walk s from bodies end ≡ damaged at Grammar
stops_grammar s from bodies t u at i count goes lt takes end =
    let body = get_or bodies i [] in
    let rest = drop (i + 1) bodies in
    goes.walks end ∙ ap (λ (l : List (List ℕ)). behind goes.entries (walk t at l end)) (drop_more bodies i [] lt)
    ∙ ap (λ (o : Option (List Entry)). behind goes.entries (by_entries at o (λ es. by_state at (applied t es) (λ v. behind es (walk v (at + (37 + length body)) rest end))))) takes

pub stops_entry : (s : State) (from : ℕ) (bodies : List (List ℕ)) (t u : State) (at : ℕ) (i count : ℕ) → Goes s from bodies t at (drop i bodies) count → i < length bodies → TakesBody Unfit t (get_or bodies i []) u
    → (end : End) → walk s from bodies end ≡ damaged at EntryUnfit
stops_entry s from bodies t u at i count goes lt takes end =
    let body = get_or bodies i [] in
    let rest = drop (i + 1) bodies in
    goes.walks end ∙ ap (λ (l : List (List ℕ)). behind goes.entries (walk t at l end)) (drop_more bodies i [] lt)
    ∙ ap (λ (o : Option (List Entry)). behind goes.entries (by_entries at o (λ es. by_state at (applied t es) (λ v. behind es (walk v (at + (37 + length body)) rest end))))) takes.1
    ∙ ap (λ (o : Option State). behind goes.entries (by_state at o (λ v. behind takes.0 (walk v (at + (37 + length body)) rest end)))) takes.2

no_bodies : (t : State) (at : ℕ) (end : End) → walk t at [] end ≡ walk t 0 [] end
no_bodies t at (closed_at p) = refl
no_bodies t at (damaged_at p cause) = refl

-- at the end all bodies were taken
pub ends_walk : (s : State) (from : ℕ) (bodies : List (List ℕ)) (t : State) (at count : ℕ) (left : List (List ℕ)) → Goes s from bodies t at left count → left ≡ [] → (es : List Entry) × (length es ≡ count) × ((end : End) → walk s from bodies end ≡ behind es (walk t 0 [] end))
ends_walk s from bodies t at count left goes none =
    (goes.entries, goes.number, λ end. goes.walks end ∙ ap (λ (l : List (List ℕ)). behind goes.entries (walk t at l end)) none ∙ ap (λ (o : Outcome). behind goes.entries o) (no_bodies t at end))
