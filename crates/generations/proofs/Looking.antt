-- What two files open to, by the one that counts.
use Rattle.std.proofs.Common.{◌≡◌, ℕ, Bool, List, length, ◌∙◌, sym, ap, Some}
use Rattle.db_value.specs.declared.entry.Entry.{Entry}
use Rattle.generations.specs.Stored.{DatasetStore, state_in}
use Rattle.gate_journal.specs.declared.cause.Cause.{Cause}
use Rattle.gate_journal.specs.declared.place.Journal.{Journal}
use Rattle.generations.specs.declared.header.Header.{Header}
use Rattle.generations.specs.declared.open.Opened.TheVariants.{Damaged, Whole}
use Rattle.generations.specs.Files.{Outcome, damaged, opened, counts, reads, number_of, generation_of}
use Rattle.generations.specs.Picks.{of_two}
use Rattle.generations.specs.Looks.{IsPicked}
use Rattle.generations.specs.Openings.{IsOpened}

pub damaged_by : (found : Bool × Header) (c d : List ℕ) (at : ℕ) (cause : Cause) → IsPicked (Some found) c d → IsOpened (Damaged at cause) (of_two found.0 c d) → (g : ℕ) × (reads c d ≡ counts (number_of found.0) g (damaged at cause))
damaged_by found c d at cause picked is = (generation_of (of_two found.0 c d), picked.0 ∙ ap (λ (o : Outcome). counts (number_of found.0) (generation_of (of_two found.0 c d)) o) is)

pub looked_by : (found : Bool × Header) (c d : List ℕ) (journal : Journal) (store : DatasetStore) (n : ℕ) → IsPicked (Some found) c d → IsOpened (Whole journal store n) (of_two found.0 c d)
    → (es : List Entry) × (length es ≡ n) × (reads c d ≡ counts (number_of found.0) found.1.generation (opened (state_in store) es journal.at))
looked_by found c d journal store n picked is = (
  is.0,
  is.1,
  picked.0 ∙ ap (λ (o : Outcome). counts (number_of found.0) (generation_of (of_two found.0 c d)) o) is.2
      ∙ ap (λ (g : ℕ). counts (number_of found.0) g (opened (state_in store) is.0 journal.at)) (sym picked.2.generation),
)
