-- What two files open to after calls that only read.
use Rattle.std.proofs.Common.{◌≡◌, ℕ, Bool, true, false, cond, List, Some, refl, sym, ◌∙◌, ap, subst}
use Rattle.db_value.specs.declared.entry.Entry.{Entry}
use Rattle.db_store.specs.State.{State}
use Rattle.db_outside.specs.Disk.{InAll, IsAllOnDisk}
use Rattle.db_outside.specs.declared.disk.Disk.{Ghosts}
use Rattle.entry_codec.specs.Logs.{Opening}
use Rattle.gate_journal.specs.declared.place.Journal.{Journal}
use Rattle.gate_journal.specs.Reads.{OnlyReads}
use Rattle.generations.specs.declared.dataset.Dataset.{Dataset}
use Rattle.generations.specs.declared.look.Looked.{Looked}
use Rattle.generations.specs.declared.pair.Pair.{Pair}
use Rattle.generations.specs.Datasets.{pair_in, generation_in, counted_in, place_in, moment_beside}
use Rattle.generations.specs.Files.{opened, counts, reads, number_of}
use Rattle.generations.specs.Fronts.{IsBeside}
use Rattle.generations.specs.Given.{opening_of, Opens}
use Rattle.generations.specs.Pairs.{moments_of, AreAllOnDisk, BothOnlyRead}
use Rattle.generations.specs.Reopens.{StaysQuiet}
use Rattle.generations.specs.Stored.{state_in}
use Rattle.generations.proofs.Reopening.{counted_by, one_image}

opens_one : (first second : List ℕ → Type 0) (c d : List ℕ) → InAll first (λ i. i ≡ c) → InAll second (λ i. i ≡ d) → (o : Opening) → Opens first second o → o ≡ opening_of (reads c d)
opens_one first second c d all_first all_second o opens =
    sym opens.4 ∙ ap (λ (l : List ℕ). opening_of (reads l opens.1)) (all_first opens.0 opens.2) ∙ ap (λ (l : List ℕ). opening_of (reads c l)) (all_second opens.1 opens.3)

module _ {D : Type 0} (g : Ghosts D) where
  -- of a disk with one image there was no other since
  only_image : (old new : D) (c : List ℕ) → g.seen old ≡ Some c → IsAllOnDisk (g.seen old) (g.image old) → OnlyReads g.faults g.writes g.seen g.image g.moment g.since old new → InAll (g.since new (g.moment old)) (λ i. i ≡ c)
  only_image old new c told all only i left = one_image (g.seen old) (g.seen old) (g.image old) c told refl all i (only.any_moment.each i left)

  -- of two files that open so, no image of the one beside counts
  beside_by : (second : Bool) (n at : ℕ) (s : State) (es : List Entry) (file beside : D) (t : ℕ × ℕ) (c d : List ℕ) → reads c d ≡ counts (number_of second) n (opened s es at)
      → InAll (g.since (cond second beside file) t.0) (λ i. i ≡ c) → InAll (g.since (cond second file beside) t.1) (λ i. i ≡ d) → InAll (g.since beside (moment_beside second t)) (IsBeside second n)
  beside_by false n at s es file beside t c d is first second i left = subst (λ (l : List ℕ). IsBeside false n l) (sym (second i left)) (counted_by c d n (opened s es at) false is).beside
  beside_by true n at s es file beside t c d is first second i left = subst (λ (l : List ℕ). IsBeside true n l) (sym (first i left)) (counted_by c d n (opened s es at) true is).beside

  pub stays_quiet : (disks : Pair D) (l : Dataset D g) (s : State) (es : List Entry) (c d : List ℕ) → g.seen disks.first ≡ Some c → g.seen disks.second ≡ Some d → AreAllOnDisk g disks → BothOnlyRead g disks (pair_in l)
      → reads c d ≡ counts (counted_in l) (generation_in l) (opened s es (place_in l)) → StaysQuiet (moments_of g disks) l c d
  stays_quiet disks l s es c d told_c told_d all only is =
      let first = only_image disks.first (pair_in l).first c told_c all.0 only.first in
      let second = only_image disks.second (pair_in l).second d told_d all.1 only.second in
      record {
        quiet = beside_by l.second l.generation l.file.journal.at s es l.file.disk l.beside.disk (moments_of g disks) c d is first second;
        opens = opens_one (g.since (pair_in l).first (g.moment disks.first)) (g.since (pair_in l).second (g.moment disks.second)) c d first second;
      }

  pub read_as : (k : Looked) (l : Dataset D g) (es : List Entry) (c d : List ℕ) → reads c d ≡ counts (number_of k.second) k.generation (opened (state_in k.store) es k.journal.at)
      → l.second ≡ k.second → l.generation ≡ k.generation → l.file.journal ≡ k.journal → reads c d ≡ counts (counted_in l) (generation_in l) (opened (state_in k.store) es (place_in l))
  read_as k l es c d is second generation journal =
      is ∙ ap (λ (q : Bool). counts (number_of q) k.generation (opened (state_in k.store) es k.journal.at)) (sym second)
      ∙ ap (λ (n : ℕ). counts (number_of l.second) n (opened (state_in k.store) es k.journal.at)) (sym generation)
      ∙ ap (λ (j : Journal). counts (number_of l.second) l.generation (opened (state_in k.store) es j.at)) (sym journal)
