-- The head of a segment is a branch that is there.
use Rattle.std.proofs.Common.{◌≡◌, ◌⊎◌, inl, inr, ℕ, ◌<◌, ◌≤◌, true, false, Option, Some, None, length, ◌==◌, refl, sym, ◌∙◌, arith}
use Rattle.std.specs.Prelude.{IfSome}
use Rattle.std.proofs.lemmas.Bool.{eq-eqb, cases_lt}
use Rattle.std.proofs.lemmas.List.{length-map}
use Rattle.db_store.specs.Layout.{Layout, segments_at, branch_of, dataset_in}
use Rattle.db_store.specs.LaidOut.{head_at, IsLaid}
use Rattle.db_store.specs.LayoutGrowth.{is_head_of}
use Rattle.db_store.specs.Sound.{IsSound}

pub head_small : (l : Layout) → IsLaid l → IsSound (dataset_in l) → (r s : ℕ) → r < length l.schema → s < length (segments_at l.segments r) → IfSome (head_at (segments_at l.segments r) s) (λ b. b < 1024)
head_small l laid sound r s hr hs = at (head_at (segments_at l.segments r) s) (λ c le. laid.heads r s c hr hs le)
  where
    few : length l.lanes ≤ 1024
    few = let n = length-map l.lanes (branch_of l.schema l.segments) in let f = sound.few_branches in omega (arith, n, f)

    below : (b : ℕ) → (length l.lanes ≤ b → (b == b) ≡ false) → (b < length l.lanes) ⊎ (length l.lanes ≤ b) → b < 1024
    below b h (inl lt) = let f = few in omega (arith, f, lt)
    below b h (inr le) = absurd (let z : true ≡ false = sym (eq-eqb b b refl) ∙ h le in cc)

    at : (o : Option ℕ) → ((c : ℕ) → length l.lanes ≤ c → is_head_of c o ≡ false) → IfSome o (λ b. b < 1024)
    at None h = tt
    at (Some b) h = below b (h b) (cases_lt b (length l.lanes))
