-- No chain of waits comes back to its start: each session in it is older than the last one.
use Rattle.std.proofs.Common.{◌≡◌, ℕ, true, List, [], ◌∷◌, sym, ◌∙◌, subst}
use Rattle.std.proofs.lemmas.Bool.{true≢false}
use Rattle.wait_die.specs.Waiting.{WaitTable, is_older}
use Rattle.wait_die.specs.Kept.{IsKept, WaitsOn, IsChain, HasNoCircle}
use Rattle.wait_die.proofs.Ages.{not_older, older_older}

wait_older : (t : WaitTable) → IsKept t → (a b : ℕ) → WaitsOn t a b → is_older t.begun a b ≡ true
wait_older t k a b w = subst (λ (y : ℕ). is_older t.begun a y ≡ true) w.3 (subst (λ (x : ℕ). is_older t.begun x w.0.on ≡ true) w.2 (k.waits w.0 w.1).older)

chain_older : (t : WaitTable) → IsKept t → (from : ℕ) (between : List ℕ) (to : ℕ) → IsChain t from between to → is_older t.begun from to ≡ true
chain_older t k from [] to c = wait_older t k from to c
chain_older t k from (s ∷ ss) to c = older_older t.begun from s to (wait_older t k from s c.0) (chain_older t k s ss to c.1)

pub no_circle : (t : WaitTable) → IsKept t → HasNoCircle t
no_circle t k start between c = true≢false (sym (chain_older t k start between start c) ∙ not_older t.begun start)
