-- A ticket that was given stays given.
use Rattle.std.proofs.Common.{◌≡◌, inl, inr, ℕ, ◌<◌, Bool, List, [], ◌∷◌, ◌++◌, length, Option, None, Some, length-append, refl, sym, subst, ◌∙◌, arith}
use Rattle.flush_queue.specs.Queue.{AtQueue, IsGiven, outcome, settled, settled_by}

longer : (q : AtQueue) (written : Bool) (u : ℕ) → IsGiven q u → IsGiven (settled q written) u
longer q written u (inl lt) = inl (omega (arith, lt, length-append q.results (written ∷ [])))
longer q written u (inr is) = let at = is.0 in inl (omega (arith, at, length-append q.results (written ∷ [])))

given_by : (o : Option Bool) (q : AtQueue) (written : Bool) (u : ℕ) → IsGiven q u → IsGiven (settled_by o q written) u
given_by None q written u g = longer q written u g
given_by (Some earlier) q written u g = g

-- after a ticket was settled
pub settled_given : (q r : AtQueue) (t : ℕ) (written : Bool) → r ≡ settled_by (outcome q t) q written → (u : ℕ) → IsGiven q u → IsGiven r u
settled_given q r t written is u g = subst (λ (x : AtQueue). IsGiven x u) (sym is) (given_by (outcome q t) q written u g)

some_more : (xs ys : List ℕ) → (xs ≡ [] → ⊥) → xs ++ ys ≡ [] → ⊥
some_more [] ys some e = some refl
some_more (x ∷ xs) ys some e = absurd (cc e)

-- after an entry was offered
pub offered_given : (q : AtQueue) (waiting entry : List ℕ) (results : List Bool) → waiting ≡ q.waiting ++ entry → results ≡ q.results → (u : ℕ) → IsGiven q u → IsGiven (record { waiting = waiting; results = results }) u
offered_given q waiting entry results more same u (inl lt) = inl (subst (λ (rs : List Bool). u < length rs) (sym same) lt)
offered_given q waiting entry results more same u (inr here) =
    inr (subst (λ (rs : List Bool). u ≡ length rs) (sym same) here.0, λ none. some_more q.waiting entry here.1 (sym more ∙ none))
