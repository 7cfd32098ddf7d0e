-- Reading what is spelled, step by step.
use Rattle.std.proofs.Common.{◌≡◌, ℕ, zero, suc, ◌^◌, ◌<◌, ◌≤◌, Bool, true, false, cond, List, [], ◌∷◌, ◌++◌, length, replicate, Result, Ok, Err, refl, sym, ap, ◌∙◌, arith, append_assoc}
use Rattle.std.specs.Prelude.{nat_lt}
use Rattle.std.specs.List.{All, flat_map}
use Rattle.std.specs.Int.{w32, w64, from_le_bytes, to_le_bytes}
use Rattle.std.proofs.lemmas.Bool.{le-ltb}
use Rattle.std.proofs.lemmas.List.{append-nil}
use Rattle.std.proofs.lemmas.Nat.{from_le_bytes-to_le_bytes_4, from_le_bytes-to_le_bytes_8}
use Rattle.image_text.specs.Reading.{◌>>=◌, Read, test, enough, repeat, number_at}
use Rattle.db_image.specs.Rules.{EachNext, after, onto}

-- a step that gives a value
pub step : {A B : Type 0} (f : A → Result B ℕ) {r : Result A ℕ} {x : A} → r ≡ Ok x → (r >>= f) ≡ f x
step f e = ap (λ q. q >>= f) e

pub passes : {T : Type 0} (q : Bool) (x y : T) → q ≡ false → cond q x y ≡ y
passes true x y e = absurd cc
passes false x y e = refl

pub test_is : (b : Bool) (bytes : List ℕ) → b ≡ true → test b bytes ≡ Ok tt
test_is true bytes e = refl
test_is false bytes e = absurd cc

pub enough_is : (n : ℕ) (bytes : List ℕ) → n ≤ length bytes → enough n bytes ≡ Ok tt
enough_is n bytes l = passes (nat_lt (length bytes) n) (Err 0) (Ok tt) (le-ltb (length bytes) n l)

pub number_4 : (n : ℕ) (rest : List ℕ) → n < 2 ^ 32 → number_at w32 (to_le_bytes w32 n ++ rest) ≡ Ok (n, rest)
number_4 n rest l =
    passes (nat_lt (length (to_le_bytes w32 n ++ rest)) 4) (Err 0) (Ok (from_le_bytes w32 (to_le_bytes w32 n), rest)) (le-ltb (length (to_le_bytes w32 n ++ rest)) 4 (omega arith))
    ∙ ap (λ m. Ok (m, rest)) (from_le_bytes-to_le_bytes_4 n l)

pub number_8 : (n : ℕ) (rest : List ℕ) → n < 2 ^ 64 → number_at w64 (to_le_bytes w64 n ++ rest) ≡ Ok (n, rest)
number_8 n rest l =
    passes (nat_lt (length (to_le_bytes w64 n ++ rest)) 8) (Err 0) (Ok (from_le_bytes w64 (to_le_bytes w64 n), rest)) (le-ltb (length (to_le_bytes w64 n ++ rest)) 8 (omega arith))
    ∙ ap (λ m. Ok (m, rest)) (from_le_bytes-to_le_bytes_8 n l)

-- ---- items, one after another

pub repeat_back : {S A : Type 0} (next : S → A → S) (P : S → A → Type 0) (spell : A → List ℕ) (item : S → List ℕ → Read S)
    → ((s : S) (x : A) (rest : List ℕ) → P s x → item s (spell x ++ rest) ≡ Ok (next s x, rest))
    → (s : S) (xs : List A) (rest : List ℕ) → EachNext next P s xs → repeat item (length xs) s (flat_map spell xs ++ rest) ≡ Ok (after next s xs, rest)
unfolding repeat
repeat_back next P spell item one s [] rest each = refl
repeat_back next P spell item one s (x ∷ xs) rest each =
    ap (λ b. item s b >>= λ y. repeat item (length xs) y.0 y.1) (append_assoc (spell x) (flat_map spell xs) rest)
    ∙ step (λ y. repeat item (length xs) y.0 y.1) (one s x (flat_map spell xs ++ rest) each.0)
    ∙ repeat_back next P spell item one (next s x) xs rest each.1

pub after_onto : {A : Type 0} (s xs : List A) → after onto s xs ≡ s ++ xs
after_onto s [] = sym (append-nil s)
after_onto s (x ∷ xs) = after_onto (s ++ x ∷ []) xs ∙ append_assoc s (x ∷ []) xs

pub repeat_onto : {A : Type 0} (P : List A → A → Type 0) (spell : A → List ℕ) (item : List A → List ℕ → Read (List A))
    → ((s : List A) (x : A) (rest : List ℕ) → P s x → item s (spell x ++ rest) ≡ Ok (onto s x, rest))
    → (s xs : List A) (rest : List ℕ) → EachNext onto P s xs → repeat item (length xs) s (flat_map spell xs ++ rest) ≡ Ok (s ++ xs, rest)
repeat_onto P spell item one s xs rest each = repeat_back onto P spell item one s xs rest each ∙ ap (λ l. Ok (l, rest)) (after_onto s xs)

each_of : {A : Type 0} (P : A → Type 0) (s xs : List A) → All P xs → EachNext onto (λ t x. P x) s xs
each_of P s [] all = tt
each_of P s (x ∷ xs) all = (all 0 x (omega arith), each_of P (s ++ x ∷ []) xs (λ k d l. all (suc k) d (omega (arith, l))))

pub repeat_all : {A : Type 0} (P : A → Type 0) (spell : A → List ℕ) (item : List A → List ℕ → Read (List A))
    → ((s : List A) (x : A) (rest : List ℕ) → P x → item s (spell x ++ rest) ≡ Ok (onto s x, rest))
    → (s xs : List A) (rest : List ℕ) → All P xs → repeat item (length xs) s (flat_map spell xs ++ rest) ≡ Ok (s ++ xs, rest)
repeat_all P spell item one s xs rest all = repeat_onto (λ t x. P x) spell item one s xs rest (each_of P s xs all)
