-- One line more of a script.
use Rattle.std.proofs.Common.{◌≡◌, ◌∙◌, ◌++◌, ◌∷◌, ◌+◌, ◌*◌, ◌%◌, ◌^◌, List, [], ℕ, suc, refl, sym, ap, add-one, append_assoc, append-nil}
use Rattle.load_maker.specs.Script.{drawn, first_lines, line_at, line_with}

-- the script's own number is drawn for line 0
pub drawn_first : (n : ℕ) → drawn n 0 ≡ n
unfolding drawn
drawn_first n = refl

-- what is drawn for the next line
pub drawn_next : (n i x y : ℕ) → x ≡ drawn n i → y ≡ (x * 6364136223846793005 + 1442695040888963407) % 2 ^ 64 → y ≡ drawn n (i + 1)
unfolding drawn
drawn_next n i x y d e = e ∙ ap (λ (z : ℕ). (z * 6364136223846793005 + 1442695040888963407) % 2 ^ 64) d ∙ ap (drawn n) (sym (add-one i))

-- no line is written yet
pub no_lines : (n : ℕ) (a : List ℕ) → a ≡ a ++ first_lines n 0
unfolding first_lines
no_lines n a = sym (append-nil a)

first_next : (n i : ℕ) → first_lines n (i + 1) ≡ first_lines n i ++ (line_at n (i + 1) ++ 10 ∷ [])
unfolding first_lines
first_next n i = ap (first_lines n) (add-one i) ∙ ap (λ (k : ℕ). first_lines n i ++ (line_at n k ++ 10 ∷ [])) (sym (add-one i))

-- one line more, with its end
pub lines_next : (n i x : ℕ) (a b c d : List ℕ) → x ≡ drawn n (i + 1) → b ≡ a ++ first_lines n i → c ≡ b ++ line_with (i + 1) x → d ≡ c ++ 10 ∷ []
    → d ≡ a ++ first_lines n (i + 1)
lines_next n i x a b c d drawn_is so_far line end =
    end
    ∙ ap (λ (z : List ℕ). z ++ 10 ∷ []) (line ∙ ap (λ (z : List ℕ). z ++ line_with (i + 1) x) so_far ∙ ap (λ (z : ℕ). (a ++ first_lines n i) ++ line_with (i + 1) z) drawn_is)
    ∙ append_assoc (a ++ first_lines n i) (line_at n (i + 1)) (10 ∷ [])
    ∙ append_assoc a (first_lines n i) (line_at n (i + 1) ++ 10 ∷ [])
    ∙ ap (λ (z : List ℕ). a ++ z) (sym (first_next n i))
