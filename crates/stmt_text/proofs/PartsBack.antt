-- Words that are cut out of a statement again, and texts that are read again.
use Rattle.std.proofs.Common.{◌≡◌, ℕ, suc, ◌+◌, ◌-◌, ◌≤◌, Bool, true, false, ◌&&◌, cond, List, [], ◌∷◌, ◌++◌, length, take, drop, get_or, refl, ap, sym, subst, ◌∙◌, arith, append-nil, length-append, Option, Some}
use Rattle.std.specs.Prelude.{◌==◌, not, nat_lt, nat_le, Ok, Err}
use Rattle.std.specs.Int.{is_in_range}
use Rattle.std.specs.List.{AllByRecursion, list_all, onto_first, position_from}
use Rattle.std.proofs.lemmas.Bool.{lt-ltb, le-leb}
use Rattle.std.proofs.lemmas.Iterator.Adapters.{position_from-zero}
use Rattle.db_value.specs.Text.{is_text, is_text_byte}
use Rattle.db_value.specs.declared.value.Value.TheVariants.{Text}
use Rattle.stmt_text.specs.declared.stmt.Stmt.{Stmt}
use Rattle.stmt_text.specs.Number.{key_of}
use Rattle.stmt_text.specs.Statement.{stmt_of}
use Rattle.stmt_text.specs.Line.{session_with, session_before, rest_behind, line_with, line_of}
use Rattle.stmt_text.specs.Cut.{first_space, is_cut, is_inside, parts_from, parts_of}
use Rattle.stmt_text.specs.Field.{ended_text, text_field, field_of}
use Rattle.stmt_text.specs.Spelling.{behind_spaces}
use Rattle.stmt_text.proofs.NumberLemmas.{both}

-- nothing cuts the word, and behind it no text is open
abbrev pub Whole : Bool → List ℕ → Type 0
Whole inside [] = inside ≡ false
Whole inside (b ∷ bs) = (is_cut inside b ≡ false) × Whole (is_inside inside b) bs

pub part_cut : (inside : Bool) (w rest : List ℕ) → Whole inside w → parts_from inside (w ++ 32 ∷ rest) ≡ w ∷ parts_from false rest
part_cut inside [] rest h = ap (λ (q : Bool). parts_from q (32 ∷ rest)) h
part_cut inside (b ∷ bs) rest h =
    ap (λ (t : Bool). cond t ([] ∷ parts_from false (bs ++ 32 ∷ rest)) (onto_first b (parts_from (is_inside inside b) (bs ++ 32 ∷ rest)))) h.0
    ∙ ap (onto_first b) (part_cut (is_inside inside b) bs rest h.1)

pub part_last : (inside : Bool) (w : List ℕ) → Whole inside w → parts_from inside w ≡ w ∷ []
part_last inside [] h = refl
part_last inside (b ∷ bs) h = ap (λ (t : Bool). cond t ([] ∷ parts_from false bs) (onto_first b (parts_from (is_inside inside b) bs))) h.0 ∙ ap (onto_first b) (part_last (is_inside inside b) bs h.1)

-- words behind spaces are the parts of their statement
pub parts_behind : (w : List ℕ) (ws : List (List ℕ)) → Whole false w → AllByRecursion (Whole false) ws → parts_of (w ++ behind_spaces ws) ≡ w ∷ ws
parts_behind w [] h hs = ap parts_of (append-nil w) ∙ part_last false w h
parts_behind w (v ∷ vs) h hs = part_cut false w (v ++ behind_spaces vs) h ∙ ap (λ (us : List (List ℕ)). w ∷ us) (parts_behind v vs hs.0 hs.1)

-- one word behind another
pub whole_append : (inside : Bool) (v w : List ℕ) → Whole inside v → Whole false w → Whole inside (v ++ w)
whole_append inside [] w h k = subst (λ (q : Bool). Whole q w) (sym h) k
whole_append inside (b ∷ bs) w h k = (h.0, whole_append (is_inside inside b) bs w h.1 k)

-- ---- words without texts

-- neither a space nor a double quote
abbrev pub is_plain : ℕ → Bool
is_plain b = not (b == 32) && not (b == 34)

flipped : (q : Bool) → not q ≡ true → q ≡ false
flipped true e = absurd cc
flipped false e = refl

pub plain_whole : (w : List ℕ) → list_all is_plain w ≡ true → Whole false w
plain_whole [] e = refl
plain_whole (b ∷ bs) e =
    let p = both (is_plain b) (list_all is_plain bs) e in
    let q = both (not (b == 32)) (not (b == 34)) p.0 in
    let outside : is_inside false b ≡ false = ap (λ (t : Bool). cond t true false) (flipped (b == 34) q.1) in
    (flipped (b == 32) q.0, subst (λ (s : Bool). Whole s bs) (sym outside) (plain_whole bs p.1))

-- ---- texts

text_inside : (t w : List ℕ) → list_all is_text_byte t ≡ true → Whole true w → Whole true (t ++ w)
text_inside [] w e h = h
text_inside (b ∷ bs) w e h =
    let p = both (is_text_byte b) (list_all is_text_byte bs) e in
    let q = both (is_in_range 32 126 b) (not (b == 34)) p.0 in
    let inside : is_inside true b ≡ true = ap (λ (s : Bool). cond s false true) (flipped (b == 34) q.1) in
    (refl, subst (λ (s : Bool). Whole s (bs ++ w)) (sym inside) (text_inside bs w p.1 h))

pub quoted_whole : (t : List ℕ) → is_text t ≡ true → Whole false (34 ∷ t ++ 34 ∷ [])
quoted_whole t e = (refl, text_inside t (34 ∷ []) (both (nat_le (length t) 64) (list_all is_text_byte t) e).1 (refl, refl))

last_is : (t : List ℕ) (c : ℕ) → get_or (t ++ c ∷ []) (length t) 0 ≡ c
last_is [] c = refl
last_is (b ∷ bs) c = last_is bs c

front_is : (t w : List ℕ) → take (length t) (t ++ w) ≡ t
front_is [] w = refl
front_is (b ∷ bs) w = ap (λ (u : List ℕ). b ∷ u) (front_is bs w)

ended_by : (bs t : List ℕ) (n : ℕ) → length bs ≡ n + 1 → get_or bs n 0 ≡ 34 → take n bs ≡ t → is_text t ≡ true → ended_text bs ≡ Some t
ended_by bs t n long last front e =
    let m : length bs - 1 ≡ n = omega (arith, long) in
    let some : nat_lt 0 (length bs) ≡ true = lt-ltb 0 (length bs) (omega (arith, long)) in
    rw (some, m, last, front, e) refl

-- a text between double quotes is read as that text
pub text_back : (t : List ℕ) → is_text t ≡ true → field_of (34 ∷ t ++ 34 ∷ []) ≡ Some (Text t)
unfolding field_of
text_back t e = ap text_field (ended_by (t ++ 34 ∷ []) t (length t) (length-append t (34 ∷ [])) (last_is t 34) (front_is t (34 ∷ [])) e)

-- ---- lines

abbrev is_space : ℕ → Bool
is_space b = b == 32

space_behind : (k : ℕ) (w rest : List ℕ) → list_all is_plain w ≡ true → position_from is_space k (w ++ 32 ∷ rest) ≡ Some (k + length w)
space_behind k [] rest e = let here : k ≡ k + 0 = omega arith in ap (λ (n : ℕ). Some n) here
space_behind k (b ∷ bs) rest e =
    let p = both (is_plain b) (list_all is_plain bs) e in
    let space : (b == 32) ≡ false = flipped (b == 32) (both (not (b == 32)) (not (b == 34)) p.0).0 in
    let far : k + 1 + length bs ≡ k + suc (length bs) = omega arith in
    ap (λ (t : Bool). cond t (Some k) (position_from is_space (k + 1) (bs ++ 32 ∷ rest))) space ∙ space_behind (k + 1) bs rest p.1 ∙ ap (λ (n : ℕ). Some n) far

behind_is : (w rest : List ℕ) → drop (length w + 1) (w ++ 32 ∷ rest) ≡ rest
behind_is [] rest = refl
behind_is (b ∷ bs) rest = let one : suc (length bs) + 1 ≡ suc (length bs + 1) = omega arith in ap (λ (n : ℕ). drop n (b ∷ bs ++ 32 ∷ rest)) one ∙ behind_is bs rest

-- a session, and the words of a statement behind spaces, are read as the line
pub line_read : (n : ℕ) (w v : List ℕ) (vs : List (List ℕ)) (x : Stmt) → list_all is_plain w ≡ true → session_with (key_of w) ≡ suc n → Whole false v → AllByRecursion (Whole false) vs → stmt_of (v ∷ vs) ≡ Some x
    → length (w ++ behind_spaces (v ∷ vs)) ≤ 4096 → line_of (w ++ behind_spaces (v ∷ vs)) ≡ Ok (record { session = suc n; stmt = x })
line_read n w v vs x plain session whole wholes stmt short =
    let rest : List ℕ = v ++ behind_spaces vs in
    let text : List ℕ = w ++ 32 ∷ rest in
    let far : 0 + length w ≡ length w = omega arith in
    let place : first_space text ≡ Some (length w) = position_from-zero is_space text ∙ space_behind 0 w rest plain ∙ ap (λ (n : ℕ). Some n) far in
    let long : nat_le (length text) 4096 ≡ true = le-leb (length text) 4096 short in
    let number : session_with (key_of (take (length w) text)) ≡ suc n = ap (λ (u : List ℕ). session_with (key_of u)) (front_is w (32 ∷ rest)) ∙ session in
    let said : stmt_of (parts_of (drop (length w + 1) text)) ≡ Some x = ap (λ (u : List ℕ). stmt_of (parts_of u)) (behind_is w rest) ∙ ap stmt_of (parts_behind v vs whole wholes) ∙ stmt in
    ap (λ (o : Option ℕ). cond (nat_le (length text) 4096) (line_with (session_before text o) (stmt_of (rest_behind text o))) (Err (session_before text o))) place
    ∙ rw (long, number, said) refl
