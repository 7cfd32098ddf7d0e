-- The exclusive or of lists, in any order, and place by place.
use Rattle.std.proofs.Common.{◌≡◌, ℕ, zero, suc, ◌+◌, ◌-◌, ◌<◌, ◌≤◌, max, Bool, true, false, List, [], ◌∷◌, ◌++◌, length, take, get_or, replicate, refl, sym, ap, ap₂, ◌∙◌, arith, ext_get_or, length-append}
use Rattle.std.proofs.lemmas.List.{length-replicate, take_more}
use Rattle.plain_bits.specs.Truth.{bit_of, differ, lengthened}
use Rattle.commit_history.specs.Combined.{xor_of, combined}

pub differ_comm : (a b : Bool) → differ a b ≡ differ b a
differ_comm true true = refl
differ_comm true false = refl
differ_comm false true = refl
differ_comm false false = refl

pub differ_assoc : (a b c : Bool) → differ a (differ b c) ≡ differ (differ a b) c
differ_assoc true true true = refl
differ_assoc true true false = refl
differ_assoc true false true = refl
differ_assoc true false false = refl
differ_assoc false b c = refl

pub differ_false : (a : Bool) → differ a false ≡ a
differ_false true = refl
differ_false false = refl

-- the first of three to the front
pub differ_front : (a b c : Bool) → differ a (differ b c) ≡ differ b (differ a c)
differ_front a b c = differ_assoc a b c ∙ ap (λ (x : Bool). differ x c) (differ_comm a b) ∙ sym (differ_assoc b a c)

pub xor_of-nil : (xs : List Bool) → xor_of xs [] ≡ xs
xor_of-nil [] = refl
xor_of-nil (x ∷ xs) = refl

pub xor_of-comm : (xs ys : List Bool) → xor_of xs ys ≡ xor_of ys xs
xor_of-comm [] ys = sym (xor_of-nil ys)
xor_of-comm (x ∷ xs) [] = refl
xor_of-comm (x ∷ xs) (y ∷ ys) = ap₂ (λ (z : Bool) (zs : List Bool). z ∷ zs) (differ_comm x y) (xor_of-comm xs ys)

pub xor_of-assoc : (xs ys zs : List Bool) → xor_of xs (xor_of ys zs) ≡ xor_of (xor_of xs ys) zs
xor_of-assoc [] ys zs = refl
xor_of-assoc (x ∷ xs) [] zs = refl
xor_of-assoc (x ∷ xs) (y ∷ ys) [] = refl
xor_of-assoc (x ∷ xs) (y ∷ ys) (z ∷ zs) = ap₂ (λ (v : Bool) (vs : List Bool). v ∷ vs) (differ_assoc x y z) (xor_of-assoc xs ys zs)

pub combined-append : (xs ys : List (List Bool)) → combined (xs ++ ys) ≡ xor_of (combined xs) (combined ys)
combined-append [] ys = refl
combined-append (x ∷ xs) ys = ap (xor_of x) (combined-append xs ys) ∙ xor_of-assoc x (combined xs) (combined ys)

pub combined-push : (xs : List (List Bool)) (x : List Bool) → combined (xs ++ x ∷ []) ≡ xor_of x (combined xs)
combined-push xs x = combined-append xs (x ∷ []) ∙ ap (xor_of (combined xs)) (xor_of-nil x) ∙ xor_of-comm (combined xs) x

-- one list more, on top of what there was before
pub combined-more : (xs : List (List Bool)) (x start : List Bool) → xor_of x (xor_of (combined xs) start) ≡ xor_of (combined (xs ++ x ∷ [])) start
combined-more xs x start = xor_of-assoc x (combined xs) start ∙ ap (λ front. xor_of front start) (sym (combined-push xs x))

pub length-xor_of : (xs ys : List Bool) → length (xor_of xs ys) ≡ max (length xs) (length ys)
length-xor_of [] ys = omega arith
length-xor_of (x ∷ xs) [] = omega arith
length-xor_of (x ∷ xs) (y ∷ ys) = let k = length-xor_of xs ys in omega (arith, k)

pub bit-xor_of : (xs ys : List Bool) (k : ℕ) → bit_of (xor_of xs ys) k ≡ differ (bit_of xs k) (bit_of ys k)
bit-xor_of [] ys k = refl
bit-xor_of (x ∷ xs) [] zero = sym (differ_false x)
bit-xor_of (x ∷ xs) [] (suc k) = sym (differ_false (bit_of xs k))
bit-xor_of (x ∷ xs) (y ∷ ys) zero = refl
bit-xor_of (x ∷ xs) (y ∷ ys) (suc k) = bit-xor_of xs ys k

bit_falses : (n k : ℕ) → bit_of (replicate n false) k ≡ false
bit_falses zero k = refl
bit_falses (suc n) zero = refl
bit_falses (suc n) (suc k) = bit_falses n k

behind : (bits : List Bool) (n k : ℕ) → bit_of (bits ++ replicate n false) k ≡ bit_of bits k
behind [] n k = bit_falses n k
behind (b ∷ bs) n zero = refl
behind (b ∷ bs) n (suc k) = behind bs n k

-- what has the exclusive or's places is it
pub is_xor : (xs ys new : List Bool) → length xs ≤ length ys → length new ≡ length ys → ((k : ℕ) → bit_of new k ≡ differ (bit_of xs k) (bit_of ys k)) → new ≡ xor_of xs ys
is_xor xs ys new shorter same bits =
    let n = length-xor_of xs ys in
    ext_get_or false new (xor_of xs ys) (omega (arith, n, shorter, same)) (λ k h. bits k ∙ sym (bit-xor_of xs ys k))

-- falses behind a list that is shorter than the other change nothing
pub xor_of-lengthened : (xs ys : List Bool) → xor_of xs (lengthened ys (length xs)) ≡ xor_of xs ys
xor_of-lengthened xs ys =
    let m = length xs - length ys in
    let a = length-xor_of xs (lengthened ys (length xs)) in
    let b = length-xor_of xs ys in
    let c = length-append ys (replicate m false) in
    let d = length-replicate {A = Bool} m false in
    ext_get_or false (xor_of xs (lengthened ys (length xs))) (xor_of xs ys) (omega (arith, a, b, c, d)) (λ k h.
    bit-xor_of xs (lengthened ys (length xs)) k ∙ ap (differ (bit_of xs k)) (behind ys m k) ∙ sym (bit-xor_of xs ys k))

-- one delta more of those that a bitmap has
pub next_combined : (items : List (List Bool)) (i : ℕ) (item start before after : List Bool) → i < length items → get_or items i item ≡ item
    → after ≡ xor_of item before → before ≡ xor_of (combined (take i items)) start → after ≡ xor_of (combined (take (i + 1) items)) start
next_combined items i item start before after lt is has had =
    has ∙ ap (xor_of item) had ∙ combined-more (take i items) item start
    ∙ ap (λ xs. xor_of (combined xs) start) (ap (λ x. take i items ++ x ∷ []) (sym is) ∙ sym (take_more items i item lt))
