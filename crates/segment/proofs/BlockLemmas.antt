-- Pages in blocks of 64, and pages after them.
use Rattle.std.proofs.Common.{◌≡◌, true, ℕ, zero, suc, ◌+◌, ◌-◌, ◌*◌, ◌/◌, ◌%◌, ◌<◌, ◌≤◌, List, [], ◌∷◌, ◌++◌, length, take, drop, get_or, refl, arith, ap, sym, ◌∙◌, subst, ◌⊎◌, inl, inr}
use Rattle.std.specs.List.{flat_map}
use Rattle.std.proofs.lemmas.Nat.{div-add-mod'}
use Rattle.std.proofs.Math.Nat.{mod-lt}
use Rattle.std.proofs.lemmas.Bool.{cases_lt}
use Rattle.std.proofs.lemmas.List.{append-nil, append_assoc, length-append, length_push, length-take, get_or_append_left, get_or-append_right, get_or_push, take_all, take_more}
use Rattle.std.proofs.lemmas.Grind.{flat_map-append}
use Rattle.db_value.specs.declared.record.Record.{Record}
use Rattle.db_value.specs.Widths.{are_widths}
use Rattle.record_page.specs.Page.{Rows, capacity}
use Rattle.segment.specs.Pages.{records_of, pages_of, page_at, AreWide, AreFull, AreAllFull, AreWhole, IsLaid}
use Rattle.segment.proofs.PageLemmas.{all_are, all_push, last_push, capacity_some, front_full_at, records_split, records_push, all_full_at}

abbrev no_page : Rows
no_page = record { widths = []; records = [] }

whole_rest : (b : List Rows) (bs : List (List Rows)) → AreWhole (b ∷ bs) → AreWhole bs
whole_rest b bs is i h = is (suc i) (omega (arith, h))

pub many_pages : (blocks : List (List Rows)) → AreWhole blocks → length (pages_of blocks) ≡ 64 * length blocks
many_pages [] is = refl
many_pages (b ∷ bs) is =
    let a = length-append b (pages_of bs) in
    let n = is 0 (omega arith) in
    let r = many_pages bs (whole_rest b bs is) in
    omega (arith, a, n, r)

in_block : (blocks : List (List Rows)) (tail : List Rows) (block at : ℕ) → AreWhole blocks → block < length blocks → at < 64 → page_at (pages_of blocks ++ tail) (64 * block + at) ≡ page_at (get_or blocks block []) at
in_block [] tail block at is h k = absurd (omega (arith, h))
in_block (b ∷ bs) tail zero at is h k =
    let n = is 0 (omega arith) in
    ap (λ (xs : List Rows). page_at xs (64 * 0 + at)) (append_assoc b (pages_of bs) tail)
    ∙ get_or_append_left b (pages_of bs ++ tail) no_page (64 * 0 + at) (omega (arith, n, k))
    ∙ ap (page_at b) (omega arith)
in_block (b ∷ bs) tail (suc block) at is h k =
    let n = is 0 (omega arith) in
    let less : 64 * suc block + at - 64 ≡ 64 * block + at = omega arith in
    ap (λ (xs : List Rows). page_at xs (64 * suc block + at)) (append_assoc b (pages_of bs) tail)
    ∙ get_or-append_right b (pages_of bs ++ tail) 64 (64 * suc block + at) no_page n (omega arith)
    ∙ ap (page_at (pages_of bs ++ tail)) less
    ∙ in_block bs tail block at (whole_rest b bs is) (omega (arith, h)) k

pub block_page : (blocks : List (List Rows)) (tail : List Rows) (index : ℕ) → AreWhole blocks → index / 64 < length blocks → page_at (get_or blocks (index / 64) []) (index % 64) ≡ page_at (pages_of blocks ++ tail) index
block_page blocks tail index is h =
    let e = div-add-mod' index 64 in
    let m = mod-lt index {m = 64} (omega arith) in
    let s : 64 * (index / 64) + index % 64 ≡ index = omega (arith, e) in
    sym (ap (page_at (pages_of blocks ++ tail)) (sym s) ∙ in_block blocks tail (index / 64) (index % 64) is h m)

pub tail_page : (blocks : List (List Rows)) (tail : List Rows) (index : ℕ) → AreWhole blocks → length blocks ≤ index / 64 → page_at tail (index - 64 * length blocks) ≡ page_at (pages_of blocks ++ tail) index
tail_page blocks tail index is h =
    let n = many_pages blocks is in
    let e = div-add-mod' index 64 in
    sym (get_or-append_right (pages_of blocks) tail (64 * length blocks) index no_page n (omega (arith, h, e)))

pub tail_there : (blocks : List (List Rows)) (tail : List Rows) (index : ℕ) → AreWhole blocks → length blocks ≤ index / 64 → index < length (pages_of blocks ++ tail) → index - 64 * length blocks < length tail
tail_there blocks tail index is h k =
    let n = many_pages blocks is in
    let a = length-append (pages_of blocks) tail in
    let e = div-add-mod' index 64 in
    omega (arith, n, a, e, h, k)

pub tail_starts : (blocks index : ℕ) → blocks ≤ index / 64 → 64 * blocks ≤ index
tail_starts blocks index h = let e = div-add-mod' index 64 in omega (arith, e, h)

-- ---- changes at the end

-- a block more
pub folded : (blocks : List (List Rows)) (pages : List Rows) → pages_of (blocks ++ pages ∷ []) ++ [] ≡ pages_of blocks ++ pages
folded blocks pages =
    append-nil (pages_of (blocks ++ pages ∷ []))
    ∙ flat_map-append (λ (block : List Rows). block) blocks (pages ∷ [])
    ∙ ap (λ (xs : List Rows). pages_of blocks ++ xs) (append-nil pages)

pub whole_more : (blocks : List (List Rows)) (pages : List Rows) → AreWhole blocks → length pages ≡ 64 → AreWhole (blocks ++ pages ∷ [])
whole_more blocks pages is n i h =
    elim (cases_lt i (length blocks)) [
      | inl lt ↦ ap length (get_or_append_left blocks (pages ∷ []) [] i lt) ∙ is i lt
      | inr le ↦ ap length (get_or_push blocks pages [] i (let a = length_push blocks pages in omega (arith, a, h, le))) ∙ n
    ]

-- the pages in front
pub all_front : (ws : List ℕ) (front back : List Rows) → AreAllFull ws (front ++ back) → AreAllFull ws front
all_front ws front back is =
    let n = length-append front back in
    record {
      counted = λ i h. ap (λ (p : Rows). p.widths) (sym (get_or_append_left front back no_page i h)) ∙ is.counted i (omega (arith, n, h));
      full = λ i h. ap (λ (p : Rows). length p.records) (sym (get_or_append_left front back no_page i h)) ∙ is.full i (omega (arith, n, h));
    }

-- a full page more behind the blocks
pub put_after : (ws : List ℕ) (front pages : List Rows) (p : Rows) → AreAllFull ws (front ++ pages) → p.widths ≡ ws → length p.records ≡ capacity ws → AreAllFull ws (front ++ (pages ++ p ∷ []))
put_after ws front pages p is e n = subst (AreAllFull ws) (append_assoc front pages (p ∷ [])) (all_push ws (front ++ pages) p is e n)

pub rows_after : (front pages : List Rows) (p : Rows) → records_of (front ++ (pages ++ p ∷ [])) ≡ records_of (front ++ pages) ++ p.records
rows_after front pages p = ap records_of (sym (append_assoc front pages (p ∷ []))) ∙ records_push (front ++ pages) p

take_behind : (front pages : List Rows) (n : ℕ) → n ≤ length pages → take (length front + n) (front ++ pages) ≡ front ++ take n pages
take_behind [] pages n h = ap (λ k. take k pages) (omega arith)
take_behind (x ∷ xs) pages n h =
    let e : suc (length xs) + n ≡ suc (length xs + n) = omega arith in
    ap (λ k. take k (x ∷ (xs ++ pages))) e ∙ ap (λ ps. x ∷ ps) (take_behind xs pages n h)

last_behind : (front pages : List Rows) (n : ℕ) → page_at (front ++ pages) (length front + n) ≡ page_at pages n
last_behind front pages n =
    let e : length front + n - length front ≡ n = omega arith in
    get_or-append_right front pages (length front) (length front + n) no_page refl (omega arith) ∙ ap (page_at pages) e

-- all pages but the last
pub front_all : (ws : List ℕ) (front pages : List Rows) (n : ℕ) → AreFull ws (front ++ pages) → n + 1 ≡ length pages → AreAllFull ws (front ++ take n pages)
front_all ws front pages n is e =
    let a = length-append front pages in
    subst (AreAllFull ws) (take_behind front pages n (omega (arith, e))) (front_full_at ws (front ++ pages) (length front + n) is (omega (arith, a, e)))

pub front_rows : (front pages : List Rows) (n : ℕ) → n + 1 ≡ length pages → records_of (front ++ take n pages) ++ (page_at pages n).records ≡ records_of (front ++ pages)
front_rows front pages n e =
    let a = length-append front pages in
    ap (λ (xs : List Rows). records_of xs ++ (page_at pages n).records) (sym (take_behind front pages n (omega (arith, e))))
    ∙ ap (λ (p : Rows). records_of (take (length front + n) (front ++ pages)) ++ p.records) (sym (last_behind front pages n))
    ∙ records_split (front ++ pages) (length front + n) (omega (arith, a, e))

-- all pages, where the last is full too
pub last_all : (ws : List ℕ) (front pages : List Rows) (n : ℕ) → AreFull ws (front ++ pages) → n + 1 ≡ length pages → capacity ws ≤ length (page_at pages n).records → AreAllFull ws (front ++ pages)
last_all ws front pages n is e f =
    let a = length-append front pages in
    all_full_at ws (front ++ pages) (length front + n) is (omega (arith, a, e)) (subst (λ (p : Rows). capacity ws ≤ length p.records) (sym (last_behind front pages n)) f)

pub last_widths : (ws : List ℕ) (front pages : List Rows) (n : ℕ) → AreFull ws (front ++ pages) → n + 1 ≡ length pages → (page_at pages n).widths ≡ ws
last_widths ws front pages n is e =
    let a = length-append front pages in
    ap (λ (p : Rows). p.widths) (sym (last_behind front pages n)) ∙ is.counted (length front + n) (omega (arith, a, e))

-- all pages of a segment, where the last of them is full or there is none after the blocks
pub all_if : (ws : List ℕ) (blocks : List (List Rows)) (tail : List Rows) → IsLaid ws blocks tail → (0 < length tail → capacity ws ≤ length (page_at tail (length tail - 1)).records) → AreAllFull ws (pages_of blocks ++ tail)
all_if ws blocks [] is h = subst (AreAllFull ws) (sym (append-nil (pages_of blocks))) is.front
all_if ws blocks (p ∷ ps) is h = last_all ws (pages_of blocks) (p ∷ ps) (length (p ∷ ps) - 1) is.pages (omega arith) (h (omega arith))

-- after a full page was put after the others, or wasn't
pub after_put : (ws : List ℕ) (front old new : List Rows) (p : Rows) → (new ≡ old) ⊎ (new ≡ old ++ p ∷ []) → AreAllFull ws (front ++ old) → p.widths ≡ ws → length p.records ≡ capacity ws → AreAllFull ws (front ++ new)
after_put ws front old new p (inl e) is f n = subst (λ (xs : List Rows). AreAllFull ws (front ++ xs)) (sym e) is
after_put ws front old new p (inr e) is f n = subst (λ (xs : List Rows). AreAllFull ws (front ++ xs)) (sym e) (put_after ws front old p is f n)

pub few_put : (old new : List Rows) (p : Rows) → (new ≡ old) ⊎ (new ≡ old ++ p ∷ []) → length old < 64 → length new ≤ 64
few_put old new p (inl e) h = let n = ap length e in omega (arith, n, h)
few_put old new p (inr e) h = let n = ap length e ∙ length_push old p in omega (arith, n, h)

-- how a segment's pages lie when all are full, and with a last one after them
pub laid_all : (ws : List ℕ) (blocks : List (List Rows)) (tail : List Rows) → are_widths ws ≡ true → AreAllFull ws (pages_of blocks ++ tail) → AreWhole blocks → length tail ≤ 64 → AreWide ws (records_of (pages_of blocks ++ tail)) → IsLaid ws blocks tail
laid_all ws blocks tail are full whole few wide = record {
  are = are;
  pages = all_are ws (pages_of blocks ++ tail) full (capacity_some ws are);
  front = all_front ws (pages_of blocks) tail full;
  whole = whole;
  few = few;
  wide = wide;
}

pub laid_last : (ws : List ℕ) (blocks : List (List Rows)) (tail : List Rows) (p : Rows) → are_widths ws ≡ true → AreAllFull ws (pages_of blocks ++ tail) → AreWhole blocks → length tail < 64 → p.widths ≡ ws → 0 < length p.records → length p.records ≤ capacity ws → AreWide ws (records_of (pages_of blocks ++ tail) ++ p.records) → IsLaid ws blocks (tail ++ p ∷ [])
laid_last ws blocks tail p are full whole few e has fits wide = record {
  are = are;
  pages = subst (AreFull ws) (append_assoc (pages_of blocks) tail (p ∷ [])) (last_push ws (pages_of blocks ++ tail) p full e has fits (capacity_some ws are));
  front = all_front ws (pages_of blocks) tail full;
  whole = whole;
  few = let n = length_push tail p in omega (arith, n, few);
  wide = subst (AreWide ws) (sym (rows_after (pages_of blocks) tail p)) wide;
}
