-- Where a record stands among pages that are full but the last, and what pages are after a change.
use Rattle.std.proofs.Common.{◌≡◌, true, ℕ, zero, suc, ◌+◌, ◌-◌, ◌*◌, ◌/◌, ◌%◌, ◌<◌, ◌≤◌, List, [], ◌∷◌, ◌++◌, length, take, drop, get_or, refl, arith, ap, sym, ◌∙◌, subst, ◌⊎◌, inl, inr}
use Rattle.std.specs.List.{flat_map}
use Rattle.std.proofs.lemmas.Nat.{div-add-mod'}
use Rattle.std.proofs.Math.Nat.{mod-lt, div-mul-le_self, mul-le-mul_right}
use Rattle.std.proofs.lemmas.Bool.{cases_lt}
use Rattle.std.proofs.lemmas.List.{append-nil, append_assoc, length-append, length-drop, length-take, length_push, get_or_append_left, get_or-append_right, get_or-take, get_or-drop, get_or_push, take_all, take_at, take-append-le, drop_at, drop-drop, drop-append-le, take_more}
use Rattle.std.proofs.lemmas.Grind.{flat_map-append}
use Rattle.db_value.specs.declared.record.Record.{Record}
use Rattle.db_value.specs.Widths.{are_widths, meets}
use Rattle.record_page.specs.Page.{Rows, capacity, record_at}
use Rattle.record_page.proofs.Pages.{capacity_some as holds_one}
use Rattle.segment.specs.Pages.{page_count, page_of, records_of, page_at, AreWide, AreFull, AreAllFull}

abbrev no_page : Rows
no_page = record { widths = []; records = [] }

-- without the first page
rest_full : (ws : List ℕ) (p : Rows) (ps : List Rows) → AreFull ws (p ∷ ps) → AreFull ws ps
rest_full ws p ps is = record {
  counted = λ i h. is.counted (suc i) (omega (arith, h));
  full = λ i h. is.full (suc i) (omega (arith, h));
  some = λ i h. is.some (suc i) (omega (arith, h));
  fits = λ i h. is.fits (suc i) (omega (arith, h));
}

pub record Stands (ws : List ℕ) (pages : List Rows) (page slot place : ℕ) : Type 0 where
  pub page_there : page < length pages
  pub slot_there : slot < length (page_at pages page).records
  pub same : record_at (records_of pages) place ≡ record_at (page_at pages page).records slot

pub at_place : (ws : List ℕ) (pages : List Rows) (page slot place : ℕ) → AreFull ws pages → place ≡ page * capacity ws + slot → slot < capacity ws → place < length (records_of pages) → Stands ws pages page slot place
at_place ws [] page slot place is e c h = absurd (omega (arith, h))
at_place ws (p ∷ []) zero slot place is e c h =
    let n = length-append p.records [] in
    let z : place ≡ slot = omega (arith, e) in
    record {
      page_there = omega arith;
      slot_there = omega (arith, n, z, h);
      same = ap (record_at (p.records ++ [])) z ∙ ap (λ xs. record_at xs slot) (append-nil p.records);
    }
at_place ws (p ∷ []) (suc page) slot place is e c h =
    let n = length-append p.records [] in let f = is.fits 0 (omega arith) in
    let more : suc page * capacity ws ≡ capacity ws + page * capacity ws = omega arith in
    absurd (omega (arith, n, f, e, h, more))
at_place ws (p ∷ q ∷ ps) zero slot place is e c h =
    let z : place ≡ slot = omega (arith, e) in let f = is.full 0 (omega arith) in
    record {
      page_there = omega arith;
      slot_there = omega (arith, f, c);
      same = ap (record_at (p.records ++ records_of (q ∷ ps))) z ∙ get_or_append_left p.records (records_of (q ∷ ps)) (record { key = 0; fields = [] }) slot (omega (arith, f, c));
    }
at_place ws (p ∷ q ∷ ps) (suc page) slot place is e c h =
    let f = is.full 0 (omega arith) in
    let n = length-append p.records (records_of (q ∷ ps)) in
    let more : suc page * capacity ws ≡ capacity ws + page * capacity ws = omega arith in
    let rest = at_place ws (q ∷ ps) page slot (place - capacity ws) (rest_full ws p (q ∷ ps) is) (omega (arith, e, more)) c (omega (arith, n, f, e, more, h)) in
    let k = rest.page_there in
    record {
      page_there = omega (arith, k);
      slot_there = rest.slot_there;
      same = get_or-append_right p.records (records_of (q ∷ ps)) (capacity ws) place (record { key = 0; fields = [] }) f (omega (arith, e, more)) ∙ rest.same;
    }

pub found : (ws : List ℕ) (pages : List Rows) (place : ℕ) → AreFull ws pages → place % capacity ws < capacity ws → place < length (records_of pages) → Stands ws pages (place / capacity ws) (place % capacity ws) place
found ws pages place is c h = at_place ws pages (place / capacity ws) (place % capacity ws) place is (sym (div-add-mod' place (capacity ws))) c h

-- full pages, and maybe one more that isn't empty
pub all_are : (ws : List ℕ) (pages : List Rows) → AreAllFull ws pages → 0 < capacity ws → AreFull ws pages
all_are ws pages is some = record {
  counted = is.counted;
  full = λ i h. is.full i (omega (arith, h));
  some = λ i h. let f = is.full i h in omega (arith, f, some);
  fits = λ i h. let f = is.full i h in omega (arith, f);
}

pub all_push : (ws : List ℕ) (pages : List Rows) (p : Rows) → AreAllFull ws pages → p.widths ≡ ws → length p.records ≡ capacity ws → AreAllFull ws (pages ++ p ∷ [])
all_push ws pages p is e f = record {
  counted = λ i h. by i h (cases_lt i (length pages));
  full = λ i h. filled i h (cases_lt i (length pages));
}
  where
    by : (i : ℕ) → i < length (pages ++ p ∷ []) → (i < length pages) ⊎ (length pages ≤ i) → (get_or (pages ++ p ∷ []) i no_page).widths ≡ ws
    by i h (inl l) = ap (λ (x : Rows). x.widths) (get_or_append_left pages (p ∷ []) no_page i l) ∙ is.counted i l
    by i h (inr g) = let n = length_push pages p in ap (λ (x : Rows). x.widths) (get_or_push pages p no_page i (omega (arith, n, h, g))) ∙ e

    filled : (i : ℕ) → i < length (pages ++ p ∷ []) → (i < length pages) ⊎ (length pages ≤ i) → length (get_or (pages ++ p ∷ []) i no_page).records ≡ capacity ws
    filled i h (inl l) = ap (λ (x : Rows). length x.records) (get_or_append_left pages (p ∷ []) no_page i l) ∙ is.full i l
    filled i h (inr g) = let n = length_push pages p in ap (λ (x : Rows). length x.records) (get_or_push pages p no_page i (omega (arith, n, h, g))) ∙ f

pub last_push : (ws : List ℕ) (pages : List Rows) (p : Rows) → AreAllFull ws pages → p.widths ≡ ws → 0 < length p.records → length p.records ≤ capacity ws → 0 < capacity ws → AreFull ws (pages ++ p ∷ [])
last_push ws pages p is e some fits room = record {
  counted = λ i h. by i h (cases_lt i (length pages));
  full = λ i h. let n = length_push pages p in let l : i < length pages = omega (arith, n, h) in ap (λ (x : Rows). length x.records) (get_or_append_left pages (p ∷ []) no_page i l) ∙ is.full i l;
  some = λ i h. has i h (cases_lt i (length pages));
  fits = λ i h. within i h (cases_lt i (length pages));
}
  where
    at : (i : ℕ) → i < length pages → get_or (pages ++ p ∷ []) i no_page ≡ get_or pages i no_page
    at i l = get_or_append_left pages (p ∷ []) no_page i l

    end : (i : ℕ) → i < length (pages ++ p ∷ []) → length pages ≤ i → get_or (pages ++ p ∷ []) i no_page ≡ p
    end i h g = let n = length_push pages p in get_or_push pages p no_page i (omega (arith, n, h, g))

    by : (i : ℕ) → i < length (pages ++ p ∷ []) → (i < length pages) ⊎ (length pages ≤ i) → (get_or (pages ++ p ∷ []) i no_page).widths ≡ ws
    by i h (inl l) = ap (λ (x : Rows). x.widths) (at i l) ∙ is.counted i l
    by i h (inr g) = ap (λ (x : Rows). x.widths) (end i h g) ∙ e

    has : (i : ℕ) → i < length (pages ++ p ∷ []) → (i < length pages) ⊎ (length pages ≤ i) → 0 < length (get_or (pages ++ p ∷ []) i no_page).records
    has i h (inl l) = subst (λ (x : Rows). 0 < length x.records) (sym (at i l)) (let f = is.full i l in omega (arith, f, room))
    has i h (inr g) = subst (λ (x : Rows). 0 < length x.records) (sym (end i h g)) some

    within : (i : ℕ) → i < length (pages ++ p ∷ []) → (i < length pages) ⊎ (length pages ≤ i) → length (get_or (pages ++ p ∷ []) i no_page).records ≤ capacity ws
    within i h (inl l) = subst (λ (x : Rows). length x.records ≤ capacity ws) (sym (at i l)) (let f = is.full i l in omega (arith, f))
    within i h (inr g) = subst (λ (x : Rows). length x.records ≤ capacity ws) (sym (end i h g)) fits

pub records_push : (pages : List Rows) (p : Rows) → records_of (pages ++ p ∷ []) ≡ records_of pages ++ p.records
records_push pages p = flat_map-append (λ (x : Rows). x.records) pages (p ∷ []) ∙ ap (λ xs. records_of pages ++ xs) (append-nil p.records)

-- all but the last are full
pub front_full : (ws : List ℕ) (pages front : List Rows) (p : Rows) → pages ≡ front ++ p ∷ [] → AreFull ws pages → AreAllFull ws front
front_full ws pages front p e is = record {
  counted = λ i h. ap (λ (x : Rows). x.widths) (sym (at i h)) ∙ is.counted i (below i h);
  full = λ i h. ap (λ (x : Rows). length x.records) (sym (at i h)) ∙ is.full i (let n = count in omega (arith, n, h));
}
  where
    count : length pages ≡ length front + 1
    count = ap length e ∙ length_push front p

    below : (i : ℕ) → i < length front → i < length pages
    below i h = let n = count in omega (arith, n, h)

    at : (i : ℕ) → i < length front → get_or pages i no_page ≡ get_or front i no_page
    at i h = ap (λ xs. get_or xs i no_page) e ∙ get_or_append_left front (p ∷ []) no_page i h

-- a page holds a record
pub capacity_some : (ws : List ℕ) → are_widths ws ≡ true → 0 < capacity ws
capacity_some ws are = holds_one ws are

-- a record is found in its page, counted from the page's first one
pub slot_here : (all : Rows) (slot most : ℕ) → most ≡ capacity all.widths → 0 < most → slot < length all.records
    → (slot % most < length (page_of all (slot / most)).records) × (record_at (page_of all (slot / most)).records (slot % most) ≡ record_at all.records slot)
slot_here all slot most e some h =
    let cap : ℕ = capacity all.widths in
    let at : ℕ = slot / most in
    let left : ℕ = slot % most in
    let whole : at * most + left ≡ slot = div-add-mod' slot most in
    let less : left < most = mod-lt slot {m = most} some in
    let same : at * cap ≡ at * most = ap (λ (k : ℕ). at * k) (sym e) in
    let d = length-drop (at * cap) all.records in
    let t = length-take cap (drop (at * cap) all.records) in
    let place : at * cap + left ≡ slot = omega (arith, whole, same) in
    let none : Record = record { key = 0; fields = [] } in (
      omega (arith, d, t, place, less, e, h),
      get_or-take cap (drop (at * cap) all.records) left none (omega (arith, less, e)) ∙ get_or-drop (at * cap) all.records left none ∙ ap (λ (k : ℕ). record_at all.records k) place,
    )

-- a record more that meets the widths
pub wide_push : (ws : List ℕ) (rows : List Record) (row : Record) → AreWide ws rows → meets ws row.fields ≡ true → AreWide ws (rows ++ row ∷ [])
wide_push ws rows row are met i h = by (cases_lt i (length rows))
  where
    none : Record
    none = record { key = 0; fields = [] }

    by : (i < length rows) ⊎ (length rows ≤ i) → meets ws (record_at (rows ++ row ∷ []) i).fields ≡ true
    by (inl l) = subst (λ (r : Record). meets ws r.fields ≡ true) (sym (get_or_append_left rows (row ∷ []) none i l)) (are i l)
    by (inr g) = subst (λ (r : Record). meets ws r.fields ≡ true) (sym (get_or_push rows row none i (let n = length_push rows row in omega (arith, n, h, g)))) met

split_last : (pages : List Rows) (n : ℕ) → n + 1 ≡ length pages → pages ≡ take n pages ++ get_or pages n no_page ∷ []
split_last pages n e = sym (take_all (n + 1) pages (omega (arith, e))) ∙ take_more pages n no_page (omega (arith, e))

-- all pages but the last are full
pub front_full_at : (ws : List ℕ) (pages : List Rows) (n : ℕ) → AreFull ws pages → n + 1 ≡ length pages → AreAllFull ws (take n pages)
front_full_at ws pages n is e = front_full ws pages (take n pages) (get_or pages n no_page) (split_last pages n e) is

pub records_split : (pages : List Rows) (n : ℕ) → n + 1 ≡ length pages → records_of (take n pages) ++ (get_or pages n no_page).records ≡ records_of pages
records_split pages n e = sym (records_push (take n pages) (get_or pages n no_page)) ∙ sym (ap records_of (split_last pages n e))

-- where the last page is full too, all are
pub all_full_at : (ws : List ℕ) (pages : List Rows) (n : ℕ) → AreFull ws pages → n + 1 ≡ length pages → capacity ws ≤ length (get_or pages n no_page).records → AreAllFull ws pages
all_full_at ws pages n is e f = record {
  counted = is.counted;
  full = λ i h. by i h (cases_lt i n);
}
  where
    by : (i : ℕ) → i < length pages → (i < n) ⊎ (n ≤ i) → length (get_or pages i no_page).records ≡ capacity ws
    by i h (inl l) = is.full i (omega (arith, l, e))
    by i h (inr g) =
        let z : i ≡ n = omega (arith, h, g, e) in
        let m = is.fits n (omega (arith, e)) in
        ap (λ k. length (get_or pages k no_page).records) z ∙ omega (arith, m, f)

pub none_full : (ws : List ℕ) (pages : List Rows) → length pages ≡ 0 → AreAllFull ws pages
none_full ws pages e = record { counted = λ i h. absurd (omega (arith, h, e)); full = λ i h. absurd (omega (arith, h, e)) }

pub page_there : (ws : List ℕ) (pages : List Rows) (place : ℕ) → AreFull ws pages → 0 < capacity ws → place < length (records_of pages) → place / capacity ws < length pages
page_there ws pages place is c h = (found ws pages place is (mod-lt place {m = capacity ws} c) h).page_there

-- a page is the run of records that its place tells
pub run_is : (ws : List ℕ) (pages : List Rows) (index : ℕ) → AreFull ws pages → index < length pages → take (capacity ws) (drop (index * capacity ws) (records_of pages)) ≡ (page_at pages index).records
run_is ws [] index is h = absurd (omega (arith, h))
run_is ws (p ∷ []) zero is h =
    let f = is.fits 0 (omega arith) in
    let z : 0 * capacity ws ≡ 0 = omega arith in
    ap (λ k. take (capacity ws) (drop k (p.records ++ []))) z ∙ ap (take (capacity ws)) (append-nil p.records) ∙ take_all (capacity ws) p.records f
run_is ws (p ∷ []) (suc index) is h = absurd (omega (arith, h))
run_is ws (p ∷ q ∷ ps) zero is h =
    let f = is.full 0 (omega arith) in
    let z : 0 * capacity ws ≡ 0 = omega arith in
    ap (λ k. take (capacity ws) (drop k (p.records ++ records_of (q ∷ ps)))) z ∙ take_at p.records (records_of (q ∷ ps)) (capacity ws) f
run_is ws (p ∷ q ∷ ps) (suc index) is h =
    let f = is.full 0 (omega arith) in
    let more : suc index * capacity ws ≡ capacity ws + index * capacity ws = omega arith in
    let rest : drop (suc index * capacity ws) (p.records ++ records_of (q ∷ ps)) ≡ drop (index * capacity ws) (records_of (q ∷ ps)) =
    ap (λ k. drop k (p.records ++ records_of (q ∷ ps))) more ∙ sym (drop-drop (index * capacity ws) (capacity ws) (p.records ++ records_of (q ∷ ps)))
    ∙ ap (drop (index * capacity ws)) (drop_at p.records (records_of (q ∷ ps)) (capacity ws) f) in
    ap (take (capacity ws)) rest ∙ run_is ws (q ∷ ps) index (rest_full ws p (q ∷ ps) is) (omega (arith, h))

-- the page at a place, where a record stands
pub page_is : (ws : List ℕ) (pages : List Rows) (index : ℕ) → AreFull ws pages → index < length pages → page_at pages index ≡ page_of (record { widths = ws; records = records_of pages }) index
page_is ws pages index is h =
    let f : (page_at pages index).widths ≡ ws = is.counted index h in
    let r : (page_at pages index).records ≡ take (capacity ws) (drop (index * capacity ws) (records_of pages)) = sym (run_is ws pages index is h) in
    λ i. record { widths = f i; records = r i }

-- there is a page where records begin
pub page_begun : (ws : List ℕ) (pages : List Rows) (index : ℕ) → AreFull ws pages → 0 < capacity ws → index * capacity ws < length (records_of pages) → index < length pages
page_begun ws pages index is c h = (at_place ws pages index 0 (index * capacity ws) is (omega arith) c h).page_there

-- each page that is counted has records
pub counted_begins : (ws : List ℕ) (records index : ℕ) → 0 < capacity ws → index < page_count ws records → index * capacity ws < records
counted_begins ws records index c h =
    let most : ℕ = capacity ws in
    let a : page_count ws records * most ≤ records + (most - 1) = div-mul-le_self (records + (most - 1)) most in
    let b : (index + 1) * most ≤ page_count ws records * most = mul-le-mul_right {m = index + 1} {n = page_count ws records} most (omega (arith, h)) in
    let d : (index + 1) * most ≡ index * most + most = omega arith in
    omega (arith, a, b, d, c)

-- the page of a record begins where there are records, and the record stands in it
pub slot_begins : (most slot records : ℕ) → slot < records → slot / most * most < records
slot_begins most slot records h = let a = div-mul-le_self slot most in omega (arith, a, h)

pub slot_within : (all : Rows) (slot : ℕ) → 0 < capacity all.widths → slot < length all.records → slot % capacity all.widths < length (page_of all (slot / capacity all.widths)).records
slot_within all slot c h =
    let most : ℕ = capacity all.widths in
    let m = mod-lt slot {m = capacity all.widths} c in
    let e = div-add-mod' slot most in
    let t = length-take most (drop (slot / most * most) all.records) in
    let d = length-drop (slot / most * most) all.records in
    omega (arith, m, e, t, d, h)

pub slot_is : (all : Rows) (slot : ℕ) → 0 < capacity all.widths → record_at (page_of all (slot / capacity all.widths)).records (slot % capacity all.widths) ≡ record_at all.records slot
slot_is all slot c =
    let most : ℕ = capacity all.widths in
    let m = mod-lt slot {m = capacity all.widths} c in
    get_or-take most (drop (slot / most * most) all.records) (slot % most) (record { key = 0; fields = [] }) m
    ∙ get_or-drop (slot / most * most) all.records (slot % most) (record { key = 0; fields = [] })
    ∙ ap (record_at all.records) (div-add-mod' slot most)

-- one after another
pub wide_append : (ws : List ℕ) (xs ys : List Record) → AreWide ws xs → AreWide ws ys → AreWide ws (xs ++ ys)
wide_append ws xs ys a b i h =
    elim (cases_lt i (length xs)) [
      | inl lt ↦ subst (λ (r : Record). meets ws r.fields ≡ true) (sym (get_or_append_left xs ys (record { key = 0; fields = [] }) i lt)) (a i lt)
      | inr le ↦ subst (λ (r : Record). meets ws r.fields ≡ true) (sym (get_or-append_right xs ys (length xs) i (record { key = 0; fields = [] }) refl le)) (b (i - length xs) (omega (arith, length-append xs ys, h, le)))
    ]
