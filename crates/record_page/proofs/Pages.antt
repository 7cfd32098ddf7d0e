-- That the bytes of a page are read as the page, and that what is read as a page is spelled so.
use Rattle.std.proofs.Common.{◌≡◌, ℕ, zero, suc, ◌+◌, ◌-◌, ◌*◌, ◌/◌, ◌%◌, ◌^◌, ◌<◌, ◌≤◌, ◌⊎◌, inl, inr, Bool, true, false, ◌&&◌, nat_lt, nat_le, cond, List, [], ◌∷◌, ◌++◌, length, take, drop, replicate, Option, Some, None, refl, arith, ap, ap₂, sym, ◌∙◌, subst, append_assoc}
use Rattle.std.specs.List.{flat_map, list_all}
use Rattle.std.specs.Int.{w16, from_le_bytes}
use Rattle.std.proofs.lemmas.Bool.{cases_lt, ltb-true, leb-true, eqb-true, le-leb, eq-eqb}
use Rattle.std.proofs.lemmas.Nat.{div-add-mod', le_bytes_2, from_le_bytes-to_le_bytes_2}
use Rattle.std.proofs.lemmas.List.{take_at, drop_at, take-append-drop, length-append, length-take, length-drop, length-replicate, drop-drop, drop_more, drop-replicate, take_rest, append-nil, length_push, replicate-append-replicate}
use Rattle.std.proofs.lemmas.Grind.{flat_map-append}
use Rattle.std.proofs.Math.Nat.{mod-lt, div-mul-le_self, mul-le-mul_right, mul-le-mul_left}
use borrow.Rule.Slice.PartMut.{put_mid}
use Rattle.db_value.specs.declared.record.Record.{Record}
use Rattle.db_value.specs.Widths.{are_widths}
use Rattle.db_value.specs.RowForm.{are_zeros}
use Rattle.db_value.proofs.RowForms.{row_few}
use Rattle.record_page.specs.Spelling.{record_bytes, record_size, record_in, records_in, is_record, are_records}
use Rattle.record_page.specs.Page.{Rows, IsRecord, IsPaged, with_record, record_at, capacity, count_bytes, page_head, page_bytes, count_in, fields_in, rows_in, end_in, is_page, page_in}
use Rattle.record_page.specs.Laws.{AreBytes, IsSpelled, AgainLaw, ReadLaw, OneLaw}
use Rattle.record_page.proofs.Spellings.{bytes_drop, bytes_take, length_record, records_again, length_records, many_records, records_spelled, record_found, record_known, put_to_end, all_push}

-- ---- tests

both : (a b : Bool) → (a && b) ≡ true → (a ≡ true) × (b ≡ true)
both true b e = (refl, e)
both false b e = absurd cc

all_zeros : (bytes : List ℕ) → are_zeros bytes ≡ true → bytes ≡ replicate (length bytes) 0
all_zeros [] e = refl
all_zeros (b ∷ bs) e =
    let p = both _ (are_zeros bs) e in
    ap₂ (λ (x : ℕ) (xs : List ℕ). x ∷ xs) (eqb-true b 0 p.0) (all_zeros bs p.1)

zeros_are : (n : ℕ) → are_zeros (replicate n 0) ≡ true
zeros_are zero = refl
zeros_are (suc n) = zeros_are n

-- what a test of a page says
pub record Facts (ws bytes : List ℕ) : Type 0 where
  pub long : length bytes ≡ 4096
  pub count : fields_in bytes ≡ length ws
  pub room : count_in bytes ≤ capacity ws
  pub head : are_zeros (take 13 (drop 3 bytes)) ≡ true
  pub rest : are_zeros (drop (end_in ws bytes) bytes) ≡ true
  pub records : are_records ws (count_in bytes) (drop 16 bytes) ≡ true

pub facts_of : (ws bytes : List ℕ) → is_page ws bytes ≡ true → Facts ws bytes
facts_of ws bytes e =
    let a = both _ _ e in
    let b = both _ _ a.1 in
    let c = both _ _ b.0 in
    let d = both _ _ b.1 in
    let z = both _ _ d.0 in
    record {
      long = eqb-true (length bytes) 4096 a.0;
      count = eqb-true (fields_in bytes) (length ws) c.0;
      room = leb-true (count_in bytes) (capacity ws) c.1;
      head = z.0;
      rest = z.1;
      records = d.1;
    }

page_by : (ws bytes : List ℕ) → Facts ws bytes → is_page ws bytes ≡ true
page_by ws bytes f = rw (eq-eqb (length bytes) 4096 f.long, eq-eqb (fields_in bytes) (length ws) f.count, le-leb (count_in bytes) (capacity ws) f.room, f.head, f.rest, f.records) refl

-- there is a column, and so a record has at least 9 bytes
pub some_column : (ws : List ℕ) → are_widths ws ≡ true → (0 < length ws) × (length ws ≤ 15)
some_column ws h = let a = both _ _ h in (ltb-true 0 (length ws) a.0, leb-true (length ws) 15 (both _ _ a.1).0)

pub record_big : (ws : List ℕ) → 0 < length ws → 9 ≤ record_size ws
record_big [] h = absurd (omega (arith, h))
record_big (zero ∷ ws) h = omega arith
record_big (suc w ∷ ws) h = omega arith

record_few : (ws : List ℕ) → are_widths ws ≡ true → record_size ws ≤ 968
record_few ws h = let few = row_few ws h in omega (arith, few)

-- a page holds a record
pub capacity_some : (ws : List ℕ) → are_widths ws ≡ true → 0 < capacity ws
capacity_some ws h = by (cases_lt 0 (capacity ws))
  where
    by : (0 < capacity ws) ⊎ (capacity ws ≤ 0) → 0 < capacity ws
    by (inl l) = l
    by (inr z) =
        let x : ℕ = record_size ws in
        let whole : 4080 / x * x + 4080 % x ≡ 4080 = div-add-mod' 4080 (record_size ws) in
        let less : 4080 % x < x = mod-lt 4080 {m = record_size ws} (omega arith) in
        let none : 4080 / x ≡ 0 = omega (arith, z) in
        let gone : 4080 / x * x ≡ 0 * x = ap (λ k. k * x) none in
        let zero_is : 0 * x ≡ 0 = omega arith in
        let few = record_few ws h in
        absurd (omega (arith, whole, less, gone, zero_is, few))

-- ---- the head

head_fields : (fields count : ℕ) (tail : List ℕ) → fields_in (page_head fields count ++ tail) ≡ fields
unfolding count_bytes
head_fields fields count tail = refl

head_count : (fields count : ℕ) (tail : List ℕ) → count < 2 ^ 16 → count_in (page_head fields count ++ tail) ≡ count
unfolding count_bytes count_in
head_count fields count tail h = from_le_bytes-to_le_bytes_2 count h

head_tail : (fields count : ℕ) (tail : List ℕ) → drop 16 (page_head fields count ++ tail) ≡ tail
unfolding count_bytes
head_tail fields count tail = refl

head_zeros : (fields count : ℕ) (tail : List ℕ) → are_zeros (take 13 (drop 3 (page_head fields count ++ tail))) ≡ true
unfolding count_bytes
head_zeros fields count tail = refl

pub length_head : (fields count : ℕ) → length (page_head fields count) ≡ 16
unfolding count_bytes
length_head fields count = refl

-- another count in front
pub head_again : (fields count new : ℕ) (tail : List ℕ) → count_bytes new ++ drop 2 (page_head fields count ++ tail) ≡ page_head fields new ++ tail
unfolding count_bytes
head_again fields count new tail = refl

count_spelled : (bytes : List ℕ) → 2 ≤ length bytes → AreBytes bytes → count_bytes (count_in bytes) ++ drop 2 bytes ≡ bytes
unfolding count_bytes count_in
count_spelled bytes long fits =
    ap (λ (k : List ℕ). k ++ drop 2 bytes) (le_bytes_2 (take 2 bytes) (from_le_bytes w16 (take 2 bytes)) (omega (arith, length-take 2 bytes, long)) (bytes_take 2 bytes fits) refl)
    ∙ take-append-drop 2 bytes

head_spelled : (bytes : List ℕ) → 16 ≤ length bytes → AreBytes bytes → are_zeros (take 13 (drop 3 bytes)) ≡ true → bytes ≡ page_head (fields_in bytes) (count_in bytes) ++ drop 16 bytes
head_spelled bytes long fits z =
    let l3 = length-drop 3 bytes in
    let n : length (take 13 (drop 3 bytes)) ≡ 13 = omega (arith, length-take 13 (drop 3 bytes), l3, long) in
    let zeros : take 13 (drop 3 bytes) ≡ replicate 13 0 = all_zeros (take 13 (drop 3 bytes)) z ∙ ap (λ (k : ℕ). replicate k 0) n in
    let after : drop 3 bytes ≡ replicate 13 0 ++ drop 16 bytes = sym (take-append-drop 13 (drop 3 bytes)) ∙ ap₂ (λ (x y : List ℕ). x ++ y) zeros (drop-drop 13 3 bytes) in
    let two : drop 2 bytes ≡ fields_in bytes ∷ (replicate 13 0 ++ drop 16 bytes) = drop_more bytes 2 0 (omega (arith, long)) ∙ ap (λ (xs : List ℕ). fields_in bytes ∷ xs) after in
    sym (count_spelled bytes (omega (arith, long)) fits) ∙ ap (λ (xs : List ℕ). count_bytes (count_in bytes) ++ xs) two
    ∙ sym (append_assoc (count_bytes (count_in bytes)) (fields_in bytes ∷ replicate 13 0) (drop 16 bytes))

-- ---- whole pages

-- as many records as a page holds fit behind the head
pub within : (ws : List ℕ) (count : ℕ) → count ≤ capacity ws → count * record_size ws ≤ 4080
within ws count h =
    let a : count * record_size ws ≤ capacity ws * record_size ws = mul-le-mul_right {m = count} {n = capacity ws} (record_size ws) h in
    let b : 4080 / record_size ws * record_size ws ≤ 4080 = div-mul-le_self 4080 (record_size ws) in
    omega (arith, a, b)

pub few_records : (ws : List ℕ) (count : ℕ) → 0 < length ws → count ≤ capacity ws → count ≤ 453
few_records ws count some h =
    let a = within ws count h in
    let b : count * 9 ≤ count * record_size ws = mul_more count 9 (record_size ws) (record_big ws some) in
    omega (arith, a, b)
  where
    mul_more : (k m n : ℕ) → m ≤ n → k * m ≤ k * n
    mul_more k m n h = mul-le-mul_left {m = m} {n = n} k h

-- the bytes of a page are its head, its records and zeros
pub parted : (page : Rows) → page_bytes page ≡ page_head (length page.widths) (length page.records) ++ (flat_map (record_bytes page.widths) page.records ++ replicate (4096 - length (page_head (length page.widths) (length page.records) ++ flat_map (record_bytes page.widths) page.records)) 0)
parted page = append_assoc (page_head (length page.widths) (length page.records)) (flat_map (record_bytes page.widths) page.records) _

again_facts : (page : Rows) → IsPaged page → (page_in page.widths (page_bytes page) ≡ Some page) × (is_page page.widths (page_bytes page) ≡ true)
again_facts page is =
    let ws : List ℕ = page.widths in
    let fields : ℕ = length ws in
    let count : ℕ = length page.records in
    let body : List ℕ = flat_map (record_bytes ws) page.records in
    let zeros : ℕ = 4096 - length (page_head fields count ++ body) in
    let tail : List ℕ = body ++ replicate zeros 0 in
    let e : page_bytes page ≡ page_head fields count ++ tail = parted page in
    let column = some_column ws is.are in
    let most = few_records ws count column.0 is.room in
    let fits = within ws count is.room in
    let nb : length body ≡ count * record_size ws = length_records ws page.records is.each in
    let nh = length_head fields count in
    let f : fields_in (page_bytes page) ≡ fields = ap fields_in e ∙ head_fields fields count tail in
    let k : count_in (page_bytes page) ≡ count = ap count_in e ∙ head_count fields count tail (omega (arith, most)) in
    let t : drop 16 (page_bytes page) ≡ tail = ap (drop 16) e ∙ head_tail fields count tail in
    let ends : end_in ws (page_bytes page) ≡ 16 + count * record_size ws = ap (λ (c : ℕ). 16 + c * record_size ws) k in
    let rest : drop (end_in ws (page_bytes page)) (page_bytes page) ≡ replicate zeros 0 =
    ap (λ (n : ℕ). drop n (page_bytes page)) ends ∙ sym (drop-drop (count * record_size ws) 16 (page_bytes page))
    ∙ ap (drop (count * record_size ws)) t ∙ drop_at body (replicate zeros 0) (count * record_size ws) nb in
    let long : length (page_bytes page) ≡ 4096 =
    let a = length-append (page_head fields count) body in
    let b = length-append (page_head fields count ++ body) (replicate zeros 0) in
    let c = length-replicate {A = ℕ} zeros 0 in
    omega (arith, a, b, c, nh, nb, fits) in
    let again = records_again ws page.records (replicate zeros 0) is.each in
    let test : is_page ws (page_bytes page) ≡ true = page_by ws (page_bytes page) (record {
      long = long;
      count = f;
      room = subst (λ (n : ℕ). n ≤ capacity ws) (sym k) is.room;
      head = ap (λ (bytes : List ℕ). are_zeros (take 13 (drop 3 bytes))) e ∙ head_zeros fields count tail;
      rest = ap are_zeros rest ∙ zeros_are zeros;
      records = ap₂ (λ (n : ℕ) (xs : List ℕ). are_records ws n xs) k t ∙ again.1;
    }) in
    let records : records_in ws (count_in (page_bytes page)) (drop 16 (page_bytes page)) ≡ page.records = ap₂ (λ (n : ℕ) (xs : List ℕ). records_in ws n xs) k t ∙ again.0 in
    let rows : rows_in ws (page_bytes page) ≡ page = λ i. record { widths = ws; records = records i } in
    (ap (λ (b : Bool). cond b (Some (rows_in ws (page_bytes page))) None) test ∙ ap Some rows, test)

pub again_law : AgainLaw
again_law page is = (again_facts page is).0

pub page_made : (page : Rows) → IsPaged page → is_page page.widths (page_bytes page) ≡ true
page_made page is = (again_facts page is).1

chosen : (b : Bool) (x y : Rows) → cond b (Some x) None ≡ Some y → (b ≡ true) × (x ≡ y)
chosen true x y e = (refl, cc)
chosen false x y e = absurd cc

-- the page that the bytes of a page are read as
pub rows_made : (page : Rows) → IsPaged page → rows_in page.widths (page_bytes page) ≡ page
rows_made page is = (chosen (is_page page.widths (page_bytes page)) (rows_in page.widths (page_bytes page)) page (again_law page is)).1

-- what is read as a page is spelled so
pub spelled : (ws bytes : List ℕ) → are_widths ws ≡ true → AreBytes bytes → is_page ws bytes ≡ true → IsSpelled bytes (rows_in ws bytes)
spelled ws bytes are fits e =
    let f = facts_of ws bytes e in
    let count : ℕ = count_in bytes in
    let records : List Record = records_in ws count (drop 16 bytes) in
    let body : List ℕ = flat_map (record_bytes ws) records in
    let many : length records ≡ count = many_records ws count (drop 16 bytes) in
    let l = f.long in
    let room = within ws count f.room in
    let l16 = length-drop 16 bytes in
    let read = records_spelled ws count (drop 16 bytes) (omega (arith, l16, l, room)) f.records (bytes_drop 16 bytes fits) in
    let over : drop (count * record_size ws) (drop 16 bytes) ≡ drop (end_in ws bytes) bytes = drop-drop (count * record_size ws) 16 bytes in
    let nz : length (drop (end_in ws bytes) bytes) ≡ 4080 - count * record_size ws = omega (arith, length-drop (end_in ws bytes) bytes, l) in
    let zeros : drop (end_in ws bytes) bytes ≡ replicate (4080 - count * record_size ws) 0 = all_zeros (drop (end_in ws bytes) bytes) f.rest ∙ ap (λ (k : ℕ). replicate k 0) nz in
    let tail : drop 16 bytes ≡ body ++ replicate (4080 - count * record_size ws) 0 = sym read.0 ∙ ap (λ (xs : List ℕ). body ++ xs) (over ∙ zeros) in
    let nb : length body ≡ count * record_size ws = length_records ws records read.1 ∙ ap (λ (n : ℕ). n * record_size ws) many in
    let pad : 4080 - count * record_size ws ≡ 4096 - length (page_head (length ws) (length records) ++ body) =
    let a = length-append (page_head (length ws) (length records)) body in
    let b = length_head (length ws) (length records) in
    omega (arith, a, b, nb, room) in
    record {
      paged = record { are = are; room = subst (λ (n : ℕ). n ≤ capacity ws) (sym many) f.room; each = read.1 };
      same =
          head_spelled bytes (omega (arith, l)) fits f.head
          ∙ ap (λ (n : ℕ). page_head n count ++ drop 16 bytes) f.count
          ∙ ap₂ (λ (n : ℕ) (xs : List ℕ). page_head (length ws) n ++ xs) (sym many) (tail ∙ ap (λ (n : ℕ). body ++ replicate n 0) pad)
          ∙ sym (parted (rows_in ws bytes));
    }

pub read_law : ReadLaw
read_law ws bytes page are fits e =
    let c = chosen (is_page ws bytes) (rows_in ws bytes) page e in
    subst (λ (p : Rows). IsSpelled bytes p) c.1 (spelled ws bytes are fits c.0)

abbrev some_page : Rows → Option Rows
some_page x = Some x

some_is : (x y : Rows) → some_page x ≡ some_page y → x ≡ y
some_is x y e = cc

pub one_law : OneLaw
one_law a b p q w e = some_is a b (sym (again_law a p) ∙ ap₂ (λ (ws xs : List ℕ). page_in ws xs) w e ∙ again_law b q)

-- ---- pages that are made

pub empty_paged : (ws : List ℕ) → are_widths ws ≡ true → IsPaged (record { widths = ws; records = [] })
empty_paged ws are = record { are = are; room = omega arith; each = tt }

-- the first bytes, and then zeros
pub blank_is : (ws : List ℕ) → 0 ∷ 0 ∷ length ws ∷ replicate 4093 0 ≡ page_bytes (record { widths = ws; records = [] })
unfolding count_bytes
blank_is ws = ap (λ (xs : List ℕ). 0 ∷ 0 ∷ length ws ∷ xs) (sym (replicate-append-replicate {A = ℕ} 13 4080 0))

pub pushed_paged : (page : Rows) (row : Record) → IsPaged page → IsRecord page.widths row → length page.records < capacity page.widths → IsPaged (with_record page row)
pushed_paged page row is r room =
    let n = length_push page.records row in
    record { are = is.are; room = omega (arith, n, room); each = all_push (IsRecord page.widths) page.records row is.each r }

-- a record put behind the others, and a count raised
pub pushed_bytes : (page : Rows) (row : Record) (bytes : List ℕ) (at : ℕ) → IsPaged page → bytes ≡ page_bytes page → IsRecord page.widths row → length page.records < capacity page.widths → at ≡ 16 + length page.records * record_size page.widths → count_bytes (length page.records + 1) ++ drop 2 (take at bytes ++ (record_bytes page.widths row ++ drop (at + record_size page.widths) bytes)) ≡ page_bytes (with_record page row)
pushed_bytes page row bytes at is e r room a =
    let ws : List ℕ = page.widths in
    let fields : ℕ = length ws in
    let size : ℕ = record_size ws in
    let count : ℕ = length page.records in
    let head : List ℕ = page_head fields count in
    let body : List ℕ = flat_map (record_bytes ws) page.records in
    let zeros : ℕ = 4096 - length (head ++ body) in
    let nb : length body ≡ count * size = length_records ws page.records is.each in
    let nh = length_head fields count in
    let nf = length-append head body in
    let front : length (head ++ body) ≡ at = omega (arith, nb, nh, nf, a) in
    let t : take at bytes ≡ head ++ body = ap (take at) e ∙ take_at (head ++ body) (replicate zeros 0) at front in
    let d : drop at bytes ≡ replicate zeros 0 = ap (drop at) e ∙ drop_at (head ++ body) (replicate zeros 0) at front in
    let o : drop (at + size) bytes ≡ replicate (zeros - size) 0 = sym (drop-drop size at bytes) ∙ ap (drop size) d ∙ drop-replicate size zeros 0 in
    let tail : List ℕ = body ++ (record_bytes ws row ++ replicate (zeros - size) 0) in
    let inner : take at bytes ++ (record_bytes ws row ++ drop (at + size) bytes) ≡ head ++ tail =
    ap₂ (λ (x y : List ℕ). x ++ (record_bytes ws row ++ y)) t o ∙ append_assoc head body (record_bytes ws row ++ replicate (zeros - size) 0) in
    let all : List ℕ = flat_map (record_bytes ws) (page.records ++ row ∷ []) in
    let f : all ≡ body ++ record_bytes ws row = flat_map-append (record_bytes ws) page.records (row ∷ []) ∙ ap (λ (xs : List ℕ). body ++ xs) (append-nil (record_bytes ws row)) in
    let nr : length (record_bytes ws row) ≡ size = length_record ws row r in
    let np = length_push page.records row in
    let na : length all ≡ length body + length (record_bytes ws row) = ap length f ∙ length-append body (record_bytes ws row) in
    let nw = length-append (page_head fields (length (page.records ++ row ∷ []))) all in
    let ng = length_head fields (length (page.records ++ row ∷ [])) in
    let z : zeros - size ≡ 4096 - length (page_head fields (length (page.records ++ row ∷ [])) ++ all) = omega (arith, nw, ng, na, nr, nb, front, a) in
    ap (λ (xs : List ℕ). count_bytes (count + 1) ++ drop 2 xs) inner
    ∙ head_again fields count (count + 1) tail
    ∙ ap₂ (λ (n : ℕ) (xs : List ℕ). page_head fields n ++ xs) (sym np)
    (sym (append_assoc body (record_bytes ws row) (replicate (zeros - size) 0)) ∙ ap₂ (λ (xs : List ℕ) (k : ℕ). xs ++ replicate k 0) (sym f) z)
    ∙ sym (parted (with_record page row))

-- the same as what the writes leave
pub pushed_step : (page : Rows) (row : Record) (bytes new written : List ℕ) (count at : ℕ) → IsSpelled bytes page → IsRecord page.widths row → count ≡ length page.records → count < capacity page.widths → at ≡ 16 + count * record_size page.widths → at ≤ length bytes → written ≡ record_bytes page.widths row ++ drop (record_size page.widths) (take (length bytes - at) (drop at bytes)) → new ≡ count_bytes (count + 1) ++ drop 2 (put_mid at (length bytes - at) bytes written) → (new ≡ page_bytes (with_record page row)) × IsPaged (with_record page row)
pushed_step page row bytes new written count at is r n room a long w e =
    let ws : List ℕ = page.widths in
    let size : ℕ = record_size ws in
    let less : length page.records < capacity ws = subst (λ (k : ℕ). k < capacity ws) n room in
    let place : at ≡ 16 + length page.records * size = a ∙ ap (λ (k : ℕ). 16 + k * size) n in
    let rest : drop size (take (length bytes - at) (drop at bytes)) ≡ drop (at + size) bytes = ap (drop size) (take_rest bytes at) ∙ drop-drop size at bytes in
    let inner : put_mid at (length bytes - at) bytes written ≡ take at bytes ++ (record_bytes ws row ++ drop (at + size) bytes) =
    put_to_end at bytes written long ∙ ap (λ (xs : List ℕ). take at bytes ++ xs) (w ∙ ap (λ (xs : List ℕ). record_bytes ws row ++ xs) rest) in (
      e ∙ ap₂ (λ (k : ℕ) (xs : List ℕ). count_bytes (k + 1) ++ drop 2 xs) n inner
          ∙ pushed_bytes page row bytes at is.paged is.same r less place,
      pushed_paged page row is.paged r less,
    )

-- where the record in a slot stands
pub place_there : (ws bytes : List ℕ) (slot : ℕ) → is_page ws bytes ≡ true → slot < capacity ws → 16 + slot * record_size ws + record_size ws ≤ length bytes
place_there ws bytes slot e h =
    let l = (facts_of ws bytes e).long in
    let size : ℕ = record_size ws in
    let w = within ws (slot + 1) (omega (arith, h)) in
    let d : (slot + 1) * size ≡ slot * size + size = omega arith in
    omega (arith, l, w, d)

pub slot_below : (ws bytes : List ℕ) (slot : ℕ) → is_page ws bytes ≡ true → slot < length (rows_in ws bytes).records → slot < capacity ws
slot_below ws bytes slot e h =
    let r = (facts_of ws bytes e).room in
    let n = many_records ws (count_in bytes) (drop 16 bytes) in
    omega (arith, h, n, r)

pub slot_read : (ws bytes : List ℕ) (slot : ℕ) → slot < length (rows_in ws bytes).records → record_at (rows_in ws bytes).records slot ≡ record_in ws (drop (16 + slot * record_size ws) bytes)
slot_read ws bytes slot h =
    let n = many_records ws (count_in bytes) (drop 16 bytes) in
    record_found ws (count_in bytes) slot (drop 16 bytes) (omega (arith, h, n))
    ∙ ap (record_in ws) (drop-drop (slot * record_size ws) 16 bytes)

pub slot_known : (ws bytes : List ℕ) (slot : ℕ) → is_page ws bytes ≡ true → slot < length (rows_in ws bytes).records → is_record ws (drop (16 + slot * record_size ws) bytes) ≡ true
slot_known ws bytes slot e h =
    let n = many_records ws (count_in bytes) (drop 16 bytes) in
    sym (ap (is_record ws) (drop-drop (slot * record_size ws) 16 bytes))
    ∙ record_known ws (count_in bytes) slot (drop 16 bytes) (omega (arith, h, n)) (facts_of ws bytes e).records
