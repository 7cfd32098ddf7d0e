-- The next page as the reader reads it.
use Rattle.std.proofs.Common.{◌≡◌, ℕ, ◌-◌, ◌<◌, ◌≤◌, Bool, true, false, cond, List, ◌++◌, length, take, drop, Option, Some, None, Result, Ok, Err, refl, sym, ap, ◌∙◌, arith}
use Rattle.std.proofs.lemmas.Bool.{lt-ltb, le-ltb, eqb-true, eq-eqb}
use Rattle.db_value.specs.declared.record.Record.{Record}
use Rattle.record_page.specs.Page.{Rows, is_page, rows_in, page_in}
use Rattle.image_text.specs.Reading.{◌>>=◌, Read, test, enough, next_page, on_page, is_page_of}
use Rattle.image_text.proofs.Counted.{both_true}

abbrev moved : ℕ → List Record → List ℕ → Read (ℕ × List Record)
moved more rows rest = Ok ((more, rows), rest)

-- a page behind its first test, and behind its second
abbrev page_then : ℕ → List Record → List ℕ → Result (Unit {0}) ℕ → Read (ℕ × List Record)
page_then more rows bytes is = is >>= λ u. moved more rows (drop 4096 bytes)

abbrev page_if : ℕ → List Record → List ℕ → Bool → Result (Unit {0}) ℕ → Read (ℕ × List Record)
page_if more rows bytes b there = there >>= λ u. page_then more rows bytes (test b bytes)

is_there : (bytes : List ℕ) → 4096 ≤ length bytes → enough 4096 bytes ≡ Ok tt
is_there bytes long = rw (le-ltb (length bytes) 4096 long) refl

is_short : (bytes : List ℕ) → length bytes < 4096 → enough 4096 bytes ≡ Err 0
is_short bytes short = rw (lt-ltb (length bytes) 4096 short) refl

pub page_ended : (ws : List ℕ) (more : ℕ) (seen : List Record) (bytes : List ℕ) → length bytes < 4096 → next_page ws (more, seen) bytes ≡ Err 0
unfolding next_page
page_ended ws more seen bytes short =
    ap (page_if (more - on_page ws more) (seen ++ (rows_in ws (take 4096 bytes)).records) bytes (is_page_of ws (on_page ws more) (take 4096 bytes))) (is_short bytes short)

tested_as : (ws : List ℕ) (more : ℕ) (seen : List Record) (bytes : List ℕ) (b : Bool) → 4096 ≤ length bytes → is_page_of ws (on_page ws more) (take 4096 bytes) ≡ b
    → next_page ws (more, seen) bytes ≡ page_then (more - on_page ws more) (seen ++ (rows_in ws (take 4096 bytes)).records) bytes (test b bytes)
unfolding next_page
tested_as ws more seen bytes b long e =
    ap (page_if (more - on_page ws more) (seen ++ (rows_in ws (take 4096 bytes)).records) bytes (is_page_of ws (on_page ws more) (take 4096 bytes))) (is_there bytes long)
    ∙ ap (λ (q : Bool). page_then (more - on_page ws more) (seen ++ (rows_in ws (take 4096 bytes)).records) bytes (test q bytes)) e

-- the bytes in front are no page of so many records
pub failed_here : (ws : List ℕ) (more count left : ℕ) (seen : List Record) (bytes page : List ℕ) → count ≡ on_page ws more → page ≡ take 4096 bytes → left ≡ length bytes → 4096 ≤ left → is_page_of ws count page ≡ false
    → next_page ws (more, seen) bytes ≡ Err left
failed_here ws more count left seen bytes page here front all long bad =
    let fails : is_page_of ws (on_page ws more) (take 4096 bytes) ≡ false = ap (λ (n : ℕ). is_page_of ws n (take 4096 bytes)) (sym here) ∙ ap (is_page_of ws count) (sym front) ∙ bad in
    tested_as ws more seen bytes false (omega (arith, all, long)) fails ∙ ap (λ (n : ℕ). let r : Read (ℕ × List Record) = Err n in r) (sym all)

-- they are one
pub read_here : (ws : List ℕ) (more count : ℕ) (seen all : List Record) (page : Rows) (bytes front rest : List ℕ) → count ≡ on_page ws more → front ≡ take 4096 bytes → rest ≡ drop 4096 bytes → 4096 ≤ length bytes
    → is_page_of ws count front ≡ true → page ≡ rows_in ws front → all ≡ seen ++ page.records → next_page ws (more, seen) bytes ≡ Ok ((more - count, all), rest)
read_here ws more count seen all page bytes front rest here at behind long is same put =
    let holds : is_page_of ws (on_page ws more) (take 4096 bytes) ≡ true = ap (λ (n : ℕ). is_page_of ws n (take 4096 bytes)) (sym here) ∙ ap (is_page_of ws count) (sym at) ∙ is in
    let rows : seen ++ (rows_in ws (take 4096 bytes)).records ≡ all = ap (λ (b : List ℕ). seen ++ (rows_in ws b).records) (sym at) ∙ ap (λ (p : Rows). seen ++ p.records) (sym same) ∙ sym put in
    tested_as ws more seen bytes true long holds
    ∙ ap (λ (n : ℕ). moved (more - n) (seen ++ (rows_in ws (take 4096 bytes)).records) (drop 4096 bytes)) (sym here)
    ∙ ap (λ (xs : List Record). moved (more - count) xs (drop 4096 bytes)) rows
    ∙ ap (moved (more - count) all) (sym behind)

-- it has so many records
pub counted_here : (ws : List ℕ) (count : ℕ) (page : Rows) (bytes : List ℕ) → is_page_of ws count bytes ≡ true → page ≡ rows_in ws bytes → length page.records ≡ count
counted_here ws count page bytes is same =
    ap (λ (p : Rows). length p.records) same ∙ eqb-true (length (rows_in ws bytes).records) count (both_true (is_page ws bytes) _ is).1

abbrev some : Rows → Option Rows
some x = Some x

read_if : (b : Bool) (page rows : Rows) → cond b (Some rows) None ≡ some page → (b ≡ true) × (page ≡ rows)
read_if true page rows e = (refl, cc)
read_if false page rows e = absurd cc

-- bytes that a page is read from are a page, and it is theirs
pub page_read : (ws bytes : List ℕ) (page : Rows) → page_in ws bytes ≡ Some page → (is_page ws bytes ≡ true) × (page ≡ rows_in ws bytes)
page_read ws bytes page e = read_if (is_page ws bytes) page (rows_in ws bytes) e

-- they are one of so many records
pub page_here : (ws : List ℕ) (count : ℕ) (bytes : List ℕ) (page : Rows) → is_page ws bytes ≡ true → page ≡ rows_in ws bytes → length page.records ≡ count → is_page_of ws count bytes ≡ true
page_here ws count bytes page is same len =
    rw (is, eq-eqb (length (rows_in ws bytes).records) count (ap (λ (p : Rows). length p.records) (sym same) ∙ len)) refl

pub closed_here : (total : Read (ℕ × List Record)) (more : ℕ) (rows kept : List Record) (rest : List ℕ) → total ≡ Ok ((more, rows), rest) → kept ≡ rows → total ≡ Ok ((more, kept), rest)
closed_here total more rows kept rest e same = e ∙ ap (λ (xs : List Record). moved more xs rest) (sym same)
