-- A page that is read is the page of its records.
use Rattle.std.proofs.Common.{◌≡◌, ℕ, zero, suc, ◌+◌, ◌-◌, ◌≤◌, true, List, [], ◌∷◌, ◌++◌, length, take, drop, Result, Ok, refl, sym, ap, subst, ◌∙◌, append_assoc, arith, inl, inr}
use Rattle.std.specs.List.{AllByRecursion}
use Rattle.std.proofs.lemmas.List.Elements.{All-from_recursion}
use Rattle.std.proofs.lemmas.Bool.{eqb-true, cases_lt, lt-ltb, le-ltb}
use Rattle.std.proofs.lemmas.List.{take-append-drop, length-append, append-nil, take_at, drop_at}
use Rattle.db_value.specs.Widths.{are_widths}
use Rattle.db_value.specs.declared.record.Record.{Record}
use Rattle.record_page.specs.Page.{IsRecord, capacity, is_page, rows_in}
use Rattle.record_page.proofs.Pages.{spelled}
use Rattle.segment.specs.Pages.{AreWide}
use Rattle.segment.proofs.PageLemmas.{wide_append}
use Rattle.image_text.specs.Reading.{◌>>=◌, test, enough, repeat, next_page, on_page, is_page_of}
use Rattle.image_text.specs.Spelling.{page_bytes, pages_bytes}
use Rattle.image_text.specs.Laws.{IsBytes}
use Rattle.image_text.proofs.Loop.{bind_ok, ok_is}
use Rattle.image_text.proofs.Counted.{tested, both_true}
use Rattle.image_text.proofs.Takes.{IsBytes-drop, IsBytes-take, Takes-then, Takes}

-- as much as so many pages hold
abbrev pub rooms : ℕ → ℕ → ℕ
rooms c zero = 0
rooms c (suc k) = c + rooms c k

-- ---- pages

-- a page more, with its records
abbrev pub TakesPage : List ℕ → ℕ × List Record → List ℕ → (ℕ × List Record) × List ℕ → Type 0
TakesPage ws s b x = (got : List Record) × (x.0.1 ≡ s.1 ++ got) × (length got ≡ on_page ws s.0) × (x.0.0 ≡ s.0 - on_page ws s.0) × Takes b (page_bytes ws got) x.1 × AreWide ws got

abbrev done : {A : Type 0} → A → Result A ℕ
done x = Ok x

page_made : (ws : List ℕ) (s : ℕ × List Record) (b : List ℕ) (got all : List Record) (x : (ℕ × List Record) × List ℕ) → IsBytes b → all ≡ s.1 ++ got → length got ≡ on_page ws s.0 → take 4096 b ≡ page_bytes ws got → AreWide ws got
    → done ((s.0 - on_page ws s.0, all), drop 4096 b) ≡ Ok x → TakesPage ws s b x
page_made ws s b got all x fits e len text wide o =
    let parts : b ≡ page_bytes ws got ++ drop 4096 b = sym (take-append-drop 4096 b) ∙ ap (λ (l : List ℕ). l ++ drop 4096 b) text in
    subst (λ (y : (ℕ × List Record) × List ℕ). TakesPage ws s b y) (ok_is ((s.0 - on_page ws s.0, all), drop 4096 b) x o) (got, e, len, refl, record { parts = parts; rest_fits = IsBytes-drop 4096 b fits }, wide)

wide_of : (ws : List ℕ) (rows : List Record) → AllByRecursion (IsRecord ws) rows → AreWide ws rows
wide_of ws rows each i h = (All-from_recursion (IsRecord ws) rows each i (record { key = 0; fields = [] }) h).meets

pub next_page_is : (ws : List ℕ) (s : ℕ × List Record) (b : List ℕ) (x : (ℕ × List Record) × List ℕ) → are_widths ws ≡ true → IsBytes b → next_page ws s b ≡ Ok x → TakesPage ws s b x
unfolding next_page page_bytes
next_page_is ws s b x are fits e =
    let there = bind_ok (enough 4096 b) (λ there. test (is_page_of ws (on_page ws s.0) (take 4096 b)) b >>= λ page. Ok ((s.0 - on_page ws s.0, s.1 ++ (rows_in ws (take 4096 b)).records), drop 4096 b)) x e in
    let page = bind_ok (test (is_page_of ws (on_page ws s.0) (take 4096 b)) b) (λ page. Ok ((s.0 - on_page ws s.0, s.1 ++ (rows_in ws (take 4096 b)).records), drop 4096 b)) x there.2 in
    let both = both_true (is_page ws (take 4096 b)) _ (tested _ b page.0 page.1) in
    let is = spelled ws (take 4096 b) are (IsBytes-take 4096 b fits) both.0 in
    page_made ws s b (rows_in ws (take 4096 b)).records (s.1 ++ (rows_in ws (take 4096 b)).records) x fits refl (eqb-true (length (rows_in ws (take 4096 b)).records) (on_page ws s.0) both.1) is.same (wide_of ws (rows_in ws (take 4096 b)).records is.paged.each) page.2

left_over : (ws : List ℕ) (more : ℕ) → more - on_page ws more ≤ more - capacity ws
left_over ws more =
    elim (cases_lt more (capacity ws)) [
      | inl lt ↦ rw (lt-ltb more (capacity ws) lt) (omega arith)
      | inr le ↦ rw (le-ltb more (capacity ws) le) (omega arith)
    ]

within : (ws : List ℕ) (more : ℕ) → on_page ws more ≤ more
within ws more =
    elim (cases_lt more (capacity ws)) [
      | inl lt ↦ rw (lt-ltb more (capacity ws) lt) (omega arith)
      | inr le ↦ rw (le-ltb more (capacity ws) le) (omega arith)
    ]

pages_text : (ws : List ℕ) (k more : ℕ) (first others : List Record) (b b1 r : List ℕ) → length first ≡ on_page ws more → length others ≡ more - on_page ws more → Takes b (page_bytes ws first) b1 → Takes b1 (pages_bytes ws k others) r
    → (length (first ++ others) ≡ more) × Takes b (pages_bytes ws (suc k) (first ++ others)) r
pages_text ws k more first others b b1 r len1 len2 t0 t1 =
    let len : length (first ++ others) ≡ more = omega (arith, length-append first others, len1, len2, within ws more) in
    let front : length first ≡ on_page ws (length (first ++ others)) = len1 ∙ ap (λ (n : ℕ). on_page ws n) (sym len) in
    let both = Takes-then b (page_bytes ws first) b1 (pages_bytes ws k others) r t0 t1 in
    (len, rw (take_at first others (on_page ws (length (first ++ others))) front, drop_at first others (on_page ws (length (first ++ others))) front) both)

-- all records are read where the pages hold them
pub pages_are : (ws : List ℕ) (k : ℕ) (s : ℕ × List Record) (b : List ℕ) (x : (ℕ × List Record) × List ℕ) → are_widths ws ≡ true → IsBytes b → s.0 ≤ rooms (capacity ws) k → repeat (next_page ws) k s b ≡ Ok x
    → (got : List Record) × (x.0.1 ≡ s.1 ++ got) × (length got ≡ s.0) × Takes b (pages_bytes ws k got) x.1 × AreWide ws got
unfolding repeat
pages_are ws zero s b x are fits room e =
    subst (λ (y : (ℕ × List Record) × List ℕ). (got : List Record) × (y.0.1 ≡ s.1 ++ got) × (length got ≡ s.0) × Takes b (pages_bytes ws 0 got) y.1 × AreWide ws got) (ok_is (s, b) x e)
    ([], sym (append-nil s.1), omega (arith, room), record { parts = refl; rest_fits = fits }, λ i h. absurd (omega (arith, h)))
pages_are ws (suc k) s b x are fits room e =
    let a = bind_ok (next_page ws s b) (λ y. repeat (next_page ws) k y.0 y.1) x e in
    let p = next_page_is ws s b a.0 are fits a.1 in
    let less : a.0.0.0 ≤ rooms (capacity ws) k = omega (arith, p.3, left_over ws s.0, room) in
    let others = pages_are ws k a.0.0 a.0.1 x are p.4.rest_fits less a.2 in
    let text = pages_text ws k s.0 p.0 others.0 b a.0.1 x.1 p.2 (others.2 ∙ p.3) p.4 others.3 in
    (p.0 ++ others.0, others.1 ∙ ap (λ (l : List Record). l ++ others.0) p.1 ∙ append_assoc s.1 p.0 others.0, text.0, text.1, wide_append ws p.0 others.0 p.5 others.4)
