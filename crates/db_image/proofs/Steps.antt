-- What one item of an image adds to those before it, and which rules it keeps.
use Rattle.std.proofs.Common.{◌≡◌, ℕ, zero, suc, ◌+◌, ◌-◌, ◌<◌, ◌≤◌, Bool, true, false, cond, ◌&&◌, ◌||◌, List, [], ◌∷◌, ◌++◌, length, take, drop, Option, Some, None, Ok, Err, refl, subst, arith}
use Rattle.std.specs.Prelude.{nat_lt, nat_le, ◌==◌, set}
use Rattle.std.specs.List.{All}
use Rattle.std.specs.Int.{w32, w64}
use Rattle.std.proofs.lemmas.Bool.{and_from, ltb-true, leb-true, le-leb}
use Rattle.std.proofs.lemmas.List.{length_push}
use Rattle.std.proofs.lemmas.List.Elements.{All-nil, All-cons, All-append}
use Rattle.db_value.specs.RowForm.{field_size, text_len, text_in, field_in, row_in}
use Rattle.db_value.specs.Widths.{fits_width, meets}
use Rattle.db_value.proofs.RowForms.{text_within}
use Rattle.db_value.specs.declared.record.Record.{Record}
use Rattle.db_value.specs.declared.version.VersionPlace.{VersionPlace}
use Rattle.record_page.specs.Spelling.{record_size, record_in, records_in}
use Rattle.record_page.specs.Page.{count_in, rows_in}
use Rattle.image_text.specs.declared.image.BranchPart.{BranchPart}
use Rattle.image_text.specs.declared.image.MadeVersion.{MadeVersion}
use Rattle.image_text.specs.declared.image.Delta.{Delta}
use Rattle.image_text.specs.declared.image.RowPart.{RowPart}
use Rattle.image_text.specs.declared.image.SegmentPart.{SegmentPart}
use Rattle.image_text.specs.Reading.{◌>>=◌, Read, test, enough, repeat, byte_at, number_at, name_at, is_page_of, on_page, next_page, has_turn, is_earlier, is_position, base_of, next_branch, last_of, is_begun, second_at, next_version, next_word, next_delta, spans, are_words, are_blank, rises, next_row}
use Rattle.image_text.proofs.Loop.{bind_ok, ok_is}
use Rattle.image_text.proofs.Counted.{adds, tested, both_true}

-- what each item keeps, all of them keep
pub repeat_keeps : {S : Type 0} (P : S → Type 0) (item : S → List ℕ → Read S) (one : (s : S) (b : List ℕ) (x : S × List ℕ) → P s → item s b ≡ Ok x → P x.0)
    (k : ℕ) (s : S) (b : List ℕ) (x : S × List ℕ) → P s → repeat item k s b ≡ Ok x → P x.0
unfolding repeat
repeat_keeps P item one zero s b x p e = subst (λ y. P y.0) (ok_is (s, b) x e) p
repeat_keeps P item one (suc k) s b x p e =
    let a = bind_ok (item s b) (λ y. repeat item k y.0 y.1) x e in
    repeat_keeps P item one k a.0.0 a.0.1 x (one s b a.0 p a.1) a.2

abbrev none : List ℕ
none = []

abbrev no_deltas : List Delta
no_deltas = []

-- ---- branches

-- one branch more
pub record AddsBranch (s t : List BranchPart × List VersionPlace) : Type 0 where
  pub added : BranchPart
  pub turn : has_turn s.0 added.name ≡ true
  pub earlier : is_earlier s.0 added.origin.branch ≡ true
  pub position : is_position s.0 added.origin.position ≡ true
  pub branches : t.0 ≡ s.0 ++ added ∷ []
  pub bases : t.1 ≡ s.1 ++ base_of s.1 added.origin ∷ []

pub branch_adds : (s : List BranchPart × List VersionPlace) (b : List ℕ) (x : (List BranchPart × List VersionPlace) × List ℕ) → next_branch s b ≡ Ok x → AddsBranch s x.0
unfolding next_branch
branch_adds s b x e =
    let nm = bind_ok (name_at b) (λ nm. test (has_turn s.0 nm.0) b >>= λ u. number_at w32 nm.1 >>= λ o. test (is_earlier s.0 o.0) nm.1 >>= λ v. number_at w32 o.1 >>= λ p. test (is_position s.0 p.0) o.1 >>= λ w. Ok ((s.0 ++ record { name = nm.0; origin = record { branch = o.0; position = p.0 } } ∷ [], s.1 ++ base_of s.1 (record { branch = o.0; position = p.0 }) ∷ []), p.1)) x e in
    let u = bind_ok (test (has_turn s.0 nm.0.0) b) (λ u. number_at w32 nm.0.1 >>= λ o. test (is_earlier s.0 o.0) nm.0.1 >>= λ v. number_at w32 o.1 >>= λ p. test (is_position s.0 p.0) o.1 >>= λ w. Ok ((s.0 ++ record { name = nm.0.0; origin = record { branch = o.0; position = p.0 } } ∷ [], s.1 ++ base_of s.1 (record { branch = o.0; position = p.0 }) ∷ []), p.1)) x nm.2 in
    let o = bind_ok (number_at w32 nm.0.1) (λ o. test (is_earlier s.0 o.0) nm.0.1 >>= λ v. number_at w32 o.1 >>= λ p. test (is_position s.0 p.0) o.1 >>= λ w. Ok ((s.0 ++ record { name = nm.0.0; origin = record { branch = o.0; position = p.0 } } ∷ [], s.1 ++ base_of s.1 (record { branch = o.0; position = p.0 }) ∷ []), p.1)) x u.2 in
    let v = bind_ok (test (is_earlier s.0 o.0.0) nm.0.1) (λ v. number_at w32 o.0.1 >>= λ p. test (is_position s.0 p.0) o.0.1 >>= λ w. Ok ((s.0 ++ record { name = nm.0.0; origin = record { branch = o.0.0; position = p.0 } } ∷ [], s.1 ++ base_of s.1 (record { branch = o.0.0; position = p.0 }) ∷ []), p.1)) x o.2 in
    let p = bind_ok (number_at w32 o.0.1) (λ p. test (is_position s.0 p.0) o.0.1 >>= λ w. Ok ((s.0 ++ record { name = nm.0.0; origin = record { branch = o.0.0; position = p.0 } } ∷ [], s.1 ++ base_of s.1 (record { branch = o.0.0; position = p.0 }) ∷ []), p.1)) x v.2 in
    let w = bind_ok (test (is_position s.0 p.0.0) o.0.1) (λ w. Ok ((s.0 ++ record { name = nm.0.0; origin = record { branch = o.0.0; position = p.0.0 } } ∷ [], s.1 ++ base_of s.1 (record { branch = o.0.0; position = p.0.0 }) ∷ []), p.0.1)) x p.2 in
    let made : (List BranchPart × List VersionPlace) × List ℕ = ((s.0 ++ record { name = nm.0.0; origin = record { branch = o.0.0; position = p.0.0 } } ∷ [], s.1 ++ base_of s.1 (record { branch = o.0.0; position = p.0.0 }) ∷ []), p.0.1) in
    subst (λ (y : (List BranchPart × List VersionPlace) × List ℕ). AddsBranch s y.0) {x = made} (ok_is made x w.2) (record {
      added = record { name = nm.0.0; origin = record { branch = o.0.0; position = p.0.0 } };
      turn = tested _ b u.0 u.1;
      earlier = tested _ nm.0.1 v.0 v.1;
      position = tested _ o.0.1 w.0 w.1;
      branches = refl;
      bases = refl;
    })

-- ---- versions

-- a second parent, if there is one, is a version that was made
abbrev pub IsSecond : List VersionPlace → List ℕ → Option VersionPlace → Type 0
IsSecond bases lasts second = (p : VersionPlace) → second ≡ Some p → (is_begun bases lasts p.branch ≡ true) × (p.position ≤ last_of lasts p.branch)

second_rest : (q : Bool) (bases : List VersionPlace) (lasts : List ℕ) (b : List ℕ) (x : Option VersionPlace × List ℕ)
    → cond q (Ok (None, b)) (number_at w32 b >>= λ n. test (is_begun bases lasts n.0) b >>= λ u. number_at w32 n.1 >>= λ p. test (nat_le p.0 (last_of lasts n.0)) n.1 >>= λ v. Ok (Some (record { branch = n.0; position = p.0 }), p.1)) ≡ Ok x → IsSecond bases lasts x.0
second_rest true bases lasts b x e = subst (λ (y : Option VersionPlace × List ℕ). IsSecond bases lasts y.0) (ok_is (None, b) x e) (λ p h. absurd cc)
second_rest false bases lasts b x e =
    let n = bind_ok (number_at w32 b) (λ n. test (is_begun bases lasts n.0) b >>= λ u. number_at w32 n.1 >>= λ p. test (nat_le p.0 (last_of lasts n.0)) n.1 >>= λ v. Ok (Some (record { branch = n.0; position = p.0 }), p.1)) x e in
    let u = bind_ok (test (is_begun bases lasts n.0.0) b) (λ u. number_at w32 n.0.1 >>= λ p. test (nat_le p.0 (last_of lasts n.0.0)) n.0.1 >>= λ v. Ok (Some (record { branch = n.0.0; position = p.0 }), p.1)) x n.2 in
    let p = bind_ok (number_at w32 n.0.1) (λ p. test (nat_le p.0 (last_of lasts n.0.0)) n.0.1 >>= λ v. Ok (Some (record { branch = n.0.0; position = p.0 }), p.1)) x u.2 in
    let v = bind_ok (test (nat_le p.0.0 (last_of lasts n.0.0)) n.0.1) (λ v. Ok (Some (record { branch = n.0.0; position = p.0.0 }), p.0.1)) x p.2 in
    let made : Option VersionPlace × List ℕ = (Some (record { branch = n.0.0; position = p.0.0 }), p.0.1) in
    let is : IsSecond bases lasts made.0 = λ q h. subst (λ (z : VersionPlace). (is_begun bases lasts z.branch ≡ true) × (z.position ≤ last_of lasts z.branch)) (some_is (record { branch = n.0.0; position = p.0.0 }) q h) (tested _ b u.0 u.1, leb-true p.0.0 (last_of lasts n.0.0) (tested _ n.0.1 v.0 v.1)) in
    subst (λ (y : Option VersionPlace × List ℕ). IsSecond bases lasts y.0) (ok_is made x v.2) is
  where
    some_is : (a c : VersionPlace) → Some a ≡ Some c → a ≡ c
    some_is a c h = cc

second_is : (bases : List VersionPlace) (lasts : List ℕ) (b : List ℕ) (x : Option VersionPlace × List ℕ) → second_at bases lasts b ≡ Ok x → IsSecond bases lasts x.0
unfolding second_at
second_is bases lasts b x e =
    let f = bind_ok (byte_at b) (λ f. test (nat_le f.0 1) b >>= λ g. cond (f.0 == 0) (Ok (None, f.1)) (number_at w32 f.1 >>= λ n. test (is_begun bases lasts n.0) f.1 >>= λ u. number_at w32 n.1 >>= λ p. test (nat_le p.0 (last_of lasts n.0)) n.1 >>= λ v. Ok (Some (record { branch = n.0; position = p.0 }), p.1))) x e in
    let g = bind_ok (test (nat_le f.0.0 1) b) (λ g. cond (f.0.0 == 0) (Ok (None, f.0.1)) (number_at w32 f.0.1 >>= λ n. test (is_begun bases lasts n.0) f.0.1 >>= λ u. number_at w32 n.1 >>= λ p. test (nat_le p.0 (last_of lasts n.0)) n.1 >>= λ v. Ok (Some (record { branch = n.0; position = p.0 }), p.1))) x f.2 in
    second_rest (f.0.0 == 0) bases lasts f.0.1 x g.2

-- one version more
pub record AddsVersion (bases : List VersionPlace) (s t : List ℕ × List MadeVersion) : Type 0 where
  pub added : MadeVersion
  pub begun : is_begun bases s.0 added.branch ≡ true
  pub few : last_of s.0 added.branch < 65535
  pub second : IsSecond bases s.0 added.second
  pub lasts : t.0 ≡ set s.0 added.branch (last_of s.0 added.branch + 1)
  pub versions : t.1 ≡ s.1 ++ added ∷ []

pub version_adds : (bases : List VersionPlace) (s : List ℕ × List MadeVersion) (b : List ℕ) (x : (List ℕ × List MadeVersion) × List ℕ) → next_version bases s b ≡ Ok x → AddsVersion bases s x.0
unfolding next_version
version_adds bases s b x e =
    let n = bind_ok (number_at w32 b) (λ n. test (is_begun bases s.0 n.0 && nat_lt (last_of s.0 n.0) 65535) b >>= λ u. second_at bases s.0 n.1 >>= λ p. Ok ((set s.0 n.0 (last_of s.0 n.0 + 1), s.1 ++ record { branch = n.0; second = p.0 } ∷ []), p.1)) x e in
    let u = bind_ok (test (is_begun bases s.0 n.0.0 && nat_lt (last_of s.0 n.0.0) 65535) b) (λ u. second_at bases s.0 n.0.1 >>= λ p. Ok ((set s.0 n.0.0 (last_of s.0 n.0.0 + 1), s.1 ++ record { branch = n.0.0; second = p.0 } ∷ []), p.1)) x n.2 in
    let p = bind_ok (second_at bases s.0 n.0.1) (λ p. Ok ((set s.0 n.0.0 (last_of s.0 n.0.0 + 1), s.1 ++ record { branch = n.0.0; second = p.0 } ∷ []), p.1)) x u.2 in
    let made : (List ℕ × List MadeVersion) × List ℕ = ((set s.0 n.0.0 (last_of s.0 n.0.0 + 1), s.1 ++ record { branch = n.0.0; second = p.0.0 } ∷ []), p.0.1) in
    let both = both_true (is_begun bases s.0 n.0.0) (nat_lt (last_of s.0 n.0.0) 65535) (tested _ b u.0 u.1) in
    subst (λ (y : (List ℕ × List MadeVersion) × List ℕ). AddsVersion bases s y.0) (ok_is made x p.2) (record {
      added = record { branch = n.0.0; second = p.0.0 };
      begun = both.0;
      few = ltb-true (last_of s.0 n.0.0) 65535 both.1;
      second = second_is bases s.0 n.0.1 p.0 p.1;
      lasts = refl;
      versions = refl;
    })

-- ---- records

-- fields that meet the widths
abbrev pub HasFields : List ℕ → Record → Type 0
HasFields ws x = meets ws x.fields ≡ true

short : (n : ℕ) (bytes : List ℕ) → length (take n bytes) ≤ n
short zero bytes = omega arith
short (suc n) [] = omega arith
short (suc n) (b ∷ bytes) = let l = short n bytes in omega (arith, l)

field_meets : (w : ℕ) (bytes : List ℕ) → fits_width w (field_in w bytes) ≡ true
field_meets zero bytes = refl
field_meets (suc w) bytes =
    let text = take (suc w) bytes in
    let a = short (text_len text) text in
    let b = text_within text in
    let c = short (suc w) bytes in
    le-leb (length (text_in text)) (suc w) (omega (arith, a, b, c))

row_meets : (ws bytes : List ℕ) → meets ws (row_in ws bytes) ≡ true
row_meets [] bytes = refl
row_meets (w ∷ ws) bytes = and_from (fits_width w (field_in w bytes)) (meets ws (row_in ws (drop (field_size w) bytes))) (field_meets w bytes) (row_meets ws (drop (field_size w) bytes))

records_meet : (ws : List ℕ) (n : ℕ) (bytes : List ℕ) → All (HasFields ws) (records_in ws n bytes)
records_meet ws zero bytes = All-nil (HasFields ws)
records_meet ws (suc n) bytes = All-cons (HasFields ws) (record_in ws bytes) (records_in ws n (drop (record_size ws) bytes)) (row_meets ws (drop 8 bytes)) (records_meet ws n (drop (record_size ws) bytes))

pub page_keeps : (ws : List ℕ) (s : ℕ × List Record) (b : List ℕ) (x : (ℕ × List Record) × List ℕ) → All (HasFields ws) s.1 → next_page ws s b ≡ Ok x → All (HasFields ws) x.0.1
unfolding next_page
page_keeps ws s b x all e =
    let there = bind_ok (enough 4096 b) (λ there. test (is_page_of ws (on_page ws s.0) (take 4096 b)) b >>= λ page. Ok ((s.0 - on_page ws s.0, s.1 ++ (rows_in ws (take 4096 b)).records), drop 4096 b)) x e in
    let page = bind_ok (test (is_page_of ws (on_page ws s.0) (take 4096 b)) b) (λ page. Ok ((s.0 - on_page ws s.0, s.1 ++ (rows_in ws (take 4096 b)).records), drop 4096 b)) x there.2 in
    let made : (ℕ × List Record) × List ℕ = ((s.0 - on_page ws s.0, s.1 ++ (rows_in ws (take 4096 b)).records), drop 4096 b) in
    subst (λ (y : (ℕ × List Record) × List ℕ). All (HasFields ws) y.0.1) (ok_is made x page.2)
    (All-append (HasFields ws) s.1 (rows_in ws (take 4096 b)).records all (records_meet ws (count_in (take 4096 b)) (drop 16 (take 4096 b))))

-- ---- rows

delta_adds : (size : ℕ) (s : List Delta) (b : List ℕ) (x : List Delta × List ℕ) → next_delta size s b ≡ Ok x → length x.0 ≡ length s + 1
unfolding next_delta
delta_adds size s b x e =
    let f = bind_ok (number_at w32 b) (λ f. number_at w32 f.1 >>= λ n. test (spans size f.0 n.0) b >>= λ u. repeat next_word n.0 none n.1 >>= λ ws. test (are_words size f.0 ws.0) b >>= λ v. Ok (s ++ record { first = f.0; words = ws.0 } ∷ [], ws.1)) x e in
    let n = bind_ok (number_at w32 f.0.1) (λ n. test (spans size f.0.0 n.0) b >>= λ u. repeat next_word n.0 none n.1 >>= λ ws. test (are_words size f.0.0 ws.0) b >>= λ v. Ok (s ++ record { first = f.0.0; words = ws.0 } ∷ [], ws.1)) x f.2 in
    let u = bind_ok (test (spans size f.0.0 n.0.0) b) (λ u. repeat next_word n.0.0 none n.0.1 >>= λ ws. test (are_words size f.0.0 ws.0) b >>= λ v. Ok (s ++ record { first = f.0.0; words = ws.0 } ∷ [], ws.1)) x n.2 in
    let ws = bind_ok (repeat next_word n.0.0 none n.0.1) (λ ws. test (are_words size f.0.0 ws.0) b >>= λ v. Ok (s ++ record { first = f.0.0; words = ws.0 } ∷ [], ws.1)) x u.2 in
    let v = bind_ok (test (are_words size f.0.0 ws.0.0) b) (λ v. Ok (s ++ record { first = f.0.0; words = ws.0.0 } ∷ [], ws.0.1)) x ws.2 in
    subst (λ (y : List Delta × List ℕ). length y.0 ≡ length s + 1) (ok_is (s ++ record { first = f.0.0; words = ws.0.0 } ∷ [], ws.0.1) x v.2) (length_push s (record { first = f.0.0; words = ws.0.0 }))

-- a row of a branch that is there, with a delta for each position from its first one to the branch's last
pub record IsRead (lasts : List ℕ) (a : RowPart) : Type 0 where
  pub there : a.branch < length lasts
  pub within : a.from ≤ last_of lasts a.branch
  pub full : a.from + length a.deltas ≡ suc (last_of lasts a.branch)

-- one row more, behind those before it
pub record AddsRow (lasts : List ℕ) (s t : List RowPart) : Type 0 where
  pub added : RowPart
  pub is : IsRead lasts added
  pub behind : rises s added.branch ≡ true
  pub rows : t ≡ s ++ added ∷ []

pub row_adds : (lasts : List ℕ) (size : ℕ) (s : List RowPart) (b : List ℕ) (x : List RowPart × List ℕ) → next_row lasts size s b ≡ Ok x → AddsRow lasts s x.0
unfolding next_row
row_adds lasts size s b x e =
    let n = bind_ok (number_at w32 b) (λ n. test (nat_lt n.0 (length lasts) && rises s n.0) b >>= λ u. number_at w32 n.1 >>= λ f. test (nat_le f.0 (last_of lasts n.0)) n.1 >>= λ v. next_delta size no_deltas f.1 >>= λ d. test (f.0 == 0 || are_blank d.0) b >>= λ w. repeat (next_delta size) (last_of lasts n.0 - f.0) d.0 d.1 >>= λ ds. Ok (s ++ record { branch = n.0; from = f.0; deltas = ds.0 } ∷ [], ds.1)) x e in
    let u = bind_ok (test (nat_lt n.0.0 (length lasts) && rises s n.0.0) b) (λ u. number_at w32 n.0.1 >>= λ f. test (nat_le f.0 (last_of lasts n.0.0)) n.0.1 >>= λ v. next_delta size no_deltas f.1 >>= λ d. test (f.0 == 0 || are_blank d.0) b >>= λ w. repeat (next_delta size) (last_of lasts n.0.0 - f.0) d.0 d.1 >>= λ ds. Ok (s ++ record { branch = n.0.0; from = f.0; deltas = ds.0 } ∷ [], ds.1)) x n.2 in
    let f = bind_ok (number_at w32 n.0.1) (λ f. test (nat_le f.0 (last_of lasts n.0.0)) n.0.1 >>= λ v. next_delta size no_deltas f.1 >>= λ d. test (f.0 == 0 || are_blank d.0) b >>= λ w. repeat (next_delta size) (last_of lasts n.0.0 - f.0) d.0 d.1 >>= λ ds. Ok (s ++ record { branch = n.0.0; from = f.0; deltas = ds.0 } ∷ [], ds.1)) x u.2 in
    let v = bind_ok (test (nat_le f.0.0 (last_of lasts n.0.0)) n.0.1) (λ v. next_delta size no_deltas f.0.1 >>= λ d. test (f.0.0 == 0 || are_blank d.0) b >>= λ w. repeat (next_delta size) (last_of lasts n.0.0 - f.0.0) d.0 d.1 >>= λ ds. Ok (s ++ record { branch = n.0.0; from = f.0.0; deltas = ds.0 } ∷ [], ds.1)) x f.2 in
    let d = bind_ok (next_delta size no_deltas f.0.1) (λ d. test (f.0.0 == 0 || are_blank d.0) b >>= λ w. repeat (next_delta size) (last_of lasts n.0.0 - f.0.0) d.0 d.1 >>= λ ds. Ok (s ++ record { branch = n.0.0; from = f.0.0; deltas = ds.0 } ∷ [], ds.1)) x v.2 in
    let w = bind_ok (test (f.0.0 == 0 || are_blank d.0.0) b) (λ w. repeat (next_delta size) (last_of lasts n.0.0 - f.0.0) d.0.0 d.0.1 >>= λ ds. Ok (s ++ record { branch = n.0.0; from = f.0.0; deltas = ds.0 } ∷ [], ds.1)) x d.2 in
    let ds = bind_ok (repeat (next_delta size) (last_of lasts n.0.0 - f.0.0) d.0.0 d.0.1) (λ ds. Ok (s ++ record { branch = n.0.0; from = f.0.0; deltas = ds.0 } ∷ [], ds.1)) x w.2 in
    let both = both_true (nat_lt n.0.0 (length lasts)) (rises s n.0.0) (tested _ b u.0 u.1) in
    let le : f.0.0 ≤ last_of lasts n.0.0 = leb-true f.0.0 (last_of lasts n.0.0) (tested _ n.0.1 v.0 v.1) in
    let first : length d.0.0 ≡ 1 = delta_adds size no_deltas f.0.1 d.0 d.1 in
    let count : length ds.0.0 ≡ length d.0.0 + (last_of lasts n.0.0 - f.0.0) = adds (next_delta size) (delta_adds size) (last_of lasts n.0.0 - f.0.0) d.0.0 d.0.1 ds.0 ds.1 in
    let full : f.0.0 + length ds.0.0 ≡ suc (last_of lasts n.0.0) = omega (arith, le, first, count) in
    subst (λ (y : List RowPart × List ℕ). AddsRow lasts s y.0) (ok_is (s ++ record { branch = n.0.0; from = f.0.0; deltas = ds.0.0 } ∷ [], ds.0.1) x ds.2) (record {
      added = record { branch = n.0.0; from = f.0.0; deltas = ds.0.0 };
      is = record { there = ltb-true n.0.0 (length lasts) both.0; within = le; full = full };
      behind = both.1;
      rows = refl;
    })
