-- What is read is spelled so: what each reader takes from the front is the spelling of what it gives.
use Rattle.std.proofs.Common.{◌≡◌, ℕ, zero, suc, ◌+◌, ◌-◌, ◌^◌, ◌<◌, ◌≤◌, Bool, true, false, cond, ◌&&◌, ◌||◌, not, ltb, List, [], ◌∷◌, ◌++◌, length, take, drop, Option, Some, None, Result, Ok, Err, refl, sym, ap, subst, ◌∙◌, append_assoc, arith, inl, inr}
use Rattle.std.specs.Prelude.{nat_lt, nat_le, ◌==◌, set}
use Rattle.std.specs.List.{flat_map, list_all, All}
use Rattle.std.proofs.lemmas.List.Elements.{All-cons, All-nil}
use Rattle.std.specs.Int.{Width, w32, w64, byte_len, from_le_bytes, to_le_bytes}
use Rattle.std.proofs.lemmas.Bool.{cases_lt, ltb-false, leb-true}
use Rattle.std.proofs.lemmas.List.{append-nil, take-append-drop, length-take, get_or-drop, get_or-take, get_or_past}
use Rattle.std.proofs.lemmas.List.Concat.{flat_map-cons}
use Rattle.std.proofs.lemmas.Nat.{le_bytes_4, le_bytes_8}
use Rattle.db_value.specs.Text.{is_name}
use Rattle.db_value.specs.Schema.{is_declared}
use Rattle.db_value.specs.Width.{is_width}
use Rattle.db_value.specs.Relations.{has_columns}
use Rattle.db_value.specs.declared.schema.Column.{Column}
use Rattle.db_value.specs.declared.schema.Relation.{Relation}
use Rattle.db_value.specs.declared.version.VersionPlace.{VersionPlace}
use Rattle.image_text.specs.declared.image.Format.{Format}
use Rattle.image_text.specs.declared.image.Format.TheVariants.{One, Two}
use Rattle.image_text.specs.declared.image.BranchPart.{BranchPart}
use Rattle.image_text.specs.declared.image.MadeVersion.{MadeVersion}
use Rattle.image_text.specs.declared.image.Delta.{Delta}
use Rattle.image_text.specs.declared.image.RowPart.{RowPart}
use Rattle.image_text.specs.Reading.{◌>>=◌, Read, test, enough, repeat, byte_at, number_at, name_at, width_at, has_column, next_column, next_relation, relations_at, next_word, next_delta, spans, are_words, has_turn, is_earlier, is_position, base_of, next_branch, last_of, is_begun, second_at, next_version, next_row, rises, are_blank}
use Rattle.image_text.specs.Spelling.{FitsRelation, FitsRow, counted, name_bytes, width_bytes, column_bytes, relation_bytes, relations_bytes, word_bytes, delta_bytes, branch_bytes, second_bytes, version_bytes, row_bytes}
use Rattle.image_text.specs.Laws.{IsBytes}
use Rattle.image_text.proofs.Loop.{bind_ok, ok_is}
use Rattle.image_text.proofs.Counted.{tested, both_true, columns_wide, columns_are}

-- a text is taken from the front
pub record Takes (bytes text rest : List ℕ) : Type 0 where
  pub parts : bytes ≡ text ++ rest
  pub rest_fits : IsBytes rest

-- one item more, with its spelling, and with what holds of it
abbrev pub TakesOne : {A : Type 0} → (A → Type 0) → (A → List ℕ) → List A → List ℕ → List A × List ℕ → Type 0
TakesOne {A} P spell seen bytes x = (a : A) × (x.0 ≡ seen ++ a ∷ []) × Takes bytes (spell a) x.1 × P a

-- nothing more is asked
abbrev pub Always : {A : Type 0} → A → Type 0
Always a = Unit {0}

abbrev pub IsShort : Column → Type 0
IsShort c = length c.name ≤ 32

abbrev pub FitsDelta : Delta → Type 0
FitsDelta d = length d.words < 2 ^ 32

pub IsBytes-drop : (n : ℕ) (bytes : List ℕ) → IsBytes bytes → IsBytes (drop n bytes)
IsBytes-drop n bytes h i = rw get_or-drop (h (n + i))

pub IsBytes-take : (n : ℕ) (bytes : List ℕ) → IsBytes bytes → IsBytes (take n bytes)
IsBytes-take n bytes h i =
    elim (cases_lt i n) [
      | inl lt ↦ rw (get_or-take n bytes i 0 lt) (h i)
      | inr le ↦ rw (get_or_past (take n bytes) i 0 (omega (arith, length-take n bytes))) (omega arith)
    ]

pub Takes-then : (a x b y c : List ℕ) → Takes a x b → Takes b y c → Takes a (x ++ y) c
Takes-then a x b y c p q = record { parts = p.parts ∙ ap (λ (t : List ℕ). x ++ t) q.parts ∙ sym (append_assoc x y c); rest_fits = q.rest_fits }

-- items, with their spellings, and with what holds of each
abbrev pub TakesAll : {A : Type 0} → (A → Type 0) → (A → List ℕ) → ℕ → List A → List ℕ → List A × List ℕ → Type 0
TakesAll {A} P spell k seen bytes x = (got : List A) × (x.0 ≡ seen ++ got) × (length got ≡ k) × Takes bytes (flat_map spell got) x.1 × All P got

pub joined : {A : Type 0} (s t : List A) (a : A) (got : List A) → t ≡ s ++ a ∷ [] → t ++ got ≡ s ++ a ∷ got
joined s t a got e = rw e (append_assoc s (a ∷ []) got)

pub one_more_text : {A : Type 0} (spell : A → List ℕ) (a : A) (got : List A) (b rest : List ℕ) → Takes b (spell a ++ flat_map spell got) rest → Takes b (flat_map spell (a ∷ got)) rest
one_more_text spell a got b rest t = rw flat_map-cons t

pub repeat_takes : {A : Type 0} (P : A → Type 0) (spell : A → List ℕ) (item : List A → List ℕ → Read (List A))
    (one : (s : List A) (b : List ℕ) (x : List A × List ℕ) → IsBytes b → item s b ≡ Ok x → TakesOne P spell s b x)
    (k : ℕ) (s : List A) (b : List ℕ) (x : List A × List ℕ) → IsBytes b → repeat item k s b ≡ Ok x → TakesAll P spell k s b x
unfolding repeat
repeat_takes P spell item one zero s b x fits e =
    let h = ok_is (s, b) x e in
    subst (λ y. TakesAll P spell 0 s b y) h ([], sym (append-nil s), refl, record { parts = refl; rest_fits = fits }, All-nil P)
repeat_takes P spell item one (suc k) s b x fits e =
    let a = bind_ok (item s b) (λ y. repeat item k y.0 y.1) x e in
    let first = one s b a.0 fits a.1 in
    let others = repeat_takes P spell item one k a.0.0 a.0.1 x first.2.rest_fits a.2 in
    let both = Takes-then b (spell first.0) a.0.1 (flat_map spell others.0) x.1 first.2 others.3 in
    (first.0 ∷ others.0, others.1 ∙ joined s a.0.0 first.0 others.0 first.1, ap suc others.2, one_more_text spell first.0 others.0 b x.1 both, All-cons P first.0 others.0 first.3 others.4)

-- ---- numbers

pub record IsWide (w : Width) (limit : ℕ) : Type 0 where
  pub back : (bytes : List ℕ) → length bytes ≡ byte_len w → IsBytes bytes → to_le_bytes w (from_le_bytes w bytes) ≡ bytes
  pub below : (bytes : List ℕ) → IsBytes bytes → from_le_bytes w bytes < limit

pub wide32 : IsWide w32 (2 ^ 32)
wide32 = record {
  back = λ bytes len fits. le_bytes_4 bytes _ len fits refl;
  below = λ bytes fits. omega (arith, fits 0, fits 1, fits 2, fits 3);
}

pub wide64 : IsWide w64 (2 ^ 64)
wide64 = record {
  back = λ bytes len fits. le_bytes_8 bytes _ len fits refl;
  below = λ bytes fits. omega (arith, fits 0, fits 1, fits 2, fits 3, fits 4, fits 5, fits 6, fits 7);
}

abbrev short : {A : Type 0} → Bool → A → Result A ℕ
short b x = cond b (Err 0) (Ok x)

short_ok : {A : Type 0} (b : Bool) (x y : A) → short b x ≡ Ok y → (b ≡ false) × (x ≡ y)
short_ok true x y e = absurd cc
short_ok false x y e = (refl, cc)

pub number_takes : (w : Width) (limit : ℕ) (wide : IsWide w limit) (bytes : List ℕ) (x : ℕ × List ℕ) → IsBytes bytes → number_at w bytes ≡ Ok x → Takes bytes (to_le_bytes w x.0) x.1 × (x.0 < limit)
number_takes w limit wide bytes x fits e =
    let g = short_ok (ltb (length bytes) (byte_len w)) (from_le_bytes w (take (byte_len w) bytes), drop (byte_len w) bytes) x e in
    let long : byte_len w ≤ length bytes = ltb-false _ _ g.0 in
    let front : to_le_bytes w (from_le_bytes w (take (byte_len w) bytes)) ≡ take (byte_len w) bytes = wide.back (take (byte_len w) bytes) (omega (arith, length-take (byte_len w) bytes)) (IsBytes-take (byte_len w) bytes fits) in
    subst (λ (y : ℕ × List ℕ). Takes bytes (to_le_bytes w y.0) y.1 × (y.0 < limit)) g.1
    (record { parts = rw front (sym (take-append-drop (byte_len w) bytes)); rest_fits = IsBytes-drop (byte_len w) bytes fits }, wide.below (take (byte_len w) bytes) (IsBytes-take (byte_len w) bytes fits))

pub byte_takes : (bytes : List ℕ) (x : ℕ × List ℕ) → IsBytes bytes → byte_at bytes ≡ Ok x → Takes bytes (x.0 ∷ []) x.1
byte_takes [] x fits e = absurd cc
byte_takes (b ∷ bs) x fits e = subst (λ (y : ℕ × List ℕ). Takes (b ∷ bs) (y.0 ∷ []) y.1) (ok_is (b, bs) x e) (record { parts = refl; rest_fits = λ i. fits (suc i) })

pub enough_is : (n : ℕ) (bytes : List ℕ) (u : Unit {0}) → enough n bytes ≡ Ok u → n ≤ length bytes
enough_is n bytes u e = ltb-false _ _ (short_ok (ltb (length bytes) n) tt u e).0

-- ---- names

pub name_takes : (bytes : List ℕ) (x : List ℕ × List ℕ) → IsBytes bytes → name_at bytes ≡ Ok x → Takes bytes (name_bytes x.0) x.1 × (length x.0 ≤ 32)
unfolding name_at
name_takes bytes x fits e =
    let n = bind_ok (byte_at bytes) (λ n. test (nat_lt 0 n.0 && nat_le n.0 32) bytes >>= λ c. enough n.0 n.1 >>= λ t. test (is_name (take n.0 n.1)) bytes >>= λ m. Ok (take n.0 n.1, drop n.0 n.1)) x e in
    let c = bind_ok (test (nat_lt 0 n.0.0 && nat_le n.0.0 32) bytes) (λ c. enough n.0.0 n.0.1 >>= λ t. test (is_name (take n.0.0 n.0.1)) bytes >>= λ m. Ok (take n.0.0 n.0.1, drop n.0.0 n.0.1)) x n.2 in
    let t = bind_ok (enough n.0.0 n.0.1) (λ t. test (is_name (take n.0.0 n.0.1)) bytes >>= λ m. Ok (take n.0.0 n.0.1, drop n.0.0 n.0.1)) x c.2 in
    let m = bind_ok (test (is_name (take n.0.0 n.0.1)) bytes) (λ m. Ok (take n.0.0 n.0.1, drop n.0.0 n.0.1)) x t.2 in
    let h = ok_is (take n.0.0 n.0.1, drop n.0.0 n.0.1) x m.2 in
    let first = byte_takes bytes n.0 fits n.1 in
    let long = enough_is n.0.0 n.0.1 t.0 t.1 in
    let len : length (take n.0.0 n.0.1) ≡ n.0.0 = omega (arith, length-take n.0.0 n.0.1) in
    let second : Takes n.0.1 (take n.0.0 n.0.1) (drop n.0.0 n.0.1) = record { parts = sym (take-append-drop n.0.0 n.0.1); rest_fits = IsBytes-drop n.0.0 n.0.1 first.rest_fits } in
    let both = Takes-then bytes (n.0.0 ∷ []) n.0.1 (take n.0.0 n.0.1) (drop n.0.0 n.0.1) first second in
    let few : n.0.0 ≤ 32 = leb-true n.0.0 32 (both_true (nat_lt 0 n.0.0) (nat_le n.0.0 32) (tested _ bytes c.0 c.1)).1 in
    subst (λ (y : List ℕ × List ℕ). Takes bytes (name_bytes y.0) y.1 × (length y.0 ≤ 32)) h (subst (λ (k : ℕ). Takes bytes (k ∷ take n.0.0 n.0.1) (drop n.0.0 n.0.1)) (sym len) both, omega (arith, len, few))

pub width_takes : (format : Format) (b : List ℕ) (x : ℕ × List ℕ) → IsBytes b → width_at format b ≡ Ok x → Takes b (width_bytes format x.0) x.1
unfolding width_at
width_takes One b x fits e = subst (λ (y : ℕ × List ℕ). Takes b [] y.1) (ok_is (0, b) x e) (record { parts = refl; rest_fits = fits })
width_takes Two b x fits e =
    let w = bind_ok (byte_at b) (λ w. test (is_width w.0) b >>= λ u. Ok (w.0, w.1)) x e in
    let u = bind_ok (test (is_width w.0.0) b) (λ u. Ok (w.0.0, w.0.1)) x w.2 in
    subst (λ (y : ℕ × List ℕ). Takes b (y.0 ∷ []) y.1) (ok_is (w.0.0, w.0.1) x u.2) (byte_takes b w.0 fits w.1)

pub next_column_takes : (format : Format) (s : List Column) (b : List ℕ) (x : List Column × List ℕ) → IsBytes b → next_column format s b ≡ Ok x → TakesOne IsShort (column_bytes format) s b x
unfolding next_column
next_column_takes format s b x fits e =
    let n = bind_ok (name_at b) (λ n. test (not (has_column s n.0)) b >>= λ u. width_at format n.1 >>= λ w. Ok (s ++ record { name = n.0; width = w.0 } ∷ [], w.1)) x e in
    let u = bind_ok (test (not (has_column s n.0.0)) b) (λ u. width_at format n.0.1 >>= λ w. Ok (s ++ record { name = n.0.0; width = w.0 } ∷ [], w.1)) x n.2 in
    let w = bind_ok (width_at format n.0.1) (λ w. Ok (s ++ record { name = n.0.0; width = w.0 } ∷ [], w.1)) x u.2 in
    let named = name_takes b n.0 fits n.1 in
    let t0 = named.0 in
    let t1 = width_takes format n.0.1 w.0 t0.rest_fits w.1 in
    let whole = Takes-then b (name_bytes n.0.0) n.0.1 (width_bytes format w.0.0) w.0.1 t0 t1 in
    subst (λ (y : List Column × List ℕ). TakesOne IsShort (column_bytes format) s b y) (ok_is (s ++ record { name = n.0.0; width = w.0.0 } ∷ [], w.0.1) x w.2) (record { name = n.0.0; width = w.0.0 }, refl, whole, named.1)

-- ---- deltas

pub next_word_takes : (s : List ℕ) (b : List ℕ) (x : List ℕ × List ℕ) → IsBytes b → next_word s b ≡ Ok x → TakesOne Always word_bytes s b x
next_word_takes s b x fits e =
    let n = bind_ok (number_at w64 b) (λ w. Ok (s ++ w.0 ∷ [], w.1)) x e in
    subst (λ y. TakesOne Always word_bytes s b y) (ok_is (s ++ n.0.0 ∷ [], n.0.1) x n.2) (n.0.0, refl, (number_takes w64 (2 ^ 64) wide64 b n.0 fits n.1).0, tt)

pub next_delta_takes : (size : ℕ) (s : List Delta) (b : List ℕ) (x : List Delta × List ℕ) → IsBytes b → next_delta size s b ≡ Ok x → TakesOne FitsDelta delta_bytes s b x
unfolding next_delta
next_delta_takes size s b x fits e =
    let f = bind_ok (number_at w32 b) (λ f. number_at w32 f.1 >>= λ n. test (spans size f.0 n.0) b >>= λ u. repeat next_word n.0 [] n.1 >>= λ ws. test (are_words size f.0 ws.0) b >>= λ v. Ok (s ++ record { first = f.0; words = ws.0 } ∷ [], ws.1)) x e in
    let n = bind_ok (number_at w32 f.0.1) (λ n. test (spans size f.0.0 n.0) b >>= λ u. repeat next_word n.0 [] n.1 >>= λ ws. test (are_words size f.0.0 ws.0) b >>= λ v. Ok (s ++ record { first = f.0.0; words = ws.0 } ∷ [], ws.1)) x f.2 in
    let u = bind_ok (test (spans size f.0.0 n.0.0) b) (λ u. repeat next_word n.0.0 [] n.0.1 >>= λ ws. test (are_words size f.0.0 ws.0) b >>= λ v. Ok (s ++ record { first = f.0.0; words = ws.0 } ∷ [], ws.1)) x n.2 in
    let ws = bind_ok (repeat next_word n.0.0 [] n.0.1) (λ ws. test (are_words size f.0.0 ws.0) b >>= λ v. Ok (s ++ record { first = f.0.0; words = ws.0 } ∷ [], ws.1)) x u.2 in
    let v = bind_ok (test (are_words size f.0.0 ws.0.0) b) (λ v. Ok (s ++ record { first = f.0.0; words = ws.0.0 } ∷ [], ws.0.1)) x ws.2 in
    let t0 = (number_takes w32 (2 ^ 32) wide32 b f.0 fits f.1).0 in
    let t1 = (number_takes w32 (2 ^ 32) wide32 f.0.1 n.0 t0.rest_fits n.1).0 in
    let t2 = repeat_takes Always word_bytes next_word next_word_takes n.0.0 [] n.0.1 ws.0 t1.rest_fits ws.1 in
    let words : t2.0 ≡ ws.0.0 = sym t2.1 in
    let e12 = Takes-then f.0.1 (to_le_bytes w32 n.0.0) n.0.1 (flat_map word_bytes t2.0) ws.0.1 t1 t2.3 in
    let same_count : Takes f.0.1 (counted word_bytes t2.0) ws.0.1 = subst (λ (k : ℕ). Takes f.0.1 (to_le_bytes w32 k ++ flat_map word_bytes t2.0) ws.0.1) (sym t2.2) e12 in
    let as_read : Takes f.0.1 (counted word_bytes ws.0.0) ws.0.1 = subst (λ (w : List ℕ). Takes f.0.1 (counted word_bytes w) ws.0.1) words same_count in
    let whole = Takes-then b (to_le_bytes w32 f.0.0) f.0.1 (counted word_bytes ws.0.0) ws.0.1 t0 as_read in
    let few : length ws.0.0 < 2 ^ 32 = omega (arith, (number_takes w32 (2 ^ 32) wide32 f.0.1 n.0 t0.rest_fits n.1).1, ap (λ (l : List ℕ). length l) words, t2.2) in
    subst (λ y. TakesOne FitsDelta delta_bytes s b y) (ok_is (s ++ record { first = f.0.0; words = ws.0.0 } ∷ [], ws.0.1) x v.2) (record { first = f.0.0; words = ws.0.0 }, refl, whole, few)

-- ---- relations

-- so many items from none on
pub from_none : {A : Type 0} (P : A → Type 0) (spell : A → List ℕ) (k : ℕ) (b : List ℕ) (x : List A × List ℕ) → TakesAll P spell k [] b x → (length x.0 ≡ k) × Takes b (flat_map spell x.0) x.1 × All P x.0
from_none {A} P spell k b x t = subst (λ l. (length l ≡ k) × Takes b (flat_map spell l) x.1 × All P l) (sym t.1) (t.2, t.3, t.4)

pub next_relation_takes : (format : Format) (s : List Relation) (b : List ℕ) (x : List Relation × List ℕ) → IsBytes b → next_relation format s b ≡ Ok x → TakesOne FitsRelation (relation_bytes format) s b x
unfolding next_relation
next_relation_takes format s b x fits e =
    let m = bind_ok (name_at b) (λ name. test (not (is_declared s name.0)) b >>= λ u. byte_at name.1 >>= λ n. test (nat_lt 0 n.0 && nat_le n.0 15) name.1 >>= λ v. repeat (next_column format) n.0 [] n.1 >>= λ columns. Ok (s ++ record { name = name.0; columns = columns.0 } ∷ [], columns.1)) x e in
    let f = bind_ok (test (not (is_declared s m.0.0)) b) (λ u. byte_at m.0.1 >>= λ n. test (nat_lt 0 n.0 && nat_le n.0 15) m.0.1 >>= λ v. repeat (next_column format) n.0 [] n.1 >>= λ columns. Ok (s ++ record { name = m.0.0; columns = columns.0 } ∷ [], columns.1)) x m.2 in
    let n = bind_ok (byte_at m.0.1) (λ n. test (nat_lt 0 n.0 && nat_le n.0 15) m.0.1 >>= λ v. repeat (next_column format) n.0 [] n.1 >>= λ columns. Ok (s ++ record { name = m.0.0; columns = columns.0 } ∷ [], columns.1)) x f.2 in
    let g = bind_ok (test (nat_lt 0 n.0.0 && nat_le n.0.0 15) m.0.1) (λ v. repeat (next_column format) n.0.0 [] n.0.1 >>= λ columns. Ok (s ++ record { name = m.0.0; columns = columns.0 } ∷ [], columns.1)) x n.2 in
    let c = bind_ok (repeat (next_column format) n.0.0 [] n.0.1) (λ columns. Ok (s ++ record { name = m.0.0; columns = columns.0 } ∷ [], columns.1)) x g.2 in
    let named = name_takes b m.0 fits m.1 in
    let t0 = named.0 in
    let t1 = byte_takes m.0.1 n.0 t0.rest_fits n.1 in
    let t2 = from_none IsShort (column_bytes format) n.0.0 n.0.1 c.0 (repeat_takes IsShort (column_bytes format) (next_column format) (next_column_takes format) n.0.0 [] n.0.1 c.0 t1.rest_fits c.1) in
    let e12 = Takes-then m.0.1 (n.0.0 ∷ []) n.0.1 (flat_map (column_bytes format) c.0.0) c.0.1 t1 t2.1 in
    let counted12 : Takes m.0.1 (length c.0.0 ∷ flat_map (column_bytes format) c.0.0) c.0.1 = subst (λ k. Takes m.0.1 (k ∷ flat_map (column_bytes format) c.0.0) c.0.1) (sym t2.0) e12 in
    let whole = Takes-then b (name_bytes m.0.0) m.0.1 (length c.0.0 ∷ flat_map (column_bytes format) c.0.0) c.0.1 t0 counted12 in
    let counts = both_true (nat_lt 0 n.0.0) (nat_le n.0.0 15) (tested _ m.0.1 g.0 g.1) in
    let wide : list_all (λ c. is_width c.width) c.0.0 ≡ true = columns_wide format n.0.0 [] n.0.1 c.0 refl c.1 in
    let has : has_columns (record { name = m.0.0; columns = c.0.0 }) ≡ true = columns_are m.0.0 c.0.0 n.0.0 t2.0 counts.0 counts.1 wide in
    subst (λ y. TakesOne FitsRelation (relation_bytes format) s b y) (ok_is (s ++ record { name = m.0.0; columns = c.0.0 } ∷ [], c.0.1) x c.2)
    (record { name = m.0.0; columns = c.0.0 }, refl, whole, record { name = named.1; has = has; columns = t2.2 })

pub relations_take : (format : Format) (b : List ℕ) (x : List Relation × List ℕ) → IsBytes b → relations_at format b ≡ Ok x → Takes b (relations_bytes format x.0) x.1 × (length x.0 ≤ 8) × All FitsRelation x.0
unfolding relations_at
relations_take format b x fits e =
    let n = bind_ok (byte_at b) (λ n. test (nat_lt 0 n.0 && nat_le n.0 8) b >>= λ u. repeat (next_relation format) n.0 [] n.1) x e in
    let g = bind_ok (test (nat_lt 0 n.0.0 && nat_le n.0.0 8) b) (λ u. repeat (next_relation format) n.0.0 [] n.0.1) x n.2 in
    let t0 = byte_takes b n.0 fits n.1 in
    let t1 = from_none FitsRelation (relation_bytes format) n.0.0 n.0.1 x (repeat_takes FitsRelation (relation_bytes format) (next_relation format) (next_relation_takes format) n.0.0 [] n.0.1 x t0.rest_fits g.2) in
    let both = Takes-then b (n.0.0 ∷ []) n.0.1 (flat_map (relation_bytes format) x.0) x.1 t0 t1.1 in
    let few : n.0.0 ≤ 8 = leb-true n.0.0 8 (both_true (nat_lt 0 n.0.0) (nat_le n.0.0 8) (tested _ b g.0 g.1)).1 in
    (subst (λ k. Takes b (k ∷ flat_map (relation_bytes format) x.0) x.1) (sym t1.0) both, omega (arith, few, t1.0), t1.2)

-- ---- versions

-- behind the flag
second_rest : (bases : List VersionPlace) (lasts : List ℕ) (b : List ℕ) (f : ℕ × List ℕ) (x : Option VersionPlace × List ℕ) → Takes b (f.0 ∷ []) f.1 → nat_le f.0 1 ≡ true
    → cond (f.0 == 0) (Ok (None, f.1)) (number_at w32 f.1 >>= λ n. test (is_begun bases lasts n.0) f.1 >>= λ u. number_at w32 n.1 >>= λ p. test (nat_le p.0 (last_of lasts n.0)) n.1 >>= λ v. Ok (Some (record { branch = n.0; position = p.0 }), p.1)) ≡ Ok x → Takes b (second_bytes x.0) x.1
second_rest bases lasts b (zero, rest) x t low e = subst (λ (y : Option VersionPlace × List ℕ). Takes b (second_bytes y.0) y.1) (ok_is (None, rest) x e) t
second_rest bases lasts b (suc zero, rest) x t low e =
    let n = bind_ok (number_at w32 rest) (λ n. test (is_begun bases lasts n.0) rest >>= λ u. number_at w32 n.1 >>= λ p. test (nat_le p.0 (last_of lasts n.0)) n.1 >>= λ v. Ok (Some (record { branch = n.0; position = p.0 }), p.1)) x e in
    let u = bind_ok (test (is_begun bases lasts n.0.0) rest) (λ u. number_at w32 n.0.1 >>= λ p. test (nat_le p.0 (last_of lasts n.0.0)) n.0.1 >>= λ v. Ok (Some (record { branch = n.0.0; position = p.0 }), p.1)) x n.2 in
    let p = bind_ok (number_at w32 n.0.1) (λ p. test (nat_le p.0 (last_of lasts n.0.0)) n.0.1 >>= λ v. Ok (Some (record { branch = n.0.0; position = p.0 }), p.1)) x u.2 in
    let v = bind_ok (test (nat_le p.0.0 (last_of lasts n.0.0)) n.0.1) (λ v. Ok (Some (record { branch = n.0.0; position = p.0.0 }), p.0.1)) x p.2 in
    let t1 = (number_takes w32 (2 ^ 32) wide32 rest n.0 t.rest_fits n.1).0 in
    let t2 = (number_takes w32 (2 ^ 32) wide32 n.0.1 p.0 t1.rest_fits p.1).0 in
    let e12 = Takes-then rest (to_le_bytes w32 n.0.0) n.0.1 (to_le_bytes w32 p.0.0) p.0.1 t1 t2 in
    let whole = Takes-then b (1 ∷ []) rest (to_le_bytes w32 n.0.0 ++ to_le_bytes w32 p.0.0) p.0.1 t e12 in
    let made : Option VersionPlace × List ℕ = (Some (record { branch = n.0.0; position = p.0.0 }), p.0.1) in
    subst (λ (y : Option VersionPlace × List ℕ). Takes b (second_bytes y.0) y.1) (ok_is made x v.2) whole
second_rest bases lasts b (suc (suc f), rest) x t low e = absurd (omega (arith, leb-true (suc (suc f)) 1 low))

second_takes : (bases : List VersionPlace) (lasts : List ℕ) (b : List ℕ) (x : Option VersionPlace × List ℕ) → IsBytes b → second_at bases lasts b ≡ Ok x → Takes b (second_bytes x.0) x.1
unfolding second_at
second_takes bases lasts b x fits e =
    let f = bind_ok (byte_at b) (λ f. test (nat_le f.0 1) b >>= λ g. cond (f.0 == 0) (Ok (None, f.1)) (number_at w32 f.1 >>= λ n. test (is_begun bases lasts n.0) f.1 >>= λ u. number_at w32 n.1 >>= λ p. test (nat_le p.0 (last_of lasts n.0)) n.1 >>= λ v. Ok (Some (record { branch = n.0; position = p.0 }), p.1))) x e in
    let g = bind_ok (test (nat_le f.0.0 1) b) (λ g. cond (f.0.0 == 0) (Ok (None, f.0.1)) (number_at w32 f.0.1 >>= λ n. test (is_begun bases lasts n.0) f.0.1 >>= λ u. number_at w32 n.1 >>= λ p. test (nat_le p.0 (last_of lasts n.0)) n.1 >>= λ v. Ok (Some (record { branch = n.0; position = p.0 }), p.1))) x f.2 in
    let t0 = byte_takes b f.0 fits f.1 in
    second_rest bases lasts b f.0 x t0 (tested _ b g.0 g.1) g.2

pub next_version_takes : (bases : List VersionPlace) (s : List ℕ × List MadeVersion) (b : List ℕ) (x : (List ℕ × List MadeVersion) × List ℕ) → IsBytes b → next_version bases s b ≡ Ok x
    → (a : MadeVersion) × (x.0.1 ≡ s.1 ++ a ∷ []) × Takes b (version_bytes a) x.1 × Always a
unfolding next_version
next_version_takes bases s b x fits e =
    let n = bind_ok (number_at w32 b) (λ n. test (is_begun bases s.0 n.0 && nat_lt (last_of s.0 n.0) 65535) b >>= λ u. second_at bases s.0 n.1 >>= λ p. Ok ((set s.0 n.0 (last_of s.0 n.0 + 1), s.1 ++ record { branch = n.0; second = p.0 } ∷ []), p.1)) x e in
    let u = bind_ok (test (is_begun bases s.0 n.0.0 && nat_lt (last_of s.0 n.0.0) 65535) b) (λ u. second_at bases s.0 n.0.1 >>= λ p. Ok ((set s.0 n.0.0 (last_of s.0 n.0.0 + 1), s.1 ++ record { branch = n.0.0; second = p.0 } ∷ []), p.1)) x n.2 in
    let p = bind_ok (second_at bases s.0 n.0.1) (λ p. Ok ((set s.0 n.0.0 (last_of s.0 n.0.0 + 1), s.1 ++ record { branch = n.0.0; second = p.0 } ∷ []), p.1)) x u.2 in
    let t0 = (number_takes w32 (2 ^ 32) wide32 b n.0 fits n.1).0 in
    let t1 = second_takes bases s.0 n.0.1 p.0 t0.rest_fits p.1 in
    let whole = Takes-then b (to_le_bytes w32 n.0.0) n.0.1 (second_bytes p.0.0) p.0.1 t0 t1 in
    let made : (List ℕ × List MadeVersion) × List ℕ = ((set s.0 n.0.0 (last_of s.0 n.0.0 + 1), s.1 ++ record { branch = n.0.0; second = p.0.0 } ∷ []), p.0.1) in
    subst (λ (y : (List ℕ × List MadeVersion) × List ℕ). (a : MadeVersion) × (y.0.1 ≡ s.1 ++ a ∷ []) × Takes b (version_bytes a) y.1 × Always a) (ok_is made x p.2) (record { branch = n.0.0; second = p.0.0 }, refl, whole, tt)

-- ---- branches

pub next_branch_takes : (s : List BranchPart × List VersionPlace) (b : List ℕ) (x : (List BranchPart × List VersionPlace) × List ℕ) → IsBytes b → next_branch s b ≡ Ok x
    → (a : BranchPart) × (x.0.0 ≡ s.0 ++ a ∷ []) × Takes b (branch_bytes a) x.1 × (length a.name ≤ 32)
unfolding next_branch
next_branch_takes s b x fits e =
    let name = bind_ok (name_at b) (λ name. test (has_turn s.0 name.0) b >>= λ u. number_at w32 name.1 >>= λ o. test (is_earlier s.0 o.0) name.1 >>= λ v. number_at w32 o.1 >>= λ p. test (is_position s.0 p.0) o.1 >>= λ w. Ok ((s.0 ++ record { name = name.0; origin = record { branch = o.0; position = p.0 } } ∷ [], s.1 ++ base_of s.1 (record { branch = o.0; position = p.0 }) ∷ []), p.1)) x e in
    let u = bind_ok (test (has_turn s.0 name.0.0) b) (λ u. number_at w32 name.0.1 >>= λ o. test (is_earlier s.0 o.0) name.0.1 >>= λ v. number_at w32 o.1 >>= λ p. test (is_position s.0 p.0) o.1 >>= λ w. Ok ((s.0 ++ record { name = name.0.0; origin = record { branch = o.0; position = p.0 } } ∷ [], s.1 ++ base_of s.1 (record { branch = o.0; position = p.0 }) ∷ []), p.1)) x name.2 in
    let o = bind_ok (number_at w32 name.0.1) (λ o. test (is_earlier s.0 o.0) name.0.1 >>= λ v. number_at w32 o.1 >>= λ p. test (is_position s.0 p.0) o.1 >>= λ w. Ok ((s.0 ++ record { name = name.0.0; origin = record { branch = o.0; position = p.0 } } ∷ [], s.1 ++ base_of s.1 (record { branch = o.0; position = p.0 }) ∷ []), p.1)) x u.2 in
    let v = bind_ok (test (is_earlier s.0 o.0.0) name.0.1) (λ v. number_at w32 o.0.1 >>= λ p. test (is_position s.0 p.0) o.0.1 >>= λ w. Ok ((s.0 ++ record { name = name.0.0; origin = record { branch = o.0.0; position = p.0 } } ∷ [], s.1 ++ base_of s.1 (record { branch = o.0.0; position = p.0 }) ∷ []), p.1)) x o.2 in
    let p = bind_ok (number_at w32 o.0.1) (λ p. test (is_position s.0 p.0) o.0.1 >>= λ w. Ok ((s.0 ++ record { name = name.0.0; origin = record { branch = o.0.0; position = p.0 } } ∷ [], s.1 ++ base_of s.1 (record { branch = o.0.0; position = p.0 }) ∷ []), p.1)) x v.2 in
    let w = bind_ok (test (is_position s.0 p.0.0) o.0.1) (λ w. Ok ((s.0 ++ record { name = name.0.0; origin = record { branch = o.0.0; position = p.0.0 } } ∷ [], s.1 ++ base_of s.1 (record { branch = o.0.0; position = p.0.0 }) ∷ []), p.0.1)) x p.2 in
    let named = name_takes b name.0 fits name.1 in
    let t0 = named.0 in
    let t1 = (number_takes w32 (2 ^ 32) wide32 name.0.1 o.0 t0.rest_fits o.1).0 in
    let t2 = (number_takes w32 (2 ^ 32) wide32 o.0.1 p.0 t1.rest_fits p.1).0 in
    let e12 = Takes-then name.0.1 (to_le_bytes w32 o.0.0) o.0.1 (to_le_bytes w32 p.0.0) p.0.1 t1 t2 in
    let whole = Takes-then b (name_bytes name.0.0) name.0.1 (to_le_bytes w32 o.0.0 ++ to_le_bytes w32 p.0.0) p.0.1 t0 e12 in
    let made : (List BranchPart × List VersionPlace) × List ℕ = ((s.0 ++ record { name = name.0.0; origin = record { branch = o.0.0; position = p.0.0 } } ∷ [], s.1 ++ base_of s.1 (record { branch = o.0.0; position = p.0.0 }) ∷ []), p.0.1) in
    subst (λ (y : (List BranchPart × List VersionPlace) × List ℕ). (a : BranchPart) × (y.0.0 ≡ s.0 ++ a ∷ []) × Takes b (branch_bytes a) y.1 × (length a.name ≤ 32)) (ok_is made x w.2)
    (record { name = name.0.0; origin = record { branch = o.0.0; position = p.0.0 } }, refl, whole, named.1)

-- ---- rows

row_text : (s : List RowPart) (b n1 f1 d1 r : List ℕ) (n f k : ℕ) (d ds : List Delta) → Takes b (to_le_bytes w32 n) n1 → Takes n1 (to_le_bytes w32 f) f1 → TakesOne FitsDelta delta_bytes [] f1 (d, d1) → TakesAll FitsDelta delta_bytes k d d1 (ds, r)
    → TakesOne FitsRow row_bytes s b (s ++ record { branch = n; from = f; deltas = ds } ∷ [], r)
row_text s b n1 f1 d1 r n f k d ds t0 t1 t2 t3 =
    let e23 = Takes-then f1 (delta_bytes t2.0) d1 (flat_map delta_bytes t3.0) r t2.2 t3.3 in
    let all : Takes f1 (flat_map delta_bytes (t2.0 ∷ t3.0)) r = one_more_text delta_bytes t2.0 t3.0 f1 r e23 in
    let both : ds ≡ t2.0 ∷ t3.0 = t3.1 ∙ ap (λ (l : List Delta). l ++ t3.0) t2.1 in
    let as_read : Takes f1 (flat_map delta_bytes ds) r = subst (λ (l : List Delta). Takes f1 (flat_map delta_bytes l) r) (sym both) all in
    let e13 = Takes-then n1 (to_le_bytes w32 f) f1 (flat_map delta_bytes ds) r t1 as_read in
    let whole = Takes-then b (to_le_bytes w32 n) n1 (to_le_bytes w32 f ++ flat_map delta_bytes ds) r t0 e13 in
    (record { branch = n; from = f; deltas = ds }, refl, whole, subst (λ (l : List Delta). All FitsDelta l) (sym both) (All-cons FitsDelta t2.0 t3.0 t2.3 t3.4))

pub next_row_takes : (lasts : List ℕ) (size : ℕ) (s : List RowPart) (b : List ℕ) (x : List RowPart × List ℕ) → IsBytes b → next_row lasts size s b ≡ Ok x → TakesOne FitsRow row_bytes s b x
unfolding next_row
next_row_takes lasts size s b x fits e =
    let n = bind_ok (number_at w32 b) (λ n. test (nat_lt n.0 (length lasts) && rises s n.0) b >>= λ u. number_at w32 n.1 >>= λ f. test (nat_le f.0 (last_of lasts n.0)) n.1 >>= λ v. next_delta size [] f.1 >>= λ d. test (f.0 == 0 || are_blank d.0) b >>= λ w. repeat (next_delta size) (last_of lasts n.0 - f.0) d.0 d.1 >>= λ ds. Ok (s ++ record { branch = n.0; from = f.0; deltas = ds.0 } ∷ [], ds.1)) x e in
    let u = bind_ok (test (nat_lt n.0.0 (length lasts) && rises s n.0.0) b) (λ u. number_at w32 n.0.1 >>= λ f. test (nat_le f.0 (last_of lasts n.0.0)) n.0.1 >>= λ v. next_delta size [] f.1 >>= λ d. test (f.0 == 0 || are_blank d.0) b >>= λ w. repeat (next_delta size) (last_of lasts n.0.0 - f.0) d.0 d.1 >>= λ ds. Ok (s ++ record { branch = n.0.0; from = f.0; deltas = ds.0 } ∷ [], ds.1)) x n.2 in
    let f = bind_ok (number_at w32 n.0.1) (λ f. test (nat_le f.0 (last_of lasts n.0.0)) n.0.1 >>= λ v. next_delta size [] f.1 >>= λ d. test (f.0 == 0 || are_blank d.0) b >>= λ w. repeat (next_delta size) (last_of lasts n.0.0 - f.0) d.0 d.1 >>= λ ds. Ok (s ++ record { branch = n.0.0; from = f.0; deltas = ds.0 } ∷ [], ds.1)) x u.2 in
    let v = bind_ok (test (nat_le f.0.0 (last_of lasts n.0.0)) n.0.1) (λ v. next_delta size [] f.0.1 >>= λ d. test (f.0.0 == 0 || are_blank d.0) b >>= λ w. repeat (next_delta size) (last_of lasts n.0.0 - f.0.0) d.0 d.1 >>= λ ds. Ok (s ++ record { branch = n.0.0; from = f.0.0; deltas = ds.0 } ∷ [], ds.1)) x f.2 in
    let d = bind_ok (next_delta size [] f.0.1) (λ d. test (f.0.0 == 0 || are_blank d.0) b >>= λ w. repeat (next_delta size) (last_of lasts n.0.0 - f.0.0) d.0 d.1 >>= λ ds. Ok (s ++ record { branch = n.0.0; from = f.0.0; deltas = ds.0 } ∷ [], ds.1)) x v.2 in
    let w = bind_ok (test (f.0.0 == 0 || are_blank d.0.0) b) (λ w. repeat (next_delta size) (last_of lasts n.0.0 - f.0.0) d.0.0 d.0.1 >>= λ ds. Ok (s ++ record { branch = n.0.0; from = f.0.0; deltas = ds.0 } ∷ [], ds.1)) x d.2 in
    let ds = bind_ok (repeat (next_delta size) (last_of lasts n.0.0 - f.0.0) d.0.0 d.0.1) (λ ds. Ok (s ++ record { branch = n.0.0; from = f.0.0; deltas = ds.0 } ∷ [], ds.1)) x w.2 in
    let t0 = (number_takes w32 (2 ^ 32) wide32 b n.0 fits n.1).0 in
    let t1 = (number_takes w32 (2 ^ 32) wide32 n.0.1 f.0 t0.rest_fits f.1).0 in
    let t2 = next_delta_takes size [] f.0.1 d.0 t1.rest_fits d.1 in
    let t3 = repeat_takes FitsDelta delta_bytes (next_delta size) (next_delta_takes size) (last_of lasts n.0.0 - f.0.0) d.0.0 d.0.1 ds.0 t2.2.rest_fits ds.1 in
    subst (λ (y : List RowPart × List ℕ). TakesOne FitsRow row_bytes s b y) (ok_is (s ++ record { branch = n.0.0; from = f.0.0; deltas = ds.0.0 } ∷ [], ds.0.1) x ds.2)
    (row_text s b n.0.1 f.0.1 d.0.1 ds.0.1 n.0.0 f.0.0 (last_of lasts n.0.0 - f.0.0) d.0.0 ds.0.0 t0 t1 t2 t3)
