-- The relations that are read are one to 8, each with one to 15 columns of widths.
use Rattle.std.proofs.Common.{◌≡◌, ℕ, zero, suc, ◌+◌, ◌<◌, ◌≤◌, Bool, true, false, ◌&&◌, not, List, [], ◌∷◌, ◌++◌, length, get_or, Ok, refl, sym, ap, subst, ◌∙◌, arith}
use Rattle.std.specs.Prelude.{nat_lt, nat_le}
use Rattle.std.specs.List.{list_all}
use Rattle.std.proofs.lemmas.List.{length-append}
use Rattle.db_value.specs.Schema.{is_declared}
use Rattle.db_value.specs.Width.{is_width}
use Rattle.db_value.specs.Relations.{has_columns, is_counted}
use Rattle.db_value.specs.declared.schema.Column.{Column}
use Rattle.db_value.specs.declared.schema.Relation.{Relation}
use Rattle.image_text.specs.declared.image.Format.{Format}
use Rattle.image_text.specs.declared.image.Format.TheVariants.{One, Two}
use Rattle.image_text.specs.Reading.{◌>>=◌, Read, test, repeat, byte_at, name_at, width_at, has_column, next_column, next_relation, relations_at}
use Rattle.image_text.proofs.Loop.{bind_ok, ok_is}

-- items that each add one add as many as they are
pub adds : {A : Type 0} (item : List A → List ℕ → Read (List A)) (one : (s : List A) (b : List ℕ) (x : List A × List ℕ) → item s b ≡ Ok x → length x.0 ≡ length s + 1)
    (k : ℕ) (s : List A) (b : List ℕ) (x : List A × List ℕ) → repeat item k s b ≡ Ok x → length x.0 ≡ length s + k
unfolding repeat
adds item one zero s b x e = let h = ok_is (s, b) x e in omega (arith, ap (λ p. length p.0) h)
adds item one (suc k) s b x e =
    let a = bind_ok (item s b) (λ y. repeat item k y.0 y.1) x e in
    omega (arith, one s b a.0 a.1, adds item one k a.0.0 a.0.1 x a.2)

-- a test that held
pub tested : (b : Bool) (bytes : List ℕ) (u : Unit {0}) → test b bytes ≡ Ok u → b ≡ true
tested true bytes u e = refl
tested false bytes u e = absurd cc

pub both_true : (a b : Bool) → (a && b) ≡ true → (a ≡ true) × (b ≡ true)
both_true true b e = (refl, e)
both_true false b e = absurd cc

-- a width that is read is one
pub width_known : (format : Format) (b : List ℕ) (x : ℕ × List ℕ) → width_at format b ≡ Ok x → is_width x.0 ≡ true
unfolding width_at
width_known One b x e = ap is_width (sym (ap (λ p. p.0) (ok_is (0, b) x e)))
width_known Two b x e =
    let w = bind_ok (byte_at b) (λ w. test (is_width w.0) b >>= λ u. Ok (w.0, w.1)) x e in
    let u = bind_ok (test (is_width w.0.0) b) (λ u. Ok (w.0.0, w.0.1)) x w.2 in
    ap is_width (sym (ap (λ p. p.0) (ok_is (w.0.0, w.0.1) x u.2))) ∙ tested _ b u.0 u.1

-- one column more, of a width
pub one_column : (format : Format) (s : List Column) (b : List ℕ) (x : List Column × List ℕ) → next_column format s b ≡ Ok x → (c : Column) × (x.0 ≡ s ++ c ∷ []) × (is_width c.width ≡ true)
unfolding next_column
one_column format s b x e =
    let n = bind_ok (name_at b) (λ n. test (not (has_column s n.0)) b >>= λ u. width_at format n.1 >>= λ w. Ok (s ++ record { name = n.0; width = w.0 } ∷ [], w.1)) x e in
    let u = bind_ok (test (not (has_column s n.0.0)) b) (λ u. width_at format n.0.1 >>= λ w. Ok (s ++ record { name = n.0.0; width = w.0 } ∷ [], w.1)) x n.2 in
    let w = bind_ok (width_at format n.0.1) (λ w. Ok (s ++ record { name = n.0.0; width = w.0 } ∷ [], w.1)) x u.2 in
    let h = ok_is (s ++ record { name = n.0.0; width = w.0.0 } ∷ [], w.0.1) x w.2 in
    (record { name = n.0.0; width = w.0.0 }, sym (ap (λ p. p.0) h), width_known format n.0.1 w.0 w.1)

adds_column : (format : Format) (s : List Column) (b : List ℕ) (x : List Column × List ℕ) → next_column format s b ≡ Ok x → length x.0 ≡ length s + 1
adds_column format s b x e = let o = one_column format s b x e in ap length o.1 ∙ length-append s (o.0 ∷ [])

wide_more : (s : List Column) (c : Column) → list_all (λ d. is_width d.width) s ≡ true → is_width c.width ≡ true → list_all (λ d. is_width d.width) (s ++ c ∷ []) ≡ true
wide_more [] c a e = rw e refl
wide_more (d ∷ s) c a e = let p = both_true (is_width d.width) (list_all (λ d. is_width d.width) s) a in rw (p.0, wide_more s c p.1 e) refl

-- all columns have widths
pub columns_wide : (format : Format) (k : ℕ) (s : List Column) (b : List ℕ) (x : List Column × List ℕ) → list_all (λ c. is_width c.width) s ≡ true → repeat (next_column format) k s b ≡ Ok x → list_all (λ c. is_width c.width) x.0 ≡ true
unfolding repeat
columns_wide format zero s b x all e = subst (λ (p : List Column × List ℕ). list_all (λ c. is_width c.width) p.0 ≡ true) (ok_is (s, b) x e) all
columns_wide format (suc k) s b x all e =
    let a = bind_ok (next_column format s b) (λ y. repeat (next_column format) k y.0 y.1) x e in
    let o = one_column format s b a.0 a.1 in
    columns_wide format k a.0.0 a.0.1 x (subst (λ (cs : List Column). list_all (λ c. is_width c.width) cs ≡ true) (sym o.1) (wide_more s o.0 all o.2)) a.2

-- columns of these widths, as many as were counted, are a relation's
pub columns_are : (name : List ℕ) (columns : List Column) (n : ℕ) → length columns ≡ n → nat_lt 0 n ≡ true → nat_le n 15 ≡ true → list_all (λ c. is_width c.width) columns ≡ true → has_columns (record { name = name; columns = columns }) ≡ true
columns_are name columns n count some few wide = rw (count, some, few, wide) refl

-- one relation more, of one to 15 columns
pub one_relation : (format : Format) (s : List Relation) (b : List ℕ) (x : List Relation × List ℕ) → next_relation format s b ≡ Ok x → (r : Relation) × (x.0 ≡ s ++ r ∷ []) × (has_columns r ≡ true)
unfolding next_relation
one_relation format s b x e =
    let m = bind_ok (name_at b) (λ name. test (not (is_declared s name.0)) b >>= λ u. byte_at name.1 >>= λ n. test (nat_lt 0 n.0 && nat_le n.0 15) name.1 >>= λ v. repeat (next_column format) n.0 [] n.1 >>= λ columns. Ok (s ++ record { name = name.0; columns = columns.0 } ∷ [], columns.1)) x e in
    let f = bind_ok (test (not (is_declared s m.0.0)) b) (λ u. byte_at m.0.1 >>= λ n. test (nat_lt 0 n.0 && nat_le n.0 15) m.0.1 >>= λ v. repeat (next_column format) n.0 [] n.1 >>= λ columns. Ok (s ++ record { name = m.0.0; columns = columns.0 } ∷ [], columns.1)) x m.2 in
    let n = bind_ok (byte_at m.0.1) (λ n. test (nat_lt 0 n.0 && nat_le n.0 15) m.0.1 >>= λ v. repeat (next_column format) n.0 [] n.1 >>= λ columns. Ok (s ++ record { name = m.0.0; columns = columns.0 } ∷ [], columns.1)) x f.2 in
    let g = bind_ok (test (nat_lt 0 n.0.0 && nat_le n.0.0 15) m.0.1) (λ v. repeat (next_column format) n.0.0 [] n.0.1 >>= λ columns. Ok (s ++ record { name = m.0.0; columns = columns.0 } ∷ [], columns.1)) x n.2 in
    let c = bind_ok (repeat (next_column format) n.0.0 [] n.0.1) (λ columns. Ok (s ++ record { name = m.0.0; columns = columns.0 } ∷ [], columns.1)) x g.2 in
    let h = ok_is (s ++ record { name = m.0.0; columns = c.0.0 } ∷ [], c.0.1) x c.2 in
    let count : length c.0.0 ≡ n.0.0 = omega (arith, adds (next_column format) (adds_column format) n.0.0 [] n.0.1 c.0 c.1) in
    let fits : (nat_lt 0 n.0.0 && nat_le n.0.0 15) ≡ true = tested _ m.0.1 g.0 g.1 in
    let parts = both_true (nat_lt 0 n.0.0) (nat_le n.0.0 15) fits in
    let wide : list_all (λ c. is_width c.width) c.0.0 ≡ true = columns_wide format n.0.0 [] n.0.1 c.0 refl c.1 in
    (record { name = m.0.0; columns = c.0.0 }, sym (ap (λ p. p.0) h), columns_are m.0.0 c.0.0 n.0.0 count parts.0 parts.1 wide)

all_more : (s : List Relation) (r : Relation) → list_all has_columns s ≡ true → has_columns r ≡ true → list_all has_columns (s ++ r ∷ []) ≡ true
all_more [] r a e = rw e refl
all_more (x ∷ s) r a e = let p = both_true (has_columns x) (list_all has_columns s) a in rw (p.0, all_more s r p.1 e) refl

pub all_columns : (format : Format) (k : ℕ) (s : List Relation) (b : List ℕ) (x : List Relation × List ℕ) → list_all has_columns s ≡ true → repeat (next_relation format) k s b ≡ Ok x → list_all has_columns x.0 ≡ true
unfolding repeat
all_columns format zero s b x all e = subst (λ (p : List Relation × List ℕ). list_all has_columns p.0 ≡ true) (ok_is (s, b) x e) all
all_columns format (suc k) s b x all e =
    let a = bind_ok (next_relation format s b) (λ y. repeat (next_relation format) k y.0 y.1) x e in
    let o = one_relation format s b a.0 a.1 in
    all_columns format k a.0.0 a.0.1 x (subst (λ (rs : List Relation). list_all has_columns rs ≡ true) (sym o.1) (all_more s o.0 all o.2)) a.2

pub adds_relation : (format : Format) (s : List Relation) (b : List ℕ) (x : List Relation × List ℕ) → next_relation format s b ≡ Ok x → length x.0 ≡ length s + 1
adds_relation format s b x e = let o = one_relation format s b x e in ap length o.1 ∙ length-append s (o.0 ∷ [])

pub relations_counted : (format : Format) (b : List ℕ) (rs : List Relation) (rest : List ℕ) → relations_at format b ≡ Ok (rs, rest) → is_counted rs ≡ true
unfolding relations_at
relations_counted format b rs rest e =
    let n = bind_ok (byte_at b) (λ n. test (nat_lt 0 n.0 && nat_le n.0 8) b >>= λ u. repeat (next_relation format) n.0 [] n.1) (rs, rest) e in
    let g = bind_ok (test (nat_lt 0 n.0.0 && nat_le n.0.0 8) b) (λ u. repeat (next_relation format) n.0.0 [] n.0.1) (rs, rest) n.2 in
    let fits : (nat_lt 0 n.0.0 && nat_le n.0.0 8) ≡ true = tested _ b g.0 g.1 in
    let count : length rs ≡ n.0.0 = omega (arith, adds (next_relation format) (adds_relation format) n.0.0 [] n.0.1 (rs, rest) g.2) in
    let p = both_true (nat_lt 0 n.0.0) (nat_le n.0.0 8) fits in
    rw (count, p.0, p.1, all_columns format n.0.0 [] n.0.1 (rs, rest) refl g.2) refl
