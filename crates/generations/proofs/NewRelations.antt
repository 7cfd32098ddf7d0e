-- The relations of a new dataset's image are read as they are.
use Rattle.std.proofs.Common.{◌≡◌, ℕ, suc, ◌+◌, ◌-◌, ◌≤◌, ◌&&◌, ◌||◌, not, nat_lt, nat_le, cond, Bool, true, false, List, [], ◌∷◌, ◌++◌, length, map, take, drop, Result, Ok, Err, refl, sym, ◌∙◌, ap, arith, append_assoc, length-append}
use Rattle.std.proofs.lemmas.Bool.{and_from, and_parts, or_parts}
use Rattle.std.proofs.lemmas.List.{take_at, drop_at, append-nil}
use Rattle.std.specs.List.{list_any, list_all}
use Rattle.std.specs.Int.{w32}
use Rattle.db_value.specs.Text.{same, is_name}
use Rattle.db_value.specs.Relations.{has_columns}
use Rattle.db_value.specs.Schema.{is_declared}
use Rattle.db_value.specs.Width.{is_width}
use Rattle.db_value.specs.declared.schema.Column.{Column}
use Rattle.db_value.specs.declared.schema.Relation.{Relation}
use Rattle.image_text.specs.declared.image.Format.TheVariants.{Two}
use Rattle.image_text.specs.Reading.{◌>>=◌, Read, test, enough, repeat, byte_at, number_at, name_at, width_at, has_column, next_column, next_relation, relations_at}
use Rattle.new_image.specs.Image.{name_bytes, column_bytes, columns_bytes, relation_bytes, relations_bytes, are_distinct, are_apart, names_of}
use Rattle.new_image.specs.Schemas.{AreNames, AreNamed, IsSchema}

-- ---- one step

pub step : {A B : Type 0} (r : Result A ℕ) (x : A) (f : A → Result B ℕ) → r ≡ Ok x → (r >>= f) ≡ f x
step r x f is = ap (λ (q : Result _ ℕ). q >>= f) is

pub then_test : {B : Type 0} (q : Bool) (bytes : List ℕ) (f : Unit {0} → Result B ℕ) → q ≡ true → (test q bytes >>= f) ≡ f tt
then_test true bytes f is = refl
then_test false bytes f is = absurd (cc is)

long_enough : {A : Type 0} (n : ℕ) (b : List ℕ) (x : A) → n ≤ length b → cond {A = Result A ℕ} (nat_lt (length b) n) (Err 0) (Ok x) ≡ Ok x
long_enough n b x le = by (nat_lt (length b) n) (below le)
  where
    below : n ≤ length b → nat_lt (length b) n ≡ false
    below h = search (arith, h)

    by : (q : Bool) → q ≡ false → cond {A = Result _ ℕ} q (Err 0) (Ok x) ≡ Ok x
    by true is = absurd (cc is)
    by false is = refl

-- ---- numbers

pub zero_there : (rest : List ℕ) → number_at w32 (0 ∷ 0 ∷ 0 ∷ 0 ∷ rest) ≡ Ok (0, rest)
zero_there rest = long_enough 4 (0 ∷ 0 ∷ 0 ∷ 0 ∷ rest) (0, rest) (omega arith)

pub one_there : (rest : List ℕ) → number_at w32 (1 ∷ 0 ∷ 0 ∷ 0 ∷ rest) ≡ Ok (1, rest)
one_there rest = long_enough 4 (1 ∷ 0 ∷ 0 ∷ 0 ∷ rest) (1, rest) (omega arith)

-- ---- names

first_parts : (a b c d : Bool) → (a && b && c && d) ≡ true → (a ≡ true) × (b ≡ true)
first_parts true true c d is = (refl, refl)
first_parts true false c d is = absurd (cc is)
first_parts false b c d is = absurd (cc is)

name_size : (name : List ℕ) → is_name name ≡ true → (nat_lt 0 (length name) && nat_le (length name) 32) ≡ true
unfolding is_name
name_size [] is = absurd (cc is)
name_size (x ∷ xs) is = and_from (nat_lt 0 (suc (length xs))) (nat_le (suc (length xs)) 32) (search arith) (first_parts _ _ _ _ is).0

pub name_there : (name rest : List ℕ) → is_name name ≡ true → name_at (name_bytes name ++ rest) ≡ Ok (name, rest)
unfolding name_at
name_there name rest is =
    let n = length name in
    let b = name ++ rest in
    let front : take n b ≡ name = take_at name rest n refl in
    then_test (nat_lt 0 n && nat_le n 32) (n ∷ b) (λ u. enough n b >>= λ v. test (is_name (take n b)) (n ∷ b) >>= λ w. Ok (take n b, drop n b)) (name_size name is)
    ∙ step (enough n b) tt (λ v. test (is_name (take n b)) (n ∷ b) >>= λ w. Ok (take n b, drop n b)) (long_enough n b tt (omega (arith, length-append name rest)))
    ∙ then_test (is_name (take n b)) (n ∷ b) (λ w. Ok (take n b, drop n b)) (ap is_name front ∙ is)
    ∙ ap (λ (l : List ℕ). Ok (l, drop n b)) front ∙ ap (λ (l : List ℕ). Ok (name, l)) (drop_at name rest n refl)

-- ---- columns

abbrev names_in : List Column → List (List ℕ)
names_in cs = map (λ (c : Column). c.name) cs

-- none of the columns has the name of one seen, nor of one before it
abbrev AreFresh : List Column → List Column → Type 0
AreFresh seen [] = Unit {0}
AreFresh seen (c ∷ cs) = (has_column seen c.name ≡ false) × AreFresh (seen ++ c ∷ []) cs

not_true : (q : Bool) → not q ≡ true → q ≡ false
not_true true is = absurd (cc is)
not_true false is = refl

neither : (x y : Bool) → x ≡ false → y ≡ false → (x || y) ≡ false
neither true y a b = absurd (cc a)
neither false y a b = b

any_more : {T : Type 0} (p : T → Bool) (xs : List T) (x : T) → list_any p xs ≡ false → p x ≡ false → list_any p (xs ++ x ∷ []) ≡ false
any_more p [] x none fails = neither (p x) false fails refl
any_more p (y ∷ xs) x none fails = let parts = or_parts (p y) (list_any p xs) none in neither (p y) (list_any p (xs ++ x ∷ [])) parts.0 (any_more p xs x parts.1 fails)

-- none has the name of one seen
abbrev AreOthers : List Column → List Column → Type 0
AreOthers seen [] = Unit {0}
AreOthers seen (c ∷ cs) = (has_column seen c.name ≡ false) × AreOthers seen cs

others_none : (cs : List Column) → AreOthers [] cs
others_none [] = tt
others_none (c ∷ cs) = (refl, others_none cs)

others_more : (seen cs : List Column) (x : Column) → AreOthers seen cs → list_any (same x.name) (names_in cs) ≡ false → AreOthers (seen ++ x ∷ []) cs
others_more seen [] x are none = tt
others_more seen (c ∷ cs) x are none =
    let parts = or_parts (same x.name c.name) (list_any (same x.name) (names_in cs)) none in
    (any_more (λ (s : Column). same s.name c.name) seen x are.0 parts.0, others_more seen cs x are.1 parts.1)

fresh_columns : (seen cs : List Column) → AreOthers seen cs → are_distinct (names_in cs) ≡ true → AreFresh seen cs
fresh_columns seen [] are distinct = tt
fresh_columns seen (c ∷ cs) are distinct =
    let parts = and_parts (not (list_any (same c.name) (names_in cs))) (are_distinct (names_in cs)) distinct in
    (are.0, fresh_columns (seen ++ c ∷ []) cs (others_more seen cs c are.1 (not_true (list_any (same c.name) (names_in cs)) parts.0)) parts.1)

width_there : (w : ℕ) (rest : List ℕ) → is_width w ≡ true → width_at Two (w ∷ rest) ≡ Ok (w, rest)
unfolding width_at
width_there w rest is = then_test (is_width w) (w ∷ rest) (λ u. Ok (w, rest)) is

column_there : (seen : List Column) (c : Column) (rest : List ℕ) → is_name c.name ≡ true → is_width c.width ≡ true → has_column seen c.name ≡ false → next_column Two seen (column_bytes c ++ rest) ≡ Ok (seen ++ c ∷ [], rest)
unfolding next_column
column_there seen c rest named wide fresh =
    let b1 = c.width ∷ rest in
    let b = name_bytes c.name ++ b1 in
    ap (λ (l : List ℕ). next_column Two seen l) (append_assoc (name_bytes c.name) (c.width ∷ []) rest)
    ∙ step (name_at b) (c.name, b1) (λ n. test (not (has_column seen n.0)) b >>= λ u. width_at Two n.1 >>= λ w. Ok (seen ++ record { name = n.0; width = w.0 } ∷ [], w.1)) (name_there c.name b1 named)
    ∙ then_test (not (has_column seen c.name)) b (λ u. width_at Two b1 >>= λ w. Ok (seen ++ record { name = c.name; width = w.0 } ∷ [], w.1)) (ap not fresh)
    ∙ step (width_at Two b1) (c.width, rest) (λ w. Ok (seen ++ record { name = c.name; width = w.0 } ∷ [], w.1)) (width_there c.width rest wide)

columns_there : (seen cs : List Column) (rest : List ℕ) → AreNames (names_in cs) → list_all (λ (c : Column). is_width c.width) cs ≡ true → AreFresh seen cs → repeat (next_column Two) (length cs) seen (columns_bytes cs ++ rest) ≡ Ok (seen ++ cs, rest)
unfolding repeat
columns_there seen [] rest are wide fresh = ap (λ (l : List Column). Ok (l, rest)) (sym (append-nil seen))
columns_there seen (c ∷ cs) rest are wide fresh =
    let parts = and_parts (is_width c.width) (list_all (λ (x : Column). is_width x.width) cs) wide in
    let more = columns_bytes cs ++ rest in
    let go : (List Column × List ℕ) → Read (List Column) = λ (x : List Column × List ℕ). repeat (next_column Two) (length cs) x.0 x.1 in
    ap (λ (l : List ℕ). repeat (next_column Two) (suc (length cs)) seen l) (append_assoc (column_bytes c) (columns_bytes cs) rest)
    ∙ step (next_column Two seen (column_bytes c ++ more)) (seen ++ c ∷ [], more) go (column_there seen c more are.0 parts.0 fresh.0)
    ∙ columns_there (seen ++ c ∷ []) cs rest are.1 parts.1 fresh.1
    ∙ ap (λ (l : List Column). Ok (l, rest)) (append_assoc seen (c ∷ []) cs)

-- ---- relations

abbrev pub AreFreshRelations : List Relation → List Relation → Type 0
AreFreshRelations seen [] = Unit {0}
AreFreshRelations seen (r ∷ rs) = (is_declared seen r.name ≡ false) × AreFreshRelations (seen ++ r ∷ []) rs

abbrev AreOtherRelations : List Relation → List Relation → Type 0
AreOtherRelations seen [] = Unit {0}
AreOtherRelations seen (r ∷ rs) = (is_declared seen r.name ≡ false) × AreOtherRelations seen rs

others_none_relations : (rs : List Relation) → AreOtherRelations [] rs
others_none_relations [] = tt
others_none_relations (r ∷ rs) = (refl, others_none_relations rs)

others_more_relations : (seen rs : List Relation) (x : Relation) → AreOtherRelations seen rs → list_any (λ (s : Relation). same x.name s.name) rs ≡ false → AreOtherRelations (seen ++ x ∷ []) rs
others_more_relations seen [] x are none = tt
others_more_relations seen (r ∷ rs) x are none =
    let parts = or_parts (same x.name r.name) (list_any (λ (s : Relation). same x.name s.name) rs) none in
    (any_more (λ (s : Relation). same s.name r.name) seen x are.0 parts.0, others_more_relations seen rs x are.1 parts.1)

fresh_relations : (seen rs : List Relation) → AreOtherRelations seen rs → are_apart rs ≡ true → AreFreshRelations seen rs
fresh_relations seen [] are apart = tt
fresh_relations seen (r ∷ rs) are apart =
    let parts = and_parts (not (list_any (λ (s : Relation). same r.name s.name) rs)) (are_apart rs) apart in
    (are.0, fresh_relations (seen ++ r ∷ []) rs (others_more_relations seen rs r are.1 (not_true (list_any (λ (s : Relation). same r.name s.name) rs) parts.0)) parts.1)

-- one to 15, each with a width
some_and_few : (r : Relation) → has_columns r ≡ true → ((nat_lt 0 (length r.columns) && nat_le (length r.columns) 15) ≡ true) × (list_all (λ (c : Column). is_width c.width) r.columns ≡ true)
some_and_few r is =
    let k = length r.columns in
    let widths = list_all (λ (c : Column). is_width c.width) r.columns in
    let some = and_parts (nat_lt 0 k) (nat_le k 15 && widths) is in
    let few = and_parts (nat_le k 15) widths some.1 in
    (and_from (nat_lt 0 k) (nat_le k 15) some.0 few.0, few.1)

relation_there : (seen : List Relation) (r : Relation) (rest : List ℕ) → is_name r.name ≡ true → AreNames (names_of r) → is_declared seen r.name ≡ false → has_columns r ≡ true → are_distinct (names_of r) ≡ true
    → next_relation Two seen (relation_bytes r ++ rest) ≡ Ok (seen ++ r ∷ [], rest)
unfolding next_relation
relation_there seen r rest named are fresh counted distinct =
    let count = some_and_few r counted in
    let k = length r.columns in
    let b2 = columns_bytes r.columns ++ rest in
    let b1 = k ∷ b2 in
    let b = name_bytes r.name ++ b1 in
    let made : List Column × List ℕ → Read (List Relation) = λ (columns : List Column × List ℕ). Ok (seen ++ record { name = r.name; columns = columns.0 } ∷ [], columns.1) in
    ap (λ (l : List ℕ). next_relation Two seen l) (append_assoc (name_bytes r.name) (k ∷ columns_bytes r.columns) rest)
    ∙ step (name_at b) (r.name, b1) (λ name. test (not (is_declared seen name.0)) b >>= λ u. byte_at name.1 >>= λ n. test (nat_lt 0 n.0 && nat_le n.0 15) name.1 >>= λ v. repeat (next_column Two) n.0 [] n.1 >>= λ columns. Ok (seen ++ record { name = name.0; columns = columns.0 } ∷ [], columns.1)) (name_there r.name b1 named)
    ∙ then_test (not (is_declared seen r.name)) b (λ u. byte_at b1 >>= λ n. test (nat_lt 0 n.0 && nat_le n.0 15) b1 >>= λ v. repeat (next_column Two) n.0 [] n.1 >>= made) (ap not fresh)
    ∙ then_test (nat_lt 0 k && nat_le k 15) b1 (λ v. repeat (next_column Two) k [] b2 >>= made) count.0
    ∙ step (repeat (next_column Two) k [] b2) (r.columns, rest) made (columns_there [] r.columns rest are count.1 (fresh_columns [] r.columns (others_none r.columns) distinct))

abbrev pub AreGood : List Relation → Type 0
AreGood [] = Unit {0}
AreGood (r ∷ rs) = (has_columns r ≡ true) × (are_distinct (names_of r) ≡ true) × AreGood rs

relations_there : (seen rs : List Relation) (rest : List ℕ) → AreNamed rs → AreGood rs → AreFreshRelations seen rs → repeat (next_relation Two) (length rs) seen (relations_bytes rs ++ rest) ≡ Ok (seen ++ rs, rest)
unfolding repeat
relations_there seen [] rest named good fresh = ap (λ (l : List Relation). Ok (l, rest)) (sym (append-nil seen))
relations_there seen (r ∷ rs) rest named good fresh =
    let more = relations_bytes rs ++ rest in
    let go : (List Relation × List ℕ) → Read (List Relation) = λ (x : List Relation × List ℕ). repeat (next_relation Two) (length rs) x.0 x.1 in
    ap (λ (l : List ℕ). repeat (next_relation Two) (suc (length rs)) seen l) (append_assoc (relation_bytes r) (relations_bytes rs) rest)
    ∙ step (next_relation Two seen (relation_bytes r ++ more)) (seen ++ r ∷ [], more) go (relation_there seen r more named.0 named.1 fresh.0 good.0 good.1)
    ∙ relations_there (seen ++ r ∷ []) rs rest named.2 good.2 fresh.1
    ∙ ap (λ (l : List Relation). Ok (l, rest)) (append_assoc seen (r ∷ []) rs)

all_good : (rs : List Relation) → list_all has_columns rs ≡ true → list_all (λ (r : Relation). are_distinct (names_of r)) rs ≡ true → AreGood rs
all_good [] counted distinct = tt
all_good (r ∷ rs) counted distinct =
    let a = and_parts (has_columns r) (list_all has_columns rs) counted in
    let b = and_parts (are_distinct (names_of r)) (list_all (λ (x : Relation). are_distinct (names_of x)) rs) distinct in
    (a.0, b.0, all_good rs a.1 b.1)

pub record IsGoodSchema (rs : List Relation) : Type 0 where
  pub counted : (nat_lt 0 (length rs) && nat_le (length rs) 8) ≡ true
  pub good : AreGood rs
  pub fresh : AreFreshRelations [] rs
  pub named : AreNamed rs

three_parts : (a b c : Bool) → (a && b && c) ≡ true → ((a && b) ≡ true) × (c ≡ true)
three_parts true true true is = (refl, refl)
three_parts true true false is = absurd (cc is)
three_parts true false c is = absurd (cc is)
three_parts false b c is = absurd (cc is)

pub good_schema : (rs : List Relation) → IsSchema rs → IsGoodSchema rs
good_schema rs is =
    let parts = and_parts (nat_lt 0 (length rs) && nat_le (length rs) 8 && list_all has_columns rs) (are_apart rs && list_all (λ (r : Relation). are_distinct (names_of r)) rs) is.counted in
    let count = three_parts (nat_lt 0 (length rs)) (nat_le (length rs) 8) (list_all has_columns rs) parts.0 in
    let others = and_parts (are_apart rs) (list_all (λ (r : Relation). are_distinct (names_of r)) rs) parts.1 in
    record { counted = count.0; good = all_good rs count.1 others.1; fresh = fresh_relations [] rs (others_none_relations rs) others.0; named = is.named }

pub relations_read : (rs : List Relation) (rest : List ℕ) → IsGoodSchema rs → relations_at Two (length rs ∷ (relations_bytes rs ++ rest)) ≡ Ok (rs, rest)
unfolding relations_at
relations_read rs rest is =
    let b = relations_bytes rs ++ rest in
    then_test (nat_lt 0 (length rs) && nat_le (length rs) 8) (length rs ∷ b) (λ u. repeat (next_relation Two) (length rs) [] b) is.counted
    ∙ relations_there [] rs rest is.named is.good is.fresh
