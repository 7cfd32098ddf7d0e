-- What a text declares is a schema.
use Rattle.std.proofs.Common.{◌≡◌, ◌⊎◌, inl, inr, ⊎_elim, suc, ℕ, ◌+◌, ◌*◌, ◌-◌, ◌<◌, ◌≤◌, ◌&&◌, ◌||◌, ◌==◌, not, nat_lt, nat_le, cond, codes, Bool, true, false, List, [], ◌∷◌, ◌++◌, length, map, take, drop, refl, sym, ◌∙◌, ap, subst, arith, length-append, Option, Some, None, Result, Ok, Err}
use Rattle.std.proofs.lemmas.Bool.{and_from, and_parts, or_parts}
use Rattle.std.specs.Prelude.{position}
use Rattle.std.specs.Int.{is_in_range}
use Rattle.std.proofs.lemmas.List.Folds.{list_all-append, list_any-append}
use Rattle.std.specs.List.{list_all, list_any}
use Rattle.db_value.specs.Text.{same, is_name, lines, words, is_passed_over}
use Rattle.db_value.specs.Width.{is_width}
use Rattle.db_value.specs.Relations.{has_columns, number_column}
use Rattle.db_value.specs.Schema.{width_if, width_of, text_column, column_at, column_of, column_behind, columns_then, columns_from, with_columns, relation_of_words, relation_of as declared_by, is_declared, ended, declared_then, schema_in as schema_from, reading_of, most_relations, with_line}
use Rattle.db_value.specs.declared.schema.Column.{Column}
use Rattle.db_value.specs.declared.schema.Relation.{Relation}
use Rattle.db_value.specs.declared.schema.SchemaFault.{SchemaFault}
use Rattle.db_value.specs.declared.schema.SchemaFault.TheVariants.{Line, TooMany}
use Rattle.new_image.specs.Image.{are_distinct, are_apart, names_of}
use Rattle.new_image.specs.Schemas.{IsDeclared, AreNames, AreNamed, IsSchema}
use Rattle.new_image.proofs.Images.{same_flip}

cond_some : {T : Type 0} (q : Bool) (o : Option T) (x : T) → cond q o None ≡ Some x → (q ≡ true) × (o ≡ Some x)
cond_some true o x is = (refl, is)
cond_some false o x is = absurd (cc is)

cond_ok : {T E : Type 0} (q : Bool) (r : Result T E) (e : E) (z : T) → cond q r (Err e) ≡ Ok z → (q ≡ true) × (r ≡ Ok z)
cond_ok true r e z is = (refl, is)
cond_ok false r e z is = absurd (cc is)

not_err : {T E : Type 0} (q : Bool) (r : Result T E) (e : E) (z : T) → cond q (Err e) r ≡ Ok z → (q ≡ false) × (r ≡ Ok z)
not_err true r e z is = absurd (cc is)
not_err false r e z is = (refl, is)

either : {T : Type 0} (q : Bool) (x y z : T) → cond q x y ≡ z → (x ≡ z) ⊎ (y ≡ z)
either true x y z is = inl is
either false x y z is = inr is

not_true : (q : Bool) → not q ≡ true → q ≡ false
not_true true is = absurd (cc is)
not_true false is = refl

not_false : (q : Bool) → q ≡ false → not q ≡ true
not_false q is = ap not is

neither : (x y : Bool) → x ≡ false → y ≡ false → (x || y) ≡ false
neither true y a b = absurd (cc a)
neither false y a b = b

last_three : (a b c d : Bool) → (a && b && c && d) ≡ true → (b ≡ true) × (c ≡ true) × (d ≡ true)
last_three true true true true is = (refl, refl, refl)
last_three true true true false is = absurd (cc is)
last_three true true false d is = absurd (cc is)
last_three true false c d is = absurd (cc is)
last_three false b c d is = absurd (cc is)

-- no element passes the test, and the next one doesn't
any_more : {T : Type 0} (p : T → Bool) (xs : List T) (x : T) → list_any p xs ≡ false → p x ≡ false → list_any p (xs ++ x ∷ []) ≡ false
any_more p xs x none fails = list_any-append p xs (x ∷ []) ∙ neither (list_any p xs) (list_any p (x ∷ [])) none (neither (p x) false fails refl)

all_more : {T : Type 0} (p : T → Bool) (xs : List T) (x : T) → list_all p xs ≡ true → p x ≡ true → list_all p (xs ++ x ∷ []) ≡ true
all_more p xs x all yes_there = list_all-append p xs (x ∷ []) ∙ and_from (list_all p xs) (list_all p (x ∷ [])) all (and_from (p x) true yes_there refl)

names_more : (xs : List (List ℕ)) (w : List ℕ) → AreNames xs → is_name w ≡ true → AreNames (xs ++ w ∷ [])
names_more [] w are is = (is, tt)
names_more (x ∷ xs) w are is = (are.0, names_more xs w are.1 is)

distinct_more : (xs : List (List ℕ)) (w : List ℕ) → are_distinct xs ≡ true → list_any (same w) xs ≡ false → are_distinct (xs ++ w ∷ []) ≡ true
distinct_more [] w distinct new = refl
distinct_more (x ∷ xs) w distinct new =
    let parts = and_parts (not (list_any (same x) xs)) (are_distinct xs) distinct in
    let others = or_parts (same w x) (list_any (same w) xs) new in
    and_from (not (list_any (same x) (xs ++ w ∷ []))) (are_distinct (xs ++ w ∷ []))
    (not_false (list_any (same x) (xs ++ w ∷ [])) (any_more (same x) xs w (not_true (list_any (same x) xs) parts.0) (same_flip x w ∙ others.0)))
    (distinct_more xs w parts.1 others.1)

-- ---- columns

-- what a test of the other outcome gave
cond_none : {T : Type 0} (q : Bool) (o : Option T) (x : T) → cond q None o ≡ Some x → (q ≡ false) × (o ≡ Some x)
cond_none true o x is = absurd (cc is)
cond_none false o x is = (refl, is)

few_wide : (n m : ℕ) → width_if m ≡ Some n → is_width n ≡ true
few_wide n m is =
    let parts = cond_some (nat_le m 64) (Some m) n is in
    let same_there : m ≡ n = cc (parts.1) in
    ap is_width (sym same_there) ∙ parts.0

one_digit : (c : ℕ) → is_in_range 49 57 c ≡ true → nat_le (c - 48) 64 ≡ true
one_digit c is = search (arith, (and_parts (nat_le 49 c) (nat_le c 57) is).1)

-- a width that was read is one
width_good : (w : List ℕ) (n : ℕ) → width_of w ≡ Some n → is_width n ≡ true
width_good [] n is = absurd (cc is)
width_good (c ∷ []) n is =
    let parts = cond_some (is_in_range 49 57 c) (Some (c - 48)) n is in
    let same_there : c - 48 ≡ n = cc (parts.1) in
    ap is_width (sym same_there) ∙ one_digit c parts.0
width_good (c ∷ d ∷ []) n is = few_wide n ((c - 48) * 10 + (d - 48)) (cond_some (is_in_range 49 57 c && is_in_range 48 57 d) (width_if ((c - 48) * 10 + (d - 48))) n is).1
width_good (c ∷ d ∷ e ∷ es) n is = absurd (cc is)

-- a column that was read has a name and a width
abbrev IsColumn : Column → Type 0
IsColumn c = (is_name c.name ≡ true) × (is_width c.width ≡ true)

text_good : (name w : List ℕ) (o : Option ℕ) (c : Column) → width_of w ≡ o → text_column name o ≡ Some c → IsColumn c
text_good name w None c width is = absurd (cc is)
text_good name w (Some n) c width is =
    let parts = cond_some (is_name name) (Some (record { name = name; width = n })) c is in
    let same_there : record { name = name; width = n } ≡ c = cc (parts.1) in
    subst IsColumn same_there (parts.0, width_good w n width)

place_good : (w : List ℕ) (o : Option ℕ) (c : Column) → column_at w o ≡ Some c → IsColumn c
place_good w None c is =
    let parts = cond_some (is_name w) (Some (number_column w)) c is in
    let same_there : number_column w ≡ c = cc (parts.1) in
    subst IsColumn same_there (parts.0, refl)
place_good w (Some i) c is = text_good (take i w) (drop (i + 1) w) (width_of (drop (i + 1) w)) c refl is

column_good : (w : List ℕ) (c : Column) → column_of w ≡ Some c → IsColumn c
unfolding column_of
column_good w c is = place_good w (position (λ b. b == 58) w) c is

-- the names of columns
abbrev names_in : List Column → List (List ℕ)
names_in cs = map (λ c. c.name) cs

names_push : (seen : List Column) (c : Column) → names_in (seen ++ c ∷ []) ≡ names_in seen ++ c.name ∷ []
names_push [] c = refl
names_push (d ∷ seen) c = ap (λ (ns : List (List ℕ)). d.name ∷ ns) (names_push seen c)

any_flip : (w : List ℕ) (cs : List Column) → list_any (same w) (names_in cs) ≡ list_any (λ d. same d.name w) cs
any_flip w [] = refl
any_flip w (c ∷ cs) = ap (λ (q : Bool). q || list_any (same w) (names_in cs)) (same_flip w c.name) ∙ ap (λ (q : Bool). same c.name w || q) (any_flip w cs)

-- columns that may be the first of a relation
record AreColumns (cs : List Column) : Type 0 where
  names : AreNames (names_in cs)
  distinct : are_distinct (names_in cs) ≡ true
  widths : list_all (λ c. is_width c.width) cs ≡ true

column_more : (seen : List Column) (c : Column) → AreColumns seen → IsColumn c → list_any (λ d. same d.name c.name) seen ≡ false → AreColumns (seen ++ c ∷ [])
column_more seen c are is new = record {
  names = subst AreNames (sym (names_push seen c)) (names_more (names_in seen) c.name are.names is.0);
  distinct = ap are_distinct (names_push seen c) ∙ distinct_more (names_in seen) c.name are.distinct (any_flip c.name seen ∙ new);
  widths = all_more (λ (d : Column). is_width d.width) seen c are.widths is.1;
}

columns_next : (o : Option (List Column)) (go : List Column → Option (List Column)) (cs : List Column) → columns_then o go ≡ Some cs → (more : List Column) × (o ≡ Some more) × (go more ≡ Some cs)
columns_next None go cs is = absurd (cc is)
columns_next (Some more) go cs is = (more, refl, is)

column_next : (seen : List Column) (o : Option Column) (more : List Column) → column_behind seen o ≡ Some more → (c : Column) × (o ≡ Some c) × (list_any (λ d. same d.name c.name) seen ≡ false) × (seen ++ c ∷ [] ≡ more)
column_next seen None more is = absurd (cc is)
column_next seen (Some c) more is =
    let parts = cond_none (list_any (λ d. same d.name c.name) seen) (Some (seen ++ c ∷ [])) more is in
    (c, refl, parts.0, cc (parts.1))

-- columns that were read are such, as many as there were words
columns_are : (ws : List (List ℕ)) (seen cs : List Column) → columns_from seen ws ≡ Some cs → AreColumns seen → AreColumns cs × (length cs ≡ length seen + length ws)
columns_are [] seen cs is are = let all : seen ≡ cs = cc is in (subst AreColumns all are, omega (arith, ap length all))
columns_are (w ∷ ws) seen cs is are =
    let next = columns_next (column_behind seen (column_of w)) (λ more. columns_from more ws) cs is in
    let one = column_next seen (column_of w) next.0 next.1 in
    let c : Column = one.0 in
    let more : AreColumns next.0 = subst AreColumns one.3 (column_more seen c are (column_good w c one.1) one.2) in
    let rest = columns_are ws next.0 cs next.2 more in
    let long : length next.0 ≡ length seen + 1 = ap length (sym one.3) ∙ length-append seen (c ∷ []) in
    (rest.0, omega (arith, rest.1, long))

-- ---- relations

-- a relation that may stand in a schema
record IsGood (r : Relation) : Type 0 where
  name : is_name r.name ≡ true
  columns : AreNames (names_of r)
  counted : has_columns r ≡ true
  distinct : are_distinct (names_of r) ≡ true

columns_some : (name : List ℕ) (o : Option (List Column)) (r : Relation) → with_columns name o ≡ Some r → (cs : List Column) × (o ≡ Some cs) × (record { name = name; columns = cs } ≡ r)
columns_some name None r is = absurd (cc is)
columns_some name (Some cs) r is = (cs, refl, cc is)

relation_is : (ws : List (List ℕ)) (r : Relation) → relation_of_words ws ≡ Some r → IsGood r
unfolding relation_of_words
relation_is [] r is = absurd (cc is)
relation_is (verb ∷ []) r is = absurd (cc is)
relation_is (verb ∷ name ∷ columns) r is =
    let parts = cond_some (same verb (codes "relation") && is_name name && nat_lt 0 (length columns) && nat_le (length columns) 15) (with_columns name (columns_from [] columns)) r is in
    let tests = last_three (same verb (codes "relation")) (is_name name) (nat_lt 0 (length columns)) (nat_le (length columns) 15) parts.0 in
    let read = columns_some name (columns_from [] columns) r parts.1 in
    let made : List Column = read.0 in
    let are = columns_are columns [] made read.1 (record { names = tt; distinct = refl; widths = refl }) in
    let long : length made ≡ length columns = omega (arith, are.1) in
    subst IsGood read.2 (record {
      name = tests.0;
      columns = are.0.names;
      counted = and_from (nat_lt 0 (length made)) (nat_le (length made) 15 && list_all (λ c. is_width c.width) made) (ap (λ (n : ℕ). nat_lt 0 n) long ∙ tests.1)
          (and_from (nat_le (length made) 15) (list_all (λ c. is_width c.width) made) (ap (λ (n : ℕ). nat_le n 15) long ∙ tests.2) are.0.widths);
      distinct = are.0.distinct;
    })

-- relations that may be the first of a schema
record AreGood (rs : List Relation) : Type 0 where
  few : nat_le (length rs) 8 ≡ true
  counted : list_all has_columns rs ≡ true
  distinct : list_all (λ r. are_distinct (names_of r)) rs ≡ true
  apart : are_apart rs ≡ true
  named : AreNamed rs

apart_more : (rs : List Relation) (r : Relation) → are_apart rs ≡ true → is_declared rs r.name ≡ false → are_apart (rs ++ r ∷ []) ≡ true
apart_more [] r apart new = refl
apart_more (x ∷ rs) r apart new =
    let parts = and_parts (not (list_any (λ s. same x.name s.name) rs)) (are_apart rs) apart in
    let others = or_parts (same x.name r.name) (is_declared rs r.name) new in
    and_from (not (list_any (λ s. same x.name s.name) (rs ++ r ∷ []))) (are_apart (rs ++ r ∷ []))
    (not_false (list_any (λ s. same x.name s.name) (rs ++ r ∷ [])) (any_more (λ s. same x.name s.name) rs r (not_true (list_any (λ s. same x.name s.name) rs) parts.0) others.0))
    (apart_more rs r parts.1 others.1)

named_more : (rs : List Relation) (r : Relation) → AreNamed rs → IsGood r → AreNamed (rs ++ r ∷ [])
named_more [] r named is = (is.name, is.columns, tt)
named_more (x ∷ rs) r named is = (named.0, named.1, named_more rs r named.2 is)

one_more : (rs : List Relation) (r : Relation) → AreGood rs → IsGood r → nat_lt (length rs) most_relations ≡ true → is_declared rs r.name ≡ false → AreGood (rs ++ r ∷ [])
one_more rs r are is room new =
    let lt : length rs < 8 = below (length rs) room in
    record {
      few = at_most (length (rs ++ r ∷ [])) (omega (arith, lt, length-append rs (r ∷ [])));
      counted = all_more has_columns rs r are.counted is.counted;
      distinct = all_more (λ x. are_distinct (names_of x)) rs r are.distinct is.distinct;
      apart = apart_more rs r are.apart new;
      named = named_more rs r are.named is;
    }
  where
    below : (n : ℕ) → nat_lt n 8 ≡ true → n < 8
    below n lt = search (arith, lt)

    at_most : (n : ℕ) → n ≤ 8 → nat_le n 8 ≡ true
    at_most n le = search (arith, le)

ended_is : (n : ℕ) (got : List Relation) (more : List (List ℕ)) (rs : List Relation) (left : List (List ℕ)) → ended n got more ≡ Ok (rs, left) → AreGood got → IsSchema rs
ended_is n [] more rs left is are = absurd (cc is)
ended_is n (r ∷ got) more rs left is are =
    let pair : (r ∷ got, more) ≡ (rs, left) = cc is in
    let all : r ∷ got ≡ rs = ap (λ (p : List Relation × List (List ℕ)). p.0) pair in
    subst IsSchema all (record {
      counted = and_from (nat_lt 0 (length (r ∷ got)) && nat_le (length (r ∷ got)) 8 && list_all has_columns (r ∷ got)) (are_apart (r ∷ got) && list_all (λ x. are_distinct (names_of x)) (r ∷ got))
          (three (nat_lt 0 (length (r ∷ got))) (nat_le (length (r ∷ got)) 8) (list_all has_columns (r ∷ got)) (some (length got)) are.few are.counted)
          (and_from (are_apart (r ∷ got)) (list_all (λ x. are_distinct (names_of x)) (r ∷ got)) are.apart are.distinct);
      named = are.named;
    })
  where
    three : (a b c : Bool) → a ≡ true → b ≡ true → c ≡ true → (a && b && c) ≡ true
    three true true true p q r = refl
    three true true false p q r = absurd (cc r)
    three true false c p q r = absurd (cc q)
    three false b c p q r = absurd (cc p)

    some : (n : ℕ) → nat_lt 0 (suc n) ≡ true
    some n = search arith

declared_some : (n : ℕ) (got : List Relation) (o : Option Relation) (go : Relation → Result (List Relation × List (List ℕ)) SchemaFault) (z : List Relation × List (List ℕ)) → declared_then n got o go ≡ Ok z
    → (r : Relation) × (o ≡ Some r) × (is_declared got r.name ≡ false) × (nat_lt (length got) most_relations ≡ true) × (go r ≡ Ok z)
declared_some n got None go z is = absurd (cc is)
declared_some n got (Some r) go z is =
    let new = not_err (is_declared got r.name) (cond (nat_lt (length got) most_relations) (go r) (Err (TooMany n))) (Line n) z is in
    let room = cond_ok (nat_lt (length got) most_relations) (go r) (TooMany n) z new.1 in
    (r, refl, new.0, room.0, room.1)

schema_from_is : (ls : List (List ℕ)) (n : ℕ) (got rs : List Relation) (left : List (List ℕ)) → schema_from n got ls ≡ Ok (rs, left) → AreGood got → IsSchema rs
unfolding schema_from
schema_from_is [] n got rs left is are = absurd (cc is)
schema_from_is (line ∷ more) n got rs left is are =
    ⊎_elim (λ passed. schema_from_is more (n + 1) got rs left passed are)
    (λ read. ⊎_elim (λ end_there. ended_is n got more rs left end_there are)
    (λ declared.
    let r = declared_some n got (declared_by line) (λ r. schema_from (n + 1) (got ++ r ∷ []) more) (rs, left) declared in
    schema_from_is more (n + 1) (got ++ r.0 ∷ []) rs left r.4 (one_more got r.0 are (relation_is (words line) r.0 r.1) r.3 r.2))
    (either (same line (codes "end")) (ended n got more) (declared_then n got (declared_by line) (λ r. schema_from (n + 1) (got ++ r ∷ []) more)) (Ok (rs, left)) read))
    (either (is_passed_over line) (schema_from (n + 1) got more)
    (cond (same line (codes "end")) (ended n got more) (declared_then n got (declared_by line) (λ r. schema_from (n + 1) (got ++ r ∷ []) more))) (Ok (rs, left)) is)

with_line_ok : (r : Result (List Relation × List (List ℕ)) SchemaFault) (z : List Relation × List (List ℕ)) → with_line r ≡ Ok z → r ≡ Ok z
with_line_ok (Ok x) z is = let same_there : x ≡ z = cc is in ap Ok same_there
with_line_ok (Err fault) z is = absurd (cc is)

pub declared_is : (rs : List Relation) → IsDeclared rs → IsSchema rs
declared_is rs is =
    schema_from_is (lines is.0) 1 [] rs is.1 (with_line_ok (reading_of is.0) (rs, is.1) is.2)
    (record { few = refl; counted = refl; distinct = refl; apart = refl; named = tt })
