-- The fields of a change in either kind of commit: what is put is read again, and what is read was put so.
use Rattle.std.proofs.Common.{◌≡◌, ℕ, zero, suc, ◌*◌, ◌<◌, ◌≤◌, ◌&&◌, nat_lt, nat_le, Bool, true, false, cond, not, ◌||◌, List, [], ◌∷◌, ◌++◌, length, take, drop, replicate, refl, arith, ap, sym, subst, ◌∙◌, Option, Some, None, length-append}
use Rattle.std.specs.List.{AllByRecursion, list_all, list_any}
use Rattle.std.proofs.lemmas.Bool.{and_from, lt-ltb, leb-true, le-leb, ne_eqb, false≢true}
use Rattle.std.proofs.lemmas.List.{length-replicate}
use Rattle.db_value.specs.Value.{Value, IsValue}
use Rattle.db_value.specs.Width.{is_width, are_widths}
use Rattle.db_value.specs.Widths.{meets}
use Rattle.db_value.specs.RowForm.{row_size, row_bytes, row_in, is_row}
use Rattle.db_value.proofs.RowForms.{size_of_row_bytes, row_again, row_spelled}
use Rattle.entry_codec.specs.Wide.{wide_in}
use Rattle.db_store.specs.Body.{is_of_texts, form_size, fields_size}
use Rattle.entry_codec.specs.Spelling.{number_widths, row_form, fields_bytes, are_met}
use Rattle.entry_codec.specs.Grammar.{form_in, row_of}
use Rattle.entry_codec.proofs.WideForms.{AreSmall, again_both, spelled_all, size_of_wide}

-- ---- columns of numbers

pub number_size : (n : ℕ) → row_size (number_widths n) ≡ 8 * n
number_size zero = refl
number_size (suc n) = let rest = number_size n in omega (arith, rest)

pub numbers_are : (n : ℕ) (b : List ℕ) → is_row (number_widths n) b ≡ true
numbers_are zero b = refl
numbers_are (suc n) b = numbers_are n (drop 8 b)

pub number_bound : (n : ℕ) → list_all is_width (number_widths n) ≡ true
number_bound zero = refl
number_bound (suc n) = number_bound n

pub no_texts : (n : ℕ) → list_any is_of_texts (number_widths n) ≡ false
no_texts zero = refl
no_texts (suc n) = no_texts n

-- widths of which none is of texts
pub numbers_from : (ws : List ℕ) → list_any is_of_texts ws ≡ false → ws ≡ number_widths (length ws)
numbers_from [] e = refl
numbers_from (zero ∷ ws) e = ap (λ (us : List ℕ). 0 ∷ us) (numbers_from ws e)
numbers_from (suc w ∷ ws) e = absurd (false≢true (sym e ∙ ap (λ (b : Bool). not b || list_any is_of_texts ws) (ne_eqb (suc w) 0 (λ s. omega (arith, s)))))

-- ---- both forms

passes : {T : Type 0} (q : Bool) (x y : T) → q ≡ true → cond q x y ≡ x
passes true x y is = refl
passes false x y is = absurd (false≢true is)

-- what is spelled is read again
pub form_again : (wide : Bool) (ws : List ℕ) (vs : List Value) (rest : List ℕ) → list_all is_width ws ≡ true → meets ws vs ≡ true → AllByRecursion IsValue vs → (wide ≡ false → list_any is_of_texts ws ≡ false)
    → (form_in wide (length ws) (row_form wide ws vs ++ rest) ≡ Some ws) × (row_of wide ws (row_form wide ws vs ++ rest) ≡ vs)
form_again true ws vs rest bound meet values kind = again_both ws vs rest bound meet values
form_again false ws vs rest bound meet values kind =
    let are : number_widths (length ws) ≡ ws = sym (numbers_from ws (kind refl)) in
    let size = ap row_size are in
    let own = size_of_row_bytes ws vs meet in
    let l = length-append (row_bytes ws vs) rest in
    let long : nat_le (row_size (number_widths (length ws))) (length (row_bytes ws vs ++ rest)) ≡ true = le-leb (row_size (number_widths (length ws))) (length (row_bytes ws vs ++ rest)) (omega (arith, size, own, l)) in (
      passes (nat_le (row_size (number_widths (length ws))) (length (row_bytes ws vs ++ rest))) (Some (number_widths (length ws))) None long ∙ ap (λ (us : List ℕ). Some us) are,
      (row_again ws vs rest meet values).0,
    )

-- fields that stand in the first bytes
pub record IsForm (wide : Bool) (n : ℕ) (ws b : List ℕ) : Type 0 where
  pub widths : list_all is_width ws ≡ true
  pub meets : meets ws (row_of wide ws b) ≡ true
  pub values : AllByRecursion IsValue (row_of wide ws b)
  pub many : length ws ≡ n
  pub kind : wide ≡ false → list_any is_of_texts ws ≡ false
  pub same : b ≡ row_form wide ws (row_of wide ws b) ++ drop (form_size wide ws) b

some_is : {T : Type 0} (x y : T) → Some x ≡ Some y → x ≡ y
some_is x y is = cc is

-- a test that held
tested : {T : Type 0} (q : Bool) (o : Option T) (y : T) → cond q o None ≡ Some y → (q ≡ true) × (o ≡ Some y)
tested true o y is = (refl, is)
tested false o y is = absurd (cc is)

pub form_spelled : (wide : Bool) (n : ℕ) (ws b : List ℕ) → AreSmall b → form_in wide n b ≡ Some ws → IsForm wide n ws b
form_spelled true n ws b small is =
    let read = spelled_all n ws b small is in
    record {
      widths = read.widths;
      meets = read.meets;
      values = read.values;
      many = read.many;
      kind = λ e. absurd (false≢true (sym e));
      same = sym read.same;
    }
form_spelled false n ws b small is =
    let held = tested (nat_le (row_size (number_widths n)) (length b)) (Some (number_widths n)) ws is in
    let read = row_spelled (number_widths n) b (leb-true (row_size (number_widths n)) (length b) held.0) (numbers_are n b) small in
    subst (λ (us : List ℕ). IsForm false n us b) (some_is (number_widths n) ws held.1)
    (record {
      widths = number_bound n;
      meets = read.1.0;
      values = read.1.1;
      many = length-replicate n 0;
      kind = λ e. no_texts n;
      same = sym read.0;
    })

-- numbers that were read stand there
pub known_numbers : (n : ℕ) (ws b : List ℕ) → form_in false n b ≡ Some ws → (row_size ws ≤ length b) × (is_row ws b ≡ true)
known_numbers n ws b is =
    let held = tested (nat_le (row_size (number_widths n)) (length b)) (Some (number_widths n)) ws is in
    subst (λ (us : List ℕ). (row_size us ≤ length b) × (is_row us b ≡ true)) (some_is (number_widths n) ws held.1) (leb-true (row_size (number_widths n)) (length b) held.0, numbers_are n b)

-- the first of so many zeros
pub taken_zeros : (n k : ℕ) → n ≤ k → take n (replicate k 0) ≡ number_widths n
taken_zeros zero k h = refl
taken_zeros (suc n) zero h = absurd (omega (arith, h))
taken_zeros (suc n) (suc k) h = ap (λ (us : List ℕ). 0 ∷ us) (taken_zeros n k (omega (arith, h)))

pub read_widths : (wide : Bool) (n : ℕ) (ws b : List ℕ) → AreSmall b → form_in wide n b ≡ Some ws → 0 < n → n ≤ 15 → are_widths ws ≡ true
read_widths wide n ws b small is some few =
    let form = form_spelled wide n ws b small is in
    let many = form.many in
    and_from (nat_lt 0 (length ws)) (nat_le (length ws) 15 && list_all is_width ws) (lt-ltb 0 (length ws) (omega (arith, many, some))) (and_from (nat_le (length ws) 15) (list_all is_width ws) (le-leb (length ws) 15 (omega (arith, many, few))) form.widths)

-- how many bytes fields have that meet widths
pub size_of_form : (wide : Bool) (ws : List ℕ) (fields : List Value) → meets ws fields ≡ true → length (row_form wide ws fields) ≡ form_size wide ws
size_of_form true ws fields met = size_of_wide ws fields met
size_of_form false ws fields met = size_of_row_bytes ws fields met

-- and those of a change whose fields meet its widths, if it has some
pub size_of_fields : (wide : Bool) (fields : Option (List Value)) (widths : Option (List ℕ)) → are_met fields widths ≡ true → length (fields_bytes wide fields widths) ≡ fields_size wide widths
size_of_fields wide None None met = refl
size_of_fields wide None (Some ws) met = absurd (false≢true met)
size_of_fields wide (Some fields) None met = absurd (false≢true met)
size_of_fields wide (Some fields) (Some ws) met = size_of_form wide ws fields met
