-- What is read was spelled so.
use Rattle.std.proofs.Common.{◌≡◌, zero, suc, ℕ, ◌+◌, ◌*◌, ◌^◌, ◌<◌, ◌≤◌, ◌==◌, ◌&&◌, ◌||◌, Bool, true, false, cond, nat_le, nat_lt, List, [], ◌∷◌, ◌++◌, length, take, drop, get_or, refl, sym, ◌∙◌, ap, subst, arith, append_assoc, length-append, Option, Some, None, option_map, option_and_then}
use Rattle.std.proofs.lemmas.List.{drop-drop, take-append-drop, length-take-le, length-drop}
use Rattle.std.proofs.lemmas.List.Elements.{All-take, All-drop, All-get_or, All-tail}
use Rattle.std.proofs.lemmas.Nat.{le_bytes_4, le_bytes_8}
use Rattle.std.specs.Int.{w32, w64, from_le_bytes, to_le_bytes}
use Rattle.std.specs.List.{list_all}
use Rattle.std.proofs.lemmas.Bool.{and_from, lt-ltb, le-leb}
use Rattle.db_value.specs.Text.{is_name}
use Rattle.db_value.specs.Width.{is_width, are_widths}
use Rattle.db_value.proofs.RowForms.{meets_long}
use Rattle.db_value.specs.declared.version.VersionPlace.{VersionPlace}
use Rattle.db_value.specs.declared.entry.Change.{Change}
use Rattle.db_value.specs.declared.entry.Entry.{Entry}
use Rattle.db_value.specs.declared.entry.Entry.TheVariants.{Commit, Branch}
use Rattle.db_store.specs.Fits.{ascends, makes_version}
use Rattle.db_store.specs.Body.{have_texts, has_text, any_text, second_size, fields_size, change_size, changes_size}
use Rattle.entry_codec.specs.Spelling.{place_bytes, second_bytes, field_count, fields_bytes, change_bytes, changes_bytes, kind_of, spelling, spellings, entry_size}
use Rattle.entry_codec.specs.Grammar.{most_changes, u32_in, place_of, place_in, second_in, form_in, row_of, if_some, change_of, is_change, change_in, onto, changes_in, are_of_kind, commit_of, counted_in, commit_in, branch_in, entry_in, onto_entries, entries_from, entries_in}
use Rattle.entry_codec.specs.Laws.{AreBytes, IsPlace, IsPlaceIfAny, AreFields, IsChange, AreChanges, IsCommit, IsEntry, AreEntries}
use Rattle.entry_codec.proofs.RowForm.{IsForm, form_spelled}

some_is : {T : Type 0} (x y : T) → Some x ≡ Some y → x ≡ y
some_is x y is = cc is

-- a test that held
tested : {T : Type 0} (q : Bool) (o : Option T) (y : T) → cond q o None ≡ Some y → (q ≡ true) × (o ≡ Some y)
tested true o y is = (refl, is)
tested false o y is = absurd (cc is)

mapped : {A B : Type 0} (f : A → B) (o : Option A) (y : B) → option_map f o ≡ Some y → (x : A) × (o ≡ Some x) × (f x ≡ y)
mapped f None y is = absurd (cc is)
mapped f (Some x) y is = (x, refl, some_is (f x) y is)

chained : {A B : Type 0} (f : A → Option B) (o : Option A) (y : B) → option_and_then f o ≡ Some y → (x : A) × (o ≡ Some x) × (f x ≡ Some y)
chained f None y is = absurd (cc is)
chained f (Some x) y is = (x, refl, is)

both : (p q : Bool) → p && q ≡ true → (p ≡ true) × (q ≡ true)
both true q is = (refl, is)
both false q is = absurd (cc is)

le_from : (a b : ℕ) → nat_le a b ≡ true → a ≤ b
le_from a b is = search (arith, is)

tail : (x : ℕ) (b : List ℕ) → AreBytes (x ∷ b) → AreBytes b
tail x b are = All-tail (λ (y : ℕ). y < 256) x b are

small_at : (b : List ℕ) → AreBytes b → (i : ℕ) → get_or b i 0 < 256
small_at [] are i = omega arith
small_at (x ∷ b) are zero = All-get_or (λ (y : ℕ). y < 256) (x ∷ b) 0 0 (omega arith) are
small_at (x ∷ b) are (suc i) = small_at b (tail x b are) i

behind : (n : ℕ) (b : List ℕ) → AreBytes b → AreBytes (drop n b)
behind n b are = All-drop (λ (x : ℕ). x < 256) n b are

front : (n : ℕ) (b : List ℕ) → AreBytes b → AreBytes (take n b)
front n b are = All-take (λ (x : ℕ). x < 256) n b are

few_4 : (a b c d n : ℕ) → a < 256 → b < 256 → c < 256 → d < 256 → n ≡ a + b * 256 + c * 65536 + d * 16777216 → n < 2 ^ 32
few_4 a b c d n a' b' c' d' is = omega arith

few_8 : (a b c d e f g h n : ℕ) → a < 256 → b < 256 → c < 256 → d < 256 → e < 256 → f < 256 → g < 256 → h < 256
    → n ≡ a + b * 256 + c * 65536 + d * 16777216 + e * 4294967296 + f * 1099511627776 + g * 281474976710656 + h * 72057594037927936 → n < 2 ^ 64
few_8 a b c d e f g h n a' b' c' d' e' f' g' h' is = omega arith

-- the number in four bytes has 32 bits, and these bytes
number_4 : (b : List ℕ) → AreBytes b → 4 ≤ length b → (take 4 b ≡ to_le_bytes w32 (from_le_bytes w32 (take 4 b))) × (from_le_bytes w32 (take 4 b) < 2 ^ 32)
number_4 b are long =
    let small : (i : ℕ) → get_or (take 4 b) i 0 < 256 = small_at (take 4 b) (front 4 b are) in
    (sym (le_bytes_4 (take 4 b) (from_le_bytes w32 (take 4 b)) (length-take-le 4 b long) small refl), few_4 _ _ _ _ (from_le_bytes w32 (take 4 b)) (small 0) (small 1) (small 2) (small 3) refl)

number_8 : (b : List ℕ) → AreBytes b → 8 ≤ length b → (take 8 b ≡ to_le_bytes w64 (from_le_bytes w64 (take 8 b))) × (from_le_bytes w64 (take 8 b) < 2 ^ 64)
number_8 b are long =
    let small : (i : ℕ) → get_or (take 8 b) i 0 < 256 = small_at (take 8 b) (front 8 b are) in (
      sym (le_bytes_8 (take 8 b) (from_le_bytes w64 (take 8 b)) (length-take-le 8 b long) small refl),
      few_8 _ _ _ _ _ _ _ _ (from_le_bytes w64 (take 8 b)) (small 0) (small 1) (small 2) (small 3) (small 4) (small 5) (small 6) (small 7) refl,
    )

-- a front of so many bytes that is known, and what stands behind it
split_at : (n : ℕ) (b x : List ℕ) → take n b ≡ x → b ≡ x ++ drop n b
split_at n b x is = sym (take-append-drop n b) ∙ ap (λ (l : List ℕ). l ++ drop n b) is

-- two known parts, one behind the other
two_parts : (m n : ℕ) (b x y : List ℕ) → b ≡ x ++ drop m b → drop m b ≡ y ++ drop n (drop m b) → b ≡ (x ++ y) ++ drop (m + n) b
two_parts m n b x y first second =
    first ∙ ap (λ (l : List ℕ). x ++ l) (second ∙ ap (λ (l : List ℕ). y ++ l) (drop-drop n m b)) ∙ sym (append_assoc x y (drop (m + n) b))

-- what stands behind the first bytes
past_one : (m k x : ℕ) (b : List ℕ) → m ≡ suc k → drop m (x ∷ b) ≡ drop k b
past_one m k x b is = ap (λ (j : ℕ). drop j (x ∷ b)) is

past_two : (m k x y : ℕ) (b : List ℕ) → m ≡ suc (suc k) → drop m (x ∷ (y ∷ b)) ≡ drop k b
past_two m k x y b is = ap (λ (j : ℕ). drop j (x ∷ (y ∷ b))) is

is_number : (a n : ℕ) → (a == n) ≡ true → a ≡ n
is_number a n is = search (arith, is)

pub u32_read : (b : List ℕ) (n : ℕ) → AreBytes b → u32_in b ≡ Some n → (b ≡ to_le_bytes w32 n ++ drop 4 b) × (n < 2 ^ 32)
u32_read b n are is =
    let held = tested (nat_le 4 (length b)) (Some (from_le_bytes w32 (take 4 b))) n is in
    let number = number_4 b are (le_from 4 (length b) held.0) in
    subst (λ (m : ℕ). (b ≡ to_le_bytes w32 m ++ drop 4 b) × (m < 2 ^ 32)) (some_is (from_le_bytes w32 (take 4 b)) n held.1) (split_at 4 b (to_le_bytes w32 (from_le_bytes w32 (take 4 b))) number.0, number.1)

pub place_read : (b : List ℕ) (at : VersionPlace) → AreBytes b → place_in b ≡ Some at → (b ≡ place_bytes at ++ drop 8 b) × IsPlace at
place_read b at are is =
    let m = from_le_bytes w32 (take 4 b) in
    let n = from_le_bytes w32 (take 4 (drop 4 b)) in
    let held = tested (nat_le 8 (length b)) (Some (place_of m n)) at is in
    let long : 8 ≤ length b = le_from 8 (length b) held.0 in
    let first = number_4 b are (omega (arith, long)) in
    let second = number_4 (drop 4 b) (behind 4 b are) (omega (arith, long, length-drop 4 b)) in
    let whole : b ≡ (to_le_bytes w32 m ++ to_le_bytes w32 n) ++ drop 8 b = two_parts 4 4 b (to_le_bytes w32 m) (to_le_bytes w32 n) (split_at 4 b (to_le_bytes w32 m) first.0) (split_at 4 (drop 4 b) (to_le_bytes w32 n) second.0) in
    subst (λ (p : VersionPlace). (b ≡ place_bytes p ++ drop 8 b) × IsPlace p) (some_is (place_of m n) at held.1) (whole, (first.1, second.1))

tagged : (b : List ℕ) (second : Option VersionPlace) → AreBytes b → option_map Some (place_in b) ≡ Some second → (1 ∷ b ≡ second_bytes second ++ drop (second_size second) (1 ∷ b)) × IsPlaceIfAny second
tagged b second are is =
    let some = mapped Some (place_in b) second is in
    let read = place_read b some.0 are some.1 in
    subst (λ (o : Option VersionPlace). (1 ∷ b ≡ second_bytes o ++ drop (second_size o) (1 ∷ b)) × IsPlaceIfAny o) some.2 (ap (λ (l : List ℕ). 1 ∷ l) read.0, read.1)

second_with : (p q : Bool) (tag : ℕ) (b : List ℕ) (second : Option VersionPlace) → AreBytes b → (p ≡ true → tag ≡ 0) → (q ≡ true → tag ≡ 1)
    → cond p (Some None) (cond q (option_map Some (place_in b)) None) ≡ Some second → (tag ∷ b ≡ second_bytes second ++ drop (second_size second) (tag ∷ b)) × IsPlaceIfAny second
second_with true q tag b second are zeroed other is =
    subst (λ (o : Option VersionPlace). (tag ∷ b ≡ second_bytes o ++ drop (second_size o) (tag ∷ b)) × IsPlaceIfAny o) (some_is None second is) (ap (λ (n : ℕ). n ∷ b) (zeroed refl), tt)
second_with false true tag b second are zeroed other is =
    subst (λ (n : ℕ). (n ∷ b ≡ second_bytes second ++ drop (second_size second) (n ∷ b)) × IsPlaceIfAny second) (sym (other refl)) (tagged b second are is)
second_with false false tag b second are zeroed other is = absurd (cc is)

pub second_read : (b : List ℕ) (second : Option VersionPlace) → AreBytes b → second_in b ≡ Some second → (b ≡ second_bytes second ++ drop (second_size second) b) × IsPlaceIfAny second
second_read [] second are is = absurd (cc is)
second_read (tag ∷ b) second are is = second_with (tag == 0) (tag == 1) tag b second (tail tag b are) (is_number tag 0) (is_number tag 1) is

-- fields, if there are some, in the first bytes
fields_read : (wide : Bool) (n : ℕ) (ws b : List ℕ) → IsForm wide n ws b → n ≤ 15
    → (b ≡ fields_bytes wide (if_some n (row_of wide ws b)) (if_some n ws) ++ drop (fields_size wide (if_some n ws)) b) × AreFields (if_some n (row_of wide ws b)) (if_some n ws)
fields_read wide zero ws b form few = (refl, tt)
fields_read wide (suc n) ws b form few =
    let many = form.many in
    let are : are_widths ws ≡ true = and_from (nat_lt 0 (length ws)) (nat_le (length ws) 15 && list_all is_width ws) (lt-ltb 0 (length ws) (omega (arith, many))) (and_from (nat_le (length ws) 15) (list_all is_width ws) (le-leb (length ws) 15 (omega (arith, many, few))) form.widths) in
    (form.same, (are, (form.meets, form.values)))

count_read : (wide : Bool) (n : ℕ) (ws b : List ℕ) → IsForm wide n ws b → field_count (if_some n (row_of wide ws b)) ≡ n
count_read wide zero ws b form = refl
count_read wide (suc n) ws b form = meets_long ws (row_of wide ws b) form.meets ∙ form.many

texts_read : (wide : Bool) (n : ℕ) (ws b : List ℕ) → IsForm wide n ws b → wide ≡ false → have_texts (if_some n ws) ≡ false
texts_read wide zero ws b form e = refl
texts_read wide (suc n) ws b form e = form.kind e

-- a change whose parts stand behind its two counts
made_read : (wide : Bool) (relation n : ℕ) (b ws : List ℕ) → AreBytes b → relation ≤ 7 → n ≤ 15 → 8 ≤ length b → form_in wide n (drop 8 b) ≡ Some ws
    → (relation ∷ (n ∷ b) ≡ change_bytes wide (change_of wide relation n b ws) ++ drop (change_size wide (change_of wide relation n b ws)) (relation ∷ (n ∷ b))) × (IsChange (change_of wide relation n b ws) × (wide ≡ false → has_text (change_of wide relation n b ws) ≡ false))
made_read wide relation n b ws are known few long is =
    let form = form_spelled wide n ws (drop 8 b) (small_at (drop 8 b) (behind 8 b are)) is in
    let key = number_8 b are long in
    let key_bytes = to_le_bytes w64 (from_le_bytes w64 (take 8 b)) in
    let fields = fields_read wide n ws (drop 8 b) form few in
    let own = fields_bytes wide (if_some n (row_of wide ws (drop 8 b))) (if_some n ws) in
    let bytes = key_bytes ++ own in
    let size : ℕ = fields_size wide (if_some n ws) in
    let whole : b ≡ bytes ++ drop (8 + size) b = two_parts 8 size b key_bytes own (split_at 8 b key_bytes key.0) fields.0 in
    let count : field_count (if_some n (row_of wide ws (drop 8 b))) ≡ n = count_read wide n ws (drop 8 b) form in (
      ap (λ (l : List ℕ). relation ∷ (n ∷ l)) whole
          ∙ ap (λ (k : ℕ). relation ∷ (k ∷ (bytes ++ drop (8 + size) b))) (sym count)
          ∙ ap (λ (l : List ℕ). relation ∷ (field_count (if_some n (row_of wide ws (drop 8 b))) ∷ (bytes ++ l))) (sym (past_two (10 + size) (8 + size) relation n b (omega arith))),
      (record { relation = known; key = key.1; fields = fields.1 }, texts_read wide n ws (drop 8 b) form),
    )

pub change_read : (wide : Bool) (b : List ℕ) (c : Change) → AreBytes b → change_in wide b ≡ Some c → (b ≡ change_bytes wide c ++ drop (change_size wide c) b) × (IsChange c × (wide ≡ false → has_text c ≡ false))
change_read wide [] c are is = absurd (cc is)
change_read wide (relation ∷ []) c are is = absurd (cc is)
change_read wide (relation ∷ n ∷ b) c are is =
    let held = tested (is_change relation n b) (option_map (change_of wide relation n b) (form_in wide n (drop 8 b))) c is in
    let made = mapped (change_of wide relation n b) (form_in wide n (drop 8 b)) c held.1 in
    let known = both (nat_le relation 7) (nat_le n 15 && nat_le 8 (length b)) held.0 in
    let few = both (nat_le n 15) (nat_le 8 (length b)) known.1 in
    subst (λ (x : Change). (relation ∷ (n ∷ b) ≡ change_bytes wide x ++ drop (change_size wide x) (relation ∷ (n ∷ b))) × (IsChange x × (wide ≡ false → has_text x ≡ false))) made.2
    (made_read wide relation n b made.0 (tail n b (tail relation (n ∷ b) are)) (le_from relation 7 known.0) (le_from n 15 few.0) (le_from 8 (length b) few.1) made.1)

no_text : (c : Change) (cs : List Change) → has_text c ≡ false → any_text cs ≡ false → any_text (c ∷ cs) ≡ false
no_text c cs one others = ap (λ (x : Bool). x || any_text cs) one ∙ others

pub changes_read : (wide : Bool) (n : ℕ) (b : List ℕ) (cs : List Change) → AreBytes b → changes_in wide n b ≡ Some cs
    → (b ≡ changes_bytes wide cs ++ drop (changes_size wide cs) b) × (AreChanges cs × ((length cs ≡ n) × (wide ≡ false → any_text cs ≡ false)))
changes_read wide zero b cs are is =
    subst (λ (l : List Change). (b ≡ changes_bytes wide l ++ drop (changes_size wide l) b) × (AreChanges l × ((length l ≡ 0) × (wide ≡ false → any_text l ≡ false)))) (some_is [] cs is) (refl, (tt, (refl, λ e. refl)))
changes_read wide (suc n) b cs are is =
    let first = chained (λ c. option_map (onto c) (changes_in wide n (drop (change_size wide c) b))) (change_in wide b) cs is in
    let c = first.0 in
    let more = mapped (onto c) (changes_in wide n (drop (change_size wide c) b)) cs first.2 in
    let one = change_read wide b c are first.1 in
    let others = changes_read wide n (drop (change_size wide c) b) more.0 (behind (change_size wide c) b are) more.1 in
    subst (λ (l : List Change). (b ≡ changes_bytes wide l ++ drop (changes_size wide l) b) × (AreChanges l × ((length l ≡ suc n) × (wide ≡ false → any_text l ≡ false)))) more.2 (
      two_parts (change_size wide c) (changes_size wide more.0) b (change_bytes wide c) (changes_bytes wide more.0) one.0 others.0,
      ((one.1.0, others.1.0), (omega (arith, others.1.1.0), λ e. no_text c more.0 (one.1.1 e) (others.1.1.1 e))),
    )

pub counted_read : (wide : Bool) (b : List ℕ) (cs : List Change) → AreBytes b → counted_in wide b ≡ Some cs
    → (b ≡ (to_le_bytes w32 (length cs) ++ changes_bytes wide cs) ++ drop (4 + changes_size wide cs) b) × ((length cs ≤ most_changes) × (AreChanges cs × (wide ≡ false → any_text cs ≡ false)))
counted_read wide b cs are is =
    let count = chained (λ n. cond (nat_le n most_changes) (changes_in wide n (drop 4 b)) None) (u32_in b) cs is in
    let n = count.0 in
    let held = tested (nat_le n most_changes) (changes_in wide n (drop 4 b)) cs count.2 in
    let number = u32_read b n are count.1 in
    let read = changes_read wide n (drop 4 b) cs (behind 4 b are) held.1 in
    let first : b ≡ to_le_bytes w32 (length cs) ++ drop 4 b = number.0 ∙ ap (λ (m : ℕ). to_le_bytes w32 m ++ drop 4 b) (sym read.1.1.0) in
    (two_parts 4 (changes_size wide cs) b (to_le_bytes w32 (length cs)) (changes_bytes wide cs) first read.0, (omega (arith, le_from n most_changes held.0, read.1.1.0), (read.1.0, read.1.1.1)))

-- three parts, one behind another
three_parts : (k m n : ℕ) (b x y z : List ℕ) → b ≡ x ++ drop k b → drop k b ≡ y ++ drop m (drop k b) → drop (k + m) b ≡ z ++ drop n (drop (k + m) b) → b ≡ (x ++ (y ++ z)) ++ drop (k + m + n) b
three_parts k m n b x y z first second third =
    two_parts (k + m) n b (x ++ y) z (two_parts k m b x y first second) third ∙ ap (λ (l : List ℕ). l ++ drop (k + m + n) b) (append_assoc x y z)

-- the changes of a commit are of its kind
kind_is : (wide : Bool) (cs : List Change) → are_of_kind wide cs ≡ true → (wide ≡ false → any_text cs ≡ false) → any_text cs ≡ wide
kind_is true cs some none = some
kind_is false cs some none = none refl

commit_parts : (wide : Bool) (b : List ℕ) (branch : ℕ) (second : Option VersionPlace) (cs : List Change) (e : Entry) → AreBytes b → u32_in b ≡ Some branch → second_in (drop 4 b) ≡ Some second
    → counted_in wide (drop (4 + second_size second) b) ≡ Some cs → commit_of wide branch second cs ≡ Some e → (kind_of wide ∷ b ≡ spelling e ++ drop (entry_size e) (kind_of wide ∷ b)) × IsEntry e
commit_parts wide b branch second cs e are numbered parent counted made =
    let number = u32_read b branch are numbered in
    let other = second_read (drop 4 b) second (behind 4 b are) parent in
    let from = 4 + second_size second in
    let list = counted_read wide (drop from b) cs (behind from b are) counted in
    let held = tested (makes_version second cs && (ascends cs && are_of_kind wide cs)) (Some (Commit branch second cs)) e made in
    let rules = both (makes_version second cs) (ascends cs && are_of_kind wide cs) held.0 in
    let order = both (ascends cs) (are_of_kind wide cs) rules.1 in
    let kind : any_text cs ≡ wide = kind_is wide cs order.1 list.1.1.1 in
    let parts = to_le_bytes w32 branch ++ (second_bytes second ++ (to_le_bytes w32 (length cs) ++ changes_bytes wide cs)) in
    let whole : b ≡ parts ++ drop (4 + second_size second + (4 + changes_size wide cs)) b =
    three_parts 4 (second_size second) (4 + changes_size wide cs) b (to_le_bytes w32 branch) (second_bytes second) (to_le_bytes w32 (length cs) ++ changes_bytes wide cs) number.0 other.0 list.0 in
    let size : 9 + second_size second + changes_size wide cs ≡ suc (4 + second_size second + (4 + changes_size wide cs)) = omega arith in
    let spelled : kind_of wide ∷ b ≡ (kind_of wide ∷ parts) ++ drop (9 + second_size second + changes_size wide cs) (kind_of wide ∷ b) =
    ap (λ (l : List ℕ). kind_of wide ∷ l) whole
    ∙ ap (λ (l : List ℕ). (kind_of wide ∷ parts) ++ l) (sym (past_one (9 + second_size second + changes_size wide cs) (4 + second_size second + (4 + changes_size wide cs)) (kind_of wide) b size)) in
    subst (λ (x : Entry). (kind_of wide ∷ b ≡ spelling x ++ drop (entry_size x) (kind_of wide ∷ b)) × IsEntry x) (some_is (Commit branch second cs) e held.1) (
      subst (λ (w : Bool). kind_of wide ∷ b ≡ (kind_of w ∷ (to_le_bytes w32 branch ++ (second_bytes second ++ (to_le_bytes w32 (length cs) ++ changes_bytes w cs)))) ++ drop (9 + second_size second + changes_size w cs) (kind_of wide ∷ b)) (sym kind) spelled,
      record { number = number.1; parent = other.1; few = list.1.0; each = list.1.1.0; some = rules.0; ascending = order.0 },
    )

-- the size of a commit that was read
pub commit_size : (wide : Bool) (b : List ℕ) (branch : ℕ) (second : Option VersionPlace) (cs : List Change) (e : Entry) → AreBytes b → counted_in wide b ≡ Some cs → commit_of wide branch second cs ≡ Some e → 9 + second_size second + changes_size wide cs ≡ entry_size e
commit_size wide b branch second cs e are counted made =
    let list = counted_read wide b cs are counted in
    let held = tested (makes_version second cs && (ascends cs && are_of_kind wide cs)) (Some (Commit branch second cs)) e made in
    let rules = both (makes_version second cs) (ascends cs && are_of_kind wide cs) held.0 in
    let order = both (ascends cs) (are_of_kind wide cs) rules.1 in
    let kind : any_text cs ≡ wide = kind_is wide cs order.1 list.1.1.1 in
    sym (ap (λ (w : Bool). 9 + second_size second + changes_size w cs) kind) ∙ ap entry_size (some_is (Commit branch second cs) e held.1)

commit_read : (wide : Bool) (b : List ℕ) (e : Entry) → AreBytes b → commit_in wide b ≡ Some e → (kind_of wide ∷ b ≡ spelling e ++ drop (entry_size e) (kind_of wide ∷ b)) × IsEntry e
commit_read wide b e are is =
    let one = chained (λ branch. option_and_then (λ second. option_and_then (commit_of wide branch second) (counted_in wide (drop (4 + second_size second) b))) (second_in (drop 4 b))) (u32_in b) e is in
    let two = chained (λ second. option_and_then (commit_of wide one.0 second) (counted_in wide (drop (4 + second_size second) b))) (second_in (drop 4 b)) e one.2 in
    let three = chained (commit_of wide one.0 two.0) (counted_in wide (drop (4 + second_size two.0) b)) e two.2 in
    commit_parts wide b one.0 two.0 three.0 e are one.1 two.1 three.1 three.2

branch_parts : (n : ℕ) (b : List ℕ) (origin : VersionPlace) → AreBytes b → n ≤ length b → is_name (take n b) ≡ true → place_in (drop n b) ≡ Some origin
    → (2 ∷ (n ∷ b) ≡ spelling (Branch (take n b) origin) ++ drop (entry_size (Branch (take n b) origin)) (2 ∷ (n ∷ b))) × IsEntry (Branch (take n b) origin)
branch_parts n b origin are long named placed =
    let at = place_read (drop n b) origin (behind n b are) placed in
    let size : length (take n b) ≡ n = length-take-le n b long in
    let whole : b ≡ (take n b ++ place_bytes origin) ++ drop (n + 8) b = two_parts n 8 b (take n b) (place_bytes origin) (split_at n b (take n b) refl) at.0 in
    let number : 10 + length (take n b) ≡ suc (suc (n + 8)) = omega (arith, size) in (
      ap (λ (l : List ℕ). 2 ∷ (n ∷ l)) whole ∙ ap (λ (k : ℕ). 2 ∷ (k ∷ ((take n b ++ place_bytes origin) ++ drop (n + 8) b))) (sym size)
          ∙ ap (λ (l : List ℕ). spelling (Branch (take n b) origin) ++ l) (sym (past_two (10 + length (take n b)) (n + 8) 2 n b number)),
      (named, at.1),
    )

branch_read : (b : List ℕ) (e : Entry) → AreBytes b → branch_in b ≡ Some e → (2 ∷ b ≡ spelling e ++ drop (entry_size e) (2 ∷ b)) × IsEntry e
branch_read [] e are is = absurd (cc is)
branch_read (n ∷ b) e are is =
    let held = tested (nat_le n (length b) && is_name (take n b)) (option_map (Branch (take n b)) (place_in (drop n b))) e is in
    let rules = both (nat_le n (length b)) (is_name (take n b)) held.0 in
    let placed = mapped (Branch (take n b)) (place_in (drop n b)) e held.1 in
    subst (λ (x : Entry). (2 ∷ (n ∷ b) ≡ spelling x ++ drop (entry_size x) (2 ∷ (n ∷ b))) × IsEntry x) placed.2
    (branch_parts n b placed.0 (tail n b are) (le_from n (length b) rules.0) rules.1 placed.1)

spelled_with : (p q r : Bool) (tag : ℕ) (b : List ℕ) (e : Entry) → AreBytes b → (p ≡ true → tag ≡ 1) → (q ≡ true → tag ≡ 3) → (r ≡ true → tag ≡ 2)
    → cond p (commit_in false b) (cond q (commit_in true b) (cond r (branch_in b) None)) ≡ Some e → (tag ∷ b ≡ spelling e ++ drop (entry_size e) (tag ∷ b)) × IsEntry e
spelled_with true q r tag b e are one three two is = subst (λ (n : ℕ). (n ∷ b ≡ spelling e ++ drop (entry_size e) (n ∷ b)) × IsEntry e) (sym (one refl)) (commit_read false b e are is)
spelled_with false true r tag b e are one three two is = subst (λ (n : ℕ). (n ∷ b ≡ spelling e ++ drop (entry_size e) (n ∷ b)) × IsEntry e) (sym (three refl)) (commit_read true b e are is)
spelled_with false false true tag b e are one three two is = subst (λ (n : ℕ). (n ∷ b ≡ spelling e ++ drop (entry_size e) (n ∷ b)) × IsEntry e) (sym (two refl)) (branch_read b e are is)
spelled_with false false false tag b e are one three two is = absurd (cc is)

pub spelled : (b : List ℕ) (e : Entry) → AreBytes b → entry_in b ≡ Some e → (b ≡ spelling e ++ drop (entry_size e) b) × IsEntry e
spelled [] e are is = absurd (cc is)
spelled (tag ∷ b) e are is = spelled_with (tag == 1) (tag == 3) (tag == 2) tag b e (tail tag b are) (is_number tag 1) (is_number tag 3) (is_number tag 2) is

body_from : (n : ℕ) (b : List ℕ) (es : List Entry) → AreBytes b → entries_from n b ≡ Some es → (b ≡ spellings es) × AreEntries es
body_from n [] es are is = subst (λ (l : List Entry). ([] ≡ spellings l) × AreEntries l) (some_is [] es is) (refl, tt)
body_from zero (x ∷ b) es are is = absurd (cc is)
body_from (suc n) (x ∷ b) es are is =
    let first = chained (λ e. option_map (onto_entries e) (entries_from n (drop (entry_size e) (x ∷ b)))) (entry_in (x ∷ b)) es is in
    let e = first.0 in
    let more = mapped (onto_entries e) (entries_from n (drop (entry_size e) (x ∷ b))) es first.2 in
    let one = spelled (x ∷ b) e are first.1 in
    let others = body_from n (drop (entry_size e) (x ∷ b)) more.0 (behind (entry_size e) (x ∷ b) are) more.1 in
    subst (λ (l : List Entry). (x ∷ b ≡ spellings l) × AreEntries l) more.2 (one.0 ∙ ap (λ (l : List ℕ). spelling e ++ l) others.0, (one.1, others.1))

pub body_spelled : (b : List ℕ) (es : List Entry) → AreBytes b → entries_in b ≡ Some es → (b ≡ spellings es) × AreEntries es
body_spelled b es are is = body_from (length b) b es are is
