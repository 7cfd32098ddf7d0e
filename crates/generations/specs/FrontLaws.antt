-- What stands behind a front, and what two files open to.
use Rattle.std.proofs.Common.{◌≡◌, ◌⊎◌, inl, inr, zero, suc, ℕ, ◌+◌, ◌<◌, ◌≤◌, ◌&&◌, nat_le, nat_lt, nat_eq, cond, Bool, true, false, List, [], ◌∷◌, ◌++◌, length, get_or, take, drop, refl, sym, ◌∙◌, ap, subst, arith, append_assoc, length-append, length-drop, Option, Some, None}
use Rattle.std.proofs.lemmas.Bool.{and_from, and_parts, lt-ltb, le-ltb, eq-eqb, ne_eqb}
use Rattle.std.proofs.lemmas.List.{take_at, drop_at, drop-drop, get_or-drop, append-nil, take-append-le, drop-append-le}
use Rattle.std.proofs.lemmas.Nat.{from_le_bytes-to_le_bytes_4}
use Rattle.std.specs.Int.{w32, w64, to_le_bytes, from_le_bytes}
use Rattle.std.specs.Cmp.Lexicographic.{pointwise}
use Rattle.sha2.specs.Sha256.{sha256}
use Rattle.sha2.proofs.Facts256.{length-sha256}
use Rattle.db_value.specs.declared.entry.Entry.{Entry}
use Rattle.db_store.specs.State.{State}
use Rattle.db_outside.specs.Record.{record_of, most_body}
use Rattle.gate_journal.specs.Gate.{IsShut}
use Rattle.gate_journal.specs.Reading.{closed_at, Reading, size_in, digest_in, inner, is_long, is_sound, nothing, onto, one_record, reading}
use Rattle.gate_journal.proofs.Walk.{enough, pick_2}
use Rattle.generations.specs.Ends.{with_record, Ends, MayEnd, EndsInOneOf}
use Rattle.generations.specs.Files.{is_mark, has_header, generation_of, file_reads, applied, behind, walk, walked, by_entries, by_state, Outcome, damaged, opened, Files, counts, counting, reads_by, no_header, number_of}
use Rattle.generations.specs.Asides.{IsFront, IsBeside}
use Rattle.generations.specs.Fronts.{Follows, OpensTo, OpensToMore, MayOpenTo, OpensToOneOf}

-- These bytes behind an open gate are a record of this body, whatever stands behind them.
pub record IsRecord (w body : List ℕ) : Type 0 where
  pub size : size_in w ≡ length body
  pub long : length w ≡ 36 + length body
  pub able : is_long w ≡ true
  pub sound : is_sound w ≡ true
  pub is : inner w ≡ body

module _ (w body rest : List ℕ) (r : IsRecord w body) where
  size_there : size_in (w ++ rest) ≡ size_in w
  size_there = ap (λ (l : List ℕ). from_le_bytes w32 l) (take-append-le 4 w rest (omega (arith, r.long)))

  digest_there : digest_in (w ++ rest) ≡ digest_in w
  digest_there = ap (λ (l : List ℕ). take 32 l) (drop-append-le 4 w rest (omega (arith, r.long))) ∙ take-append-le 32 (drop 4 w) rest (omega (arith, r.long, length-drop 4 w))

  inner_there : inner (w ++ rest) ≡ inner w
  inner_there =
      ap (λ (k : ℕ). take k (drop 36 (w ++ rest))) size_there ∙ ap (λ (l : List ℕ). take (size_in w) l) (drop-append-le 36 w rest (omega (arith, r.long)))
      ∙ take-append-le (size_in w) (drop 36 w) rest (omega (arith, r.long, length-drop 36 w, r.size))

  sound_there : is_sound (w ++ rest) ≡ true
  sound_there = ap (λ (l : List ℕ). pointwise nat_eq l (sha256 (inner (w ++ rest)))) digest_there ∙ ap (λ (l : List ℕ). pointwise nat_eq (digest_in w) (sha256 l)) inner_there ∙ r.sound

  long_there : is_long (w ++ rest) ≡ true
  long_there = search (arith, r.able, size_there, length-append w rest)

  left_there : drop (36 + size_in (w ++ rest)) (w ++ rest) ≡ rest
  left_there = ap (λ (k : ℕ). drop (36 + k) (w ++ rest)) size_there ∙ drop_at w rest (36 + size_in w) (omega (arith, r.long, r.size))

  -- a record and what stands behind it
  pub one : (n at : ℕ) → reading (suc n) at (1 ∷ (w ++ rest)) ≡ onto body (reading n (at + (37 + length body)) rest)
  one n at =
      pick_2 (is_long (w ++ rest)) (is_sound (w ++ rest)) _ _ _ long_there sound_there
      ∙ ap (λ (l : List ℕ). onto l (reading n (at + (37 + size_in (w ++ rest))) (drop (36 + size_in (w ++ rest)) (w ++ rest)))) (inner_there ∙ r.is)
      ∙ ap (λ (k : ℕ). onto body (reading n (at + (37 + k)) (drop (36 + size_in (w ++ rest)) (w ++ rest)))) (size_there ∙ r.size)
      ∙ ap (λ (l : List ℕ). onto body (reading n (at + (37 + length body)) l)) left_there

pub behind_behind : (es more : List Entry) (o : Outcome) → behind es (behind more o) ≡ behind (es ++ more) o
behind_behind es more (damaged at cause) = refl
behind_behind es more (opened s last at) = ap (λ (l : List Entry). opened s l at) (sym (append_assoc es more last))

-- one record more, whose entries fit
walked_onto : (s : State) (at : ℕ) (body : List ℕ) (r : Reading) (f : Follows s body) → walked s at (onto body r) ≡ behind f.entries (walked f.state (at + (37 + length body)) r)
walked_onto s at body r f =
    ap (λ (o : Option (List Entry)). by_entries at o (λ es. by_state at (applied s es) (λ t. behind es (walk t (at + (37 + length body)) r.bodies r.ends)))) f.read
    ∙ ap (λ (o : Option State). by_state at o (λ t. behind f.entries (walk t (at + (37 + length body)) r.bodies r.ends))) f.fit

pub header_there : (front rest : List ℕ) → has_header front ≡ true → has_header (front ++ rest) ≡ true
header_there front rest is =
    let parts = and_parts (nat_le 57 (length front)) (is_mark (take 9 front)) is in
    let long : 57 ≤ length front = search (arith, parts.0) in
    let whole : nat_le 57 (length (front ++ rest)) ≡ true = search (arith, long, length-append front rest) in
    and_from (nat_le 57 (length (front ++ rest))) (is_mark (take 9 (front ++ rest))) whole (ap (λ (l : List ℕ). is_mark l) (take-append-le 9 front rest (omega (arith, long))) ∙ parts.1)

long_front : (front : List ℕ) → has_header front ≡ true → 57 ≤ length front
long_front front is = let parts = and_parts (nat_le 57 (length front)) (is_mark (take 9 front)) is in search (arith, parts.0)

pub generation_there : (front rest : List ℕ) → has_header front ≡ true → generation_of (front ++ rest) ≡ generation_of front
generation_there front rest is =
    let long = long_front front is in
    ap (λ (l : List ℕ). from_le_bytes w64 (take 8 l)) (drop-append-le 9 front rest (omega (arith, long))) ∙ ap (λ (l : List ℕ). from_le_bytes w64 l) (take-append-le 8 (drop 9 front) rest (omega (arith, long, length-drop 9 front)))

-- a front with one record more
pub longer_front : (front w body : List ℕ) (g : ℕ) (s : State) (es : List Entry) (f : Follows s body) → IsRecord w body → IsFront front g s es → IsFront (front ++ 1 ∷ w) g f.state (es ++ f.entries)
longer_front front w body g s es f r is =
    record {
      header = header_there front (1 ∷ w) is.header;
      generation = generation_there front (1 ∷ w) is.header ∙ is.generation;
      reads_on = λ rest.
          let size : length (front ++ 1 ∷ w) ≡ length front + (37 + length body) = omega (arith, length-append front (1 ∷ w), r.long) in
          let steps : length rest ≤ length (w ++ rest) = omega (arith, length-append w rest) in
          let read : reading (length (1 ∷ (w ++ rest))) (length front) (1 ∷ (w ++ rest)) ≡ onto body (reading (length rest) (length (front ++ 1 ∷ w)) rest) =
          one w body rest r (length (w ++ rest)) (length front)
          ∙ ap (λ (x : Reading). onto body x) (enough (length (w ++ rest)) (length rest) (length front + (37 + length body)) rest steps (omega arith))
          ∙ ap (λ (k : ℕ). onto body (reading (length rest) k rest)) (sym size) in
          ap (λ (l : List ℕ). file_reads l) (append_assoc front (1 ∷ w) rest)
          ∙ is.reads_on (1 ∷ (w ++ rest))
          ∙ ap (λ (x : Reading). behind es (walked s (length front) x)) read
          ∙ ap (λ (o : Outcome). behind es o) (walked_onto s (length front) body (reading (length rest) (length (front ++ 1 ∷ w)) rest) f)
          ∙ behind_behind es f.entries (walked f.state (length front + (37 + length body)) (reading (length rest) (length (front ++ 1 ∷ w)) rest))
          ∙ ap (λ (k : ℕ). behind (es ++ f.entries) (walked f.state k (reading (length rest) (length (front ++ 1 ∷ w)) rest))) (sym size);
    }

-- the record that a batch has
pub record_is : (body : List ℕ) → 0 < length body → length body ≤ most_body → IsRecord (record_of body) body
record_is body some few =
    let size : size_in (record_of body) ≡ length body = from_le_bytes-to_le_bytes_4 (length body) (omega (arith, few)) in
    let long : length (record_of body) ≡ 36 + length body = omega (arith, length-append (to_le_bytes w32 (length body) ++ sha256 body) body, length-append (to_le_bytes w32 (length body)) (sha256 body), length-sha256 body) in
    let behind_length : drop 4 (record_of body) ≡ sha256 body ++ body = refl in
    let digest : digest_in (record_of body) ≡ sha256 body = take_at (sha256 body) body 32 (length-sha256 body) in
    let back : drop 36 (record_of body) ≡ body = sym (drop-drop 32 4 (record_of body)) ∙ drop_at (sha256 body) body 32 (length-sha256 body) in
    let is : inner (record_of body) ≡ body = ap (λ (l : List ℕ). take (size_in (record_of body)) l) back ∙ ap (λ (k : ℕ). take k body) size ∙ take_whole body in
    record {
      size = size;
      long = long;
      able = search (arith, size, long, some, few);
      sound = ap (λ (l : List ℕ). pointwise nat_eq l (sha256 (inner (record_of body)))) digest ∙ ap (λ (l : List ℕ). pointwise nat_eq (sha256 body) (sha256 l)) is ∙ same_self (sha256 body);
      is = is;
    }
  where
    same_self : (xs : List ℕ) → pointwise nat_eq xs xs ≡ true
    same_self [] = refl
    same_self (x ∷ xs) = and_from (nat_eq x x) (pointwise nat_eq xs xs) (eq-eqb x x refl) (same_self xs)

    take_whole : (xs : List ℕ) → take (length xs) xs ≡ xs
    take_whole [] = refl
    take_whole (x ∷ xs) = ap (λ (l : List ℕ). x ∷ l) (take_whole xs)

pub more_front : (front body : List ℕ) (g : ℕ) (s : State) (es : List Entry) (f : Follows s body) → IsFront front g s es → IsFront (with_record front body) g f.state (es ++ f.entries)
more_front front body g s es f is = longer_front front (record_of body) body g s es f (record_is body f.some f.few) is

closed_reading : (n at : ℕ) (l : List ℕ) → IsShut 0 l → length l ≤ n → reading n at l ≡ nothing (closed_at at)
closed_reading n at [] shut le = absurd (shut refl)
closed_reading zero at (x ∷ l) shut le = absurd (omega (arith, le))
closed_reading (suc n) at (x ∷ l) shut le = ap (λ (q : Bool). cond q (one_record at l (reading n (at + (37 + size_in l)) (drop (36 + size_in l) l))) (nothing (closed_at at))) (ne_eqb x 1 shut)

-- a file that ends with a closed gate behind its front
pub ends_reads : (front c : List ℕ) (g : ℕ) (s : State) (es : List Entry) → IsFront front g s es → Ends front c → file_reads c ≡ opened s es (length front)
ends_reads front c g s es is ends =
    let rest = ends.spelled.0 in
    let far : drop (length front) c ≡ rest = ap (λ (l : List ℕ). drop (length front) l) ends.spelled.1 ∙ drop_at front rest (length front) refl in
    let number : length front + 0 ≡ length front = omega arith in
    let byte : get_or rest 0 1 ≡ get_or c (length front) 1 = ap (λ (l : List ℕ). get_or l 0 1) (sym far) ∙ get_or-drop (length front) c 0 1 ∙ ap (λ (k : ℕ). get_or c k 1) number in
    ap (λ (l : List ℕ). file_reads l) ends.spelled.1 ∙ is.reads_on rest
    ∙ ap (λ (r : Reading). behind es (walked s (length front) r)) (closed_reading (length rest) (length front) rest (λ one_there. ends.shut (sym byte ∙ one_there)) (omega arith))
    ∙ ap (λ (l : List Entry). opened s l (length front)) (append-nil es)

both_false : (a b : Bool) → (a ≡ true → b ≡ false) → a && b ≡ false
both_false true b not_b = not_b refl
both_false false b not_b = refl

choose_here : (p q r : Bool) (x y z w : Files) → p ≡ true → q ≡ false → cond p (cond q x y) (cond r z w) ≡ y
choose_here true true r x y z w is bad = absurd (cc bad)
choose_here true false r x y z w is bad = refl
choose_here false q r x y z w is bad = absurd (cc is)

choose_there : (p q r : Bool) (x y z w : Files) → (p ≡ true → q ≡ true) → r ≡ true → x ≡ z → cond p (cond q x y) (cond r z w) ≡ z
choose_there true true r x y z w is there same = same
choose_there true false r x y z w is there same = let bad = is refl in absurd (cc bad)
choose_there false q true x y z w is there same = refl
choose_there false q false x y z w is there same = absurd (cc there)

-- a file that counts beside one that doesn't
counted_is : (second : Bool) (g : ℕ) (c d : List ℕ) → has_header c ≡ true → generation_of c ≡ g → IsBeside second g d → reads_by second c d ≡ counting (number_of second) c
counted_is false g c d header is beside =
    choose_here (has_header c) (has_header d && nat_lt (generation_of c) (generation_of d)) (has_header d) (counting 1 d) (counting 0 c) (counting 1 d) no_header header
    (both_false (has_header d) (nat_lt (generation_of c) (generation_of d)) (λ there. let le = beside there in le-ltb (generation_of c) (generation_of d) (omega (arith, le, is))))
counted_is true g c d header is beside =
    choose_there (has_header d) (has_header c && nat_lt (generation_of d) (generation_of c)) (has_header c) (counting 1 c) (counting 0 d) (counting 1 c) no_header
    (λ there. and_from (has_header c) (nat_lt (generation_of d) (generation_of c)) header (lt-ltb (generation_of d) (generation_of c) (let lt = beside there in omega (arith, lt, is)))) header refl

module _ (second : Bool) (g : ℕ) (s : State) (es : List Entry) (front : List ℕ) (is : IsFront front g s es) where
  pub opens_to : (c d : List ℕ) → Ends front c → IsBeside second g d → OpensTo second g s es c d
  opens_to c d ends beside =
      let header : has_header c ≡ true = ap has_header ends.spelled.1 ∙ header_there front ends.spelled.0 is.header in
      let generation : generation_of c ≡ g = ap generation_of ends.spelled.1 ∙ generation_there front ends.spelled.0 is.header ∙ is.generation in
      (length front, counted_is second g c d header generation beside ∙ ap (λ (n : ℕ). counts (number_of second) n (file_reads c)) generation ∙ ap (λ (o : Outcome). counts (number_of second) g o) (ends_reads front c g s es is ends))

pub opens_to_more : (second : Bool) (g : ℕ) (s : State) (es : List Entry) (front : List ℕ) (is : IsFront front g s es) (body c d : List ℕ) → Follows s body → Ends (with_record front body) c → IsBeside second g d
    → OpensToMore second g s es body c d
opens_to_more second g s es front is body c d f ends beside = (f, opens_to second g f.state (es ++ f.entries) (with_record front body) (more_front front body g s es f is) c d ends beside)

pub may_open : (second : Bool) (g : ℕ) (s : State) (es : List Entry) (front : List ℕ) (is : IsFront front g s es) (pending : Option (List ℕ)) (c d : List ℕ) → ((body : List ℕ) → pending ≡ Some body → Follows s body) → MayEnd front pending c
    → IsBeside second g d → MayOpenTo second g s es pending c d
may_open second g s es front is pending c d fits (inl ends) beside = inl (opens_to second g s es front is c d ends beside)
may_open second g s es front is pending c d fits (inr more) beside = inr (more.0, more.1, opens_to_more second g s es front is more.0 c d (fits more.0 more.1) more.2 beside)

pub one_of : (second : Bool) (g : ℕ) (s : State) (es : List Entry) (front : List ℕ) (is : IsFront front g s es) (pending : Option (List ℕ)) (batch c d : List ℕ) → ((body : List ℕ) → pending ≡ Some body → Follows s body) → Follows s batch
    → EndsInOneOf front pending batch c → IsBeside second g d → OpensToOneOf second g s es pending batch c d
one_of second g s es front is pending batch c d fits f (inl may) beside = inl (may_open second g s es front is pending c d fits may beside)
one_of second g s es front is pending batch c d fits f (inr ends) beside = inr (opens_to_more second g s es front is batch c d f ends beside)

pub pending_fits : (s : State) (f : Option (List ℕ)) (batch : List ℕ) (h : Option (List ℕ)) → ((body : List ℕ) → f ≡ Some body → Follows s body) → Follows s batch → (h ≡ None) ⊎ (h ≡ f) ⊎ (h ≡ Some batch) → (body : List ℕ) → h ≡ Some body → Follows s body
pending_fits s f batch h fits follows (inl none) body is = let bad : None ≡ Some body = sym none ∙ is in absurd (cc bad)
pending_fits s f batch h fits follows (inr (inl same)) body is = fits body (sym same ∙ is)
pending_fits s f batch h fits follows (inr (inr new)) body is = let one_body : Some batch ≡ Some body = sym new ∙ is in let same : batch ≡ body = cc one_body in subst (λ (l : List ℕ). Follows s l) same follows

pub not_empty : (body : List ℕ) → 0 < length body → body ≡ [] → ⊥
not_empty body some none = omega (arith, some, ap length none)
