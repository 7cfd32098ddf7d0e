-- What a file with a closed gate is read as is the front of the file.
use Rattle.std.proofs.Common.{◌≡◌, ◌⊎◌, inl, inr, zero, suc, ℕ, ◌+◌, ◌<◌, ◌≤◌, ◌^◌, ◌==◌, ◌&&◌, nat_le, nat_eq, cond, Bool, true, false, List, [], ◌∷◌, ◌++◌, length, get_or, take, drop, refl, sym, ◌∙◌, ap, subst, arith, append_assoc, length-append, length-drop, Option, Some, None, Result, Ok, Err}
use Rattle.std.proofs.lemmas.Bool.{and_from, and_parts, eqb-true}
use Rattle.std.proofs.lemmas.List.{drop_at, take-append-le, drop-append-le, get_or-drop, append-nil, take-take, drop-take, length-take-le, take-append-drop}
use Rattle.std.specs.Int.{w32, w64, from_le_bytes}
use Rattle.std.specs.Cmp.Lexicographic.{pointwise}
use Rattle.sha2.specs.Sha256.{sha256}
use Rattle.db_value.specs.declared.entry.Entry.{Entry}
use Rattle.db_store.specs.State.{State}
use Rattle.db_outside.specs.Record.{most_body}
use Rattle.entry_codec.specs.Grammar.{entries_in}
use Rattle.gate_journal.specs.declared.cause.Cause.TheVariants.{Length, Digest}
use Rattle.gate_journal.specs.Reading.{closed_at, damaged_at, Reading, size_in, digest_in, inner, is_long, is_sound, nothing, onto, one_record, reading}
use Rattle.image_text.specs.declared.image.Format.{Format}
use Rattle.image_text.specs.declared.image.Image.{Image}
use Rattle.generations.specs.ImageState.{image_state}
use Rattle.gate_journal.specs.Reading.{records_from}
use Rattle.image_parts.specs.Whole.{image_at}
use Rattle.generations.specs.Files.{is_mark, named, has_header, format_of, generation_of, image_length, image_digest, image_in, by_header, by_image}
use Rattle.generations.proofs.Opening.{header_3}
use Rattle.generations.proofs.Walks.{behind_none}
use Rattle.generations.specs.Ends.{Ends}
use Rattle.generations.specs.Files.{Outcome, damaged, opened, applied, behind, walk, walked, by_entries, by_state, file_reads}
use Rattle.generations.specs.Fronts.{IsFront, Follows}
use Rattle.generations.specs.FrontLaws.{IsRecord, longer_front}

pub record LongParts (b : List ℕ) : Type 0 where
  pub some : 0 < size_in b
  pub few : size_in b ≤ most_body
  pub fits : 36 + size_in b ≤ length b

long_parts : (b : List ℕ) → is_long b ≡ true → LongParts b
long_parts b able = record { some = search (arith, able); few = search (arith, able); fits = search (arith, able) }

-- a record that was read, as bytes
record_read : (b : List ℕ) → is_long b ≡ true → is_sound b ≡ true → IsRecord (take (36 + size_in b) b) (inner b)
record_read b able sound =
    let n = size_in b in
    let parts = long_parts b able in
    let fits = parts.fits in
    let some = parts.some in
    let few = parts.few in
    let w = take (36 + n) b in
    let long : length w ≡ 36 + n = length-take-le (36 + n) b fits in
    let size : size_in w ≡ n = ap (λ (l : List ℕ). from_le_bytes w32 l) (take-take 4 (36 + n) b (omega arith)) in
    let digest : digest_in w ≡ digest_in b =
    let number : 36 + n ≡ 4 + (32 + n) = omega arith in
    ap (λ (k : ℕ). take 32 (drop 4 (take k b))) number ∙ ap (λ (l : List ℕ). take 32 l) (drop-take 4 (32 + n) b) ∙ take-take 32 (32 + n) (drop 4 b) (omega arith) in
    let body : inner w ≡ inner b = ap (λ (k : ℕ). take k (drop 36 w)) size ∙ ap (λ (l : List ℕ). take n l) (drop-take 36 n b) ∙ take-take n n (drop 36 b) (omega arith) in
    let long_body : length (inner b) ≡ n = length-take-le n (drop 36 b) (omega (arith, fits, length-drop 36 b)) in
    record {
      size = size ∙ sym long_body;
      long = omega (arith, long, long_body);
      able = search (arith, size, some, few, long);
      sound = ap (λ (l : List ℕ). pointwise nat_eq l (sha256 (inner w))) digest ∙ ap (λ (l : List ℕ). pointwise nat_eq (digest_in b) (sha256 l)) body ∙ sound;
      is = body;
    }

-- what was read of a file: a front of it, behind which a gate is closed
pub record Found (c : List ℕ) (g : ℕ) (t : State) (es : List Entry) (p : ℕ) : Type 0 where
  pub front : List ℕ
  pub is_front : IsFront front g t es
  pub place : p ≡ length front
  pub ends : Ends front c

pub same_opened : (s t : State) (es fs : List Entry) (p q : ℕ) → opened s es p ≡ opened t fs q → (s ≡ t) × (es ≡ fs) × (p ≡ q)
same_opened s t es fs p q is = (cc is, cc is, cc is)

-- the state, the entries and the place at an outcome that is behind others
pub split_behind : (es : List Entry) (o : Outcome) (t : State) (more : List Entry) (p : ℕ) → behind es o ≡ opened t more p → (m : List Entry) × (o ≡ opened t m p) × (more ≡ es ++ m)
split_behind es (damaged at cause) t more p is = absurd (cc is)
split_behind es (opened s m q) t more p is =
    let parts = same_opened s t (es ++ m) more q p is in
    (m, ap (λ (x : State). opened x m q) parts.0 ∙ ap (λ (k : ℕ). opened t m k) parts.2, sym parts.1)

pub by_entries_some : (at : ℕ) (o : Option (List Entry)) (go : List Entry → Outcome) (t : State) (more : List Entry) (p : ℕ) → by_entries at o go ≡ opened t more p → (es : List Entry) × (o ≡ Some es) × (go es ≡ opened t more p)
by_entries_some at None go t more p is = absurd (cc is)
by_entries_some at (Some es) go t more p is = (es, refl, is)

pub by_state_some : (at : ℕ) (o : Option State) (go : State → Outcome) (t : State) (more : List Entry) (p : ℕ) → by_state at o go ≡ opened t more p → (u : State) × (o ≡ Some u) × (go u ≡ opened t more p)
by_state_some at None go t more p is = absurd (cc is)
by_state_some at (Some u) go t more p is = (u, refl, is)

gate_cases : (q : Bool) (x y : Reading) (s : State) (at : ℕ) (o : Outcome) → walked s at (cond q x y) ≡ o → ((q ≡ true) × (walked s at x ≡ o)) ⊎ ((q ≡ false) × (walked s at y ≡ o))
gate_cases true x y s at o is = inl (refl, is)
gate_cases false x y s at o is = inr (refl, is)

record_cases : (p q : Bool) (x : Reading) (s : State) (at : ℕ) (t : State) (more : List Entry) (place : ℕ) → walked s at (cond p (cond q x (nothing (damaged_at at Digest))) (nothing (damaged_at at Length))) ≡ opened t more place
    → (p ≡ true) × (q ≡ true) × (walked s at x ≡ opened t more place)
record_cases true true x s at t more place is = (refl, refl, is)
record_cases true false x s at t more place is = absurd (cc is)
record_cases false q x s at t more place is = absurd (cc is)

module _ (c : List ℕ) (g n : ℕ)
    (ih : (front rest : List ℕ) (s : State) (es : List Entry) (t : State) (more : List Entry) (p : ℕ) → IsFront front g s es → c ≡ front ++ rest → length rest ≤ n
    → walked s (length front) (reading n (length front) rest) ≡ opened t more p → Found c g t (es ++ more) p)
    (front b : List ℕ) (x : ℕ) (s : State) (es : List Entry) (t : State) (more : List Entry) (p : ℕ) (is : IsFront front g s es) (split : c ≡ front ++ x ∷ b) (fuel : length (x ∷ b) ≤ suc n) where
  abbrev rest_read : Reading
  rest_read = reading n (length front + (37 + size_in b)) (drop (36 + size_in b) b)

  shut_here : (x == 1) ≡ false → opened s [] (length front) ≡ opened t more p → Found c g t (es ++ more) p
  shut_here shut read =
      let parts = same_opened s t [] more (length front) p read in
      let byte : get_or c (length front) 1 ≡ x =
      let number : length front + 0 ≡ length front = omega arith in
      ap (λ (k : ℕ). get_or c k 1) (sym number) ∙ sym (get_or-drop (length front) c 0 1) ∙ ap (λ (l : List ℕ). get_or (drop (length front) l) 0 1) split ∙ ap (λ (l : List ℕ). get_or l 0 1) (drop_at front (x ∷ b) (length front) refl) in
      record {
        front = front;
        is_front = subst (λ (u : State). IsFront front g u (es ++ more)) parts.0 (subst (λ (l : List Entry). IsFront front g s l) (sym (append-nil es) ∙ ap (λ (l : List Entry). es ++ l) parts.1) is);
        place = sym parts.2;
        ends = record { spelled = (x ∷ b, split); shut = λ one. let bad : (x == 1) ≡ true = ap (λ (k : ℕ). k == 1) (sym byte ∙ one) in absurd (cc (sym bad ∙ shut)) };
      }

  open_here : x ≡ 1 → is_long b ≡ true → is_sound b ≡ true → walked s (length front) (onto (inner b) rest_read) ≡ opened t more p → Found c g t (es ++ more) p
  open_here one able sound read =
      let w = take (36 + size_in b) b in
      let rec = record_read b able sound in
      let long = long_parts b able in
      let fits = long.fits in
      let some = long.some in
      let few = long.few in
      let size_body : size_in b ≡ length (inner b) = sym (length-take-le (size_in b) (drop 36 b) (omega (arith, fits, length-drop 36 b))) in
      let fs = by_entries_some (length front) (entries_in (inner b)) (λ l. by_state (length front) (applied s l) (λ u. behind l (walk u (length front + (37 + length (inner b))) rest_read.bodies rest_read.ends))) t more p read in
      let u = by_state_some (length front) (applied s fs.0) (λ v. behind fs.0 (walk v (length front + (37 + length (inner b))) rest_read.bodies rest_read.ends)) t more p fs.2 in
      let m = split_behind fs.0 (walked u.0 (length front + (37 + length (inner b))) rest_read) t more p u.2 in
      let follows : Follows s (inner b) = record { some = omega (arith, some, size_body); few = omega (arith, few, size_body); entries = fs.0; read = fs.1; state = u.0; fit = u.1 } in
      let next = longer_front front w (inner b) g s es follows rec is in
      let rest = drop (36 + size_in b) b in
      let size : length (front ++ 1 ∷ w) ≡ length front + (37 + length (inner b)) = omega (arith, length-append front (1 ∷ w), rec.long) in
      let size_2 : length front + (37 + size_in b) ≡ length (front ++ 1 ∷ w) = omega (arith, size, size_body) in
      let whole : c ≡ (front ++ 1 ∷ w) ++ rest =
      split ∙ ap (λ (k : ℕ). front ++ k ∷ b) one ∙ ap (λ (l : List ℕ). front ++ 1 ∷ l) (sym (take-append-drop (36 + size_in b) b)) ∙ sym (append_assoc front (1 ∷ w) rest) in
      let left : length rest ≤ n = omega (arith, fuel, length-drop (36 + size_in b) b) in
      let again : walked u.0 (length (front ++ 1 ∷ w)) (reading n (length (front ++ 1 ∷ w)) rest) ≡ opened t m.0 p =
      ap (λ (k : ℕ). walked u.0 k (reading n (length (front ++ 1 ∷ w)) rest)) size
      ∙ ap (λ (k : ℕ). walked u.0 (length front + (37 + length (inner b))) (reading n k rest)) (sym size_2) ∙ m.1 in
      let found = ih (front ++ 1 ∷ w) rest u.0 (es ++ fs.0) t m.0 p next whole left again in
      subst (λ (l : List Entry). Found c g t l p) (append_assoc es fs.0 m.0 ∙ ap (λ (l : List Entry). es ++ l) (sym m.2)) found

  step_found : walked s (length front) (reading (suc n) (length front) (x ∷ b)) ≡ opened t more p → Found c g t (es ++ more) p
  step_found read = elim (gate_cases (x == 1) (one_record (length front) b rest_read) (nothing (closed_at (length front))) s (length front) (opened t more p) read) [
    | inl open_gate ↦
        let parts = record_cases (is_long b) (is_sound b) (onto (inner b) rest_read) s (length front) t more p open_gate.1 in
        open_here (eqb-true x 1 open_gate.0) parts.0 parts.1 parts.2
    | inr shut_gate ↦ shut_here shut_gate.0 shut_gate.1
  ]

found_from : (c : List ℕ) (g n : ℕ) (front rest : List ℕ) (s : State) (es : List Entry) (t : State) (more : List Entry) (p : ℕ) → IsFront front g s es → c ≡ front ++ rest → length rest ≤ n
    → walked s (length front) (reading n (length front) rest) ≡ opened t more p → Found c g t (es ++ more) p
found_from c g n front [] s es t more p is split fuel read = absurd (cc read)
found_from c g zero front (x ∷ b) s es t more p is split fuel read = absurd (omega (arith, fuel))
found_from c g (suc n) front (x ∷ b) s es t more p is split fuel read =
    step_found c g n (λ front rest s es t more p is split fuel read. found_from c g n front rest s es t more p is split fuel read) front b x s es t more p is split fuel read

le_there : (a b : ℕ) → nat_le a b ≡ true → a ≤ b
le_there a b is = search (arith, is)

-- a part of the bytes is that of their front
window : (i k : ℕ) (front rest : List ℕ) → i + k ≤ length front → take k (drop i (front ++ rest)) ≡ take k (drop i front)
window i k front rest le = ap (λ (l : List ℕ). take k l) (drop-append-le i front rest (omega (arith, le))) ∙ take-append-le k (drop i front) rest (omega (arith, le, length-drop i front))

pub header_some : (p q r : Bool) (o : Outcome) (t : State) (es : List Entry) (at : ℕ) → by_header p q r o ≡ opened t es at → (p ≡ true) × (q ≡ true) × (r ≡ true) × (o ≡ opened t es at)
header_some true true true o t es at is = (refl, refl, refl, is)
header_some true true false o t es at is = absurd (cc is)
header_some true false r o t es at is = absurd (cc is)
header_some false q r o t es at is = absurd (cc is)

pub image_some : (size : ℕ) (x : Result Image ℕ) (go : Image → Outcome) (t : State) (es : List Entry) (at : ℕ) → by_image size x go ≡ opened t es at → (i : Image) × (x ≡ Ok i) × (go i ≡ opened t es at)
image_some size (Err left) go t es at is = absurd (cc is)
image_some size (Ok i) go t es at is = (i, refl, is)

-- whatever stands behind a header and its image, the file is read from the image's state on
module _ (front : List ℕ) (i : Image) (header : has_header front ≡ true) (can : nat_le 1 (generation_of front) && nat_le (generation_of front) (2 ^ 63) ≡ true)
    (size : length front ≡ 57 + image_length front) (sound : pointwise nat_eq (sha256 (image_in front)) (image_digest front) ≡ true) (image : image_at (format_of front) (image_in front) ≡ Ok i) where
  module _ (rest : List ℕ) where
    abbrev c : List ℕ
    c = front ++ rest

    format_same : format_of c ≡ format_of front
    format_same = ap named (window 0 9 front rest (omega (arith, size)))

    generation_same : generation_of c ≡ generation_of front
    generation_same = ap (λ (l : List ℕ). from_le_bytes w64 l) (window 9 8 front rest (omega (arith, size)))

    length_same : image_length c ≡ image_length front
    length_same = ap (λ (l : List ℕ). from_le_bytes w64 l) (window 17 8 front rest (omega (arith, size)))

    digest_same : image_digest c ≡ image_digest front
    digest_same = window 25 32 front rest (omega (arith, size))

    image_same : image_in c ≡ image_in front
    image_same = ap (λ (k : ℕ). take k (drop 57 c)) length_same ∙ window 57 (image_length front) front rest (omega (arith, size))

    can_there : nat_le 1 (generation_of c) && nat_le (generation_of c) (2 ^ 63) ≡ true
    can_there = ap (λ (k : ℕ). nat_le 1 k && nat_le k (2 ^ 63)) generation_same ∙ can

    has_there : nat_le (57 + image_length c) (length c) ≡ true
    has_there = ap (λ (k : ℕ). nat_le (57 + k) (length c)) length_same ∙ has_front
      where
        has_front : nat_le (57 + image_length front) (length c) ≡ true
        has_front = search (arith, size, length-append front rest)

    sound_there : pointwise nat_eq (sha256 (image_in c)) (image_digest c) ≡ true
    sound_there = ap (λ (l : List ℕ). pointwise nat_eq (sha256 l) (image_digest c)) image_same ∙ ap (λ (l : List ℕ). pointwise nat_eq (sha256 (image_in front)) l) digest_same ∙ sound

    reads_there : file_reads c ≡ walked (image_state i) (length front) (reading (length rest) (length front) rest)
    reads_there =
        let place : 57 + image_length c ≡ length front = omega (arith, size, length_same) in
        header_3 _ _ _ _ can_there has_there sound_there
        ∙ ap (λ (x : Result Image ℕ). by_image (length (image_in c)) x (λ j. walked (image_state j) (57 + image_length c) (records_from (57 + image_length c) c))) (ap (λ (f : Format). image_at f (image_in c)) format_same ∙ ap (λ (l : List ℕ). image_at (format_of front) l) image_same ∙ image)
        ∙ ap (λ (k : ℕ). walked (image_state i) k (records_from k c)) place
        ∙ ap (λ (l : List ℕ). walked (image_state i) (length front) (reading (length l) (length front) l)) (drop_at front rest (length front) refl)

  pub header_front : IsFront front (generation_of front) (image_state i) []
  header_front = record { header = header; generation = refl; reads_on = λ rest. reads_there rest ∙ sym (behind_none (walked (image_state i) (length front) (reading (length rest) (length front) rest))) }

mark_same : (front rest : List ℕ) → 57 ≤ length front → has_header (front ++ rest) ≡ true → has_header front ≡ true
mark_same front rest long is =
    let parts = and_parts (nat_le 57 (length (front ++ rest))) (is_mark (take 9 (front ++ rest))) is in
    let whole_there : nat_le 57 (length front) ≡ true = search (arith, long) in
    and_from (nat_le 57 (length front)) (is_mark (take 9 front)) whole_there (ap (λ (l : List ℕ). is_mark l) (sym (take-append-le 9 front rest (omega (arith, long)))) ∙ parts.1)

-- a file that was read up to a closed gate is a front and that gate
pub found : (s : List ℕ) (t : State) (es : List Entry) (p : ℕ) → has_header s ≡ true → file_reads s ≡ opened t es p → Found s (generation_of s) t es p
found s t es p header read =
    let parts = header_some (nat_le 1 (generation_of s) && nat_le (generation_of s) (2 ^ 63)) (nat_le (57 + image_length s) (length s)) (pointwise nat_eq (sha256 (image_in s)) (image_digest s))
    (by_image (length (image_in s)) (image_at (format_of s) (image_in s)) (λ i. walked (image_state i) (57 + image_length s) (records_from (57 + image_length s) s))) t es p read in
    let found_image = image_some (length (image_in s)) (image_at (format_of s) (image_in s)) (λ i. walked (image_state i) (57 + image_length s) (records_from (57 + image_length s) s)) t es p parts.3 in
    let n = image_length s in
    let front = take (57 + n) s in
    let rest = drop (57 + n) s in
    let fits : 57 + n ≤ length s = fits_there s parts.1 in
    let size : length front ≡ 57 + n = length-take-le (57 + n) s fits in
    let split : s ≡ front ++ rest = sym (take-append-drop (57 + n) s) in
    let header_too : has_header front ≡ true = mark_same front rest (omega (arith, size)) (ap has_header (sym split) ∙ header) in
    let format : format_of front ≡ format_of s = sym (ap named (window 0 9 front rest (omega (arith, size)))) ∙ ap format_of (sym split) in
    let generation : generation_of front ≡ generation_of s = sym (ap (λ (l : List ℕ). from_le_bytes w64 l) (window 9 8 front rest (omega (arith, size)))) ∙ ap generation_of (sym split) in
    let number : image_length front ≡ n = sym (ap (λ (l : List ℕ). from_le_bytes w64 l) (window 17 8 front rest (omega (arith, size)))) ∙ ap image_length (sym split) in
    let digest : image_digest front ≡ image_digest s = sym (window 25 32 front rest (omega (arith, size))) ∙ ap image_digest (sym split) in
    let image : image_in front ≡ image_in s =
    ap (λ (k : ℕ). take k (drop 57 front)) number ∙ sym (window 57 n front rest (omega (arith, size))) ∙ ap (λ (l : List ℕ). take n (drop 57 l)) (sym split) in
    let base = header_front front found_image.0 header_too (ap (λ (k : ℕ). nat_le 1 k && nat_le k (2 ^ 63)) generation ∙ parts.0) (size ∙ ap (λ (k : ℕ). 57 + k) (sym number))
    (ap (λ (l : List ℕ). pointwise nat_eq (sha256 l) (image_digest front)) image ∙ ap (λ (l : List ℕ). pointwise nat_eq (sha256 (image_in s)) l) digest ∙ parts.2) (ap (λ (f : Format). image_at f (image_in front)) format ∙ ap (λ (l : List ℕ). image_at (format_of s) l) image ∙ found_image.1) in
    let walks : walked (image_state found_image.0) (length front) (reading (length rest) (length front) rest) ≡ opened t es p =
    ap (λ (k : ℕ). walked (image_state found_image.0) k (reading (length rest) k rest)) size ∙ found_image.2 in
    subst (λ (g : ℕ). Found s g t es p) generation (found_from s (generation_of front) (length rest) front rest (image_state found_image.0) [] t es p base split (omega arith) walks)
  where
    fits_there : (s : List ℕ) → nat_le (57 + image_length s) (length s) ≡ true → 57 + image_length s ≤ length s
    fits_there s is = le_there (57 + image_length s) (length s) is
