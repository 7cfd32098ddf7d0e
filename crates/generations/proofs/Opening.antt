-- What the code's findings say of a file with a header.
use Rattle.std.proofs.Common.{◌≡◌, ◌⊎◌, inl, inr, ℕ, ◌+◌, ◌-◌, ◌<◌, ◌≤◌, ◌^◌, ◌&&◌, nat_le, nat_eq, Bool, true, false, List, length, take, drop, refl, sym, ◌∙◌, ap, subst, arith, Result, Ok, Err}
use Rattle.std.specs.Cmp.Lexicographic.{pointwise}
use Rattle.sha2.specs.Sha256.{sha256}
use Rattle.db_store.specs.State.{State}
use Rattle.image_text.specs.declared.image.Format.{Format}
use Rattle.image_text.specs.declared.image.Image.{Image}
use Rattle.image_parts.specs.Whole.{image_at}
use Rattle.db_image.specs.Stores.{IsImageOf}
use Rattle.gate_journal.specs.declared.cause.Cause.{Cause}
use Rattle.gate_journal.specs.declared.cause.Cause.TheVariants.{Grammar, Length, Digest}
use Rattle.gate_journal.specs.Reading.{End, Reading, records_from}
use Rattle.generations.specs.declared.header.Header.{Header}
use Rattle.generations.specs.declared.open.ImageFound.{ImageFound}
use Rattle.generations.specs.declared.open.ImageFound.TheVariants.{Damaged as NoImage, Whole as WholeImage}
use Rattle.generations.specs.declared.open.Opened.{Opened}
use Rattle.generations.specs.declared.open.Opened.TheVariants.{Damaged, Whole}
use Rattle.generations.specs.Headers.{Says}
use Rattle.generations.specs.Files.{Outcome, damaged, format_of, generation_of, image_length, image_digest, image_in, by_header, by_image, walk, walked, file_reads}
use Rattle.generations.specs.Openings.{IsImageBy, IsImageIn, IsReplayed, IsOpened}
use Rattle.generations.specs.ImageState.{image_state}
use Rattle.generations.specs.Stored.{state_in}

-- the state that bytes are an image of
pub state_is : (format : Format) (bytes : List ℕ) (s : State) (is : IsImageOf format bytes s) → s ≡ image_state is.image
unfolding image_state
state_is format bytes s is = is.layout

header_0 : (p q r : Bool) (o : Outcome) → p ≡ false → by_header p q r o ≡ damaged 9 Grammar
header_0 true q r o is = absurd (cc is)
header_0 false q r o is = refl

header_1 : (p q r : Bool) (o : Outcome) → p ≡ true → q ≡ false → by_header p q r o ≡ damaged 17 Length
header_1 true true r o is bad = absurd (cc bad)
header_1 true false r o is bad = refl
header_1 false q r o is bad = absurd (cc is)

header_2 : (p q r : Bool) (o : Outcome) → p ≡ true → q ≡ true → r ≡ false → by_header p q r o ≡ damaged 25 Digest
header_2 true true true o a b bad = absurd (cc bad)
header_2 true true false o a b bad = refl
header_2 true false r o a b bad = absurd (cc b)
header_2 false q r o a b bad = absurd (cc a)

pub header_3 : (p q r : Bool) (o : Outcome) → p ≡ true → q ≡ true → r ≡ true → by_header p q r o ≡ o
header_3 true true true o a b d = refl
header_3 true true false o a b d = absurd (cc d)
header_3 true false r o a b d = absurd (cc b)
header_3 false q r o a b d = absurd (cc a)

pub cannot : (s : List ℕ) (g : ℕ) → g ≡ generation_of s → (g ≡ 0) ⊎ (2 ^ 63 < g) → file_reads s ≡ damaged 9 Grammar
cannot s g is bad = header_0 (nat_le 1 (generation_of s) && nat_le (generation_of s) (2 ^ 63)) (nat_le (57 + image_length s) (length s)) (pointwise nat_eq (sha256 (image_in s)) (image_digest s)) (by_image (length (image_in s)) (image_at (format_of s) (image_in s)) (λ i. walked (image_state i) (57 + image_length s) (records_from (57 + image_length s) s))) (by bad)
  where
    by : (g ≡ 0) ⊎ (2 ^ 63 < g) → nat_le 1 (generation_of s) && nat_le (generation_of s) (2 ^ 63) ≡ false
    by (inl zero_there) = let none : generation_of s ≡ 0 = sym is ∙ zero_there in ap (λ (n : ℕ). nat_le 1 n && nat_le n (2 ^ 63)) none
    by (inr past) = let far : 2 ^ 63 < generation_of s = subst (λ (n : ℕ). 2 ^ 63 < n) is past in search (arith, far)

module _ (s : List ℕ) (h : Header) (n : ℕ) (says : Says h s n) (some : 1 ≤ h.generation) (most : h.generation ≤ 2 ^ 63) where
  can : nat_le 1 (generation_of s) && nat_le (generation_of s) (2 ^ 63) ≡ true
  can = ap (λ (k : ℕ). nat_le 1 k && nat_le k (2 ^ 63)) (sym says.generation) ∙ both
    where
      both : nat_le 1 h.generation && nat_le h.generation (2 ^ 63) ≡ true
      both = search (arith, some, most)

  pub too_long : n ≡ length s → length s < 57 + h.image → file_reads s ≡ damaged 17 Length
  too_long len past =
      let far : length s < 57 + image_length s = subst (λ (k : ℕ). length s < 57 + k) says.image past in
      header_1 (nat_le 1 (generation_of s) && nat_le (generation_of s) (2 ^ 63)) (nat_le (57 + image_length s) (length s)) (pointwise nat_eq (sha256 (image_in s)) (image_digest s)) (by_image (length (image_in s)) (image_at (format_of s) (image_in s)) (λ i. walked (image_state i) (57 + image_length s) (records_from (57 + image_length s) s))) can (let able : nat_le (57 + image_length s) (length s) ≡ false = search (arith, far) in able)

  module _ (image : List ℕ) (len : n ≡ length s) (fits : 57 + h.image ≤ length s) (read : image ≡ take h.image (drop 57 s)) where
    has : nat_le (57 + image_length s) (length s) ≡ true
    has = let near : 57 + image_length s ≤ length s = subst (λ (k : ℕ). 57 + k ≤ length s) says.image fits in search (arith, near)

    same : image ≡ image_in s
    same = read ∙ ap (λ (k : ℕ). take k (drop 57 s)) says.image

    -- what is read of an image as the header says
    read_is : (o : Result Image ℕ) → image_at h.format image ≡ o → image_at (format_of s) (image_in s) ≡ o
    read_is o is = ap (λ (l : List ℕ). image_at (format_of s) l) (sym same) ∙ ap (λ (f : Format). image_at f image) (sym says.format) ∙ is

    digest : (q : Bool) → pointwise nat_eq (sha256 image) h.digest ≡ q → pointwise nat_eq (sha256 (image_in s)) (image_digest s) ≡ q
    digest q is = ap (λ (l : List ℕ). pointwise nat_eq (sha256 l) (image_digest s)) (sym same) ∙ ap (λ (l : List ℕ). pointwise nat_eq (sha256 image) l) (sym says.digest) ∙ is

    pub image_is : (f : ImageFound) → IsImageBy f h image → IsImageIn f s
    image_is (NoImage at cause) (inl bad) =
        header_2 _ _ _ _ can has (digest false bad.0) ∙ ap (λ (k : ℕ). damaged k Digest) (sym bad.1) ∙ ap (λ (x : Cause). damaged at x) (sym bad.2)
    image_is (NoImage at cause) (inr bad) =
        header_3 _ _ _ _ can has (digest true bad.0)
        ∙ ap (λ (o : Result Image ℕ). by_image (length (image_in s)) o (λ i. walked (image_state i) (57 + image_length s) (records_from (57 + image_length s) s))) (read_is (Err bad.1) bad.2)
        ∙ ap (λ (l : List ℕ). damaged (57 + (length l - bad.1)) Grammar) (sym same)
        ∙ ap (λ (k : ℕ). damaged k Grammar) (sym bad.3) ∙ ap (λ (x : Cause). damaged at x) (sym bad.4)
    image_is (WholeImage store) there =
        header_3 _ _ _ _ can has (digest true there.0)
        ∙ ap (λ (o : Result Image ℕ). by_image (length (image_in s)) o (λ i. walked (image_state i) (57 + image_length s) (records_from (57 + image_length s) s))) (read_is (Ok there.1.image) there.1.read)
        ∙ ap (λ (t : State). walked t (57 + image_length s) (records_from (57 + image_length s) s)) (sym (state_is h.format image (state_in store) there.1))

pub opened_is : (o : Opened) (t : State) (s : List ℕ) (from : ℕ) (bodies : List (List ℕ)) (end : End) → file_reads s ≡ walked t (57 + image_length s) (records_from (57 + image_length s) s) → from ≡ 57 + image_length s
    → records_from from s ≡ record { bodies = bodies; ends = end } → IsReplayed o t from bodies end → IsOpened o s
opened_is o t s from bodies end file is read replayed = by o replayed
  where
    whole_walk : file_reads s ≡ walk t from bodies end
    whole_walk = file ∙ ap (λ (k : ℕ). walked t k (records_from k s)) (sym is) ∙ ap (λ (r : Reading). walked t from r) read

    by : (o : Opened) → IsReplayed o t from bodies end → IsOpened o s
    by (Damaged at cause) is_damaged = whole_walk ∙ is_damaged
    by (Whole journal store n) is_whole = (is_whole.0, is_whole.1, whole_walk ∙ is_whole.2)
