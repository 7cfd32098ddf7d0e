-- The front of a file with an image.
use Rattle.std.proofs.Common.{◌≡◌, ℕ, ◌+◌, ◌<◌, ◌≤◌, ◌^◌, ◌&&◌, nat_le, nat_eq, true, List, [], ◌∷◌, ◌++◌, length, take, drop, refl, sym, ◌∙◌, ap, subst, arith, length-append}
use Rattle.std.proofs.lemmas.Bool.{and_from}
use Rattle.std.proofs.lemmas.List.{take_at, drop_at}
use Rattle.std.proofs.lemmas.Nat.{from_le_bytes-to_le_bytes_8}
use Rattle.std.specs.Int.{w64, to_le_bytes}
use Rattle.std.specs.Cmp.Lexicographic.{pointwise}
use Rattle.sha2.specs.Sha256.{sha256}
use Rattle.sha2.proofs.Facts256.{length-sha256}
use Rattle.db_store.specs.State.{State}
use Rattle.image_text.specs.declared.image.Format.{Format}
use Rattle.image_text.specs.declared.image.Format.TheVariants.{Two}
use Rattle.image_parts.specs.Whole.{image_at}
use Rattle.db_image.specs.Stores.{IsImageOf}
use Rattle.new_image.proofs.Images.{same_self}
use Rattle.generations.specs.Files.{mark, is_mark, has_header, format_of, generation_of, image_length, image_digest, image_in}
use Rattle.generations.specs.Fronts.{IsFront}
use Rattle.generations.specs.ImageState.{image_state}
use Rattle.generations.specs.Written.{behind_gate}
use Rattle.generations.proofs.Back.{header_front}
use Rattle.generations.proofs.Opening.{state_is}

module _ (g : ℕ) (image : List ℕ) (far : g < 2 ^ 64) (few : length image < 2 ^ 64) where
  abbrev head : List ℕ
  head = (((68 ∷ 69 ∷ 67 ∷ 73 ∷ 66 ∷ 69 ∷ 76 ∷ 50 ∷ []) ++ to_le_bytes w64 g) ++ to_le_bytes w64 (length image)) ++ sha256 image

  head_long : length head ≡ 56
  head_long = omega (arith, length-append (((68 ∷ 69 ∷ 67 ∷ 73 ∷ 66 ∷ 69 ∷ 76 ∷ 50 ∷ []) ++ to_le_bytes w64 g) ++ to_le_bytes w64 (length image)) (sha256 image), length-sha256 image)

  pub front_long : length (1 ∷ behind_gate g image) ≡ 57 + length image
  front_long = omega (arith, length-append head image, head_long)

  front_number : image_length (1 ∷ behind_gate g image) ≡ length image
  front_number = from_le_bytes-to_le_bytes_8 (length image) few

  front_generation : generation_of (1 ∷ behind_gate g image) ≡ g
  front_generation = from_le_bytes-to_le_bytes_8 g far

  front_digest : image_digest (1 ∷ behind_gate g image) ≡ sha256 image
  front_digest = take_at (sha256 image) image 32 (length-sha256 image)

  front_image : image_in (1 ∷ behind_gate g image) ≡ image
  front_image = ap (λ (k : ℕ). take k (drop 57 (1 ∷ behind_gate g image))) front_number ∙ ap (λ (l : List ℕ). take (length image) l) (drop_at head image 56 head_long) ∙ whole image
    where
      whole : (xs : List ℕ) → take (length xs) xs ≡ xs
      whole [] = refl
      whole (x ∷ xs) = ap (λ (l : List ℕ). x ∷ l) (whole xs)

  front_header : has_header (1 ∷ behind_gate g image) ≡ true
  front_header =
      let long : 57 ≤ length (1 ∷ behind_gate g image) = omega (arith, front_long) in
      let able : nat_le 57 (length (1 ∷ behind_gate g image)) ≡ true = search (arith, long) in
      and_from (nat_le 57 (length (1 ∷ behind_gate g image))) (is_mark (take 9 (1 ∷ behind_gate g image))) able refl

  front_format : format_of (1 ∷ behind_gate g image) ≡ Two
  front_format = refl

can_be : (g : ℕ) → 1 ≤ g → g ≤ 2 ^ 63 → nat_le 1 g && nat_le g (2 ^ 63) ≡ true
can_be g some most = search (arith, some, most)

-- a file that begins so is read from the image's state on
pub front_is : (g : ℕ) (image : List ℕ) (s : State) → 1 ≤ g → g ≤ 2 ^ 63 → length image < 2 ^ 64 → IsImageOf Two image s → IsFront (1 ∷ behind_gate g image) g s []
front_is g image s some most few is =
    let far : g < 2 ^ 64 = omega (arith, most) in
    let front = 1 ∷ behind_gate g image in
    let can : nat_le 1 (generation_of front) && nat_le (generation_of front) (2 ^ 63) ≡ true = ap (λ (k : ℕ). nat_le 1 k && nat_le k (2 ^ 63)) (front_generation g image far few) ∙ can_be g some most in
    let sound : pointwise nat_eq (sha256 (image_in front)) (image_digest front) ≡ true =
    ap (λ (l : List ℕ). pointwise nat_eq (sha256 l) (image_digest front)) (front_image g image far few) ∙ ap (λ (l : List ℕ). pointwise nat_eq (sha256 image) l) (front_digest g image far few) ∙ same_self (sha256 image) in
    let base = header_front front is.image (front_header g image far few) can (front_long g image far few ∙ ap (λ (k : ℕ). 57 + k) (sym (front_number g image far few))) sound (ap (λ (l : List ℕ). image_at (format_of front) l) (front_image g image far few) ∙ ap (λ (f : Format). image_at f image) (front_format g image far few) ∙ is.read) in
    subst (λ (t : State). IsFront front g t []) (sym (state_is Two image s is)) (subst (λ (n : ℕ). IsFront front n (image_state is.image) []) (front_generation g image far few) base)
