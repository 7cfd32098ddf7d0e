-- What the code finds of a header.
use Rattle.std.specs.Prelude.{◌≡◌, ℕ, true, false, List, length, take, Option, Some, None}
use Rattle.image_text.specs.declared.image.Format.{Format}
use Rattle.generations.specs.declared.header.Header.{Header}
use Rattle.generations.specs.Files.{is_mark, has_header, format_of, generation_of, image_length, image_digest}

-- what a header says is what the bytes have
pub record Says (h : Header) (c : List ℕ) (n : ℕ) : Type 0 where
  pub format : h.format ≡ format_of c
  pub generation : h.generation ≡ generation_of c
  pub image : h.image ≡ image_length c
  pub digest : h.digest ≡ image_digest c
  pub len : h.len ≡ n

-- the first bytes of a file are the mark of this format, or of none
abbrev pub IsFormatIn : Option Format → List ℕ → Type 0
IsFormatIn None bytes = is_mark (take 9 bytes) ≡ false
IsFormatIn (Some format) bytes = (is_mark (take 9 bytes) ≡ true) × (format ≡ format_of bytes)

-- the first bytes of a file of this length are marked, and say this
abbrev pub IsHeaderIn : Option Header → List ℕ → ℕ → Type 0
IsHeaderIn None bytes n = is_mark (take 9 bytes) ≡ false
IsHeaderIn (Some h) bytes n = (is_mark (take 9 bytes) ≡ true) × Says h bytes n

-- the file has this header, or none
abbrev pub IsHeaderOf : Option Header → List ℕ → Type 0
IsHeaderOf None s = has_header s ≡ false
IsHeaderOf (Some h) s = (has_header s ≡ true) × Says h s (length s)
