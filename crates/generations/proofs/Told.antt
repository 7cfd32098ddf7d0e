-- What was read of a header.
use Rattle.std.proofs.Common.{◌≡◌, ℕ, ◌+◌, ◌-◌, ◌≤◌, ◌&&◌, nat_le, Bool, true, false, List, length, take, drop, sym, ◌∙◌, ap, arith, Option, Some, None}
use Rattle.std.proofs.lemmas.List.{take-take, drop-take}
use Rattle.std.specs.Int.{w64, from_le_bytes}
use Rattle.generations.specs.declared.header.Header.{Header}
use Rattle.generations.specs.Files.{is_mark, named, has_header, generation_of, image_length, image_digest}
use Rattle.generations.specs.Headers.{IsHeaderIn, IsHeaderOf}

part : (i n : ℕ) (s : List ℕ) → i + n ≤ 57 → take n (drop i (take 57 s)) ≡ take n (drop i s)
part i n s le =
    let number : 57 ≡ i + (57 - i) = omega (arith, le) in
    ap (λ (k : ℕ). take n (drop i (take k s))) number ∙ ap (λ (l : List ℕ). take n l) (drop-take i (57 - i) s) ∙ take-take n (57 - i) (drop i s) (omega (arith, le))

mark_there : (s : List ℕ) (q : Bool) → 57 ≤ length s → is_mark (take 9 (take 57 s)) ≡ q → has_header s ≡ q
mark_there s q long is =
    let able : nat_le 57 (length s) ≡ true = search (arith, long) in
    ap (λ (b : Bool). b && is_mark (take 9 s)) able ∙ ap (λ (l : List ℕ). is_mark l) (sym (take-take 9 57 s (omega arith))) ∙ is

pub header_told : (o : Option Header) (bytes s : List ℕ) (n : ℕ) → bytes ≡ take 57 s → n ≡ length s → 57 ≤ length s → IsHeaderIn o bytes n → IsHeaderOf o s
header_told None bytes s n is len long in_bytes = mark_there s false long (ap (λ (l : List ℕ). is_mark (take 9 l)) (sym is) ∙ in_bytes)
header_told (Some h) bytes s n is len long in_bytes =
    let says = in_bytes.1 in (
      mark_there s true long (ap (λ (l : List ℕ). is_mark (take 9 l)) (sym is) ∙ in_bytes.0),
      record {
        format = says.format ∙ ap (λ (l : List ℕ). named (take 9 l)) is ∙ ap named (take-take 9 57 s (omega arith));
        generation = says.generation ∙ ap generation_of is ∙ ap (λ (l : List ℕ). from_le_bytes w64 l) (part 9 8 s (omega arith));
        image = says.image ∙ ap image_length is ∙ ap (λ (l : List ℕ). from_le_bytes w64 l) (part 17 8 s (omega arith));
        digest = says.digest ∙ ap image_digest is ∙ part 25 32 s (omega arith);
        len = says.len ∙ len;
      },
    )
