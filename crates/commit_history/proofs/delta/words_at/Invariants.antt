use Rattle.std.proofs.Common.{◌≡◌, ℕ, ◌<◌, take}
use Rattle.std.specs.List.{All}
use Rattle.commit_history.specs.Sparse.{is_flipped, bit_in, IsWithin}
use Rattle.commit_history.proofs.delta.words_at.Given as goal

-- the words so far have the places so far
abbrev pub invariant-loop-place : goal.invariant-loop-place
invariant-loop-place l = record {
  bits : (k : ℕ) → bit_in l.words.items k ≡ is_flipped (take l.place-index l.places) k;
  within : (len : ℕ) → All (λ place. place < len) l.places → All (IsWithin len) l.words.items;
}
