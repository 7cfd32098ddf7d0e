use Rattle.std.proofs.Common.{◌≡◌, ℕ, ◌*◌, ◌<◌, ◌≤◌, false}
use Rattle.std.specs.List.{All}
use Rattle.plain_bits.specs.Truth.{bit_of}
use Rattle.commit_history.specs.Sparse.{bit_in, IsWithin}
use Rattle.commit_history.proofs.delta.words_in.Given as goal

-- the words so far have the places below
abbrev pub invariant-loop-at : goal.invariant-loop-at
invariant-loop-at l = record {
  below : (place : ℕ) → place < 64 * l.at → bit_in l.words.items place ≡ bit_of l.bits place;
  above : (place : ℕ) → 64 * l.at ≤ place → bit_in l.words.items place ≡ false;
  within : All (IsWithin l.len) l.words.items;
}
