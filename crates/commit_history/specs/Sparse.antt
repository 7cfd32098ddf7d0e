-- Lists of truth values that are kept by the words in which some are true, or given by true places.
use Rattle.std.specs.Prelude.{◌≡◌, ℕ, ◌*◌, ◌<◌, Bool, false, ◌==◌, List, [], ◌∷◌, map}
use Rattle.std.specs.List.{range_with_len}
use Rattle.plain_bits.specs.Truth.{differ}
use Rattle.plain_bits.specs.Word.{word_bit, FitsAt}
use Rattle.commit_history.specs.declared.delta.DeltaWord.{DeltaWord}

-- whether a place stands in a list an odd number of times
abbrev pub is_flipped : List ℕ → ℕ → Bool
is_flipped [] place = false
is_flipped (p ∷ ps) place = differ (p == place) (is_flipped ps place)

-- the list of so many values of which those at these places are true; two of one place cancel
abbrev pub flipped : ℕ → List ℕ → List Bool
flipped len places = map (is_flipped places) (range_with_len 0 len)

-- the exclusive or of what the words have at a place
abbrev pub bit_in : List DeltaWord → ℕ → Bool
bit_in [] place = false
bit_in (w ∷ ws) place = differ (word_bit w.at w.word place) (bit_in ws place)

-- the list of so many values that the words stand for
abbrev pub values_of : ℕ → List DeltaWord → List Bool
values_of len words = map (bit_in words) (range_with_len 0 len)

-- the word is one of a list that is so long, and so are all its set bits
pub record IsWithin (len : ℕ) (w : DeltaWord) : Type 0 where
  pub within : 64 * w.at < len
  pub fits : FitsAt w.at w.word len
