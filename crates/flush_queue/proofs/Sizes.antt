-- How long a record is.
use Rattle.std.proofs.Common.{◌≡◌, ℕ, ◌+◌, List, [], ◌∷◌, ◌++◌, length, length-append, arith}
use Rattle.std.specs.Int.{w32, to_le_bytes}
use Rattle.sha2.specs.Sha256.{sha256}
use Rattle.sha2.proofs.Facts256.{length-sha256}
use Rattle.db_outside.specs.Record.{record_of, ready}

-- a record has 37 bytes beside its body, with the closed gate behind it
pub ready_long : (body : List ℕ) → length (ready body) ≡ length body + 37
unfolding ready
ready_long body =
    omega (arith, length-append (record_of body) (0 ∷ []), length-append (to_le_bytes w32 (length body) ++ sha256 body) body, length-append (to_le_bytes w32 (length body)) (sha256 body), length-sha256 body)
