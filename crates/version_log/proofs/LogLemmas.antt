-- The lines of a log below a position.
use Rattle.std.proofs.Common.{◌≡◌, ℕ, zero, suc, List, [], ◌∷◌, ◌++◌, append_assoc, ap, sym, ◌∙◌, refl}
use Rattle.db_value.specs.declared.report.LogLine.{LogLine}
use Rattle.db_store.specs.Dataset.{Dataset}
use Rattle.version_log.specs.Log.{log_line, log_down}

abbrev pub below : Dataset → ℕ → ℕ → List LogLine
below d b zero = []
below d b (suc n) = log_down d b n

pub down_is : (d : Dataset) (b n : ℕ) → log_down d b n ≡ log_line d b n ∷ below d b n
down_is d b zero = refl
down_is d b (suc n) = refl

-- one line more
pub below_more : (d : Dataset) (b n : ℕ) (all lines : List LogLine) → all ≡ lines ++ below d b (suc n) → all ≡ (lines ++ log_line d b n ∷ []) ++ below d b n
below_more d b n all lines e = e ∙ ap (λ t. lines ++ t) (down_is d b n) ∙ sym (append_assoc lines (log_line d b n ∷ []) (below d b n))
