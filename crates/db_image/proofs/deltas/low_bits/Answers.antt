use Rattle.std.proofs.Common.{◌%◌, ap, sym, ◌∙◌}
use Rattle.std.proofs.lemmas.Nat.{one_shl}
use Rattle.plain_bits.specs.Word.{is_set}
use Rattle.db_image.proofs.Slots.{low_same, low_fits}
use Rattle.db_image.proofs.deltas.low_bits.Goals as goal

pub returns-clause-fits : goal.returns-clause-fits
returns-clause-fits c = λ k one. low_fits c.args.word c.args.many k (ap (λ n. is_set (c.args.word % n) k) (sym (one_shl c.args.many 64 c.requires)) ∙ one)

pub returns-clause-same : goal.returns-clause-same
returns-clause-same c = λ k lt. ap (λ n. is_set (c.args.word % n) k) (one_shl c.args.many 64 c.requires) ∙ low_same c.args.word c.args.many k lt
