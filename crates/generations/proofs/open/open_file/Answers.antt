use Rattle.std.proofs.Common.{rules, ◌≡◌, ◌+◌, ℕ, ◌∙◌, ap, subst}
use Rattle.gate_journal.specs.Found.{end_of}
use Rattle.generations.specs.declared.open.ImageFound.{ImageFound}
use Rattle.generations.specs.Files.{image_length}
use Rattle.generations.specs.Openings.{IsImageIn}
use Rattle.generations.proofs.Opening.{opened_is}
use Rattle.generations.proofs.open.open_file.Goals as goal

pub returns-in-Damaged-clause-told : goal.returns-in-Damaged-clause-told
returns-in-Damaged-clause-told g c s told = subst (λ (f : ImageFound). IsImageIn f s) c.in-Damaged.is (c.in_ok-at.ensures.told s told)

pub returns-in-Ok-clause-told : goal.returns-in-Ok-clause-told
returns-in-Ok-clause-told g c s told =
    let file = subst (λ (f : ImageFound). IsImageIn f s) c.in-Whole.is (c.in_ok-at.ensures.told s told) in
    let from : 57 + c.args.header.now.image ≡ 57 + image_length s = ap (λ (k : ℕ). 57 + k) (c.requires.says s told).1.image in
    opened_is c.in-Ok.opened _ s (57 + c.args.header.now.image) c.as_slice.result.now (end_of c.in_ok-bodies-in-Whole.end) file from
    (c.in_ok-bodies-in-Whole.ensures.told s (c.image_at.ensures.reads.seen_stays ∙ told) ∙ search rules) c.in-Ok.ensures.told
