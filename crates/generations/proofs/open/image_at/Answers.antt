use Rattle.std.proofs.Common.{rules, ◌≡◌, ◌+◌, ◌≤◌, inl, inr, length, take, drop, refl, ◌∙◌, arith}
use Rattle.generations.proofs.Opening.{cannot, too_long, image_is}
use Rattle.generations.proofs.open.image_at.Goals as goal

pub returns-then-header-eq0-clause-told : goal.returns-then-header-eq0-clause-told
returns-then-header-eq0-clause-told g c s told = cannot s c.args.header.now.generation (c.requires.says s told).1.generation (inl c.if-header-eq0.true)

pub returns-in-Ok-clause-told : goal.returns-in-Ok-clause-told
returns-in-Ok-clause-told g c s told =
    let h = c.args.header.now in
    let says = (c.requires.says s told).1 in
    let some : 1 ≤ h.generation = search rules in
    let most : h.generation ≤ 9223372036854775808 = search rules in
    let fits : 57 + h.image ≤ length s = omega (arith, says.len, c.if-header.false, c.requires.long) in
    let image : c.deref.result.now ≡ take h.image (drop 57 s) = c.deref.ensures.value ∙ c.in_ok-image.ensures.told s told in
    image_is s h (length s) says some most c.deref.result.now refl fits image c.in-Ok.found c.in-Ok.ensures

pub returns-then-header-gt-MOST_GENERATION-clause-told : goal.returns-then-header-gt-MOST_GENERATION-clause-told
returns-then-header-gt-MOST_GENERATION-clause-told g c s told = cannot s c.args.header.now.generation (c.requires.says s told).1.generation (inr (omega (arith, c.if-header-gt-MOST_GENERATION.true)))

pub returns-then-header-clause-told : goal.returns-then-header-clause-told
returns-then-header-clause-told g c s told =
    let h = c.args.header.now in
    let says = (c.requires.says s told).1 in
    let some : 1 ≤ h.generation = search rules in
    let most : h.generation ≤ 9223372036854775808 = search rules in
    too_long s h (length s) says some most refl (omega (arith, says.len, c.if-header.true, c.requires.long))
