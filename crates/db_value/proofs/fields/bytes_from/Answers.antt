use Rattle.std.proofs.Common.{arith, ap, sym, ◌∙◌, ◌≡◌, length}
use Rattle.std.specs.Prelude.{slice_get}
use Rattle.db_value.specs.Spelling.{fields_in, values_in}
use Rattle.db_value.proofs.Places.{one_further, there}
use Rattle.db_value.proofs.fields.bytes_from.Goals as goal

pub loop-preserved : goal.loop-preserved
loop-preserved c =
    let within = c.requires.within in
    let more = c.loop-test.true in
    one_further (length (fields_in c.args.packed.now)) c.loop.counter (fields_in c.args.packed.now) c.loop.rest.now (omega (arith, within, more)) c.loop.invariant
    ∙ ap (values_in _) (sym c.after_first-rest.ensures)

pub returns-clause-there : goal.returns-clause-there
returns-clause-there c =
    let xs = fields_in c.args.packed.now in
    let within = c.requires.within in
    let end = c.loop-test.false in
    let bound = c.loop.auto.counter-end in
    let at : c.args.index ≡ c.loop.counter = omega (arith, within, end, bound) in
    ap (slice_get xs) at ∙ (there (length xs) c.loop.counter xs c.loop.rest.now c.requires.is.each (omega (arith, within, end, bound)) c.loop.invariant).0

pub returns-clause-value : goal.returns-clause-value
returns-clause-value c =
    let xs = fields_in c.args.packed.now in
    let within = c.requires.within in
    let end = c.loop-test.false in
    let bound = c.loop.auto.counter-end in
    (there (length xs) c.loop.counter xs c.loop.rest.now c.requires.is.each (omega (arith, within, end, bound)) c.loop.invariant).1
