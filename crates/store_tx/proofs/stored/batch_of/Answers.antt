use Rattle.std.proofs.Common.{◌≡◌, ◌∙◌, ◌+◌, ◌<◌, ◌≤◌, refl, ap, sym, subst, length, arith}
use Rattle.std.proofs.lemmas.List.{length-append}
use Rattle.db_store.specs.State.{dataset_of}
use Rattle.std.specs.Prelude.{Err, IsErrOf}
use Rattle.db_outside.specs.declared.batch.BatchStop.TheVariants.{Full}
use Rattle.entry_codec.specs.Spelling.{spelling}
use Rattle.entry_codec.proofs.Fitting.{few_fit, met_fit, short_fit}
use Rattle.store_tx.proofs.Storing.{not_full}
use Rattle.store_tx.proofs.stored.batch_of.Goals as goal

pub encode-requires-clause-few : goal.encode-requires-clause-few
encode-requires-clause-few g c = few_fit (dataset_of (g.St.Store.state c.args._store.now)) c.args.entry.now c.requires.fits

pub encode-requires-clause-met : goal.encode-requires-clause-met
encode-requires-clause-met g c = met_fit (dataset_of (g.St.Store.state c.args._store.now)) c.args.entry.now c.requires.fits

pub returns-in-Ok-clause-within : goal.returns-in-Ok-clause-within
returns-in-Ok-clause-within g c =
    let store = c.args._store.now in
    c.fitting_law.ensures (dataset_of (g.St.Store.state store)) c.args.entry.now (g.met.St.Store.sound store) (g.met.St.Store.counted store) c.requires.fits c.in_ok-bytes.ensures.ranged c.requires.named

pub returns-in-Ok-clause-few : goal.returns-in-Ok-clause-few
returns-in-Ok-clause-few g c =
    let short = not_full c.add.result _ c.in-Ok.is (length c.in_ok-batch.batch + length c.as_slice.result.now) c.add.ensures.full in
    omega (arith, short, ap length c.in_ok-batch.ensures, ap length c.in-Ok.ensures.added, length-append c.in_ok-batch.batch c.as_slice.result.now)

pub unreachable-requires : goal.unreachable-requires
unreachable-requires g c =
    let short = short_fit (dataset_of (g.St.Store.state c.args._store.now)) c.args.entry.now c.requires.fits c.requires.named c.requires.short in
    let none : length c.in_ok-batch.batch ≡ 0 = ap length c.in_ok-batch.ensures in
    let bytes : length c.as_slice.result.now ≡ length (spelling c.args.entry.now) = ap length (c.as_slice.ensures ∙ c.in_ok-bytes.ensures.bytes) in
    let full = c.add.ensures.full.0 (subst (λ r. IsErrOf r Full) (sym (c.in-Err-Full.is ∙ ap (λ s. Err s) c.in-Err-Full.field-0-is)) refl) in
    omega (arith, short, none, bytes, full)
