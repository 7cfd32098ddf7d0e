use Rattle.std.proofs.Common.{◌∙◌, sym}
use Rattle.db_store.specs.State.{dataset_of}
use Rattle.entry_codec.proofs.Fitting.{few_fit, met_fit}
use Rattle.store_tests.proofs.entry_codec_tests.has_bytes.Goals as goal

pub encode-requires-clause-few : goal.encode-requires-clause-few
encode-requires-clause-few g c = few_fit (dataset_of (g.St.Store.state c.args.store.now)) c.args.entry.now (sym c.fits.ensures ∙ c.if-not-fits.false)

pub encode-requires-clause-met : goal.encode-requires-clause-met
encode-requires-clause-met g c = met_fit (dataset_of (g.St.Store.state c.args.store.now)) c.args.entry.now (sym c.fits.ensures ∙ c.if-not-fits.false)
