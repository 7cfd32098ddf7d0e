use Rattle.std.proofs.Common.{◌∙◌, ap}
use Rattle.std.specs.FinMap.{len}
use Rattle.db_store.specs.Counts.{after}
use Rattle.db_store.proofs.CountLemmas.{counted_is}
use Rattle.hybrid_view.specs.Live.{Lived, contents_in}
use Rattle.hybrid_store.proofs.CommitLemmas.{fit_few, fit_differ}
use Rattle.hybrid_store.proofs.store.HybridStore.touched.Goals as goal

pub touched-requires : goal.touched-requires
touched-requires c =
    let s = c.args.self.now in
    fit_few s.schema s.lanes.items s.order.items s.segments.items c.args.branch c.requires.fits.0 c.args.changes.now c.requires.fits.1

pub returns-clause-keys : goal.returns-clause-keys
returns-clause-keys c =
    let s = c.args.self.now in
    c.in_ok-touched.ensures.keys
    ∙ counted_is c.args.relation (contents_in c.lived-live.result.now) c.args.changes.now (fit_differ s.schema s.lanes.items s.order.items s.segments.items c.args.branch c.requires.fits.0 c.args.changes.now c.requires.fits.1)
    ∙ ap (λ (l : Lived). len (after c.args.relation (contents_in l) c.args.changes.now)) c.lived-live.ensures
