use Rattle.std.proofs.Common.{◌≡◌, sym, arith}
use Rattle.std.specs.FinMap.{len}
use Rattle.std.proofs.lemmas.Bool.{le-leb}
use Rattle.db_store.specs.Table.{relation_at, with_changes}
use Rattle.db_store.specs.Fits.{most_keys}
use Rattle.store_catalogue.proofs.FitLemmas.{keys_most}
use Rattle.store_catalogue.proofs.fit.stays_within.Goals as goal

pub returns-then-keys-len-le-MOST_KEYS : goal.returns-then-keys-len-le-MOST_KEYS
returns-then-keys-len-le-MOST_KEYS g c =
    let t = g.T.KeyedTable.table_of c.args.table.now in
    let most = keys_most t c.args.changes.now c.args.relation c.requires.relation c.requires.ascending in
    let keys : c.keys.result ≡ len (relation_at t c.args.relation) = c.keys.ensures in
    sym (le-leb (len (relation_at (with_changes t c.args.changes.now) c.args.relation)) most_keys (omega (arith, most, keys, c.len.ensures.count, c.if-keys-len-le-MOST_KEYS.true)))
