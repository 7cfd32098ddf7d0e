use Rattle.std.proofs.Common.{◌<◌, ◌∙◌, [], arith, length}
use Rattle.std.proofs.lemmas.List.{get_or_default}
use Rattle.db_store.proofs.work.Work.own_widths.Goals as goal

pub index-requires : goal.index-requires
index-requires g c = omega (arith, c.requires, c.args.self.now.viewable.relations, c.args.self.now.known, c.args.self.now.widths.ok.0)

pub returns : goal.returns
returns g c = c.index.ensures ∙ get_or_default c.args.self.now.widths.items c.args.relation c.index.result.now [] (omega (arith, c.requires, c.args.self.now.viewable.relations, c.args.self.now.known))
