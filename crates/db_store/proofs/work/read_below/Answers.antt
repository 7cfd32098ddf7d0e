use Rattle.std.proofs.Common.{◌≡◌, ap, sym, subst, is_some, List, Option}
use Rattle.std.specs.Prelude.{IfSome}
use Rattle.db_value.specs.Value.{Value}
use Rattle.db_value.specs.declared.record.Record.{Record}
use Rattle.db_store.proofs.work.read_below.Goals as goal

pub returns-in-Some-clause-there : goal.returns-in-Some-clause-there
returns-in-Some-clause-there g c = sym (ap is_some c.in-Some.ensures.fields)

pub returns-in-Some-clause-fields : goal.returns-in-Some-clause-fields
returns-in-Some-clause-fields g c = subst (λ (o : Option (List Value)). IfSome o (λ fields. c.read_record.new.into.fields ≡ fields)) (sym c.in-Some.ensures.fields) (ap (λ (r : Record). r.fields) c.read_record.ensures)
