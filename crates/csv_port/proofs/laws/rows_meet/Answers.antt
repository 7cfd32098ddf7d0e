use Rattle.csv_port.proofs.ReadLemmas.{all_meet}
use Rattle.csv_port.proofs.laws.rows_meet.Goals as goal

pub returns : goal.returns
returns c = all_meet
