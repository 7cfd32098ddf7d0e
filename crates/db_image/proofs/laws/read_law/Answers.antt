use Rattle.db_image.proofs.ReadImaged.{read_imaged}
use Rattle.db_image.proofs.laws.read_law.Goals as goal

pub returns : goal.returns
returns c = read_imaged
