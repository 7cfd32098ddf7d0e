use Rattle.entry_codec.proofs.Back.{back, size_is, no_front, all}
use Rattle.entry_codec.proofs.Spelled.{spelled, body_spelled}
use Rattle.entry_codec.proofs.laws.codec_laws.Goals as goal

pub returns : goal.returns
returns c = record { back = back; size = size_is; no_front = no_front; all = all; spelled = spelled; body_spelled = body_spelled }
