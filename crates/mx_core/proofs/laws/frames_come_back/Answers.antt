use Rattle.mx_core.specs.Effects.{specials_saved}
use Rattle.mx_core.proofs.Kept.Frames.{frame-address, frame-kept}
use Rattle.mx_core.proofs.laws.frames_come_back.Goals as goal

pub returns : goal.returns
returns c = record { address = λ s x h f g. frame-address s x (specials_saved s) h f g; frame = frame-kept }
