use Rattle.mx_text.proofs.Telling.{instruction-told, hidden-y}
use Rattle.mx_text.proofs.laws.texts_tell_their_instruction.Goals as goal

pub returns-clause-told : goal.returns-clause-told
returns-clause-told c = instruction-told

pub returns-clause-hidden : goal.returns-clause-hidden
returns-clause-hidden c = hidden-y
