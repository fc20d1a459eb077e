use Rattle.mx_words.proofs.Complete.{order-read}
use Rattle.mx_words.proofs.Sound.{order-spelled}
use Rattle.mx_words.proofs.laws.orders_are_those_of_the_grammar.Goals as goal

pub returns-clause-complete : goal.returns-clause-complete
returns-clause-complete c = order-read

pub returns-clause-sound : goal.returns-clause-sound
returns-clause-sound c = order-spelled
