use Rattle.mx_watch.proofs.AddressLaws.{those}
use Rattle.mx_watch.proofs.laws.addresses_come_once.Goals as goal

pub returns-clause-those : goal.returns-clause-those
returns-clause-those c = those
