use Rattle.mx_stab.proofs.NameSets.{key-more}
use Rattle.mx_stab.proofs.found.add.Goals as goal

pub returns : goal.returns
returns c = key-more c.in_ok-from_slice.field-0 c.args.names.now c.insert.new.self c.args.name.now c.in_ok-insert.ensures.keys c.in_ok-from_slice.ensures.items
