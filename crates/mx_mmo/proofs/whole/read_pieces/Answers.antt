use Rattle.std.proofs.Common.{sym, ◌∙◌}
use Rattle.std.specs.List.{concat}
use Rattle.mx_mmo.proofs.Pieces.{object-of-all}
use Rattle.mx_mmo.proofs.whole.read_pieces.Goals as goal

pub returns-clause-exact : goal.returns-clause-exact
returns-clause-exact c = λ l ne. c.end_object.ensures ne ∙ sym (object-of-all (concat c.args.pieces.now) c.take_pieces.new.items c.take_pieces.new.reader c.in_ok-take_pieces.ensures.last l)
