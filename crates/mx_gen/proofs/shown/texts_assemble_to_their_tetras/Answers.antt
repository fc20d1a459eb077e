use Rattle.mx_gen.proofs.ShownAgain.{is-read, again, where-taken}
use Rattle.mx_gen.proofs.shown.texts_assemble_to_their_tetras.Goals as goal

pub returns : goal.returns
returns c = record { read = is-read; same = again; taken = where-taken }
