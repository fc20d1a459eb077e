-- A test of bytes in the words of an equation.
use Rattle.std.proofs.lemmas.Slice.Eq.{bytes_eq-Decides}

pub ruleset tests = (bytes_eq-Decides)
