use Rattle.std.proofs.Common.{refl}
use Rattle.mx_core.proofs.machine.Machine.step_if_usual.Goals as goal

pub perform_traced-requires-clause-fetched : goal.perform_traced-requires-clause-fetched
perform_traced-requires-clause-fetched c = rw (c.in-Some.ensures.value, c.pc-at.ensures.value) refl
