-- A subject that is not bad is sound.
use Rattle.std.proofs.Common.{◌≡◌, false, Some, None, arith}
use Rattle.std.proofs.lemmas.Bool.Decides.{nat_tests}
use Rattle.mx_core.specs.State.{State}
use Rattle.mx_cmd.specs.declared.command.Subject.{Subject}
use Rattle.mx_cmd.specs.declared.command.Subject.TheVariants.{Register, Global, Special, Memory}
use Rattle.mx_con.specs.Judgement.{number_bad, register_bad, address_bad}
use Rattle.mx_show.specs.Subjects.{IsSound}

pub sound-subject : (s : State) (subject : Subject) → number_bad subject ≡ false → register_bad s subject ≡ false →
    address_bad subject ≡ false → IsSound subject
sound-subject s (Register None) n r a = omega arith
sound-subject s (Register (Some k)) n r a = grind (arith, nat_tests)
sound-subject s (Global None) n r a = omega arith
sound-subject s (Global (Some k)) n r a = grind (arith, nat_tests)
sound-subject s (Special None) n r a = omega arith
sound-subject s (Special (Some k)) n r a = grind (arith, nat_tests)
sound-subject s (Memory k) n r a = grind (arith, nat_tests)

pub ruleset sounding = (sound-subject)
