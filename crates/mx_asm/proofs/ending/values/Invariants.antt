use Rattle.std.proofs.Common.{◌≡◌, ◌-◌, take, length}
use Rattle.mx_word.specs.Ranges.{AreOctas}
use Rattle.mx_asm.proofs.ending.values.Given as goal

abbrev pub invariant-loop-reg : goal.invariant-loop-reg
invariant-loop-reg l = (l.values ≡ take (l.reg - (255 - length l.gregs)) l.gregs) × AreOctas l.values
