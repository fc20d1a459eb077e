-- What a usual instruction does: what it comes to is told by what it gives or by where it goes.
use Rattle.std.specs.Prelude.{◌≡◌, ◌+◌, ◌*◌, ◌%◌, ◌^◌, Ok}
use Rattle.mx_core.specs.Way.Calls.{settled}
use Rattle.mx_core.specs.Deeds.{deed_at, onward, outcome}
use Rattle.mx_code.specs.Instructions.{code_of, next_of, x_of}
use Rattle.mx_code.specs.declared.instruction.Instruction.{Instruction}
use Rattle.mx_core.specs.State.{State}
use Rattle.mx_core.specs.Way.KeptPage.{ReadsNoCount}
use Rattle.mx_core.specs.declared.usual.Usual.{Usual}
use Rattle.mx_core.specs.declared.usual.Usual.TheVariants as usual

-- It does what it does whatever the count of steps is.
abbrev pub IsUsual : Usual → State → Instruction → Type 0
IsUsual (usual.Gives x) s i = ReadsNoCount i × (outcome s (deed_at s i) ≡ settled s (x_of i) x (next_of i))
IsUsual (usual.GoesBy d) s i = ReadsNoCount i × (outcome s (deed_at s i) ≡ Ok (onward s ((i.at + 4 * d) % 2 ^ 64)))
IsUsual usual.GoesOn s i = ReadsNoCount i × (outcome s (deed_at s i) ≡ Ok (onward s (next_of i)))
IsUsual (usual.Apart code) s i = code ≡ code_of i
IsUsual usual.Other s i = Unit {0}
