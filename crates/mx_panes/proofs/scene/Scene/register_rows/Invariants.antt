use Rattle.mx_core.specs.Kept.{state_of}
use Rattle.mx_panes.specs.Registers.{ShowRegisters}
use Rattle.mx_panes.proofs.scene.Scene.register_rows.Given as goal

-- the rows so far show the registers so far
abbrev pub invariant-loop-i : goal.invariant-loop-i
invariant-loop-i l = ShowRegisters (state_of l.self.machine.now) l.first l.i l.rows
