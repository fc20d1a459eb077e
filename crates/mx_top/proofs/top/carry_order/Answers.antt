use Rattle.mx_top.proofs.Ordered.{run-heard, sim-heard, quiet-heard}
use Rattle.mx_top.proofs.WorkParts.{run-ordered, sim-ordered, asm-ordered, gen-ordered, show-ordered, multi-ordered}
use Rattle.mx_top.proofs.top.carry_order.Goals as goal

pub returns-in-Run-clause-part : goal.returns-in-Run-clause-part
returns-in-Run-clause-part g c = record { both = run-ordered _ _ _ _ _ c.in-Run.is c.run_ordered.ensures.part.both; causes = c.run_ordered.ensures.part.causes }

pub returns-in-Sim-clause-part : goal.returns-in-Sim-clause-part
returns-in-Sim-clause-part g c = record { both = sim-ordered _ _ _ _ _ c.in-Sim.is c.run_ordered-in-Sim.ensures.part.both; causes = c.run_ordered-in-Sim.ensures.part.causes }

pub returns-in-Asm-clause-part : goal.returns-in-Asm-clause-part
returns-in-Asm-clause-part g c = record { both = asm-ordered _ _ _ _ _ _ _ c.in-Asm.is c.word_bytes.ensures c.word_bytes-in-Asm.ensures c.assemble_file.ensures.plan; causes = c.assemble_file.ensures.causes }

pub returns-in-Gen-clause-part : goal.returns-in-Gen-clause-part
returns-in-Gen-clause-part g c = record { both = gen-ordered _ _ _ _ _ c.in-Gen.is c.generate.ensures.both; causes = c.generate.ensures.causes }

pub returns-in-Show-clause-part : goal.returns-in-Show-clause-part
returns-in-Show-clause-part g c = record { both = show-ordered _ _ _ _ _ _ c.in-Show.is c.word_bytes-in-Show.ensures c.list_file.ensures.plan; causes = c.list_file.ensures.causes }

pub returns-in-Multi-clause-part : goal.returns-in-Multi-clause-part
returns-in-Multi-clause-part g c = record { both = multi-ordered _ _ _ _ _ _ _ c.in-Multi.is c.word_bytes-in-Multi.ensures c.word_bytes-in-Multi-2.ensures c.run_scheduled.ensures.both; causes = c.run_scheduled.ensures.causes }

pub returns-in-Run-clause-heard : goal.returns-in-Run-clause-heard
returns-in-Run-clause-heard g c = run-heard _ _ _ _ _ _ _ _ c.in-Run.is c.run_ordered.ensures.heard

pub returns-in-Sim-clause-heard : goal.returns-in-Sim-clause-heard
returns-in-Sim-clause-heard g c = sim-heard _ _ _ _ _ _ _ _ c.in-Sim.is c.run_ordered-in-Sim.ensures.heard

pub returns-in-Asm-clause-heard : goal.returns-in-Asm-clause-heard
returns-in-Asm-clause-heard g c = quiet-heard _ _ _ _ _ _ _ c.in-Asm.is tt

pub returns-in-Gen-clause-heard : goal.returns-in-Gen-clause-heard
returns-in-Gen-clause-heard g c = quiet-heard _ _ _ _ _ _ _ c.in-Gen.is tt

pub returns-in-Show-clause-heard : goal.returns-in-Show-clause-heard
returns-in-Show-clause-heard g c = quiet-heard _ _ _ _ _ _ _ c.in-Show.is tt

pub returns-in-Multi-clause-heard : goal.returns-in-Multi-clause-heard
returns-in-Multi-clause-heard g c = quiet-heard _ _ _ _ _ _ _ c.in-Multi.is tt
