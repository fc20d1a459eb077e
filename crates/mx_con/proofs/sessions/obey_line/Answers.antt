use Rattle.mx_con.proofs.ListedSessions.{command-part, continue-both}
use Rattle.mx_con.proofs.Parts.{part-with, part-alone}
use Rattle.mx_con.proofs.SessionSteps.{unknown-comes, step-comes, quit-comes, shown-state, shown-flags, answered-part}
use Rattle.mx_plan.proofs.KeptHosts.{keeps_host-all}
use Rattle.mx_con.proofs.sessions.obey_line.Goals as goal

pub returns-in_default-clause-part : goal.returns-in_default-clause-part
returns-in_default-clause-part g c =
    rw c.in_default.is (command-part c.args.steps _ _ tt c.requires (part-with _ _ c.refuse.ensures (λ h. unknown-comes c.args.steps _ _ _ _ _ c.refuse.result h)))

pub returns-in-Step-clause-part : goal.returns-in-Step-clause-part
returns-in-Step-clause-part g c =
    rw (c.in-Some.is, c.in-Step.is) (command-part c.args.steps _ _ tt c.requires (part-with _ _ c.step_once.ensures.part (λ h. step-comes c.args.steps _ _ _ c.step_once.result h)))

pub returns-in-Continue-clause-part : goal.returns-in-Continue-clause-part
returns-in-Continue-clause-part g c = rw (c.in-Some.is, c.in-Continue.is) (part-with _ _ c.go_on.ensures.part (λ h. continue-both c.args.steps _ _ _ c.go_on.result h))

pub returns-in-Quit-clause-part : goal.returns-in-Quit-clause-part
returns-in-Quit-clause-part g c =
    rw (c.in-Some.is, c.in-Quit.is) (command-part c.args.steps _ _ tt c.requires (part-alone (keeps_host-all _ _) (λ e. absurd (cc)) (λ t. quit-comes c.args.steps _ _)))

pub returns-in-State-clause-part : goal.returns-in-State-clause-part
returns-in-State-clause-part g c =
    rw (c.in-Some.is, c.in-State.is)
    (command-part c.args.steps _ _ tt c.requires (part-with _ _ (rw c.machine.ensures at c.show_state.ensures) (λ h. shown-state c.args.steps _ _ _ _ _ c.show_state.result h)))

pub returns-in-Show-clause-part : goal.returns-in-Show-clause-part
returns-in-Show-clause-part g c = rw (c.in-Some.is, c.in-Show.is) (command-part c.args.steps _ _ tt c.requires (answered-part c.args.steps _ _ tt c.show.ensures.part))

pub returns-in-Change-clause-part : goal.returns-in-Change-clause-part
returns-in-Change-clause-part g c = rw (c.in-Some.is, c.in-Change.is) (command-part c.args.steps _ _ tt c.requires (answered-part c.args.steps _ _ tt c.change_subject.ensures.part))

pub returns-in-ShowMore-clause-part : goal.returns-in-ShowMore-clause-part
returns-in-ShowMore-clause-part g c = rw (c.in-Some.is, c.in-ShowMore.is) (command-part c.args.steps _ _ tt c.requires (answered-part c.args.steps _ _ tt c.show_more.ensures.part))

pub returns-in-GoTo-clause-part : goal.returns-in-GoTo-clause-part
returns-in-GoTo-clause-part g c = rw (c.in-Some.is, c.in-GoTo.is) (command-part c.args.steps _ _ tt c.requires (answered-part c.args.steps _ _ tt (c.go_to.ensures.part c.args.shown.now)))

pub returns-in-Break-clause-part : goal.returns-in-Break-clause-part
returns-in-Break-clause-part g c =
    rw (c.in-Some.is, c.in-Break.is) (command-part c.args.steps _ _ tt c.requires (answered-part c.args.steps _ _ tt (c.set_tetra_breaks.ensures.part c.args.shown.now)))

pub returns-in-Trace-clause-part : goal.returns-in-Trace-clause-part
returns-in-Trace-clause-part g c =
    rw (c.in-Some.is, c.in-Trace.is) (command-part c.args.steps _ _ tt c.requires (answered-part c.args.steps _ _ tt (c.trace_tetra.ensures.part c.args.shown.now)))

pub returns-in-Untrace-clause-part : goal.returns-in-Untrace-clause-part
returns-in-Untrace-clause-part g c =
    rw (c.in-Some.is, c.in-Untrace.is) (command-part c.args.steps _ _ tt c.requires (answered-part c.args.steps _ _ tt (c.untrace_tetra.ensures.part c.args.shown.now)))

pub returns-in-Flags-clause-part : goal.returns-in-Flags-clause-part
returns-in-Flags-clause-part g c =
    rw (c.in-Some.is, c.in-Flags.is)
    (command-part c.args.steps _ _ tt c.requires (part-with _ _ c.write_flags.ensures (λ h. shown-flags c.args.steps _ _ _ _ _ c.write_flags.result h)))
