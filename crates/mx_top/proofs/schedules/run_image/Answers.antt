use Rattle.std.proofs.Common.{ℕ, ◌∙◌, ap, subst, sym}
use Rattle.mx_load.specs.Kept.{image_of}
use Rattle.mx_multi.specs.Joint.{Joint, NoneTouched, started as joint_started}
use Rattle.mx_multi.proofs.ListStarts.{start-untouched}
use Rattle.mx_ring.specs.Stack.{windowed}
use Rattle.mx_ring.specs.Window.{window_at_start}
use Rattle.mx_top.proofs.Caused.{fails-lacking}
use Rattle.mx_top.proofs.WorkPlans.{both-lacks, both-taking}
use Rattle.mx_top.proofs.schedules.run_image.Goals as goal

pub run_started-requires-clause-untouched : goal.run_started-requires-clause-untouched
run_started-requires-clause-untouched g c =
    subst (λ (j : Joint). NoneTouched j.processors) (sym c.in-Ok.ensures.state) (start-untouched (image_of c.args.image) c.count_processors-count.result (windowed (window_at_start c.args.order.now.ring)))

pub returns-in-Ok : goal.returns-in-Ok
returns-in-Ok g c =
    let ran = c.run_started.ensures (image_of c.args.image) (c.in-Ok.ensures.state ∙ ap (λ (n : ℕ). joint_started (image_of c.args.image) n (windowed (window_at_start c.args.order.now.ring))) c.count_processors-count.ensures.value) in
    record { both = both-taking _ _ _ _ ran.both; causes = ran.causes }

pub returns-in-Err : goal.returns-in-Err
returns-in-Err g c = record { both = both-lacks _ _; causes = fails-lacking g.H.Host.told g.H.Host.faults _ }
