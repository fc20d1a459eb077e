use Rattle.std.proofs.Common.{arith, eqb-true, ◌∙◌, sym, refl}
use Rattle.std.proofs.lemmas.List.{nil_from_length}
use Rattle.mx_plan.proofs.KeptHosts.{keeps_host-all}
use Rattle.mx_run.proofs.AccompaniedRuns.{of-run, lacking-so, accompanied-is}
use Rattle.mx_run.proofs.FreeTurns.{none-made}
use Rattle.mx_run.proofs.Later.{none-later}
use Rattle.mx_watch.proofs.Heard.{place_count}
use Rattle.mx_watch.proofs.Lacked.{lacked-alone, lacked-first, lacked-placed}
use Rattle.mx_watch.proofs.Watched.{hears-placed, hears-nobody, either-way, unless-by}
use Rattle.mx_watch.proofs.running.run_with_watchers.Goals as goal

-- ---- without watchers

pub returns-then-is_empty-clause-plan : goal.returns-then-is_empty-clause-plan
returns-then-is_empty-clause-plan g c = λ t. of-run _ _ _ _ (c.run_freely.ensures.plan t)

pub returns-then-is_empty-clause-stops : goal.returns-then-is_empty-clause-stops
returns-then-is_empty-clause-stops g c = λ t o.
    lacked-alone _ _ _ _ _ _ (nil_from_length _ (sym c.args.watchers.now.ok.0 ∙ eqb-true _ 0 (sym c.is_empty.ensures ∙ c.if-is_empty.true))) ((c.run_freely.ensures.plan t).stopping o)

pub returns-then-is_empty-clause-heard : goal.returns-then-is_empty-clause-heard
returns-then-is_empty-clause-heard g c = λ t ne.
    hears-nobody _ _ _ _ (nil_from_length _ (sym c.args.watchers.now.ok.0 ∙ eqb-true _ 0 (sym c.is_empty.ensures ∙ c.if-is_empty.true)))

pub returns-then-is_empty-clause-list_heard : goal.returns-then-is_empty-clause-list_heard
returns-then-is_empty-clause-list_heard g c = λ t ne u.
    either-way _ _ (hears-nobody _ _ _ _ (nil_from_length _ (sym c.args.watchers.now.ok.0 ∙ eqb-true _ 0 (sym c.is_empty.ensures ∙ c.if-is_empty.true))))

-- ---- with watchers

pub listen-requires : goal.listen-requires
listen-requires g c = place_count _ _ c.in-Ok.ensures ∙ c.len.ensures ∙ c.args.watchers.now.ok.0

pub returns-in-Ok-clause-stops : goal.returns-in-Ok-clause-stops
returns-in-Ok-clause-stops g c = λ t o.
    lacked-placed _ _ _ _ _ _ _ _ _ _ c.in-Ok.ensures (c.len.ensures ∙ c.args.watchers.now.ok.0) (c.listen.ensures.stops t o)

pub returns-in-Ok-clause-heard : goal.returns-in-Ok-clause-heard
returns-in-Ok-clause-heard g c = λ t ne.
    hears-placed _ _ _ _ _ _ _ _ c.in-Ok.ensures (c.len.ensures ∙ c.args.watchers.now.ok.0) (c.listen.ensures.heard t ne)

pub returns-in-Ok-clause-list_heard : goal.returns-in-Ok-clause-list_heard
returns-in-Ok-clause-list_heard g c = λ t ne u.
    unless-by _ _ _ (hears-placed _ _ _ _ _ _ _ _ c.in-Ok.ensures (c.len.ensures ∙ c.args.watchers.now.ok.0)) (c.listen.ensures.list_heard t ne u)

-- ---- where their places lack memory

pub returns-in-Err-clause-plan : goal.returns-in-Err-clause-plan
returns-in-Err-clause-plan g c = λ t. lacking-so _ 0 _ _ (omega arith) (none-made _ _)

pub returns-in-Err-clause-run : goal.returns-in-Err-clause-run
returns-in-Err-clause-run g c = accompanied-is _ _ _ _ _ _ _ _ (returns-in-Err-clause-plan g c) (λ t ne. absurd (ne refl)) (none-later _ _ _ refl) (keeps_host-all _ _)

pub returns-in-Err-clause-stops : goal.returns-in-Err-clause-stops
returns-in-Err-clause-stops g c = λ t o. lacked-first _ _ _ _
