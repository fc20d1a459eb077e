-- What watchers hear of what is ordered.
use Rattle.std.proofs.Common.{◌≡◌, List, [], Ok, Err, sym, subst}
use Rattle.std.specs.Prelude.{Option, Result}
use Rattle.mx_host.specs.HostModel.{HostModel}
use Rattle.mx_run.specs.WildRuns.{MachineKind}
use Rattle.mx_watch.specs.Watching.{Watching}
use Rattle.mx_watch.specs.declared.telling.Report.{Report}
use Rattle.mx_words.specs.declared.order.Command.{Command}
use Rattle.mx_words.specs.declared.order.Command.TheVariants.{Run, Asm, Sim, Gen, Show, Multi}
use Rattle.mx_words.specs.declared.order.Order.{Order}
use Rattle.mx_words.specs.declared.order.WordsFault.{WordsFault}
use Rattle.mx_files.specs.ObjectPlans.{assemble_plan, list_plan}
use Rattle.mx_outcome.specs.declared.outcome.Outcome.{Outcome}
use Rattle.mx_outcome.specs.declared.outcome.Outcome.TheVariants.{Usage}
use Rattle.mx_begin.specs.Arguments.{Word, word_at}
use Rattle.mx_begin.specs.declared.images.Form.TheVariants.{Source, Object}
use Rattle.mx_top.specs.Product.{run_file, ordered_plan, work_plan}
use Rattle.mx_top.specs.WorkClauses.{HearsPlan, told_by}
use Rattle.mx_top.proofs.Heard.{quiet-plan}
use Rattle.mx_top.proofs.Quiet.{gen-quiet, host-quiet, multi-quiet, returns-quiet}

-- commands whose watchers are told nothing
abbrev pub IsQuiet : Command → Type 0
IsQuiet Run = ⊥
IsQuiet Sim = ⊥
IsQuiet command = Unit {0}

quiet : (kind : MachineKind) (words : List Word) (o : Order) (command : Command) (m : HostModel) → IsQuiet command → told_by kind (ordered_plan words o command) m ≡ []
unfolding ordered_plan
quiet kind words o Run m q = absurd q
quiet kind words o Sim m q = absurd q
quiet kind words o Asm m q = host-quiet kind (assemble_plan (word_at words o.file) (word_at words o.rest)) m
quiet kind words o Gen m q = gen-quiet kind o m
quiet kind words o Show m q = host-quiet kind (list_plan (word_at words o.file)) m
quiet kind words o Multi m q = multi-quiet kind o (word_at words o.schedule) (word_at words o.file) m

pub quiet-heard : (a : Option HostModel) (r : Outcome) (ws : List Watching) (earlier : List Report) (words : List Word) (o : Order) (command : Command) → o.command ≡ command → IsQuiet command → HearsPlan a r ws ws earlier earlier (ordered_plan words o o.command)
quiet-heard a r ws earlier words o command e q =
    subst (λ (x : Command). HearsPlan a r ws ws earlier earlier (ordered_plan words o x)) (sym e) (quiet-plan a r ws earlier (ordered_plan words o command) (λ t ne kind. quiet kind words o command _ q))

pub run-heard : (a : Option HostModel) (r : Outcome) (ws left : List Watching) (earlier later : List Report) (words : List Word) (o : Order) → o.command ≡ Run → HearsPlan a r ws left earlier later (run_file words o Source) → HearsPlan a r ws left earlier later (ordered_plan words o o.command)
unfolding ordered_plan
run-heard a r ws left earlier later words o e h = subst (λ (x : Command). HearsPlan a r ws left earlier later (ordered_plan words o x)) (sym e) h

pub sim-heard : (a : Option HostModel) (r : Outcome) (ws left : List Watching) (earlier later : List Report) (words : List Word) (o : Order) → o.command ≡ Sim → HearsPlan a r ws left earlier later (run_file words o Object) → HearsPlan a r ws left earlier later (ordered_plan words o o.command)
unfolding ordered_plan
sim-heard a r ws left earlier later words o e h = subst (λ (x : Command). HearsPlan a r ws left earlier later (ordered_plan words o x)) (sym e) h

-- words that are an order, and words that are none
pub order-heard : (a : Option HostModel) (r : Outcome) (ws left : List Watching) (earlier later : List Report) (words : List Word) (x : Result Order WordsFault) (o : Order) → Ok o ≡ x → HearsPlan a r ws left earlier later (ordered_plan words o o.command) →
    HearsPlan a r ws left earlier later (work_plan words x)
order-heard a r ws left earlier later words x o e h = subst (λ (y : Result Order WordsFault). HearsPlan a r ws left earlier later (work_plan words y)) e h

pub usage-heard : (a : Option HostModel) (r : Outcome) (ws : List Watching) (earlier : List Report) (words : List Word) (x : Result Order WordsFault) (fault : WordsFault) → Err fault ≡ x → HearsPlan a r ws ws earlier earlier (work_plan words x)
usage-heard a r ws earlier words x fault e =
    subst (λ (y : Result Order WordsFault). HearsPlan a r ws ws earlier earlier (work_plan words y)) e (quiet-plan a r ws earlier (work_plan words (Err fault)) (λ t ne kind. returns-quiet kind (Usage fault) _))
