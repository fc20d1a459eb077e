-- What follows the work on a machine: the plan of it looks at lines, and comes to what the plan of the host with the machine in it does.
use Rattle.std.proofs.Common.{◌≡◌, inl, inr, ℕ, List, [], ◌∷◌, Bool, true, false, cond, Ok, Err, take, refl, sym, ◌∙◌, ap, subst, ◌&&◌}
use Rattle.std.specs.Prelude.{Result}
use Rattle.mx_host.specs.HostModel.{HostModel}
use Rattle.mx_plan.specs.Calls.{host, HostPlan}
use Rattle.mx_plan.specs.Plan.{returns, calls, bind, end_of, Stops, Comes}
use Rattle.mx_plan.specs.Wild.{Course, ends, meets_wild, then_on, course}
use Rattle.mx_code.specs.declared.trace.Trace.{Trace}
use Rattle.mx_core.specs.State.{State}
use Rattle.mx_ring.specs.Stack.{register}
use Rattle.mx_run.specs.WildRuns.{MachineKind, window_machine}
use Rattle.mx_words.specs.declared.order.Order.{Order}
use Rattle.mx_outcome.specs.Kinds.{leaves_machine}
use Rattle.mx_outcome.specs.declared.outcome.Outcome.{Outcome}
use Rattle.mx_outcome.specs.declared.outcome.Outcome.TheVariants.{Done, OutOfMemory}
use Rattle.mx_files.specs.FilePlans.{lines_plan}
use Rattle.mx_gen.specs.Generator.{summary}
use Rattle.mx_dump.specs.Dump.{Line, dump_lines}
use Rattle.mx_top.specs.Endings as end
use Rattle.mx_top.specs.MachineWork as work
use Rattle.mx_top.specs.MachineWork.{Work, WorkPlan, WorkStops, working, work_goes, calling, going_back, dumping, summing}
use Rattle.mx_top.specs.Product.{ProgramWorld, worked}
use Rattle.mx_top.specs.Runs.{is_done, takes_back, state_lines, reached}
use Rattle.mx_top.specs.Telling.{telling}
use Rattle.mx_top.specs.WorkClauses.{WorkComes, left_of}
use Rattle.mx_top.proofs.WindowCourses.{work-window}

-- what a plan of the host comes to, beside traces that were told
abbrev pub beside : List Trace → Outcome × HostModel → Course Outcome ProgramWorld
beside told t = ends t.0 (t.1, told)

-- Work from a world comes to what a plan of the host does, whatever the machine; and where that may stop, this may, too.
pub record ComesTo (plan : WorkPlan Outcome) (w : Work) (p : HostPlan Outcome) : Type 0 where
  pub goes : (kind : MachineKind) → worked (course (work_goes kind) plan w) ≡ beside w.told (end_of host p w.host)
  pub stops : (v : HostModel) → Stops host v p w.host → WorkStops plan w v

abbrev left-in : Course Outcome ProgramWorld → Outcome × HostModel
left-in (ends outcome w) = (outcome, w.0)
left-in (meets_wild w) = (OutOfMemory, w.0)

left-by : (plan : WorkPlan Outcome) (w : Work) (t : Outcome × HostModel) → worked (course (work_goes window_machine) plan w) ≡ beside w.told t → left_of (end_of working plan w) ≡ t
left-by plan w t e = ap left-in (sym (ap worked (work-window plan w)) ∙ e)

-- so it comes of the work where it comes of that plan
pub work-comes : (plan : WorkPlan Outcome) (w : Work) (p : HostPlan Outcome) (v : HostModel) (r : Outcome) → ComesTo plan w p → Comes host w.host v OutOfMemory r p → WorkComes w v r plan
work-comes plan w p v r to c = record {
  ending = λ ne. c.ending ne ∙ sym (left-by plan w (end_of host p w.host) (to.goes window_machine));
  stopping = λ e. to.stops v (c.stopping e);
}

-- ---- a plan of the host first

host-goes : (kind : MachineKind) (p : HostPlan Outcome) (w : Work) → worked (course (work_goes kind) (work.host_in_work p) w) ≡ beside w.told (end_of host p w.host)
unfolding course work.host_in_work end_of
host-goes kind (returns a) w = refl
host-goes kind (calls o k) w = host-goes kind (k (host.act o w.host).0) (record w { host = (host.act o w.host).1 })

host-stop : (p : HostPlan Outcome) (v : HostModel) (w : Work) → Stops host v p w.host → Stops working (record w { host = v }) (work.host_in_work p) w
unfolding work.host_in_work Stops working
host-stop (returns a) v w h = absurd h
host-stop (calls o k) v w (inl e) = inl (refl, e)
host-stop (calls o k) v w (inr h) = inr (host-stop (k (host.act o w.host).0) v (record w { host = (host.act o w.host).1 }) h)

to-host : (p : HostPlan Outcome) (w : Work) → ComesTo (work.host_in_work p) w p
to-host p w = record { goes = λ kind. host-goes kind p w; stops = λ v h. record { left = record w { host = v }; stops = host-stop p v w h; host = refl } }

to-returns : (outcome : Outcome) (w : Work) → ComesTo (returns outcome) w (returns outcome)
unfolding course end_of Stops
to-returns outcome w = record { goes = λ kind. refl; stops = λ v h. absurd h }

bind-goes : {A : Type 0} (kind : MachineKind) (f : A → HostPlan Outcome) (g : A → WorkPlan Outcome) (p : HostPlan A) (w : Work) →
    ((a : A) (n : HostModel) → worked (course (work_goes kind) (g a) (record w { host = n })) ≡ beside w.told (end_of host (f a) n)) → worked (course (work_goes kind) (bind g (work.host_in_work p)) w) ≡ beside w.told (end_of host (bind f p) w.host)
unfolding course bind work.host_in_work end_of
bind-goes kind f g (returns a) w more = more a w.host
bind-goes kind f g (calls o k) w more = bind-goes kind f g (k (host.act o w.host).0) (record w { host = (host.act o w.host).1 }) more

bind-stop : {A : Type 0} (f : A → HostPlan Outcome) (g : A → WorkPlan Outcome) (p : HostPlan A) (v : HostModel) (w : Work) → ((a : A) (n : HostModel) → Stops host v (f a) n → WorkStops (g a) (record w { host = n }) v) → Stops host v (bind f p) w.host → WorkStops (bind g (work.host_in_work p)) w v
unfolding bind work.host_in_work Stops working
bind-stop f g (returns a) v w more h = more a w.host h
bind-stop f g (calls o k) v w more (inl e) = record { left = record w { host = v }; stops = inl (refl, e); host = refl }
bind-stop f g (calls o k) v w more (inr h) =
    let rest = bind-stop f g (k (host.act o w.host).0) v (record w { host = (host.act o w.host).1 }) more h in
    record { left = rest.left; stops = inr rest.stops; host = rest.host }

to-bind : {A : Type 0} (f : A → HostPlan Outcome) (g : A → WorkPlan Outcome) (p : HostPlan A) (w : Work) → ((a : A) (n : HostModel) → ComesTo (g a) (record w { host = n }) (f a)) → ComesTo (bind g (work.host_in_work p)) w (bind f p)
to-bind f g p w more = record { goes = λ kind. bind-goes kind f g p w (λ a n. (more a n).goes kind); stops = λ v h. bind-stop f g p v w (λ a n k. (more a n).stops v k) h }

-- ---- a look first

to-look : (p : HostPlan Outcome) (o : work.WorkCall) (more : work.WorkSays o → WorkPlan Outcome) (w now : Work) (says : work.WorkSays o) → ((kind : MachineKind) → work_goes kind o w ≡ ends says now) → (says, now) ≡ working.act o w → w.host ≡ now.host → w.told ≡ now.told →
    ComesTo (more says) now p → ComesTo (calling o more) w p
unfolding course Stops
to-look p o more w now says goes is same told to = record {
  goes = λ kind.
      ap (λ (c : Course (work.WorkSays o) Work). worked (then_on (λ r v. course (work_goes kind) (more r) v) c)) (goes kind) ∙ to.goes kind ∙ ap (λ (h : HostModel). beside now.told (end_of host p h)) (sym same) ∙ ap (λ ts. beside ts (end_of host p w.host)) (sym told);
  stops = λ v h.
      let rest = to.stops v (subst (λ (n : HostModel). Stops host v p n) same h) in
      record { left = rest.left; stops = inr (subst (λ (x : work.WorkSays o × Work). Stops working rest.left (more x.0) x.1) is rest.stops); host = rest.host };
}

-- ---- the dump

pub to-dumped : (dump : Bool) (outcome : Outcome) (w : Work) → ComesTo (work.dumped_plan dump outcome) w (end.dumped_plan dump outcome w.machine)
unfolding work.dumped_plan end.dumped_plan working
to-dumped dump outcome w = by (dump && leaves_machine outcome)
  where
    by : (b : Bool) → ComesTo (cond b (calling dumping (λ lines. work.host_in_work (telling outcome lines))) (returns outcome)) w (cond b (telling outcome (dump_lines w.machine)) (returns outcome))
    by true = to-look (telling outcome (dump_lines w.machine)) dumping (λ lines. work.host_in_work (telling outcome lines)) w w (dump_lines w.machine) (λ kind. refl) refl refl refl (to-host (telling outcome (dump_lines w.machine)) w)
    by false = to-returns outcome w

-- ---- the last steps are taken back

to-then : (dump : Bool) (outcome : Outcome) (w : Work) (r : Result (Unit {0}) Outcome) → ComesTo (work.then_dumped dump outcome r) w (end.then_dumped dump outcome w.machine r)
to-then dump outcome w (Ok u) = to-dumped dump outcome w
to-then dump outcome w (Err other) = to-returns other w

pub to-back : (o : Order) (outcome : Outcome) (w : Work) → ComesTo (work.back_plan o outcome) w (end.back_plan o.dump outcome (take o.last w.kept) w.machine)
unfolding work.back_plan end.back_plan working
to-back o outcome w = by (takes_back outcome)
  where
    states : List State
    states = take o.last w.kept

    at : Work
    at = record w { machine = reached w.machine states }

    by : (b : Bool) → ComesTo (cond b (calling (going_back o.last) (λ lines. bind (work.then_dumped o.dump outcome) (work.host_in_work (lines_plan lines)))) (work.dumped_plan o.dump outcome)) w
        (cond b (bind (end.then_dumped o.dump outcome (reached w.machine states)) (lines_plan (state_lines states))) (end.dumped_plan o.dump outcome w.machine))
    by true =
        to-look (bind (end.then_dumped o.dump outcome (reached w.machine states)) (lines_plan (state_lines states))) (going_back o.last) (λ lines. bind (work.then_dumped o.dump outcome) (work.host_in_work (lines_plan lines))) w at (state_lines states) (λ kind. refl) refl refl refl
        (to-bind (end.then_dumped o.dump outcome (reached w.machine states)) (work.then_dumped o.dump outcome) (lines_plan (state_lines states)) at (λ a n. to-then o.dump outcome (record at { host = n }) a))
    by false = to-dumped o.dump outcome w

-- ---- the summary of a generated program

pub to-summed : (blocks size : ℕ) (outcome : Outcome) (w : Work) → ComesTo (work.summed_plan blocks size outcome) w (end.summed_plan blocks size outcome w.machine)
unfolding working
to-summed blocks size outcome w = by (is_done outcome)
  where
    line : Line
    line = summary blocks size w.machine.steps (register w.machine.stack 255)

    by : (b : Bool) → ComesTo (cond b (calling (summing blocks size) (λ told. work.host_in_work (telling (Done 0) (told ∷ [])))) (returns outcome)) w (cond b (telling (Done 0) (line ∷ [])) (returns outcome))
    by true = to-look (telling (Done 0) (line ∷ [])) (summing blocks size) (λ told. work.host_in_work (telling (Done 0) (told ∷ []))) w w line (λ kind. refl) refl refl refl (to-host (telling (Done 0) (line ∷ [])) w)
    by false = to-returns outcome w
