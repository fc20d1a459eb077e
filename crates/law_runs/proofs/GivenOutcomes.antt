-- What the work on a machine answers, by what its runs and sessions come to: where those outcomes and a fault of the host are such, it
-- answers such an outcome.
use Rattle.std.proofs.Common.{ℕ, List, [], ◌∷◌, Bool, true, false, cond, Ok, Err, ◌&&◌}
use Rattle.std.specs.Prelude.{Result, ◌==◌, not}
use Rattle.mx_host.specs.declared.faults.HostFault.{HostFault as SlotFault}
use Rattle.mx_plan.specs.Calls.{HostCall, HostSays, HostPlan, need, write_plan}
use Rattle.mx_plan.specs.Plan.{returns, calls, bind}
use Rattle.mx_plan.specs.Wild.{Course, ends, meets_wild}
use Rattle.mx_plan.proofs.Giving.{Gives, gives-bind}
use Rattle.mx_plan.proofs.WildLaws.{Answers}
use Rattle.mx_run.specs.RunPlans.{RunWorld}
use Rattle.mx_run.specs.declared.end.End.{End}
use Rattle.mx_con.specs.SessionPlans.{SessionWorld}
use Rattle.mx_con.specs.declared.end.SessionEnd.{SessionEnd}
use Rattle.mx_words.specs.declared.order.Order.{Order}
use Rattle.mx_files.specs.FilePlans.{Part, on_ok, carried, write_piece, made_plan, lines_plan}
use Rattle.mx_outcome.specs.Kinds.{leaves_machine}
use Rattle.mx_outcome.specs.declared.outcome.Outcome.{Outcome}
use Rattle.mx_outcome.specs.declared.outcome.Outcome.TheVariants.{Done, HostFault}
use Rattle.mx_dump.specs.Dump.{Line}
use Rattle.mx_top.specs.MachineWork.{Work, WorkCall, of_host, stepping, reporting, keeping, sitting, going_back, dumping, summing, WorkSays, WorkPlan, host_in_work, ran, sat, calling, dumped_plan, then_dumped, back_plan, sitting_plan, kept_plan, reported_plan, stepped_plan, machine_plan, summed_plan, generated_work}
use Rattle.mx_begin.specs.Ends.{outcome_of}
use Rattle.mx_top.specs.Runs.{generator_steps, session_outcome, is_done, takes_back}
use Rattle.mx_top.specs.Telling.{telling, written_with}

-- of what calls of the host may answer something is known
abbrev pub HostMay : Type 1
HostMay = (o : HostCall) → HostSays o → Type 0

-- what a call of the work may answer, where each outcome is such a one
abbrev pub WorkMay : HostMay → (Outcome → Type 0) → (o : WorkCall) → WorkSays o → Type 0
WorkMay May Such (of_host o) r = May o r
WorkMay May Such (stepping n) r = Such (outcome_of n r)
WorkMay May Such (reporting n) r = Such (outcome_of n r)
WorkMay May Such (keeping n) r = Such (outcome_of n r)
WorkMay May Such (sitting n) r = Such (session_outcome n r)
WorkMay May Such other r = Unit {0}

-- it is done, or ends the work with such an outcome
abbrev pub EndsWith : {A : Type 0} → (Outcome → Type 0) → Result A Outcome → Type 0
EndsWith Such (Ok x) = Unit {0}
EndsWith Such (Err outcome) = Such outcome

module _ (May : HostMay) (Such : Outcome → Type 0) where
  pub work-host : {A : Type 0} (First : A → Type 0) (p : HostPlan A) → Gives May First p → Gives (WorkMay May Such) First (host_in_work p)
  unfolding Gives host_in_work
  work-host First (returns a) h = h
  work-host First (calls o k) h = λ r m. work-host First (k r) (h r m)

  -- ---- lines

  module _ (faulty : Such HostFault) where
    piece-gives : (r : Result (Unit {0}) SlotFault) → EndsWith Such (carried r)
    piece-gives (Ok u) = tt
    piece-gives (Err why) = faulty

    pub write-gives : (slot : ℕ) (piece : List ℕ) → Gives May (EndsWith Such) (write_piece slot piece)
    unfolding Gives write_piece write_plan bind
    write-gives slot piece = λ r t. piece-gives r

    made-gives : (line : List ℕ) → Gives May (EndsWith Such) (made_plan line)
    unfolding Gives made_plan need bind
    made-gives line = λ u t. write-gives 259 line

    next-gives : (more : Part (Unit {0})) → Gives May (EndsWith Such) more → (r : Result (Unit {0}) Outcome) → EndsWith Such r → Gives May (EndsWith Such) (on_ok (λ u. more) r)
    unfolding Gives
    next-gives more h (Ok u) t = h
    next-gives more h (Err outcome) t = t

    pub lines-give : (lines : List Line) → Gives May (EndsWith Such) (lines_plan lines)
    unfolding Gives lines_plan
    lines-give [] = tt
    lines-give (line ∷ lines) = gives-bind May (EndsWith Such) (EndsWith Such) (on_ok (λ u. lines_plan lines)) (made_plan line) (made-gives line) (next-gives (lines_plan lines) (lines-give lines))

    told-gives : (outcome : Outcome) → Such outcome → (r : Result (Unit {0}) Outcome) → EndsWith Such r → Gives May Such (returns (written_with outcome r))
    unfolding Gives
    told-gives outcome h (Ok u) t = h
    told-gives outcome h (Err other) t = t

    pub telling-gives : (outcome : Outcome) (lines : List Line) → Such outcome → Gives May Such (telling outcome lines)
    unfolding telling
    telling-gives outcome lines h = gives-bind May (EndsWith Such) Such (λ r. returns (written_with outcome r)) (lines_plan lines) (lines-give lines) (told-gives outcome h)

    -- ---- the work of `run` and `sim`

    abbrev WorkGives : WorkPlan Outcome → Type 0
    WorkGives plan = Gives (WorkMay May Such) Such plan

    dumped-gives : (dump : Bool) (outcome : Outcome) → Such outcome → WorkGives (dumped_plan dump outcome)
    unfolding Gives dumped_plan
    dumped-gives dump outcome h = by (dump && leaves_machine outcome)
      where
        by : (b : Bool) → WorkGives (cond b (calling dumping (λ lines. host_in_work (telling outcome lines))) (returns outcome))
        by true = λ lines u. work-host Such (telling outcome lines) (telling-gives outcome lines h)
        by false = h

    then-gives : (dump : Bool) (outcome : Outcome) → Such outcome → (r : Result (Unit {0}) Outcome) → EndsWith Such r → WorkGives (then_dumped dump outcome r)
    unfolding Gives
    then-gives dump outcome h (Ok u) t = dumped-gives dump outcome h
    then-gives dump outcome h (Err other) t = t

    back-gives : (o : Order) (outcome : Outcome) → Such outcome → WorkGives (back_plan o outcome)
    unfolding Gives back_plan
    back-gives o outcome h = by (takes_back outcome)
      where
        by : (b : Bool) → WorkGives (cond b (calling (going_back o.last) (λ lines. bind (then_dumped o.dump outcome) (host_in_work (lines_plan lines)))) (dumped_plan o.dump outcome))
        by true = λ lines u.
            gives-bind (WorkMay May Such) (EndsWith Such) Such (then_dumped o.dump outcome) (host_in_work (lines_plan lines)) (work-host (EndsWith Such) (lines_plan lines) (lines-give lines)) (then-gives o.dump outcome h)
        by false = dumped-gives o.dump outcome h

    pub machine-gives : (o : Order) → WorkGives (machine_plan o)
    unfolding Gives machine_plan bind host_in_work need
    machine-gives o = by o.interactive (o.last == 0) o.report
      where
        by : (b d c : Bool) → WorkGives (cond b (sitting_plan o) (cond (not d) (kept_plan o) (cond c (reported_plan o) (stepped_plan o))))
        by true d c = λ r h. dumped-gives o.dump (session_outcome o.steps r) h
        by false false c = λ u t. λ r h. back-gives o (outcome_of o.steps r) h
        by false true true = λ r h. dumped-gives o.dump (outcome_of o.steps r) h
        by false true false = λ r h. dumped-gives o.dump (outcome_of o.steps r) h

    -- ---- the work of `gen`

    summed-gives : (blocks size : ℕ) → Such (Done 0) → (outcome : Outcome) → Such outcome → WorkGives (summed_plan blocks size outcome)
    unfolding Gives
    summed-gives blocks size done outcome h = by (is_done outcome)
      where
        by : (b : Bool) → WorkGives (cond b (calling (summing blocks size) (λ line. host_in_work (telling (Done 0) (line ∷ [])))) (returns outcome))
        by true = λ line u. work-host Such (telling (Done 0) (line ∷ [])) (telling-gives (Done 0) (line ∷ []) done)
        by false = h

    pub generated-gives : (blocks size : ℕ) → Such (Done 0) → WorkGives (generated_work blocks size)
    unfolding Gives
    generated-gives blocks size done = λ r h. summed-gives blocks size done (outcome_of generator_steps r) h

-- ---- what runs and sessions come to

pub ran-gives : (Such : Outcome → Type 0) (n : ℕ) (w : Work) (c : Course End RunWorld) → Answers (λ e. Such (outcome_of n e)) c → Answers (λ e. Such (outcome_of n e)) (ran w c)
ran-gives Such n w (ends e v) h = h
ran-gives Such n w (meets_wild v) h = tt

pub sat-gives : (Such : Outcome → Type 0) (n : ℕ) (w : Work) (c : Course SessionEnd SessionWorld) → Answers (λ e. Such (session_outcome n e)) c → Answers (λ e. Such (session_outcome n e)) (sat w c)
sat-gives Such n w (ends e v) h = h
sat-gives Such n w (meets_wild v) h = tt
