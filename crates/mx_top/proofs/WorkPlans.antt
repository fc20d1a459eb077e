-- What the plans of the program come to, one part after another.
use Rattle.std.proofs.Common.{IsTrue, ◌≡◌, ◌≢◌, inl, inr, List, [], Ok, Err, refl, sym, ◌∙◌, ap, subst}
use Rattle.std.specs.Prelude.{Option, Result}
use Rattle.mx_host.specs.HostModel.{HostModel, tells, contents}
use Rattle.mx_plan.specs.Calls.{host, HostPlan, need}
use Rattle.mx_plan.specs.Clauses.{CarriesOutOnHost}
use Rattle.mx_plan.specs.Plan.{returns, calls, bind, end_of, end_after, Stops, StopsAfter, Comes}
use Rattle.mx_plan.specs.Wild.{Course, ends, course}
use Rattle.mx_plan.proofs.Plans.{end_bind, end_returns, stops_first, stops_after}
use Rattle.mx_code.specs.declared.trace.Trace.{Trace}
use Rattle.mx_run.specs.WildRuns.{MachineKind, list_machine}
use Rattle.mx_files.specs.Answers.{Answer, GoesAs}
use Rattle.mx_files.specs.FilePlans.{Part}
use Rattle.mx_outcome.specs.declared.outcome.Outcome.{Outcome}
use Rattle.mx_outcome.specs.declared.outcome.Outcome.TheVariants.{OutOfMemory}
use Rattle.mx_top.specs.Product.{program, ProgramPlan, ProgramWorld, program_goes, host_in_program, taking, on_part, answer_of}
use Rattle.mx_top.specs.WorkClauses.{CarriesOutProgramOnBoth, CarriesOutProgram, PlanComes, host_of, answer_by}

-- ---- over the host alone: nothing is told to watchers

pub host-end : {A : Type 0} (p : HostPlan A) (w : ProgramWorld) → end_of program (host_in_program p) w ≡ ((end_of host p w.0).0, ((end_of host p w.0).1, w.1))
unfolding host_in_program end_of program
host-end (returns a) w = refl
host-end (calls o k) w = host-end (k (host.act o w.0).0) ((host.act o w.0).1, w.1)

pub host-stops : {A : Type 0} (p : HostPlan A) (v : HostModel) (heard : List Trace) (w : ProgramWorld) → Stops host v p w.0 → Stops program (v, heard) (host_in_program p) w
unfolding host_in_program Stops program
host-stops (returns a) v heard w h = absurd h
host-stops (calls o k) v heard w (inl e) = inl e
host-stops (calls o k) v heard w (inr h) = inr (host-stops (k (host.act o w.0).0) v heard ((host.act o w.0).1, w.1) h)

pub host-comes : (p : HostPlan Outcome) (m n : HostModel) (r : Outcome) → Comes host m n OutOfMemory r p → PlanComes m n r (host_in_program p)
host-comes p m n r c = record {
  ending = λ ne. c.ending ne ∙ sym (ap host_of (host-end p (m, [])));
  stopping = λ e. record { heard = []; stops = host-stops p n [] (m, []) (c.stopping e) };
}

pub work-host : (a b : Option HostModel) (r : Outcome) (p : HostPlan Outcome) → CarriesOutOnHost a b OutOfMemory r p → CarriesOutProgram a b r (host_in_program p)
work-host a b r p h = λ t. host-comes p (contents a) (contents b) r (h t)

-- ---- no call, and memory that is taken

returns-comes : (m : HostModel) (r : Outcome) → r ≢ OutOfMemory → PlanComes m m r (returns r)
returns-comes m r ne = record { ending = λ no. sym (ap host_of (end_returns program r (m, []))); stopping = λ e. absurd (ne e) }

pub work-returns : (a : Option HostModel) (r : Outcome) → r ≢ OutOfMemory → CarriesOutProgram a a r (returns r)
work-returns a r ne = λ t. returns-comes (contents a) r ne

pub work-lacks : (a : Option HostModel) (p : ProgramPlan Outcome) → CarriesOutProgram a a OutOfMemory (taking p)
unfolding bind host_in_program need Stops program host
work-lacks a p = λ t. record { ending = λ ne. absurd (ne refl); stopping = λ e. record { heard = []; stops = inl refl } }

pub work-taking : (a b : Option HostModel) (r : Outcome) (p : ProgramPlan Outcome) → CarriesOutProgram a b r p → CarriesOutProgram a b r (taking p)
unfolding bind host_in_program need Stops end_of program host
work-taking a b r p h = λ t. record { ending = λ ne. (h t).ending ne; stopping = λ e. let s = (h t).stopping e in record { heard = s.heard; stops = inr s.stops } }

-- ---- a part on files, and what follows it

pub tells-then : (a b : Option HostModel) → tells b ≡ tells a → IsTrue (tells a) → IsTrue (tells b)
tells-then a b e t = subst IsTrue (sym e) t

-- the end of the first part, beside no traces
pub part-ended : {A : Type 0} (p : HostPlan A) (x : A) (m n : HostModel) → (x, n) ≡ end_of host p m → (x, (n, [])) ≡ end_of program (host_in_program p) (m, [])
part-ended {A} p x m n e = ap (λ (t : A × HostModel). (t.0, (t.1, []))) e ∙ sym (host-end p (m, []))

pub work-then : {A : Type 0} (a b c : Option HostModel) (x : A) (r : Outcome) (f : A → ProgramPlan Outcome) (p : Part A) → tells b ≡ tells a → CarriesOutOnHost a b (Err OutOfMemory) (Ok x) p → CarriesOutProgram b c r (f x) →
    CarriesOutProgram a c r (bind (on_part f) (host_in_program p))
work-then {A} a b c x r f p e first second = λ t.
    let is : (Ok x, (contents b, [])) ≡ end_of program (host_in_program p) (contents a, []) = part-ended p (Ok x) (contents a) (contents b) ((first t).ending (λ o. absurd (cc))) in
    let next = second (tells-then a b e t) in
    record {
      ending = λ ne. next.ending ne ∙ ap host_of (sym (end_bind program (on_part f) (host_in_program p) (contents a, []) ∙ ap (end_after program (on_part f)) (sym is)));
      stopping = λ o.
          let s = next.stopping o in
          record { heard = s.heard; stops = stops_after program (on_part f) (host_in_program p) (contents c, s.heard) (contents a, []) (subst (StopsAfter program (contents c, s.heard) (on_part f)) is s.stops) };
    }

pub work-ends : {A : Type 0} (a b : Option HostModel) (r : Outcome) (f : A → ProgramPlan Outcome) (p : Part A) → CarriesOutOnHost a b (Err OutOfMemory) (Err r) p → CarriesOutProgram a b r (bind (on_part f) (host_in_program p))
work-ends {A} a b r f p h = λ t. record {
  ending = λ ne.
      let is : (Err r, (contents b, [])) ≡ end_of program (host_in_program p) (contents a, []) = part-ended p (Err r) (contents a) (contents b) ((h t).ending (λ o. ne (cc))) in
      ap host_of (sym (end_bind program (on_part f) (host_in_program p) (contents a, []) ∙ ap (end_after program (on_part f)) (sym is) ∙ end_returns program r (contents b, [])));
  stopping = λ o. record { heard = []; stops = stops_first program (on_part f) (host_in_program p) (contents b, []) (contents a, []) (host-stops p (contents b) [] (contents a, []) ((h t).stopping (cc))) };
}

-- ---- by the kind of its machines

-- a plan of the host first, whatever the kind
pub host-bind : {A : Type 0} (kind : MachineKind) (f : A → ProgramPlan Outcome) (p : HostPlan A) (w : ProgramWorld) → course (program_goes kind) (bind f (host_in_program p)) w ≡ course (program_goes kind) (f (end_of host p w.0).0) ((end_of host p w.0).1, w.1)
unfolding course bind host_in_program end_of
host-bind kind f (returns a) w = refl
host-bind kind f (calls o k) w = host-bind kind f (k (host.act o w.0).0) ((host.act o w.0).1, w.1)

pub host-course : {A : Type 0} (kind : MachineKind) (p : HostPlan A) (w : ProgramWorld) → course (program_goes kind) (host_in_program p) w ≡ ends (end_of host p w.0).0 ((end_of host p w.0).1, w.1)
unfolding course host_in_program end_of
host-course kind (returns a) w = refl
host-course kind (calls o k) w = host-course kind (k (host.act o w.0).0) ((host.act o w.0).1, w.1)

pub taking-course : (kind : MachineKind) (p : ProgramPlan Outcome) (w : ProgramWorld) → course (program_goes kind) (taking p) w ≡ course (program_goes kind) p w
unfolding course bind host_in_program need host
taking-course kind p w = refl

pub part-course : {A : Type 0} (kind : MachineKind) (f : A → ProgramPlan Outcome) (p : Part A) (m n : HostModel) (x : Result A Outcome) → (x, n) ≡ end_of host p m → course (program_goes kind) (bind (on_part f) (host_in_program p)) (m, []) ≡ course (program_goes kind) (on_part f x) (n, [])
part-course {A} kind f p m n x e = host-bind kind (on_part f) p (m, []) ∙ ap (λ (t : Result A Outcome × HostModel). course (program_goes kind) (on_part f t.0) (t.1, [])) (sym e)

pub returns-course : (kind : MachineKind) (r : Outcome) (w : ProgramWorld) → course (program_goes kind) (returns r) w ≡ ends r w
unfolding course
returns-course kind r w = refl

-- what it answers goes as it
pub goes-by : (a : Answer) (r : Outcome) (n : HostModel) → a ≡ ends r n → GoesAs a r n
goes-by a r n e = subst (λ (x : Answer). GoesAs x r n) (sym e) (refl, refl)

-- an answer and a host beside traces
pub answer-of : (told : List Trace) (r : Outcome) (n : HostModel) (t : Outcome × HostModel) → (r, n) ≡ t → answer_of (ends t.0 (t.1, told)) ≡ ends r n
answer-of told r n t e = ap (λ (x : Outcome × HostModel). ends x.0 x.1) (sym e)

-- ---- both

pub both-host : (a b : Option HostModel) (r : Outcome) (p : HostPlan Outcome) → CarriesOutOnHost a b OutOfMemory r p → CarriesOutProgramOnBoth a b r (host_in_program p)
both-host a b r p h = record {
  window = work-host a b r p h;
  list = λ t ne. goes-by (answer_by list_machine (host_in_program p) (contents a)) r (contents b) (ap answer_of (host-course list_machine p (contents a, [])) ∙ answer-of [] r (contents b) (end_of host p (contents a)) ((h t).ending ne));
}

pub both-returns : (a : Option HostModel) (r : Outcome) → r ≢ OutOfMemory → CarriesOutProgramOnBoth a a r (returns r)
both-returns a r ne = record { window = work-returns a r ne; list = λ t no. goes-by (answer_by list_machine (returns r) (contents a)) r (contents a) (ap answer_of (returns-course list_machine r (contents a, []))) }

pub both-lacks : (a : Option HostModel) (p : ProgramPlan Outcome) → CarriesOutProgramOnBoth a a OutOfMemory (taking p)
both-lacks a p = record { window = work-lacks a p; list = λ t ne. absurd (ne refl) }

pub both-taking : (a b : Option HostModel) (r : Outcome) (p : ProgramPlan Outcome) → CarriesOutProgramOnBoth a b r p → CarriesOutProgramOnBoth a b r (taking p)
both-taking a b r p h = record {
  window = work-taking a b r p h.window;
  list = λ t ne. subst (λ (x : Course Outcome ProgramWorld). GoesAs (answer_of x) r (contents b)) (sym (taking-course list_machine p (contents a, []))) (h.list t ne);
}

pub both-then : {A : Type 0} (a b c : Option HostModel) (x : A) (r : Outcome) (f : A → ProgramPlan Outcome) (p : Part A) → tells b ≡ tells a → CarriesOutOnHost a b (Err OutOfMemory) (Ok x) p → CarriesOutProgramOnBoth b c r (f x) →
    CarriesOutProgramOnBoth a c r (bind (on_part f) (host_in_program p))
both-then a b c x r f p e first second = record {
  window = work-then a b c x r f p e first second.window;
  list = λ t ne.
      subst (λ (y : Course Outcome ProgramWorld). GoesAs (answer_of y) r (contents c)) (sym (part-course list_machine f p (contents a) (contents b) (Ok x) ((first t).ending (λ o. absurd (cc))))) (second.list (tells-then a b e t) ne);
}

pub both-ends : {A : Type 0} (a b : Option HostModel) (r : Outcome) (f : A → ProgramPlan Outcome) (p : Part A) → CarriesOutOnHost a b (Err OutOfMemory) (Err r) p → CarriesOutProgramOnBoth a b r (bind (on_part f) (host_in_program p))
both-ends a b r f p h = record {
  window = work-ends a b r f p h;
  list = λ t ne.
      goes-by (answer_by list_machine (bind (on_part f) (host_in_program p)) (contents a)) r (contents b)
      (ap answer_of (part-course list_machine f p (contents a) (contents b) (Err r) ((h t).ending (λ o. ne (cc))) ∙ returns-course list_machine r (contents b, [])));
}
