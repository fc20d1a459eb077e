-- An outcome that is told, and reports after it.
use Rattle.std.proofs.Common.{IsTrue, ◌≡◌, ◌≢◌, inl, inr, ℕ, ◌+◌, ◌<◌, ◌≤◌, List, [], ◌∷◌, length, drop, get_or, true, false, ◌==◌, arith, Ok, Err, refl, sym, ◌∙◌, ap, subst}
use Rattle.std.proofs.lemmas.Bool.Decides.{nat_tests}
use Rattle.std.proofs.lemmas.List.{at_drop_more, at_drop_all}
use Rattle.std.specs.Prelude.{Option, Result}
use Rattle.mx_host.specs.HostModel.{HostModel, tells, contents}
use Rattle.mx_host.specs.declared.faults.HostFault.{HostFault}
use Rattle.mx_host.specs.declared.faults.HostFault.TheVariants as slot
use Rattle.mx_plan.specs.Calls.{host, HostPlan, need, write_plan}
use Rattle.mx_plan.specs.Clauses.{CarriesOutOnHost}
use Rattle.mx_plan.specs.Plan.{returns, bind, end_of, end_after, Stops, IsRest}
use Rattle.mx_plan.proofs.Plans.{end_bind, end_returns, stops_first, rest_after}
use Rattle.mx_plan.specs.Wild.{ends}
use Rattle.mx_outcome.specs.Messages.{message_of}
use Rattle.mx_outcome.specs.declared.outcome.Outcome.{Outcome}
use Rattle.mx_outcome.specs.declared.outcome.Outcome.TheVariants.{OutOfMemory}
use Rattle.mx_files.specs.Answers.{plainly}
use Rattle.mx_top.specs.Telling.{said_plan, message_if, message_plan, report_plan, reports_plan, with_message, with_reports}
use Rattle.mx_top.specs.WorkClauses.{Tells, TellsBy, Telling, is_lacking}

-- ---- a line that is written, if there is one

nonzero : (n : ℕ) → (n == 0) ≡ true → n ≡ 0
nonzero n e = grind (arith, nat_tests)

pub empty-text : (xs : List ℕ) → true ≡ (length xs == 0) → xs ≡ []
empty-text [] e = refl
empty-text (x ∷ xs) e = let none = nonzero (length (x ∷ xs)) (sym e) in absurd (omega (arith, none))

pub filled-text : (xs : List ℕ) → false ≡ (length xs == 0) → xs ≢ []
filled-text [] e = absurd (cc)
filled-text (x ∷ xs) e = λ n. absurd (cc)

unlacking : (w : Result (Unit {0}) HostFault) → is_lacking w ≡ false → w ≢ Err slot.OutOfMemory
unlacking (Ok u) e = λ x. absurd (cc)
unlacking (Err slot.OutOfMemory) e = absurd (cc)
unlacking (Err slot.Failed) e = λ x. absurd (cc)
unlacking (Err slot.Misused) e = λ x. absurd (cc)

lacking : (w : Result (Unit {0}) HostFault) → is_lacking w ≡ true → w ≡ Err slot.OutOfMemory
lacking (Ok u) e = absurd (cc)
lacking (Err slot.OutOfMemory) e = refl
lacking (Err slot.Failed) e = absurd (cc)
lacking (Err slot.Misused) e = absurd (cc)

pub said-none : (a : Option HostModel) (outcome : Outcome) (text : List ℕ) → text ≡ [] → TellsBy a a outcome (said_plan outcome text)
said-none a outcome text e = λ t. inl (rw e (sym (end_returns host outcome (contents a))))

written : (b : ℕ) (bs : List ℕ) (old new : Option HostModel) (outcome : Outcome) (w : Result (Unit {0}) HostFault) → is_lacking w ≡ false → CarriesOutOnHost old new (Err slot.OutOfMemory) w (write_plan 260 (b ∷ bs)) →
    TellsBy old new outcome (said_plan outcome (b ∷ bs))
written b bs old new outcome w e c = λ t.
    inl (sym (end_bind host (λ (r : Result (Unit {0}) HostFault). returns outcome) (write_plan 260 (b ∷ bs)) (contents old) ∙ ap (end_after host (λ (r : Result (Unit {0}) HostFault). returns outcome)) (sym ((c t).ending (unlacking w e)))
    ∙ end_returns host outcome (contents new)))

pub said-written : (old new : Option HostModel) (outcome : Outcome) (text : List ℕ) (w : Result (Unit {0}) HostFault) → text ≢ [] → is_lacking w ≡ false → CarriesOutOnHost old new (Err slot.OutOfMemory) w (write_plan 260 text) →
    TellsBy old new outcome (said_plan outcome text)
said-written old new outcome [] w ne e c = absurd (ne refl)
said-written old new outcome (b ∷ bs) w ne e c = written b bs old new outcome w e c

pub said-lacking : (old new : Option HostModel) (outcome : Outcome) (text : List ℕ) (w : Result (Unit {0}) HostFault) → text ≢ [] → is_lacking w ≡ true → CarriesOutOnHost old new (Err slot.OutOfMemory) w (write_plan 260 text) →
    TellsBy old new OutOfMemory (said_plan outcome text)
said-lacking old new outcome [] w ne e c = absurd (ne refl)
said-lacking old new outcome (b ∷ bs) w ne e c = λ t. inr (refl, stops_first host (λ (r : Result (Unit {0}) HostFault). returns outcome) (write_plan 260 (b ∷ bs)) (contents new) (contents old) ((c t).stopping (lacking w e)))

-- ---- the message

made : (old new : Option HostModel) (r outcome : Outcome) (text : List ℕ) → TellsBy old new r (said_plan outcome text) → TellsBy old new r (message_if outcome text)
unfolding bind need end_of Stops host
made old new r outcome [] h = h
made old new r outcome (b ∷ bs) h = λ t. by (h t)
  where
    by : Tells (contents old) (contents new) r (said_plan outcome (b ∷ bs)) → Tells (contents old) (contents new) r (message_if outcome (b ∷ bs))
    by (inl e) = inl e
    by (inr s) = inr (s.0, inr s.1)

pub message-made : (old new : Option HostModel) (r outcome : Outcome) (text made_text : List ℕ) → made_text ≡ text → text ≡ message_of outcome → TellsBy old new r (said_plan outcome made_text) → TellsBy old new r (message_plan outcome)
unfolding message_plan
message-made old new r outcome text made_text same e h =
    subst (λ (x : List ℕ). TellsBy old new r (message_if outcome x)) (same ∙ e) (made old new r outcome made_text h)

lacks : (a : Option HostModel) (outcome : Outcome) (text : List ℕ) → text ≢ [] → TellsBy a a OutOfMemory (message_if outcome text)
unfolding bind need end_of Stops host
lacks a outcome [] ne = absurd (ne refl)
lacks a outcome (b ∷ bs) ne = λ t. inr (refl, inl refl)

pub message-lacks : (a : Option HostModel) (outcome : Outcome) → message_of outcome ≢ [] → TellsBy a a OutOfMemory (message_plan outcome)
unfolding message_plan
message-lacks a outcome ne = lacks a outcome (message_of outcome) ne

-- ---- reports

pub report-none : (a : Option HostModel) (text : List ℕ) → text ≡ [] → CarriesOutOnHost a a (Err slot.OutOfMemory) (Ok tt) (report_plan text)
unfolding report_plan
report-none a text e = λ t. rw e (record { ending = λ ne. sym (end_returns host (Ok tt) (contents a)); stopping = λ x. absurd (cc) })

pub report-written : (old new : Option HostModel) (text : List ℕ) (w : Result (Unit {0}) HostFault) → text ≢ [] → CarriesOutOnHost old new (Err slot.OutOfMemory) w (write_plan 260 text) → CarriesOutOnHost old new (Err slot.OutOfMemory) w (report_plan text)
unfolding report_plan
report-written old new [] w ne c = absurd (ne refl)
report-written old new (b ∷ bs) w ne c = c

one-more : (outcome : Outcome) (texts : List (List ℕ)) (i : ℕ) (d x : List ℕ) → i < length texts → x ≡ get_or texts i d → reports_plan outcome (drop i texts) ≡ bind (λ r. reports_plan outcome (drop (i + 1) texts)) (report_plan x)
unfolding reports_plan
one-more outcome texts i d x inside is =
    at_drop_more (reports_plan outcome) texts i d inside ∙ ap (λ (y : List ℕ). bind (λ (r : Result (Unit {0}) HostFault). reports_plan outcome (drop (i + 1) texts)) (report_plan y)) (sym is)

pub reports-next : (old here new : Option HostModel) (outcome : Outcome) (texts : List (List ℕ)) (i : ℕ) (d x : List ℕ) (w : Result (Unit {0}) HostFault) → i < length texts → x ≡ get_or texts i d → is_lacking w ≡ false → tells here ≡ tells old →
    CarriesOutOnHost here new (Err slot.OutOfMemory) w (report_plan x) → (IsTrue (tells old) → IsRest host (reports_plan outcome (drop i texts)) (contents here) (reports_plan outcome texts) (contents old)) →
    IsTrue (tells old) → IsRest host (reports_plan outcome (drop (i + 1) texts)) (contents new) (reports_plan outcome texts) (contents old)
reports-next old here new outcome texts i d x w inside is e same c rest = λ t.
    rest_after host (λ (r : Result (Unit {0}) HostFault). reports_plan outcome (drop (i + 1) texts)) (report_plan x) w (contents new) (contents here) (contents old) (reports_plan outcome texts)
    ((c (subst IsTrue (sym same) t)).ending (unlacking w e)) (subst (λ (p : HostPlan Outcome). IsRest host p (contents here) (reports_plan outcome texts) (contents old)) (one-more outcome texts i d x inside is) (rest t))

pub reports-lacking : (old here new : Option HostModel) (outcome : Outcome) (texts : List (List ℕ)) (i : ℕ) (d x : List ℕ) (w : Result (Unit {0}) HostFault) → i < length texts → x ≡ get_or texts i d → is_lacking w ≡ true → tells here ≡ tells old →
    CarriesOutOnHost here new (Err slot.OutOfMemory) w (report_plan x) → (IsTrue (tells old) → IsRest host (reports_plan outcome (drop i texts)) (contents here) (reports_plan outcome texts) (contents old)) →
    TellsBy old new OutOfMemory (reports_plan outcome texts)
reports-lacking old here new outcome texts i d x w inside is e same c rest = λ t.
    let left = subst (λ (p : HostPlan Outcome). IsRest host p (contents here) (reports_plan outcome texts) (contents old)) (one-more outcome texts i d x inside is) (rest t) in
    inr (refl, left.stopping (contents new) (stops_first host (λ (r : Result (Unit {0}) HostFault). reports_plan outcome (drop (i + 1) texts)) (report_plan x) (contents new) (contents here) ((c (subst IsTrue (sym same) t)).stopping (lacking w e))))

pub reports-done : (old here : Option HostModel) (outcome : Outcome) (texts : List (List ℕ)) (i : ℕ) → length texts ≤ i →
    (IsTrue (tells old) → IsRest host (reports_plan outcome (drop i texts)) (contents here) (reports_plan outcome texts) (contents old)) → TellsBy old here outcome (reports_plan outcome texts)
unfolding reports_plan
reports-done old here outcome texts i over rest = λ t.
    inl (sym ((rest t).ending ∙ ap (λ (p : HostPlan Outcome). end_of host p (contents here)) (at_drop_all (reports_plan outcome) texts i over) ∙ end_returns host outcome (contents here)))

-- ---- both

-- reports change no outcome
pub reports-said : (outcome : Outcome) (texts : List (List ℕ)) (m : HostModel) → (end_of host (reports_plan outcome texts) m).0 ≡ outcome
unfolding reports_plan
reports-said outcome [] m = ap (λ (t : Outcome × HostModel). t.0) (end_returns host outcome m)
reports-said outcome (text ∷ texts) m =
    ap (λ (t : Outcome × HostModel). t.0) (end_bind host (λ (r : Result (Unit {0}) HostFault). reports_plan outcome texts) (report_plan text) m) ∙ reports-said outcome texts (end_of host (report_plan text) m).1

pub telling-told : (left new : HostModel) (result said : Outcome) (texts : List (List ℕ)) → Telling left new result said texts → result ≢ OutOfMemory → ends result new ≡ with_reports texts (with_message (ends said left))
telling-told left new result said texts h ne = by h.message h.following
  where
    by : Tells left h.between h.spoken (message_plan said) → Tells h.between new result (reports_plan h.spoken texts) → ends result new ≡ with_reports texts (with_message (ends said left))
    by x (inr y) = absurd (ne y.0)
    by (inl x) (inl y) = ap plainly y ∙ ap (with_reports texts) (ap plainly x)
    by (inr x) (inl y) = absurd (ne (ap (λ (t : Outcome × HostModel). t.0) y ∙ reports-said h.spoken texts h.between ∙ x.0))

-- no report
pub alone : (r : Outcome) (m : HostModel) → (r, m) ≡ end_of host (reports_plan r []) m
unfolding reports_plan end_of
alone r m = refl
