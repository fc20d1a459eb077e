-- What the clauses of calls on files say, from the plans that they carry out.
use Rattle.std.proofs.Common.{◌≡◌, ◌≢◌, ◌⊎◌, inl, inr, ℕ, List, true, false, Ok, Err, refl, sym, ◌∙◌, ap, subst}
use Rattle.std.specs.Prelude.{Option, Result, IfErr}
use Rattle.mx_host.specs.HostModel.{HostModel, contents}
use Rattle.mx_host.specs.Keeping.{ComesByFault, Keeps, OnlyByFailure}
use Rattle.mx_plan.specs.Calls.{host, HostPlan}
use Rattle.mx_plan.specs.Clauses.{CarriesOutOnHost, KeepsHost}
use Rattle.mx_plan.specs.Held.{Makes}
use Rattle.mx_plan.specs.Plan.{returns, end_of, end_after, Comes}
use Rattle.mx_plan.proofs.Plans.{end_bind, end_returns, stops_first}
use Rattle.mx_word.specs.Lists.{IsFront}
use Rattle.mx_plan.specs.Wild.{ends}
use Rattle.mx_files.specs.Answers.{output_of, GoesAs, plainly}
use Rattle.mx_outcome.specs.Kinds.{is_usage}
use Rattle.mx_files.specs.Clauses.{ComesByFailing, DoesPartBetween, HasToolSlots, Serves, is_end}
use Rattle.mx_files.specs.FilePlans.{Part, file_plan}
use Rattle.mx_files.specs.ObjectPlans.{outcome_of, whole_plan, assemble_plan, list_plan}
use Rattle.mx_outcome.specs.declared.outcome.Outcome.{Outcome}
use Rattle.mx_outcome.specs.declared.outcome.Outcome.TheVariants.{NoFile, HostFault, OutOfMemory, Usage}
use Rattle.mx_files.proofs.QuietFiles.{file-stops-quiet, file-ends-quiet}
use Rattle.mx_files.proofs.Rests.{stop-front, comes-keeps}
use Rattle.mx_files.proofs.Serving.{only-failed}

decided-part : {A : Type 0} (r : Result A Outcome) → (r ≡ Err OutOfMemory) ⊎ (r ≢ Err OutOfMemory)
decided-part (Ok x) = inr (λ e. absurd (cc))
decided-part (Err OutOfMemory) = inl refl
decided-part (Err outcome) = inr (λ e. absurd (cc))

decided : (r : Outcome) → (r ≡ OutOfMemory) ⊎ (r ≢ OutOfMemory)
decided OutOfMemory = inl refl
decided outcome = inr (λ e. absurd (cc))

-- ---- a file that is read

pub file-output : (most : ℕ) (name : List ℕ) (m n : HostModel) (r : Result (List ℕ) Outcome) → Comes host m n (Err OutOfMemory) r (file_plan most name) → n.output ≡ m.output
file-output most name m n r c = by (decided-part r)
  where
    by : (r ≡ Err OutOfMemory) ⊎ (r ≢ Err OutOfMemory) → n.output ≡ m.output
    by (inl e) = file-stops-quiet most name m n (c.stopping e)
    by (inr ne) = ap (λ (t : Result (List ℕ) Outcome × HostModel). t.1.output) (c.ending ne) ∙ file-ends-quiet most name m

pub part-keeps : {A : Type 0} (a b : Option HostModel) (k m : ℕ) (r : Result A Outcome) (p : Part A) → DoesPartBetween a b k m r p → Keeps a b k m
part-keeps a b k m r p w = comes-keeps a b k m (Err OutOfMemory) r p (decided-part r) w.told w.keeps

pub end-words : (r : Outcome) → is_end r ≡ true → is_usage r ≡ false
end-words (Usage fault) i = absurd (cc)
end-words outcome i = refl

-- ---- all of the work

outcome-failed : (r : Result (Unit {0}) Outcome) (end : Outcome) → end ≢ outcome_of (Ok tt) → outcome_of r ≡ end → r ≡ Err end
outcome-failed (Ok u) end ne e = absurd (ne (sym e))
outcome-failed (Err outcome) end ne e = ap Err e

pub whole-told : (a b : Option HostModel) (o : Outcome) (r : Result (Unit {0}) Outcome) (p : Part (Unit {0})) → o ≡ outcome_of r → CarriesOutOnHost a b (Err OutOfMemory) r p → CarriesOutOnHost a b OutOfMemory o (whole_plan p)
whole-told a b o r p e told t = rw e (record {
  ending = λ ne. sym (end_bind host (λ s. returns (outcome_of s)) p (contents a)
      ∙ ap (end_after host (λ s. returns (outcome_of s))) (sym ((told t).ending (λ lacks. ne (ap outcome_of lacks)))) ∙ end_returns host (outcome_of r) (contents b));
  stopping = λ lacks. stops_first host (λ s. returns (outcome_of s)) p (contents b) (contents a) ((told t).stopping (outcome-failed r OutOfMemory (λ x. absurd (cc)) lacks));
})

pub whole-cause : (a b : Option HostModel) (k m : ℕ) (o : Outcome) (r : Result (Unit {0}) Outcome) (p : Part (Unit {0})) → o ≡ outcome_of r → DoesPartBetween a b k m r p → ComesByFailing a HostFault o k m p
whole-cause a b k m o r p e w = λ serves fault. w.cause serves (outcome-failed r HostFault (λ x. absurd (cc)) (sym e ∙ fault))

pub whole-rose : (a b : Option HostModel) (k m : ℕ) (o : Outcome) (r : Result (Unit {0}) Outcome) (p : Part (Unit {0})) → o ≡ outcome_of r →
    ((n : HostModel) → HasToolSlots n → Makes host Serves p n) → DoesPartBetween a b k m r p → OnlyByFailure a HostFault o k m
whole-rose a b k m o r p e served w = λ has fault. only-failed a b k m r p served w has (outcome-failed r HostFault (λ x. absurd (cc)) (sym e ∙ fault))

pub whole-absent : (a b : Option HostModel) (k m : ℕ) (o : Outcome) (r : Result (Unit {0}) Outcome) (p : Part (Unit {0})) → o ≡ outcome_of r → DoesPartBetween a b k m r p → ComesByFault a NoFile o k m
whole-absent a b k m o r p e w = λ silent none. w.absent silent (outcome-failed r NoFile (λ x. absurd (cc)) (sym e ∙ none))

pub ended-unused : {A : Type 0} (r : Result A Outcome) → IfErr r (λ outcome. is_end outcome ≡ true) → IfErr r (λ outcome. is_usage outcome ≡ false)
ended-unused (Ok x) h = tt
ended-unused (Err outcome) h = end-words outcome h

outcome-words : (r : Result (Unit {0}) Outcome) → IfErr r (λ outcome. is_end outcome ≡ true) → is_usage (outcome_of r) ≡ false
outcome-words (Ok u) i = refl
outcome-words (Err outcome) i = end-words outcome i

pub whole-words : (a b : Option HostModel) (k m : ℕ) (o : Outcome) (r : Result (Unit {0}) Outcome) (p : Part (Unit {0})) → o ≡ outcome_of r → DoesPartBetween a b k m r p → is_usage o ≡ false
whole-words a b k m o r p e w = rw e (outcome-words r w.ends)

-- ---- an object that is assembled, and one that is listed

pub assembled-front : (source object : List ℕ) (m n : HostModel) (o : Outcome) → Comes host m n OutOfMemory o (assemble_plan source object) → o ≡ OutOfMemory →
    IsFront n.output (end_of host (assemble_plan source object) m).1.output
assembled-front source object m n o c e = stop-front (assemble_plan source object) n m (c.stopping e)

pub listed-told : (name : List ℕ) (m n : HostModel) (o : Outcome) → Comes host m n OutOfMemory o (list_plan name) → o ≢ OutOfMemory → ends o n ≡ plainly (end_of host (list_plan name) m)
listed-told name m n o c ne = ap plainly (c.ending ne)

pub listed-goes : (name : List ℕ) (m n : HostModel) (o : Outcome) → Comes host m n OutOfMemory o (list_plan name) → o ≢ OutOfMemory → GoesAs (plainly (end_of host (list_plan name) m)) o n
listed-goes name m n o c ne = subst (λ a. GoesAs a o n) (listed-told name m n o c ne) (refl, refl)

answer-output : (t : Outcome × HostModel) → output_of (plainly t) ≡ t.1.output
answer-output (outcome, m) = refl

pub listed-front : (name : List ℕ) (m n : HostModel) (o : Outcome) → Comes host m n OutOfMemory o (list_plan name) → o ≡ OutOfMemory → IsFront n.output (output_of (plainly (end_of host (list_plan name) m)))
listed-front name m n o c e =
    subst (IsFront n.output) (sym (answer-output (end_of host (list_plan name) m))) (stop-front (list_plan name) n m (c.stopping e))

pub whole-keeps : (a b : Option HostModel) (k m : ℕ) (o : Outcome) (p : HostPlan Outcome) → CarriesOutOnHost a b OutOfMemory o p → KeepsHost a b k m → Keeps a b k m
whole-keeps a b k m o p told keeps = comes-keeps a b k m OutOfMemory o p (decided o) told keeps
