-- How a part of the work fails, over every host.
use Rattle.std.proofs.Common.{◌≡◌, ◌≢◌, ◌≤◌, ◌<◌, ◌⊎◌, inl, inr, ℕ, false, IsTrue, List, Ok, Err, refl, sym, ◌∙◌, ap, subst, arith}
use Rattle.std.proofs.lemmas.Bool.{cases_lt}
use Rattle.std.specs.Prelude.{Option, Result}
use Rattle.mx_host.specs.HostModel.{HostModel, Rose}
use Rattle.mx_host.specs.Keeping.{Keeps}
use Rattle.mx_host.proofs.Keeping.{keeps-then, keeps-all}
use Rattle.mx_plan.proofs.KeptHosts.{only-after, rose-on, keeps_host-kept}
use Rattle.mx_words.specs.declared.order.Order.{Order}
use Rattle.mx_words.specs.declared.order.WordsFault.{WordsFault}
use Rattle.mx_outcome.specs.Kinds.{is_usage}
use Rattle.mx_files.specs.Assembling.{refused_with}
use Rattle.mx_files.specs.Clauses.{DoesPartBetween}
use Rattle.mx_files.specs.declared.refusal.Refusal.{Refusal}
use Rattle.mx_files.specs.FilePlans.{lines_plan}
use Rattle.mx_outcome.specs.declared.outcome.Outcome.{Outcome}
use Rattle.mx_outcome.specs.declared.outcome.Outcome.TheVariants.{HostFault, NoFile, OutOfMemory, Usage}
use Rattle.mx_files.proofs.FileClauses.{end-words, part-keeps}
use Rattle.mx_files.proofs.Serving.{only-lines}
use Rattle.mx_begin.specs.Arguments.{Word}
use Rattle.mx_files.specs.Failing.{FailsOnlyBy}
use Rattle.mx_begin.specs.Ends.{IsOfMachine}
use Rattle.mx_top.specs.Causes.{Causes}

-- no call, and an outcome that tells no fault of the host
pub fails-nowhere : {H : Type 0} (told : H → Option HostModel) (faults : H → ℕ) (h : H) (r : Outcome) → IsOfMachine r → FailsOnlyBy told faults h h r
fails-nowhere told faults h r of = (λ had e. absurd (of.0 e), λ n e. absurd (of.1 e), of.2, keeps-all (told h) (faults h))

-- nor where there was no memory
pub fails-lacking : {H : Type 0} (told : H → Option HostModel) (faults : H → ℕ) (h : H) → FailsOnlyBy told faults h h OutOfMemory
fails-lacking told faults h = fails-nowhere told faults h OutOfMemory (λ e. cc, λ e. cc, refl)

-- nor where no machine starts, or a source is refused
pub fails-unstarted : {A H : Type 0} (told : H → Option HostModel) (faults : H → ℕ) (h : H) (r : Outcome) → ◌≢◌ {A = Result A Outcome} (Err r) (Err HostFault) → ◌≢◌ {A = Result A Outcome} (Err r) (Err NoFile) → is_usage r ≡ false → FailsOnlyBy told faults h h r
fails-unstarted told faults h r well present words = fails-nowhere told faults h r (λ e. well (ap Err e), λ e. present (ap Err e), words)

pub fails-refused : {H : Type 0} (told : H → Option HostModel) (faults : H → ℕ) (h : H) (r : Outcome) (refusal : Refusal) → r ≡ refused_with refusal → FailsOnlyBy told faults h h r
fails-refused told faults h r refusal e = fails-nowhere told faults h r (λ x. absurd (cc (e, x)), λ x. absurd (cc (e, x)), ap is_usage e)

-- after a part that keeps what every function does
pub fails-after : {H : Type 0} (told : H → Option HostModel) (faults : H → ℕ) (a b c : H) (r : Outcome) → Keeps (told a) (told b) (faults a) (faults b) → FailsOnlyBy told faults b c r → FailsOnlyBy told faults a c r
fails-after told faults a b c r kept rest = (
  only-after (told a) (told b) (faults a) (faults b) (faults c) HostFault r (keeps_host-kept (told a) (told b) (faults a) (faults b) kept) rest.0,
  λ n e. rose-on (faults a) (faults b) (faults c) kept.counting (rest.1 (λ t. n (subst IsTrue kept.telling t)) e),
  rest.2,
  keeps-then (told a) (told b) (told c) (faults a) (faults b) (faults c) kept rest.3,
)

-- lines that were not written
pub fails-lines : {H : Type 0} (told : H → Option HostModel) (faults : H → ℕ) (a b : H) (r : Outcome) (lines : List (List ℕ)) → DoesPartBetween (told a) (told b) (faults a) (faults b) (Err r) (lines_plan lines) → FailsOnlyBy told faults a b r
fails-lines told faults a b r lines w = (
  λ had e. only-lines (told a) (told b) (faults a) (faults b) (Err r) lines w had (ap Err e),
  λ n e. w.absent n (ap Err e),
  end-words r w.ends,
  part-keeps (told a) (told b) (faults a) (faults b) (Err r) (lines_plan lines) w,
)

-- lines that were written, with an outcome that tells no fault of the host
pub fails-written : {H : Type 0} (told : H → Option HostModel) (faults : H → ℕ) (a b : H) (r : Outcome) (lines : List (List ℕ)) → IsOfMachine r → DoesPartBetween (told a) (told b) (faults a) (faults b) (Ok tt) (lines_plan lines) →
    FailsOnlyBy told faults a b r
fails-written told faults a b r lines of w = (λ had e. absurd (of.0 e), λ n e. absurd (of.1 e), of.2, part-keeps (told a) (told b) (faults a) (faults b) (Ok tt) (lines_plan lines) w)

-- a part of the work that tells of no words
pub not-usage : (r : Outcome) (fault : WordsFault) → is_usage r ≡ false → r ≢ Usage fault
not-usage (Usage fault) other plain = λ e. absurd (cc)
not-usage outcome other plain = λ e. absurd (cc)

-- one fault of the words is the other
pub same-words : (x : Result Order WordsFault) (a b : WordsFault) → x ≡ Err a → x ≡ Err b → a ≡ b
same-words x a b e f = cc

pub same-usage : (a b : WordsFault) → Usage a ≡ Usage b → a ≡ b
same-usage a b e = cc

-- a count that rose stays so
rose-later : (k m n : ℕ) → k ≤ m → m ≤ n → Rose k m → Rose k n
rose-later k m n a b (inl h) = inl (omega (arith, h, b))
rose-later k m n a b (inr e) = by (cases_lt k n)
  where
    by : (k < n) ⊎ (n ≤ k) → Rose k n
    by (inl h) = inl h
    by (inr h) = let same : n ≡ m = omega (arith, a, b, h) in inr (same ∙ e)

-- the causes are those of what was done, where the outcome that is told is its own, or that memory ran out
pub causes-told : {H : Type 0} (told : H → Option HostModel) (faults : H → ℕ) (a b c : H) (spoken result : Outcome) (words : List Word) → (result ≢ OutOfMemory → result ≡ spoken) →
    Keeps (told b) (told c) (faults b) (faults c) → Causes told faults a b spoken words → Causes told faults a c result words
causes-told told faults a b c spoken result words same kept was = record {
  usage = λ fault e ne. same ne ∙ was.usage fault e (λ x. ne (same ne ∙ x));
  only_usage = λ fault e. was.only_usage fault (sym (same (λ x. absurd (cc (x, e)))) ∙ e);
  host_fault = λ had e. rose-later (faults a) (faults b) (faults c) was.keeps.counting kept.counting (was.host_fault had (sym (same (λ x. absurd (cc (x, e)))) ∙ e));
  no_file = λ n e. rose-later (faults a) (faults b) (faults c) was.keeps.counting kept.counting (was.no_file n (sym (same (λ x. absurd (cc (x, e)))) ∙ e));
  keeps = keeps-then (told a) (told b) (told c) (faults a) (faults b) (faults c) was.keeps kept;
}
