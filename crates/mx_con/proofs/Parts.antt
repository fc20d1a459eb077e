-- Parts of a session, one after another: what was done of each, and what is left of a whole.
use Rattle.std.proofs.Common.{◌≡◌, ◌≢◌, ℕ, Ok, Err, sym, subst, IsTrue}
use Rattle.std.specs.Prelude.{Option, Result}
use Rattle.mx_host.specs.HostModel.{HostModel, tells}
use Rattle.mx_word.specs.Results.{map_ok}
use Rattle.mx_plan.proofs.Plans.{rest_after}
use Rattle.mx_plan.proofs.KeptHosts.{only-after, keeps_host-all, keeps_host-then}
use Rattle.mx_plan.specs.Clauses.{KeepsHost}
use Rattle.mx_plan.specs.Plan.{Plan, returns, bind, Acts, IsRest}
use Rattle.mx_con.specs.Clauses.{DoesPlan, DoesSessionPart}
use Rattle.mx_con.specs.LinePlans.{on_ok}
use Rattle.mx_con.specs.declared.end.SessionEnd.{SessionEnd}
use Rattle.mx_con.specs.declared.end.SessionEnd.TheVariants.{HostFault, OutOfMemory}
use Rattle.mx_con.proofs.Rests.{rest-all, rest-ended, rest-done}

-- of a whole, this is left
pub record IsLeft {Host : Type 0} (says : Host → Option HostModel) (faults : Host → ℕ) (old new : Host) (Left : Type 0) : Type 0 where
  pub told : IsTrue (tells (says old)) → Left
  pub keeps : KeepsHost (says old) (says new) (faults old) (faults new)

-- a plan in the world `now`
abbrev pub Leaves : {O : Type 0} {R : O → Type 0} {W Host A : Type 0} → Acts O R W → (Host → Option HostModel) → (Host → ℕ) → Host → Host → W → W → Plan O R A → Plan O R A → Type 0
Leaves d says faults old new start now rest whole = IsLeft says faults old new (IsRest d rest now whole start)

there : (a b : Option HostModel) → tells b ≡ tells a → IsTrue (tells a) → IsTrue (tells b)
there a b e t = subst IsTrue (sym e) t

-- ---- one part

-- after what leaves the host as it is
pub part-after : {Host A B : Type 0} {says : Host → Option HostModel} {faults : Host → ℕ} {a b c : Host} {r : Result A SessionEnd} {q : Result B SessionEnd} {P Q : Type 0} →
    KeepsHost (says a) (says b) (faults a) (faults b) → DoesSessionPart says faults b c r P → (q ≡ Err HostFault → r ≡ Err HostFault) → (IsTrue (tells (says a)) → P → Q) → DoesSessionPart says faults a c q Q
part-after {says = says} {faults = faults} {a = a} {b = b} {c = c} h k only comes = record {
  told = λ t. comes t (k.told (there (says a) (says b) h.0 t));
  cause = only-after (says a) (says b) (faults a) (faults b) (faults c) (Err HostFault) _ h (λ s e. k.cause s (only e));
  keeps = keeps_host-then (says a) (says b) (says c) (faults a) (faults b) (faults c) h k.keeps;
}

-- with the same answer
pub part-so : {Host A : Type 0} {says : Host → Option HostModel} {faults : Host → ℕ} {a b : Host} {r : Result A SessionEnd} {P Q : Type 0} → DoesSessionPart says faults a b r P → (P → Q) → DoesSessionPart says faults a b r Q
part-so k comes = record { told = λ t. comes (k.told t); cause = k.cause; keeps = k.keeps }

mapped-fault : {A B : Type 0} (f : A → B) (r : Result A SessionEnd) → map_ok f r ≡ Err HostFault → r ≡ Err HostFault
mapped-fault f (Ok x) e = absurd (cc)
mapped-fault f (Err end) e = cc

pub mapped-again : {A B C : Type 0} (f : A → B) (g : A → C) (r : Result A SessionEnd) → map_ok f r ≡ Err HostFault → map_ok g r ≡ Err HostFault
mapped-again f g (Ok x) e = absurd (cc)
mapped-again f g (Err end) e = cc

-- with another value where it is done
pub part-with : {Host A B : Type 0} {says : Host → Option HostModel} {faults : Host → ℕ} {a b : Host} {P Q : Type 0} (f : A → B) (r : Result A SessionEnd) →
    DoesSessionPart says faults a b r P → (P → Q) → DoesSessionPart says faults a b (map_ok f r) Q
part-with f r k comes = record { told = λ t. comes (k.told t); cause = λ s e. k.cause s (mapped-fault f r e); keeps = k.keeps }

-- it ends the session, and so does what it begins
pub part-over : {Host A B : Type 0} {says : Host → Option HostModel} {faults : Host → ℕ} {a b : Host} {P Q : Type 0} (end : SessionEnd) →
    DoesSessionPart {A = A} says faults a b (Err end) P → (P → Q) → DoesSessionPart {A = B} says faults a b (Err end) Q
part-over end k comes = record { told = λ t. comes (k.told t); cause = λ s e. k.cause s (cc); keeps = k.keeps }

-- without a further call of the host
pub part-alone : {Host A : Type 0} {says : Host → Option HostModel} {faults : Host → ℕ} {a b : Host} {r : Result A SessionEnd} {P : Type 0} →
    KeepsHost (says a) (says b) (faults a) (faults b) → r ≢ Err HostFault → (IsTrue (tells (says a)) → P) → DoesSessionPart says faults a b r P
part-alone h done comes = record { told = comes; cause = λ s e. absurd (done e); keeps = h }

-- ---- what is left of a whole

pub all-left : {Host : Type 0} {says : Host → Option HostModel} {faults : Host → ℕ} (a : Host) {P : Type 0} → (IsTrue (tells (says a)) → P) → IsLeft says faults a a P
all-left {says = says} {faults = faults} a h = record { told = h; keeps = keeps_host-all (says a) (faults a) }

-- the next part of it is done
pub next-left : {Host A : Type 0} {says : Host → Option HostModel} {faults : Host → ℕ} {a b c : Host} {r : Result A SessionEnd} {L P M : Type 0} →
    IsLeft says faults a b L → DoesSessionPart says faults b c r P → (L → P → M) → IsLeft says faults a c M
next-left {says = says} {faults = faults} {a = a} {b = b} {c = c} h k f = record {
  told = λ t. f (h.told t) (k.told (there (says a) (says b) h.keeps.0 t));
  keeps = keeps_host-then (says a) (says b) (says c) (faults a) (faults b) (faults c) h.keeps k.keeps;
}

-- or ends the session
pub over-left : {Host A B : Type 0} {says : Host → Option HostModel} {faults : Host → ℕ} {a b c : Host} {L P Q : Type 0} (end : SessionEnd) →
    IsLeft says faults a b L → DoesSessionPart {A = A} says faults b c (Err end) P → (L → P → Q) → DoesSessionPart {A = B} says faults a c (Err end) Q
over-left end h k f = part-after h.keeps k (λ e. cc) (λ t p. f (h.told t) p)

-- an answer is left
pub answer-left : {Host A : Type 0} {says : Host → Option HostModel} {faults : Host → ℕ} {a b : Host} {r : Result A SessionEnd} {L Q : Type 0} →
    r ≢ Err HostFault → IsLeft says faults a b L → (L → Q) → DoesSessionPart says faults a b r Q
answer-left done h f = part-alone h.keeps done (λ t. f (h.told t))

-- ---- the same of plans

pub left-all : {O : Type 0} {R : O → Type 0} {W Host A : Type 0} (d : Acts O R W) (says : Host → Option HostModel) (faults : Host → ℕ) (a : Host) (u : W) (p : Plan O R A) → Leaves d says faults a a u u p p
left-all d says faults a u p = all-left a (λ t. rest-all d p u)

pub left-next : {O : Type 0} {R : O → Type 0} {W Host A B : Type 0} (d : Acts O R W) (says : Host → Option HostModel) (faults : Host → ℕ) (a b c : Host) (u v w : W)
    (x : A) (f : A → Plan O R (Result B SessionEnd)) (p : Plan O R (Result A SessionEnd)) (whole : Plan O R (Result B SessionEnd)) →
    Leaves d says faults a b u v (bind (on_ok f) p) whole → DoesPlan d says faults b c v w (Ok x) p → Leaves d says faults a c u w (f x) whole
left-next d says faults a b c u v w x f p whole h k = next-left h k (λ l e. rest_after d (on_ok f) p (Ok x) w v u whole (e.ending (λ o. absurd (cc))) l)

pub left-over : {O : Type 0} {R : O → Type 0} {W Host A B : Type 0} (d : Acts O R W) (says : Host → Option HostModel) (faults : Host → ℕ) (a b c : Host) (u v w : W)
    (end : SessionEnd) (f : A → Plan O R (Result B SessionEnd)) (p : Plan O R (Result A SessionEnd)) (whole : Plan O R (Result B SessionEnd)) →
    Leaves d says faults a b u v (bind (on_ok f) p) whole → DoesPlan d says faults b c v w (Err end) p → DoesPlan d says faults a c u w (Err end) whole
left-over d says faults a b c u v w end f p whole h k = over-left end h k (λ l e. rest-ended d f p end v w u whole l e)

pub left-answer : {O : Type 0} {R : O → Type 0} {W Host A : Type 0} (d : Acts O R W) (says : Host → Option HostModel) (faults : Host → ℕ) (a b : Host) (u v : W)
    (r : Result A SessionEnd) (whole : Plan O R (Result A SessionEnd)) → r ≢ Err OutOfMemory → r ≢ Err HostFault → Leaves d says faults a b u v (returns r) whole → DoesPlan d says faults a b u v r whole
left-answer d says faults a b u v r whole memory done h = answer-left done h (λ l. rest-done d r v u whole memory l)
