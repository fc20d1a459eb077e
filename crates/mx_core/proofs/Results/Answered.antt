-- What an answer says of the states beside it.
use Rattle.std.proofs.Common.{◌≡◌, ℕ, Bool, true, false, Result, Ok, Err, refl, sym, ap, ◌∙◌}
use Rattle.mx_ring.specs.Stack.{register, set_overfills}
use Rattle.mx_core.specs.Way.Calls.{Left, left, unless, set_outcome, settled}
use Rattle.mx_core.specs.Deeds.{onward}
use Rattle.mx_core.specs.State.{State, with_value_in, with_local}
use Rattle.mx_core.specs.Traps.{with_touch}
use Rattle.mx_code.specs.declared.reason.Reason.{Reason}
use Rattle.mx_code.specs.declared.reason.Reason.TheVariants.{StackFull}
use Rattle.mx_code.specs.declared.stop.Stop.{Stop}
use Rattle.mx_code.specs.declared.stop.Stop.TheVariants.{Stopped}
use Rattle.mx_core.proofs.Results.Loads.{local_settles}
use Rattle.mx_core.proofs.Results.Locals.{stack-fits}

pub unless-ok : (b : Bool) (r : Reason) (s t u : State) → (Ok tt, t) ≡ left s (unless b r u) → (b ≡ false) × (t ≡ u)
unless-ok true r s t u e = let f = ap (λ (p : Left). p.0) e in absurd (cc)
unless-ok false r s t u e = (refl, ap (λ (p : Left). p.1) e)

pub unless-err : (b : Bool) (r : Reason) (s t u : State) (stop : Stop) → (Err stop, t) ≡ left s (unless b r u) → (b ≡ true) × (stop ≡ Stopped r) × (t ≡ s)
unless-err true r s t u stop e = let f = ap (λ (p : Left). p.0) e in (refl, cc, ap (λ (p : Left). p.1) e)
unless-err false r s t u stop e = let f = ap (λ (p : Left). p.0) e in absurd (cc)

pub set-ok : (s t : State) (k x : ℕ) → (Ok tt, t) ≡ left s (set_outcome s k x) → (set_overfills s.stack k ≡ false) × (t ≡ with_value_in s k x)
unfolding set_outcome
set-ok s t k x e = unless-ok (set_overfills s.stack k) StackFull s t (with_value_in s k x) e

pub set-err : (s t : State) (k x : ℕ) (stop : Stop) → (Err stop, t) ≡ left s (set_outcome s k x) → (set_overfills s.stack k ≡ true) × (stop ≡ Stopped StackFull) × (t ≡ s)
unfolding set_outcome
set-err s t k x stop e = unless-err (set_overfills s.stack k) StackFull s t (with_value_in s k x) stop e

pub settle-ok : (s t : State) (k x n : ℕ) → (Ok tt, t) ≡ left s (settled s k x n) → (set_overfills s.stack k ≡ false) × (t ≡ onward (with_value_in s k x) n)
unfolding settled
settle-ok s t k x n e = unless-ok (set_overfills s.stack k) StackFull s t (onward (with_value_in s k x) n) e

pub settle-err : (s t : State) (k x n : ℕ) (stop : Stop) → (Err stop, t) ≡ left s (settled s k x n) → (set_overfills s.stack k ≡ true) × (stop ≡ Stopped StackFull) × (t ≡ s)
unfolding settled
settle-err s t k x n stop e = unless-err (set_overfills s.stack k) StackFull s t (onward (with_value_in s k x) n) stop e

-- a result in two steps: the first is refused as the whole is
pub refused-as : (b : Bool) (r : Reason) (s t u : State) (stop : Stop) (whole : Result State Reason) → whole ≡ unless b r u → (b ≡ true) × (stop ≡ Stopped r) × (t ≡ s) → (Err stop, t) ≡ left s whole
refused-as b r s t u stop whole e h = rw (e, h.0, h.1, h.2) refl

pub made-as : (b : Bool) (r : Reason) (s t u : State) (whole : Result State Reason) → whole ≡ unless b r u → b ≡ false → t ≡ u → (Ok tt, t) ≡ left s whole
made-as b r s t u whole e h f = rw (e, h, f) refl

-- a value for a register that was made local, once that is noted
pub after-local : (s t u : State) (k v n : ℕ) (res : Result (Unit {0}) Stop) (whole : Result State Reason) → t ≡ with_touch (with_local s k) → (res, u) ≡ left t (settled t k v n) → set_overfills s.stack k ≡ false →
    whole ≡ unless (set_overfills s.stack k) StackFull (onward (with_value_in (with_touch (with_local s k)) k v) n) → (res, u) ≡ left s whole
after-local s t u k v n res whole there e fits is =
    let made = ap (λ (x : State). left x (settled x k v n)) there ∙ ap (left (with_touch (with_local s k))) (local_settles s k v n) in
    e ∙ made ∙ sym (rw (is, fits) refl)

-- the same, where it looks at something or not
pub after-local-seen : (s t u : State) (k v n : ℕ) (b : Bool) (res : Result (Unit {0}) Stop) (whole : Result State Reason) → t ≡ record (with_local s k) { touched = b } → (res, u) ≡ left t (settled t k v n) → set_overfills s.stack k ≡ false →
    whole ≡ unless (set_overfills s.stack k) StackFull (record (onward (with_value_in (with_local s k) k v) n) { touched = b }) → (res, u) ≡ left s whole
unfolding settled
after-local-seen s t u k v n b res whole there e fits is =
    let made = ap (λ (x : State). left x (settled x k v n)) there in
    let room : left (record (with_local s k) { touched = b }) (settled (record (with_local s k) { touched = b }) k v n) ≡ (Ok tt, record (onward (with_value_in (with_local s k) k v) n) { touched = b }) = rw (stack-fits s.stack k (register s.stack k)) refl in
    e ∙ made ∙ room ∙ sym (rw (is, fits) refl)
