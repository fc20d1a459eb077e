-- What holds of both answers of a test holds of the answer.
use Rattle.std.proofs.Common.{◌≡◌, ℕ, ◌==◌, Bool, true, false, not, cond, Option, None, Some, refl}
use Rattle.mx_code.specs.declared.put.Put.{Put}
use Rattle.mx_code.specs.declared.put.Put.TheVariants as put
use Rattle.mx_code.specs.SpecialRegisters.{rG, rL}
use Rattle.mx_core.specs.Effects.{Effect, putting}
use Rattle.mx_code.specs.declared.instruction.Instruction.{Instruction}
use Rattle.mx_core.specs.Stops.{reason_where, first_reason}
use Rattle.mx_code.specs.declared.reason.Reason.{Reason}

pub chosen : {A : Type 0} (P : A → Type 0) (b : Bool) (x y : A) → P x → P y → P (cond b x y)
chosen P true x y p q = p
chosen P false x y p q = q

pub not-true : (b : Bool) → not b ≡ true → b ≡ false
not-true true e = absurd (cc)
not-true false e = refl

-- an effect that neither gives a value nor uses memory nor trips
pub record IsBare (e : Effect) : Type 0 where
  pub result : e.result ≡ None
  pub load : e.load ≡ None
  pub store : e.store ≡ None
  pub trip : e.trip ≡ None

bare : (e : Effect) → e.result ≡ None → e.load ≡ None → e.store ≡ None → e.trip ≡ None → IsBare e
bare e a b c d = record { result = a; load = b; store = c; trip = d }

pub putting-bare : (i : Instruction) (code : ℕ) (p : Put) → IsBare (putting i code p)
putting-bare i code (put.Store value) =
    chosen IsBare (code == rL) _ _ (bare _ refl refl refl refl) (chosen IsBare (code == rG) _ _ (bare _ refl refl refl refl) (bare _ refl refl refl refl))
putting-bare i code put.Illegal = bare _ refl refl refl refl
putting-bare i code put.Privileged = bare _ refl refl refl refl

-- a reason that is not there
pub no-reason : (b : Bool) (reason : Reason) → reason_where b reason ≡ None → b ≡ false
no-reason true reason e = absurd (cc)
no-reason false reason e = refl

pub no-first : (a b : Option Reason) → first_reason a b ≡ None → (a ≡ None) × (b ≡ None)
no-first None b e = (refl, e)
no-first (Some reason) b e = absurd (cc)

pub chosen-by : {A : Type 0} (P : A → Type 0) (b : Bool) (x y : A) → (b ≡ true → P x) → (b ≡ false → P y) → P (cond b x y)
chosen-by P true x y p q = p refl
chosen-by P false x y p q = q refl
