-- What two steps keep of a host, both together keep.
use Rattle.std.proofs.Common.{ℕ, ◌≤◌, inl, inr, ◌∙◌, refl, le_refl, arith}
use Rattle.std.specs.Prelude.{Option}
use Rattle.mx_host.specs.HostModel.{HostModel, Rose}
use Rattle.mx_host.specs.Keeping.{Keeps, OnlyByFailure}
use Rattle.mx_host.proofs.Keeping.{streams-kept}
use Rattle.mx_plan.specs.Clauses.{KeepsHost}

pub keeps_host-all : (old : Option HostModel) (earlier : ℕ) → KeepsHost old old earlier earlier
keeps_host-all old earlier = (refl, le_refl earlier, λ h. h)

pub keeps_host-then : (old mid new : Option HostModel) (a b d : ℕ) → KeepsHost old mid a b → KeepsHost mid new b d → KeepsHost old new a d
keeps_host-then old mid new a b d h k = let first : a ≤ b = h.1 in let second : b ≤ d = k.1 in (k.0 ∙ h.0, omega (arith, first, second), λ s. k.2 (h.2 s))

-- what every call keeps is that and more
pub keeps_host-kept : (old new : Option HostModel) (a b : ℕ) → Keeps old new a b → KeepsHost old new a b
keeps_host-kept old new a b h = (h.telling, h.counting, streams-kept old new a b h)

-- what came by a failure after a step came by one over both
pub rose-on : (k m n : ℕ) → k ≤ m → Rose m n → Rose k n
rose-on k m n l (inl h) = inl (omega (arith, l, h))
rose-on k m n l (inr e) = inr e

pub only-after : {A : Type 0} (old mid : Option HostModel) (a b d : ℕ) (answer result : A) → KeepsHost old mid a b → OnlyByFailure mid answer result b d → OnlyByFailure old answer result a d
only-after old mid a b d answer result h only had e = rose-on a b d h.1 (only (h.2 had) e)
