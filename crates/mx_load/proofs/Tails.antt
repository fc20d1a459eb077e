-- What follows the items of an object.
use Rattle.std.proofs.Common.{◌≢◌, ℕ, ◌<◌, ◌≤◌, ◌^◌, List, Option, Some, None, length, arith, IfSome}
use Rattle.mx_stab.specs.Faults.{place_of}
use Rattle.mx_stab.specs.FaultTable.{FaultOf}
use Rattle.mx_stab.specs.declared.faults.StabFault.{StabFault}
use Rattle.mx_stab.specs.declared.faults.StabFault.TheVariants.{Truncated, Padding, Wide, Twice, TooLong, BadSerial, OutOfMemory}
use Rattle.mx_stab.proofs.FaultsMet.{fault-within}

below : (n : ℕ) (place : Option ℕ) → n < 2 ^ 63 → IfSome place (λ at. at ≤ n) → IfSome place (λ at. at < 2 ^ 63)
below n (Some at) l h = omega (arith, l, h)
below n None l h = tt

-- a fault of a trie lies within its bytes
pub placed-within : (bytes : List ℕ) (fault : StabFault) → length bytes < 2 ^ 63 → (fault ≢ OutOfMemory → FaultOf bytes fault) → IfSome (place_of fault) (λ at. at < 2 ^ 63)
placed-within bytes OutOfMemory l h = tt
placed-within bytes (Truncated place) l h = below (length bytes) (Some place) l (fault-within (h (λ e. cc)))
placed-within bytes (Padding place) l h = below (length bytes) (Some place) l (fault-within (h (λ e. cc)))
placed-within bytes (Wide place) l h = below (length bytes) (Some place) l (fault-within (h (λ e. cc)))
placed-within bytes (Twice place) l h = below (length bytes) (Some place) l (fault-within (h (λ e. cc)))
placed-within bytes (TooLong place) l h = below (length bytes) (Some place) l (fault-within (h (λ e. cc)))
placed-within bytes (BadSerial place) l h = below (length bytes) (Some place) l (fault-within (h (λ e. cc)))

pub ruleset tails = (placed-within)
