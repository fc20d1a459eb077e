-- An object that is loaded is not too long.
use Rattle.std.proofs.Common.{◌≡◌, ℕ, ◌≤◌, ◌^◌, ◌+◌, Bool, true, false, cond, nat_lt, List, length, Result, Ok, Err, refl}
use Rattle.mx_word.specs.declared.symbols.Symbol.{Symbol}
use Rattle.mx_word.proofs.Comparisons.{not-less}
use Rattle.mx_mmo.specs.Image.{Image}
use Rattle.mx_mmo.specs.Meaning.{nothing}
use Rattle.mx_mmo.specs.Replies.{limit}
use Rattle.mx_mmo.specs.declared.due.Phase.TheVariants.{Start}
use Rattle.mx_mmo.specs.declared.faults.MmoFault.TheVariants.{TooLong}
use Rattle.mx_load.specs.Objects.{fault_at, items_loaded, object_loaded, whole_loaded}

pub loaded-short : (bytes : List ℕ) (x : Image × List Symbol) → Ok x ≡ object_loaded bytes → length bytes ≤ 2 ^ 26
loaded-short bytes x e = by (nat_lt limit (length bytes)) refl e
  where
    by : (b : Bool) → nat_lt limit (length bytes) ≡ b →
        ◌≡◌ {A = Result (Image × List Symbol) (ℕ × ℕ)} (Ok x) (cond b (Err (fault_at (TooLong limit))) (whole_loaded (items_loaded (length bytes + 1) nothing Start 0 bytes))) → length bytes ≤ 2 ^ 26
    by true is e = absurd (cc)
    by false is e = not-less limit (length bytes) is

pub ruleset short = (loaded-short)
