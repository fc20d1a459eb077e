-- Breaks come at tetras that have a flag.
use Rattle.std.proofs.Common.{◌≡◌, Bool, true, false, refl}
use Rattle.std.specs.Prelude.{◌||◌}
use Rattle.mx_run.specs.FlagMaps.{break_flag, has_flag}
use Rattle.mx_run.specs.declared.end.BreakKind.{BreakKind}
use Rattle.mx_run.specs.declared.end.BreakKind.TheVariants.{Read, Write, Execute}
use Rattle.mx_run.specs.declared.flags.Flags.{Flags}

first-of : (a b c d : Bool) → a ≡ true → (a || b || c || d) ≡ true
first-of true b c d e = refl
first-of false b c d e = absurd (cc)

second-of : (a b c d : Bool) → b ≡ true → (a || b || c || d) ≡ true
second-of true b c d e = refl
second-of false true c d e = refl
second-of false false c d e = absurd (cc)

third-of : (a b c d : Bool) → c ≡ true → (a || b || c || d) ≡ true
third-of true b c d e = refl
third-of false true c d e = refl
third-of false false true d e = refl
third-of false false false d e = absurd (cc)

-- a tetra that breaks has a flag
pub break-flagged : (kind : BreakKind) (f : Flags) → break_flag kind f ≡ true → has_flag f ≡ true
break-flagged Read f e = first-of f.r f.w f.x f.t e
break-flagged Write f e = second-of f.r f.w f.x f.t e
break-flagged Execute f e = third-of f.r f.w f.x f.t e

pub ruleset breaking = (break-flagged)
