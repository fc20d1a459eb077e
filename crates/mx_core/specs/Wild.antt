-- Which steps look at rS or at the memory of the register stack; all others do not show where hidden octas lie.
use Rattle.std.specs.Prelude.{◌≡◌, ◌&&◌, ◌||◌, not, false, Bool}
use Rattle.mx_core.specs.Deeds.{Deed, deed_at}
use Rattle.mx_word.specs.Segments.{is_in_stack_segment}
use Rattle.mx_core.specs.State.{State, is_negative}
use Rattle.mx_core.specs.Step.{fetched}

-- what the next step carries out
abbrev pub deed : State → Deed
deed s = deed_at s (fetched s)

-- whether the next step fetches in Stack_Segment, or its deed is wild; at an address of 2^63 or more nothing is fetched
abbrev pub is_wild : State → Bool
is_wild s = not (is_negative s.pc) && (is_in_stack_segment s.pc || (deed s).is_wild)

-- nothing looked at rS or at the memory of the register stack, and the next step does not
pub record IsQuiet (s : State) : Type 0 where
  pub untouched : s.touched ≡ false
  pub not_wild : is_wild s ≡ false
