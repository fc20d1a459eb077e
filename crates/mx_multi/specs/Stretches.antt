-- Turns that go on, one after another: those of one processor, and those by names that are repeated.
use Rattle.std.specs.Prelude.{ℕ, zero, suc, ◌≡◌, ◌+◌, ◌%◌, ◌<◌, ◌≤◌, not, false, Bool, List, get_or, length}
use Rattle.std.specs.List.{filter}
use Rattle.mx_host.specs.HostModel.{HostModel}
use Rattle.mx_plan.specs.Plan.{Comes}
use Rattle.mx_multi.specs.Clauses.{TurnGoesAsLists}
use Rattle.mx_multi.specs.Joint.{Joint, NoneTouched, as_list_joint, has_halted}
use Rattle.mx_multi.specs.JointTurns.{MakesOne, is_wild_turn}
use Rattle.mx_multi.specs.MultiPlans.{multi, turn_plan}
use Rattle.mx_multi.specs.declared.turn.Turn.TheVariants as turned

-- a turn that goes on, over every host, which it leaves as it was
pub record GoesOn (who : ℕ) (j k : Joint) : Type 0 where
  pub comes : (m : HostModel) → Comes multi (j, m) (k, m) turned.OutOfMemory turned.Went (turn_plan who)
  pub listed : (m : HostModel) → NoneTouched j.processors → TurnGoesAsLists (is_wild_turn who (as_list_joint j)) who (as_list_joint j) m turned.Went k m
  pub bound : MakesOne who j k
  pub halted : k.halted ≡ j.halted

-- this many of them lead from some processors to others
unfoldable pub Stretch : ℕ → ℕ → Joint → Joint → Type 0
Stretch zero who j l = j ≡ l
Stretch (suc n) who j l = (k : Joint) × (GoesOn who j k × Stretch n who k l)

-- NAMES

-- those that are of processors which have not halted
abbrev pub running : List Bool → List ℕ → List ℕ
running halted names = filter (λ who. not (has_halted halted who)) names

-- each of them is that of a processor which has not halted
pub record AllRun (halted : List Bool) (names : List ℕ) : Type 0 where
  pub runs : (i : ℕ) → i < length names → has_halted halted (get_or names i 0) ≡ false

-- the place of the next turn: the first one again after the last
pub record IsPlaceFrom (names : List ℕ) (at place : ℕ) : Type 0 where
  pub inside : place < length names
  pub same : at < length names → place ≡ at
  pub again : length names ≤ at → place ≡ 0

-- of so many places, the one that is this many after a place: the first one comes again after the last
unfoldable pub place_after : ℕ → ℕ → ℕ → ℕ
place_after count at n = (at + n) % count

-- this many turns, from a place on, are of one processor
pub record IsRow (names : List ℕ) (at n who : ℕ) : Type 0 where
  pub same : (i : ℕ) → i < n → get_or names (place_after (length names) at i) 0 ≡ who

-- this many turns by names, from a place on, each of which goes on, lead to a place, and from some processors to others
unfoldable pub Along : List ℕ → ℕ → ℕ → ℕ → Joint → Joint → Type 0
Along names zero at after j l = (at ≡ after) × (j ≡ l)
Along names (suc n) at after j l = (k : Joint) × (GoesOn (get_or names at 0) j k × Along names n (place_after (length names) at 1) after k l)
