-- The schedule of several processors: its bytes name processors, and it is repeated from its beginning as often as needed.
use Rattle.std.specs.Prelude.{ℕ, ◌<◌, Bool, IsTrue, List, [], ◌∷◌, Option, None, Some, Result, Ok, Err, if◌then◌else◌}
use Rattle.mx_multi.specs.Joint.{has_halted}
use Rattle.mx_multi.specs.declared.turn.Turn.{Turn}
use Rattle.mx_multi.specs.declared.turn.Turn.TheVariants as turned
use Rattle.mx_multi.specs.declared.end.MultiEnd.{MultiEnd}
use Rattle.mx_multi.specs.declared.end.MultiEnd.TheVariants.{AllHalted, Stopped, Spent, OutOfMemory}

-- the first turn of a part of the schedule that is not one of a processor that has halted, and what follows it
unfoldable pub next_in : List Bool → List ℕ → Option (ℕ × List ℕ)
next_in halted [] = None
next_in halted (who ∷ rest) = if has_halted halted who then next_in halted rest else Some (who, rest)

abbrev pub or_again : Option (ℕ × List ℕ) → Option (ℕ × List ℕ) → Option (ℕ × List ℕ)
or_again None again = again
or_again (Some next) again = Some next

-- the same where the schedule begins again after its end; none where each processor that it names has halted
abbrev pub next_turn : List Bool → List ℕ → List ℕ → Option (ℕ × List ℕ)
next_turn halted schedule rest = or_again (next_in halted rest) (next_in halted schedule)

-- each processor that a schedule names has halted
abbrev pub AllHaveHalted : List Bool → List ℕ → Type 0
AllHaveHalted halted [] = Unit {0}
AllHaveHalted halted (who ∷ rest) = IsTrue (has_halted halted who) × AllHaveHalted halted rest

-- each number of a schedule is that of a processor
abbrev pub AreNames : ℕ → List ℕ → Type 0
AreNames count [] = Unit {0}
AreNames count (who ∷ rest) = (who < count) × AreNames count rest

-- a turn that was made, of a processor, with what follows in the schedule: whether they end with it
abbrev pub end_of_turn : ℕ → List ℕ → Turn → Result (List ℕ) MultiEnd
end_of_turn who rest turned.Went = Ok rest
end_of_turn who rest (turned.Halted status) = Ok rest
end_of_turn who rest turned.Idle = Ok rest
end_of_turn who rest (turned.Stopped pc reason) = Err (Stopped who pc reason)
end_of_turn who rest turned.OutOfMemory = Err OutOfMemory

-- when no step is left
abbrev pub end_at_last : Option (ℕ × List ℕ) → MultiEnd
end_at_last None = AllHalted
end_at_last (Some next) = Spent
