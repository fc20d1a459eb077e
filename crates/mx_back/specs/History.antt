-- The states before the last steps, the newest first: those that notes represent, and those that a run keeps.
use Rattle.std.specs.Prelude.{ℕ, ◌≡◌, suc, List, [], ◌∷◌, take}
use Rattle.mx_core.specs.Kept.{Kept, state_of}
use Rattle.mx_core.specs.State.{State}
use Rattle.mx_core.specs.Undoing.{StateWas, FitsState, state_undone}
use Rattle.mx_core.specs.declared.step.Step.{Step}
use Rattle.mx_core.specs.declared.step.Step.TheVariants.{Went}
use Rattle.mx_back.specs.declared.fault.BackFault.{BackFault}
use Rattle.mx_back.specs.declared.fault.BackFault.TheVariants.{NothingKept}

abbrev pub fault_number : BackFault → ℕ
fault_number NothingKept = 140

-- NOTES

-- the states that notes represent, given the state after the last step: each note is taken back from the state that the
-- one before it in the list gives
unfoldable pub states_before : List StateWas → State → List State
states_before [] s = []
states_before (n ∷ notes) s = state_undone n s ∷ states_before notes (state_undone n s)

-- the same, given the machine
abbrev pub states_noted : List StateWas → Kept → List State
states_noted notes m = states_before notes (state_of m)

-- the notes fit the machine: the newest fits its state, and each older one the state that the next newer one gives
unfoldable pub AreNotesOf : List StateWas → State → Type 0
AreNotesOf [] s = Unit {0}
AreNotesOf (n ∷ notes) s = FitsState n s × AreNotesOf notes (state_undone n s)

-- WHAT IS KEPT

-- a state before a step is kept, and at most 1,024 are
abbrev pub kept_with : State → List State → List State
kept_with s kept = take 1024 (s ∷ kept)

-- after a step in a state: where it went on, the state is kept
abbrev pub kept_after : Step → State → List State → List State
kept_after (Went trace) s kept = kept_with s kept
kept_after answer s kept = kept

-- the notes after a step: where it did not go on, they are those that were
abbrev pub KeepsNotes : Step → List StateWas → List StateWas → Type 0
KeepsNotes (Went trace) old new = Unit {0}
KeepsNotes answer old new = new ≡ old

-- BACK

-- What calls of `back` make of the kept states and of the machine's state, by what each of them does: the machine gets
-- the first kept state, which is kept no more.
pub data Backed (kept : List State) (s : State) : ℕ → List State → State → Type 0 where
  none : Backed kept s 0 kept s
  more : {j : ℕ} {left : List State} {t u : State} → Backed kept s j (t ∷ left) u → Backed kept s (suc j) left t

-- A RUN

-- what a turn of a run comes to: a step that went on; a file trap that completed, halted, ended without memory or met one
-- page too many, where the machine may have changed; or a stop that changes nothing
pub data Turned : Type 0 where
  stepped : Turned
  trapped : Turned
  ended : Turned

abbrev pub kept_turn : Turned → State → List State → List State
kept_turn stepped s kept = kept_with s kept
kept_turn trapped s kept = []
kept_turn ended s kept = kept

-- the states that are kept at the end of a run, by its turns and the states before them, the oldest turn first
unfoldable pub states_kept : List (Turned × State) → List State → List State
states_kept [] kept = kept
states_kept ((turn, s) ∷ turns) kept = states_kept turns (kept_turn turn s kept)
