-- The references that wait for a label: what each of them is refused with, and the fix records that set them right.
-- (MMIXware, MMIXAL, future references; MMO, lop_fixo, lop_fixr and lop_fixrx.)
use Rattle.std.specs.Prelude.{ℕ, ◌^◌, nat_lt, if◌then◌else◌, List, [], ◌∷◌, ◌++◌, Option, None, Some, unwrap_or, Result, Ok, Err}
use Rattle.std.specs.List.{list_any}
use Rattle.mx_word.specs.declared.symbols.Value.{Value}
use Rattle.mx_word.specs.declared.symbols.Value.TheVariants.{Pure, Reg}
use Rattle.mx_word.specs.declared.waits.Awaited.TheVariants as awaited
use Rattle.mx_word.specs.declared.waits.Wait.{Wait}
use Rattle.mx_word.specs.declared.waits.WaitKind.{WaitKind}
use Rattle.mx_word.specs.declared.waits.WaitKind.TheVariants.{Octa, Near, Far}
use Rattle.mx_names.specs.Names.{complete_form}
use Rattle.mx_names.specs.Waiting.{waits_for}
use Rattle.mx_mmo.specs.declared.items.Item.{Item}
use Rattle.mx_mmo.specs.declared.items.Item.TheVariants.{FixOcta, FixNear, FixFar}
use Rattle.mx_stmt.specs.declared.statement.Label.{Label}
use Rattle.mx_stmt.specs.declared.statement.Label.TheVariants.{Name, Local}
use Rattle.mx_stmt.specs.declared.faults.StmtFault.TheVariants.{NotMultiple}
use Rattle.mx_stmt.specs.Steps.{Answer}
use Rattle.mx_stmt.specs.Forms.{relative_word, near_reach, far_reach}
use Rattle.mx_asm.specs.declared.faults.AsmFault.{AsmFault}
use Rattle.mx_asm.specs.declared.faults.AsmFault.TheVariants.{FutureRegister, FutureTooFar, FutureNotMultiple}
use Rattle.mx_asm.specs.declared.refused.Refused.{Refused}
use Rattle.mx_asm.specs.Faults.{refused_from}
use Rattle.mx_asm.specs.TwoPass.{Sight, references, is_local}

-- ---- which references wait

-- the statements from the last one with a label dH on; all, where none has it
unfoldable pub from_last : ℕ → List Sight → List Sight
from_last d [] = []
from_last d (s ∷ later) =
    if list_any (λ (t : Sight). is_local d t.statement.label) later then from_last d later else s ∷ later

-- The references that wait for the label of a statement after earlier ones. A statement's own reference to its own symbol
-- is one of them; one to `dF` is not.
abbrev pub waiting_for : List Sight → Sight → Option Label → List Wait
waiting_for earlier s None = []
waiting_for earlier s (Some (Name text)) =
    waits_for (awaited.Name (complete_form s.known.names.prefix text)) (references (earlier ++ s ∷ []))
waiting_for earlier s (Some (Local d)) = waits_for (awaited.Local d) (references (from_last d earlier))

abbrev pub waiting_at : List Sight → Sight → List Wait
waiting_at earlier s = waiting_for earlier s s.statement.label

-- ---- one reference

-- the record that adds a word to a tetra: one below 2^16 fits the short record
abbrev pub word_fix : ℕ → ℕ → Item
word_fix bits word = if nat_lt word (2 ^ 16) then FixNear word else FixFar bits word

-- the record of a relative address, by what it adds to its tetra
abbrev pub relative_fix : ℕ → Answer ℕ → Result Item AsmFault
relative_fix bits (Err NotMultiple) = Err FutureNotMultiple
relative_fix bits (Err fault) = Err FutureTooFar
relative_fix bits (Ok word) = Ok (word_fix bits word)

-- the record that joins a pure value to a reference at a place
abbrev pub pure_fix : ℕ → WaitKind → ℕ → Result Item AsmFault
pure_fix place Octa value = Ok (FixOcta place)
pure_fix place Near value = relative_fix 16 (relative_word 0 near_reach place value)
pure_fix place Far value = relative_fix 24 (relative_word 0 far_reach place value)

-- the record of a reference to this value, or its fault
abbrev pub fix_of : Value → Wait → Result Item AsmFault
fix_of (Reg r) wait = Err FutureRegister
fix_of (Pure value) wait = pure_fix wait.at wait.kind value

-- ---- all references to a value

-- a record and those of later references; a fault refuses the label's line, because of the reference's line
abbrev pub with_fix : ℕ → ℕ → Result Item AsmFault → Result (List Item) Refused → Result (List Item) Refused
with_fix line from (Err fault) later = Err (refused_from line fault from)
with_fix line from (Ok fix) (Err refused) = Err refused
with_fix line from (Ok fix) (Ok fixes) = Ok (fix ∷ fixes)

-- the records of references to the label of a line, in the order in which they were made, or the first refusal
unfoldable pub fixes : ℕ → Value → List Wait → Result (List Item) Refused
fixes line value [] = Ok []
fixes line value (wait ∷ waits) = with_fix line wait.line (fix_of value wait) (fixes line value waits)

-- the value that references wait for; none waits where there is no label
abbrev pub awaited_value : Option Value → Value
awaited_value value = unwrap_or value (Pure 0)
