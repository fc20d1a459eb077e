-- The lines that tell a step and the state, without the newline that ends each.
use Rattle.std.specs.Prelude.{ℕ, ◌+◌, ◌/◌, ◌%◌, ◌^◌, ◌==◌, if◌then◌else◌, List, [], ◌∷◌, ◌++◌, codes, decimal, Option, None, Some}
use Rattle.mx_ring.specs.Stack.{register}
use Rattle.mx_text.specs.Instructions.{instruction_text}
use Rattle.mx_text.specs.Numbers.{hex_text, hex_digits}
use Rattle.mx_core.specs.State.{State, global_start, locals}
use Rattle.mx_code.specs.declared.trace.Touch.{Touch}
use Rattle.mx_code.specs.declared.trace.Trace.{Trace}
use Rattle.mx_show.specs.Subjects.{octa_shown, octa_start}

-- a line with the newline that ends it
abbrev pub ended : List ℕ → List ℕ
ended line = line ++ 10 ∷ []

-- ---- a step that was made: the address, the tetra, the instruction, and what it changed

abbrev pub destination_text : State → Option ℕ → List ℕ
destination_text s None = []
destination_text s (Some k) = codes " $" ++ decimal k ++ codes "=" ++ hex_text (register s.stack k)

abbrev pub write_text : State → Option Touch → List ℕ
write_text s None = []
write_text s (Some t) = codes " M" ++ hex_text (octa_start t.at) ++ codes "=" ++ hex_text (octa_shown s t.at)

-- a file trap gives $255 a value
abbrev pub trap_text : State → ℕ → List ℕ
trap_text s word = if word / 2 ^ 24 == 0 then codes " $255=" ++ hex_text (register s.stack 255) else []

abbrev pub next_text : ℕ → ℕ → List ℕ
next_text pc next = if next == (pc + 4) % 2 ^ 64 then [] else codes " -> " ++ hex_text next

unfoldable pub step_text : Trace → List ℕ
step_text t = hex_text t.pc ++ codes " " ++ hex_digits 8 t.word ++ codes " " ++ instruction_text t.word t.pc

unfoldable pub trace_text : Trace → State → List ℕ
trace_text t s =
    step_text t ++ destination_text s t.dest ++ write_text s t.writes ++ trap_text s t.word ++ next_text t.pc t.next

-- ---- the state

unfoldable pub state_text : State → List ℕ
state_text s =
    codes "steps " ++ decimal s.steps ++ codes " at " ++ hex_text s.pc
    ++ codes " L " ++ decimal (locals s) ++ codes " G " ++ decimal (global_start s)
