-- A watcher that is full after a trace.
use Rattle.std.specs.Prelude.{ℕ, Bool, true, List, [], ◌∷◌, ◌++◌, codes}
use Rattle.mx_code.specs.declared.trace.Trace.{Trace}
use Rattle.mx_text.specs.Numbers.{hex_text}
use Rattle.mx_watch.specs.Watching.{Watching}

-- the address of the last step that it was told
abbrev pub last_text : ℕ → List Trace → List ℕ
last_text pc [] = codes "last " ++ hex_text pc
last_text pc (t ∷ ts) = last_text t.pc ts

-- whether it was told a trace
abbrev pub was_told : Bool → List Trace → Bool
was_told told [] = told
was_told told (t ∷ ts) = was_told true ts

abbrev pub being_once : ℕ → Bool → Watching
being_once pc told = record { text = λ h. last_text pc h; full = λ h. was_told told h }
