-- The lines that the console writes on breaks and flags, without the newline that ends each.
use Rattle.std.specs.Prelude.{ℕ, Bool, if◌then◌else◌, List, [], ◌∷◌, ◌++◌, codes}
use Rattle.mx_text.specs.Numbers.{hex_text}
use Rattle.mx_run.specs.declared.end.BreakKind.{BreakKind}
use Rattle.mx_run.specs.declared.end.BreakKind.TheVariants.{Read, Write, Execute}
use Rattle.mx_run.specs.declared.flags.Flags.{Flags}

-- ---- breaks

abbrev pub break_words : BreakKind → List ℕ
break_words Read = codes "break r "
break_words Write = codes "break w "
break_words Execute = codes "break x "

unfoldable pub break_text : BreakKind → ℕ → List ℕ
break_text kind a = break_words kind ++ hex_text a

-- ---- flags: the address of the tetra, and the letters of those that are set

abbrev pub letter_if : Bool → ℕ → List ℕ
letter_if set letter = if set then letter ∷ [] else []

abbrev pub letters_of : Flags → List ℕ
letters_of f = letter_if f.r 114 ++ letter_if f.w 119 ++ letter_if f.x 120 ++ letter_if f.t 116

unfoldable pub flag_text : ℕ → Flags → List ℕ
flag_text a f = hex_text a ++ codes " " ++ letters_of f
