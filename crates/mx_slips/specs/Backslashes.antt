-- A backslash in a string before a letter or digit that is an escape in other languages: `n`, `t`, `r` or `0`.
use Rattle.std.specs.Prelude.{ℕ, ◌==◌, ◌&&◌, ◌||◌, List, [], ◌∷◌, Bool, false, Option}
use Rattle.std.specs.List.{find}
use Rattle.std.specs.Option.{option_map}
use Rattle.mx_slips.specs.declared.sources.Statement.{Statement}
use Rattle.mx_slips.specs.declared.tokens.Token.{Token}
use Rattle.mx_slips.specs.declared.marks.Mark.{Mark}
use Rattle.mx_slips.specs.Afters.{begins_with}
use Rattle.mx_slips.specs.Marks.{mark_of}

abbrev pub begins_escape : List ℕ → Bool
begins_escape [] = false
begins_escape (b ∷ bs) = b == 110 || b == 116 || b == 114 || b == 48

unfoldable pub has_escape : List ℕ → Bool
has_escape [] = false
has_escape (b ∷ bs) = (b == 92 && begins_escape bs) || has_escape bs

abbrev pub is_escaping : Token → Bool
is_escaping t = begins_with 34 t.text && has_escape t.text

abbrev pub token_mark : Token → Mark
token_mark t = mark_of t.from t.text 0

-- the first such string of a statement
unfoldable pub backslash_in_string : Statement → Option Mark
backslash_in_string s = option_map token_mark (find is_escaping s.tokens)
