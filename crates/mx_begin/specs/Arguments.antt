-- The arguments of a program, from the words of the command line.
use Rattle.std.specs.Prelude.{ℕ, ◌-◌, ◌||◌, List, [], ◌∷◌, length, take, drop, slice_get, unwrap_or, codes, if◌then◌else◌}
use Rattle.std.specs.Str.{bytes_eq}
use Rattle.mx_words.specs.declared.order.Order.{Order}

abbrev pub Word : Type 0
Word = List ℕ

-- the word at a place
abbrev pub word_at : List Word → ℕ → Word
word_at words place = unwrap_or (slice_get words place) []

-- the last four bytes of a word
abbrev pub suffix : Word → List ℕ
suffix word = drop (length word - 4) word

-- argument 0: the word that names the file, without a last `.mms` or `.mmo`
abbrev pub program_name : Word → Word
program_name word =
    if bytes_eq (suffix word) (codes ".mms") || bytes_eq (suffix word) (codes ".mmo") then take (length word - 4) word else word

-- argument 0, and the words after the file
abbrev pub arguments : List Word → Order → List Word
arguments words o = program_name (word_at words o.file) ∷ drop o.rest words
