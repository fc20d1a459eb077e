-- What a writer notes on its way.
use Rattle.std.specs.Prelude.{ℕ, suc, ◌==◌, List, [], ◌∷◌, ◌++◌, if◌then◌else◌}
use Rattle.mx_word.specs.declared.symbols.Symbol.{Symbol}
use Rattle.mx_stab.specs.Trie.{next_byte, trie_from}
use Rattle.mx_stab.specs.declared.writing.Pending.{Pending}

-- what is still to be written: the last noted first
abbrev pub bytes_due : List Pending → List ℕ
bytes_due [] = []
bytes_due (p ∷ before) = bytes_due before ++ trie_from p.at p.symbols.now

-- how many symbols are in front whose next byte is this one
abbrev pub run_length : ℕ → ℕ → List Symbol → ℕ
run_length at byte [] = 0
run_length at byte (s ∷ more) = if next_byte at s == byte then suc (run_length at byte more) else 0

-- how many symbols the first group has
abbrev pub group_size : ℕ → List Symbol → ℕ
group_size at [] = 0
group_size at (s ∷ more) = suc (run_length at (next_byte at s) more)
