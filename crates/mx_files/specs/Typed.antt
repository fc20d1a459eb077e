-- What `type` writes for an object, line by line, and what it comes to.
use Rattle.std.specs.Prelude.{ℕ, ◌+◌, nat_lt, List, [], ◌∷◌, ◌++◌, length, map, Result, Ok, Err, unwrap_or, if◌then◌else◌}
use Rattle.mx_load.specs.Objects.{fault_at}
use Rattle.mx_mmo.specs.Replies.{ReaderModel, limit, tail_of}
use Rattle.mx_mmo.specs.Whole.{Left, Walk, items_of}
use Rattle.mx_mmo.specs.declared.due.Phase.TheVariants.{Start}
use Rattle.mx_mmo.specs.declared.faults.MmoFault.{MmoFault}
use Rattle.mx_mmo.specs.declared.faults.MmoFault.TheVariants.{TooLong}
use Rattle.mx_mmo.specs.declared.items.Item.{Item}
use Rattle.mx_mmo.specs.declared.items.Tail.{Tail}
use Rattle.mx_stab.specs.Faults.{number_of, place_of}
use Rattle.mx_stab.specs.Reading.{trie_answer}
use Rattle.mx_stab.specs.declared.faults.StabFault.{StabFault}
use Rattle.mx_type.specs.Lambda.{lambda_after}
use Rattle.mx_type.specs.Lines.{ended, stab_line, symbol_line}
use Rattle.mx_type.specs.Texts.{item_text}
use Rattle.mx_word.specs.declared.symbols.Symbol.{Symbol}
use Rattle.mx_outcome.specs.declared.outcome.Outcome.{Outcome}
use Rattle.mx_outcome.specs.declared.outcome.Outcome.TheVariants.{Done, BadObject}

-- lines, and the outcome where all of them are written
abbrev pub Typed : Type 0
Typed = List (List ℕ) × Outcome

-- a text as the line that it is; no bytes are no line
abbrev pub shown : List ℕ → List (List ℕ)
shown [] = []
shown (b ∷ text) = (b ∷ text) ∷ []

-- the lines of items, where lambda is an address before the first of them
unfoldable pub item_lines : ℕ → List Item → List (List ℕ)
item_lines lambda [] = []
item_lines lambda (item ∷ items) = shown (item_text lambda item) ++ item_lines (lambda_after lambda item) items

-- the lines after them: that of the trie, and one for each of its symbols
abbrev pub tail_lines : List ℕ → List Symbol → List (List ℕ)
tail_lines trie symbols = ended (stab_line trie) ∷ map (λ s. ended (symbol_line s)) symbols

-- the refusal of bytes that are no object
abbrev pub unread : MmoFault → Outcome
unread fault = BadObject (fault_at fault).0 (fault_at fault).1

-- so with those of a trie, whose places count from where it is in the object
abbrev pub unread_trie : ℕ → StabFault → Outcome
unread_trie place fault = BadObject (place + unwrap_or (place_of fault) 0) (number_of fault)

-- what follows the items: the trie and its symbols, or what is wrong there
abbrev pub trie_typed : ℕ → List ℕ → Result (List Symbol) StabFault → Typed
trie_typed place trie (Ok symbols) = (tail_lines trie symbols, Done 0)
trie_typed place trie (Err fault) = ([], unread_trie place fault)

abbrev pub tail_typed : Result Tail MmoFault → Typed
tail_typed (Ok tail) = trie_typed tail.place tail.trie (trie_answer tail.trie)
tail_typed (Err fault) = ([], unread fault)

abbrev pub end_typed : Result Left MmoFault → Typed
end_typed (Ok left) = tail_typed (tail_of left.phase left.at left.rest)
end_typed (Err fault) = ([], unread fault)

-- lines before others
abbrev pub with_lines_first : List (List ℕ) → Typed → Typed
with_lines_first lines t = (lines ++ t.0, t.1)

-- the items up to the first fault, and then what follows them, or the fault
abbrev pub walk_typed : ℕ → Walk → Typed
walk_typed lambda w = with_lines_first (item_lines lambda w.0) (end_typed w.1)

-- An object, line by line. Where it has a fault of its own, the lines of the items before it are there, and no line of a trie;
-- what its items mean plays no part. Of too many bytes there is no line.
unfoldable pub typed : List ℕ → Typed
typed object = if nat_lt limit (length object) then ([], unread (TooLong limit)) else walk_typed 0 (items_of Start 0 object)

-- what a reader still gives, with what follows it
abbrev pub still_typed : ℕ → ReaderModel → Typed
still_typed lambda m = walk_typed lambda (items_of m.phase m.at m.rest)
