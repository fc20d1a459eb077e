-- What a reader answers, call by call.
-- A rule of this program.
use Rattle.std.specs.Prelude.{ℕ, ◌+◌, ◌-◌, ◌*◌, ◌/◌, ◌%◌, ◌^◌, ◌==◌, ◌&&◌, nat_lt, List, [], ◌∷◌, ◌++◌, length, take, drop, Option, Some, None, Result, Ok, Err, if◌then◌else◌}
use Rattle.mx_mmo.specs.Reading.{Due, first_item}
use Rattle.mx_mmo.specs.declared.items.Item.{Item}
use Rattle.mx_mmo.specs.declared.items.Item.TheVariants.{Pre, Post, Stab}
use Rattle.mx_mmo.specs.declared.items.Tail.{Tail}
use Rattle.mx_mmo.specs.declared.faults.MmoFault.{MmoFault}
use Rattle.mx_mmo.specs.declared.faults.MmoFault.TheVariants.{NotTetras, BadFields, Truncated, TooLong}
use Rattle.mx_mmo.specs.declared.due.Phase.{Phase}
use Rattle.mx_mmo.specs.declared.due.Phase.TheVariants.{Start, Middle, Posted, Ended}

-- the bytes that were fed and not given, how far the reader has come, the byte place where these
-- bytes begin, the place of the item given last, and the fault that was answered
pub record ReaderModel : Type 0 where
  pub rest : List ℕ
  pub phase : Phase
  pub at : ℕ
  pub place : ℕ
  pub fault : Option MmoFault

-- an answer and the reader after it
abbrev pub Then : Type 0 → Type 0
Then A = Result A MmoFault × ReaderModel

-- a reader that nothing was fed
abbrev pub fresh : ReaderModel
fresh = record { rest = []; phase = Start; at = 0; place = 0; fault = None }

-- a fault is answered, and kept for every later call
abbrev pub refused : {A : Type 0} → ReaderModel → MmoFault → Then A
refused m fault = (Err fault, record m { fault = Some fault })

-- the longest object, in bytes
abbrev pub limit : ℕ
limit = 2 ^ 26

-- a piece more is fed; the bytes that were fed are at most 2^26
abbrev pub feed_next : Option MmoFault → ReaderModel → List ℕ → Then (Unit {0})
feed_next (Some fault) m piece = (Err fault, m)
feed_next None m piece =
    if nat_lt limit (m.at + length m.rest + length piece) then refused m (TooLong limit)
    else (Ok tt, record m { rest = m.rest ++ piece })

abbrev pub feed_answer : ReaderModel → List ℕ → Then (Unit {0})
feed_answer m piece = feed_next m.fault m piece

-- how far a reader has come after an item
abbrev pub phase_after : Item → Phase → Phase
phase_after (Pre tetras) phase = Middle
phase_after (Post g values) phase = Posted
phase_after Stab phase = Ended
phase_after _ phase = phase

-- an item that takes this many bytes is given
abbrev pub given : ReaderModel → Item → ℕ → ReaderModel
given m item size =
    record m { rest = drop size m.rest; phase = phase_after item m.phase; at = m.at + size; place = m.at }

abbrev pub next_item : ReaderModel → Due → Then (Option Item)
next_item m (Ok None) = (Ok None, m)
next_item m (Ok (Some (item, size))) = (Ok (Some item), given m item size)
next_item m (Err fault) = refused m fault

abbrev pub next_due : Option MmoFault → ReaderModel → Then (Option Item)
next_due (Some fault) m = (Err fault, m)
next_due None m = next_item m (first_item m.phase m.at m.rest)

abbrev pub next_answer : ReaderModel → Then (Option Item)
next_answer m = next_due m.fault m

-- the count in the lopcode `end`, where the last tetra is one
abbrev pub end_count : List ℕ → Option ℕ
end_count (a ∷ code ∷ y ∷ z ∷ []) = if a == 0x98 && code == 12 then Some (256 * y + z) else None
end_count _ = None

-- what follows `stab`, with the count that its last tetra has; at `at` the trie begins
abbrev pub counted_tail : ℕ → List ℕ → Option ℕ → Result Tail MmoFault
counted_tail at rest None = Err (Truncated (at + length rest))
counted_tail at rest (Some count) =
    if count == length rest / 4 - 1 then Ok (record { trie = take (length rest - 4) rest; place = at })
    else Err (BadFields (at + length rest - 4))

-- what follows the items that were given
abbrev pub tail_after : Phase → ℕ → List ℕ → Result Tail MmoFault
tail_after Ended at rest = counted_tail at rest (end_count (drop (length rest - 4) rest))
tail_after _ at rest = Err (Truncated (at + length rest))

-- no more comes: first of all the bytes are whole tetras
abbrev pub tail_of : Phase → ℕ → List ℕ → Result Tail MmoFault
tail_of phase at rest =
    if length rest % 4 == 0 then tail_after phase at rest
    else Err (NotTetras (at + length rest - length rest % 4))

abbrev pub finished : ReaderModel → Result Tail MmoFault → Then Tail
finished m (Ok tail) = (Ok tail, m)
finished m (Err fault) = refused m fault

abbrev pub finish_next : Option MmoFault → ReaderModel → Then Tail
finish_next (Some fault) m = (Err fault, m)
finish_next None m = finished m (tail_of m.phase m.at m.rest)

abbrev pub finish_answer : ReaderModel → Then Tail
finish_answer m = finish_next m.fault m
