-- The items of the object of a source: those of each statement, with zero for each reference and a fix record where its
-- label is, and then the end. (MMIXware, MMIXAL, "Binary MMO output".)
use Rattle.std.specs.Prelude.{ℕ, ◌+◌, ◌-◌, ◌*◌, ◌/◌, ◌%◌, ◌^◌, ◌==◌, min, nat_lt, if◌then◌else◌, List, [], ◌∷◌, ◌++◌, length, map, replicate, codes, Option, None, Some, Result, Ok, Err}
use Rattle.std.specs.Result.{result_unwrap_or}
use Rattle.mx_word.specs.declared.symbols.Value.{Value}
use Rattle.mx_word.specs.declared.symbols.Value.TheVariants.{Pure, Reg}
use Rattle.mx_word.specs.declared.waits.Wait.{Wait}
use Rattle.mx_mmo.specs.Reading.{tetras_of}
use Rattle.mx_mmo.specs.declared.items.Item.{Item}
use Rattle.mx_mmo.specs.declared.items.Item.TheVariants.{Load, Loc, File, Line, Pre, Post, Stab}
use Rattle.mx_stab.specs.Trie.{trie_of}
use Rattle.mx_names.specs.Names.{NameTable, value_of_name}
use Rattle.mx_names.specs.Gregs.{lowest_of}
use Rattle.mx_stmt.specs.declared.placed.Placed.{Placed}
use Rattle.mx_stmt.specs.Steps.{Answer}
use Rattle.mx_stmt.specs.Encoding.{StatementTree}
use Rattle.mx_asm.specs.TwoPass.{Sight, outline, final_known, sights_of}
use Rattle.mx_asm.specs.declared.head.Head.{Head}
use Rattle.mx_asm.specs.declared.refused.Refused.{Refused}
use Rattle.mx_asm.specs.Fixes.{fixes, awaited_value, waiting_at}

-- ---- the fix records of a label

-- the label's address, where lambda is another
abbrev pub moved : ℕ → Value → List Item
moved lambda (Reg r) = []
moved lambda (Pure value) = if lambda == value then [] else Loc value ∷ []

abbrev pub at_value : Head → Value → Head
at_value h (Reg r) = h
at_value h (Pure value) = record h { lambda = value }

abbrev pub onto : List Item → Result (List Item) Refused → Result (List Item) Refused
onto front (Err refused) = Err refused
onto front (Ok items) = Ok (front ++ items)

-- the records of the references that wait for the label of a line, or their first refusal; nothing where none waits
abbrev pub fix_items : ℕ → ℕ → Value → List Wait → Result (List Item) Refused
fix_items lambda line value [] = Ok []
fix_items lambda line value (wait ∷ waits) = onto (moved lambda value) (fixes line value (wait ∷ waits))

abbrev pub head_at_fixes : Head → Value → List Wait → Head
head_at_fixes h value [] = h
head_at_fixes h value (wait ∷ waits) = at_value h value

-- ---- the tetras of bytes

-- the multiple of 4 that is not above, and the one that is not below
abbrev pub lowered : ℕ → ℕ
lowered a = a / 4 * 4

abbrev pub raised : ℕ → ℕ
raised a = (a + 3) / 4 * 4

-- zeros after this many bytes, which complete the last tetra
abbrev pub zeros_after : ℕ → List ℕ
zeros_after n = replicate ((4 - n % 4) % 4) 0

-- the tetras that cover bytes from a place on, with zeros elsewhere
abbrev pub covered : ℕ → List ℕ → List ℕ
covered start bytes = replicate (start % 4) 0 ++ bytes ++ zeros_after (start + length bytes)

abbrev pub covering : ℕ → List ℕ → List ℕ
covering start bytes = tetras_of (covered start bytes)

-- how many tetras cover this many bytes from a place on
abbrev pub tetra_count : ℕ → ℕ → ℕ
tetra_count start count = raised (start + count) / 4 - start / 4

-- the address of the first tetra, where lambda is another
abbrev pub located : ℕ → ℕ → List Item
located lambda start = if lowered lambda == lowered start then [] else Loc (lowered start) ∷ []

-- the number that tells a line: one above 65,535 is not told
abbrev pub told_line : ℕ → ℕ
told_line line = if nat_lt 65535 line then 0 else line

abbrev pub lined : ℕ → ℕ → List Item
lined in_force line = if in_force == told_line line then [] else Line (told_line line) ∷ []

-- the line in force after this many tetras: 0 stays, and none passes 2^32 - 1
abbrev pub line_number_after : ℕ → ℕ → ℕ
line_number_after line tetras = if line == 0 then 0 else min (line + tetras) (2 ^ 32 - 1)

-- the items of bytes of a line that are placed from an address on
abbrev pub byte_items : Head → ℕ → ℕ → List ℕ → List Item
byte_items h line start [] = []
byte_items h line start (b ∷ bytes) =
    located h.lambda start ++ lined h.line line ++ map Load (covering start (b ∷ bytes))

abbrev pub head_at_bytes : Head → ℕ → ℕ → List ℕ → Head
head_at_bytes h line start [] = h
head_at_bytes h line start (b ∷ bytes) = record {
  lambda = raised (start + length (b ∷ bytes));
  line = line_number_after (told_line line) (tetra_count start (length (b ∷ bytes)));
}

-- ---- a statement

-- the items of a statement, and the head after it: fix records for the references that wait for its label, then its bytes
abbrev pub with_bytes : Result (List Item) Refused → List Item → Result (List Item) Refused
with_bytes (Err refused) items = Err refused
with_bytes (Ok fixes) items = Ok (fixes ++ items)

abbrev pub piece_items : Head → ℕ → Value → ℕ → List ℕ → List Wait → Result (List Item) Refused
piece_items h line value start bytes waits =
    with_bytes (fix_items h.lambda line value waits) (byte_items (head_at_fixes h value waits) line start bytes)

abbrev pub piece_head : Head → ℕ → Value → ℕ → List ℕ → List Wait → Head
piece_head h line value start bytes waits = head_at_bytes (head_at_fixes h value waits) line start bytes

abbrev pub statement_items : Head → ℕ → Placed → List Wait → Result (List Item) Refused
statement_items h line p waits = piece_items h line (awaited_value p.label) p.start p.bytes waits

abbrev pub statement_head : Head → ℕ → Placed → List Wait → Head
statement_head h line p waits = piece_head h line (awaited_value p.label) p.start p.bytes waits

-- ---- the front and the end

-- what is first: a time of 0, and the file
abbrev pub opening : List Item
opening = Pre (0 ∷ []) ∷ File 0 (Some (codes ".mms")) ∷ []

abbrev pub first_head : Head
first_head = record { lambda = 0; line = 0 }

-- what a statement without a fault adds; one with a fault adds nothing
abbrev pub sight_items : Head → List Sight → Sight → Answer Placed → List Item
sight_items h earlier s (Err fault) = []
sight_items h earlier s (Ok p) = result_unwrap_or (statement_items h s.statement.line p (waiting_at earlier s)) []

abbrev pub sight_head : Head → List Sight → Sight → Answer Placed → Head
sight_head h earlier s (Err fault) = h
sight_head h earlier s (Ok p) = statement_head h s.statement.line p (waiting_at earlier s)

-- the items of statements after earlier ones
unfoldable pub items_from : Head → List Sight → List Sight → List Item
items_from h earlier [] = []
items_from h earlier (s ∷ later) =
    sight_items h earlier s (outline s) ++ items_from (sight_head h earlier s (outline s)) (earlier ++ s ∷ []) later

-- what is before the end: the opening, and the items of all statements
abbrev pub front : List StatementTree → List Item
front statements = opening ++ items_from first_head [] (sights_of statements)

-- the global registers: those that GREG gave, and $255, which is Main
abbrev pub main_name : List ℕ
main_name = codes ":Main"

abbrev pub pure_or_zero : Option Value → ℕ
pure_or_zero None = 0
pure_or_zero (Some (Pure n)) = n
pure_or_zero (Some (Reg r)) = 0

abbrev pub main_of : NameTable → ℕ
main_of names = pure_or_zero (value_of_name names main_name)

abbrev pub closing : NameTable → List ℕ → List Item
closing names gregs = Post (lowest_of gregs) (gregs ++ main_of names ∷ []) ∷ Stab ∷ []

-- all items of the object
abbrev pub emission : List StatementTree → List Item
emission statements = front statements ++ closing (final_known statements).names (final_known statements).gregs

-- the symbol trie, with the zeros that complete its last tetra
abbrev pub padded_trie : NameTable → List ℕ
padded_trie names = trie_of names.symbols ++ zeros_after (length (trie_of names.symbols))
