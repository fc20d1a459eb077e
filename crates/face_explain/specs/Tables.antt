-- The whole table, section by section.
use Rattle.std.specs.Prelude.{ℕ, List, map, codes}
use Rattle.std.specs.List.{flat_map}
use Rattle.mx_explain.specs.Topics.{Row, row}
use Rattle.mx_messages.specs.Parts.{line_rows, expression_rows, statement_rows, place_rows, source_rows, warning_rows, object_rows, trie_rows, loading_rows, stop_rows, trap_rows, kind_rows, status_rows, inside_rows}
use Rattle.mx_operations.specs.Parts.{arithmetic_rows, comparison_rows, bit_rows, byte_rows, wyde_rows, branch_rows, set_rows, load_rows, store_rows, hint_rows, jump_rows, system_rows, float_rows, more_float_rows}
use Rattle.mx_explain.specs.Parts.{pseudo_rows, register_rows, more_register_rows, event_rows, file_rows, service_rows, other_rows}
use Rattle.face_explain.specs.declared.sections.TheConstants.{ALL}
use Rattle.face_explain.specs.declared.sections.Part.{Part as Seen}
use Rattle.face_explain.specs.declared.sections.Section.{Section}
use Rattle.face_explain.specs.declared.sections.Section.TheVariants as section

-- a section: its title, its rows, how wide its columns are, and how many cells of a line have one to their right
pub record Part : Type 0 where
  pub title : List ℕ
  pub rows : List Row
  pub width : ℕ
  pub most : ℕ

-- a section of the code
abbrev pub seen_part : Seen → Part
seen_part p = record { title = p.title.now; rows = map (λ e. row e.0 e.1.now e.2.now e.3.now e.4.now) p.entries.now; width = p.width; most = p.most }

-- sections of numbers with their names, of operations or registers, and of symbols
abbrev pub numbers_section : List ℕ → List Row → Part
numbers_section title rows = record { title = title; rows = rows; width = 24; most = 2 }

abbrev pub operations_section : List ℕ → List Row → Part
operations_section title rows = record { title = title; rows = rows; width = 8; most = 8 }

abbrev pub symbols_section : List ℕ → List Row → Part
symbols_section title rows = record { title = title; rows = rows; width = 18; most = 3 }

-- what a section has
abbrev pub part_of : Section → Part
part_of section.Lines = numbers_section (codes "Faults of a line") line_rows
part_of section.Expressions = numbers_section (codes "Faults of an expression") expression_rows
part_of section.Statements = numbers_section (codes "Faults of a statement") statement_rows
part_of section.Places = numbers_section (codes "Faults of addresses and labels") place_rows
part_of section.Sources = numbers_section (codes "Faults of a source as a whole") source_rows
part_of section.Warnings = numbers_section (codes "Warnings of a source") warning_rows
part_of section.Objects = numbers_section (codes "Faults of an object") object_rows
part_of section.Tries = numbers_section (codes "Faults of the symbols of an object") trie_rows
part_of section.Loading = numbers_section (codes "Faults of an object that is loaded") loading_rows
part_of section.Stops = numbers_section (codes "Reasons of a stop") stop_rows
part_of section.Traps = numbers_section (codes "Reasons of a stop of RESUME or TRAP") trap_rows
part_of section.Kinds = numbers_section (codes "Command-line errors") kind_rows
part_of section.Statuses = numbers_section (codes "Exit statuses") status_rows
part_of section.Inside = numbers_section (codes "Numbers inside the program") inside_rows
part_of section.Arithmetic = operations_section (codes "Instructions on numbers") arithmetic_rows
part_of section.Comparisons = operations_section (codes "Comparisons, negations, shifts and copies") comparison_rows
part_of section.Bits = operations_section (codes "Instructions on bits") bit_rows
part_of section.Bytes = operations_section (codes "Instructions on bytes and single bits") byte_rows
part_of section.Wydes = operations_section (codes "Instructions on wydes") wyde_rows
part_of section.Branches = operations_section (codes "Branches") branch_rows
part_of section.Sets = operations_section (codes "Registers that are set by a condition") set_rows
part_of section.Loads = operations_section (codes "Loads") load_rows
part_of section.Stores = operations_section (codes "Stores") store_rows
part_of section.Hints = operations_section (codes "Hints to the cache") hint_rows
part_of section.Jumps = operations_section (codes "Jumps, subroutines and special registers") jump_rows
part_of section.System = operations_section (codes "Trips, traps and the state") system_rows
part_of section.Floats = operations_section (codes "Instructions on floating-point numbers") float_rows
part_of section.MoreFloats = operations_section (codes "More instructions on floating-point numbers") more_float_rows
part_of section.PseudoOperations = operations_section (codes "Pseudo-operations") pseudo_rows
part_of section.Registers = operations_section (codes "Special registers") register_rows
part_of section.MoreRegisters = operations_section (codes "More special registers") more_register_rows
part_of section.Events = symbols_section (codes "Bits and handlers of events") event_rows
part_of section.Files = symbols_section (codes "Handles and modes of files") file_rows
part_of section.Services = symbols_section (codes "Services of TRAP") service_rows
part_of section.Others = symbols_section (codes "Other predefined symbols") other_rows

-- all sections, in order
unfoldable pub sections : List Section
sections = ALL

-- the rows of all sections
unfoldable pub table : List Row
table = flat_map (λ s. (part_of s).rows) sections
