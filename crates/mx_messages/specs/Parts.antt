-- The rows of the table, part by part.
use Rattle.std.specs.Prelude.{List, map}
use Rattle.mx_explain.specs.Topics.{Row, row}
use Rattle.mx_messages.specs.declared.sources.TheConstants.{LINES, EXPRESSIONS, STATEMENTS, PLACES, SOURCES}
use Rattle.mx_messages.specs.declared.warnings.TheConstants.{WARNINGS}
use Rattle.mx_messages.specs.declared.objects.TheConstants.{OBJECTS, TRIES, LOADING}
use Rattle.mx_messages.specs.declared.stops.TheConstants.{STOPS, TRAPS}
use Rattle.mx_messages.specs.declared.kinds.TheConstants.{KINDS}
use Rattle.mx_messages.specs.declared.statuses.TheConstants.{STATUSES}
use Rattle.mx_messages.specs.declared.inside.TheConstants.{INSIDE}

-- faults of a line
unfoldable pub line_rows : List Row
line_rows = map (λ e. row e.0 e.1.now e.2.now e.3.now e.4.now) LINES

-- faults of an expression
unfoldable pub expression_rows : List Row
expression_rows = map (λ e. row e.0 e.1.now e.2.now e.3.now e.4.now) EXPRESSIONS

-- faults of a statement
unfoldable pub statement_rows : List Row
statement_rows = map (λ e. row e.0 e.1.now e.2.now e.3.now e.4.now) STATEMENTS

-- faults of addresses and labels
unfoldable pub place_rows : List Row
place_rows = map (λ e. row e.0 e.1.now e.2.now e.3.now e.4.now) PLACES

-- faults of a source as a whole
unfoldable pub source_rows : List Row
source_rows = map (λ e. row e.0 e.1.now e.2.now e.3.now e.4.now) SOURCES

-- warnings of a source
unfoldable pub warning_rows : List Row
warning_rows = map (λ e. row e.0 e.1.now e.2.now e.3.now e.4.now) WARNINGS

-- faults of an object
unfoldable pub object_rows : List Row
object_rows = map (λ e. row e.0 e.1.now e.2.now e.3.now e.4.now) OBJECTS

-- faults of the symbols of an object
unfoldable pub trie_rows : List Row
trie_rows = map (λ e. row e.0 e.1.now e.2.now e.3.now e.4.now) TRIES

-- faults of an object that is loaded
unfoldable pub loading_rows : List Row
loading_rows = map (λ e. row e.0 e.1.now e.2.now e.3.now e.4.now) LOADING

-- reasons of a stop
unfoldable pub stop_rows : List Row
stop_rows = map (λ e. row e.0 e.1.now e.2.now e.3.now e.4.now) STOPS

-- reasons of a stop of RESUME or TRAP
unfoldable pub trap_rows : List Row
trap_rows = map (λ e. row e.0 e.1.now e.2.now e.3.now e.4.now) TRAPS

-- command-line errors
unfoldable pub kind_rows : List Row
kind_rows = map (λ e. row e.0 e.1.now e.2.now e.3.now e.4.now) KINDS

-- exit statuses
unfoldable pub status_rows : List Row
status_rows = map (λ e. row e.0 e.1.now e.2.now e.3.now e.4.now) STATUSES

-- numbers inside the program
unfoldable pub inside_rows : List Row
inside_rows = map (λ e. row e.0 e.1.now e.2.now e.3.now e.4.now) INSIDE
