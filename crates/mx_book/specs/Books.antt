-- What is known of a program: of a source, or of an object.
use Rattle.std.specs.Prelude.{ℕ, List, [], map, Result, Ok, Err}
use Rattle.std.specs.List.{flat_map}
use Rattle.mx_word.specs.declared.symbols.Symbol.{Symbol}
use Rattle.mx_view.specs.Listing.{symbols_listed}
use Rattle.mx_slips.specs.Sources.{source_lines}
use Rattle.mx_slips.specs.declared.sources.SourceLine.{SourceLine}
use Rattle.mx_object.specs.Listing.{object_listed}
use Rattle.mx_object.specs.declared.view.ListedObject.{ListedObject}
use Rattle.mx_book.specs.Labels.{constants_in, label_unless, object_labels}
use Rattle.mx_book.specs.Loads.{line_loads, load_of, text_of}
use Rattle.mx_book.specs.declared.book.Book.{Book}

-- of a source with these lines and symbols
abbrev pub with_lines : List ℕ → List SourceLine → List Symbol → Book
with_lines name lines symbols = record {
  name = name;
  lines = map text_of lines;
  loads = flat_map line_loads lines;
  symbols = symbols;
  labels = flat_map (label_unless (constants_in lines)) symbols;
}

abbrev pub source_book : List ℕ → List ℕ → Book
source_book name source = with_lines name (source_lines source) (symbols_listed source)

-- of an object
abbrev pub with_object : List ℕ → ListedObject → Book
with_object name listed = record {
  name = name;
  lines = [];
  loads = map load_of listed.tetras;
  symbols = listed.symbols;
  labels = object_labels listed.tetras listed.symbols;
}

-- unless it is refused, with the byte place and the number of its fault
abbrev pub book_if : List ℕ → Result ListedObject (ℕ × ℕ) → Result Book (ℕ × ℕ)
book_if name (Ok listed) = Ok (with_object name listed)
book_if name (Err fault) = Err fault

abbrev pub object_book : List ℕ → List ℕ → Result Book (ℕ × ℕ)
object_book name bytes = book_if name (object_listed bytes)
