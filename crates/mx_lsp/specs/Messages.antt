-- Messages that come, as JSON: what they ask for or tell, and their parts. (JSON-RPC 2.0; Language Server Protocol, "Base Protocol".)
use Rattle.std.specs.Prelude.{◌≡◌, ℕ, Bool, true, false, List, [], Option, None, Some, is_some, option_map, option_and_then, unwrap_or, codes, if◌then◌else◌}
use Rattle.std.specs.Str.{bytes_eq, is_utf8}
use Rattle.serde_json.specs.Data.{Data, Items, no_items, item}
use Rattle.serde_json.specs.Find.{as_array, as_bool, as_number, as_object, as_str, as_u64, get, pointer}
use Rattle.serde_json.specs.Read.{read}
use Rattle.serde_json.specs.Written.{compact_text, has_float}
use Rattle.mx_lsp.specs.Edits.{offset_of, spliced}
use Rattle.mx_lsp.specs.declared.message.Method.{Method}
use Rattle.mx_lsp.specs.declared.message.Method.TheVariants.{Initialize, Shutdown, Exit, Tells, Asks, Other}
use Rattle.mx_lsp.specs.declared.message.Notice.TheVariants.{DidOpen, DidChange, DidClose}
use Rattle.mx_lsp.specs.declared.message.Query.TheVariants.{Shows, Rename, Formatting}
use Rattle.mx_lsp.specs.declared.message.Showing.{Showing}
use Rattle.mx_lsp.specs.declared.message.Showing.TheVariants.{Hover, Definition, References, Highlight, PrepareRename, Symbols, Completion, Signature}

-- the message that a body has
abbrev pub message_in : List ℕ → Option Data
message_in body = if is_utf8 body then read body else None

-- ---- methods

abbrev pub shows : Showing → Method
shows what = Asks (Shows what)

unfoldable pub name_named : List ℕ → Method
name_named name =
    if bytes_eq name (codes "textDocument/prepareRename") then shows PrepareRename
    else if bytes_eq name (codes "textDocument/rename") then Asks Rename
    else if bytes_eq name (codes "textDocument/documentSymbol") then shows Symbols
    else if bytes_eq name (codes "textDocument/completion") then shows Completion
    else if bytes_eq name (codes "textDocument/signatureHelp") then shows Signature
    else if bytes_eq name (codes "textDocument/formatting") then Asks Formatting
    else Other

unfoldable pub place_named : List ℕ → Method
place_named name =
    if bytes_eq name (codes "textDocument/hover") then shows Hover
    else if bytes_eq name (codes "textDocument/definition") then shows Definition
    else if bytes_eq name (codes "textDocument/references") then shows References
    else if bytes_eq name (codes "textDocument/documentHighlight") then shows Highlight
    else name_named name

unfoldable pub method_named : List ℕ → Method
method_named name =
    if bytes_eq name (codes "initialize") then Initialize
    else if bytes_eq name (codes "shutdown") then Shutdown
    else if bytes_eq name (codes "exit") then Exit
    else if bytes_eq name (codes "textDocument/didOpen") then Tells DidOpen
    else if bytes_eq name (codes "textDocument/didChange") then Tells DidChange
    else if bytes_eq name (codes "textDocument/didClose") then Tells DidClose
    else place_named name

abbrev pub method_by : Data → Option Method
method_by d = option_map method_named (as_str d)

abbrev pub method_in : Option Data → Option Method
method_in None = None
method_in (Some d) = method_by d

-- what a message asks for or tells; an answer does neither
abbrev pub method_of : Data → Option Method
method_of message = method_in (get (codes "method") message)

-- the mark of a request; what has none is a notification
abbrev pub id_of : Data → Option Data
id_of message = get (codes "id") message

-- the text of a mark, which is a string or a whole number
pub record IsTextOf (id : Data) (text : List ℕ) : Type 0 where
  pub is : has_float id ≡ false → text ≡ compact_text id

-- ---- parts, by their paths

abbrev pub text_of : Data → List ℕ
text_of d = unwrap_or (as_str d) []

abbrev pub text_in : Option Data → List ℕ
text_in None = []
text_in (Some d) = text_of d

abbrev pub text_at : List ℕ → Data → List ℕ
text_at path message = text_in (pointer path message)

abbrev pub number_of : Data → ℕ
number_of d = unwrap_or (option_and_then as_u64 (as_number d)) 0

abbrev pub number_in : Option Data → ℕ
number_in None = 0
number_in (Some d) = number_of d

abbrev pub number_at : List ℕ → Data → ℕ
number_at path message = number_in (pointer path message)

abbrev pub uri_of : Data → List ℕ
uri_of message = text_at (codes "/params/textDocument/uri") message

abbrev pub flag_of : Data → Bool
flag_of d = unwrap_or (as_bool d) true

abbrev pub flag_in : Option Data → Bool
flag_in None = true
flag_in (Some d) = flag_of d

-- whether labels are asked for, too
abbrev pub wants_label : Data → Bool
wants_label message = flag_in (pointer (codes "/params/context/includeDeclaration") message)

-- ---- changes of a text

abbrev pub range_if : Option Data → Option Data
range_if None = None
range_if (Some d) = if is_some (as_object d) then Some d else None

-- the part of a text that a change puts another one in place of; without one it is the whole text
abbrev pub range_in : Data → Option Data
range_in change = range_if (get (codes "range") change)

abbrev pub new_text : Data → List ℕ
new_text change = text_in (get (codes "text") change)

abbrev pub start_in : List ℕ → Data → ℕ
start_in text range = offset_of text (number_at (codes "/start/line") range) (number_at (codes "/start/character") range)

abbrev pub end_in : List ℕ → Data → ℕ
end_in text range = offset_of text (number_at (codes "/end/line") range) (number_at (codes "/end/character") range)

abbrev pub changed_in : List ℕ → List ℕ → Option Data → List ℕ
changed_in text new None = new
changed_in text new (Some range) = spliced text (start_in text range) (end_in text range) new

abbrev pub changed : List ℕ → Data → List ℕ
changed text change = changed_in text (new_text change) (range_in change)

-- a text that is changed one time after another
unfoldable pub changed_by : List ℕ → Items → List ℕ
changed_by text no_items = text
changed_by text (item change later) = changed_by (changed text change) later

abbrev pub items_of : Data → Items
items_of d = unwrap_or (as_array d) no_items

abbrev pub items_in : Option Data → Items
items_in None = no_items
items_in (Some d) = items_of d

-- what the changes of a message make of a text
abbrev pub text_after : List ℕ → Data → List ℕ
text_after text message = changed_by text (items_in (pointer (codes "/params/contentChanges") message))
