-- The texts that are open, each under its name. A text that is taken goes in front of the others. (Language Server Protocol, "Text
-- Document Synchronization".)
use Rattle.std.specs.Prelude.{ℕ, nat_lt, Bool, List, length, Option, None, Some, if◌then◌else◌}
use Rattle.std.specs.List.{find, insert, position, remove}
use Rattle.std.specs.Str.{bytes_eq}
use Rattle.mx_lsp.specs.declared.documents.Document.{Document}

abbrev pub document : List ℕ → List ℕ → Document
document uri text = record { uri = uri; text = text }

abbrev pub is_named : List ℕ → Document → Bool
is_named uri d = bytes_eq d.uri uri

abbrev pub text_in : Option Document → Option (List ℕ)
text_in None = None
text_in (Some d) = Some d.text

abbrev pub text_of : List Document → List ℕ → Option (List ℕ)
text_of documents uri = text_in (find (is_named uri) documents)

abbrev pub removed : List Document → ℕ → List Document
removed documents at = if nat_lt at (length documents) then remove documents at else documents

abbrev pub removed_if : List Document → Option ℕ → List Document
removed_if documents None = documents
removed_if documents (Some at) = removed documents at

abbrev pub without : List Document → List ℕ → List Document
without documents uri = removed_if documents (position (is_named uri) documents)

abbrev pub with_first : List Document → Document → List Document
with_first documents document = insert documents 0 document

abbrev pub with_text : List Document → List ℕ → List ℕ → List Document
with_text documents uri text = with_first (without documents uri) (document uri text)
