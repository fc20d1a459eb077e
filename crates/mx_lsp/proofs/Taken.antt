-- The text of a name.
use Rattle.std.proofs.Common.{◌≡◌, ℕ, List, Some, true}
use Rattle.std.specs.Str.{bytes_eq}
use Rattle.std.proofs.lemmas.Slice.Eq.{bytes_eq-Decides}
use Rattle.std.proofs.Common.{refl}
use Rattle.mx_lsp.specs.Documents.{text_of, with_text}
use Rattle.mx_lsp.specs.declared.documents.Document.{Document}

pub text-taken : (documents : List Document) (uri text : List ℕ) → text_of (with_text documents uri text) uri ≡ Some text
text-taken documents uri text = let same : bytes_eq uri uri ≡ true = (bytes_eq-Decides uri uri).1 refl in rw same refl

pub ruleset taken = (text-taken)
