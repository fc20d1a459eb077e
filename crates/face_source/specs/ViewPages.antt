-- What `list` and `where` have to say of a file: it is taken for an object where its bytes begin as one, and otherwise for a source.
use Rattle.std.specs.Prelude.{ℕ, Bool, true, false, List, [], ◌++◌, Option, None, Some, Result, Ok, Err, codes, if◌then◌else◌}
use Rattle.mx_face.specs.Pages.{page_of, read_or_told}
use Rattle.mx_face.specs.declared.page.Page.{Page}
use Rattle.mx_files.specs.Source.{file_bytes, object_pieces}
use Rattle.mx_host.specs.HostModel.{HostModel}
use Rattle.mx_host.specs.HostAnswer.{Then}
use Rattle.mx_object.specs.Listing.{begins_as_object, object_found, object_listed}
use Rattle.mx_object.specs.Rows as rows
use Rattle.mx_object.specs.declared.tetras.FoundTetra.{FoundTetra}
use Rattle.mx_object.specs.declared.view.ListedObject.{ListedObject}
use Rattle.mx_outcome.specs.Messages.{message_of}
use Rattle.mx_outcome.specs.declared.outcome.Outcome.{Outcome}
use Rattle.mx_outcome.specs.declared.outcome.Outcome.TheVariants.{BadObject, Done, Usage}
use Rattle.mx_text.specs.Numbers.{hex_text}
use Rattle.face_source.specs.SourcePages.{list_page, where_page}

-- ---- objects

-- an object that is refused is told as by `mmixware sim`
unfoldable pub told_page : Outcome → Page
told_page outcome = record { text = []; remark = message_of outcome; outcome = outcome }

unfoldable pub json_refused : List ℕ
json_refused = codes "error: --json is for sources\n"

-- an object is not written as JSON: the option is unknown
unfoldable pub json_page : Page
json_page = record { text = []; remark = json_refused; outcome = Usage (record { kind = 3; word = 1 }) }

abbrev pub accepted_page : ListedObject → Page
accepted_page listed = record { text = rows.listing_of listed; remark = []; outcome = Done 0 }

-- the listing of an object, or why it is refused
unfoldable pub listed_page : Result ListedObject (ℕ × ℕ) → Page
listed_page (Ok listed) = accepted_page listed
listed_page (Err (place, fault)) = told_page (BadObject place fault)

unfoldable pub none_has : List ℕ
none_has = codes "no tetra has the address "

unfoldable pub no_tetra : ℕ → List ℕ
no_tetra address = none_has ++ hex_text address ++ codes "\n"

-- where an object loads nothing at an address, that is said
abbrev pub found_remark : ℕ → Option FoundTetra → List ℕ
found_remark address None = no_tetra address
found_remark address (Some f) = []

abbrev pub tetra_page : ℕ → Option FoundTetra → Page
tetra_page address found = record { text = rows.found_row found; remark = found_remark address found; outcome = Done 0 }

-- the tetra that holds an address, or why the object is refused
unfoldable pub found_page : ℕ → Result (Option FoundTetra) (ℕ × ℕ) → Page
found_page address (Ok found) = tetra_page address found
found_page address (Err (place, fault)) = told_page (BadObject place fault)

-- ---- `list`

abbrev pub list_object : Bool → List ℕ → Page
list_object false bytes = listed_page (object_listed bytes)
list_object true bytes = json_page

unfoldable pub list_view : Bool → List ℕ → Page
list_view is_json bytes = if begins_as_object bytes then list_object is_json bytes else list_page is_json bytes

-- ---- `where`

abbrev pub where_object : Bool → ℕ → List ℕ → Page
where_object false address bytes = found_page address (object_found bytes address)
where_object true address bytes = json_page

unfoldable pub where_view : Bool → ℕ → List ℕ → Page
where_view is_json address bytes = if begins_as_object bytes then where_object is_json address bytes else where_page is_json address bytes

-- ---- the file

-- what comes of the file of this name, of which a view makes this page: it is read until more bytes were taken than an object can have
abbrev pub shown_view : (List ℕ → Page) → List ℕ → HostModel → Then Outcome
shown_view view name m = page_of view (read_or_told (file_bytes object_pieces name m))
