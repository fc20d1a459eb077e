-- What `list` and `where` have to say of a source.
use Rattle.std.specs.Prelude.{ℕ, Bool, true, false, List, [], ◌∷◌, ◌++◌, Option, None, Some, codes}
use Rattle.mx_face.specs.Pages.{outcome_of}
use Rattle.mx_face.specs.Visible.{visible_text}
use Rattle.mx_face.specs.declared.page.Page.{Page}
use Rattle.mx_files.specs.Assembling.{refused_with}
use Rattle.mx_files.specs.declared.refusal.Refusal.{Refusal}
use Rattle.mx_outcome.specs.Messages.{message_of}
use Rattle.mx_outcome.specs.declared.outcome.Outcome.{Outcome}
use Rattle.mx_outcome.specs.declared.outcome.Outcome.TheVariants.{Usage}
use Rattle.mx_text.specs.Numbers.{hex_text}
use Rattle.mx_view.specs.Listing.{lines_holding, lines_listed, listing_of, refusal_in, symbols_listed}
use Rattle.mx_view.specs.declared.cells.Wanted.{Wanted}
use Rattle.mx_view.specs.declared.cells.Wanted.TheVariants.{All, Holding}
use Rattle.mx_view.specs.declared.view.Listed.{Listed}
use Rattle.face_source.specs.SourceJson.{holding_json, listing_json}

-- ---- `list`

abbrev pub listed_in : Wanted → List ℕ → Listed
listed_in wanted source = record { lines = lines_listed wanted source; symbols = symbols_listed source; refused = refusal_in source }

abbrev pub list_text : Bool → List ℕ → List ℕ
list_text false source = visible_text (listing_of source)
list_text true source = listing_json (listed_in All source)

-- the text, and the message of the refusal
unfoldable pub list_page : Bool → List ℕ → Page
list_page is_json source = record {
  text = list_text is_json source;
  remark = message_of (outcome_of (refusal_in source));
  outcome = outcome_of (refusal_in source);
}

-- ---- `where`

abbrev pub where_text : Bool → ℕ → List ℕ → List ℕ
where_text false address source = lines_holding address source
where_text true address source = holding_json address (listed_in (Holding address) source)

-- whether there is anything in a list
abbrev pub is_filled : {A : Type 0} → List A → Bool
is_filled [] = false
is_filled (x ∷ items) = true

unfoldable pub none_has : List ℕ
none_has = codes "no line has the address "

unfoldable pub no_line : ℕ → List ℕ
no_line address = none_has ++ hex_text address ++ codes "\n"

-- where nothing is loaded at an address of a source that is not refused, that is said
abbrev pub where_remark : ℕ → Option Refusal → Bool → List ℕ
where_remark address (Some r) found = message_of (refused_with r)
where_remark address None true = []
where_remark address None false = no_line address

unfoldable pub where_page : Bool → ℕ → List ℕ → Page
where_page is_json address source = record {
  text = where_text is_json address source;
  remark = where_remark address (refusal_in source) (is_filled (lines_listed (Holding address) source));
  outcome = outcome_of (refusal_in source);
}

-- a word that is no address is a bad number
abbrev pub no_address : Outcome
no_address = Usage (record { kind = 5; word = 1 })

unfoldable pub address_refused : List ℕ
address_refused = codes "error: an address is # and hexadecimal digits, or decimal digits\n"
