-- What a lister gives for an item and for the end of an object, piece by piece, as the code makes it. What a listing
-- is, `Listing` says; a law says that it is these pieces joined.
use Rattle.std.specs.Prelude.{ℕ, List, [], ◌∷◌, ◌++◌, Option, Some, None, codes, decimal}
use Rattle.std.specs.List.{flat_map}
use Rattle.mx_word.specs.declared.symbols.Symbol.{Symbol}
use Rattle.mx_mmo.specs.declared.items.Item.{Item}
use Rattle.mx_mmo.specs.declared.items.Item.TheVariants.{Load, Loc, Skip, FixOcta, FixNear, FixFar, File, Line, Spec, Pre, Post, Stab}
use Rattle.mx_text.specs.Numbers.{hex_digits, hex_text}
use Rattle.mx_text.specs.Instructions.{instruction_text}
use Rattle.mx_type.specs.Lambda.{lambda_after}
use Rattle.mx_type.specs.Lines.{bytes_text, ended, next_octa, next_tetra, stab_line, symbol_line, tetra_address}

-- a tetra at its address, with the instruction that it is
abbrev pub tetra_text : ℕ → ℕ → List ℕ
tetra_text a t = hex_text a ++ codes " " ++ hex_digits 8 t ++ codes " " ++ instruction_text t a

-- the name of a file after a blank, where there is one
abbrev pub name_text : Option (List ℕ) → List ℕ
name_text None = []
name_text (Some name) = codes " " ++ bytes_text name

-- the line of an item with its newline where lambda is an address; `stab` gives no bytes
abbrev pub item_text : ℕ → Item → List ℕ
item_text lambda (Load t) = ended (tetra_text (tetra_address lambda) t)
item_text lambda (Loc a) = ended (codes "loc " ++ hex_text a)
item_text lambda (Skip n) = ended (codes "skip " ++ decimal n)
item_text lambda (FixOcta a) = ended (codes "fixo " ++ hex_text a)
item_text lambda (FixNear n) = ended (codes "fixr " ++ decimal n)
item_text lambda (FixFar bits t) = ended (codes "fixrx " ++ decimal bits ++ next_tetra t)
item_text lambda (File number name) = ended (codes "file " ++ decimal number ++ name_text name)
item_text lambda (Line n) = ended (codes "line " ++ decimal n)
item_text lambda (Spec n) = ended (codes "spec " ++ decimal n)
item_text lambda (Pre tetras) = ended (codes "pre" ++ flat_map next_tetra tetras)
item_text lambda (Post g values) = ended (codes "post " ++ decimal g ++ flat_map next_octa values)
item_text lambda Stab = []

-- what a lister gives for items one after another, where lambda is an address before the first of them
unfoldable pub items_text : ℕ → List Item → List ℕ
items_text lambda [] = []
items_text lambda (item ∷ more) = item_text lambda item ++ items_text (lambda_after lambda item) more

-- what a lister gives at the end: the line of the trie and those of its symbols
abbrev pub tail_text : List ℕ → List Symbol → List ℕ
tail_text trie symbols = ended (stab_line trie) ++ flat_map (λ s. ended (symbol_line s)) symbols

-- all that a lister gives, joined
abbrev pub listing_text : List Item → List ℕ → List Symbol → List ℕ
listing_text items trie symbols = items_text 0 items ++ tail_text trie symbols
