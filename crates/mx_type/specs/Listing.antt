-- The listing of an object: what a text says of its items and its trie.
use Rattle.std.specs.Prelude.{◌≡◌, ℕ, List, [], ◌∷◌, ◌++◌}
use Rattle.std.specs.List.{flat_map}
use Rattle.mx_word.specs.declared.symbols.Symbol.{Symbol}
use Rattle.mx_mmo.specs.declared.items.Item.{Item}
use Rattle.mx_mmo.specs.declared.items.Item.TheVariants.{Stab}
use Rattle.mx_stab.specs.Grammar.{IsTrie}
use Rattle.mx_type.specs.Lambda.{lambda_of}
use Rattle.mx_type.specs.Lines.{IsLine, ended, stab_line, symbol_line}

-- the lines of items one after another: each item but `stab` has the line that lambda after the items before it gives
pub data AreLines : List Item → List ℕ → Type 0 where
  none : AreLines [] []
  next : (items : List Item) (text : List ℕ) (item : Item) (line : List ℕ) →
      AreLines items text → IsLine (lambda_of items) item line → AreLines (items ++ item ∷ []) (text ++ ended line)
  quiet : (items : List Item) (text : List ℕ) → AreLines items text → AreLines (items ++ Stab ∷ []) text

-- what a lister has given for items, which left lambda there
abbrev pub HasListed : ℕ → List Item → List ℕ → Type 0
HasListed lambda items text = (lambda ≡ lambda_of items) × AreLines items text

-- what was listed, and this text after it, are the lines of all these items
abbrev pub ListsItem : ℕ → ℕ → Item → List ℕ → Type 0
ListsItem old new item text =
    (items : List Item) (lines : List ℕ) → HasListed old items lines → HasListed new (items ++ item ∷ []) (lines ++ text)

-- the listing of items and of a trie: the lines of the items, that of the trie, and those of its symbols in the order
-- of the trie
pub record IsListing (text : List ℕ) (items : List Item) (trie : List ℕ) : Type 0 where
  pub lines : List ℕ
  pub symbols : List Symbol
  pub listed : AreLines items lines
  pub told : IsTrie trie symbols
  pub whole : text ≡ lines ++ ended (stab_line trie) ++ flat_map (λ s. ended (symbol_line s)) symbols

-- what was listed, and this text after it, are the listing of the items and the trie
abbrev pub EndsListing : ℕ → List ℕ → List ℕ → Type 0
EndsListing lambda trie text =
    (items : List Item) (lines : List ℕ) → HasListed lambda items lines → IsListing (lines ++ text) items trie
