-- The names of an operand field that spells a list of expressions are those of its trees, in their order. (MMIXware, MMIXAL: expressions.)
use Rattle.std.specs.Prelude.{◌≡◌, ℕ, ◌+◌, List, [], ◌∷◌, ◌++◌, map}
use Rattle.std.specs.List.{flat_map}
use Rattle.mx_expr.specs.Spelling.{Spells}
use Rattle.mx_expr.specs.Tree.{Tree, number, name, back, ahead, here, unary, binary}
use Rattle.mx_slips.specs.Tokens.{tokens_of}
use Rattle.mx_occurrences.specs.Occurrences.{in_token}
use Rattle.mx_occurrences.specs.declared.course.Course.{Course}
use Rattle.mx_occurrences.specs.declared.occurrence.Occurrence.{Occurrence}

-- the names of a tree, from left to right; 66 is B and 70 is F
abbrev pub names_in : Tree → List (List ℕ)
names_in (number n) = []
names_in (name text) = text ∷ []
names_in (back d) = ((48 + d) ∷ 66 ∷ []) ∷ []
names_in (ahead d) = ((48 + d) ∷ 70 ∷ []) ∷ []
names_in here = []
names_in (unary op e) = names_in e
names_in (binary op l r) = names_in l ++ names_in r

-- the texts of names
abbrev pub texts_of : List Occurrence → List (List ℕ)
texts_of names = map (λ (o : Occurrence). o.text) names

-- those of a field that reaches to a place of its line
abbrev pub field_names : Course → Course → ℕ → ℕ → List ℕ → List (List ℕ)
field_names before c line end field = texts_of (flat_map (in_token before c line) (tokens_of end field))

abbrev pub AreThoseOfTrees : Course → Course → ℕ → ℕ → List ℕ → List Tree → Type 0
AreThoseOfTrees before c line end field list = Spells field list → field_names before c line end field ≡ flat_map names_in list
