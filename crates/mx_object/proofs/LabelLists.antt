-- The tetras that have labels.
use Rattle.std.proofs.Common.{◌≡◌, ℕ, ◌+◌, ◌<◌, Bool, true, false, cond, not, ◌==◌, ◌||◌, List, [], ◌∷◌, ◌++◌, length, get_or, take, flat_map, append-nil, append_assoc, refl, sym, ap, ◌∙◌}
use Rattle.std.proofs.lemmas.List.{take_more}
use Rattle.mx_word.specs.declared.symbols.Symbol.{Symbol}
use Rattle.mx_word.specs.declared.symbols.Value.{Value}
use Rattle.mx_word.specs.declared.symbols.Value.TheVariants.{Pure, Reg}
use Rattle.mx_type.specs.Lines.{tetra_address}
unfoldable use Rattle.mx_object.specs.Addresses.{has}
use Rattle.mx_object.specs.Addresses.{with_all}
use Rattle.mx_object.specs.Labels.{label_of, label_with, labelled, labels_at, value_tetra}
use Rattle.mx_object.specs.declared.labels.Label.{Label}
use Rattle.mx_object.proofs.AddressLaws.{has-all, has-append, neither}
use Rattle.mx_object.proofs.AddressLists.{with-append, with-none}

abbrev tetras_in : List Symbol → List ℕ
tetras_in symbols = flat_map (λ (s : Symbol). value_tetra s.value) symbols

no-label : (a : ℕ) (name : List ℕ) (v : Value) → has (value_tetra v) a ≡ false → label_with a name v ≡ []
unfolding has
no-label a name (Reg k) none = refl
no-label a name (Pure p) none = by (tetra_address p == a) none
  where
    by : (b : Bool) → (b || false) ≡ false → cond {A = List Label} b (record { name = name; address = p } ∷ []) [] ≡ []
    by true h = absurd (cc)
    by false h = refl

no-labels : (a : ℕ) (symbols : List Symbol) → has (tetras_in symbols) a ≡ false → labels_at a symbols ≡ []
no-labels a [] none = refl
no-labels a (s ∷ symbols) none =
    let parts = neither (has (value_tetra s.value) a) (has (tetras_in symbols) a) (sym (has-append (value_tetra s.value) (tetras_in symbols) a) ∙ none) in
    (λ i. no-label a s.name s.value parts.0 i ++ no-labels a symbols parts.1 i)

nothing-has : (a : ℕ) (b : Bool) → (has [] a || b) ≡ b
unfolding has
nothing-has a b = refl

none-at : (a : ℕ) (symbols : List Symbol) → has (labelled symbols) a ≡ false → labels_at a symbols ≡ []
none-at a symbols none = no-labels a symbols (sym (has-all [] (tetras_in symbols) a ∙ nothing-has a (has (tetras_in symbols) a)) ∙ none)

pub none-found : (a : ℕ) (symbols : List Symbol) (addresses : List ℕ) (found : Bool) (labels : List Label) → addresses ≡ labelled symbols → found ≡ has addresses a → found ≡ false → labels ≡ [] →
    labels ≡ labels_at a symbols
none-found a symbols addresses found labels is e none new =
    new ∙ sym (none-at a symbols (ap (λ l. has l a) (sym is) ∙ sym e ∙ none))

was-false : (b : Bool) → not b ≡ true → b ≡ false
was-false true h = absurd (cc)
was-false false h = refl

pub not-found : (a : ℕ) (symbols : List Symbol) (addresses : List ℕ) (found : Bool) (labels : List Label) → addresses ≡ labelled symbols → found ≡ has addresses a → not found ≡ true → labels ≡ [] →
    labels ≡ labels_at a symbols
not-found a symbols addresses found labels is e none new = none-found a symbols addresses found labels is e (was-false found none) new

pub ruleset none = (none-found, not-found)

-- ---- in turn

pub labelled-next : (symbols : List Symbol) (i : ℕ) (s : Symbol) (old new : List ℕ) → i < length symbols → s ≡ get_or symbols i s → old ≡ labelled (take i symbols) →
    new ≡ with_all old (value_tetra s.value) → new ≡ labelled (take (i + 1) symbols)
labelled-next symbols i s old new inside item was made =
    made ∙ ap (λ l. with_all l (value_tetra s.value)) was
    ∙ sym (with-append [] (tetras_in (take i symbols)) (value_tetra s.value))
    ∙ ap (with_all []) (sym (one-more (take i symbols)))
    ∙ ap labelled (ap (λ x. take i symbols ++ x ∷ []) item ∙ sym (take_more symbols i s inside))
  where
    one-more : (front : List Symbol) → tetras_in (front ++ s ∷ []) ≡ tetras_in front ++ value_tetra s.value
    one-more [] = append-nil (value_tetra s.value)
    one-more (x ∷ front) = ap (λ l. value_tetra x.value ++ l) (one-more front) ∙ sym (append_assoc (value_tetra x.value) (tetras_in front) (value_tetra s.value))

pub labelled-none : labelled [] ≡ []
labelled-none = with-none []
