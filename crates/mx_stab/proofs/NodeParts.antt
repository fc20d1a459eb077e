-- A node is read piece by piece.
use Rattle.std.proofs.Common.{◌≡◌, ℕ, ◌+◌, ◌%◌, ◌==◌, Bool, true, false, ◌&&◌, ◌||◌, not, List, [], ◌∷◌, ◌++◌, length, arith, refl, ap, ◌∙◌, inl, inr, append_assoc, length-append, nat_lt, rules}
use Rattle.mx_stab.proofs.Words.{cond-false, eqb-true, eqb-false, le-ltb, Symbol, HasCharacter, IsWideBare, UpToCharacter, UpToLeft, UpToSymbol, flag, Reading, Answer, and_then, part_if, symbol, has, has_character, is_wide_bare, character_part, with_character, node_rest, next_subtrie}
use Rattle.mx_stab.specs.Reading as reading
use Rattle.mx_stab.proofs.Parts.{next-node}
use Rattle.mx_stab.proofs.Whole.{tells-symbol, character-is, tells-subtrie}

none-or : (a b : Bool) → (a ≡ false → ⊥) → (b ≡ true → ⊥) → (not a || b) ≡ false
none-or a b h1 h2 = search rules

pub character-there : (m : ℕ) → HasCharacter m → has_character m ≡ true
character-there m h1 = search rules

pub character-none : (m : ℕ) → ¬ HasCharacter m → has_character m ≡ false
character-none m h = none-or (m % 16 == 0) (has 0x20 m) (λ e. h (inl (eqb-false (m % 16) 0 e))) (λ e. h (inr (eqb-true (flag 0x20 m) 1 e)))

pub has-one : (m : ℕ) → has_character m ≡ true → HasCharacter m
has-one m h1 = search rules

pub has-none : (m : ℕ) → has_character m ≡ false → ¬ HasCharacter m
has-none m h k = let there = character-there m k in cc (h, there)

pub wide-bare : (m : ℕ) → IsWideBare m → is_wide_bare m ≡ true
wide-bare m h = ap (λ n. n == 1 && not (has_character m)) h.0 ∙ ap not (character-none m h.1)

pub not-bare : (m : ℕ) → ¬ IsWideBare m → is_wide_bare m ≡ false
not-bare m h1 = search rules

pub is-bare : (m : ℕ) → is_wide_bare m ≡ true → IsWideBare m
is-bare m h1 = search rules

pub is-no-bare : (m : ℕ) → is_wide_bare m ≡ false → ¬ IsWideBare m
is-no-bare m h k = let bare = wide-bare m k in cc (h, bare)

-- a part that is there
pub there : {n : ℕ} (part : Reading → Answer) (s : Reading) → n ≡ 1 → part_if (n == 1) part s ≡ part s
there part s e = ap (λ n. part_if (n == 1) part s) e

-- after the left subtrie of a node
pub after-left : {path : List ℕ} {before : List Symbol} {m : ℕ} {bytes : List ℕ} {found : List Symbol} → UpToLeft path before m bytes found → (at : ℕ) (rest : List ℕ) →
    next_subtrie path (record { at = at; rest = bytes ++ rest; found = before }) ≡ node_rest next_subtrie at m path (record { at = at + length bytes; rest = rest; found = found })
after-left (UpToLeft.left path before m left symbols narrow h distinct) at rest =
    next-node path at before (m ∷ left ++ rest) ∙ cond-false (is_wide_bare m) _ _ (not-bare m narrow)
    ∙ ap (and_then (node_rest next_subtrie at m path)) (tells-subtrie h (record { at = at + 1; rest = left ++ rest; found = before }) rest refl distinct)
    ∙ ap (λ place. node_rest next_subtrie at m path (record { at = place; rest = rest; found = before ++ symbols })) (omega arith)

-- after its character
pub following-character : {path : List ℕ} {before : List Symbol} {m : ℕ} {bytes name : List ℕ} {found : List Symbol} → UpToCharacter path before m bytes name found → (at : ℕ) (rest : List ℕ) →
    next_subtrie path (record { at = at; rest = bytes ++ rest; found = before }) ≡ and_then (part_if (has 0x10 m) (next_subtrie path))
    (and_then (part_if (has 0x20 m) (next_subtrie name)) (symbol (m % 16) at name (record { at = at + length bytes; rest = rest; found = found })))
following-character (UpToCharacter.character path before m front found name character h some spelt short) at rest =
    let s : Reading = record { at = at + length front; rest = character ++ rest; found = found } in
    ap (λ bytes. next_subtrie path (record { at = at; rest = bytes; found = before })) (append_assoc front character rest)
    ∙ after-left h at (character ++ rest)
    ∙ ap (and_then (part_if (has 0x10 m) (next_subtrie path)))
    (ap (λ b. part_if b (reading.character next_subtrie at m path) s) (character-there m some)
    ∙ ap (with_character (character_part next_subtrie at m path)) (character-is spelt at m s rest (omega arith) refl)
    ∙ cond-false (nat_lt 1024 (length (path ++ name))) _ _ (le-ltb 1024 (length (path ++ name)) short)
    ∙ ap (λ place. and_then (part_if (has 0x20 m) (next_subtrie (path ++ name))) (symbol (m % 16) at (path ++ name) (record { at = place; rest = rest; found = found }))) (omega (arith, length-append front character)))

-- after its symbol
pub following-symbol : {path : List ℕ} {before : List Symbol} {m : ℕ} {bytes name : List ℕ} {found : List Symbol} → UpToSymbol path before m bytes name found → (at : ℕ) (rest : List ℕ) →
    next_subtrie path (record { at = at; rest = bytes ++ rest; found = before }) ≡ and_then (part_if (has 0x10 m) (next_subtrie path))
    (part_if (has 0x20 m) (next_subtrie name) (record { at = at + length bytes; rest = rest; found = found }))
following-symbol (UpToSymbol.none path before m bytes name found h no-name) at rest =
    following-character h at rest
    ∙ ap (λ k. and_then (part_if (has 0x10 m) (next_subtrie path)) (and_then (part_if (has 0x20 m) (next_subtrie name)) (symbol k at name (record { at = at + length bytes; rest = rest; found = found })))) no-name
following-symbol (UpToSymbol.symbol path before m front name found value serial told counted h hv hs distinct) at rest =
    let own : Symbol = record { name = name; value = value; serial = serial } in
    ap (λ bytes. next_subtrie path (record { at = at; rest = bytes; found = before })) (in-line front told counted rest)
    ∙ following-character h at ((told ++ counted) ++ rest)
    ∙ ap (λ a. and_then (part_if (has 0x10 m) (next_subtrie path)) (and_then (part_if (has 0x20 m) (next_subtrie name)) a))
    (tells-symbol (m % 16) serial at name value told counted hv hs (record { at = at + length front; rest = (told ++ counted) ++ rest; found = found }) rest refl distinct)
    ∙ ap (λ place. and_then (part_if (has 0x10 m) (next_subtrie path)) (part_if (has 0x20 m) (next_subtrie name) (record { at = place; rest = rest; found = found ++ own ∷ [] })))
    (omega (arith, length-append (front ++ told) counted, length-append front told, length-append told counted))
  where
    in-line : (front told counted rest : List ℕ) → front ++ told ++ counted ++ rest ≡ front ++ ((told ++ counted) ++ rest)
    in-line front told counted rest = simp append_assoc
