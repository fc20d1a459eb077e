-- The operands by the one shape of a code.
use Rattle.std.proofs.Common.{◌≡◌, ℕ, List, [], ◌∷◌, ◌++◌, slice_index_or, ap, sym, OnOk, Result, ◌⊎◌, inl, inr, ◌∙◌}
use Rattle.mx_text.proofs.Words.{shapes_of, Shape, Free, field_code, operands, operands_text, shown_operands, Operand}
use Rattle.mx_word.specs.declared.no_memory.NoMemory.{NoMemory}

pub by-shape : (word pc code : ℕ) (s : Shape) → code ≡ field_code word → shapes_of code ≡ s ∷ [] → shown_operands word pc ≡ operands s word pc
unfolding shown_operands
by-shape word pc code s same is = ap (λ l. operands (slice_index_or l 0 Free) word pc) (rw same at is)

-- what was added is what is shown
pub shown-added : (result : Result (Unit {0}) NoMemory) (new old : List ℕ) (list : List Operand) (word pc code : ℕ) (s : Shape) →
    OnOk result (new ≡ old ++ operands_text list) → code ≡ field_code word → shapes_of code ≡ s ∷ [] → list ≡ operands s word pc →
    OnOk result (new ≡ old ++ operands_text (shown_operands word pc))
shown-added result new old list word pc code s added same is all =
    let shown : shown_operands word pc ≡ list = by-shape word pc code s same is ∙ sym all in
    rw shown added

-- the same where two shapes are shown alike
pub shown-either : (result : Result (Unit {0}) NoMemory) (new old : List ℕ) (list : List Operand) (word pc code : ℕ) (one s t : Shape) →
    OnOk result (new ≡ old ++ operands_text list) → code ≡ field_code word → shapes_of code ≡ one ∷ [] → (one ≡ s) ⊎ (one ≡ t) →
    list ≡ operands s word pc → operands s word pc ≡ operands t word pc →
    OnOk result (new ≡ old ++ operands_text (shown_operands word pc))
shown-either result new old list word pc code one s t added same is (inl h) all alike =
    shown-added result new old list word pc code s added same (is ∙ ap (λ o. o ∷ []) h) all
shown-either result new old list word pc code one s t added same is (inr h) all alike =
    shown-added result new old list word pc code t added same (is ∙ ap (λ o. o ∷ []) h) (all ∙ alike)
