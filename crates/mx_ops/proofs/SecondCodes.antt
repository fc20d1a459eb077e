-- The kinds of the codes, by computing.
use Rattle.std.proofs.Common.{◌≡◌, ℕ, ◌%◌, ◌<◌, Bool, false, get_or, ◌&&◌, ◌||◌, nat_le, eqb, map, refl, sym, ◌∙◌, ap, arith}
use Rattle.std.proofs.lemmas.List.FromFn.{get_or-map-range_with_len}
use Rattle.std.specs.List.{range_with_len}
use Rattle.mx_ops.specs.Opcodes.{opcode_rows, opcode_kinds, opcode_kind, is_immediate, is_backward}

abbrev pub in_immediate_rows : ℕ → Bool
in_immediate_rows code = (nat_le 0x08 code && nat_le code 0x0f) || (nat_le 0x18 code && nat_le code 0x3f) || (nat_le 0x60 code && nat_le code 0xdf) || (nat_le 0xf6 code && nat_le code 0xf7)

abbrev pub in_backward_rows : ℕ → Bool
in_backward_rows code = (nat_le 0x40 code && nat_le code 0x5f) || (nat_le 0xf0 code && nat_le code 0xf5)

all-immediate : map (λ code. is_immediate (opcode_kind code)) (range_with_len 0 256) ≡ map (λ code. eqb (code % 2) 1 && in_immediate_rows code) (range_with_len 0 256)
unfolding opcode_kind opcode_kinds opcode_rows
all-immediate = refl

all-backward : map (λ code. is_backward (opcode_kind code)) (range_with_len 0 256) ≡ map (λ code. eqb (code % 2) 1 && in_backward_rows code) (range_with_len 0 256)
unfolding opcode_kind opcode_kinds opcode_rows
all-backward = refl

-- functions that agree on all codes agree on each
pub each : {A : Type 0} (d : A) (f g : ℕ → A) → map f (range_with_len 0 256) ≡ map g (range_with_len 0 256) → (code : ℕ) → code < 256 → f code ≡ g code
each d f g same code below =
    sym (get_or-map-range_with_len f 0 256 code code d below (omega arith))
    ∙ ap (λ l. get_or l code d) same
    ∙ get_or-map-range_with_len g 0 256 code code d below (omega arith)

pub immediate-known : (code : ℕ) → code < 256 → is_immediate (opcode_kind code) ≡ (eqb (code % 2) 1 && in_immediate_rows code)
immediate-known = each false _ _ all-immediate

pub backward-known : (code : ℕ) → code < 256 → is_backward (opcode_kind code) ≡ (eqb (code % 2) 1 && in_backward_rows code)
backward-known = each false _ _ all-backward

pub ruleset immediates = (immediate-known)

pub ruleset backwards = (backward-known)
