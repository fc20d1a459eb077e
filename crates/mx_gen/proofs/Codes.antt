-- The shapes and kinds of the codes, by computing.
use Rattle.std.proofs.Common.{◌≡◌, ℕ, ◌+◌, ◌<◌, ◌≤◌, length, List, Bool, true, false, not, ◌&&◌, ◌||◌, cond, [], ◌∷◌, map, refl, ◌⊎◌, nat_lt, nat_le, rules}
use Rattle.mx_gen.proofs.ShownWords.{list_all, range_with_len, opcode_rows, opcode_names, opcode_name, opcode_kinds, opcode_kind, is_immediate, is_backward, shape_spans, shapes_of, Shape, Three, Regs, Round, Neg, Rel, Mem, MemPure, Wyde, Jump, Put, Get, Pop, One, Save, Unsave, Free, takes_byte, shape, lowest_code}
use Rattle.mx_word.specs.Kinds.{is_name_byte}
use Rattle.mx_ops.proofs.SecondCodes.{each}

-- whether a shape may be that of a code of this name: an immediate one, or one for a backward address
abbrev pub fits : Shape → Bool → Bool → Bool
fits Three immediate backward = not backward
fits Round immediate backward = not backward
fits Neg immediate backward = not backward
fits Mem immediate backward = not backward
fits MemPure immediate backward = not backward
fits Put immediate backward = not backward
fits Rel immediate backward = not immediate
fits Jump immediate backward = not immediate
fits Regs immediate backward = not immediate && not backward
fits Wyde immediate backward = not immediate && not backward
fits Get immediate backward = not immediate && not backward
fits Pop immediate backward = not immediate && not backward
fits One immediate backward = not immediate && not backward
fits Save immediate backward = not immediate && not backward
fits Unsave immediate backward = not immediate && not backward
fits Free immediate backward = not immediate && not backward

-- whether the operands of a shape have a relative address
abbrev pub is_relative : Shape → Bool
is_relative Rel = true
is_relative Jump = true
is_relative shape = false

pub by-relative : (s : Shape) → (is_relative s ≡ false) ⊎ ((s ≡ Rel) ⊎ (s ≡ Jump))
by-relative s = search rules

-- whether the rounding mode of the lowest code goes before a byte, where the code is immediate
abbrev pub rounds_byte : Shape → Bool → ℕ → Bool
rounds_byte Round immediate low = not immediate || takes_byte low
rounds_byte shape immediate low = true

all-one : map (λ code. shapes_of (lowest_code code)) (range_with_len 0 256) ≡ map (λ code. shape code ∷ []) (range_with_len 0 256)
unfolding shapes_of shape_spans opcode_kind opcode_kinds opcode_rows
all-one = refl

all-fit : map (λ code. fits (shape code) (is_immediate (opcode_kind code)) (is_backward (opcode_kind code))) (range_with_len 0 256) ≡ map (λ code. true) (range_with_len 0 256)
unfolding shapes_of shape_spans opcode_kind opcode_kinds opcode_rows
all-fit = refl

all-round : map (λ code. rounds_byte (shape code) (is_immediate (opcode_kind code)) (lowest_code code)) (range_with_len 0 256) ≡ map (λ code. true) (range_with_len 0 256)
unfolding shapes_of shape_spans opcode_kind opcode_kinds opcode_rows
all-round = refl

all-again : map (λ code. cond (is_immediate (opcode_kind code) || is_backward (opcode_kind code)) (lowest_code code + 1) (lowest_code code)) (range_with_len 0 256) ≡ map (λ code. code) (range_with_len 0 256)
unfolding opcode_kind opcode_kinds opcode_rows
all-again = refl

abbrev is_name : List ℕ → Bool
is_name name = list_all is_name_byte name && nat_lt 0 (length name) && nat_le (length name) 10

all-named : map (λ code. is_name (opcode_name code)) (range_with_len 0 256) ≡ map (λ code. true) (range_with_len 0 256)
unfolding opcode_name opcode_names opcode_rows
all-named = refl

-- A name has letters and digits, one or more.
pub record IsName (name : List ℕ) : Type 0 where
  pub bytes : list_all is_name_byte name ≡ true
  pub some : 0 < length name
  pub few : length name ≤ 10

by-tests : (name : List ℕ) → is_name name ≡ true → IsName name
by-tests name is = search rules

pub code-named : (code : ℕ) → code < 256 → IsName (opcode_name code)
code-named code below = by-tests (opcode_name code) (each true (λ code. is_name (opcode_name code)) (λ code. true) all-named code below)

-- The lowest code with the name of a code has the same shape, and no other one.
pub one-shape : (code : ℕ) → code < 256 → shapes_of (lowest_code code) ≡ shape code ∷ []
one-shape = each [] _ _ all-one

pub shape-fits : (code : ℕ) → code < 256 → fits (shape code) (is_immediate (opcode_kind code)) (is_backward (opcode_kind code)) ≡ true
shape-fits = each true _ _ all-fit

pub byte-rounds : (code : ℕ) → code < 256 → rounds_byte (shape code) (is_immediate (opcode_kind code)) (lowest_code code) ≡ true
byte-rounds = each true _ _ all-round

-- A second code is the next one.
pub second-next : (code : ℕ) → code < 256 → cond (is_immediate (opcode_kind code) || is_backward (opcode_kind code)) (lowest_code code + 1) (lowest_code code) ≡ code
second-next = each 0 _ _ all-again
