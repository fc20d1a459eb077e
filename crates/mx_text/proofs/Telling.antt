-- The text of an instruction tells the instruction.
use Rattle.std.proofs.Common.{◌≡◌, ℕ, ◌<◌, ◌+◌, ◌-◌, ◌*◌, ◌%◌, ◌^◌, Bool, true, false, not, ◌||◌, nat_le, cond, List, [], ◌∷◌, ◌++◌, map, refl, sym, ◌∙◌, ap, arith, Some, slice_index_or, append_assoc, length}
use Rattle.mx_text.proofs.Words.{range_with_len, mod-lt, nat_tests, opcode_rows, opcode_kinds, opcode_kind, opcode_names, opcode_name, operation_of, is_immediate, is_backward, shape_spans, shapes_of, Code, Shape, Regs, Rel, Wyde, Jump, Put, Get, Pop, One, Save, Unsave, Free, field_code, field_x, field_y, field_z, shape, operands, shown_operands, operand_text, operands_text, instruction_text, lowest_code, hides_y, shown_part, Operand, Register, Number}
use Rattle.mx_ops.proofs.SecondCodes.{each}
use Rattle.mx_text.proofs.LowestCodes.{name-found}
use Rattle.mx_text.proofs.Parts.{lacks, cut-first, same-parts}
use Rattle.mx_text.proofs.OperandTexts.{IsShown, AreShown, texts-lack, same-operands}
use Rattle.mx_text.proofs.TellingFields.{Told, KindFits, ends_in_z, ends_in_address, told}

-- what computes over all codes
all-shapes : map (λ c. shapes_of c) (range_with_len 0 256) ≡ map (λ c. shapes_of (lowest_code c)) (range_with_len 0 256)
unfolding shapes_of shape_spans opcode_kind opcode_kinds opcode_rows
all-shapes = refl

shapes-known : (c : ℕ) → c < 256 → shapes_of c ≡ shapes_of (lowest_code c)
shapes-known = each [] _ _ all-shapes

all-blanks : map (λ c. lacks 32 (opcode_name c)) (range_with_len 0 256) ≡ map (λ c. true) (range_with_len 0 256)
unfolding opcode_name opcode_names opcode_rows
all-blanks = refl

no-blank : (c : ℕ) → c < 256 → lacks 32 (opcode_name c) ≡ true
no-blank = each false _ _ all-blanks

all-seconds : map (λ c. not (is_immediate (opcode_kind c) || is_backward (opcode_kind c)) || nat_le 1 c) (range_with_len 0 256) ≡ map (λ c. true) (range_with_len 0 256)
unfolding opcode_kind opcode_kinds opcode_rows
all-seconds = refl

second-known : (c : ℕ) → c < 256 → (not (is_immediate (opcode_kind c) || is_backward (opcode_kind c)) || nat_le 1 c) ≡ true
second-known = each false _ _ all-seconds

all-ends : map (λ c. ends_in_z (shape c) || not (is_immediate (opcode_kind c))) (range_with_len 0 256) ≡ map (λ c. true) (range_with_len 0 256)
unfolding shapes_of shape_spans opcode_kind opcode_kinds opcode_rows
all-ends = refl

end-known : (c : ℕ) → c < 256 → (ends_in_z (shape c) || not (is_immediate (opcode_kind c))) ≡ true
end-known = each false _ _ all-ends

all-addresses : map (λ c. ends_in_address (shape c) || not (is_backward (opcode_kind c))) (range_with_len 0 256) ≡ map (λ c. true) (range_with_len 0 256)
unfolding shapes_of shape_spans opcode_kind opcode_kinds opcode_rows
all-addresses = refl

address-known : (c : ℕ) → c < 256 → (ends_in_address (shape c) || not (is_backward (opcode_kind c))) ≡ true
address-known = each false _ _ all-addresses

fits : (s : Shape) (w : ℕ) → field_code w < 256 → shape (field_code w) ≡ s → KindFits s w
fits s w lt is =
    record {
      z = ap (λ t. ends_in_z t || not (is_immediate (opcode_kind (field_code w)))) (sym is) ∙ end-known (field_code w) lt;
      address = ap (λ t. ends_in_address t || not (is_backward (opcode_kind (field_code w)))) (sym is) ∙ address-known (field_code w) lt;
    }

-- the same name is the same lowest code, and the same shape
same-lowest : (c d : ℕ) → c < 256 → d < 256 → opcode_name c ≡ opcode_name d → lowest_code c ≡ lowest_code d
same-lowest c d lc ld same = codes _ _ (sym (name-found c lc) ∙ ap operation_of same ∙ name-found d ld)
  where
    codes : (a b : ℕ) → Some (Code a) ≡ Some (Code b) → a ≡ b
    codes a b is = cc is

same-shape : (c d : ℕ) → c < 256 → d < 256 → lowest_code c ≡ lowest_code d → shape c ≡ shape d
same-shape c d lc ld same =
    let shapes : shapes_of c ≡ shapes_of d = shapes-known c lc ∙ ap shapes_of same ∙ sym (shapes-known d ld) in
    ap (λ l. slice_index_or l 0 Free) shapes

-- a code is its lowest one, and whether it is a second one
one-code : (c d : ℕ) (s t : Bool) → s ≡ t → (not s || nat_le 1 c) ≡ true → (not t || nat_le 1 d) ≡ true → cond s (c - 1) c ≡ cond t (d - 1) d → c ≡ d
one-code c d true true is hc hd same = grind (arith, nat_tests)
one-code c d false false is hc hd same = same
one-code c d s t is hc hd same = cc is

-- the operands have numbers below 2^64, and there is one at least
byte-below : (n : ℕ) → n % 2 ^ 8 < 2 ^ 64
byte-below n = omega (arith, mod-lt n {m = 2 ^ 8} (omega arith))

wyde-below : (n : ℕ) → n % 2 ^ 16 < 2 ^ 64
wyde-below n = omega (arith, mod-lt n {m = 2 ^ 16} (omega arith))

last-shown : (t : Bool) (z : ℕ) → z < 2 ^ 64 → IsShown (cond t (Number z) (Register z))
last-shown true z lt = lt
last-shown false z lt = lt

target-shown : (t : Bool) (m n : ℕ) → cond t (m % 2 ^ 64) (n % 2 ^ 64) < 2 ^ 64
target-shown true m n = mod-lt m (omega arith)
target-shown false m n = mod-lt n (omega arith)

all-shown : (s : Shape) (w pc : ℕ) → AreShown (operands s w pc) × (0 < length (operands s w pc))
all-shown Regs w pc = ((byte-below _, (byte-below _, (byte-below _, tt))), omega arith)
all-shown Rel w pc = ((byte-below _, (target-shown _ _ _, tt)), omega arith)
all-shown Wyde w pc = ((byte-below _, (wyde-below w, tt)), omega arith)
all-shown Jump w pc = ((target-shown _ _ _, tt), omega arith)
all-shown Put w pc = ((byte-below _, (last-shown _ _ (byte-below w), tt)), omega arith)
all-shown Get w pc = ((byte-below _, (byte-below _, tt)), omega arith)
all-shown Pop w pc = ((byte-below _, (wyde-below w, tt)), omega arith)
all-shown One w pc = (((omega (arith, mod-lt w {m = 2 ^ 24} (omega arith))), tt), omega arith)
all-shown Save w pc = ((byte-below _, (byte-below _, tt)), omega arith)
all-shown Unsave w pc = ((byte-below _, (byte-below _, tt)), omega arith)
all-shown Free w pc = ((byte-below _, (byte-below _, (byte-below _, tt))), omega arith)
all-shown s w pc = ((byte-below _, (byte-below _, (last-shown _ _ (byte-below w), tt))), omega arith)

same-lists : (os ps : List Operand) → AreShown os → AreShown ps → 0 < length os → 0 < length ps → operands_text os ≡ operands_text ps → os ≡ ps
unfolding operands_text
same-lists (o ∷ os) (p ∷ ps) so sp lo lp same =
    same-operands (o ∷ os) (p ∷ ps) so sp
    (same-parts 44 (operand_text o) (map operand_text os) (operand_text p) (map operand_text ps) (texts-lack (o ∷ os) so) (texts-lack (p ∷ ps) sp) same)
same-lists os ps so sp lo lp same = absurd (omega arith)

-- a tetra is its code and the part after it
part : (t : Bool) (w : ℕ) → cond t (w - 2 ^ 8 * field_y w) w ≡ 2 ^ 24 * field_code w + cond t (2 ^ 16 * field_x w + field_z w) (w % 2 ^ 24)
part true w = omega arith
part false w = omega arith

by-operands : (w v pc : ℕ) → w < 2 ^ 32 → v < 2 ^ 32 → pc < 2 ^ 64 → opcode_name (field_code w) ≡ opcode_name (field_code v) →
    operands_text (shown_operands w pc) ≡ operands_text (shown_operands v pc) → shown_part w ≡ shown_part v
unfolding shown_operands
by-operands w v pc lw lv lpc names texts =
    let cw : field_code w < 256 = omega (arith, lw) in
    let cv : field_code v < 256 = omega (arith, lv) in
    let lowest : lowest_code (field_code w) ≡ lowest_code (field_code v) = same-lowest _ _ cw cv names in
    let alike : shape (field_code v) ≡ shape (field_code w) = sym (same-shape _ _ cw cv lowest) in
    let sw : AreShown (operands (shape (field_code w)) w pc) × (0 < length (operands (shape (field_code w)) w pc)) = all-shown (shape (field_code w)) w pc in
    let sv : AreShown (operands (shape (field_code v)) v pc) × (0 < length (operands (shape (field_code v)) v pc)) = all-shown (shape (field_code v)) v pc in
    let lists : operands (shape (field_code w)) w pc ≡ operands (shape (field_code v)) v pc = same-lists _ _ sw.0 sv.0 sw.1 sv.1 texts in
    let says : Told (shape (field_code w)) w v =
    told (shape (field_code w)) w v pc lpc (fits _ w cw refl) (fits _ v cv alike) (lists ∙ ap (λ s. operands s v pc) alike) in
    let code : field_code w ≡ field_code v =
    one-code _ _ _ _ (cc (says.immediate, says.backward)) (second-known _ cw) (second-known _ cv) lowest in
    part (hides_y (shape (field_code w))) w
    ∙ cc (code, says.rest)
    ∙ sym (part (hides_y (shape (field_code w))) v)
    ∙ ap (λ s. cond (hides_y s) (v - 2 ^ 8 * field_y v) v) (sym alike)

pub instruction-told : (w v pc : ℕ) → w < 2 ^ 32 → v < 2 ^ 32 → pc < 2 ^ 64 → instruction_text w pc ≡ instruction_text v pc → shown_part w ≡ shown_part v
instruction-told w v pc lw lv lpc same =
    let cut : (opcode_name (field_code w) ≡ opcode_name (field_code v)) × (operands_text (shown_operands w pc) ≡ operands_text (shown_operands v pc)) =
    cut-first 32 _ _ _ _ (no-blank _ (omega (arith, lw))) (no-blank _ (omega (arith, lv)))
    (sym (append_assoc (opcode_name (field_code w)) (32 ∷ []) (operands_text (shown_operands w pc)))
    ∙ same
    ∙ append_assoc (opcode_name (field_code v)) (32 ∷ []) (operands_text (shown_operands v pc))) in
    by-operands w v pc lw lv lpc cut.0 cut.1

-- a Y that is not shown changes nothing
without : (w : ℕ) → w < 2 ^ 32 → (field_code (w - 2 ^ 8 * field_y w) ≡ field_code w) × (field_x (w - 2 ^ 8 * field_y w) ≡ field_x w) × (field_z (w - 2 ^ 8 * field_y w) ≡ field_z w)
without w lw = (omega arith, omega arith, omega arith)

alike : (s : Shape) (u w pc : ℕ) → hides_y s ≡ true → field_code u ≡ field_code w → field_x u ≡ field_x w → field_z u ≡ field_z w → operands s u pc ≡ operands s w pc
alike Put u w pc hides hc hx hz = rw (hc, hx, hz) refl
alike Get u w pc hides hc hx hz = rw (hx, hz) refl
alike Save u w pc hides hc hx hz = rw (hx, hz) refl
alike Unsave u w pc hides hc hx hz = rw (hx, hz) refl
alike s u w pc hides hc hx hz = cc hides

same-text : (t : Bool) (w pc : ℕ) → w < 2 ^ 32 → hides_y (shape (field_code w)) ≡ t → instruction_text (cond t (w - 2 ^ 8 * field_y w) w) pc ≡ instruction_text w pc
unfolding shown_operands
same-text false w pc lw hides = refl
same-text true w pc lw hides =
    let u : ℕ = w - 2 ^ 8 * field_y w in
    let same : (field_code u ≡ field_code w) × (field_x u ≡ field_x w) × (field_z u ≡ field_z w) = without w lw in
    let shown : operands (shape (field_code u)) u pc ≡ operands (shape (field_code w)) w pc =
    ap (λ c. operands (shape c) u pc) same.0 ∙ alike (shape (field_code w)) u w pc hides same.0 same.1 same.2 in
    ap (λ c. opcode_name c ++ (32 ∷ []) ++ operands_text (operands (shape (field_code u)) u pc)) same.0
    ∙ ap (λ l. opcode_name (field_code w) ++ (32 ∷ []) ++ operands_text l) shown

pub hidden-y : (w pc : ℕ) → w < 2 ^ 32 → instruction_text (shown_part w) pc ≡ instruction_text w pc
hidden-y w pc lw = same-text (hides_y (shape (field_code w))) w pc lw refl
