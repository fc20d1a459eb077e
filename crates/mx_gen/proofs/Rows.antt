-- Worked rows: a line, its operands as they are read, and the bytes that they give.
use Rattle.std.proofs.Common.{◌≡◌, ℕ, List, [], ◌∷◌, codes, None, Ok, Err, refl}
use Rattle.mx_gen.proofs.ShownWords.{digits, Register, Tree, number, unary, reading, steps, opcode_rows, opcode_names, opcode_name, opcode_kinds, opcode_kind, shape_spans, shapes_of, Code, Placed, Answer, no_targets, encoding, hex_digits, shown_operands, operands_text, shown_line}
use Rattle.mx_names.specs.Names.{start}
use Rattle.mx_stmt.specs.declared.placed.Effect.TheVariants.{Plain}
use Rattle.mx_stmt.specs.declared.faults.StmtFault.TheVariants.{TooFar}

-- what a statement at a place comes to, with no symbols and no allocated register
abbrev encoded : ℕ → ℕ → List Tree → Answer Placed
encoded at code operands = encoding no_targets (record { names = start; at = at; gregs = [] }) (record { line = 1; label = None; op = Code code; operands = operands })

abbrev bytes_at : ℕ → List ℕ → ℕ → Answer Placed
bytes_at at bytes next = Ok (record { start = at; bytes = bytes; waits = []; label = None; effect = Plain; after = next })

-- a backward branch
branch-line : shown_line 0x4105ffff 0x100 ≡ codes " BN $5,#00000000000000fc"
unfolding opcode_name opcode_names opcode_rows opcode_kind opcode_kinds shapes_of shape_spans shown_operands operands_text hex_digits digits
branch-line = refl

branch-read : reading (codes "$5,#00000000000000fc") ≡ Ok (unary Register (number 5) ∷ number 0xfc ∷ [])
unfolding steps
branch-read = refl

branch-bytes : encoded 0x100 0x40 (unary Register (number 5) ∷ number 0xfc ∷ []) ≡ bytes_at 0x100 (0x41 ∷ 0x05 ∷ 0xff ∷ 0xff ∷ []) 0x104
unfolding shapes_of shape_spans
branch-bytes = refl

-- a Y that is not shown
put-line : shown_line 0xf7050709 0x100 ≡ codes " PUT 5,9"
unfolding opcode_name opcode_names opcode_rows opcode_kind opcode_kinds shapes_of shape_spans shown_operands operands_text hex_digits digits
put-line = refl

put-bytes : encoded 0x100 0xf6 (number 5 ∷ number 9 ∷ []) ≡ bytes_at 0x100 (0xf7 ∷ 0x05 ∷ 0x00 ∷ 0x09 ∷ []) 0x104
unfolding shapes_of shape_spans
put-bytes = refl

-- a backward target that has wrapped round 2^64
wrapped-line : shown_line 0xf1ffffff 0 ≡ codes " JMP #fffffffffffffffc"
unfolding opcode_name opcode_names opcode_rows opcode_kind opcode_kinds shapes_of shape_spans shown_operands operands_text hex_digits digits
wrapped-line = refl

wrapped-refused : encoded 0 0xf0 (number 0xffff_ffff_ffff_fffc ∷ []) ≡ Err TooFar
unfolding shapes_of shape_spans
wrapped-refused = refl
