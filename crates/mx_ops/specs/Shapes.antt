-- The shapes of operands.
-- (MMIXware, the part on MMIXAL: the operands of instructions; TAOCP 1, Fascicle 1, section 1.3.2'.)
use Rattle.std.specs.Prelude.{ℕ, ◌&&◌, nat_le, List, [], ◌∷◌, if◌then◌else◌}
use Rattle.mx_ops.specs.declared.op.Shape.{Shape}
use Rattle.mx_ops.specs.declared.op.Shape.TheVariants.{Three, Regs, Round, Neg, Rel, Mem, MemPure, Wyde, Jump, Put, Get, Pop, One, Save, Unsave, Free}

-- codes from a first to a last one, and their shape
pub record Span : Type 0 where
  pub first : ℕ
  pub last : ℕ
  pub shape : Shape

abbrev pub span : ℕ → ℕ → Shape → Span
span first last shape = record { first = first; last = last; shape = shape }

-- the shapes of all codes, by spans
unfoldable pub shape_spans : List Span
shape_spans =
    span 0x18 0x33 Three ∷ span 0x38 0x3f Three ∷ span 0x60 0x7f Three ∷ span 0xc0 0xdf Three
    ∷ span 0x01 0x04 Regs ∷ span 0x06 0x06 Regs ∷ span 0x10 0x14 Regs ∷ span 0x16 0x16 Regs
    ∷ span 0x05 0x05 Round ∷ span 0x07 0x07 Round ∷ span 0x15 0x15 Round ∷ span 0x17 0x17 Round ∷ span 0x08 0x0f Round
    ∷ span 0x34 0x37 Neg
    ∷ span 0x40 0x5f Rel ∷ span 0xf2 0xf5 Rel
    ∷ span 0x80 0x99 Mem ∷ span 0x9e 0x9f Mem ∷ span 0xa0 0xb3 Mem ∷ span 0xb6 0xb7 Mem ∷ span 0xbe 0xbf Mem
    ∷ span 0x9a 0x9d MemPure ∷ span 0xb4 0xb5 MemPure ∷ span 0xb8 0xbd MemPure
    ∷ span 0xe0 0xef Wyde
    ∷ span 0xf0 0xf1 Jump
    ∷ span 0xf6 0xf7 Put
    ∷ span 0xfe 0xfe Get
    ∷ span 0xf8 0xf8 Pop
    ∷ span 0xf9 0xf9 One ∷ span 0xfc 0xfc One
    ∷ span 0xfa 0xfa Save
    ∷ span 0xfb 0xfb Unsave
    ∷ span 0x00 0x00 Free ∷ span 0xfd 0xfd Free ∷ span 0xff 0xff Free
    ∷ []

-- the shapes of the spans that hold a code
abbrev pub shapes_in : List Span → ℕ → List Shape
shapes_in [] code = []
shapes_in (s ∷ spans) code = if nat_le s.first code && nat_le code s.last then s.shape ∷ shapes_in spans code else shapes_in spans code

-- the shapes that the table gives a code
unfoldable pub shapes_of : ℕ → List Shape
shapes_of code = shapes_in shape_spans code
