-- Frames: what SAVE hides and UNSAVE reads back (MMIXware, the part on MMIX, SAVE and UNSAVE).
use Rattle.std.specs.Prelude.{ℕ, ◌+◌, ◌-◌, ◌*◌, ◌/◌, ◌%◌, ◌^◌, ◌||◌, Bool, nat_lt, List, [], ◌∷◌, ◌++◌, length, take, drop, slice_index}
use Rattle.mx_registers.specs.Registers.{Registers}
use Rattle.mx_ring.specs.declared.saved.Saved.{Saved}

-- how many octas a frame has: L locals, the number L, $G to $255, twelve special registers, and one with G and rA
abbrev pub frame_length : ℕ → ℕ → ℕ
frame_length g l = l + 270 - g

-- the special registers in the order in which they are saved
abbrev pub saved_specials : Saved → List ℕ
saved_specials s = s.b ∷ s.d ∷ s.e ∷ s.h ∷ s.j ∷ s.m ∷ s.r ∷ s.p ∷ s.w ∷ s.x ∷ s.y ∷ s.z ∷ []

-- the octas of a frame, the oldest first
abbrev pub frame : Registers → Saved → List ℕ
frame v s = v.locals ++ length v.locals ∷ v.globals ++ saved_specials s ++ (2 ^ 56 * v.first_global + s.a) ∷ []

-- READING A FRAME, from the octa at index i downwards

-- the octa n places below the one at index i
abbrev pub octa_below : List ℕ → ℕ → ℕ → ℕ
octa_below octas i n = slice_index octas (i - n)

-- G in the frame: the high byte of its last octa
abbrev pub frame_global : List ℕ → ℕ → ℕ
frame_global octas i = octa_below octas i 0 / 2 ^ 56

-- the index of the octa of L in the frame, below twelve special registers and 256 - G globals
abbrev pub frame_middle : List ℕ → ℕ → ℕ
frame_middle octas i = i - (269 - frame_global octas i)

-- L in the frame: a low byte
abbrev pub frame_locals : List ℕ → ℕ → ℕ
frame_locals octas i = slice_index octas (frame_middle octas i) % 256

-- the index of the frame's first octa
abbrev pub frame_bottom : List ℕ → ℕ → ℕ
frame_bottom octas i = frame_middle octas i - frame_locals octas i

-- whether there is no frame to read: G is below 32, or the frame reaches below the first octa
unfoldable pub is_bad_frame : List ℕ → ℕ → Bool
is_bad_frame octas i =
    nat_lt (frame_global octas i) 32 || nat_lt (i + 1) (frame_length (frame_global octas i) (frame_locals octas i))

-- the special registers of the frame; rA is the low 18 bits of its last octa
unfoldable pub frame_specials : List ℕ → ℕ → Saved
frame_specials octas i = record {
  z = octa_below octas i 1;
  y = octa_below octas i 2;
  x = octa_below octas i 3;
  w = octa_below octas i 4;
  p = octa_below octas i 5;
  r = octa_below octas i 6;
  m = octa_below octas i 7;
  j = octa_below octas i 8;
  h = octa_below octas i 9;
  e = octa_below octas i 10;
  d = octa_below octas i 11;
  b = octa_below octas i 12;
  a = octa_below octas i 0 % 2 ^ 18;
}

-- registers with G = g, the globals above the octa of L and the l locals below it, of which at most g become local
abbrev pub registers_around : List ℕ → ℕ → ℕ → ℕ → Registers
registers_around octas g l middle = record {
  locals = take g (take l (drop (middle - l) octas));
  first_global = g;
  globals = take (256 - g) (drop (middle + 1) octas);
}

-- the registers of the frame
abbrev pub frame_registers : List ℕ → ℕ → Registers
frame_registers octas i = registers_around octas (frame_global octas i) (frame_locals octas i) (frame_middle octas i)
