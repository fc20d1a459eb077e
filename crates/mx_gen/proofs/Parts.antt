-- The parts of a tetra, and the tetra of its parts.
use Rattle.std.proofs.Common.{◌≡◌, ℕ, ◌^◌, ◌<◌, arith}
use Rattle.mx_gen.proofs.ShownWords.{tetra_whole, field_code, field_y, field_z, field_yz, field_xyz}

pub code-below : (word : ℕ) → word < 2 ^ 32 → field_code word < 256
code-below word lt = omega arith

pub y-below : (word : ℕ) → field_y word < 256
y-below word = omega arith

pub z-below : (word : ℕ) → field_z word < 256
z-below word = omega arith

pub yz-below : (word : ℕ) → field_yz word < 2 ^ 16
yz-below word = omega arith

pub xyz-below : (word : ℕ) → field_xyz word < 2 ^ 24
xyz-below word = omega arith

pub one-number : (word : ℕ) → tetra_whole (field_code word) (field_xyz word) ≡ word
one-number word = omega arith
