-- The words that the proofs of this crate cite, passed on from one place. Declares nothing.
pub use Rattle.std.proofs.Math.Nat.{add-mul, div-eq_of_lt, lt_of_le_of_lt, mul-suc, mul-zero, mul_assoc, pow-le-pow_right}
pub use Rattle.std.proofs.lemmas.Bool.Decides.{nat_tests}
pub use Rattle.std.proofs.lemmas.Int.{fits_signed_mul, ints, to_z-of_z, unsigned_abs-mul}
pub use Rattle.std.proofs.lemmas.Nat.{and_block, and_le_l, and_mask, mod-pow-add, mod_below, mul-add-lt, mul-le, ones_cat, or_block, or_comm, or_lt, or_shifted, pow-add, pow_pos, shl_whole, shr-shr, shr_le, shr_split, xor_block, xor_lt}
pub use Rattle.std.proofs.lemmas.Nat.Bits.{bit_at-lt, bit_at_and, bit_at_cat_low, bit_at_not, bit_at_or, bit_at_xor, ones_shr}
pub use Rattle.std.specs.Int.{bit_at, int_div_euclid, w64}
pub use Rattle.mx_word.specs.Words.{signed_value}
pub use Rattle.mx_alu.specs.Bitwise.{IsFieldWidth, each_bit, exactly_one}
pub use Rattle.mx_alu.specs.Numbers.{bit, field, floor_by, floor_quotient, is_signed, octa, of_bits}
unfoldable pub use Rattle.mx_alu.specs.Numbers.{combination, count_of, fields}
pub use Rattle.mx_alu.specs.declared.names.Arithmetic.TheVariants.{Mul}
pub use Rattle.mx_alu.specs.declared.names.Bitwise.TheVariants.{Or}
pub use Rattle.mx_alu.specs.declared.names.Condition.TheVariants.{Negative}
pub use Rattle.mx_alu.specs.declared.names.TheConstants.{ARITHMETIC, BITWISE, CONDITIONS, WYDES}
pub use Rattle.mx_alu.specs.declared.names.Wyde.TheVariants.{Set}
