-- Each lopcode by its code byte.
use Rattle.std.proofs.Common.{◌≡◌, ℕ, ◌/◌, ◌%◌, ◌^◌, arith, Some, ◌==◌}
use Rattle.mx_mmo.proofs.Words.{lop_of, Lop, Quote, Fixo, Fixr, Fixrx, End, nat_tests}
use Rattle.mx_mmo.specs.declared.lops.Lop.TheVariants.{Loc, Skip, File, Line, Spec, Pre, Post, Stab}

abbrev pub code_of : Lop → ℕ
code_of Quote = 0
code_of Loc = 1
code_of Skip = 2
code_of Fixo = 3
code_of Fixr = 4
code_of Fixrx = 5
code_of File = 6
code_of Line = 7
code_of Spec = 8
code_of Pre = 9
code_of Post = 10
code_of Stab = 11
code_of End = 12

pub lop-code : (code : ℕ) (lop : Lop) → lop_of code ≡ Some lop → code ≡ code_of lop
lop-code code lop e = grind (arith, nat_tests)
