-- The definitions on worked rows.
use Rattle.std.proofs.Common.{◌≡◌, true, false, None, Some, refl, codes}
use Rattle.mx_warn.specs.Cells.{share_bytes}
use Rattle.mx_warn.specs.Ends.{goes_on}
use Rattle.mx_warn.specs.Locals.{back_digit}

-- two bytes of two tetras in one place, and side by side
shared : share_bytes 0x01020304 0x00ff0000 ≡ true
shared = refl

side-by-side : share_bytes 0x01000000 0x00ff0000 ≡ false
side-by-side = refl

-- SETL goes on; JMP and TRAP 0,Halt,0 do not
set : goes_on 0xe3000001 ≡ true
set = refl

jump : goes_on 0xf0000002 ≡ false
jump = refl

halt : goes_on 0 ≡ false
halt = refl

-- a local label that is looked for backward, and one that is looked for forward
last-one : back_digit (codes "1B") ≡ Some 49
last-one = refl

no-label : back_digit (codes "1F") ≡ None
no-label = refl
