use Rattle.std.proofs.Common.{◌≡◌, true, false, nat_lt, refl, arith}
use Rattle.std.proofs.lemmas.Bool.Decides.{nat_tests}
use Rattle.mx_code.specs.Instructions.{xyz_of}
use Rattle.mx_core.specs.Kept.{state_of}
use Rattle.mx_core.proofs.Results.Others.{sync_outcome_is}
use Rattle.mx_core.proofs.machine.Machine.synchronize.Goals as goal

pub returns-then-xyz-gt3 : goal.returns-then-xyz-gt3
returns-then-xyz-gt3 c =
    let low : nat_lt 7 (xyz_of c.args.i.now) ≡ false = grind (arith, nat_tests, c.xyz-xyz.ensures.value, c.if-xyz-gt7.false) in
    let high : nat_lt 3 (xyz_of c.args.i.now) ≡ true = grind (arith, nat_tests, c.xyz-xyz.ensures.value, c.if-xyz-gt3.true) in
    rw (sync_outcome_is (state_of c.args.self.now) c.args.i.now, low, high) refl

pub returns : goal.returns
returns c =
    let low : nat_lt 7 (xyz_of c.args.i.now) ≡ false = grind (arith, nat_tests, c.xyz-xyz.ensures.value, c.if-xyz-gt7.false) in
    let high : nat_lt 3 (xyz_of c.args.i.now) ≡ false = grind (arith, nat_tests, c.xyz-xyz.ensures.value, c.if-xyz-gt3.false) in
    rw (sync_outcome_is (state_of c.args.self.now) c.args.i.now, low, high, c.go_to.ensures, c.next.ensures) refl
