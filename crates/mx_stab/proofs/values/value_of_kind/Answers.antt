use Rattle.std.proofs.Common.{length, arith}
use Rattle.mx_stab.proofs.Told.{value-fits}
use Rattle.mx_stab.proofs.values.value_of_kind.Goals as goal

pub overflow_add-result : goal.overflow_add-result
overflow_add-result c =
    let fits = value-fits c.number_of_bytes-else-kind-le8.result c.args.kind (length c.args.bytes.now) c.requires.kind c.if-kind-eq15.false c.if-kind-le8.false c.requires.size c.number_of_bytes-else-kind-le8.ensures.most in
    omega (arith, fits)
