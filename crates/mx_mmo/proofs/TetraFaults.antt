-- A tetra that has a fault of the table is told.
use Rattle.std.proofs.Common.{◌≡◌, ℕ, ◌*◌, ◌^◌, ◌<◌, ◌≤◌, ◌⊎◌, length, List, ◌++◌, arith, refl, ◌∙◌, Err, false, inl, inr, replicate, ◌==◌, ◌&&◌, ◌||◌}
use Rattle.mx_mmo.proofs.Words.{nat_tests, take_at, length-replicate, first_item, far_tetra, file_item, TetraFault, MmoFault, BadFields, Phase, both-tests}
use Rattle.mx_mmo.specs.declared.items.Item.TheVariants as items
use Rattle.mx_mmo.proofs.Names.{zeros-trimmed}
use Rattle.mx_mmo.proofs.Spelt.{enough-there}
use Rattle.std.proofs.lemmas.Bool.{false_from_ne_true as false-by}

name-bad : (at number tetras : ℕ) (more : List ℕ) → 0 < tetras → file_item at number tetras (replicate (4 * tetras) 0 ++ more) ≡ Err (BadFields at)
name-bad at number tetras more l =
    let front : List ℕ = replicate (4 * tetras) 0 in
    let size : length front ≡ 4 * tetras = length-replicate (4 * tetras) 0 in
    let some : (tetras == 0) ≡ false = grind (arith, nat_tests) in
    rw (some, enough-there (4 * tetras) front more size, take_at front more (4 * tetras) size, zeros-trimmed (4 * tetras)) refl

pub fault-first : {phase : Phase} {at : ℕ} {bytes : List ℕ} {fault : MmoFault} → TetraFault phase at bytes fault → first_item phase at bytes ≡ Err fault
fault-first (TetraFault.no_pre at a code y z more n) = grind arith
fault-first (TetraFault.bad_lop at code y z more n) = grind arith
fault-first (TetraFault.no_stab at a code y z more n) = grind arith
fault-first (TetraFault.fields at code y z more lop e m n) = grind arith
fault-first (TetraFault.stab_fields at y z more n) = let t : (y == 0 && z == 0) ≡ false = false-by _ (λ t. n (both-tests y 0 z 0 t)) in rw t refl
fault-first (TetraFault.far_tetra at bits t more (inl b) l h) = grind arith
fault-first (TetraFault.far_tetra at bits t more (inr b) l h) = grind arith
fault-first (TetraFault.no_name at number tetras more l) = name-bad at number tetras more l
