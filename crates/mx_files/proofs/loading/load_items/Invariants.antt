use Rattle.std.proofs.Common.{◌≡◌, Ok, length}
use Rattle.std.specs.List.{AllByRecursion}
use Rattle.mx_load.specs.Status as loader_spec
use Rattle.mx_mmo.specs.Valid.{Fits}
use Rattle.mx_files.specs.Loading as spec
use Rattle.mx_files.proofs.loading.load_items.Given as goal

abbrev pub invariant-loop-rest : goal.invariant-loop-rest
invariant-loop-rest l = record {
  fit : AllByRecursion Fits l.rest;
  loaded : spec.all_loaded (loader_spec.status l.fn.loader) l.items ≡ spec.all_loaded (loader_spec.status l.loader) l.rest;
  unrefused : loader_spec.answer (loader_spec.status l.loader) ≡ Ok tt;
}

abbrev pub decreases-loop-rest : goal.decreases-loop-rest
decreases-loop-rest l = length l.rest
