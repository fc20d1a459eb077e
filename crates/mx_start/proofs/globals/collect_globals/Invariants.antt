use Rattle.std.proofs.Common.{◌≡◌, ◌≤◌, ◌-◌, map}
use Rattle.std.specs.List.{range_with_len}
use Rattle.mx_load.specs.Kept.{image_of}
use Rattle.mx_start.proofs.globals.collect_globals.Given as goal

-- the globals below $k
abbrev pub invariant-loop-k : goal.invariant-loop-k
invariant-loop-k l = record {
  built : l.globals ≡ map (image_of l.image).global (range_with_len l.image.g (l.k - l.image.g));
  least : l.image.g ≤ l.k;
  most : l.k ≤ 256;
}
