use Rattle.std.proofs.Common.{◌≡◌, length}
use Rattle.std.specs.Prelude.{take}
use Rattle.mx_trap.specs.Requests.{bytes_from}
use Rattle.mx_trap.proofs.space.fill.Given as goal

abbrev pub invariant-loop-place : goal.invariant-loop-place
invariant-loop-place g l = record {
  told : take l.place l.buffer ≡ bytes_from (g.M.Space.contents l.memory).bytes l.at l.place;
  size : length l.buffer ≡ length l.fn.buffer;
}
