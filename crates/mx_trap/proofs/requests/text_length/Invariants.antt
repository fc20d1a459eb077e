use Rattle.std.proofs.Common.{◌≡◌, ◌≤◌, ◌<◌, ◌+◌, ◌-◌, ◌^◌}
use Rattle.mx_trap.specs.Requests.{text_length}
use Rattle.mx_trap.proofs.Texts.{length_after}
use Rattle.mx_trap.proofs.requests.text_length.Given as goal

abbrev pub invariant-loop-count : goal.invariant-loop-count
invariant-loop-count g l = record {
  told : length_after l.count (text_length (2 ^ 24 - l.count) (g.M.Space.contents l.memory).bytes (l.a + l.count)) ≡ text_length (2 ^ 24) (g.M.Space.contents l.memory).bytes l.a;
  below : 0 < l.count → l.a + l.count ≤ 2 ^ 63;
}
