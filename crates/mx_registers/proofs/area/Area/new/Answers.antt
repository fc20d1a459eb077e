use Rattle.std.proofs.Common.{◌^◌, ap, ◌∙◌}
use Rattle.mx_registers.proofs.Areas.{filled-none}
use Rattle.mx_registers.specs.StackArea.{filled}
use Rattle.mx_registers.proofs.area.Area.new.Goals as goal

pub returns-clause-begin : goal.returns-clause-begin
returns-clause-begin c = ap (filled (2 ^ 20)) c.in_ok-with_capacity.ensures.items ∙ filled-none (2 ^ 20)
