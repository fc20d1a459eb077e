use Rattle.std.proofs.Common.{◌∙◌, ap, ◌++◌, map}
use Rattle.mx_host.specs.HostModel.{standard_streams}
use Rattle.mx_real.specs.Streams.{stream_of}
use Rattle.mx_real.proofs.StartSlots.{streams-at_start}
use Rattle.mx_real.proofs.start.streams_at_start.Goals as goal

-- what was added to the empty list, one after another
pub returns : goal.returns
returns g c =
    streams-at_start _ _ _ (c.in_ok-add_standard.ensures ∙ ap (λ l. l ++ map stream_of standard_streams) c.new-streams.ensures.items) (c.in_ok-add_closed.ensures) (c.in_ok-add_standard-2.ensures)
