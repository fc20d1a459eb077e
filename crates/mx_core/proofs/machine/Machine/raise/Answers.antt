use Rattle.std.proofs.Common.{◌∙◌, sym}
use Rattle.mx_core.proofs.machine.Machine.raise.Goals as goal

pub give_noted-requires : goal.give_noted-requires
give_noted-requires c = c.noted_events_stay_in_18_bits.ensures c.ra.result c.in-Noted.status c.args.event c.ra.ensures.bits (sym c.decide.ensures ∙ c.in-Noted.is)
