use Rattle.std.proofs.Common.{refl}
use Rattle.mx_host.proofs.Serving.{written-only}
use Rattle.mx_serve.proofs.writing.put_frame.Goals as goal

pub returns-in-Err-Misused-clause-causes : goal.returns-in-Err-Misused-clause-causes
returns-in-Err-Misused-clause-causes g c = record {
  host_fault = λ had e. written-only _ _ _ _ _ _ _ c.write_slot.ensures.answers c.write_slot.ensures.misused refl had (cc (c.in-Err-Misused.is, c.in-Err-Misused.field-0-is));
  no_file = λ un e. absurd (cc e);
  keeps = c.write_slot.ensures.keeps;
}
