use Rattle.mx_expr.proofs.Parsed.{parsed-list, parsed-fault, parsed-digits, parsed-spelled, parsed-first}
use Rattle.mx_expr.proofs.parsing.parse_list.Goals as goal

pub returns : goal.returns
returns c = record {
  list = parsed-list _ _ c.read.ensures;
  spelled = parsed-spelled _ _ c.read.ensures;
  fault = parsed-fault _ _ c.read.ensures;
  first = parsed-first _ _ c.read.ensures;
  digits = parsed-digits _ _ c.read.ensures;
}
