use Rattle.mx_text.proofs.HexValues.{hex-numeral}
use Rattle.mx_text.proofs.laws.hex_digits_count_the_octa.Goals as goal

pub returns-clause-numeral : goal.returns-clause-numeral
returns-clause-numeral c = hex-numeral
