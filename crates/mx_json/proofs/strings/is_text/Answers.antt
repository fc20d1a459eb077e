use Rattle.mx_json.proofs.Utf8.{is-text, no-text}
use Rattle.mx_json.proofs.strings.is_text.Goals as goal

pub returns-in-Ok : goal.returns-in-Ok
returns-in-Ok c = is-text _ c.in-Ok.ensures.cases.1

pub returns-in-Err : goal.returns-in-Err
returns-in-Err c = no-text _ c.in-Err.ensures.cases.0
