use Rattle.std.proofs.Common.{◌∙◌, ap}
use Rattle.serde_json.specs.View.{view}
use Rattle.mx_frames.specs.Columns.{place_of}
use Rattle.mx_line.specs.Lines.{lines_of}
use Rattle.mx_marks.specs.Mending.{line_text}
use Rattle.mx_lsp.specs.Lines.{number_of}
use Rattle.mx_lsp.specs.Requests.{line_in}
use Rattle.mx_lsp.proofs.requests.place_of_message.Goals as goal

pub returns-clause-from : goal.returns-clause-from
returns-clause-from c =
    let source = c.args.source.now in
    c.place_at.ensures.from
    ∙ ap (λ line. place_of (line_text (number_of line) (lines_of source)) c.number_at.result) c.number_at-line.ensures
    ∙ ap (place_of (line_text (line_in (view c.args.message.now)) (lines_of source))) c.number_at.ensures
