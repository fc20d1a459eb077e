use Rattle.std.proofs.Common.{IfOk, codes, subst, sym}
use Rattle.serde_json.specs.View.{view}
use Rattle.mx_lsp.specs.Messages.{text_at}
use Rattle.mx_lsp.specs.Requests.{IsRenameAnswer, IsTextAnswer, from_in, line_in}
use Rattle.mx_lsp.proofs.requests.answer_text.Goals as goal

pub returns-in-Rename : goal.returns-in-Rename
returns-in-Rename c =
    let m = view c.args.message.now in
    let id = c.args.id.now in
    let source = c.args.source.now in
    let r = c.answer_rename.result in
    let place = c.place_of_message-place in
    let name = text_at (codes "/params/newName") m in
    subst (λ query. IfOk r (λ body. IsTextAnswer id query m source body)) (sym c.in-Rename.is)
    (subst (λ uri. IfOk r (λ body. IsRenameAnswer id uri (line_in m) (from_in m source) name source body)) c.uri_of.ensures
    (subst (λ line. IfOk r (λ body. IsRenameAnswer id c.uri_of.result.now line (from_in m source) name source body)) place.ensures.line
    (subst (λ from. IfOk r (λ body. IsRenameAnswer id c.uri_of.result.now place.result.line from name source body)) place.ensures.from
    (subst (λ text. IfOk r (λ body. IsRenameAnswer id c.uri_of.result.now place.result.line place.result.from text source body)) c.text_at-name.ensures c.answer_rename.ensures))))
