use Rattle.std.proofs.Common.{◌≡◌, ◌+◌, length, arith, sym, ◌∙◌, ap}
use Rattle.std.proofs.lemmas.List.{length-append}
use Rattle.mx_word.specs.Lists.{with_part}
use Rattle.mx_registers.proofs.Octas.{hidden-octas}
use Rattle.mx_registers.specs.HiddenPart.{HiddenPart, octas_of, with_hidden, put_back}
use Rattle.mx_registers.proofs.hidden.Hidden.put_back.Goals as goal

pub append-requires : goal.append-requires
unfolding put_back
append-requires c =
    let made : with_hidden c.overwrite.new.self c.args.gone.now ≡ put_back c.args.self.now c.args.spilled c.args.over.now c.args.stays c.args.gone.now =
    ap (λ (h : HiddenPart). with_hidden h c.args.gone.now) (c.overwrite.ensures ∙ ap (λ (h : HiddenPart). record h { stack = with_part h.stack h.spilled c.args.over.now }) c.rewind.ensures) in
    let size : length (octas_of (put_back c.args.self.now c.args.spilled c.args.over.now c.args.stays c.args.gone.now)) ≡ length (octas_of c.overwrite.new.self) + length c.args.gone.now =
    ap (λ (h : HiddenPart). length (octas_of h)) (sym made) ∙ ap length (hidden-octas c.overwrite.new.self c.args.gone.now) ∙ length-append (octas_of c.overwrite.new.self) c.args.gone.now in
    omega (arith, size, c.requires.room)

pub returns : goal.returns
unfolding put_back
returns c =
    c.append.ensures ∙ ap (λ (h : HiddenPart). with_hidden h c.args.gone.now) (c.overwrite.ensures ∙ ap (λ (h : HiddenPart). record h { stack = with_part h.stack h.spilled c.args.over.now }) c.rewind.ensures)
