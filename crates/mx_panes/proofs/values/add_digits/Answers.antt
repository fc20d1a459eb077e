use Rattle.std.proofs.Common.{◌≡◌, ◌++◌, OnOk, subst}
use Rattle.mx_panes.proofs.Shown.{digits-after-mark}
use Rattle.mx_panes.proofs.values.add_digits.Goals as goal

pub returns : goal.returns
returns c =
    subst (λ digits. OnOk c.extend.result (c.extend.new.self ≡ c.args.text.now ++ digits)) (digits-after-mark c.args.address _ c.octa_hex-digits.ensures) c.extend.ensures.ok
