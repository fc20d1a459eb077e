use Rattle.std.proofs.Common.{ap, ◌∙◌, refl, append-nil}
use Rattle.mx_mmo.proofs.Words.{Walk, fed, onto}
use Rattle.mx_mmo.proofs.Nexts.{next-gave, next-none, next-fault}
use Rattle.mx_mmo.proofs.whole.take_one.Goals as goal

pub returns-in-Ok-clause-same : goal.returns-in-Ok-clause-same
returns-in-Ok-clause-same c = λ _.
    let h = rw c.in-Ok-Some.field-0-is at c.in-Ok-Some.ensures.answers in
    rw c.in-Ok.ensures.ok (next-gave c.args.items.now _ _ _ c.requires (h (λ e. cc))).same

pub returns-in-Ok-clause-end : goal.returns-in-Ok-clause-end
returns-in-Ok-clause-end c =
    let h = rw c.in-Ok-Some.field-0-is at c.in-Ok-Some.ensures.answers in
    (next-gave c.args.items.now _ _ _ c.requires (h (λ e. cc))).end

pub returns-in-Ok-None-clause-last : goal.returns-in-Ok-None-clause-last
returns-in-Ok-None-clause-last c = λ _.
    let h = rw c.in-Ok-None.field-0-is at c.in-Ok-None.ensures.answers in
    let is = next-none c.args.reader.now c.next.new.self c.requires (h (λ e. cc)) in
    ap (onto _) is.1 ∙ rw (is.0, append-nil) refl

pub returns-in-Ok-None-clause-end : goal.returns-in-Ok-None-clause-end
returns-in-Ok-None-clause-end c =
    let h = rw c.in-Ok-None.field-0-is at c.in-Ok-None.ensures.answers in
    ap fed (next-none c.args.reader.now c.next.new.self c.requires (h (λ e. cc))).0

pub returns-in-Err-clause-fault : goal.returns-in-Err-clause-fault
returns-in-Err-clause-fault c = λ ne. ap (λ (w : Walk). w.1) (next-fault c.args.reader.now c.next.new.self _ c.requires (c.in-Err.ensures.answers (λ e. ne (cc))))
