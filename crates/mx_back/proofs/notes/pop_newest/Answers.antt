use Rattle.std.proofs.Common.{length, arith, sym, ◌∙◌, ap}
use Rattle.std.proofs.lemmas.List.{length_push}
use Rattle.mx_back.proofs.NoteLists.{few-more, newer-popped, no-items, older-popped}
use Rattle.mx_back.proofs.notes.pop_newest.Goals as goal

pub returns-in-Some-clause-gives : goal.returns-in-Some-clause-gives
returns-in-Some-clause-gives c = λ kept l. newer-popped c.args.newer.now.items c.args.older.now.items c.pop.new.self.items c.in-Some.note kept c.in-Some.ensures.items

pub returns-in-Some-clause-there : goal.returns-in-Some-clause-there
returns-in-Some-clause-there c = omega (arith, ap length c.in-Some.ensures.items, length_push c.pop.new.self.items c.in-Some.note)

pub returns-in-Some-clause-fewer : goal.returns-in-Some-clause-fewer
returns-in-Some-clause-fewer c = omega (arith, ap length c.in-Some.ensures.items, length_push c.pop.new.self.items c.in-Some.note)

pub returns-in-None-clause-gives : goal.returns-in-None-clause-gives
returns-in-None-clause-gives c = λ kept l.
    older-popped c.args.newer.now.items c.args.older.now.items c.pop.new.self.items c.pop-in-None.new.self.items c.pop-in-None.result kept
    (no-items _ (sym c.args.newer.now.ok.0 ∙ c.in-None.ensures.cases.0)) (no-items _ (sym c.pop.new.self.ok.0 ∙ c.in-None.ensures.cases.1))
    c.pop-in-None.ensures.items (λ p. c.pop-in-None.ensures.variant.1 (omega (arith, p, c.args.older.now.ok.0))) l

pub returns-in-None-clause-there : goal.returns-in-None-clause-there
returns-in-None-clause-there c =
    omega (arith, c.args.newer.now.ok.0, c.in-None.ensures.cases.0, few-more c.args.older.now.items c.pop-in-None.new.self.items c.pop-in-None.result c.pop-in-None.ensures.items)

pub returns-in-None-clause-fewer : goal.returns-in-None-clause-fewer
returns-in-None-clause-fewer c = omega (arith, c.pop.new.self.ok.0, c.in-None.ensures.cases.1)
