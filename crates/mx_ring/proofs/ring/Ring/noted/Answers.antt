use Rattle.std.proofs.Common.{◌≡◌, sym, subst, ◌∙◌, ap}
use Rattle.mx_ring.proofs.TakenBack.{work-back}
use Rattle.mx_ring.specs.Notes.{worked, work_answer, IsGiven, TakesBack}
use Rattle.mx_ring.specs.Stack.{windowed}
use Rattle.mx_ring.proofs.ring.Ring.noted.Goals as goal

pub returns-clause-back : goal.returns-clause-back
returns-clause-back c =
    let same = c.in_ok-note.ensures.same in
    let given : IsGiven (work_answer c.args.work (windowed c.args.self.now)) = subst (λ w. IsGiven (work_answer c.args.work (windowed w))) same (subst IsGiven c.in_ok-specials.ensures.answer tt) in
    let made : windowed c.perform.new.self ≡ worked c.args.work (windowed c.args.self.now) = c.in_ok-specials.ensures.ok ∙ ap (λ w. worked c.args.work (windowed w)) same in
    subst (λ n. TakesBack n c.perform.new.self c.args.self.now) (sym c.in_ok-note.ensures.note) (work-back c.args.self.now c.perform.new.self c.args.work c.in_ok-note.ensures.bounds c.requires given made)
