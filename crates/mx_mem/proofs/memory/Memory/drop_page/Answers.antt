use Rattle.std.proofs.Common.{◌/◌, ap, arith}
use Rattle.mx_mem.proofs.Removals.{left-octas, left-pages, left-count, left-fits}
use Rattle.mx_mem.specs.Memory.{Stored}
use Rattle.mx_mem.proofs.memory.Memory.drop_page.Goals as goal

pub invariant_of-self : goal.invariant_of-self
invariant_of-self c = record {
  indexed = c.take_away.ensures.taken.indexed;
  bounded = c.take_away.ensures.bounded c.self.invariant.bounded;
  count = c.take_away.ensures.taken.count;
  fits = left-fits c.self.inside.pages.items c.take_away.new.pages.items c.self.inside.places c.take_away.new.places (c.args.a / 4096) c.take_away.ensures.taken c.self.invariant.fits;
  code = λ small. absurd (omega (arith, small));
}

pub returns-clause-octas : goal.returns-clause-octas
returns-clause-octas c = left-octas c.self.inside.pages.items c.take_away.new.pages.items c.self.inside.places c.take_away.new.places c.args.self.now (c.args.a / 4096) c.take_away.ensures.taken (ap (λ (m : Stored). m.pages) c.self.view_is)

pub returns-clause-pages : goal.returns-clause-pages
returns-clause-pages c = left-pages c.self.inside.pages.items c.take_away.new.pages.items c.self.inside.places c.take_away.new.places c.args.self.now (c.args.a / 4096) c.take_away.ensures.taken (ap (λ (m : Stored). m.pages) c.self.view_is)

pub returns-clause-count : goal.returns-clause-count
returns-clause-count c = left-count c.self.inside.pages.items c.take_away.new.pages.items c.self.inside.places c.take_away.new.places c.args.self.now (c.args.a / 4096) c.take_away.ensures.taken (ap (λ (m : Stored). m.pages) c.self.view_is)
