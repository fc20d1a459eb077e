use Rattle.std.proofs.Common.{◌≡◌, ◌+◌, ◌-◌, drop, slice_get, arith, sym, ◌∙◌, ap}
use Rattle.mx_back.specs.NoteLists.{notes_of}
use Rattle.mx_back.proofs.NoteLists.{is-none, is-some}
use Rattle.mx_back.proofs.notes.Notes.pop.Goals as goal

pub returns-then-is_none-clause-value : goal.returns-then-is_none-clause-value
returns-then-is_none-clause-value c =
    let none = is-none _ _ c.is_none.ensures c.if-is_none.true in
    rw (← c.self.view_is) (sym (ap (λ k. slice_get (notes_of c.self.inside.newer.items c.self.inside.older.items k) 0) none))

pub returns-then-is_none-clause-rest : goal.returns-then-is_none-clause-rest
returns-then-is_none-clause-rest c =
    let none = is-none _ _ c.is_none.ensures c.if-is_none.true in
    rw (← c.self.view_is) (ap (λ k. notes_of c.self.inside.newer.items c.self.inside.older.items k) none ∙ sym (ap (λ k. drop 1 (notes_of c.self.inside.newer.items c.self.inside.older.items k)) none))

pub returns-clause-value : goal.returns-clause-value
returns-clause-value c =
    let some = is-some _ _ c.is_none.ensures c.if-is_none.false in
    let more : c.self.inside.kept ≡ c.self.inside.kept - 1 + 1 = omega (arith, some) in
    let popped = c.pop_newest.ensures.gives (c.self.inside.kept - 1) (omega (arith, some, c.self.invariant.there)) in
    rw (← c.self.view_is) (popped.0 ∙ sym (ap (λ k. slice_get (notes_of c.self.inside.newer.items c.self.inside.older.items k) 0) more))

pub returns-clause-rest : goal.returns-clause-rest
returns-clause-rest c =
    let some = is-some _ _ c.is_none.ensures c.if-is_none.false in
    let more : c.self.inside.kept ≡ c.self.inside.kept - 1 + 1 = omega (arith, some) in
    let popped = c.pop_newest.ensures.gives (c.self.inside.kept - 1) (omega (arith, some, c.self.invariant.there)) in
    rw (← c.self.view_is) (popped.1 ∙ sym (ap (λ k. drop 1 (notes_of c.self.inside.newer.items c.self.inside.older.items k)) more))

pub invariant_of-self : goal.invariant_of-self
invariant_of-self c =
    let some = is-some _ _ c.is_none.ensures c.if-is_none.false in
    let popped = c.pop_newest.ensures in
    record {
      most = omega (arith, c.self.invariant.most);
      there = omega (arith, some, c.self.invariant.there, popped.there);
      fewer = omega (arith, c.self.invariant.fewer, popped.fewer);
      newer_room = omega (arith, c.self.invariant.newer_room, popped.newer_room);
      older_room = omega (arith, c.self.invariant.older_room, popped.older_room);
    }
