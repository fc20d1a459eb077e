use Rattle.std.proofs.Common.{◌≡◌, ℕ, ◌+◌, ◌-◌, ◌++◌, List, length, take, drop, min, arith, sym, ◌∙◌, ap}
use Rattle.std.proofs.lemmas.List.{length-take-le, take-take}
use Rattle.std.proofs.Math.Seq.{take-add}
use Rattle.mx_registers.proofs.hidden.Hidden.take_stack.Goals as goal

-- the first octas of the stack area, of which some are among the hidden ones
all-taken : (octas stack : List ℕ) (s n m : ℕ) → m ≡ min n s → take s octas ≡ take s stack → take m octas ++ take (n - m) (drop m stack) ≡ take n stack
all-taken octas stack s n m e f =
    let first : take m octas ≡ take m stack = sym (take-take m s octas (omega arith)) ∙ ap (take m) f ∙ take-take m s stack (omega arith) in
    let sum : m + (n - m) ≡ n = omega arith in
    ap (λ (ps : List ℕ). ps ++ take (n - m) (drop m stack)) first ∙ sym (take-add m (n - m) stack) ∙ ap (λ k. take k stack) sum

pub invariant_of-self : goal.invariant_of-self
invariant_of-self c =
    let i = c.self.inside in
    let start = c.min-start.result in
    let whole : c.widen.new.self.octas ≡ take c.args.n i.stack =
    c.widen.ensures.octas ∙ c.hide.ensures.octas ∙ ap (λ (ps : List ℕ). ps ++ take (c.args.n - start) (drop start i.stack)) c.truncate.ensures.octas ∙ all-taken i.list.octas i.stack i.spilled c.args.n start c.min-start.ensures c.self.invariant.same_spilled in
    let size : length (take c.args.n i.stack) ≡ c.args.n = length-take-le c.args.n i.stack (omega (arith, c.self.invariant.all_stack, c.requires)) in
    let same : c.hide.new.self ≡ i.stack = c.hide.ensures.same in
    record {
      spilled_are_hidden = rw whole (omega (arith, size));
      same_spilled = rw (whole, same) (take-take c.args.n c.args.n i.stack (omega arith));
      all_stack = rw same c.self.invariant.all_stack;
      has_room = rw whole (omega (arith, size, c.requires));
      has_limit = c.limit_for-self-inside.ensures;
      has_list = omega (arith, c.widen.ensures.room);
    }
