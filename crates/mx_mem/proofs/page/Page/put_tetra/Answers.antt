use Rattle.std.proofs.Common.{ℕ, List, ◌<◌, ◌^◌, ◌∙◌, ap, get_or, subst}
use Rattle.mx_mem.specs.declared.page.Sheet.{Sheet}
use Rattle.mx_mem.proofs.Tetras.{octas-most}
use Rattle.mx_mem.proofs.page.Page.put_tetra.Goals as goal

pub invariant_of-self : goal.invariant_of-self
invariant_of-self c =
    let fits = subst (λ (ts : List ℕ). (i : ℕ) → get_or ts i 0 < 2 ^ 32) (c.as_slice.ensures ∙ ap (λ (s : Sheet). s.tetras) c.deref.ensures) c.know_tetras.ensures in
    rw (c.deref_mut-2.ensures.value, c.put_tetra_in.ensures.last, c.deref_mut.ensures.value) (octas-most c.put_tetra_in.new.tetras fits, c.self.invariant.1, c.self.invariant.2)
