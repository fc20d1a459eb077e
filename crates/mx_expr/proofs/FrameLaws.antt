-- One more frame at the end of a list of them.
use Rattle.std.proofs.Common.{◌≡◌, ◌+◌, List, [], ◌∷◌, ◌++◌, Err, refl, ap, ◌∙◌, arith}
use Rattle.mx_expr.proofs.Words.{ExprFault, Valued, Knowledge, value_through, value_after, nodes_of, nodes_left, FrameHasDigits, AllHaveDigits}
use Rattle.mx_expr.specs.declared.valuing.Frame.{Frame}

pub finished-push : (k : Knowledge) (fs : List Frame) (f : Frame) (x : Valued) → value_after k (fs ++ f ∷ []) x ≡ value_after k fs (value_through k f x)
finished-push k [] f x = refl
finished-push k (e ∷ fs) f x = ap (value_through k e) (finished-push k fs f x)

passed-err : (k : Knowledge) (f : Frame) (e : ExprFault) → value_through k f (Err e) ≡ Err e
passed-err k = grind arith

pub finished-err : (k : Knowledge) (fs : List Frame) (e : ExprFault) → value_after k fs (Err e) ≡ Err e
finished-err k [] e = refl
finished-err k (f ∷ fs) e = ap (value_through k f) (finished-err k fs e) ∙ passed-err k f e

pub left-push : (fs : List Frame) (f : Frame) → nodes_left (fs ++ f ∷ []) ≡ nodes_left fs + nodes_of f
left-push [] f = omega arith
left-push (e ∷ fs) f = omega (arith, left-push fs f)

pub digits-push : (fs : List Frame) (f : Frame) → AllHaveDigits fs → FrameHasDigits f → AllHaveDigits (fs ++ f ∷ [])
digits-push [] f all h = (h, tt)
digits-push (e ∷ fs) f all h = (all.0, digits-push fs f all.1 h)

pub digits-front : (fs : List Frame) (f : Frame) → AllHaveDigits (fs ++ f ∷ []) → AllHaveDigits fs
digits-front [] f all = tt
digits-front (e ∷ fs) f all = (all.0, digits-front fs f all.1)

pub digits-last : (fs : List Frame) (f : Frame) → AllHaveDigits (fs ++ f ∷ []) → FrameHasDigits f
digits-last [] f all = all.0
digits-last (e ∷ fs) f all = digits-last fs f all.1

pub ruleset frames = (finished-push, finished-err, left-push, digits-push, digits-front, digits-last)
