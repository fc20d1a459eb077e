-- Bodies that are written one after another.
use Rattle.std.proofs.Common.{◌≡◌, ℕ, List, [], ◌∷◌, Ok, Err, ap, refl, sym}
use Rattle.mx_host.specs.HostModel.{HostModel}
use Rattle.mx_outcome.specs.declared.outcome.Outcome.{Outcome}
use Rattle.mx_serve.specs.Wire.{and_more, bodies_put, body_put}

pub bodies-none : (m : HostModel) → bodies_put [] m ≡ (Ok tt, m)
unfolding bodies_put
bodies-none m = refl

pub bodies-next : (b : List ℕ) (bs : List (List ℕ)) (m n : HostModel) → (Ok tt, n) ≡ body_put b m → bodies_put (b ∷ bs) m ≡ bodies_put bs n
unfolding bodies_put
bodies-next b bs m n e = ap (and_more (bodies_put bs)) (sym e)

pub bodies-failed : (b : List ℕ) (bs : List (List ℕ)) (m n : HostModel) (outcome : Outcome) → (Err outcome, n) ≡ body_put b m → bodies_put (b ∷ bs) m ≡ (Err outcome, n)
unfolding bodies_put
bodies-failed b bs m n outcome e = ap (and_more (bodies_put bs)) (sym e)
