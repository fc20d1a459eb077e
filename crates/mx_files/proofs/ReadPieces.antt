-- One piece of a file after another.
use Rattle.std.proofs.Common.{◌≡◌, ℕ, ◌+◌, ◌-◌, ◌<◌, ◌≤◌, List, Bool, true, false, arith, refl, sym, Ok, Err, subst}
use Rattle.std.specs.Prelude.{Option}
use Rattle.mx_host.specs.HostModel.{HostModel}
use Rattle.mx_plan.specs.Plan.{returns, bind}
use Rattle.mx_files.specs.Clauses.{DoesPartBetween, Leaves}
use Rattle.mx_files.specs.FilePlans.{Part, on_ok, read_piece, read_next, read_pieces}
use Rattle.mx_outcome.specs.declared.outcome.Outcome.{Outcome}
use Rattle.mx_files.proofs.Counting.{left-after}
use Rattle.mx_files.proofs.Parts.{works-on, works-ends, works-done, leaves-all, leaves-on, leaves-next}

-- what is left to read in the turns from one of them on
unfoldable pub left : ℕ → ℕ → List ℕ → Part (List ℕ)
left most turn got = read_pieces (most - turn) got

left-more : (most turn : ℕ) (got : List ℕ) → turn < most → left most turn got ≡ bind (on_ok (read_next (left most (turn + 1)))) (read_piece got)
unfolding left read_pieces
left-more most turn got l = rw (left-after most turn l) refl

-- the beginning
pub left-all : (a : Option HostModel) (k most : ℕ) (got : List ℕ) → Leaves a a k k (left most 0 got) (read_pieces most got)
unfolding left
left-all a k most got = let e : most - 0 ≡ most = omega arith in rw e (leaves-all a k (read_pieces most got))

-- another piece, and a shorter one
next-left : (a b : Option HostModel) (k m most turn : ℕ) (got next : List ℕ) (whole : Bool) → turn < most → DoesPartBetween a b k m (Ok (next, whole)) (read_piece got) →
    Leaves a b k m (read_next (left most (turn + 1)) (next, whole)) (left most turn got)
next-left a b k m most turn got next whole l w =
    subst (λ p. Leaves a b k m (read_next (left most (turn + 1)) (next, whole)) p) (sym (left-more most turn got l)) (leaves-next a b k m (next, whole) (read_next (left most (turn + 1))) (read_piece got) w)

pub left-next : (a b c : Option HostModel) (k m n most turn : ℕ) (got next : List ℕ) (whole : Part (List ℕ)) → turn < most → Leaves a b k m (left most turn got) whole →
    DoesPartBetween b c m n (Ok (next, true)) (read_piece got) → Leaves a c k n (left most (turn + 1) next) whole
left-next a b c k m n most turn got next whole l h w =
    leaves-on a b c k m n (left most (turn + 1) next) (left most turn got) whole h (next-left b c m n most turn got next true l w)

pub left-short : (a b c : Option HostModel) (k m n most turn : ℕ) (got next : List ℕ) (whole : Part (List ℕ)) → turn < most → Leaves a b k m (left most turn got) whole →
    DoesPartBetween b c m n (Ok (next, false)) (read_piece got) → DoesPartBetween a c k n (Ok next) whole
left-short a b c k m n most turn got next whole l h w =
    works-on a c c k n n (Ok next) (returns (Ok next)) whole (leaves-on a b c k m n (returns (Ok next)) (left most turn got) whole h (next-left b c m n most turn got next false l w)) (works-done c n next)

pub left-ends : (a b c : Option HostModel) (k m n most turn : ℕ) (got : List ℕ) (outcome : Outcome) (whole : Part (List ℕ)) → turn < most → Leaves a b k m (left most turn got) whole →
    DoesPartBetween {A = List ℕ × Bool} b c m n (Err outcome) (read_piece got) → DoesPartBetween a c k n (Err outcome) whole
left-ends a b c k m n most turn got outcome whole l h w =
    works-on a b c k m n (Err outcome) (left most turn got) whole h
    (subst (λ p. DoesPartBetween b c m n (Err outcome) p) (sym (left-more most turn got l)) (works-ends b c m n outcome (read_next (left most (turn + 1))) (read_piece got) w))

-- all turns were whole pieces
pub left-none : (a b : Option HostModel) (k m most turn : ℕ) (got : List ℕ) (whole : Part (List ℕ)) → most ≤ turn → Leaves a b k m (left most turn got) whole → DoesPartBetween a b k m (Ok got) whole
unfolding left read_pieces
left-none a b k m most turn got whole l h =
    let e : most - turn ≡ 0 = omega arith in
    works-on a b b k m m (Ok got) (read_pieces (most - turn) got) whole h (rw e (works-done b m got))

pub ruleset reading = (left-all, left-next, left-short, left-ends, left-none)
