use Rattle.std.proofs.Common.{◌≡◌, []}
use Rattle.mx_walk.specs.Walks.{IsAt}
use Rattle.mx_view.specs.Search.{found}
use Rattle.mx_view.proofs.search.find_faults.Given as goal

abbrev pub invariant-loop-search : goal.invariant-loop-search
invariant-loop-search l =
    (found 201 [] l.source ≡ found l.search.left l.search.lines.items l.current) × IsAt l.search.walk × (l.search.walk.front ≡ [])

abbrev pub decreases-loop-search : goal.decreases-loop-search
decreases-loop-search l = l.search.left
