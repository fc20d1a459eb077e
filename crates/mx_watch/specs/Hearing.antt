-- Which watchers are left after traces, and which reports are kept, each watcher by itself.
use Rattle.std.specs.Prelude.{ℕ, suc, ◌≡◌, Bool, not, ◌&&◌, if◌then◌else◌, List, [], ◌∷◌, ◌++◌, length, map, take}
use Rattle.std.specs.List.{flat_map, list_all, range_with_len, zip}
use Rattle.mx_code.specs.declared.trace.Trace.{Trace}
use Rattle.mx_watch.specs.Watching.{Watching}
use Rattle.mx_watch.specs.declared.telling.Report.{Report}

-- no front of these traces, but the empty one, is full
abbrev pub never_full : (List Trace → Bool) → List Trace → Bool
never_full full h = list_all (λ k. not (full (take k h))) (range_with_len 1 (length h))

-- what a watcher is once it was told all of them
abbrev pub after : List Trace → Watching → Watching
after h w = record { text = λ g. w.text (h ++ g); full = λ g. w.full (h ++ g) }

-- it is left where no front is full
abbrev pub remains : List Trace → ℕ × Watching → List (ℕ × Watching)
remains h w = if never_full w.1.full h then (w.0, after h w.1) ∷ [] else []

-- its report is on the shortest front that is full, where that is one trace longer than k
abbrev pub reported : List Trace → ℕ → ℕ × Watching → List Report
reported h k w =
    if never_full w.1.full (take k h) && w.1.full (take (suc k) h) then record { place = w.0; text = w.1.text (take (suc k) h) } ∷ [] else []

-- the reports on the fronts of one trace first, then those on the fronts of two, and so on
abbrev pub reports_in_turn : List Trace → List (ℕ × Watching) → List Report
reports_in_turn h ws = flat_map (λ k. flat_map (reported h k) ws) (range_with_len 0 (length h))

-- each watcher with its index in the list as its place
abbrev pub placed : List Watching → List (ℕ × Watching)
placed watchers = zip (range_with_len 0 (length watchers)) watchers

-- What comes of watchers that are told traces: those are left of which no front is full, in order, each told all of them; and
-- the reports of the others follow those that were there.
pub record Hears (h : List Trace) (watchers left : List Watching) (earlier later : List Report) : Type 0 where
  pub staying : left ≡ map (λ w. w.1) (flat_map (remains h) (placed watchers))
  pub reports : later ≡ earlier ++ reports_in_turn h (placed watchers)

-- so it is as a function
unfoldable pub heard_by : List Trace → List Watching → List Report → List Watching × List Report
heard_by h watchers earlier = (map (λ w. w.1) (flat_map (remains h) (placed watchers)), earlier ++ reports_in_turn h (placed watchers))

-- what one hears of traces: the shortest front of one trace or more that is full, and all of them where none is
unfoldable pub heard : (List Trace → Bool) → List Trace → List Trace
heard full [] = []
heard full (t ∷ ts) = if full (t ∷ []) then t ∷ [] else t ∷ heard (λ h. full (t ∷ h)) ts

-- as `reported`, with the text on what it heard
abbrev pub reported_heard : List Trace → ℕ → ℕ × Watching → List Report
reported_heard h k w =
    if never_full w.1.full (take k h) && w.1.full (take (suc k) h) then record { place = w.0; text = w.1.text (heard w.1.full h) } ∷ [] else []
