-- Watchers that listen, and the reports of those that were full.
use Rattle.std.specs.Prelude.{ℕ, ◌+◌, if◌then◌else◌, List, [], ◌∷◌, ◌++◌, take, drop, length, map}
use Rattle.std.specs.List.{flat_map, range_with_len, zip}
use Rattle.mx_code.specs.declared.trace.Trace.{Trace}
use Rattle.mx_watch.specs.Watching.{Watching, later}
use Rattle.mx_watch.specs.declared.telling.Report.{Report}

-- each watcher that listens, with its place, and the reports so far
pub record Listening : Type 0 where
  pub left : List (ℕ × Watching)
  pub kept : List Report

-- a watcher that is told a trace stays where it is not full then, and gives its report where it is
abbrev pub stays : Trace → ℕ × Watching → List (ℕ × Watching)
stays t w = if w.1.full (t ∷ []) then [] else (w.0, later t w.1) ∷ []

abbrev pub leaves : Trace → ℕ × Watching → List Report
leaves t w = if w.1.full (t ∷ []) then record { place = w.0; text = w.1.text (t ∷ []) } ∷ [] else []

abbrev pub still_listening : Trace → List (ℕ × Watching) → List (ℕ × Watching)
still_listening t ws = flat_map (stays t) ws

abbrev pub reports_at : Trace → List (ℕ × Watching) → List Report
reports_at t ws = flat_map (leaves t) ws

-- the one at an index is told a trace
abbrev pub told_at : Trace → ℕ → List (ℕ × Watching) → List (ℕ × Watching)
told_at t at ws = take at ws ++ still_listening t (take 1 (drop at ws)) ++ drop (at + 1) ws

abbrev pub told : Trace → Listening → Listening
told t l = record { left = still_listening t l.left; kept = l.kept ++ reports_at t l.left }

-- they are told traces in turn
unfoldable pub watched : List Trace → Listening → Listening
watched [] l = l
watched (t ∷ ts) l = watched ts (told t l)

abbrev pub listening : List ℕ → List Watching → List Report → Listening
listening places watchers kept = record { left = zip places watchers; kept = kept }

-- at the start each has its index in the list as its place
abbrev pub starting : List Watching → List Report → Listening
starting watchers kept = listening (range_with_len 0 (length watchers)) watchers kept

-- those that are left, without their places
abbrev pub watchers_left : Listening → List Watching
watchers_left l = map (λ w. w.1) l.left
