-- The reports of all watchers, in the order in which they were in the list at the start.
use Rattle.std.specs.Prelude.{ℕ, ◌==◌, if◌then◌else◌, List, [], ◌∷◌, ◌++◌, Option, None, Some, take, drop, map}
use Rattle.mx_code.specs.declared.trace.Trace.{Trace}
use Rattle.mx_watch.specs.Hearing.{heard}
use Rattle.mx_watch.specs.Watching.{Watching}
use Rattle.mx_watch.specs.declared.telling.Report.{Report}

-- the report of each on what it hears of traces
abbrev pub report_on : List Trace → Watching → List ℕ
report_on h w = w.text (heard w.full h)

abbrev pub reports_on : List Trace → List Watching → List (List ℕ)
reports_on h watchers = map (report_on h) watchers

-- the report that each has to give now
abbrev pub texts_now : List Watching → List (List ℕ)
texts_now watchers = map (λ w. w.text []) watchers

-- ---- as the code finds them

-- the report that is kept for a place
unfoldable pub kept_at : ℕ → List Report → Option (List ℕ)
kept_at place [] = None
kept_at place (r ∷ rs) = if r.place == place then Some r.text else kept_at place rs

-- the one that is kept, or else the next one of those that are left
abbrev pub kept_or_next : Option (List ℕ) → List (List ℕ) → List (List ℕ)
kept_or_next (Some text) left = text ∷ []
kept_or_next None left = take 1 left

abbrev pub next_following : Option (List ℕ) → List (List ℕ) → List (List ℕ)
next_following (Some text) left = left
next_following None left = drop 1 left

-- so for each place
unfoldable pub in_places : List ℕ → List Report → List (List ℕ) → List (List ℕ)
in_places [] kept left = []
in_places (p ∷ ps) kept left = kept_or_next (kept_at p kept) left ++ in_places ps kept (next_following (kept_at p kept) left)
