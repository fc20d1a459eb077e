-- What the clauses of a run with watchers say, from what comes of it.
use Rattle.std.proofs.Common.{◌≡◌, ℕ, List, [], ◌∷◌, ◌++◌, length, map, refl, sym, ◌∙◌, ap}
use Rattle.std.specs.List.{flat_map, range_with_len}
use Rattle.std.proofs.lemmas.List.{append-nil, length-map}
use Rattle.mx_plan.specs.Wild.{Course, ends, meets_wild}
use Rattle.mx_code.specs.declared.trace.Trace.{Trace}
use Rattle.mx_watch.specs.Hearing.{Hears}
use Rattle.mx_watch.specs.Listening.{listening, starting, watched}
use Rattle.mx_watch.specs.WatchedRuns.{UnlessWild, left_with_reports}
use Rattle.mx_watch.specs.Watching.{Watching}
use Rattle.mx_watch.specs.declared.telling.Report.{Report}
use Rattle.mx_watch.proofs.HearingLaws.{left_of_all, kept_of_all}

-- ---- what is heard

module _ {A : Type 0} (f : A → Watching) (ts : List Trace) (P : List ℕ) (xs ys : List A) (K R : List Report) (n : ℕ) where
  pub hears-placed : P ≡ range_with_len 0 n → n ≡ length xs → (map f ys, R) ≡ left_with_reports (watched ts (listening P (map f xs) K)) → Hears ts (map f xs) (map f ys) K R
  hears-placed places count h =
      let start = starting (map f xs) K in
      let begun : listening P (map f xs) K ≡ start = ap (λ p. listening p (map f xs) K) (places ∙ ap (range_with_len 0) (count ∙ sym (length-map xs f))) in
      let all : (map f ys, R) ≡ left_with_reports (watched ts start) = h ∙ ap (λ l. left_with_reports (watched ts l)) begun in
      record {
        staying = ap (λ (p : List Watching × List Report). p.0) all ∙ ap (map (λ (w : ℕ × Watching). w.1)) (left_of_all ts start);
        reports = ap (λ (p : List Watching × List Report). p.1) all ∙ kept_of_all ts start;
      }

abbrev no-reports : ℕ → List Report
no-reports k = []

nothing : (ks : List ℕ) → flat_map no-reports ks ≡ []
nothing [] = refl
nothing (k ∷ ks) = nothing ks

none-hear : (ts : List Trace) (K : List Report) → Hears ts [] [] K K
none-hear ts K = record { staying = refl; reports = sym (ap (λ rs. K ++ rs) (nothing (range_with_len 0 (length ts))) ∙ append-nil K) }

pub hears-nobody : {A : Type 0} (f : A → Watching) (ts : List Trace) (xs : List A) (K : List Report) → xs ≡ [] → Hears ts (map f xs) (map f xs) K K
hears-nobody f ts xs K e = rw e (none-hear ts K)

-- unless the list machine meets something wild
pub either-way : {A W : Type 0} (whole : Course A W) (P : Type 0) → P → UnlessWild whole P
either-way (ends a w) P p = p
either-way (meets_wild w) P p = tt

pub unless-by : {A W : Type 0} (whole : Course A W) (P Q : Type 0) → (P → Q) → UnlessWild whole P → UnlessWild whole Q
unless-by (ends a w) P Q f p = f p
unless-by (meets_wild w) P Q f p = tt
