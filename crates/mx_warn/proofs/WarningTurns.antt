-- Warnings of statements and of lines, one after another.
use Rattle.std.proofs.Common.{◌≡◌, ◌≤◌, ◌-◌, ℕ, List, [], ◌∷◌, ◌++◌, length, take, drop, slice_index_or, append-nil, append_assoc, arith, refl, sym, subst, ap, ◌∙◌}
use Rattle.std.proofs.lemmas.List.{take_all}
use Rattle.mx_slips.specs.declared.returns.Place.{Place}
use Rattle.mx_slips.specs.declared.sources.SourceLine.{SourceLine}
use Rattle.mx_slips.specs.declared.sources.Statement.{Statement}
use Rattle.mx_slips.specs.declared.surveys.Survey.{Survey}
use Rattle.mx_warn.specs.declared.warnings.Warning.{Warning}
use Rattle.mx_slips.specs.Returns.{place_after}
use Rattle.mx_warn.specs.Warnings.{line_warnings, lines_warnings, place_through, statement_warnings, statements_warnings}

-- the elements after the first one, as a loop has them
later-whole : {X : Type 0} (x : X) (more : List X) → take (length (x ∷ more) - 1) more ≡ more
later-whole x more = take_all (length (x ∷ more) - 1) more (omega arith)

pub statement-at : (told : List Warning) (survey : Survey) (line : SourceLine) (place : Place) (rest : List Statement) (s : Statement) →
    s ≡ slice_index_or rest 0 s → 1 ≤ length rest →
    told ++ statements_warnings survey line place rest
    ≡ (told ++ statement_warnings survey line place s) ++ statements_warnings survey line (place_after survey.uses line.number s place) (take (length rest - 1) (drop 1 rest))
unfolding statements_warnings
statement-at told survey line place [] s is e = absurd (omega (arith, e))
statement-at told survey line place (x ∷ more) s is e =
    subst (λ y. told ++ statements_warnings survey line place (x ∷ more)
    ≡ (told ++ statement_warnings survey line place y) ++ statements_warnings survey line (place_after survey.uses line.number y place) (take (length (x ∷ more) - 1) more))
    (sym is)
    (sym (append_assoc told (statement_warnings survey line place x) _)
    ∙ ap (λ m. (told ++ statement_warnings survey line place x) ++ statements_warnings survey line (place_after survey.uses line.number x place) m) (sym (later-whole x more)))

pub statement-none : (told : List Warning) (survey : Survey) (line : SourceLine) (place : Place) (rest : List Statement) → length rest ≤ 0 →
    told ++ statements_warnings survey line place rest ≡ told
unfolding statements_warnings
statement-none told survey line place [] e = append-nil told
statement-none told survey line place (x ∷ more) e = absurd (omega (arith, e))

pub place-at : (survey : Survey) (number : ℕ) (place : Place) (rest : List Statement) (s : Statement) → s ≡ slice_index_or rest 0 s → 1 ≤ length rest →
    place_through survey number place rest ≡ place_through survey number (place_after survey.uses number s place) (take (length rest - 1) (drop 1 rest))
unfolding place_through
place-at survey number place [] s is e = absurd (omega (arith, e))
place-at survey number place (x ∷ more) s is e =
    subst (λ y. place_through survey number place (x ∷ more) ≡ place_through survey number (place_after survey.uses number y place) (take (length (x ∷ more) - 1) more))
    (sym is)
    (ap (λ m. place_through survey number (place_after survey.uses number x place) m) (sym (later-whole x more)))

pub place-none : (survey : Survey) (number : ℕ) (place : Place) (rest : List Statement) → length rest ≤ 0 → place_through survey number place rest ≡ place
unfolding place_through
place-none survey number place [] e = refl
place-none survey number place (x ∷ more) e = absurd (omega (arith, e))

pub line-at : (told : List Warning) (survey : Survey) (place : Place) (rest : List SourceLine) (line : SourceLine) → line ≡ slice_index_or rest 0 line → 1 ≤ length rest →
    told ++ lines_warnings survey place rest
    ≡ (told ++ line_warnings survey place line) ++ lines_warnings survey (place_through survey line.number place line.statements) (take (length rest - 1) (drop 1 rest))
unfolding lines_warnings
line-at told survey place [] line is e = absurd (omega (arith, e))
line-at told survey place (x ∷ more) line is e =
    subst (λ y. told ++ lines_warnings survey place (x ∷ more)
    ≡ (told ++ line_warnings survey place y) ++ lines_warnings survey (place_through survey y.number place y.statements) (take (length (x ∷ more) - 1) more))
    (sym is)
    (sym (append_assoc told (line_warnings survey place x) _)
    ∙ ap (λ m. (told ++ line_warnings survey place x) ++ lines_warnings survey (place_through survey x.number place x.statements) m) (sym (later-whole x more)))

pub line-none : (told : List Warning) (survey : Survey) (place : Place) (rest : List SourceLine) → length rest ≤ 0 → told ++ lines_warnings survey place rest ≡ told
unfolding lines_warnings
line-none told survey place [] e = append-nil told
line-none told survey place (x ∷ more) e = absurd (omega (arith, e))
