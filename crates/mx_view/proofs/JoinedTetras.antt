-- The tetras of a listing, joined, are the image of the two passes.
use Rattle.std.proofs.Common.{◌≡◌, length, map, ℕ, ◌+◌, ◌*◌, ◌/◌, ◌%◌, ◌^◌, ◌<◌, List, [], ◌∷◌, ◌++◌, Bool, true, false, cond, arith, refl, sym, ap, subst, ◌∙◌, None, Ok, Err, nat_lt, ◌==◌, ◌||◌}
use Rattle.std.proofs.lemmas.Bool.{eqb-true}
use Rattle.std.specs.List.{AllByRecursion}
use Rattle.std.proofs.lemmas.Bool.Decides.{nat_tests}
use Rattle.mx_word.specs.Ranges.{AreBytes}
use Rattle.mx_line.specs.Lines.{lines_of}
use Rattle.mx_mem.specs.Memory.{tetra_of}
use Rattle.mx_stmt.specs.declared.placed.Placed.{Placed}
use Rattle.mx_stmt.specs.Encoding.{encoding}
use Rattle.mx_stmt.specs.Placements.{from_place, placed}
use Rattle.mx_stmt.specs.Steps.{Answer}
use Rattle.mx_asm.specs.Emission.{first_head}
use Rattle.mx_asm.specs.Entries.{source_entries, statements_in}
unfoldable use Rattle.mx_asm.specs.Emission.{items_from}
use Rattle.mx_asm.specs.Image.{image, octa_from, octa_in}
unfoldable use Rattle.mx_asm.specs.Image.{placements}
use Rattle.mx_asm.specs.Pages.{run_refusal}
use Rattle.mx_asm.specs.Refusal.{refusal}
use Rattle.mx_asm.specs.TwoPass.{Sight, final_known, pieces, piece_with, sights_of, targets}
unfoldable use Rattle.mx_asm.specs.TwoPass.{pieces_of, sights_from}
use Rattle.mx_asm.specs.Whole.{Line, entries_items, lines_entries, lines_items}
unfoldable use Rattle.mx_asm.specs.Whole.{accepted}
use Rattle.mx_line.specs.Source.{items_from as line_items}
use Rattle.mx_asm.proofs.Words.{NameTable, encoding-laid, placed-append, xor_of_8}
use Rattle.mx_asm.proofs.MeaningMemory.{HaveBytes}
use Rattle.mx_asm.proofs.MeaningStates.{more-bytes}
use Rattle.mx_asm.proofs.MeaningStatements.{first-have}
use Rattle.mx_asm.proofs.MeaningSources.{source-are-accepted}
use Rattle.mx_asm.proofs.InTurn.{all-accepted}
use Rattle.mx_asm.proofs.MeaningSteady.{steady-all}
use Rattle.mx_files.specs.Sources.{source_meaning}
use Rattle.mx_view.specs.declared.cells.Cell.{Cell}
use Rattle.mx_view.specs.declared.cells.Wanted.TheVariants.{All}
unfoldable use Rattle.mx_view.specs.Cells.{cells_of}
use Rattle.mx_view.specs.ListingParts.{each_line_once, tetra_shown_at, all_tetras}
use Rattle.mx_view.specs.Listing.{cells_after, line_cells, lines_listed}
use Rattle.mx_view.specs.Rows.{Meaning, is_loaded_at, listed_line, once, shown_cell}
use Rattle.mx_type.specs.Lines.{tetra_address}
use Rattle.mx_view.proofs.CoveredBytes.{covers}
use Rattle.mx_view.proofs.EveryCell.{every-cell}
use Rattle.mx_view.proofs.LinesOnce.{once-accepted}
use Rattle.mx_view.proofs.LoadedTetras.{has, has-append}
use Rattle.mx_view.proofs.OnceLaws.{shown-all}
use Rattle.mx_view.proofs.TwoPassViews.{not-refused, tetra-shown}

-- ---- the bytes of a tetra

-- memory has one tetra at all addresses of four bytes
tetra-alike : (f : ℕ → ℕ) (a b : ℕ) → b ≡ tetra_address a → tetra_of (octa_in f b) b ≡ tetra_of (octa_in f a) a
tetra-alike f a b e =
    let octa : b / 8 * 8 ≡ a / 8 * 8 = omega (arith, e) in
    let half : nat_lt (b % 8) 4 ≡ nat_lt (a % 8) 4 = grind (arith, nat_tests) in
    λ i. cond (half i) (octa_from f (octa i) / 2 ^ 32) (octa_from f (octa i) % 2 ^ 32)

-- a tetra of four bytes that are 0
tetra-zero : (f : ℕ → ℕ) (a : ℕ) → HaveBytes f → ((q : ℕ) → q / 4 ≡ a / 4 → f q ≡ 0) → tetra_of (octa_in f a) a ≡ 0
tetra-zero f a have none = by (nat_lt (a % 8) 4) refl
  where
    b : ℕ
    b = a / 8 * 8

    by : (t : Bool) → nat_lt (a % 8) 4 ≡ t → cond t (octa_from f b / 2 ^ 32) (octa_from f b % 2 ^ 32) ≡ 0
    by true e =
        let l : a % 8 < 4 = grind (arith, nat_tests) in
        let z0 = none b (omega (arith, l)) in
        let z1 = none (b + 1) (omega (arith, l)) in
        let z2 = none (b + 2) (omega (arith, l)) in
        let z3 = none (b + 3) (omega (arith, l)) in
        omega (arith, z0, z1, z2, z3, have (b + 4), have (b + 5), have (b + 6), have (b + 7))
    by false e =
        let l : 4 < a % 8 + 1 = grind (arith, nat_tests) in
        let z4 = none (b + 4) (omega (arith, l)) in
        let z5 = none (b + 5) (omega (arith, l)) in
        let z6 = none (b + 6) (omega (arith, l)) in
        let z7 = none (b + 7) (omega (arith, l)) in
        omega (arith, z4, z5, z6, z7)

-- ---- the bytes that are placed

pieces-have : (final : NameTable) (later : List Sight) → HaveBytes (placed (placements (pieces_of final later)))
unfolding pieces_of placements
pieces-have final [] = first-have
pieces-have final (t ∷ later) = by (encoding (targets final later) t.known t.statement) refl (pieces-have final later)
  where
    by : (r : Answer Placed) → encoding (targets final later) t.known t.statement ≡ r → HaveBytes (placed (placements (pieces_of final later))) →
        HaveBytes (placed (placements (piece_with t.statement.line r ++ pieces_of final later)))
    by (Err fault) e rest = rest
    by (Ok p) e rest = λ q. subst (λ n. n < 2 ^ 8) (sym (placed-append (from_place p.start p.bytes) (placements (pieces_of final later)) q))
        (xor_of_8 (placed (from_place p.start p.bytes) q) (placed (placements (pieces_of final later)) q)
        (more-bytes [] p.start p.bytes first-have (encoding-laid (targets final later) t.known t.statement p e).bytes q) (rest q))

-- ---- the tetras that are listed

has-same : (cells : List Cell) (q a : ℕ) → q / 4 ≡ a / 4 → has cells q ≡ has cells a
unfolding has
has-same [] q a e = refl
has-same (c ∷ cells) q a e = λ i. c.address == 4 * e i || has-same cells q a e i

-- the items of lines load what those of their statements load: the opening loads nothing
lines-load : (lines : List Line) (a : ℕ) → has (cells_of All 0 (entries_items (lines_entries lines))) a ≡ has (cells_of All 0 (lines_items lines)) a
unfolding cells_of items_from accepted sights_from line_items
lines-load [] a = refl
lines-load (line ∷ lines) a = refl

-- tetras that each show what is at their address show it at all addresses that they hold
abbrev Shows : ℕ → ℕ → Cell → Type 0
Shows a x c = c.address ≡ tetra_address a → c.tetra ≡ x

listed-is : (a x : ℕ) (cells : List Cell) → AllByRecursion (Shows a x) cells → (has cells a ≡ false → x ≡ 0) → x ≡ tetra_shown_at cells a
unfolding has tetra_shown_at
listed-is a x [] here none = none refl
listed-is a x (c ∷ cells) here none = by (c.address == tetra_address a) refl (λ out. listed-is a x cells here.1 out)
  where
    by : (b : Bool) → (c.address == tetra_address a) ≡ b → ((has cells a ≡ false → x ≡ 0) → x ≡ tetra_shown_at cells a) → x ≡ cond b c.tetra (tetra_shown_at cells a)
    by true e rest = sym (here.0 (eqb-true c.address (tetra_address a) e))
    by false e rest = rest (λ out. none (ap (λ b. b || has cells a) e ∙ out))

-- the same of the tetras of lines
has-is : (cells : List Cell) (a : ℕ) → has cells a ≡ is_loaded_at cells (tetra_address a)
unfolding has
has-is [] a = refl
has-is (c ∷ cells) a = ap (λ b. c.address == tetra_address a || b) (has-is cells a)

lines-hold : (m : Meaning) (before later : List Line) (a : ℕ) → has (all_tetras (each_line_once m before later)) a ≡ has (cells_after All before later) a
unfolding each_line_once cells_after
lines-hold m before [] a = refl
lines-hold m before (line ∷ later) a =
    let cells = line_cells All before line in
    let shown : List Cell = (listed_line m (length before + 1) line cells).cells in
    has-append shown (all_tetras (each_line_once m (before ++ line ∷ []) later)) a
    ∙ (λ i. (has-is shown a ∙ shown-all m (length before + 1) line cells (tetra_address a) ∙ sym (has-is cells a)) i || lines-hold m (before ++ line ∷ []) later a i)
    ∙ sym (has-append cells (cells_after All (before ++ line ∷ []) later) a)

all-after : (P : Cell → Type 0) (xs ys : List Cell) → AllByRecursion P xs → AllByRecursion P ys → AllByRecursion P (xs ++ ys)
all-after P [] ys h g = g
all-after P (x ∷ xs) ys h g = (h.0, all-after P xs ys h.1 g)

module _ (m : Meaning) (P : Cell → Type 0) (each : (c : Cell) → P (shown_cell m c)) where
  cells-show : (cells : List Cell) → AllByRecursion P (map (shown_cell m) cells)
  cells-show [] = tt
  cells-show (c ∷ cells) = (each c, cells-show cells)

  lines-show : (before later : List Line) → AllByRecursion P (all_tetras (each_line_once m before later))
  unfolding each_line_once
  lines-show before [] = tt
  lines-show before (line ∷ later) =
      all-after P (listed_line m (length before + 1) line (line_cells All before line)).cells (all_tetras (each_line_once m (before ++ line ∷ []) later))
      (cells-show (once (line_cells All before line))) (lines-show (before ++ line ∷ []) later)

-- ---- the law

unlisted-is-zero : (source : List ℕ) (a : ℕ) → AreBytes source → refusal source ≡ None → has (cells_after All [] (lines_of source)) a ≡ false →
    tetra_of ((image (statements_in (source_entries source))).memory a) a ≡ 0
unlisted-is-zero source a bytes none out =
    let statements = statements_in (source_entries source) in
    let are = source-are-accepted source bytes none in
    let final : NameTable = (final_known statements).names in
    let all = all-accepted (sights_of statements) [] are.faultless in
    let loads : has (cells_of All 0 (items_from first_head [] (sights_of statements))) a ≡ false =
    ap (λ ss. has (cells_of All 0 (items_from first_head [] ss)) a) (sym all) ∙ lines-load (lines_of source) a ∙ ap (λ cells. has cells a) (sym (every-cell All (lines_of source))) ∙ out in
    tetra-zero (placed (placements (pieces statements))) a (pieces-have final (sights_of statements))
    (λ q e. covers final (sights_of statements) [] first_head q are.faultless (steady-all statements are.read are.faultless)
    (has-same (cells_of All 0 (items_from first_head [] (sights_of statements))) q a e ∙ loads))

pub joined : (source : List ℕ) (a : ℕ) → AreBytes source → run_refusal source ≡ None → a < 2 ^ 63 →
    tetra_of ((image (statements_in (source_entries source))).memory a) a ≡ tetra_shown_at (all_tetras (lines_listed All source)) a
joined source a bytes run low =
    let statements = statements_in (source_entries source) in
    let m = source_meaning source in
    let lines = lines_of source in
    let none : refusal source ≡ None = not-refused _ (refusal source) run in
    let x = tetra_of ((image statements).memory a) a in
    listed-is a x (all_tetras (each_line_once m [] lines))
    (lines-show m (Shows a x) (λ c e. tetra-shown source c run (omega (arith, e, low)) ∙ tetra-alike (placed (placements (pieces statements))) a c.address e) [] lines)
    (λ out. unlisted-is-zero source a bytes none (sym (lines-hold m [] lines a) ∙ out))
    ∙ ap (λ l. tetra_shown_at (all_tetras l) a) (sym (once-accepted source m none))

pub ruleset joining = (joined)
