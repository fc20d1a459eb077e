-- What is shown of an address are the tetras of the listing that hold it.
use Rattle.std.proofs.Common.{◌≡◌, ℕ, ◌+◌, List, [], ◌∷◌, ◌++◌, length, map, fold, Bool, true, false, cond, ◌==◌, ◌||◌, ◌<◌, bit_xor, append-nil, arith, refl, sym, ap, ◌∙◌, Option, None, Some}
use Rattle.std.specs.List.{filter}
use Rattle.std.proofs.lemmas.Bool.{cond_both}
use Rattle.std.proofs.lemmas.Bool.Decides.{nat_tests}
use Rattle.std.proofs.lemmas.Grind.{flat_map-append}
use Rattle.std.proofs.lemmas.List.Elements.{filter-append}
use Rattle.mx_line.specs.Lines.{lines_of}
use Rattle.mx_mmo.specs.declared.items.Item.{Item}
use Rattle.mx_mmo.specs.declared.items.Item.TheVariants.{Load}
use Rattle.mx_type.specs.Lambda.{lambda_after, lambda_of}
use Rattle.mx_type.specs.Lines.{tetra_address}
use Rattle.mx_asm.specs.Whole.{Line, lines_items, lines_refusal}
use Rattle.mx_asm.specs.declared.refused.Refused.{Refused}
use Rattle.mx_files.specs.Sources.{source_meaning}
use Rattle.mx_view.specs.declared.cells.Cell.{Cell}
use Rattle.mx_view.specs.declared.cells.Wanted.TheVariants.{All, Holding}
use Rattle.mx_view.specs.declared.lines.ListedLine.{ListedLine}
use Rattle.mx_view.specs.Cells.{cell_of}
unfoldable use Rattle.mx_view.specs.Cells.{cells_of}
use Rattle.mx_view.specs.ListingParts.{holds, kept_line, line_at_address, lines_at_address}
use Rattle.mx_view.specs.Listing.{added_items, line_cells, line_listed, listed_unless, lines_listed}
unfoldable use Rattle.mx_view.specs.Listing.{listed_after}
use Rattle.mx_view.specs.Rows.{Meaning, is_loaded_at, joined_with, listed, listed_line, shown_cell, with_cell}
unfoldable use Rattle.mx_view.specs.Rows.{once}
use Rattle.mx_view.proofs.OnceLaws.{joined-stays}

module _ (a : ℕ) where
  abbrev kept : List Cell → List Cell
  kept cells = filter (holds a) cells

  -- ---- what items load

  cells-kept : (lambda : ℕ) (items : List Item) → cells_of (Holding a) lambda items ≡ kept (cells_of All lambda items)
  unfolding cells_of
  cells-kept lambda [] = refl
  cells-kept lambda (item ∷ items) =
      (λ i. one item i ++ cells-kept (lambda_after lambda item) items i)
      ∙ sym (filter-append (holds a) (cell_of All lambda item) (cells_of All (lambda_after lambda item) items))
    where
      one : (item : Item) → cell_of (Holding a) lambda item ≡ kept (cell_of All lambda item)
      one (Load t) = refl
      one other = refl

  -- ---- each address once

  out-joined : (c : Cell) (cells : List Cell) → holds a c ≡ false → kept (map (joined_with c) cells) ≡ kept cells
  out-joined c [] out = refl
  out-joined c (d ∷ cells) out = by (d.address == c.address) refl (out-joined c cells out)
    where
      same-out : (d.address == c.address) ≡ true → (tetra_address a == d.address) ≡ false
      same-out e = grind (arith, nat_tests)

      both : Cell
      both = record { address = d.address; tetra = bit_xor d.tetra c.tetra }

      by : (b : Bool) → (d.address == c.address) ≡ b → kept (map (joined_with c) cells) ≡ kept cells → kept (cond b both d ∷ map (joined_with c) cells) ≡ kept (d ∷ cells)
      by true e rest = (λ i. cond (same-out e i) (both ∷ kept (map (joined_with c) cells)) (kept (map (joined_with c) cells))) ∙ rest ∙ sym (ap (λ b. cond b (d ∷ kept cells) (kept cells)) (same-out e))
      by false e rest = ap (λ l. cond (holds a d) (d ∷ l) l) rest

  kept-joined : (c : Cell) (cells : List Cell) → kept (map (joined_with c) cells) ≡ map (joined_with c) (kept cells)
  kept-joined c [] = refl
  kept-joined c (d ∷ cells) =
      (λ i. cond (tetra_address a == joined-stays c d i) (joined_with c d ∷ kept-joined c cells i) (kept-joined c cells i)) ∙ by (holds a d)
    where
      by : (b : Bool) → cond b (joined_with c d ∷ map (joined_with c) (kept cells)) (map (joined_with c) (kept cells)) ≡ map (joined_with c) (cond b (d ∷ kept cells) (kept cells))
      by true = refl
      by false = refl

  kept-loaded : (b : ℕ) (cells : List Cell) → (tetra_address a == b) ≡ true → is_loaded_at (kept cells) b ≡ is_loaded_at cells b
  kept-loaded b [] e = refl
  kept-loaded b (d ∷ cells) e = by (holds a d) refl (kept-loaded b cells e)
    where
      off : holds a d ≡ false → (d.address == b) ≡ false
      off f = grind (arith, nat_tests)

      by : (t : Bool) → holds a d ≡ t → is_loaded_at (kept cells) b ≡ is_loaded_at cells b → is_loaded_at (cond t (d ∷ kept cells) (kept cells)) b ≡ (d.address == b || is_loaded_at cells b)
      by true f rest = ap (λ t. d.address == b || t) rest
      by false f rest = rest ∙ sym (ap (λ t. t || is_loaded_at cells b) (off f))

  with-in : (cells : List Cell) (c : Cell) → holds a c ≡ true → kept (with_cell cells c) ≡ with_cell (kept cells) c
  with-in cells c e = by (is_loaded_at cells c.address) ∙ ap (λ b. cond b (map (joined_with c) (kept cells)) (kept cells ++ c ∷ [])) (sym (kept-loaded c.address cells e))
    where
      by : (b : Bool) → kept (cond b (map (joined_with c) cells) (cells ++ c ∷ [])) ≡ cond b (map (joined_with c) (kept cells)) (kept cells ++ c ∷ [])
      by true = kept-joined c cells
      by false = filter-append (holds a) cells (c ∷ []) ∙ ap (λ b. kept cells ++ cond b (c ∷ []) []) e

  with-out : (cells : List Cell) (c : Cell) → holds a c ≡ false → kept (with_cell cells c) ≡ kept cells
  with-out cells c e =
      cond_both (is_loaded_at cells c.address) (map (joined_with c) cells) (cells ++ c ∷ []) (λ l. kept l ≡ kept cells) (λ f. out-joined c cells e)
      (λ f. filter-append (holds a) cells (c ∷ []) ∙ ap (λ b. kept cells ++ cond b (c ∷ []) []) e ∙ append-nil (kept cells))

  fold-kept : (cells front : List Cell) → fold with_cell (kept front) (kept cells) ≡ kept (fold with_cell front cells)
  fold-kept [] front = refl
  fold-kept (c ∷ cells) front = by (holds a c) refl (fold-kept cells (with_cell front c))
    where
      by : (b : Bool) → holds a c ≡ b → fold with_cell (kept (with_cell front c)) (kept cells) ≡ kept (fold with_cell (with_cell front c) cells) →
          fold with_cell (kept front) (cond b (c ∷ kept cells) (kept cells)) ≡ kept (fold with_cell (with_cell front c) cells)
      by true e rest = ap (λ l. fold with_cell l (kept cells)) (sym (with-in front c e)) ∙ rest
      by false e rest = ap (λ l. fold with_cell l (kept cells)) (sym (with-out front c e)) ∙ rest

  once-kept : (cells : List Cell) → once (kept cells) ≡ kept (once cells)
  unfolding once
  once-kept cells = fold-kept cells []

  shown-kept : (m : Meaning) (cells : List Cell) → kept (map (shown_cell m) cells) ≡ map (shown_cell m) (kept cells)
  shown-kept m [] = refl
  shown-kept m (c ∷ cells) = ap (λ l. cond (holds a c) (shown_cell m c ∷ l) l) (shown-kept m cells) ∙ by (holds a c)
    where
      by : (b : Bool) → cond b (shown_cell m c ∷ map (shown_cell m) (kept cells)) (map (shown_cell m) (kept cells)) ≡ map (shown_cell m) (cond b (c ∷ kept cells) (kept cells))
      by true = refl
      by false = refl

  -- ---- lines

  -- tetras are left of some
  some-with : (c : Cell) (cells : List Cell) (d : Cell) → 0 < length (with_cell (c ∷ cells) d)
  some-with c cells d = cond_both (is_loaded_at (c ∷ cells) d.address) (map (joined_with d) (c ∷ cells)) (c ∷ cells ++ d ∷ []) (λ l. 0 < length l) (λ e. omega arith) (λ e. omega arith)

  some-fold : (cells front : List Cell) → 0 < length front → 0 < length (fold with_cell front cells)
  some-fold [] front h = h
  some-fold (c ∷ cells) [] h = absurd (omega (arith, h))
  some-fold (c ∷ cells) (d ∷ front) h = some-fold cells (with_cell (d ∷ front) c) (some-with d front c)

  some-once : (c : Cell) (cells : List Cell) → 0 < length (once (c ∷ cells))
  unfolding once
  some-once c cells = some-fold cells (c ∷ []) (omega arith)

  some-kept : (l : ListedLine) (m : Meaning) (cells : List Cell) → 0 < length cells → kept_line l (map (shown_cell m) cells) ≡ record l { cells = map (shown_cell m) cells } ∷ []
  some-kept l m [] h = absurd (omega (arith, h))
  some-kept l m (d ∷ cells) h = refl

  line-kept : (m : Meaning) (number : ℕ) (line : Line) (cells : List Cell) → listed m (Holding a) number line (kept cells) ≡ lines_at_address a (listed m All number line cells)
  unfolding once
  line-kept m number line [] = refl
  line-kept m number line (c ∷ cells) =
      by (kept (c ∷ cells)) refl
    where
      whole : ListedLine
      whole = listed_line m number line (c ∷ cells)

      are : kept whole.cells ≡ map (shown_cell m) (once (kept (c ∷ cells)))
      are = shown-kept m (once (c ∷ cells)) ∙ ap (map (shown_cell m)) (sym (once-kept (c ∷ cells)))

      by : (left : List Cell) → kept (c ∷ cells) ≡ left → listed m (Holding a) number line left ≡ lines_at_address a (whole ∷ [])
      by [] e = sym (ap (λ l. kept_line whole l ++ []) (are ∙ ap (λ l. map (shown_cell m) (once l)) e))
      by (d ∷ left) e =
          sym (some-kept whole m (once (d ∷ left)) (some-once d left))
          ∙ sym (ap (kept_line whole) (are ∙ ap (λ l. map (shown_cell m) (once l)) e))
          ∙ sym (append-nil (line_at_address a whole))

  unless-kept : (r : Option Refused) (l k : List ListedLine) → l ≡ lines_at_address a k → listed_unless r l ≡ lines_at_address a (listed_unless r k)
  unless-kept None l k e = e
  unless-kept (Some r) l k e = refl

  listed-kept : (m : Meaning) (before : List Line) (line : Line) → line_listed m (Holding a) before line ≡ lines_at_address a (line_listed m All before line)
  listed-kept m before line =
      unless-kept (lines_refusal before) _ (listed m All (length before + 1) line (line_cells All before line))
      (ap (listed m (Holding a) (length before + 1) line) (cells-kept (lambda_of (lines_items before)) (added_items before line))
      ∙ line-kept m (length before + 1) line (line_cells All before line))

  lines-kept : (m : Meaning) (later before : List Line) → listed_after m (Holding a) before later ≡ lines_at_address a (listed_after m All before later)
  unfolding listed_after
  lines-kept m [] before = refl
  lines-kept m (line ∷ later) before =
      (λ i. listed-kept m before line i ++ lines-kept m later (before ++ line ∷ []) i)
      ∙ sym (flat_map-append (line_at_address a) (line_listed m All before line) (listed_after m All (before ++ line ∷ []) later))

pub where-shows : (source : List ℕ) (a : ℕ) → lines_listed (Holding a) source ≡ lines_at_address a (lines_listed All source)
where-shows source a = lines-kept a (source_meaning source) (lines_of source) []

pub ruleset addresses = (where-shows)
