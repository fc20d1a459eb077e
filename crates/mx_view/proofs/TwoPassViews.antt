-- What is shown is what the two passes say.
use Rattle.std.proofs.Common.{◌≡◌, ◌<◌, ◌^◌, ℕ, true, cond, List, ap, refl, ◌∙◌, Option, None, nat_lt, arith}
use Rattle.std.proofs.lemmas.Bool.Decides.{nat_tests}
use Rattle.mx_word.specs.Ranges.{AreBytes}
use Rattle.mx_mem.specs.Memory.{tetra_of}
use Rattle.mx_asm.specs.Entries.{source_entries, statements_in}
use Rattle.mx_asm.specs.Image.{image, symbols_of}
use Rattle.mx_asm.specs.Pages.{run_refusal, run_refusal_with}
use Rattle.mx_asm.specs.Refusal.{refusal}
use Rattle.mx_asm.specs.declared.refused.Refused.{Refused}
use Rattle.mx_asm.proofs.InTurn.{source-accepted}
use Rattle.mx_asm.proofs.ObjectLaws.{source-told}
use Rattle.mx_files.specs.Sources.{meaning_unless}
unfoldable use Rattle.mx_files.specs.Sources.{source_meaning}
use Rattle.mx_view.specs.declared.cells.Cell.{Cell}
use Rattle.mx_view.specs.Listing.{symbols_at_end, symbols_listed, symbols_told}
use Rattle.mx_view.specs.Rows.{shown}

is-low : (a : ℕ) → a < 2 ^ 63 → nat_lt a (2 ^ 63) ≡ true
is-low a e = grind (arith, nat_tests)

pub tetra-shown : (source : List ℕ) (c : Cell) → run_refusal source ≡ None → c.address < 2 ^ 63 →
    shown (source_meaning source) c ≡ tetra_of ((image (statements_in (source_entries source))).memory c.address) c.address
unfolding source_meaning
tetra-shown source c none low =
    let whole = image (statements_in (source_entries source)) in
    ap (λ r. shown (meaning_unless r whole) c) none
    ∙ ap (λ b. cond b (tetra_of (whole.memory c.address) c.address) c.tetra) (is-low c.address low)

-- a source that is not refused when it is run is not refused when it is assembled
pub not-refused : (pages : Option ℕ) (refused : Option Refused) → run_refusal_with pages refused ≡ None → refused ≡ None
not-refused None None h = refl
not-refused pages refused h = absurd (cc)

pub symbols-shown : (source : List ℕ) → AreBytes source → run_refusal source ≡ None →
    symbols_listed source ≡ symbols_of (statements_in (source_entries source))
unfolding source_meaning
symbols-shown source bytes run =
    let statements = statements_in (source_entries source) in
    let is = source-accepted source (not-refused _ (refusal source) run) in
    (λ i. symbols_at_end (meaning_unless (run i) (image statements)) (is i).1)
    ∙ ap symbols_told (source-told source bytes _ _ is)

pub ruleset views = (tetra-shown, symbols-shown)
