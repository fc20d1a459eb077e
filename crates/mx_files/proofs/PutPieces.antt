-- A text is written piece by piece.
use Rattle.std.proofs.Common.{◌≡◌, ℕ, suc, ◌-◌, ◌/◌, ◌<◌, ◌≤◌, List, length, take, drop, length-drop, arith, refl, sym, subst, Ok, Err}
use Rattle.std.specs.Prelude.{Option, Result}
use Rattle.mx_host.specs.HostModel.{HostModel}
use Rattle.mx_plan.specs.Plan.{bind}
use Rattle.mx_files.specs.Clauses.{DoesPartBetween, Leaves}
use Rattle.mx_files.specs.FilePlans.{Part, on_ok, write_piece, write_pieces, text_plan}
use Rattle.mx_outcome.specs.declared.outcome.Outcome.{Outcome}
use Rattle.mx_files.proofs.Parts.{works-on, works-ends, leaves-all, leaves-on, leaves-next}

-- one piece more than of what follows the first
more-pieces : (n : ℕ) → 4096 < n → (n - 1) / 4096 ≡ suc ((n - 4096 - 1) / 4096)
more-pieces n h = grind arith

no-more : (n : ℕ) → n ≤ 4096 → (n - 1) / 4096 ≡ 0
no-more n h = grind arith

text-more : (slot : ℕ) (text : List ℕ) → 4096 < length text → text_plan slot text ≡ bind (on_ok (λ u. text_plan slot (drop 4096 text))) (write_piece slot (take 4096 text))
unfolding text_plan write_pieces
text-more slot text h =
    let fewer : length (drop 4096 text) ≡ length text - 4096 = length-drop 4096 text in
    rw (more-pieces (length text) h, fewer) refl

text-one : (slot : ℕ) (text : List ℕ) → length text ≤ 4096 → text_plan slot text ≡ write_piece slot text
unfolding text_plan write_pieces
text-one slot text h = rw (no-more (length text) h) refl

pub text-next : (a b c : Option HostModel) (k m n slot : ℕ) (text piece others : List ℕ) (whole : Part (Unit {0})) → 4096 < length text → piece ≡ take 4096 text → others ≡ drop 4096 text →
    Leaves a b k m (text_plan slot text) whole → DoesPartBetween b c m n (Ok tt) (write_piece slot piece) → Leaves a c k n (text_plan slot others) whole
text-next a b c k m n slot text piece others whole l front back h w =
    let next = leaves-next b c m n tt (λ u. text_plan slot (drop 4096 text)) (write_piece slot (take 4096 text)) (subst (λ p. DoesPartBetween b c m n (Ok tt) (write_piece slot p)) front w) in
    subst (λ p. Leaves a c k n (text_plan slot p) whole) (sym back)
    (leaves-on a b c k m n (text_plan slot (drop 4096 text)) (text_plan slot text) whole h (subst (λ p. Leaves b c m n (text_plan slot (drop 4096 text)) p) (sym (text-more slot text l)) next))

pub text-ends : (a b c : Option HostModel) (k m n slot : ℕ) (text piece : List ℕ) (outcome : Outcome) (whole : Part (Unit {0})) → 4096 < length text → piece ≡ take 4096 text →
    Leaves a b k m (text_plan slot text) whole → DoesPartBetween b c m n (Err outcome) (write_piece slot piece) → DoesPartBetween a c k n (Err outcome) whole
text-ends a b c k m n slot text piece outcome whole l front h w =
    let end = works-ends b c m n outcome (λ u. text_plan slot (drop 4096 text)) (write_piece slot (take 4096 text)) (subst (λ p. DoesPartBetween b c m n (Err outcome) (write_piece slot p)) front w) in
    works-on a b c k m n (Err outcome) (text_plan slot text) whole h (subst (λ p. DoesPartBetween b c m n (Err outcome) p) (sym (text-more slot text l)) end)

pub text-last : (a b c : Option HostModel) (k m n slot : ℕ) (text : List ℕ) (r : Result (Unit {0}) Outcome) (whole : Part (Unit {0})) → length text ≤ 4096 → Leaves a b k m (text_plan slot text) whole →
    DoesPartBetween b c m n r (write_piece slot text) → DoesPartBetween a c k n r whole
text-last a b c k m n slot text r whole l h w =
    works-on a b c k m n r (text_plan slot text) whole h (subst (λ p. DoesPartBetween b c m n r p) (sym (text-one slot text l)) w)

pub ruleset putting = (text-next, text-ends, text-last, leaves-all)
