-- RESUME 0 sets no register that is neither local nor global.
use Rattle.std.proofs.Common.{◌≡◌, ℕ, ◌<◌, ◌^◌, ◌==◌, ◌||◌, Bool, true, false, Option, None, Some, arith, subst}
use Rattle.mx_alu.specs.Insertions.{insertion, insertion_of, insertion_place, inserted_tetra, event_byte, kind_of, goes_back, is_illegal, is_left_out, is_marginal, x_in, code_in, resume_code}
use Rattle.mx_alu.specs.declared.insertion.Insert.{Insert}
use Rattle.mx_alu.specs.declared.insertion.Insert.TheVariants as insert
use Rattle.mx_alu.specs.declared.insertion.Kind.{Kind}
use Rattle.mx_alu.specs.declared.insertion.Kind.TheVariants.{Again, Continue, Set}
use Rattle.mx_core.proofs.Choices.{chosen, chosen-by}

-- if it is a register that is set, it is not marginal
abbrev Sets : ℕ → ℕ → Insert → Type 0
Sets l g ins = (at word : ℕ) → ins ≡ insert.Perform Set at word → is_marginal (x_in word) l g ≡ false

or-second : (a b : Bool) → (a || b) ≡ false → b ≡ false
or-second true b e = absurd (cc)
or-second false b e = e

set-not-marginal : (w l g place : ℕ) → is_illegal Set w l g ≡ false → Sets l g (insert.Perform Set place w)
set-not-marginal w l g place e at word f =
    let same : w ≡ word = cc in
    subst (λ v. is_marginal (x_in v) l g ≡ false) same (or-second (code_in w == resume_code) _ e)

kind-sets : (kind : Option Kind) (w events place l g : ℕ) → Sets l g (insertion_of kind w events place l g)
kind-sets None w events place l g = λ at word f. absurd (cc)
kind-sets (Some Again) w events place l g = chosen (Sets l g) (is_illegal Again w l g) _ _ (λ at word f. absurd (cc)) (chosen (Sets l g) (is_left_out Again w events) _ _ (λ at word f. absurd (cc)) (λ at word f. absurd (cc)))
kind-sets (Some Continue) w events place l g = chosen (Sets l g) (is_illegal Continue w l g) _ _ (λ at word f. absurd (cc)) (chosen (Sets l g) (is_left_out Continue w events) _ _ (λ at word f. absurd (cc)) (λ at word f. absurd (cc)))
kind-sets (Some Set) w events place l g = chosen-by (Sets l g) (is_illegal Set w l g) _ _ (λ e at word f. absurd (cc)) (λ e. chosen (Sets l g) (is_left_out Set w events) _ _ (λ at word f. absurd (cc)) (set-not-marginal w l g place e))

pub insertion-sets : (rx next l g at word : ℕ) → insertion rx next l g ≡ insert.Perform Set at word → is_marginal (x_in word) l g ≡ false
insertion-sets rx next l g = chosen (Sets l g) (goes_back rx) _ _ (λ at word f. absurd (cc)) (kind-sets (kind_of rx) (inserted_tetra rx) (event_byte rx) (insertion_place next) l g)

-- what is inserted is a tetra
abbrev IsTetra : Insert → Type 0
IsTetra ins = (kind : Kind) (at word : ℕ) → ins ≡ insert.Perform kind at word → word < 2 ^ 32

perform-tetra : (kind : Kind) (place w : ℕ) → w < 2 ^ 32 → IsTetra (insert.Perform kind place w)
perform-tetra kind place w h k at word f = let same : w ≡ word = cc in subst (λ v. v < 2 ^ 32) same h

kind-tetra : (kind : Option Kind) (w events place l g : ℕ) → w < 2 ^ 32 → IsTetra (insertion_of kind w events place l g)
kind-tetra None w events place l g h = λ k at word f. absurd (cc)
kind-tetra (Some kind) w events place l g h = chosen IsTetra (is_illegal kind w l g) _ _ (λ k at word f. absurd (cc)) (chosen IsTetra (is_left_out kind w events) _ _ (λ k at word f. absurd (cc)) (perform-tetra kind place w h))

pub insertion-tetra : (rx next l g at word : ℕ) (kind : Kind) → insertion rx next l g ≡ insert.Perform kind at word → word < 2 ^ 32
insertion-tetra rx next l g at word kind e = chosen IsTetra (goes_back rx) _ _ (λ k a v f. absurd (cc)) (kind-tetra (kind_of rx) (inserted_tetra rx) (event_byte rx) (insertion_place next) l g (omega arith)) kind at word e
