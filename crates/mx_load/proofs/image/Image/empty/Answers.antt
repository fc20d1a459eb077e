-- with no entries there are no lines, and with no values every register is 0
use Rattle.std.proofs.Common.{◌≡◌, ℕ, Bool, true, false, cond, [], refl, ap, nat_le}
use Rattle.mx_mmo.specs.Meaning.{value_at}
use Rattle.mx_load.specs.Kept.{line_at}
use Rattle.mx_load.proofs.image.Image.empty.Goals as goal

-- no values, whichever register is asked for
no-value : (b : Bool) → ◌≡◌ {A = ℕ} (cond b 0 0) 0
no-value true = refl
no-value false = refl

no-values : (g : ℕ) → value_at g [] ≡ (λ k. 0)
no-values g = λ i k. no-value (nat_le g k) i

pub returns : goal.returns
unfolding line_at
returns c =
    rw (c.new.ensures.octas, c.new.ensures.pages, c.new.ensures.count, c.new-2.ensures.empty, c.new-3.ensures.items)
    (ap (λ (global : ℕ → ℕ). record { memory = λ a. 0; pages = λ p. false; page_count = 0; line_of = λ a. 0; g = 255; global = global }) (no-values 255))
