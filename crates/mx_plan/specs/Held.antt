-- What every call of a world keeps, and so every plan.
use Rattle.std.specs.Prelude.{ℕ, ◌≡◌}
use Rattle.mx_word.specs.Lists.{IsFront}
use Rattle.mx_host.specs.HostModel.{HostModel, slot_at, to_input, to_output, to_errors}
use Rattle.mx_host.specs.declared.slots.Slot.{Slot}
use Rattle.mx_plan.specs.Plan.{Acts, Plan, returns, calls}

-- A relation that every call keeps: it leads from each world to itself, through worlds in between, over each call, over one
-- that lacks memory, and from where memory ran out in a call to where that call would have led.
pub record Held {O : Type 0} {R : O → Type 0} {W : Type 0} (d : Acts O R W) (Rel : W → W → Type 0) : Type 0 where
  pub self : (w : W) → Rel w w
  pub through : (u v w : W) → Rel u v → Rel v w → Rel u w
  pub acting : (o : O) (w : W) → Rel w (d.act o w).1
  pub lacking : (o : O) (w v : W) → d.Lacks o w v → Rel w v
  pub between : (o : O) (w v : W) → d.Lacks o w v → Rel v (d.act o w).1

-- each call that a plan makes on its way is such a one, in the world where it is made
unfoldable pub Makes : {O : Type 0} {R : O → Type 0} {W A : Type 0} → Acts O R W → (O → W → Type 0) → Plan O R A → W → Type 0
Makes d Such (returns a) w = Unit {0}
Makes d Such (calls o k) w = Such o w × Makes d Such (k (d.act o w).0) (d.act o w).1

-- a call that never lacks memory in a world
abbrev pub NeverLacks : {O : Type 0} {R : O → Type 0} {W : Type 0} → Acts O R W → O → W → Type 0
NeverLacks {O} {R} {W} d o w = (v : W) → d.Lacks o w v → ⊥

-- standard output only grows
abbrev pub OnlyAdds : HostModel → HostModel → Type 0
OnlyAdds m n = IsFront m.output n.output

-- a slot that leads to this still does
abbrev pub LeadsStill : ℕ → Slot → HostModel → HostModel → Type 0
LeadsStill slot to m n = slot_at m slot ≡ to → slot_at n slot ≡ to

-- standard output only grows, and each slot of the tool that leads to its stream still does
pub record KeepsStreams (m n : HostModel) : Type 0 where
  pub growing : OnlyAdds m n
  pub input : LeadsStill 258 to_input m n
  pub output : LeadsStill 259 to_output m n
  pub errors : LeadsStill 260 to_errors m n
