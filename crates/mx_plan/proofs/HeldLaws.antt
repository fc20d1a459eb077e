-- What every call keeps, every plan keeps.
use Rattle.std.proofs.Common.{inl, inr}
use Rattle.mx_plan.specs.Plan.{Plan, returns, calls, Acts, end_of, Stops}
use Rattle.mx_plan.specs.Held.{Held, Makes, NeverLacks}

pub held-end : {O : Type 0} {R : O → Type 0} {W A : Type 0} (d : Acts O R W) (Rel : W → W → Type 0) → Held d Rel → (p : Plan O R A) (w : W) → Rel w (end_of d p w).1
unfolding end_of
held-end d Rel h (returns a) w = h.self w
held-end d Rel h (calls o k) w = h.through w (d.act o w).1 _ (h.acting o w) (held-end d Rel h (k (d.act o w).0) (d.act o w).1)

pub held-stop : {O : Type 0} {R : O → Type 0} {W A : Type 0} (d : Acts O R W) (Rel : W → W → Type 0) → Held d Rel → (p : Plan O R A) (v w : W) → Stops d v p w → Rel w v
unfolding Stops
held-stop d Rel h (returns a) v w s = absurd s
held-stop d Rel h (calls o k) v w (inl e) = h.lacking o w v e
held-stop d Rel h (calls o k) v w (inr s) = h.through w (d.act o w).1 v (h.acting o w) (held-stop d Rel h (k (d.act o w).0) v (d.act o w).1 s)

-- from a world in which memory ran out to what the end would have been
pub held-on : {O : Type 0} {R : O → Type 0} {W A : Type 0} (d : Acts O R W) (Rel : W → W → Type 0) → Held d Rel → (p : Plan O R A) (v w : W) → Stops d v p w → Rel v (end_of d p w).1
unfolding Stops end_of
held-on d Rel h (returns a) v w s = absurd s
held-on d Rel h (calls o k) v w (inl e) = h.through v (d.act o w).1 _ (h.between o w v e) (held-end d Rel h (k (d.act o w).0) (d.act o w).1)
held-on d Rel h (calls o k) v w (inr s) = held-on d Rel h (k (d.act o w).0) v (d.act o w).1 s

-- where no call that is made lacks memory, the plan stops nowhere
pub never-stops : {O : Type 0} {R : O → Type 0} {W A : Type 0} (d : Acts O R W) (p : Plan O R A) (v w : W) → Makes d (NeverLacks d) p w → Stops d v p w → ⊥
unfolding Makes Stops
never-stops d (returns a) v w m s = s
never-stops d (calls o k) v w m (inl e) = m.0 v e
never-stops d (calls o k) v w m (inr s) = never-stops d (k (d.act o w).0) v (d.act o w).1 m.1 s

pub ruleset lacking = (never-stops)
