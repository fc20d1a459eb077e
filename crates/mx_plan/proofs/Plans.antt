-- The ends of plans, and where memory runs out in them.
use Rattle.std.proofs.Common.{◌≡◌, ◌≢◌, ◌⊎◌, inl, inr, refl, sym, ap, subst, ◌∙◌, length-take-le}
use Rattle.mx_mem.specs.Space.{Contents}
use Rattle.mx_host.specs.HostModel.{HostModel}
use Rattle.mx_plan.specs.Plan.{Plan, returns, calls, bind, Acts, end_of, Stops, Comes, IsRest, end_after, StopsAfter}
use Rattle.mx_plan.specs.Calls.{host, HostPlan, SpacePlan, space, Both, both, on_host, on_space, look, need, beside_space, beside_host}

pub end_bind : {O : Type 0} {R : O → Type 0} {W A B : Type 0} (d : Acts O R W) (f : A → Plan O R B) (p : Plan O R A) (w : W) → end_of d (bind f p) w ≡ end_after d f (end_of d p w)
unfolding bind end_of
end_bind d f (returns a) w = refl
end_bind d f (calls o k) w = end_bind d f (k (d.act o w).0) (d.act o w).1

pub stops_first : {O : Type 0} {R : O → Type 0} {W A B : Type 0} (d : Acts O R W) (f : A → Plan O R B) (p : Plan O R A) (v w : W) → Stops d v p w → Stops d v (bind f p) w
unfolding bind Stops
stops_first d f (returns a) v w h = absurd h
stops_first d f (calls o k) v w (inl e) = inl e
stops_first d f (calls o k) v w (inr h) = inr (stops_first d f (k (d.act o w).0) v (d.act o w).1 h)

pub stops_after : {O : Type 0} {R : O → Type 0} {W A B : Type 0} (d : Acts O R W) (f : A → Plan O R B) (p : Plan O R A) (v w : W) → StopsAfter d v f (end_of d p w) → Stops d v (bind f p) w
unfolding bind Stops end_of
stops_after d f (returns a) v w h = h
stops_after d f (calls o k) v w h = inr (stops_after d f (k (d.act o w).0) v (d.act o w).1 h)

pub end_returns : {O : Type 0} {R : O → Type 0} {W A : Type 0} (d : Acts O R W) (a : A) (w : W) → end_of d (returns a) w ≡ (a, w)
unfolding end_of
end_returns d a w = refl

-- ---- over one of two worlds

pub end_on_host : {A Rest : Type 0} (p : HostPlan A) (s : Contents Rest) (m : HostModel) → end_of both (on_host p) (s, m) ≡ beside_space s (end_of host p m)
unfolding on_host end_of both
end_on_host (returns a) s m = refl
end_on_host (calls o k) s m = end_on_host (k (host.act o m).0) s (host.act o m).1

pub end_on_space : {A Rest : Type 0} (p : SpacePlan A) (s : Contents Rest) (m : HostModel) → end_of both (on_space p) (s, m) ≡ beside_host m (end_of space p s)
unfolding on_space end_of both
end_on_space (returns a) s m = refl
end_on_space (calls o k) s m = end_on_space (k (space.act o s).0) (space.act o s).1 m

pub stops_on_host : {A Rest : Type 0} (p : HostPlan A) (s : Contents Rest) (m n : HostModel) → Stops host n p m → Stops both (s, n) (on_host p) (s, m)
unfolding on_host Stops both
stops_on_host (returns a) s m n h = absurd h
stops_on_host (calls o k) s m n (inl e) = inl (refl, e)
stops_on_host (calls o k) s m n (inr h) = inr (stops_on_host (k (host.act o m).0) s (host.act o m).1 n h)

pub stops_on_space : {A Rest : Type 0} (p : SpacePlan A) (s t : Contents Rest) (m : HostModel) → Stops space t p s → Stops both (t, m) (on_space p) (s, m)
unfolding on_space Stops both
stops_on_space (returns a) s t m h = absurd h
stops_on_space (calls o k) s t m (inl e) = inl (e, refl)
stops_on_space (calls o k) s t m (inr h) = inr (stops_on_space (k (space.act o s).0) (space.act o s).1 t m h)

pub end_look : {Rest : Type 0} (w : Both Rest) → end_of both look w ≡ (w.0.bytes, w)
unfolding look end_of both
end_look w = refl

pub end_need : (m : HostModel) → end_of host need m ≡ (tt, m)
unfolding need end_of host
end_need m = refl

pub stops_need : (v m : HostModel) → v ≡ m → Stops host v need m
unfolding need Stops host
stops_need v m e = inl e

pub ruleset needs = (end_need, stops_need)

pub ruleset looking = (end_look)

pub ruleset lifting = (end_on_host, end_on_space, stops_on_host, stops_on_space)

pub ruleset plans = (end_bind, stops_first, stops_after, end_returns, length-take-le)

-- ---- what is left

pub rest_after : {O : Type 0} {R : O → Type 0} {W A B : Type 0} (d : Acts O R W) (f : A → Plan O R B) (p : Plan O R A) (a : A) (now v start : W) (whole : Plan O R B) →
    (a, now) ≡ end_of d p v → IsRest d (bind f p) v whole start → IsRest d (f a) now whole start
rest_after d f p a now v start whole e r = record {
  ending = r.ending ∙ end_bind d f p v ∙ ap (end_after d f) (sym e);
  stopping = λ w h. r.stopping w (stops_after d f p w v (subst (StopsAfter d w f) e h));
}

-- the last part of what is left is done: at its answer the rest is over
pub rest_done : {O : Type 0} {R : O → Type 0} {W A B : Type 0} (d : Acts O R W) (f : A → Plan O R B) (p : Plan O R A) (x none : A) (last result : B) (at now start : W) (whole : Plan O R B) →
    f x ≡ returns result → (result ≢ last → x ≢ none) → (result ≡ last → x ≡ none) → Comes d at now none x p → IsRest d (bind f p) at whole start → Comes d start now last result whole
unfolding end_of
rest_done {O} {R} {W} {A} {B} d f p x none last result at now start whole over some lacks c r = record {
  ending = λ ne. sym (r.ending ∙ end_bind d f p at ∙ ap (end_after d f) (sym (c.ending (some ne))) ∙ ap (λ (q : Plan O R B). end_of d q now) over);
  stopping = λ e. r.stopping now (stops_first d f p now at (c.stopping (lacks e)));
}
