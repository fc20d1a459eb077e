-- Parts of the work, one after another.
use Rattle.std.proofs.Common.{IsTrue, ◌≡◌, ◌≢◌, ◌⊎◌, inl, inr, ℕ, true, Ok, Err, refl, sym, ◌∙◌, ap, subst}
use Rattle.std.specs.Prelude.{Option, Result}
use Rattle.mx_host.specs.HostModel.{HostModel, tells, contents}
use Rattle.mx_plan.proofs.KeptHosts.{rose-on, keeps_host-all, keeps_host-then}
use Rattle.mx_plan.specs.Calls.{host, need}
use Rattle.mx_plan.specs.Held.{Makes}
use Rattle.mx_plan.specs.Plan.{Plan, returns, calls, bind, Acts, end_of, end_after, Stops, StopsAfter, IsRest}
use Rattle.mx_plan.proofs.Plans.{end_bind, end_returns, stops_first, stops_after, rest_after}
use Rattle.mx_files.specs.Clauses.{Serves, is_end, DoesPartBetween, Leaves}
use Rattle.mx_files.specs.FilePlans.{Part, on_ok}
use Rattle.mx_outcome.specs.declared.outcome.Outcome.{Outcome}
use Rattle.mx_outcome.specs.declared.outcome.Outcome.TheVariants.{NoFile, HostFault, OutOfMemory}
use Rattle.mx_files.proofs.Rests.{rest-through, rest-comes}

-- ---- the calls of plans that follow each other

pub makes-first : {O : Type 0} {R : O → Type 0} {W A B : Type 0} (d : Acts O R W) (Such : O → W → Type 0) (f : A → Plan O R B) (p : Plan O R A) (w : W) → Makes d Such (bind f p) w → Makes d Such p w
unfolding Makes bind
makes-first d Such f (returns a) w h = tt
makes-first d Such f (calls o k) w h = (h.0, makes-first d Such f (k (d.act o w).0) (d.act o w).1 h.1)

abbrev pub MakesAfter : {O : Type 0} {R : O → Type 0} {W A B : Type 0} → Acts O R W → (O → W → Type 0) → (A → Plan O R B) → A × W → Type 0
MakesAfter d Such f (a, w) = Makes d Such (f a) w

pub makes-after : {O : Type 0} {R : O → Type 0} {W A B : Type 0} (d : Acts O R W) (Such : O → W → Type 0) (f : A → Plan O R B) (p : Plan O R A) (w : W) → Makes d Such (bind f p) w → MakesAfter d Such f (end_of d p w)
unfolding Makes bind end_of
makes-after d Such f (returns a) w h = h
makes-after d Such f (calls o k) w h = makes-after d Such f (k (d.act o w).0) (d.act o w).1 h.1

pub makes-bind : {O : Type 0} {R : O → Type 0} {W A B : Type 0} (d : Acts O R W) (Such : O → W → Type 0) (f : A → Plan O R B) (p : Plan O R A) (w : W) → Makes d Such p w → MakesAfter d Such f (end_of d p w) → Makes d Such (bind f p) w
unfolding Makes bind end_of
makes-bind d Such f (returns a) w h k = k
makes-bind d Such f (calls o more) w h k = (h.0, makes-bind d Such f (more (d.act o w).0) (d.act o w).1 h.1 k)

-- ---- one part, and what follows

tells-then : (a b : Option HostModel) → tells b ≡ tells a → IsTrue (tells a) → IsTrue (tells b)
tells-then a b e t = subst IsTrue (sym e) t

tells-back : (a b : Option HostModel) → tells b ≡ tells a → IsTrue (tells b) → IsTrue (tells a)
tells-back a b e t = subst IsTrue e t

-- what is left of a whole is done
pub works-on : {A : Type 0} (a b c : Option HostModel) (k m n : ℕ) (r : Result A Outcome) (p whole : Part A) → Leaves a b k m p whole → DoesPartBetween b c m n r p → DoesPartBetween a c k n r whole
works-on a b c k m n r p whole h w = record {
  told = λ t. rest-comes host p whole (contents b) (contents c) (contents a) (Err OutOfMemory) r (h.told t) (w.told (tells-then a b h.keeps.0 t));
  cause = λ s e. rose-on k m n h.keeps.1 (w.cause (h.cause s) e);
  absent = λ u e. rose-on k m n h.keeps.1 (w.absent (λ t. u (tells-back a b h.keeps.0 t)) e);
  ends = w.ends;
  keeps = keeps_host-then a b c k m n h.keeps w.keeps;
}

pub leaves-all : {A : Type 0} (a : Option HostModel) (k : ℕ) (p : Part A) → Leaves a a k k p p
leaves-all a k p = record { told = λ t. record { ending = refl; stopping = λ v h. h }; cause = λ s. s; keeps = keeps_host-all a k }

pub leaves-on : {A : Type 0} (a b c : Option HostModel) (k m n : ℕ) (p q whole : Part A) → Leaves a b k m q whole → Leaves b c m n p q → Leaves a c k n p whole
leaves-on a b c k m n p q whole h g = record {
  told = λ t. rest-through host p q whole (contents c) (contents b) (contents a) (g.told (tells-then a b h.keeps.0 t)) (h.told t);
  cause = λ s. g.cause (h.cause s);
  keeps = keeps_host-then a b c k m n h.keeps g.keeps;
}

-- a part is done, and what follows it is left
pub leaves-next : {A B : Type 0} (a b : Option HostModel) (k m : ℕ) (x : A) (f : A → Part B) (p : Part A) → DoesPartBetween a b k m (Ok x) p → Leaves a b k m (f x) (bind (on_ok f) p)
leaves-next {A} {B} a b k m x f p w = record {
  told = λ t. rest_after host (on_ok f) p (Ok x) (contents b) (contents a) (contents a) (bind (on_ok f) p) (is t) (record { ending = refl; stopping = λ v h. h });
  cause = λ s t.
      let u : IsTrue (tells a) = tells-back a b w.keeps.0 t in
      subst (λ (e : Result A Outcome × HostModel). MakesAfter host Serves (on_ok f) e) (sym (is u)) (makes-after host Serves (on_ok f) p (contents a) (s u));
  keeps = w.keeps;
}
  where
    is : IsTrue (tells a) → (Ok x, contents b) ≡ end_of host p (contents a)
    is t = (w.told t).ending (λ e. absurd (cc))

pub works-then : {A B : Type 0} (a b c : Option HostModel) (k m n : ℕ) (x : A) (r : Result B Outcome) (f : A → Part B) (p : Part A) → DoesPartBetween a b k m (Ok x) p → DoesPartBetween b c m n r (f x) →
    DoesPartBetween a c k n r (bind (on_ok f) p)
works-then a b c k m n x r f p h w = works-on a b c k m n r (f x) (bind (on_ok f) p) (leaves-next a b k m x f p h) w

-- a part ends the work
pub works-ends : {A B : Type 0} (a b : Option HostModel) (k m : ℕ) (outcome : Outcome) (f : A → Part B) (p : Part A) → DoesPartBetween a b k m (Err outcome) p → DoesPartBetween a b k m (Err outcome) (bind (on_ok f) p)
works-ends a b k m outcome f p w = record {
  told = λ t. record {
    ending = λ ne. sym (end_bind host (on_ok f) p (contents a) ∙ ap (end_after host (on_ok f)) (sym ((w.told t).ending (λ e. ne (cc)))) ∙ end_returns host (Err outcome) (contents b));
    stopping = λ e. stops_first host (on_ok f) p (contents b) (contents a) ((w.told t).stopping (cc));
  };
  cause = λ s e. w.cause (λ t. makes-first host Serves (on_ok f) p (contents a) (s t)) (cc);
  absent = λ u e. w.absent u (cc);
  ends = w.ends;
  keeps = w.keeps;
}

-- ---- what is left of a whole, with what follows both

stops-cases : {O : Type 0} {R : O → Type 0} {W A B : Type 0} (d : Acts O R W) (f : A → Plan O R B) (p : Plan O R A) (v w : W) → Stops d v (bind f p) w → Stops d v p w ⊎ StopsAfter d v f (end_of d p w)
unfolding bind Stops end_of
stops-cases d f (returns a) v w h = inr h
stops-cases d f (calls o k) v w (inl e) = inl (inl e)
stops-cases {O} {R} {W} {A} {B} d f (calls o k) v w (inr h) = by (stops-cases d f (k (d.act o w).0) v (d.act o w).1 h)
  where
    by : Stops d v (k (d.act o w).0) (d.act o w).1 ⊎ StopsAfter d v f (end_of d (k (d.act o w).0) (d.act o w).1) →
        (d.Lacks o w v ⊎ Stops d v (k (d.act o w).0) (d.act o w).1) ⊎ StopsAfter d v f (end_of d (k (d.act o w).0) (d.act o w).1)
    by (inl s) = inl (inr s)
    by (inr s) = inr s

rest-bind : {O : Type 0} {R : O → Type 0} {W A B : Type 0} (d : Acts O R W) (f : A → Plan O R B) (p whole : Plan O R A) (now start : W) → IsRest d p now whole start → IsRest d (bind f p) now (bind f whole) start
rest-bind {O} {R} {W} {A} {B} d f p whole now start h = record {
  ending = end_bind d f whole start ∙ ap (end_after d f) h.ending ∙ sym (end_bind d f p now);
  stopping = λ w s. by w (stops-cases d f p w now s);
}
  where
    by : (w : W) → Stops d w p now ⊎ StopsAfter d w f (end_of d p now) → Stops d w (bind f whole) start
    by w (inl s) = stops_first d f whole w start (h.stopping w s)
    by w (inr s) = stops_after d f whole w start (subst (StopsAfter d w f) (sym h.ending) s)

pub leaves-bind : {A B : Type 0} (a b : Option HostModel) (k m : ℕ) (f : A → Part B) (p whole : Part A) → Leaves a b k m p whole → Leaves a b k m (bind (on_ok f) p) (bind (on_ok f) whole)
leaves-bind {A} {B} a b k m f p whole h = record {
  told = λ t. rest-bind host (on_ok f) p whole (contents b) (contents a) (h.told t);
  cause = λ s t.
      let u : IsTrue (tells a) = tells-back a b h.keeps.0 t in
      makes-bind host Serves (on_ok f) p (contents b) (h.cause (λ v. makes-first host Serves (on_ok f) whole (contents a) (s v)) t)
      (subst (λ (e : Result A Outcome × HostModel). MakesAfter host Serves (on_ok f) e) ((h.told u).ending) (makes-after host Serves (on_ok f) whole (contents a) (s u)));
  keeps = h.keeps;
}

-- ---- no call

pub works-done : {A : Type 0} (a : Option HostModel) (k : ℕ) (x : A) → DoesPartBetween a a k k (Ok x) (returns (Ok x))
works-done a k x = record {
  told = λ t. record { ending = λ ne. sym (end_returns host (Ok x) (contents a)); stopping = λ e. absurd (cc) };
  cause = λ s e. absurd (cc);
  absent = λ u e. absurd (cc);
  ends = tt;
  keeps = keeps_host-all a k;
}

pub works-refused : {A : Type 0} (a : Option HostModel) (k : ℕ) (outcome : Outcome) → is_end outcome ≡ true → outcome ≢ HostFault → outcome ≢ NoFile → outcome ≢ OutOfMemory → DoesPartBetween {A = A} a a k k (Err outcome) (returns (Err outcome))
works-refused a k outcome i h n o = record {
  told = λ t. record { ending = λ ne. sym (end_returns host (Err outcome) (contents a)); stopping = λ e. absurd (o (cc)) };
  cause = λ s e. absurd (h (cc));
  absent = λ u e. absurd (n (cc));
  ends = i;
  keeps = keeps_host-all a k;
}

-- ---- memory that is taken between two calls

pub works-lacking : {B : Type 0} (a : Option HostModel) (k : ℕ) (f : Unit {0} → Part B) → DoesPartBetween {A = B} a a k k (Err OutOfMemory) (bind f need)
unfolding bind need Stops host
works-lacking a k f = record {
  told = λ t. record { ending = λ ne. absurd (ne refl); stopping = λ e. inl refl };
  cause = λ s e. absurd (cc);
  absent = λ u e. absurd (cc);
  ends = refl;
  keeps = keeps_host-all a k;
}

pub works-taking : {A : Type 0} (a b : Option HostModel) (k m : ℕ) (r : Result A Outcome) (f : Unit {0} → Part A) → DoesPartBetween a b k m r (f tt) → DoesPartBetween a b k m r (bind f need)
unfolding bind need Stops end_of Makes host
works-taking a b k m r f w = record {
  told = λ t. record { ending = λ ne. (w.told t).ending ne; stopping = λ e. inr ((w.told t).stopping e) };
  cause = λ s e. w.cause (λ t. (s t).1) e;
  absent = w.absent;
  ends = w.ends;
  keeps = w.keeps;
}
