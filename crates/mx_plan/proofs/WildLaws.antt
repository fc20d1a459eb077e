-- What a plan comes to where calls may go wild: of plans one after another, where none does, in two worlds up to where the one
-- would, and whatever number of calls was made before.
use Rattle.std.proofs.Common.{◌≡◌, Bool, true, false, cond, refl, subst, sym}
use Rattle.mx_host.specs.HostModel.{HostModel}
use Rattle.mx_plan.specs.Held.{Held, Makes}
use Rattle.mx_plan.specs.Plan.{Plan, returns, calls, bind, Acts, end_of}
use Rattle.mx_plan.specs.Wild.{Course, ends, meets_wild, then_on, world_of, course, carried, unless_wild, GoesBeside}
use Rattle.mx_plan.proofs.Giving.{Gives, Knows}
use Rattle.mx_plan.proofs.Spared.{Spares, uncalled, after}

pub course_bind : {O : Type 0} {R : O → Type 0} {W A B : Type 0} (goes : (o : O) → W → Course (R o) W) (f : A → Plan O R B) (p : Plan O R A) (w : W) →
    course goes (bind f p) w ≡ then_on (λ a v. course goes (f a) v) (course goes p w)
unfolding course bind
course_bind goes f (returns a) w = refl
course_bind {O} {R} {W} {A} {B} goes f (calls o k) w = by (λ r v. course_bind goes f (k r) v) (goes o w)
  where
    by : ((r : R o) (v : W) → course goes (bind f (k r)) v ≡ then_on (λ a x. course goes (f a) x) (course goes (k r) v)) → (c : Course (R o) W) →
        then_on (λ r v. course goes (bind f (k r)) v) c ≡ then_on (λ a v. course goes (f a) v) (then_on (λ r v. course goes (k r) v) c)
    by h (ends r v) = h r v
    by h (meets_wild v) = refl

-- where no call goes wild, it is the end
pub course_carried : {O : Type 0} {R : O → Type 0} {W A : Type 0} (d : Acts O R W) (p : Plan O R A) (w : W) → course (carried d) p w ≡ ends (end_of d p w).0 (end_of d p w).1
unfolding course end_of
course_carried d (returns a) w = refl
course_carried d (calls o k) w = course_carried d (k (d.act o w).0) (d.act o w).1

-- ---- in two worlds

-- What is asked of two worlds: where they are related by `Related`, and a call is such a one in the other world, it goes alike in
-- both; and what was passed stays passed.
pub record Leads {O : Type 0} {R : O → Type 0} {V W : Type 0} (goes : (o : O) → V → Course (R o) V) (e : Acts O R W) (Such : O → W → Type 0) (Related Passed : V → W → Type 0) : Type 0 where
  pub acting : (o : O) (v : V) (w : W) → Such o w → Related v w → GoesBeside Related Passed (goes o v) (e.act o w)
  pub later : (o : O) (v : V) (w : W) → Passed v w → Passed v (e.act o w).1

passed-end : {O : Type 0} {R : O → Type 0} {V W A : Type 0} (goes : (o : O) → V → Course (R o) V) (e : Acts O R W) (Such : O → W → Type 0) (Related Passed : V → W → Type 0) →
    Leads goes e Such Related Passed → (p : Plan O R A) (v : V) (w : W) → Passed v w → Passed v (end_of e p w).1
unfolding end_of
passed-end goes e Such Related Passed h (returns a) v w s = s
passed-end goes e Such Related Passed h (calls o k) v w s = passed-end goes e Such Related Passed h (k (e.act o w).0) v (e.act o w).1 (h.later o v w s)

pub beside : {O : Type 0} {R : O → Type 0} {V W A : Type 0} (goes : (o : O) → V → Course (R o) V) (e : Acts O R W) (Such : O → W → Type 0) (Related Passed : V → W → Type 0) →
    Leads goes e Such Related Passed → (p : Plan O R A) (v : V) (w : W) → Makes e Such p w → Related v w → GoesBeside Related Passed (course goes p v) (end_of e p w)
unfolding course end_of Makes
beside goes e Such Related Passed h (returns a) v w m s = (refl, s)
beside {O} {R} {V} {W} {A} goes e Such Related Passed h (calls o k) v w m s =
    by (λ x t. beside goes e Such Related Passed h (k (e.act o w).0) x (e.act o w).1 m.1 t) (goes o v) (h.acting o v w m.0 s)
  where
    by : ((x : V) → Related x (e.act o w).1 → GoesBeside Related Passed (course goes (k (e.act o w).0) x) (end_of e (k (e.act o w).0) (e.act o w).1)) → (c : Course (R o) V) →
        GoesBeside Related Passed c (e.act o w) → GoesBeside Related Passed (then_on (λ r x. course goes (k r) x) c) (end_of e (k (e.act o w).0) (e.act o w).1)
    by more (ends r x) g = subst (λ (q : R o). GoesBeside Related Passed (course goes (k q) x) (end_of e (k (e.act o w).0) (e.act o w).1)) (sym g.0) (more x g.1)
    by more (meets_wild x) g = passed-end goes e Such Related Passed h (k (e.act o w).0) x (e.act o w).1 g

-- ---- whatever number of calls was made before

abbrev pub course_still : {A W : Type 0} → (W → W) → Course A W → Course A W
course_still still (ends a w) = ends a (still w)
course_still still (meets_wild w) = meets_wild (still w)

abbrev pub SparedCourse : {A W : Type 0} → (W → HostModel) → (W → W) → W → Course A W → Course A W → Type 0
SparedCourse host_of still w t u = Spares (host_of w) (host_of (world_of t)) (course_still still t) u

pub course_spared : {O : Type 0} {R : O → Type 0} {W A : Type 0} (host_of : W → HostModel) (still : W → W) (goes : (o : O) → W → Course (R o) W) →
    ((o : O) (w : W) → SparedCourse host_of still w (goes o w) (goes o (still w))) → (p : Plan O R A) (w : W) → SparedCourse host_of still w (course goes p w) (course goes p (still w))
unfolding course
course_spared host_of still goes h (returns a) w = uncalled
course_spared {O} {R} {W} {A} host_of still goes h (calls o k) w =
    after (then_on (λ r v. course goes (k r) v)) (h o w) (by (λ r v. course_spared host_of still goes h (k r) v) (goes o w))
  where
    by : ((r : R o) (v : W) → SparedCourse host_of still v (course goes (k r) v) (course goes (k r) (still v))) → (c : Course (R o) W) →
        SparedCourse host_of still (world_of c) (then_on (λ r v. course goes (k r) v) c) (then_on (λ r v. course goes (k r) v) (course_still still c))
    by more (ends r v) = more r v
    by more (meets_wild v) = uncalled

-- ---- what each call keeps, and what it may answer

pub course_held : {O : Type 0} {R : O → Type 0} {W A : Type 0} (goes : (o : O) → W → Course (R o) W) (Rel : W → W → Type 0) → ((w : W) → Rel w w) → ((u v w : W) → Rel u v → Rel v w → Rel u w) →
    ((o : O) (w : W) → Rel w (world_of (goes o w))) → (p : Plan O R A) (w : W) → Rel w (world_of (course goes p w))
unfolding course
course_held goes Rel self through h (returns a) w = self w
course_held {O} {R} {W} {A} goes Rel self through h (calls o k) w = by (λ r v. course_held goes Rel self through h (k r) v) (goes o w) (h o w)
  where
    by : ((r : R o) (v : W) → Rel v (world_of (course goes (k r) v))) → (c : Course (R o) W) → Rel w (world_of c) → Rel w (world_of (then_on (λ r v. course goes (k r) v) c))
    by more (ends r v) l = through w v _ l (more r v)
    by more (meets_wild v) l = l

-- what every call of a world keeps, a plan keeps that goes no further at a call that is wild
pub wild_held : {O : Type 0} {R : O → Type 0} {W A : Type 0} (d : Acts O R W) (is_wild : O → W → Bool) (Rel : W → W → Type 0) → Held d Rel → (p : Plan O R A) (w : W) → Rel w (world_of (course (unless_wild is_wild d) p w))
wild_held {O} {R} {W} d is_wild Rel h p w = course_held (unless_wild is_wild d) Rel h.self h.through (λ o v. by o v (is_wild o v)) p w
  where
    by : (o : O) (v : W) (b : Bool) → Rel v (world_of (cond b (meets_wild v) (ends (d.act o v).0 (d.act o v).1)))
    by o v true = h.self v
    by o v false = h.acting o v

abbrev pub Answers : {A W : Type 0} → (A → Type 0) → Course A W → Type 0
Answers Such (ends a w) = Such a
Answers Such (meets_wild w) = Unit {0}

pub course_gives : {O : Type 0} {R : O → Type 0} {W A : Type 0} (goes : (o : O) → W → Course (R o) W) (May : (o : O) → R o → Type 0) (Such : A → Type 0) →
    ((o : O) (w : W) → Answers (May o) (goes o w)) → (p : Plan O R A) (w : W) → Gives May Such p → Answers Such (course goes p w)
unfolding course Gives
course_gives goes May Such h (returns a) w g = g
course_gives {O} {R} {W} {A} goes May Such h (calls o k) w g = by (λ r m v. course_gives goes May Such h (k r) v (g r m)) (goes o w) (h o w)
  where
    by : ((r : R o) → May o r → (v : W) → Answers Such (course goes (k r) v)) → (c : Course (R o) W) → Answers (May o) c → Answers Such (then_on (λ r v. course goes (k r) v) c)
    by more (ends r v) m = more r m v
    by more (meets_wild v) m = tt

-- the same of its answer and the world that it leaves
abbrev pub EndsSo : {A W : Type 0} → (A → W → Type 0) → Course A W → Type 0
EndsSo Such (ends a w) = Such a w
EndsSo Such (meets_wild w) = Unit {0}

pub course_knows : {O : Type 0} {R : O → Type 0} {W A : Type 0} (goes : (o : O) → W → Course (R o) W) (May : (o : O) → W → R o → W → Type 0) (Such : A → W → Type 0) →
    ((o : O) (w : W) → EndsSo (May o w) (goes o w)) → (p : Plan O R A) (w : W) → Knows May Such p w → EndsSo Such (course goes p w)
unfolding course Knows
course_knows goes May Such h (returns a) w g = g
course_knows {O} {R} {W} {A} goes May Such h (calls o k) w g = by (λ r v m. course_knows goes May Such h (k r) v (g r v m)) (goes o w) (h o w)
  where
    by : ((r : R o) (v : W) → May o w r v → EndsSo Such (course goes (k r) v)) → (c : Course (R o) W) → EndsSo (May o w) c → EndsSo Such (then_on (λ r v. course goes (k r) v) c)
    by more (ends r v) m = more r v m
    by more (meets_wild v) m = tt
