-- What a plan answers at its end, by what its calls may answer.
use Rattle.std.proofs.Common.{◌≢◌, ℕ, Bool, true, false, cond, Err}
use Rattle.std.specs.Prelude.{Result, ◌==◌, not}
use Rattle.mx_mem.specs.Space.{Contents, put_answer, is_negative, begins_page}
use Rattle.mx_mem.specs.declared.space.SpaceFault.{SpaceFault}
use Rattle.mx_mem.specs.declared.space.SpaceFault.TheVariants.{OutOfMemory}
use Rattle.mx_plan.specs.Plan.{Plan, returns, calls, bind, Acts, end_of}
use Rattle.mx_plan.specs.Calls.{HostCall, HostSays, HostPlan, SpaceCall, SpaceSays, putting, SpacePlan, space, BothCall, BothSays, of_host, of_space, looking, Both, both, on_host, on_space}

-- a plan answers such a value, whatever its calls answer of what they may
unfoldable pub Gives : {O : Type 0} {R : O → Type 0} {A : Type 0} → ((o : O) → R o → Type 0) → (A → Type 0) → Plan O R A → Type 0
Gives May Such (returns a) = Such a
Gives {O} {R} May Such (calls o k) = (r : R o) → May o r → Gives May Such (k r)

pub gives-bind : {O : Type 0} {R : O → Type 0} {A B : Type 0} (May : (o : O) → R o → Type 0) (First : A → Type 0) (Such : B → Type 0) (f : A → Plan O R B) (p : Plan O R A) →
    Gives May First p → ((a : A) → First a → Gives May Such (f a)) → Gives May Such (bind f p)
unfolding Gives bind
gives-bind May First Such f (returns a) h k = k a h
gives-bind May First Such f (calls o more) h k = λ r m. gives-bind May First Such f (more r) (h r m) k

pub gives-end : {O : Type 0} {R : O → Type 0} {W A : Type 0} (d : Acts O R W) (May : (o : O) → R o → Type 0) (Such : A → Type 0) → ((o : O) (w : W) → May o (d.act o w).0) →
    (p : Plan O R A) (w : W) → Gives May Such p → Such (end_of d p w).0
unfolding Gives end_of
gives-end d May Such may (returns a) w h = h
gives-end d May Such may (calls o k) w h = gives-end d May Such may (k (d.act o w).0) (d.act o w).1 (h (d.act o w).0 (may o w))

-- ---- the same of its answer and the world that it leaves, by what is known of each call and the worlds before and after it

unfoldable pub Knows : {O : Type 0} {R : O → Type 0} {W A : Type 0} → ((o : O) → W → R o → W → Type 0) → (A → W → Type 0) → Plan O R A → W → Type 0
Knows May Such (returns a) w = Such a w
Knows {O} {R} {W} May Such (calls o k) w = (r : R o) (v : W) → May o w r v → Knows May Such (k r) v

-- ---- over a space, no call that is carried out answers that there was no memory

abbrev pub HostMay : (o : HostCall) → HostSays o → Type 0
HostMay o r = Unit {0}

abbrev pub SpaceMay : (o : SpaceCall) → SpaceSays o → Type 0
SpaceMay (putting a b) r = r ≢ Err OutOfMemory

abbrev pub BothMay : (o : BothCall) → BothSays o → Type 0
BothMay (of_host o) r = HostMay o r
BothMay (of_space o) r = SpaceMay o r
BothMay looking r = Unit {0}

pub gives-on_host : {A : Type 0} (Such : A → Type 0) (p : HostPlan A) → Gives HostMay Such p → Gives BothMay Such (on_host p)
unfolding Gives on_host
gives-on_host Such (returns a) h = h
gives-on_host Such (calls o k) h = λ r m. gives-on_host Such (k r) (h r m)

pub gives-on_space : {A : Type 0} (Such : A → Type 0) (p : SpacePlan A) → Gives SpaceMay Such p → Gives BothMay Such (on_space p)
unfolding Gives on_space
gives-on_space Such (returns a) h = h
gives-on_space Such (calls o k) h = λ r m. gives-on_space Such (k r) (h r m)

four : {Rest : Type 0} (p q r : Bool) (x y z w : Result (Unit {0}) SpaceFault × Contents Rest) → x.0 ≢ Err OutOfMemory → y.0 ≢ Err OutOfMemory → z.0 ≢ Err OutOfMemory → w.0 ≢ Err OutOfMemory →
    (cond p x (cond q y (cond r z w))).0 ≢ Err OutOfMemory
four true q r x y z w h i j k = h
four false true r x y z w h i j k = i
four false false true x y z w h i j k = j
four false false false x y z w h i j k = k

put-may : {Rest : Type 0} (s : Contents Rest) (a b : ℕ) → (put_answer s a b).0 ≢ Err OutOfMemory
put-may s a b = four (is_negative a) (not (begins_page s a)) (s.page_count == 65536) _ _ _ _ (λ e. absurd (cc)) (λ e. absurd (cc)) (λ e. absurd (cc)) (λ e. absurd (cc))

pub both-may : {Rest : Type 0} (o : BothCall) (w : Both Rest) → BothMay o (both.act o w).0
unfolding both space
both-may (of_host o) w = tt
both-may (of_space (putting a b)) w = put-may w.0 a b
both-may looking w = tt
