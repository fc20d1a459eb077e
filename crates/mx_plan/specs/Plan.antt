-- A plan: the calls that a function makes, one after another, up to its answer. No world is in it.
--
-- What a larger world has for its calls was decided so. A call may be a whole plan of a smaller world: it answers and leaves
-- that plan's end, and lacks memory where that plan may stop. Calls of its own are beside it. So no plan is written twice,
-- and what all calls of the smaller world keep, its plans keep, and with them the calls of the larger one.
-- A look answers what was read and never the world, so that two worlds that differ elsewhere answer alike.
use Rattle.std.specs.Prelude.{◌≡◌, ◌≢◌, ◌⊎◌}

-- a plan answers at once, or makes a call and goes on by what the call answers; the answers of a call o are of type R o
pub data Plan (O : Type 0) (R : O → Type 0) (A : Type 0) : Type 0 where
  returns : A → Plan O R A
  calls : (o : O) → (R o → Plan O R A) → Plan O R A

-- a plan, and then what follows its answer
unfoldable pub bind : {O : Type 0} {R : O → Type 0} {A B : Type 0} → (A → Plan O R B) → Plan O R A → Plan O R B
bind f (returns a) = f a
bind f (calls o k) = calls o (λ r. bind f (k r))

-- the calls of a world: what each answers and leaves where it is carried out; and whether it may lack memory in one world
-- and leave another
pub record Acts (O : Type 0) (R : O → Type 0) (W : Type 0) : Type 1 where
  pub act : (o : O) → W → R o × W
  pub Lacks : O → W → W → Type 0

-- the end of a plan: its answer and the world that it leaves, where no call lacks memory
unfoldable pub end_of : {O : Type 0} {R : O → Type 0} {W A : Type 0} → Acts O R W → Plan O R A → W → A × W
end_of d (returns a) w = (a, w)
end_of d (calls o k) w = end_of d (k (d.act o w).0) (d.act o w).1

-- A plan that begins in w may stop because memory runs out, with v left: one of its calls may lack memory and leave v, and all
-- calls before that one were carried out.
unfoldable pub Stops : {O : Type 0} {R : O → Type 0} {W A : Type 0} → Acts O R W → W → Plan O R A → W → Type 0
Stops d v (returns a) w = ⊥
Stops d v (calls o k) w = d.Lacks o w v ⊎ Stops d v (k (d.act o w).0) (d.act o w).1

-- What comes of a plan. Unless the answer is `none`, which is that of no memory, the answer and the new world are the plan's
-- end. Where it is, the new world is one that the plan may stop with: calls that were completed stay, and nothing else changed.
pub record Comes {O : Type 0} {R : O → Type 0} {W A : Type 0} (d : Acts O R W) (old new : W) (none result : A) (plan : Plan O R A) : Type 0 where
  pub ending : result ≢ none → (result, new) ≡ end_of d plan old
  pub stopping : result ≡ none → Stops d new plan old

-- a plan in the world `now` is what is left of another that began in `start`
pub record IsRest {O : Type 0} {R : O → Type 0} {W A : Type 0} (d : Acts O R W) (rest : Plan O R A) (now : W) (whole : Plan O R A) (start : W) : Type 0 where
  pub ending : end_of d whole start ≡ end_of d rest now
  pub stopping : (w : W) → Stops d w rest now → Stops d w whole start

-- the end of what follows an answer, in the world after it; and where memory runs out in that
abbrev pub end_after : {O : Type 0} {R : O → Type 0} {W A B : Type 0} → Acts O R W → (A → Plan O R B) → A × W → B × W
end_after d f (a, w) = end_of d (f a) w

abbrev pub StopsAfter : {O : Type 0} {R : O → Type 0} {W A B : Type 0} → Acts O R W → W → (A → Plan O R B) → A × W → Type 0
StopsAfter d v f (a, w) = Stops d v (f a) w
