-- What a plan comes to where a call may go wild: there it is not carried on, and nothing is said any more.
use Rattle.std.specs.Prelude.{◌≡◌, ◌≢◌, Bool, if◌then◌else◌}
use Rattle.mx_plan.specs.Plan.{Plan, returns, calls, Acts, Comes, IsRest}

-- it ends with an answer, or it meets something wild, which is not done; and the world then
pub data Course (A W : Type 0) : Type 0 where
  ends : A → W → Course A W
  meets_wild : W → Course A W

-- what follows an end
abbrev pub then_on : {A B W : Type 0} → (A → W → Course B W) → Course A W → Course B W
then_on more (ends a w) = more a w
then_on more (meets_wild w) = meets_wild w

-- the world that is left
abbrev pub world_of : {A W : Type 0} → Course A W → W
world_of (ends a w) = w
world_of (meets_wild w) = w

-- A plan, by what each call comes to. A call may be a whole plan of a smaller world, which may meet something wild on its way.
unfoldable pub course : {O : Type 0} {R : O → Type 0} {W A : Type 0} → ((o : O) → W → Course (R o) W) → Plan O R A → W → Course A W
course goes (returns a) w = ends a w
course goes (calls o k) w = then_on (λ r v. course goes (k r) v) (goes o w)

-- a call that is carried out as ever; and one that is not made where it would be wild
abbrev pub carried : {O : Type 0} {R : O → Type 0} {W : Type 0} → Acts O R W → (o : O) → W → Course (R o) W
carried d o w = ends (d.act o w).0 (d.act o w).1

abbrev pub unless_wild : {O : Type 0} {R : O → Type 0} {W : Type 0} → (O → W → Bool) → Acts O R W → (o : O) → W → Course (R o) W
unless_wild is_wild d o w = if is_wild o w then meets_wild w else carried d o w

-- What a plan comes to where calls may go wild, beside its end in another world: the same answer, and worlds that are related by
-- `Related`; or, where it met something wild, worlds of which the one was passed before the other.
abbrev pub GoesBeside : {V W A : Type 0} → (V → W → Type 0) → (V → W → Type 0) → Course A V → A × W → Type 0
GoesBeside Related Passed (ends a v) t = (a ≡ t.0) × Related v t.1
GoesBeside Related Passed (meets_wild v) t = Passed v t.1

-- ---- beside a world that this one represents

-- How a plan went in one world beside what it comes to in the world that this represents: it answered the same, left what the other
-- leaves, and may go on so; or, where the other met something wild, that was passed.
abbrev pub GoesAs : {V W A : Type 0} → (W → V) → (W → Type 0) → (V → W → Type 0) → Course A V → A → W → Type 0
GoesAs seen Alike Passed (ends a v) result w = (a ≡ result) × ((v ≡ seen w) × Alike w)
GoesAs seen Alike Passed (meets_wild v) result w = Passed v w

-- What comes of a plan in both worlds, from one where they go alike: as `Comes` says it, and beside the other unless there was no
-- memory.
pub record ComesBoth {O : Type 0} {R : O → Type 0} {V W A : Type 0} (d : Acts O R W) (goes : (o : O) → V → Course (R o) V) (seen : W → V) (Alike : W → Type 0) (Passed : V → W → Type 0)
    (old new : W) (none result : A) (plan : Plan O R A) : Type 0 where
  pub window : Comes d old new none result plan
  pub list : Alike old → result ≢ none → GoesAs seen Alike Passed (course goes plan (seen old)) result new

-- what the other world comes to as a whole, and from here on: all went alike, and the rest goes on from what this world represents; or
-- something wild was met, and was passed
pub data GoesOn {V W A : Type 0} (seen : W → V) (Alike : W → Type 0) (Passed : V → W → Type 0) (whole rest : Course A V) (now : W) : Type 0 where
  alike : Alike now → whole ≡ rest → GoesOn seen Alike Passed whole rest now
  was_wild : (v : V) → whole ≡ meets_wild v → Passed v now → GoesOn seen Alike Passed whole rest now

-- a plan in the world `now` is what is left of another that began in `start`, in both worlds
pub record IsRestBoth {O : Type 0} {R : O → Type 0} {V W A : Type 0} (d : Acts O R W) (goes : (o : O) → V → Course (R o) V) (seen : W → V) (Alike : W → Type 0) (Passed : V → W → Type 0)
    (rest : Plan O R A) (now : W) (whole : Plan O R A) (start : W) : Type 0 where
  pub window : IsRest d rest now whole start
  pub list : Alike start → GoesOn seen Alike Passed (course goes whole (seen start)) (course goes rest (seen now)) now
