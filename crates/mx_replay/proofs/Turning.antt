-- One turn of a visit, and its marks.
use Rattle.std.proofs.lemmas.Option.{same_Some}
use Rattle.std.proofs.Common.{◌≡◌, ◌≢◌, IsTrue, ℕ, true, false, Some, None, refl, subst, ◌∙◌, ap}
use Rattle.std.specs.Prelude.{Option, Bool, List, ◌∷◌, ◌||◌, nat_le}
use Rattle.std.specs.List.{list_any}
use Rattle.mx_host.specs.HostModel.{HostModel, tells, contents}
use Rattle.mx_code.specs.declared.trace.Trace.{Trace}
use Rattle.mx_core.specs.Kept.{state_of}
use Rattle.mx_core.specs.State.{State}
use Rattle.mx_run.specs.Runs.{Ended, ended}
use Rattle.mx_run.specs.Turns.{Answered, Turn, went_on, halts, stops, turn, turn_answer}
use Rattle.mx_run.specs.WildRuns.{state_after}
use Rattle.mx_run.specs.declared.end.End.{End}
use Rattle.mx_run.specs.declared.end.End.TheVariants.{Halted, Stopped, Spent}
use Rattle.mx_run.specs.declared.turn_answer.TurnAnswer.{TurnAnswer}
use Rattle.mx_run.specs.declared.turn_answer.TurnAnswer.TheVariants as answer
use Rattle.mx_replay.specs.Marks.{changes_value, changes_watched, is_at_most, is_at_most_if, meets_break}
use Rattle.mx_stops.specs.Places.{depth, is_change, seen}
use Rattle.mx_stops.specs.Stops.{is_met}
use Rattle.mx_replay.specs.Visits.{MakesTurn, came_by, came_to, trace_of, turn_end, turn_from}
use Rattle.mx_stops.specs.declared.places.Place.{Place}
use Rattle.mx_stops.specs.declared.places.Seen.{Seen}
use Rattle.mx_stops.specs.declared.stops.Break.{Break}
use Rattle.mx_stops.specs.declared.stops.Watch.{Watch}
use Rattle.mx_replay.specs.declared.visit.Visit.{Visit}

-- ---- what a turn comes to, by its answer

told-by : (pc : ℕ) (t u : State) (n k : HostModel) (r a : TurnAnswer) (e x : End) (trace other : Option Trace) → ◌≡◌ {A = Answered TurnAnswer} (r, t, n) (a, u, k) → ◌≡◌ {A = Option (End × Option Trace)} (Some (e, trace)) (turn_end pc r) → ◌≡◌ {A = Option (End × Option Trace)} (turn_end pc a) (Some (x, other)) →
    (ended e t n ≡ ended x u k) × (trace ≡ other)
told-by pc t u n k r a e x trace other h f g =
    let both = same_Some (e, trace) (x, other) (f ∙ ap (λ (b : Answered TurnAnswer). turn_end pc b.0) h ∙ g) in
    (ap (λ (y : End × Option Trace). ended y.0 t n) both ∙ ap (λ (b : Answered TurnAnswer). ended x b.1 b.2) h, ap (λ (y : End × Option Trace). y.1) both)

turned-by : (pc : ℕ) (t : State) (n : HostModel) (r : TurnAnswer) (e : End) (trace : Option Trace) (x : Turn) → (r, t, n) ≡ turn_answer x → Some (e, trace) ≡ turn_end pc r →
    (ended e t n ≡ came_by pc x) × (trace ≡ trace_of x)
turned-by pc t n r e trace (went_on u k other) h f = told-by pc t u n k r (answer.Went other) e Spent trace (Some other) h f refl
turned-by pc t n r e trace (halts status u k) h f = told-by pc t u n k r (answer.Halted status) e (Halted status) trace None h f refl
turned-by pc t n r e trace (stops reason u k) h f = told-by pc t u n k r (answer.Stopped reason) e (Stopped pc reason) trace None h f refl

lacks-none : (pc : ℕ) (r : TurnAnswer) (x : End × Option Trace) → Some x ≡ turn_end pc r → r ≢ answer.OutOfMemory
lacks-none pc r x f e = let none = ap (turn_end pc) e in absurd (cc)

-- what a call over a host in memory tells of its turn
pub turned : (pc : ℕ) (s t : State) (m n : HostModel) (r : TurnAnswer) (e : End) (trace : Option Trace) → (IsTrue (tells (Some m)) → r ≢ answer.OutOfMemory → (r, t, contents (Some n)) ≡ turn_answer (turn s (contents (Some m)))) →
    Some (e, trace) ≡ turn_end pc r → pc ≡ s.pc → (ended e t n ≡ came_by s.pc (turn s m)) × (trace ≡ trace_of (turn s m))
unfolding tells contents
turned pc s t m n r e trace h f at =
    subst (λ a. (ended e t n ≡ came_by a (turn s m)) × (trace ≡ trace_of (turn s m))) at (turned-by pc t n r e trace (turn s m) (h refl (lacks-none pc r (e, trace) f)) f)

-- ---- whether it changes a value

after-by : (pc : ℕ) (x : Turn) → (came_by pc x).state ≡ state_after x
after-by pc (went_on u k trace) = refl
after-by pc (halts status u k) = refl
after-by pc (stops reason u k) = refl

pub change-told : (place : Place) (v w : Visit) (before after : Seen) → MakesTurn v w → before ≡ seen place (state_of v.machine) → after ≡ seen place (state_of w.machine) →
    is_change place before after ≡ changes_value place (state_of v.machine) (turn_from v)
change-told place v w before after h e f =
    ap (λ x. is_change place x after) e
    ∙ ap (is_change place (seen place (state_of v.machine))) (f ∙ ap (seen place) (ap (λ (x : Ended). x.state) h.came ∙ after-by (state_of v.machine).pc (turn_from v)))

-- ---- how many registers are hidden

pub depth-told : (v w : Visit) (after : ℕ) → MakesTurn v w → after ≡ depth (state_of w.machine) → after ≡ depth (state_after (turn_from v))
depth-told v w after h e = e ∙ ap depth (ap (λ (x : Ended). x.state) h.came ∙ after-by (state_of v.machine).pc (turn_from v))

pub shallow-told : (most : ℕ) (v w : Visit) (after : ℕ) → MakesTurn v w → after ≡ depth (state_of w.machine) → nat_le after most ≡ is_at_most most (state_after (turn_from v))
shallow-told most v w after h e = ap (λ n. nat_le n most) (depth-told v w after h e)

pub shallow-if-told : (most : Option ℕ) (v w : Visit) → MakesTurn v w → is_at_most_if most (state_of w.machine) ≡ is_at_most_if most (state_after (turn_from v))
shallow-if-told most v w h = ap (λ (x : Ended). is_at_most_if most x.state) h.came ∙ ap (is_at_most_if most) (after-by (state_of v.machine).pc (turn_from v))

-- ---- breaks and watches

break-by : (breaks : List Break) (pc : ℕ) (trace : Trace) (x : Turn) (e : Ended) → e ≡ came_by pc x → Some trace ≡ trace_of x → list_any (is_met e.state) breaks ≡ meets_break breaks x
break-by breaks pc trace (went_on u k other) e h t = ap (λ (x : Ended). list_any (is_met x.state) breaks) h
break-by breaks pc trace (halts status u k) e h t = absurd (cc)
break-by breaks pc trace (stops reason u k) e h t = absurd (cc)

pub break-told : (breaks : List Break) (v w : Visit) (trace : Trace) → MakesTurn v w → Some trace ≡ trace_of (turn_from v) → list_any (is_met (state_of w.machine)) breaks ≡ meets_break breaks (turn_from v)
break-told breaks v w trace h t = break-by breaks (state_of v.machine).pc trace (turn_from v) (came_to w) h.came t

no-break-by : (breaks : List Break) (x : Turn) → None ≡ trace_of x → false ≡ meets_break breaks x
no-break-by breaks (went_on u k other) t = absurd (cc)
no-break-by breaks (halts status u k) t = refl
no-break-by breaks (stops reason u k) t = refl

pub no-break-told : (breaks : List Break) (v : Visit) → None ≡ trace_of (turn_from v) → false ≡ meets_break breaks (turn_from v)
no-break-told breaks v t = no-break-by breaks (turn_from v) t

or-both : (a b c : Bool) → (a || (b || c)) ≡ ((a || b) || c)
or-both true b c = refl
or-both false b c = refl

pub stop-told : (watch : Watch) (more : List Watch) (v w : Visit) (before after : Seen) (rest is_stop : Bool) → MakesTurn v w → before ≡ seen watch.place (state_of v.machine) → after ≡ seen watch.place (state_of w.machine) →
    is_stop ≡ (changes_watched more (state_of v.machine) (turn_from v) || rest) → (is_change watch.place before after || is_stop) ≡ (changes_watched (watch ∷ more) (state_of v.machine) (turn_from v) || rest)
stop-told watch more v w before after rest is_stop h e f g =
    ap (λ b. b || is_stop) (change-told watch.place v w before after h e f)
    ∙ ap (λ b. changes_value watch.place (state_of v.machine) (turn_from v) || b) g
    ∙ or-both (changes_value watch.place (state_of v.machine) (turn_from v)) (changes_watched more (state_of v.machine) (turn_from v)) rest

pub ruleset marking = (change-told, shallow-told, shallow-if-told, break-told, no-break-told, stop-told)
