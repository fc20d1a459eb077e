-- The calls that have not returned, turn after turn.
use Rattle.std.proofs.Common.{◌≡◌, ◌≤◌, ◌+◌, ◌-◌, ◌⊎◌, ℕ, zero, suc, true, false, Some, None, Ok, inl, inr, List, [], arith, refl, sym, ◌∙◌, ap}
use Rattle.std.specs.Prelude.{nat_lt}
use Rattle.std.proofs.lemmas.Bool.{ltb-false}
use Rattle.mx_host.specs.HostModel.{HostModel}
use Rattle.mx_word.specs.Results.{map_ok}
use Rattle.mx_code.specs.declared.trace.Trace.{Trace}
use Rattle.mx_core.specs.Kept.{state_of}
use Rattle.mx_core.specs.State.{State}
use Rattle.mx_run.specs.Runs.{Ended}
use Rattle.mx_run.specs.Turns.{Turn, went_on, halts, stops}
use Rattle.mx_run.specs.declared.end.End.{End}
use Rattle.mx_run.specs.declared.end.End.TheVariants.{Halted, Stopped, Broke, Traced, Spent, OutOfMemory}
use Rattle.mx_replay.specs.Frames.{frames_at, traced, turned, turned_after, turned_from}
use Rattle.mx_stops.specs.Places.{depth}
use Rattle.mx_replay.specs.Programs.{is_over}
use Rattle.mx_replay.specs.Searches.{has_more}
use Rattle.mx_replay.specs.Visits.{IsStart, IsStep, MakesTurn, came_by, came_to, trace_of, turn_from}
use Rattle.mx_replay.specs.declared.frames.Frame.{Frame}
use Rattle.mx_replay.specs.declared.program.Program.{Program}
use Rattle.mx_replay.specs.declared.visit.Visit.{Visit}
use Rattle.mx_replay.proofs.Found.{more-here, more-on, no-more-by, turn-step}
use Rattle.mx_replay.proofs.RunEnds.{is-spent}
use Rattle.mx_replay.proofs.Steps.{step-over}

-- ---- one turn

frame-by : (s : State) (pc : ℕ) (trace : Trace) (x : Turn) (e : Ended) (frames : List Frame) → e ≡ came_by pc x → Some trace ≡ trace_of x → traced (depth s) (depth e.state) trace frames ≡ turned s x frames
frame-by s pc trace (went_on u k other) e frames h t =
    let same : trace ≡ other = cc in ap (λ (x : Ended). traced (depth s) (depth x.state) trace frames) h ∙ ap (λ x. traced (depth s) (depth u) x frames) same
frame-by s pc trace (halts status u k) e frames h t = absurd (cc)
frame-by s pc trace (stops reason u k) e frames h t = absurd (cc)

pub frame-told : (v w : Visit) (trace : Trace) (before after : ℕ) (frames new : List Frame) → MakesTurn v w → Some trace ≡ trace_of (turn_from v) → before ≡ depth (state_of v.machine) → after ≡ depth (state_of w.machine) →
    new ≡ traced before after trace frames → new ≡ turned (state_of v.machine) (turn_from v) frames
frame-told v w trace before after frames new h t b a e =
    e ∙ ap (λ n. traced n after trace frames) b ∙ ap (λ n. traced (depth (state_of v.machine)) n trace frames) a
    ∙ frame-by (state_of v.machine) (state_of v.machine).pc trace (turn_from v) (came_to w) frames h.came t

no-frame-by : (s : State) (x : Turn) (frames : List Frame) → None ≡ trace_of x → frames ≡ turned s x frames
no-frame-by s (went_on u k other) frames t = absurd (cc)
no-frame-by s (halts status u k) frames t = refl
no-frame-by s (stops reason u k) frames t = refl

pub no-frame-told : (v : Visit) (frames : List Frame) → None ≡ trace_of (turn_from v) → frames ≡ turned (state_of v.machine) (turn_from v) frames
no-frame-told v frames t = no-frame-by (state_of v.machine) (turn_from v) frames t

pub ruleset turning = (frame-told, no-frame-told)

-- ---- up to a step

pub record FramedSoFar (p : Program) (until : ℕ) (now : Visit) (frames : List Frame) : Type 0 where
  pub step : IsStep p now
  pub within : now.at ≤ until
  pub framed : frames ≡ frames_at p now.at

pub frames-begun : (p : Program) (until : ℕ) (v : Visit) (frames : List Frame) → frames ≡ [] → IsStart p v → FramedSoFar p until v frames
unfolding frames_at
frames-begun p until v frames e s = record { step = s.step; within = omega (arith, s.first); framed = e ∙ sym (ap (frames_at p) s.first) }

pub frames-on : (p : Program) (until : ℕ) (v w : Visit) (frames new : List Frame) → has_more v until ≡ true → MakesTurn v w → new ≡ turned (state_of v.machine) (turn_from v) frames → FramedSoFar p until v frames → FramedSoFar p until w new
unfolding frames_at
frames-on p until v w frames new more h e so =
    let here = more-here v until more in
    let o = more-on v until more in
    let next : w.at ≡ suc v.at = omega (arith, h.count) in
    record {
      step = turn-step p v w o h so.step;
      within = omega (arith, here, h.count);
      framed = e ∙ ap (turned (state_of v.machine) (turn_from v)) so.framed
          ∙ sym (ap (frames_at p) next ∙ ap (λ r. turned_after r (frames_at p v.at)) so.step.shown ∙ ap (λ x. turned_from x (state_of v.machine) v.host (frames_at p v.at)) (is-spent v.end o));
    }

over-unturned : (x : End) (s : State) (m : HostModel) (frames : List Frame) → is_over x ≡ true → turned_from x s m frames ≡ frames
over-unturned Spent s m frames h = absurd (cc)
over-unturned (Halted status) s m frames h = refl
over-unturned (Stopped pc reason) s m frames h = refl
over-unturned (Broke kind at trace) s m frames h = refl
over-unturned (Traced trace) s m frames h = refl
over-unturned OutOfMemory s m frames h = refl

-- after the last turn they stay
frames-stay : (p : Program) (v : Visit) (n k : ℕ) → v.at + n ≡ k → IsStep p v → is_over v.end ≡ true → frames_at p k ≡ frames_at p v.at
unfolding frames_at
frames-stay p v zero k e s o = ap (frames_at p) (omega (arith, e))
frames-stay p v (suc n) k e s o =
    let next : k ≡ suc (v.at + n) = omega (arith, e) in
    let stays = step-over p v.at n (ap (map_ok (λ (x : Ended). is_over x.end)) s.shown ∙ ap Ok o) in
    ap (frames_at p) next ∙ ap (λ r. turned_after r (frames_at p (v.at + n))) (stays ∙ s.shown) ∙ over-unturned v.end (state_of v.machine) v.host (frames_at p (v.at + n)) o
    ∙ frames-stay p v n (v.at + n) refl s o

frames-by : (p : Program) (until : ℕ) (v : Visit) (frames : List Frame) → (nat_lt v.at until ≡ false) ⊎ (is_over v.end ≡ true) → FramedSoFar p until v frames → frames ≡ frames_at p until
frames-by p until v frames (inl e) so =
    let here : v.at ≡ until = omega (arith, ltb-false v.at until e, so.within) in so.framed ∙ ap (frames_at p) here
frames-by p until v frames (inr o) so = so.framed ∙ sym (frames-stay p v (until - v.at) until (omega (arith, so.within)) so.step o)

pub frames-done : (p : Program) (until : ℕ) (v : Visit) (frames : List Frame) → has_more v until ≡ false → FramedSoFar p until v frames → frames ≡ frames_at p until
frames-done p until v frames e so = frames-by p until v frames (no-more-by (nat_lt v.at until) (is_over v.end) e) so
