-- A recorder goes on along the steps of a run.
use Rattle.std.proofs.Common.{◌≡◌, ◌≤◌, ◌<◌, ◌⊎◌, inl, inr, ℕ, ◌+◌, List, length, Option, Ok, Err, arith, refl, sym, subst, ◌∙◌, ap}
use Rattle.std.proofs.lemmas.Bool.{cases_lt}
use Rattle.std.proofs.lemmas.List.{length-map}
use Rattle.std.specs.Prelude.{Result, [], false, map, string_bytes, true}
use Rattle.mx_host.specs.HostAnswer.{Then}
use Rattle.mx_host.specs.HostModel.{HostModel, start_model}
use Rattle.mx_host.specs.declared.files.StoredFile.{StoredFile}
use Rattle.mx_words.specs.declared.order.Order.{Order}
use Rattle.mx_plan.specs.Calls.{host}
use Rattle.mx_plan.specs.Plan.{end_of}
use Rattle.mx_begin.specs.BeginPlans.{begin_plan}
use Rattle.mx_begin.specs.declared.images.Form.{Form}
use Rattle.mx_word.specs.Results.{map_ok}
use Rattle.mx_code.specs.declared.trace.Trace.{Trace}
use Rattle.mx_core.specs.State.{State}
use Rattle.mx_run.specs.Runs.{Ended, ended, no_flags, run}
use Rattle.mx_run.specs.Turns.{Turn, went_on, halts, stops, turn}
use Rattle.mx_run.specs.WildRuns.{state_after, window_machine}
use Rattle.mx_run.specs.declared.end.End.TheVariants.{Spent}
use Rattle.mx_run.proofs.FreeTurns.{none-made, run-halts, run-stops, run-went}
use Rattle.mx_outcome.specs.declared.outcome.Outcome.{Outcome}
use Rattle.mx_replay.specs.Programs.{NamesFile, GoesOn, IsReached, is_over, run_from, start_of, step_of, with_files}
use Rattle.mx_replay.specs.Searches.{Replayed}
use Rattle.mx_replay.specs.Visits.{trace_after}
use Rattle.mx_replay.specs.declared.program.Program.{Program}
use Rattle.mx_replay.proofs.Steps.{step-before, step-from}
use Rattle.mx_record.specs.Following.{ComesByTurn, HoldsStack}
use Rattle.mx_record.specs.Pictures.{Picture, no_picture, picture, picture_at, picture_of}
use Rattle.mx_record.specs.Recording.{AreAlike, HoldsStep, IsAt, IsReady, Recorded, SameRun}
use Rattle.mx_record.specs.Records.{Leads}
use Rattle.mx_record.specs.declared.changes.Record.{Record}

-- ONE TURN

one-by : (s : State) (m : HostModel) (x : Turn) → turn s m ≡ x → (run 1 no_flags false s m).state ≡ state_after x
one-by s m (went_on u k trace) e = ap (λ (x : Ended). x.state) (run-went 0 s u m k trace e ∙ none-made u k)
one-by s m (halts status u k) e = ap (λ (x : Ended). x.state) (run-halts 0 s u m k status e)
one-by s m (stops reason u k) e = ap (λ (x : Ended). x.state) (run-stops 0 s u m k reason e)

same-ok : {A B : Type 0} (x y : A) → ◌≡◌ {A = Result A B} (Ok x) (Ok y) → x ≡ y
same-ok x y e = cc

comes-by : (p : Program) (k : ℕ) (s t : State) (trace : Option Trace) (r : Result Ended Outcome) → step_of p k ≡ r → map_ok (λ (e : Ended). e.end) r ≡ Ok Spent → map_ok (λ (e : Ended). e.state) r ≡ Ok s →
    map_ok (λ (e : Ended). e.state) (step_of p (k + 1)) ≡ Ok t → map_ok trace_after r ≡ Ok trace → ComesByTurn s t trace
comes-by p k s t trace (Err outcome) e on f g h = absurd (cc)
comes-by p k s t trace (Ok x) e on f g h =
    let still : x.end ≡ Spent = same-ok x.end Spent on in
    let own : x.state ≡ s = same-ok x.state s f in
    let at : step_of p k ≡ Ok (ended Spent s x.host) = e ∙ ap (λ d. Ok (ended d x.state x.host)) still ∙ ap (λ u. Ok (ended Spent u x.host)) own in
    let next : step_of p (k + 1) ≡ Ok (run 1 no_flags false s x.host) = step-from p k 1 s x.host at in
    let after : (run 1 no_flags false s x.host).state ≡ t = same-ok _ t (sym (ap (map_ok (λ (e : Ended). e.state)) next) ∙ g) in
    let told : trace_after (ended Spent s x.host) ≡ trace = same-ok _ trace (sym (ap (map_ok trace_after) (sym e ∙ at)) ∙ h) in
    record { host = x.host; state = sym after ∙ one-by s x.host (turn s x.host) refl; traced = sym told }

pub comes-next : (p : Program) (k : ℕ) (s t : State) (trace : Option Trace) → GoesOn p k → map_ok (λ (e : Ended). e.state) (step_of p k) ≡ Ok s → map_ok (λ (e : Ended). e.state) (step_of p (k + 1)) ≡ Ok t →
    map_ok trace_after (step_of p k) ≡ Ok trace → ComesByTurn s t trace
comes-next p k s t trace on f g h = comes-by p k s t trace (step_of p k) refl on f g h

-- WHERE IT IS

over-or-on : (r : Result Ended Outcome) → map_ok (λ (e : Ended). is_over e.end) r ≡ Ok true → map_ok (λ (e : Ended). e.end) r ≡ Ok Spent → ⊥
over-or-on (Err outcome) e f = absurd (cc)
over-or-on (Ok x) e f =
    let still : x.end ≡ Spent = same-ok x.end Spent f in
    let over : is_over x.end ≡ true = same-ok (is_over x.end) true e in
    absurd (let wrong = sym (ap is_over still) ∙ over in cc)

at-by : (p : Program) (k a : ℕ) → GoesOn p k → IsReached p (k + 1) a → (a < k + 1) ⊎ (k + 1 ≤ a) → a ≡ k + 1
at-by p k a on r (inl l) = absurd (over-or-on (step_of p a) (r.early l) (step-before p a k (omega (arith, l)) on))
at-by p k a on r (inr l) = omega (arith, l, r.within)

pub reached-next : (p : Program) (k a : ℕ) → GoesOn p k → IsReached p (k + 1) a → a ≡ k + 1
reached-next p k a on r = at-by p k a on r (cases_lt a (k + 1))

-- programs that are alike have the same run
abbrev start_by : List (List ℕ) → Order → Form → List ℕ → List StoredFile → Then (Result State Outcome)
start_by words order form input files = end_of host (begin_plan window_machine words order form) (with_files (start_model input []) files)

same-start : (p q : Program) → AreAlike p q → start_of q ≡ start_of p
same-start p q h =
    ap (λ words. start_by words q.order q.form q.input q.files) h.words
    ∙ ap (λ order. start_by (map string_bytes p.words) order q.form q.input q.files) h.order
    ∙ ap (λ form. start_by (map string_bytes p.words) p.order form q.input q.files) h.form
    ∙ ap (λ input. start_by (map string_bytes p.words) p.order p.form input q.files) h.input
    ∙ ap (λ files. start_by (map string_bytes p.words) p.order p.form p.input files) h.files

same-run : (p q : Program) → AreAlike p q → SameRun p q
unfolding step_of
same-run p q h j = ap (run_from j) (same-start p q h)

-- PICTURES

picture-by : (r : Result Ended Outcome) (s : State) → map_ok (λ (e : Ended). e.state) r ≡ Ok s → picture_of r ≡ picture s
picture-by (Err outcome) s e = absurd (cc)
picture-by (Ok x) s e = ap picture (same-ok x.state s e)

picture-is : (p : Program) (k : ℕ) (s : State) → map_ok (λ (e : Ended). e.state) (step_of p k) ≡ Ok s → picture_at p k ≡ picture s
unfolding picture_at
picture-is p k s e = picture-by (step_of p k) s e

pub leads-next : (p : Program) (k : ℕ) (s t : State) (r : Record) → map_ok (λ (e : Ended). e.state) (step_of p k) ≡ Ok s → map_ok (λ (e : Ended). e.state) (step_of p (k + 1)) ≡ Ok t → Leads r (picture s) (picture t) → Leads r (picture_at p k) (picture_at p (k + 1))
leads-next p k s t r e f h = subst (λ (q : Picture). Leads r q (picture_at p (k + 1))) (sym (picture-is p k s e)) (subst (λ (q : Picture). Leads r (picture s) q) (sym (picture-is p (k + 1) t f)) h)

-- the registers of the one state that a step has
state-once : (r : Result Ended Outcome) (s t : State) → map_ok (λ (e : Ended). e.state) r ≡ Ok s → map_ok (λ (e : Ended). e.state) r ≡ Ok t → s ≡ t
state-once (Err outcome) s t e f = absurd (cc)
state-once (Ok x) s t e f = sym (same-ok x.state s e) ∙ same-ok x.state t f

pub holds-step : (octas : List ℕ) (p : Program) (k : ℕ) (t : State) → map_ok (λ (e : Ended). e.state) (step_of p k) ≡ Ok t → HoldsStack octas t.stack → HoldsStep octas p k
holds-step octas p k t e h s f = subst (λ (u : State). HoldsStack octas u.stack) (state-once (step_of p k) t s e f) h

-- ONE GOES AHEAD

pub record IsAhead (v : Recorded) (a : Replayed) (s t : State) (trace : Option Trace) : Type 0 where
  pub at : a.at ≡ v.before.at + 1
  pub same : SameRun v.before.program a.program
  pub state : map_ok (λ (e : Ended). e.state) (step_of v.before.program (v.before.at + 1)) ≡ Ok t
  pub traced : map_ok trace_after (step_of v.before.program v.before.at) ≡ Ok trace
  pub turn : ComesByTurn s t trace

pub goes-ahead : (v : Recorded) (a : Replayed) (s t : State) (trace : Option Trace) → IsAt v v.before.program v.before.at → GoesOn v.before.program v.before.at → a.program ≡ v.after.program → IsReached v.after.program (v.after.at + 1) a.at →
    map_ok (λ (e : Ended). e.state) (step_of v.before.program v.before.at) ≡ Ok s → map_ok (λ (e : Ended). e.state) (step_of a.program a.at) ≡ Ok t → map_ok trace_after (step_of v.after.program v.after.at) ≡ Ok trace → IsAhead v a s t trace
goes-ahead v a s t trace i on own reach f g h =
    let p : Program = v.before.program in
    let q : Program = v.after.program in
    let k : ℕ = v.before.at in
    let there : IsReached q (k + 1) a.at = subst (λ n. IsReached q (n + 1) a.at) i.together reach in
    let still : GoesOn q k = ap (map_ok (λ (e : Ended). e.end)) (i.same k) ∙ on in
    let at : a.at ≡ k + 1 = reached-next q k a.at still there in
    let same : SameRun p a.program = λ j. ap (λ x. step_of x j) own ∙ i.same j in
    let next : map_ok (λ (e : Ended). e.state) (step_of p (k + 1)) ≡ Ok t = ap (map_ok (λ (e : Ended). e.state)) (sym (same a.at ∙ ap (step_of p) at)) ∙ g in
    let told : map_ok trace_after (step_of p k) ≡ Ok trace = ap (map_ok trace_after) (sym (ap (step_of q) i.together ∙ i.same k)) ∙ h in
    record { at = at; same = same; state = next; traced = told; turn = comes-next p k s t trace on f next told }

-- THE START

pub leads-first : (v : Replayed) (p : Program) (s : State) (r : Record) → v ≡ record { program = p; at = 0 } → map_ok (λ (e : Ended). e.state) (step_of v.program v.at) ≡ Ok s → Leads r no_picture (picture s) → Leads r no_picture (picture_at p 0)
leads-first v p s r e f h = subst (λ (q : Picture). Leads r no_picture q) (sym (picture-is p 0 s (sym (ap (λ (x : Replayed). map_ok (λ (e : Ended). e.state) (step_of x.program x.at)) e) ∙ f))) h

-- at some step
pub ready-of : (v : Recorded) (p : Program) (k : ℕ) → IsAt v p k → IsReady v
ready-of v p k i = subst (λ q. IsAt v q v.before.at) (sym i.program) (subst (IsAt v p) (sym i.step) i)

-- a word that names the file is there in both
pub alike-named : (p q : Program) → AreAlike p q → NamesFile p → NamesFile q
alike-named p q h n =
    let count : length q.words ≡ length p.words = sym (length-map q.words string_bytes) ∙ ap length h.words ∙ length-map p.words string_bytes in
    record {
      file = subst (λ (o : Order). o.file < length q.words) (sym h.order) (omega (arith, count, n.file));
      rest = subst (λ (o : Order). o.rest ≤ length q.words) (sym h.order) (omega (arith, count, n.rest));
    }

pub ruleset naming = (alike-named)

pub refused-alike : (p q : Program) (outcome : Outcome) → AreAlike p q → step_of q 0 ≡ Err outcome → step_of p 0 ≡ Err outcome
refused-alike p q outcome h e = sym (same-run p q h 0) ∙ e

pub begun-ready : (v a : Replayed) (p q : Program) (s : State) (octas : List ℕ) → AreAlike p q → v ≡ record { program = p; at = 0 } → a ≡ record { program = q; at = 0 } → map_ok (λ (e : Ended). e.state) (step_of v.program v.at) ≡ Ok s → HoldsStack octas s.stack →
    IsAt (record { before = v; after = a; stacked = octas }) p 0
begun-ready v a p q s octas e f g h k = record {
  program = ap (λ (x : Replayed). x.program) f;
  step = ap (λ (x : Replayed). x.at) f;
  together = ap (λ (x : Replayed). x.at) g ∙ sym (ap (λ (x : Replayed). x.at) f);
  same = λ j. ap (λ (x : Replayed). step_of x.program j) g ∙ same-run p q e j ∙ sym (ap (λ (x : Replayed). step_of x.program j) f);
  stacked = holds-step octas p 0 s (sym (ap (λ (x : Replayed). map_ok (λ (e : Ended). e.state) (step_of x.program x.at)) f) ∙ h) k;
}
