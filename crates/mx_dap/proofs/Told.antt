-- Where a session is, and what is told of it.
use Rattle.std.proofs.Common.{◌≡◌, ◌<◌, ◌∙◌, ℕ, List, [], Ok, Some, None, ap, subst, sym, arith}
use Rattle.std.specs.Prelude.{Option, Result, Err, OnOk, codes, min}
use Rattle.mx_replay.specs.Programs.{GoesOn, IsReached}
use Rattle.mx_replay.specs.declared.program.Program.{Program}
use Rattle.mx_debug.specs.Going.{GoesTo, GoesToLast, GoesToNext}
use Rattle.mx_debug.specs.Sessions.{Debugged, KeepsProgram, KeepsStops}
use Rattle.mx_debug.proofs.Reaching.{back-exact}
use Rattle.mx_adapter.specs.Messages.{and_then, told}
use Rattle.mx_adapter.specs.Numbers.{Sent}
use Rattle.mx_dap.specs.Leads.{LeadsAndTells, LeadsBy, part_end}
use Rattle.mx_dap.specs.Stops.{TellsEnd, TellsWhere}
use Rattle.mx_dap.specs.Stops.TellsWhere.{stopped, ended}
use Rattle.mx_panes.specs.Stops.{stop_body}
use Rattle.mx_dap.specs.declared.running.Work.{Work}
use Rattle.mx_dap.specs.declared.running.Work.TheVariants.{Begin, Finish, GoBack, GoOn, GoTo, Tell}
use Rattle.mx_dap.specs.declared.stops.Reason.{Reason}
use Rattle.mx_word.specs.declared.no_memory.NoMemory.{NoMemory}

-- ---- back to a step

pub back-again : (p q : Program) (k at here : ℕ) → IsReached q k at → q ≡ p → ((j : ℕ) → j < k → GoesOn p j) → k ≡ here → at ≡ here
back-again p q k at here r same made e =
    let whole : min k k ≡ k = omega arith in
    back-exact p k k at made (subst (λ x. IsReached p x at) (sym whole) (subst (λ x. IsReached x k at) same r)) ∙ whole ∙ e

pub ruleset returning = (back-again)

-- ---- what is told

pub tells-stop : (at there : ℕ) (before after : Sent) (body reason said met : List ℕ) →
    after ≡ and_then before (told (codes "stopped") body) → body ≡ stop_body at reason said met → there ≡ at → TellsWhere there after
tells-stop at there before after body reason said met e is same = stopped (record {
  before = before;
  reason = reason;
  said = said;
  met = met;
  is = e ∙ ap (λ b. and_then before (told (codes "stopped") b)) (is ∙ ap (λ n. stop_body n reason said met) (sym same));
})

pub tells-end : (before after : Sent) → after ≡ and_then before (told (codes "terminated") []) → TellsEnd after
tells-end before after e = record { before = before; is = e }

pub at-end : (at : ℕ) (sent : Sent) → TellsEnd sent → TellsWhere at sent
at-end at sent h = ended h

pub ruleset telling = (tells-stop, tells-end, at-end)

-- ---- where a part of what is to be done leads

pub led-on : (d : Debugged) (depth : Option ℕ) (until n k at there : ℕ) → GoesToNext (record d { most = n }) depth at → n ≡ part_end k until → k ≡ d.at → there ≡ at →
    LeadsBy d (GoOn depth until) there
led-on d depth until n k at there g f e h =
    let most : n ≡ part_end d.at until = f ∙ ap (λ x. part_end x until) e in
    subst (λ x. GoesToNext (record d { most = part_end d.at until }) depth x) (sym h) (subst (λ m. GoesToNext (record d { most = m }) depth at) most g)

pub led-back : (d : Debugged) (depth : Option ℕ) (at there : ℕ) → GoesToLast d depth at → there ≡ at → LeadsBy d (GoBack depth) there
led-back d depth at there g h = subst (λ x. GoesToLast d depth x) (sym h) g

pub led-to : (d : Debugged) (k at there : ℕ) → GoesTo d k at → there ≡ at → LeadsBy d (GoTo k) there
led-to d k at there g h = subst (λ x. GoesTo d k x) (sym h) g

-- ---- a part of what is to be done, as a whole

kept-on : (old mid new : Debugged) → KeepsProgram old mid → KeepsProgram mid new → KeepsProgram old new
kept-on old mid new p q = record { program = q.program ∙ p.program; book = q.book ∙ p.book; most = q.most ∙ p.most }

stops-on : (old mid new : Debugged) → KeepsStops old mid → KeepsStops mid new → KeepsStops old new
stops-on old mid new p q = (q.0 ∙ p.0, q.1 ∙ p.1)

pub on-told : (old mid new : Debugged) (depth : Option ℕ) (until n k : ℕ) (sent : Sent) →
    KeepsProgram old mid → KeepsStops old mid → GoesToNext (record old { most = n }) depth mid.at → n ≡ part_end k until → k ≡ old.at →
    KeepsProgram mid new → KeepsStops mid new → new.at ≡ mid.at → TellsWhere new.at sent → LeadsAndTells old new (GoOn depth until) sent (Ok None)
on-told old mid new depth until n k sent p s g f e q t h w = record {
  program = kept-on old mid new p q;
  stops = stops-on old mid new s t;
  leads = led-on old depth until n k mid.at new.at g f e h;
  told = λ none. w;
}

pub on-left : (old mid new : Debugged) (depth : Option ℕ) (until n k : ℕ) (rest : Work) (sent : Sent) →
    KeepsProgram old mid → KeepsStops old mid → GoesToNext (record old { most = n }) depth mid.at → n ≡ part_end k until → k ≡ old.at →
    new ≡ mid → LeadsAndTells old new (GoOn depth until) sent (Ok (Some rest))
on-left old mid new depth until n k rest sent p s g f e same = record {
  program = subst (λ x. KeepsProgram old x) (sym same) p;
  stops = subst (λ x. KeepsStops old x) (sym same) s;
  leads = led-on old depth until n k mid.at new.at g f e (ap (λ (x : Debugged). x.at) same);
  told = λ none. absurd (cc);
}

pub back-told : (old mid new : Debugged) (depth : Option ℕ) (sent : Sent) → KeepsProgram old mid → KeepsStops old mid → GoesToLast old depth mid.at →
    KeepsProgram mid new → KeepsStops mid new → new.at ≡ mid.at → TellsWhere new.at sent → LeadsAndTells old new (GoBack depth) sent (Ok None)
back-told old mid new depth sent p s g q t h w = record {
  program = kept-on old mid new p q;
  stops = stops-on old mid new s t;
  leads = led-back old depth mid.at new.at g h;
  told = λ none. w;
}

pub to-told : (old mid new : Debugged) (k : ℕ) (sent : Sent) → KeepsProgram old mid → KeepsStops old mid → GoesTo old k mid.at →
    KeepsProgram mid new → KeepsStops mid new → new.at ≡ mid.at → TellsWhere new.at sent → LeadsAndTells old new (GoTo k) sent (Ok None)
to-told old mid new k sent p s g q t h w = record {
  program = kept-on old mid new p q;
  stops = stops-on old mid new s t;
  leads = led-to old k mid.at new.at g h;
  told = λ none. w;
}

pub ruleset leading = (on-told, on-left, back-told, to-told)

-- ---- the beginning, and the end

still : (left : Result (Option Work) NoMemory) (a b c : ℕ) → OnOk left (a ≡ b) → b ≡ c → OnOk left (a ≡ c)
still (Ok rest) a b c h e = h ∙ e
still (Err fault) a b c h e = tt

pub here-told : (old new : Debugged) (reason : Reason) (sent : Sent) → KeepsProgram old new → KeepsStops old new → new.at ≡ old.at → TellsWhere new.at sent →
    LeadsAndTells old new (Tell reason) sent (Ok None)
here-told old new reason sent p s h w = record { program = p; stops = s; leads = h; told = λ none. w }

pub begun-told : (old mid new : Debugged) (reason : Reason) (sent : Sent) (left : Result (Option Work) NoMemory) →
    LeadsAndTells mid new (Tell reason) sent left → KeepsProgram old mid → KeepsStops old mid → mid.at ≡ old.at → LeadsAndTells old new Begin sent left
begun-told old mid new reason sent left h p s e = record {
  program = kept-on old mid new p h.program;
  stops = stops-on old mid new s h.stops;
  leads = still left new.at mid.at old.at h.leads e;
  told = h.told;
}

pub begun-left : (old new : Debugged) (rest : Work) (sent : Sent) → KeepsProgram old new → KeepsStops old new → new.at ≡ old.at →
    LeadsAndTells old new Begin sent (Ok (Some rest))
begun-left old new rest sent p s h = record { program = p; stops = s; leads = h; told = λ none. absurd (cc) }

pub finish-told : (old new : Debugged) (sent : Sent) → new ≡ old → TellsEnd sent → LeadsAndTells old new Finish sent (Ok None)
finish-told old new sent e t = record {
  program = record { program = ap (λ (x : Debugged). x.program) e; book = ap (λ (x : Debugged). x.book) e; most = ap (λ (x : Debugged). x.most) e };
  stops = (ap (λ (x : Debugged). x.breaks) e, ap (λ (x : Debugged). x.watches) e);
  leads = ap (λ (x : Debugged). x.at) e;
  told = λ none. ended t;
}

pub ruleset beginning = (here-told, begun-told, begun-left, finish-told)
