-- What the words of the debugger do, which are those of gdb: where each leads from the step that is shown, and which breaks and
-- watches it leaves.
use Rattle.std.specs.Prelude.{ℕ, ◌≡◌, ◌≢◌, ◌+◌, ◌-◌, ◌==◌, not, Bool, false, true, List, [], ◌∷◌, Option, None, Some}
use Rattle.std.specs.List.{filter}
use Rattle.mx_ask.specs.Places.{count_in, number_in}
use Rattle.mx_ask.specs.declared.words.Word.{Word}
use Rattle.mx_ask.specs.declared.words.Word.TheVariants as word
use Rattle.mx_places.specs.Named.{place_in}
use Rattle.mx_stops.specs.declared.stops.Break.{Break}
use Rattle.mx_stops.specs.declared.stops.Watch.{Watch}
use Rattle.mx_debug.specs.Going.{GoesTo, GoesToLast, GoesToMaker, GoesToNext, depth_at, followed_at}
use Rattle.mx_debug.specs.Sessions.{Debugged, KeepsStops}

-- what holds where something is said, and what holds where nothing is
abbrev pub WhereSaid : {A : Type 0} → Option A → (A → Type 0) → Type 0 → Type 0
WhereSaid None said unsaid = unsaid
WhereSaid (Some a) said unsaid = said a

-- ---- where a word leads

-- Out of the call that the session is in: to where fewer registers are hidden than here, since a call hides some and its return
-- brings them back. Where each call has returned, the session stays.
pub record LeavesCall (d : Debugged) (at : ℕ) (Goes : Option ℕ → ℕ → Type 0) : Type 0 where
  pub within : depth_at d ≢ 0 → Goes (Some (depth_at d - 1)) at
  pub outside : depth_at d ≡ 0 → at ≡ d.at

-- Where a word leads with what follows it:
-- `run` from the start to the first break or watch after it, and `start` to the start;
-- `step N` N steps on, and `reverse-step N` N steps back, but not past the start; without N it is one step;
-- `goto K` to step K, forward or back;
-- `next` to the next step that is in no call made from here, and `reverse-next` back to the last one: at most as many registers are
-- hidden there as here;
-- `finish` to the step after the return from this call, and `reverse-finish` back to the step that made it;
-- `continue` to the next break or watch, and `reverse-continue` back to the last one;
-- `who PLACE` to the step that made the value there; `$k` is the register that has this number at the step that is visited.
-- `next` and `finish` stop at a break or a watch, too. A word that lacks its number or its place, and each other word, stays.
abbrev pub Leads : Debugged → Word → List ℕ → ℕ → Type 0
Leads d word.Run rest at = GoesToNext (record d { at = 0 }) None at
Leads d word.Start rest at = GoesTo d 0 at
Leads d word.Step rest at = WhereSaid (count_in rest) (λ n. GoesTo d (d.at + n) at) (at ≡ d.at)
Leads d word.ReverseStep rest at = WhereSaid (count_in rest) (λ n. at ≡ d.at - n) (at ≡ d.at)
Leads d word.GoTo rest at = WhereSaid (number_in rest) (λ k. GoesTo d k at) (at ≡ d.at)
Leads d word.Next rest at = GoesToNext d (Some (depth_at d)) at
Leads d word.ReverseNext rest at = GoesToLast d (Some (depth_at d)) at
Leads d word.Finish rest at = LeavesCall d at (GoesToNext d)
Leads d word.ReverseFinish rest at = LeavesCall d at (GoesToLast d)
Leads d word.Continue rest at = GoesToNext d None at
Leads d word.ReverseContinue rest at = GoesToLast d None at
Leads d word.Who rest at = WhereSaid (place_in d.book rest) (λ place. GoesToMaker d (followed_at d place) at) (at ≡ d.at)
Leads d other rest at = at ≡ d.at

-- whether a word may lead to another step: those above
abbrev pub goes : Word → Bool
goes word.Break = false
goes word.Watch = false
goes word.Delete = false
goes word.Print = false
goes word.Examine = false
goes word.Backtrace = false
goes word.Info = false
goes word.List = false
goes word.Help = false
goes word.Quit = false
goes other = true

-- ---- which breaks and watches a word leaves

-- all but those of a number
abbrev pub breaks_but : ℕ → List Break → List Break
breaks_but n breaks = filter (λ (b : Break). not (b.number == n)) breaks

abbrev pub watches_but : ℕ → List Watch → List Watch
watches_but n watches = filter (λ (w : Watch). not (w.number == n)) watches

abbrev pub LeavesAllBut : ℕ → Debugged → Debugged → Type 0
LeavesAllBut n old new = (new.breaks ≡ breaks_but n old.breaks) × (new.watches ≡ watches_but n old.watches)

-- what `delete` leaves: alone nothing, with a number all but those of this number, and with anything else all
abbrev pub Deletes : Debugged → List ℕ → Debugged → Type 0
Deletes old [] new = (new.breaks ≡ []) × (new.watches ≡ [])
Deletes old (b ∷ bs) new = WhereSaid (number_in (b ∷ bs)) (λ n. LeavesAllBut n old new) (KeepsStops old new)

-- whether a word may change the breaks or what is watched
abbrev pub sets : Word → Bool
sets word.Break = true
sets word.Watch = true
sets word.Delete = true
sets other = false
