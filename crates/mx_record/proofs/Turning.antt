-- The record of a turn leads from one picture to the next.
use Rattle.std.proofs.Common.{◌≡◌, ◌≤◌, ◌<◌, ℕ, ◌+◌, ◌^◌, min, Bool, true, false, cond, List, Option, arith, refl, subst, sym, ◌∙◌, ap, bit_xor}
use Rattle.std.proofs.lemmas.List.{get_or_past, length-append}
use Rattle.std.specs.Int.Bits.{xor_assoc, xor_self, xor_zero_l}
use Rattle.mx_ring.specs.Stack.{Stack, visible, hidden_count, hidden_octas, local_count}
use Rattle.mx_code.specs.declared.trace.Trace.{Trace}
use Rattle.mx_core.specs.MachineSpace.{IsWholeSpace}
use Rattle.mx_core.specs.Machines.{IsOverWindow}
use Rattle.mx_core.specs.State.{State}
use Rattle.mx_record.specs.Following.{AreFound, ComesByTurn, HoldsStack, TellsAll, is_reached, kept_count, reach_of, reaches_hidden, stacked_by}
use Rattle.mx_record.specs.Pictures.{all_registers, global_shown, octa_of, octa_shown, picture, special_shown}
use Rattle.mx_record.specs.Records.{Leads, applied, changed, difference}
use Rattle.mx_record.specs.declared.changes.Change.{Change}
use Rattle.mx_record.specs.declared.changes.Record.{Record}
use Rattle.mx_record.specs.declared.reach.Reach.{Reach}
use Rattle.mx_record.proofs.Reaching.{turn-reaches}
use Rattle.mx_record.proofs.StackTurns.{turn-finds}
use Rattle.mx_record.proofs.Under.{turn-keeps}

xor-on : (a b : ℕ) → bit_xor a (bit_xor a b) ≡ b
xor-on a b = sym (xor_assoc a a b) ∙ ap (λ x. bit_xor x b) (xor_self a) ∙ xor_zero_l b

changed-on : (changes : List Change) (old new : ℕ → ℕ) (q : ℕ) → TellsAll changes old new → changed old changes q ≡ new q
changed-on changes old new q h = ap (bit_xor (old q)) (h.at q) ∙ xor-on (old q) (new q)

held-on : (changes : List Change) (octas : List ℕ) (y z : Stack) (q : ℕ) → HoldsStack octas y → TellsAll changes (octa_of octas) (octa_of (all_registers z)) → changed (octa_of (all_registers y)) changes q ≡ octa_of (all_registers z) q
held-on changes octas y z q h t = ap (λ x. bit_xor x (difference changes q)) (sym (h q)) ∙ changed-on changes (octa_of octas) (octa_of (all_registers z)) q t

pub leads-on : (s t : State) (octas : List ℕ) (r : Record) → r.next ≡ bit_xor s.pc t.pc → TellsAll r.special (special_shown s) (special_shown t) → TellsAll r.global (global_shown s) (global_shown t) →
    HoldsStack octas s.stack → TellsAll r.stacked (octa_of octas) (octa_of (all_registers t.stack)) → TellsAll r.octas (octa_shown s) (octa_shown t) → Leads r (picture s) (picture t)
unfolding applied picture
leads-on s t octas r e f g h k l = λ i. record {
  next = (ap (bit_xor s.pc) e ∙ xor-on s.pc t.pc) i;
  special = λ q. changed-on r.special (special_shown s) (special_shown t) q f i;
  global = λ q. changed-on r.global (global_shown s) (global_shown t) q g i;
  stacked = λ q. held-on r.stacked octas s.stack t.stack q h k i;
  octa = λ q. changed-on r.octas (octa_shown s) (octa_shown t) q l i;
}

-- WHAT IS KNOWN BEFORE

pub reached : (s t : State) (trace : Option Trace) (r : Reach) → IsOverWindow s → IsWholeSpace s → ComesByTurn s t trace → r ≡ reach_of trace → (n : ℕ) → is_reached r n ≡ false → octa_shown t n ≡ octa_shown s n
reached s t trace r o p h e n f = turn-reaches s t o.window trace o.machine o.octas.area p h n (sym (ap (λ x. is_reached x n) e) ∙ f)

pub found : (s t : State) (octas : List ℕ) (trace : Option Trace) (before : ℕ) → IsOverWindow s → IsOverWindow t → ComesByTurn s t trace → HoldsStack octas s.stack → before ≡ hidden_count s.stack → AreFound before (octa_of octas) t.stack
found s t octas trace before o p h k e i =
    turn-finds s t o.window p.window trace o.machine o.octas.area p.machine h i
    ∙ ap (λ x. stacked_by (hidden_count s.stack) x t.stack i) (sym (k i))
    ∙ ap (λ b. stacked_by b (octa_of octas i) t.stack i) (sym e)

-- the registers of the stack in front of those that a turn may change
kept-by : (b : Bool) (before after i : ℕ) → i < cond b 0 (min before after) → (b ≡ false) × (i < before) × (i < after)
kept-by true before after i l = absurd (omega (arith, l))
kept-by false before after i l = (refl, omega (arith, l), omega (arith, l))

pub kept : (s t : State) (octas : List ℕ) (trace : Option Trace) (count before after : ℕ) → IsOverWindow s → ComesByTurn s t trace → HoldsStack octas s.stack → count ≡ kept_count trace before after → before ≡ hidden_count s.stack → after ≡ hidden_count t.stack →
    (i : ℕ) → i < count → octa_of (all_registers t.stack) i ≡ octa_of octas i
kept s t octas trace count before after o h k e f g i l =
    let parts : (reaches_hidden trace ≡ false) × (i < before) × (i < after) = kept-by (reaches_hidden trace) before after i (subst (λ n. i < n) e l) in
    turn-keeps s t o.window trace o.machine o.octas.area h parts.0 i (subst (λ n. i < n) f parts.1) (subst (λ n. i < n) g parts.2) ∙ sym (k i)

pub few-registers : (s : State) → IsOverWindow s → hidden_count s.stack + local_count s.stack ≤ 2 ^ 20
few-registers s o = rw (o.machine.over) (o.machine.ring.has_room)

pub zeros-after : (z : Stack) (octas : List ℕ) (end : ℕ) → HoldsStack octas z → end ≡ hidden_count z + local_count z → (i : ℕ) → end ≤ i → octa_of octas i ≡ 0
zeros-after z octas end h e i l = h i ∙ get_or_past (all_registers z) i 0 (omega (arith, length-append (hidden_octas z) (visible z).locals, e, l))

pub ruleset turning = (leads-on, reached, found, few-registers, zeros-after)
