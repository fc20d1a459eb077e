-- The octas of a memory by itself, as a dump has them; and the lines of several processors.
use Rattle.std.proofs.Common.{◌≡◌, ℕ, ◌%◌, ◌^◌, Bool, true, false, cond, List, [], ◌∷◌, ◌++◌, length, map, get_or, codes, decimal, Option, None, Some, Ok, Err, arith, refl, sym, ◌∙◌, ap}
use Rattle.std.specs.List.{flat_map, range_with_len}
use Rattle.std.proofs.lemmas.List.{length-map}
use Rattle.std.proofs.Math.ListN.{get_or-map}
use Rattle.mx_core.specs.Bare.{Shared}
use Rattle.mx_core.specs.Bounds.{as_list_state}
use Rattle.mx_core.specs.Way.Search.{AreZero, IsNextBetween}
use Rattle.mx_core.specs.State.{State, octa}
use Rattle.mx_core.proofs.Same.Seen.{same-register}
use Rattle.mx_host.specs.HostModel.{HostModel}
use Rattle.mx_multi.specs.Joint.{Joint, as_list_joint, has_halted, no_processor, processor}
use Rattle.mx_multi.specs.declared.end.MultiEnd.{MultiEnd}
use Rattle.mx_ring.specs.Stack.{in_stack_area, register, stack_address}
use Rattle.std.specs.Prelude.{Result}
use Rattle.mx_outcome.specs.declared.outcome.Outcome.{Outcome}
use Rattle.mx_files.proofs.WrittenLines.{Writes, writes-none, writes-then, writes-ended}
use Rattle.mx_dump.specs.Dump.{Line, is_address_shown, octa_line}
use Rattle.mx_top.specs.Processors.{stop_text, processor_line, processor_lines, memory_alone, memory_lines, memory_if, multi_lines}
use Rattle.mx_dump.specs.Shown.{AreHidden, IsNextShown}
use Rattle.mx_dump.proofs.Dumps.{zero-hidden, address-hidden, octa-shown, hidden-through, outside, inside, area-below}
use Rattle.mx_top.proofs.SameDumps.{same-each}

-- ---- octas

outside-is : (m : Shared) (a : ℕ) → in_stack_area a ≡ false → octa (memory_alone m) a ≡ m.octas a
unfolding octa
outside-is m a e = rw e refl

shown-there : (m : Shared) (a : ℕ) → in_stack_area a ≡ false → is_address_shown (memory_alone m) a ≡ true
unfolding no_processor
shown-there m a e = rw e refl

unshown : (m : Shared) (a : ℕ) → in_stack_area a ≡ true → is_address_shown (memory_alone m) a ≡ false
unfolding no_processor
unshown m a e = rw e refl

hidden-inside : (m : Shared) (a : ℕ) → in_stack_area a ≡ true → octa_line (memory_alone m) a ≡ []
hidden-inside m a e = address-hidden (memory_alone m) a (unshown m a e)

zeros-hidden : (m : Shared) (from to : ℕ) → AreZero m.octas from to → AreHidden (memory_alone m) from to
zeros-hidden m from to h = λ q l e n. by q (in_stack_area q) refl (h q l e n)
  where
    by : (q : ℕ) (b : Bool) → in_stack_area q ≡ b → m.octas q ≡ 0 → octa_line (memory_alone m) q ≡ []
    by q true e z = hidden-inside m q e
    by q false e z = zero-hidden (memory_alone m) q (outside-is m q e ∙ z)

pub shared-none : (m : Shared) (from : ℕ) → IsNextBetween m.octas from (2 ^ 63) None → IsNextShown (memory_alone m) from None
shared-none m from h = zeros-hidden m from (2 ^ 63) h

pub shared-there : (m : Shared) (from a x : ℕ) → IsNextBetween m.octas from (2 ^ 63) (Some (a, x)) → in_stack_area a ≡ false → IsNextShown (memory_alone m) from (Some (a, x))
shared-there m from a x h e =
    (h.0, h.1, h.2, octa-shown (memory_alone m) a x (outside-is m a e ∙ h.3) h.4 (shown-there m a e), zeros-hidden m from a h.5)

over-area : (m : Shared) (from a x : ℕ) → IsNextBetween m.octas from (2 ^ 63) (Some (a, x)) → in_stack_area a ≡ true → AreHidden (memory_alone m) from (stack_address (2 ^ 20))
over-area m from a x h e =
    hidden-through (memory_alone m) from a (stack_address (2 ^ 20)) (zeros-hidden m from a h.5) (λ q l f n. hidden-inside m q (inside a q e l n))

pub shared-above : (m : Shared) (from a x : ℕ) (found : Option (ℕ × ℕ)) → IsNextBetween m.octas from (2 ^ 63) (Some (a, x)) → in_stack_area a ≡ true →
    IsNextBetween m.octas (stack_address (2 ^ 20)) (2 ^ 63) found → IsNextShown (memory_alone m) from found
shared-above m from a x None h e k =
    hidden-through (memory_alone m) from (stack_address (2 ^ 20)) (2 ^ 63) (over-area m from a x h e) (zeros-hidden m (stack_address (2 ^ 20)) (2 ^ 63) k)
shared-above m from a x (Some (b, y)) h e k =
    let below = area-below a e in (
      omega (arith, h.0, below, k.0),
      k.1,
      k.2,
      octa-shown (memory_alone m) b y (outside-is m b (outside b k.0) ∙ k.3) k.4 (shown-there m b (outside b k.0)),
      hidden-through (memory_alone m) from (stack_address (2 ^ 20)) b (over-area m from a x h e) (zeros-hidden m (stack_address (2 ^ 20)) b k.5),
    )

pub ruleset sharing = (shared-none, shared-there, shared-above)

-- ---- lines

pub lines-of : (end : MultiEnd) (j : Joint) (count : ℕ) → length j.processors ≡ count → processor_lines end j ≡ flat_map (processor_line end j) (range_with_len 0 count)
unfolding processor_lines
lines-of end j count e = ap (λ n. flat_map (processor_line end j) (range_with_len 0 n)) e

pub writes-lines : (a b c : Option HostModel) (k m n : ℕ) (r : Result (Unit {0}) Outcome) (end : MultiEnd) (j : Joint) → Writes a b k m (Ok tt) (processor_lines end j) →
    Writes b c m n r (memory_lines j.memory) → Writes a c k n r (multi_lines true end j)
unfolding multi_lines
writes-lines a b c k m n r end j first second = writes-then a b c k m n r (processor_lines end j) (memory_lines j.memory) first second

pub writes-alone : (a b : Option HostModel) (k m : ℕ) (end : MultiEnd) (j : Joint) → Writes a b k m (Ok tt) (processor_lines end j) → Writes a b k m (Ok tt) (multi_lines false end j)
unfolding multi_lines
writes-alone a b k m end j first = writes-then a b b k m m (Ok tt) (processor_lines end j) [] first (writes-none b m)

pub writes-unended : (a b : Option HostModel) (k m : ℕ) (outcome : Outcome) (dump : Bool) (end : MultiEnd) (j : Joint) → Writes a b k m (Err outcome) (processor_lines end j) →
    Writes a b k m (Err outcome) (multi_lines dump end j)
unfolding multi_lines
writes-unended a b k m outcome dump end j first = writes-ended a b k m outcome (processor_lines end j) (memory_if dump j.memory) first

-- ---- those of lists are the same

none-listed : as_list_state no_processor ≡ no_processor
unfolding no_processor
none-listed = refl

listed-or : (d e : State) (ss : List State) (who : ℕ) → as_list_state d ≡ e → get_or (map as_list_state ss) who e ≡ as_list_state (get_or ss who d)
listed-or d e ss who is = ap (λ x. get_or (map as_list_state ss) who x) (sym is) ∙ get_or-map as_list_state ss who d

listed-processor : (j : Joint) (who : ℕ) → processor (as_list_joint j) who ≡ as_list_state (processor j who)
listed-processor j who = listed-or no_processor no_processor j.processors who none-listed

abbrev line-of : MultiEnd → List Bool → ℕ → State → Line
line-of end halted who s =
    codes "processor " ++ decimal who ++ (cond (has_halted halted who) (codes " halted " ++ decimal (register s.stack 255 % 256)) (stop_text who end)) ++ codes " steps " ++ decimal s.steps ++ codes "\n"

same-line : (end : MultiEnd) (halted : List Bool) (who : ℕ) (s : State) → line-of end halted who (as_list_state s) ≡ line-of end halted who s
same-line end halted who s = rw (same-register s.stack 255) refl

same-processor : (end : MultiEnd) (j : Joint) (who : ℕ) → processor_line end (as_list_joint j) who ≡ processor_line end j who
same-processor end j who =
    ap (λ s. line-of end j.halted who s ∷ []) (listed-processor j who) ∙ ap (λ line. line ∷ []) (same-line end j.halted who (processor j who))

pub same-lines : (dump : Bool) (end : MultiEnd) (j : Joint) → multi_lines dump end (as_list_joint j) ≡ multi_lines dump end j
unfolding multi_lines processor_lines
same-lines dump end j =
    ap (λ ls. ls ++ memory_if dump j.memory)
    (same-each (processor_line end (as_list_joint j)) (processor_line end j) (same-processor end j) (range_with_len 0 (length (map as_list_state j.processors)))
    ∙ ap (λ n. flat_map (processor_line end j) (range_with_len 0 n)) (length-map j.processors as_list_state))
