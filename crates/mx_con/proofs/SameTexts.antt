-- What the console reads and writes of a state that is also a list.
use Rattle.std.proofs.Common.{◌≡◌, ℕ, ◌/◌, ◌^◌, ◌==◌, [], ◌++◌, false, cond, length, Option, None, Some, arith, refl, ◌∙◌, ap}
use Rattle.std.specs.Prelude.{codes, decimal, unwrap_or}
use Rattle.std.proofs.lemmas.Bool.Decides.{nat_tests}
use Rattle.mx_text.specs.Numbers.{hex_text, shown_text}
use Rattle.mx_text.specs.declared.numbers.Form.{Form}
use Rattle.mx_registers.specs.Registers.{Registers}
use Rattle.mx_ring.specs.Stack.{in_stack_area}
use Rattle.mx_core.specs.Bounds.{as_list_state}
use Rattle.mx_word.specs.Segments.{is_in_stack_segment}
use Rattle.mx_core.specs.State.{State, is_negative}
use Rattle.mx_code.specs.declared.trace.Touch.{Touch}
use Rattle.mx_code.specs.declared.trace.Trace.{Trace}
use Rattle.mx_core.proofs.Same.Seen.{same-visible, same-register, same-special, same-octa}
use Rattle.mx_show.specs.Texts.{destination_text, write_text, trap_text, next_text, step_text, trace_text, state_text}
use Rattle.mx_show.specs.Subjects.{octa_shown, octa_start, subject_text, subject_value, shown_line, subject_wild}
use Rattle.mx_cmd.specs.declared.command.Subject.{Subject}
use Rattle.mx_cmd.specs.declared.command.Subject.TheVariants.{Register, Global, Special, Memory}
use Rattle.mx_con.proofs.QuietTraces.{Outside}

pub outside-area : (a : ℕ) → is_in_stack_segment a ≡ false → in_stack_area a ≡ false
outside-area a e = grind (arith, nat_tests)

same-shown : (s : State) (a : ℕ) → in_stack_area a ≡ false → octa_shown (as_list_state s) a ≡ octa_shown s a
unfolding octa_shown
same-shown s a e = ap (λ x. cond (is_negative a) 0 x) (same-octa s s.stack a e)

-- ---- a step

same-destination : (s : State) (k : Option ℕ) → destination_text (as_list_state s) k ≡ destination_text s k
same-destination s None = refl
same-destination s (Some k) = ap (λ x. codes " $" ++ decimal k ++ codes "=" ++ hex_text x) (same-register s.stack k)

same-write : (s : State) (t : Option Touch) → Outside t → write_text (as_list_state s) t ≡ write_text s t
same-write s None o = refl
same-write s (Some t) o = ap (λ x. codes " M" ++ hex_text (octa_start t.at) ++ codes "=" ++ hex_text x) (same-shown s t.at o)

same-trap : (s : State) (word : ℕ) → trap_text (as_list_state s) word ≡ trap_text s word
same-trap s word = ap (λ x. cond (word / 2 ^ 24 == 0) (codes " $255=" ++ hex_text x) []) (same-register s.stack 255)

pub same-trace : (t : Trace) (s : State) → Outside t.writes → trace_text t (as_list_state s) ≡ trace_text t s
unfolding trace_text
same-trace t s o =
    ap (λ x. step_text t ++ x ++ write_text (as_list_state s) t.writes ++ trap_text (as_list_state s) t.word ++ next_text t.pc t.next) (same-destination s t.dest)
    ∙ ap (λ x. step_text t ++ destination_text s t.dest ++ x ++ trap_text (as_list_state s) t.word ++ next_text t.pc t.next) (same-write s t.writes o)
    ∙ ap (λ x. step_text t ++ destination_text s t.dest ++ write_text s t.writes ++ x ++ next_text t.pc t.next) (same-trap s t.word)

-- ---- the state

pub same-state : (s : State) → state_text (as_list_state s) ≡ state_text s
unfolding state_text
same-state s =
    ap (λ (v : Registers). codes "steps " ++ decimal s.steps ++ codes " at " ++ hex_text s.pc ++ codes " L " ++ decimal (length v.locals) ++ codes " G " ++ decimal v.first_global)
    (same-visible s.stack)

-- ---- subjects

same-value : (s : State) (subject : Subject) → subject_wild subject ≡ false → subject_value (as_list_state s) subject ≡ subject_value s subject
same-value s (Register n) e = same-register s.stack (unwrap_or n 0)
same-value s (Global n) e = same-register s.stack (unwrap_or n 0)
same-value s (Special None) e = same-special s s.stack 0 refl
same-value s (Special (Some code)) e = same-special s s.stack code e
same-value s (Memory a) e = same-shown s a (outside-area a e)

pub same-line : (s : State) (subject : Subject) (form : Form) → subject_wild subject ≡ false → shown_line (as_list_state s) subject form ≡ shown_line s subject form
unfolding shown_line
same-line s subject form e = ap (λ x. subject_text subject ++ codes "=" ++ shown_text form x) (same-value s subject e)
