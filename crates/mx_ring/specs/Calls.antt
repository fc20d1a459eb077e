-- What the calls of the register stack answer: each refusal where its test holds, and only there.
use Rattle.std.specs.Prelude.{ℕ, Bool, Result, Ok, Err, if◌then◌else◌}
use Rattle.mx_ring.specs.Frames.{is_bad_frame}
use Rattle.mx_ring.specs.Stack.{Stack, set_overfills, push_overfills, pop_underflows, save_overfills, unsave_refused, octas_to, unsaved_specials, stack_index}
use Rattle.mx_registers.specs.declared.fault.RingFault.{RingFault}
use Rattle.mx_registers.specs.declared.fault.RingFault.TheVariants.{StackFull, Underflow, BadFrame}
use Rattle.mx_ring.specs.declared.saved.Saved.{Saved}

abbrev pub refused_where : Bool → RingFault → Result (Unit {0}) RingFault
refused_where refused fault = if refused then Err fault else Ok tt

-- a value for $k
abbrev pub set_answer : Stack → ℕ → Result (Unit {0}) RingFault
set_answer s k = refused_where (set_overfills s k) StackFull

-- PUSH X,YZ, POP X,YZ and SAVE
abbrev pub push_answer : Stack → ℕ → Result (Unit {0}) RingFault
push_answer s x = refused_where (push_overfills s x) StackFull

abbrev pub pop_answer : Stack → Result (Unit {0}) RingFault
pop_answer s = refused_where (pop_underflows s) Underflow

abbrev pub save_answer : Stack → Result (Unit {0}) RingFault
save_answer s = refused_where (save_overfills s) StackFull

-- UNSAVE at the index of an octa, and at an address, gives the special registers of the frame
abbrev pub frame_answer : Stack → ℕ → Result Saved RingFault
frame_answer s i = if is_bad_frame (octas_to s i) i then Err BadFrame else Ok (unsaved_specials s i)

abbrev pub unsave_answer : Stack → ℕ → Result Saved RingFault
unsave_answer s a = if unsave_refused s a then Err BadFrame else Ok (unsaved_specials s (stack_index a))
