-- At its end a file trap does not lack memory.
use Rattle.std.proofs.Common.{◌≢◌, ℕ, suc, zero, ◌+◌, ◌-◌, List, [], ◌∷◌, length, take, drop, Bool, true, false, cond, refl, Some, None, Ok, Err}
use Rattle.std.specs.Prelude.{Option, Result, ◌==◌}
use Rattle.mx_mem.specs.Space.{Contents}
use Rattle.mx_mem.specs.declared.space.SpaceFault.{SpaceFault}
use Rattle.mx_mem.specs.declared.space.SpaceFault.TheVariants as space
use Rattle.mx_host.specs.HostModel.{HostModel}
use Rattle.mx_host.specs.declared.faults.HostFault.{HostFault}
use Rattle.mx_host.specs.declared.slots.Mode.{Mode}
use Rattle.mx_plan.specs.Plan.{bind}
use Rattle.mx_plan.specs.Calls.{HostPlan, SpacePlan, BothPlan, both, put_plan, read_plan, write_plan, open_plan, close_plan, seek_plan, tell_plan, need, look, on_host, on_space}
use Rattle.mx_plan.proofs.Giving.{Gives, gives-bind, gives-end, HostMay, SpaceMay, BothMay, gives-on_host, gives-on_space, both-may}
use Rattle.mx_alu.specs.declared.call.TrapCall.{TrapCall}
use Rattle.mx_trap.specs.FileTraps.{done_value, mode_of, fopen_in, fopen, fclose, fseek, place_value, ftell, carried_out, answer_to, trap_plan, trap_answer}
use Rattle.mx_trap.specs.Moves.{stored, byte_stored, stored_next, bytes_stored, piece_stored, piece_got, read_piece, read_last, read_next, read_pieces, whole_pieces, fread, line_ended, line_end, newline_after, byte_put, byte_got, line_byte, line_next, line_bytes, fgets, write_last, write_piece, write_next, write_pieces, written, fwrite_value, fwrite, fputs_value, fputs}
use Rattle.mx_trap.specs.Requests.{bytes_from, request_of}
use Rattle.mx_trap.specs.Services.{z_of}
use Rattle.mx_trap.specs.declared.answer.TrapAnswer.{TrapAnswer}
use Rattle.mx_trap.specs.declared.answer.TrapAnswer.TheVariants as trap
use Rattle.mx_trap.specs.declared.answer.TrapStop.{TrapStop}
use Rattle.mx_trap.specs.declared.requests.Request.{Request}
use Rattle.mx_trap.specs.declared.requests.Request.TheVariants.{Ending, Opening, Closing, Reading, ReadingLine, Writing, WritingText, Seeking, Telling}
use Rattle.mx_trap.specs.declared.writes.Written.{Written}
use Rattle.mx_trap.specs.declared.writes.Written.TheVariants.{Whole, Short, OutOfMemory}

-- an answer that does not say that there was no memory; and a value, or such an answer
abbrev Told : TrapAnswer → Type 0
Told answer = answer ≢ trap.OutOfMemory

abbrev TellsWell : {A : Type 0} → Result A TrapAnswer → Type 0
TellsWell (Ok x) = Unit {0}
TellsWell (Err answer) = Told answer

abbrev WritesWell : Written → Type 0
WritesWell w = w ≢ OutOfMemory

choice : {A : Type 0} (P : A → Type 0) (b : Bool) (x y : A) → P x → P y → P (cond b x y)
choice P true x y h k = h
choice P false x y h k = k

-- ---- bytes that are stored

stored-told : (r : Result (Unit {0}) SpaceFault) → r ≢ Err space.OutOfMemory → Gives SpaceMay TellsWell (stored r)
unfolding Gives
stored-told (Ok u) h = tt
stored-told (Err space.Negative) h = λ e. absurd (cc)
stored-told (Err space.PagesFull) h = λ e. absurd (cc)
stored-told (Err space.OutOfMemory) h = absurd (h refl)

byte-told : (a b : ℕ) → Gives SpaceMay TellsWell (byte_stored a b)
unfolding Gives byte_stored put_plan bind
byte-told a b = λ r m. stored-told r m

next-stored : (more : SpacePlan (Result (Unit {0}) TrapAnswer)) → Gives SpaceMay TellsWell more → (r : Result (Unit {0}) TrapAnswer) → TellsWell r → Gives SpaceMay TellsWell (stored_next more r)
unfolding Gives
next-stored more h (Ok u) k = h
next-stored more h (Err answer) k = k

bytes-told : (bs : List ℕ) (a : ℕ) → Gives SpaceMay TellsWell (bytes_stored bs a)
unfolding Gives bytes_stored
bytes-told [] a = tt
bytes-told (b ∷ bs) a = gives-bind SpaceMay TellsWell TellsWell (stored_next (bytes_stored bs (a + 1))) (byte_stored a b) (byte-told a b) (next-stored (bytes_stored bs (a + 1)) (bytes-told bs (a + 1)))

-- ---- Fread

piece-told : (n : ℕ) (r : Result (Unit {0}) TrapAnswer) → TellsWell r → Gives BothMay TellsWell (piece_stored n r)
unfolding Gives
piece-told n (Ok u) h = tt
piece-told n (Err answer) h = h

got-told : (a q : ℕ) (r : Result (List ℕ) HostFault) → Gives BothMay TellsWell (piece_got a q r)
unfolding Gives
got-told a q (Ok got) = gives-bind BothMay TellsWell TellsWell (piece_stored (length got)) (on_space (bytes_stored got a)) (gives-on_space TellsWell (bytes_stored got a) (bytes-told got a)) (piece-told (length got))
got-told a q (Err e) = λ e. absurd (cc)

read-told : (slot a len q : ℕ) → Gives BothMay TellsWell (read_piece slot a len q)
unfolding Gives read_piece read_plan on_host bind
read-told slot a len q = λ r m. got-told a q r

last-told : (moved q : ℕ) (r : Result ℕ TrapAnswer) → TellsWell r → Gives BothMay Told (read_last moved q r)
unfolding Gives
last-told moved q (Ok n) h = λ e. absurd (cc)
last-told moved q (Err answer) h = h

next-told : (more : BothPlan TrapAnswer) → Gives BothMay Told more → (moved q : ℕ) (r : Result ℕ TrapAnswer) → TellsWell r → Gives BothMay Told (read_next more moved q r)
unfolding Gives
next-told more f moved q (Ok n) h = choice (Gives BothMay Told) (n == 4096) _ _ f (λ e. absurd (cc))
next-told more f moved q (Err answer) h = h

pieces-told : (k slot p q moved : ℕ) → Gives BothMay Told (read_pieces k slot p q moved)
unfolding read_pieces
pieces-told zero slot p q moved = gives-bind BothMay TellsWell Told (read_last moved q) (read_piece slot (p + moved) (q - moved) q) (read-told slot (p + moved) (q - moved) q) (last-told moved q)
pieces-told (suc k) slot p q moved =
    gives-bind BothMay TellsWell Told (read_next (read_pieces k slot p q (moved + 4096)) moved q) (read_piece slot (p + moved) 4096 q) (read-told slot (p + moved) 4096 q)
    (next-told (read_pieces k slot p q (moved + 4096)) (pieces-told k slot p q (moved + 4096)) moved q)

-- ---- Fgets

ended-told : (count : ℕ) (r : Result (Unit {0}) TrapAnswer) → TellsWell r → Gives SpaceMay Told (line_ended count r)
unfolding Gives
ended-told count (Ok u) h = λ e. absurd (cc)
ended-told count (Err answer) h = h

end-told : (p count : ℕ) → Gives BothMay Told (on_space (line_end p count))
unfolding line_end
end-told p count = gives-on_space Told _ (gives-bind SpaceMay TellsWell Told (line_ended count) (byte_stored (p + count) 0) (byte-told (p + count) 0) (ended-told count))

newline-told : (b : ℕ) (r : Result (Unit {0}) TrapAnswer) → TellsWell r → Gives SpaceMay TellsWell (newline_after b r)
unfolding Gives
newline-told b (Ok u) h = tt
newline-told b (Err answer) h = h

byte_got-told : (a : ℕ) (r : Result (List ℕ) HostFault) → Gives BothMay TellsWell (byte_got a r)
unfolding Gives byte_put
byte_got-told a (Ok []) = λ e. absurd (cc)
byte_got-told a (Ok (b ∷ bs)) = gives-on_space TellsWell _ (gives-bind SpaceMay TellsWell TellsWell (newline_after b) (byte_stored a b) (byte-told a b) (newline-told b))
byte_got-told a (Err e) = λ e. absurd (cc)

line_byte-told : (slot a : ℕ) → Gives BothMay TellsWell (line_byte slot a)
unfolding Gives line_byte read_plan on_host bind
line_byte-told slot a = λ r m. byte_got-told a r

line_next-told : (more : BothPlan TrapAnswer) → Gives BothMay Told more → (p count : ℕ) (r : Result Bool TrapAnswer) → TellsWell r → Gives BothMay Told (line_next more p count r)
unfolding Gives
line_next-told more f p count (Ok newline) h = choice (Gives BothMay Told) newline _ _ (end-told p (count + 1)) f
line_next-told more f p count (Err answer) h = h

line-told : (room slot p count : ℕ) → Gives BothMay Told (line_bytes room slot p count)
unfolding line_bytes
line-told zero slot p count = end-told p count
line-told (suc room) slot p count =
    gives-bind BothMay TellsWell Told (line_next (line_bytes room slot p (count + 1)) p count) (line_byte slot (p + count)) (line_byte-told slot (p + count))
    (line_next-told (line_bytes room slot p (count + 1)) (line-told room slot p (count + 1)) p count)

fgets-told : (slot p q : ℕ) → Gives BothMay Told (fgets slot p q)
unfolding fgets Gives
fgets-told slot p q = choice (Gives BothMay Told) (q == 0) _ _ (λ e. absurd (cc)) (line-told (q - 1) slot p 0)

-- ---- Fwrite and Fputs

write_last-told : (moved : ℕ) (r : Result (Unit {0}) HostFault) → Gives HostMay WritesWell (write_last moved r)
unfolding Gives
write_last-told moved (Ok u) = λ e. absurd (cc)
write_last-told moved (Err e) = λ e. absurd (cc)

write_piece-told : (slot : ℕ) (bytes : List ℕ) (moved : ℕ) → Gives HostMay WritesWell (write_piece slot bytes moved)
unfolding Gives write_piece write_plan bind
write_piece-told slot bytes moved = λ r m. write_last-told moved r

write_next-told : (more : HostPlan Written) → Gives HostMay WritesWell more → (w : Written) → WritesWell w → Gives HostMay WritesWell (write_next more w)
unfolding Gives
write_next-told more f Whole h = f
write_next-told more f (Short n) h = h
write_next-told more f OutOfMemory h = h

writes-told : (k slot : ℕ) (bytes : List ℕ) (moved : ℕ) → Gives HostMay WritesWell (write_pieces k slot bytes moved)
unfolding write_pieces
writes-told zero slot bytes moved = write_piece-told slot bytes moved
writes-told (suc k) slot bytes moved =
    gives-bind HostMay WritesWell WritesWell (write_next (write_pieces k slot (drop 4096 bytes) (moved + 4096))) (write_piece slot (take 4096 bytes) moved) (write_piece-told slot (take 4096 bytes) moved)
    (write_next-told (write_pieces k slot (drop 4096 bytes) (moved + 4096)) (writes-told k slot (drop 4096 bytes) (moved + 4096)))

written-told : (slot : ℕ) (bytes : List ℕ) → Gives HostMay WritesWell (written slot bytes)
unfolding written
written-told slot bytes = writes-told (whole_pieces (length bytes)) slot bytes 0

fwrite-told : (q : ℕ) (w : Written) → WritesWell w → Gives HostMay Told (fwrite_value q w)
unfolding Gives
fwrite-told q Whole h = λ e. absurd (cc)
fwrite-told q (Short n) h = λ e. absurd (cc)
fwrite-told q OutOfMemory h = absurd (h refl)

fputs-told : (n : ℕ) (w : Written) → WritesWell w → Gives HostMay Told (fputs_value n w)
unfolding Gives
fputs-told n Whole h = λ e. absurd (cc)
fputs-told n (Short k) h = λ e. absurd (cc)
fputs-told n OutOfMemory h = absurd (h refl)

-- ---- the other services, and a whole trap

done-told : {E : Type 0} (r : Result (Unit {0}) E) → Gives HostMay Told (done_value r)
unfolding Gives
done-told (Ok u) = λ e. absurd (cc)
done-told (Err e) = λ e. absurd (cc)

place-told : (r : Result ℕ HostFault) → Gives HostMay Told (place_value r)
unfolding Gives
place-told (Ok place) = λ e. absurd (cc)
place-told (Err e) = λ e. absurd (cc)

fopen-told : (slot : ℕ) (name : List ℕ) (mode : Option Mode) → Gives HostMay Told (fopen_in slot name mode)
unfolding Gives need open_plan bind
fopen-told slot name None = λ e. absurd (cc)
fopen-told slot name (Some mode) = λ u m r n. done-told r

request-told : (slot : ℕ) (f : ℕ → ℕ) (r : Request) → Gives BothMay Told (carried_out slot f r)
unfolding Gives fopen fclose fread fwrite fputs fseek ftell close_plan seek_plan tell_plan on_host bind
request-told slot f Ending = λ e. absurd (cc)
request-told slot f (Opening at size mode) = gives-on_host Told _ (fopen-told slot (bytes_from f at size) (mode_of mode))
request-told slot f Closing = λ r m. gives-on_host Told _ (done-told r)
request-told slot f (Reading at size) = pieces-told (whole_pieces size) slot at size 0
request-told slot f (ReadingLine at size) = fgets-told slot at size
request-told slot f (Writing at size) = gives-on_host Told _ (gives-bind HostMay WritesWell Told (fwrite_value (length (bytes_from f at size))) (written slot (bytes_from f at size)) (written-told slot (bytes_from f at size)) (fwrite-told (length (bytes_from f at size))))
request-told slot f (WritingText at size) = gives-on_host Told _ (gives-bind HostMay WritesWell Told (fputs_value (length (bytes_from f at size))) (written slot (bytes_from f at size)) (written-told slot (bytes_from f at size)) (fputs-told (length (bytes_from f at size))))
request-told slot f (Seeking to) = λ r m. gives-on_host Told _ (done-told r)
request-told slot f Telling = λ r m. gives-on_host Told _ (place-told r)

answer-told : (slot : ℕ) (f : ℕ → ℕ) (r : Result Request TrapStop) → Gives BothMay Told (answer_to slot f r)
unfolding Gives
answer-told slot f (Ok request) = request-told slot f request
answer-told slot f (Err stop) = λ e. absurd (cc)

plan-told : (call : TrapCall) → Gives BothMay Told (trap_plan call)
unfolding Gives trap_plan look bind
plan-told call = λ f m. answer-told (z_of call.word) f (request_of f call)

pub traps-told : {Rest : Type 0} (s : Contents Rest) (m : HostModel) (call : TrapCall) → (trap_answer s m call).0 ≢ trap.OutOfMemory
unfolding trap_answer
traps-told {Rest} s m call = gives-end both BothMay Told both-may (trap_plan call) (s, m) (plan-told call)

pub ruleset told = (traps-told)
