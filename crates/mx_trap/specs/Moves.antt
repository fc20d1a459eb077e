-- Bytes that are moved between a space and a slot, in pieces (MMIXware, MMIX-SIM, "Simulating a simple operating system").
use Rattle.std.specs.Prelude.{ℕ, zero, suc, ◌+◌, ◌-◌, ◌/◌, ◌%◌, ◌^◌, ◌==◌, Bool, List, [], ◌∷◌, length, take, drop, Result, Ok, Err, if◌then◌else◌}
use Rattle.mx_mem.specs.Space.{Contents}
use Rattle.mx_mem.specs.declared.space.SpaceFault.{SpaceFault}
use Rattle.mx_mem.specs.declared.space.SpaceFault.TheVariants as space
use Rattle.mx_host.specs.HostModel.{HostModel}
use Rattle.mx_host.specs.declared.faults.HostFault.{HostFault}
use Rattle.mx_plan.specs.Plan.{returns, bind}
use Rattle.mx_plan.specs.Calls.{HostPlan, SpacePlan, BothPlan, Both, put_plan, read_plan, write_plan, on_host, on_space}
use Rattle.mx_trap.specs.declared.answer.TrapAnswer.{TrapAnswer}
use Rattle.mx_trap.specs.declared.answer.TrapAnswer.TheVariants.{Value, Stopped, OutOfMemory}
use Rattle.mx_trap.specs.declared.answer.TrapStop.TheVariants as stopping
use Rattle.mx_trap.specs.declared.writes.Written.{Written}
use Rattle.mx_trap.specs.declared.writes.Written.TheVariants.{Whole, Short}
use Rattle.mx_trap.specs.declared.writes.Written.TheVariants as writing

-- an answer, and the space and the model after it
abbrev pub Leaves : Type 0 → Type 0 → Type 0
Leaves A Rest = A × Contents Rest × HostModel

abbrev pub leaving : {A Rest : Type 0} → A × Both Rest → Leaves A Rest
leaving t = (t.0, t.1.0, t.1.1)

-- the octa -1, and a difference of octas
abbrev pub minus_one : ℕ
minus_one = 2 ^ 64 - 1

abbrev pub octa_minus : ℕ → ℕ → ℕ
octa_minus n q = (n + (2 ^ 64 - q)) % 2 ^ 64

-- the longest piece
abbrev pub piece_size : ℕ
piece_size = 4096

-- how many whole pieces go before the last one, which is shorter or whole; no bytes make one empty piece
abbrev pub whole_pieces : ℕ → ℕ
whole_pieces q = (q - 1) / 4096

-- ---- bytes that are stored

-- the answer of a trap where a byte cannot be stored
abbrev pub fault_answer : SpaceFault → TrapAnswer
fault_answer space.Negative = Stopped stopping.Negative
fault_answer space.PagesFull = Stopped stopping.TrapPagesFull
fault_answer space.OutOfMemory = OutOfMemory

-- a byte stored at an address, or the answer of the trap
abbrev pub stored : Result (Unit {0}) SpaceFault → SpacePlan (Result (Unit {0}) TrapAnswer)
stored (Ok u) = returns (Ok u)
stored (Err e) = returns (Err (fault_answer e))

unfoldable pub byte_stored : ℕ → ℕ → SpacePlan (Result (Unit {0}) TrapAnswer)
byte_stored a b = bind stored (put_plan a b)

-- what follows a byte that was to be stored
abbrev pub stored_next : SpacePlan (Result (Unit {0}) TrapAnswer) → Result (Unit {0}) TrapAnswer → SpacePlan (Result (Unit {0}) TrapAnswer)
stored_next more (Ok u) = more
stored_next more (Err answer) = returns (Err answer)

-- bytes stored at an address and those that follow it, up to the first one that is refused
unfoldable pub bytes_stored : List ℕ → ℕ → SpacePlan (Result (Unit {0}) TrapAnswer)
bytes_stored [] a = returns (Ok tt)
bytes_stored (b ∷ bs) a = bind (stored_next (bytes_stored bs (a + 1))) (byte_stored a b)

-- ---- Fread: the bytes that come, in pieces, up to one that comes short

-- a piece that was read and stored: how many bytes it had, or the answer of the trap
abbrev pub piece_stored : ℕ → Result (Unit {0}) TrapAnswer → BothPlan (Result ℕ TrapAnswer)
piece_stored n (Ok u) = returns (Ok n)
piece_stored n (Err answer) = returns (Err answer)

abbrev pub piece_got : ℕ → ℕ → Result (List ℕ) HostFault → BothPlan (Result ℕ TrapAnswer)
piece_got a q (Ok got) = bind (piece_stored (length got)) (on_space (bytes_stored got a))
piece_got a q (Err e) = returns (Err (Value (minus_one - q)))

-- a piece of at most this many bytes for the address a, of q bytes in all
unfoldable pub read_piece : ℕ → ℕ → ℕ → ℕ → BothPlan (Result ℕ TrapAnswer)
read_piece slot a len q = bind (piece_got a q) (on_host (read_plan slot len))

-- the answer after the last piece, where `moved` bytes came before it
abbrev pub read_last : ℕ → ℕ → Result ℕ TrapAnswer → BothPlan TrapAnswer
read_last moved q (Ok n) = returns (Value (octa_minus (moved + n) q))
read_last moved q (Err answer) = returns answer

-- what follows a piece of 4,096 bytes
abbrev pub read_next : BothPlan TrapAnswer → ℕ → ℕ → Result ℕ TrapAnswer → BothPlan TrapAnswer
read_next more moved q (Ok n) = if n == piece_size then more else returns (Value (octa_minus (moved + n) q))
read_next more moved q (Err answer) = returns answer

-- this many whole pieces and the last one, after `moved` bytes of the q bytes at p
unfoldable pub read_pieces : ℕ → ℕ → ℕ → ℕ → ℕ → BothPlan TrapAnswer
read_pieces zero slot p q moved = bind (read_last moved q) (read_piece slot (p + moved) (q - moved) q)
read_pieces (suc more) slot p q moved =
    bind (read_next (read_pieces more slot p q (moved + piece_size)) moved q) (read_piece slot (p + moved) piece_size q)

-- Fread of q bytes to p: n - q where n bytes came, and -1 - q after a call that failed or was misused
unfoldable pub fread : ℕ → ℕ → ℕ → BothPlan TrapAnswer
fread slot p q = read_pieces (whole_pieces q) slot p q 0

-- ---- Fgets: a line, a byte at a time

-- the zero byte after the line, which has `count` bytes
abbrev pub line_ended : ℕ → Result (Unit {0}) TrapAnswer → SpacePlan TrapAnswer
line_ended count (Ok u) = returns (Value count)
line_ended count (Err answer) = returns answer

unfoldable pub line_end : ℕ → ℕ → SpacePlan TrapAnswer
line_end p count = bind (line_ended count) (byte_stored (p + count) 0)

-- a byte of the line that was read and stored: whether it is a newline, or the answer of the trap, which is -1 at the end
-- of the input and after a call that failed or was misused
abbrev pub newline_after : ℕ → Result (Unit {0}) TrapAnswer → SpacePlan (Result Bool TrapAnswer)
newline_after b (Ok u) = returns (Ok (b == 10))
newline_after b (Err answer) = returns (Err answer)

unfoldable pub byte_put : ℕ → ℕ → SpacePlan (Result Bool TrapAnswer)
byte_put a b = bind (newline_after b) (byte_stored a b)

abbrev pub byte_got : ℕ → Result (List ℕ) HostFault → BothPlan (Result Bool TrapAnswer)
byte_got a (Ok []) = returns (Err (Value minus_one))
byte_got a (Ok (b ∷ bs)) = on_space (byte_put a b)
byte_got a (Err e) = returns (Err (Value minus_one))

unfoldable pub line_byte : ℕ → ℕ → BothPlan (Result Bool TrapAnswer)
line_byte slot a = bind (byte_got a) (on_host (read_plan slot 1))

-- what follows a byte of the line, after `count` bytes of it
abbrev pub line_next : BothPlan TrapAnswer → ℕ → ℕ → Result Bool TrapAnswer → BothPlan TrapAnswer
line_next more p count (Ok newline) = if newline then on_space (line_end p (count + 1)) else more
line_next more p count (Err answer) = returns answer

-- a line with room for this many more bytes, after `count` bytes of it at p
unfoldable pub line_bytes : ℕ → ℕ → ℕ → ℕ → BothPlan TrapAnswer
line_bytes zero slot p count = on_space (line_end p count)
line_bytes (suc room) slot p count =
    bind (line_next (line_bytes room slot p (count + 1)) p count) (line_byte slot (p + count))

-- Fgets to the q bytes at p: the number of bytes before the zero byte
unfoldable pub fgets : ℕ → ℕ → ℕ → BothPlan TrapAnswer
fgets slot p q = if q == 0 then returns (Value minus_one) else line_bytes (q - 1) slot p 0

-- ---- Fwrite and Fputs: bytes written in pieces, up to one that is not written

abbrev pub write_last : ℕ → Result (Unit {0}) HostFault → HostPlan Written
write_last moved (Ok u) = returns Whole
write_last moved (Err e) = returns (Short moved)

-- one piece, after `moved` bytes
unfoldable pub write_piece : ℕ → List ℕ → ℕ → HostPlan Written
write_piece slot bytes moved = bind (write_last moved) (write_plan slot bytes)

-- what follows a piece
abbrev pub write_next : HostPlan Written → Written → HostPlan Written
write_next more Whole = more
write_next more (Short n) = returns (Short n)
write_next more writing.OutOfMemory = returns writing.OutOfMemory

-- this many whole pieces and the last one, after `moved` bytes
unfoldable pub write_pieces : ℕ → ℕ → List ℕ → ℕ → HostPlan Written
write_pieces zero slot bytes moved = write_piece slot bytes moved
write_pieces (suc more) slot bytes moved =
    bind (write_next (write_pieces more slot (drop piece_size bytes) (moved + piece_size))) (write_piece slot (take piece_size bytes) moved)

-- what comes of the writing of these bytes
unfoldable pub written : ℕ → List ℕ → HostPlan Written
written slot bytes = write_pieces (whole_pieces (length bytes)) slot bytes 0

-- Fwrite of q bytes: n - q where n bytes were written
abbrev pub fwrite_value : ℕ → Written → HostPlan TrapAnswer
fwrite_value q Whole = returns (Value 0)
fwrite_value q (Short n) = returns (Value (octa_minus n q))
fwrite_value q writing.OutOfMemory = returns OutOfMemory

-- Fputs of a text of n bytes
abbrev pub fputs_value : ℕ → Written → HostPlan TrapAnswer
fputs_value n Whole = returns (Value n)
fputs_value n (Short k) = returns (Value minus_one)
fputs_value n writing.OutOfMemory = returns OutOfMemory

unfoldable pub fwrite : ℕ → List ℕ → HostPlan TrapAnswer
fwrite slot bytes = bind (fwrite_value (length bytes)) (written slot bytes)

unfoldable pub fputs : ℕ → List ℕ → HostPlan TrapAnswer
fputs slot text = bind (fputs_value (length text)) (written slot text)
