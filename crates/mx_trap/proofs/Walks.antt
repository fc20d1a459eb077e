-- What the moves come to: as functions from world to world, which are the ends of their plans.
use Rattle.std.proofs.Common.{◌≡◌, ℕ, zero, suc, ◌+◌, ◌-◌, List, [], ◌∷◌, length, take, drop, Bool, true, false, cond, refl, ◌∙◌, ap, Ok, Err}
use Rattle.std.specs.Prelude.{Result, ◌==◌, if◌then◌else◌}
use Rattle.mx_mem.specs.Space.{Contents, put_answer}
use Rattle.mx_mem.specs.declared.space.SpaceFault.{SpaceFault}
use Rattle.mx_host.specs.HostModel.{HostModel}
use Rattle.mx_host.specs.HostAnswer.{Then, read_answer, write_answer}
use Rattle.mx_host.specs.declared.faults.HostFault.{HostFault}
use Rattle.mx_plan.specs.Plan.{end_of, end_after}
use Rattle.mx_plan.specs.Calls.{HostPlan, SpacePlan, BothPlan, Both, host, space, both, on_host, on_space, read_plan, write_plan, put_plan, look, beside_space, beside_host}
use Rattle.mx_plan.proofs.Plans.{end_bind, end_on_host, end_on_space}
use Rattle.mx_alu.specs.declared.call.TrapCall.{TrapCall}
use Rattle.mx_trap.specs.FileTraps as traps
use Rattle.mx_trap.specs.FileTraps.{trap_plan, trap_answer}
use Rattle.mx_trap.specs.Moves as moves
use Rattle.mx_trap.specs.Moves.{Leaves, leaving, minus_one, octa_minus, piece_size, whole_pieces, fault_answer}
use Rattle.mx_trap.specs.Requests.{bytes_from, request_of}
use Rattle.mx_trap.specs.Services.{z_of}
use Rattle.mx_trap.specs.declared.answer.TrapAnswer.{TrapAnswer}
use Rattle.mx_trap.specs.declared.answer.TrapAnswer.TheVariants.{Value, Halt, Stopped}
use Rattle.mx_trap.specs.declared.answer.TrapStop.{TrapStop}
use Rattle.mx_trap.specs.declared.requests.Request.{Request}
use Rattle.mx_trap.specs.declared.requests.Request.TheVariants.{Ending, Opening, Closing, Reading, ReadingLine, Writing, WritingText, Seeking, Telling}
use Rattle.mx_trap.specs.declared.writes.Written.{Written}
use Rattle.mx_trap.specs.declared.writes.Written.TheVariants.{Whole, Short}
use Rattle.mx_trap.specs.declared.writes.Written.TheVariants as writing

-- ---- bytes that are stored

-- a byte stored at an address, or the answer of the trap
abbrev pub stored : {Rest : Type 0} → Result (Unit {0}) SpaceFault × Contents Rest → Result (Unit {0}) TrapAnswer × Contents Rest
stored (Ok u, s) = (Ok u, s)
stored (Err e, s) = (Err (fault_answer e), s)

abbrev pub byte_stored : {Rest : Type 0} → ℕ → ℕ → Contents Rest → Result (Unit {0}) TrapAnswer × Contents Rest
byte_stored a b s = stored (put_answer s a b)

-- what follows a byte that was to be stored
abbrev pub stored_next : {Rest : Type 0} → (Contents Rest → Result (Unit {0}) TrapAnswer × Contents Rest) → Result (Unit {0}) TrapAnswer × Contents Rest → Result (Unit {0}) TrapAnswer × Contents Rest
stored_next more (Ok u, s) = more s
stored_next more (Err answer, s) = (Err answer, s)

-- bytes stored at an address and those that follow it, up to the first one that is refused
unfoldable pub bytes_stored : {Rest : Type 0} → List ℕ → ℕ → Contents Rest → Result (Unit {0}) TrapAnswer × Contents Rest
bytes_stored [] a s = (Ok tt, s)
bytes_stored (b ∷ bs) a s = stored_next (bytes_stored bs (a + 1)) (byte_stored a b s)

-- ---- Fread: the bytes that come, in pieces, up to one that comes short

-- a piece that was read and stored: how many bytes it had, or the answer of the trap
abbrev pub piece_stored : {Rest : Type 0} → ℕ → HostModel → Result (Unit {0}) TrapAnswer × Contents Rest → Leaves (Result ℕ TrapAnswer) Rest
piece_stored n m (Ok u, s) = (Ok n, s, m)
piece_stored n m (Err answer, s) = (Err answer, s, m)

abbrev pub piece_got : {Rest : Type 0} → ℕ → ℕ → Contents Rest → Then (Result (List ℕ) HostFault) → Leaves (Result ℕ TrapAnswer) Rest
piece_got a q s (Ok got, m) = piece_stored (length got) m (bytes_stored got a s)
piece_got a q s (Err e, m) = (Err (Value (minus_one - q)), s, m)

-- a piece of at most this many bytes for the address a, of q bytes in all
abbrev pub read_piece : {Rest : Type 0} → ℕ → ℕ → ℕ → ℕ → Contents Rest → HostModel → Leaves (Result ℕ TrapAnswer) Rest
read_piece slot a len q s m = piece_got a q s (read_answer m slot len)

-- the answer after the last piece, where `moved` bytes came before it
abbrev pub read_last : {Rest : Type 0} → ℕ → ℕ → Leaves (Result ℕ TrapAnswer) Rest → Leaves TrapAnswer Rest
read_last moved q (Ok n, s, m) = (Value (octa_minus (moved + n) q), s, m)
read_last moved q (Err answer, s, m) = (answer, s, m)

-- what follows a piece of 4,096 bytes
abbrev pub read_next : {Rest : Type 0} → (Contents Rest → HostModel → Leaves TrapAnswer Rest) → ℕ → ℕ → Leaves (Result ℕ TrapAnswer) Rest → Leaves TrapAnswer Rest
read_next more moved q (Ok n, s, m) =
    if n == piece_size then more s m else (Value (octa_minus (moved + n) q), s, m)
read_next more moved q (Err answer, s, m) = (answer, s, m)

-- this many whole pieces and the last one, after `moved` bytes of the q bytes at p
unfoldable pub read_pieces : {Rest : Type 0} → ℕ → ℕ → ℕ → ℕ → ℕ → Contents Rest → HostModel → Leaves TrapAnswer Rest
read_pieces zero slot p q moved s m = read_last moved q (read_piece slot (p + moved) (q - moved) q s m)
read_pieces (suc more) slot p q moved s m =
    read_next (read_pieces more slot p q (moved + piece_size)) moved q (read_piece slot (p + moved) piece_size q s m)

-- Fread of q bytes to p: n - q where n bytes came, and -1 - q after a call that failed or was misused
abbrev pub fread : {Rest : Type 0} → ℕ → ℕ → ℕ → Contents Rest → HostModel → Leaves TrapAnswer Rest
fread slot p q s m = read_pieces (whole_pieces q) slot p q 0 s m

-- ---- Fgets: a line, a byte at a time

-- the zero byte after the line
abbrev pub line_ended : {Rest : Type 0} → ℕ → HostModel → Result (Unit {0}) TrapAnswer × Contents Rest → Leaves TrapAnswer Rest
line_ended count m (Ok u, s) = (Value count, s, m)
line_ended count m (Err answer, s) = (answer, s, m)

abbrev pub line_end : {Rest : Type 0} → ℕ → ℕ → Contents Rest → HostModel → Leaves TrapAnswer Rest
line_end p count s m = line_ended count m (byte_stored (p + count) 0 s)

-- a byte of the line that was read and stored: whether it is a newline, or the answer of the trap, which is -1 at the end
-- of the input and after a call that failed or was misused
abbrev pub byte_put : {Rest : Type 0} → ℕ → HostModel → Result (Unit {0}) TrapAnswer × Contents Rest → Leaves (Result Bool TrapAnswer) Rest
byte_put b m (Ok u, s) = (Ok (b == 10), s, m)
byte_put b m (Err answer, s) = (Err answer, s, m)

abbrev pub byte_got : {Rest : Type 0} → ℕ → Contents Rest → Then (Result (List ℕ) HostFault) → Leaves (Result Bool TrapAnswer) Rest
byte_got a s (Ok [], m) = (Err (Value minus_one), s, m)
byte_got a s (Ok (b ∷ bs), m) = byte_put b m (byte_stored a b s)
byte_got a s (Err e, m) = (Err (Value minus_one), s, m)

abbrev pub line_byte : {Rest : Type 0} → ℕ → ℕ → Contents Rest → HostModel → Leaves (Result Bool TrapAnswer) Rest
line_byte slot a s m = byte_got a s (read_answer m slot 1)

-- what follows a byte of the line, after `count` bytes of it
abbrev pub line_next : {Rest : Type 0} → (Contents Rest → HostModel → Leaves TrapAnswer Rest) → ℕ → ℕ → Leaves (Result Bool TrapAnswer) Rest → Leaves TrapAnswer Rest
line_next more p count (Ok newline, s, m) = if newline then line_end p (count + 1) s m else more s m
line_next more p count (Err answer, s, m) = (answer, s, m)

-- a line with room for this many more bytes, after `count` bytes of it at p
unfoldable pub line_bytes : {Rest : Type 0} → ℕ → ℕ → ℕ → ℕ → Contents Rest → HostModel → Leaves TrapAnswer Rest
line_bytes zero slot p count s m = line_end p count s m
line_bytes (suc room) slot p count s m =
    line_next (line_bytes room slot p (count + 1)) p count (line_byte slot (p + count) s m)

-- Fgets to the q bytes at p: the number of bytes before the zero byte
abbrev pub fgets : {Rest : Type 0} → ℕ → ℕ → ℕ → Contents Rest → HostModel → Leaves TrapAnswer Rest
fgets slot p q s m = if q == 0 then (Value minus_one, s, m) else line_bytes (q - 1) slot p 0 s m

-- ---- Fwrite and Fputs: bytes written in pieces, up to one that is not written

abbrev pub write_last : ℕ → Then (Result (Unit {0}) HostFault) → Then Written
write_last moved (Ok u, m) = (Whole, m)
write_last moved (Err e, m) = (Short moved, m)

-- one piece, after `moved` bytes
abbrev pub write_piece : ℕ → List ℕ → ℕ → HostModel → Then Written
write_piece slot bytes moved m = write_last moved (write_answer m slot bytes)

-- what follows a piece
abbrev pub write_next : (HostModel → Then Written) → Then Written → Then Written
write_next more (Whole, m) = more m
write_next more (Short n, m) = (Short n, m)
write_next more (writing.OutOfMemory, m) = (writing.OutOfMemory, m)

-- this many whole pieces and the last one, after `moved` bytes
unfoldable pub write_pieces : ℕ → ℕ → List ℕ → ℕ → HostModel → Then Written
write_pieces zero slot bytes moved m = write_piece slot bytes moved m
write_pieces (suc more) slot bytes moved m =
    write_next (write_pieces more slot (drop piece_size bytes) (moved + piece_size)) (write_piece slot (take piece_size bytes) moved m)

-- what came of the writing of these bytes
abbrev pub written : ℕ → List ℕ → HostModel → Then Written
written slot bytes m = write_pieces (whole_pieces (length bytes)) slot bytes 0 m

-- ---- a whole trap

abbrev pub beside : {Rest : Type 0} → Contents Rest → Then TrapAnswer → Leaves TrapAnswer Rest
beside s t = (t.0, s, t.1)

abbrev pub carried_out : {Rest : Type 0} → ℕ → Contents Rest → HostModel → Request → Leaves TrapAnswer Rest
carried_out slot s m Ending = (Halt, s, m)
carried_out slot s m (Opening at size mode) = beside s (end_of host (traps.fopen slot (bytes_from s.bytes at size) mode) m)
carried_out slot s m Closing = beside s (end_of host (traps.fclose slot) m)
carried_out slot s m (Reading at size) = fread slot at size s m
carried_out slot s m (ReadingLine at size) = fgets slot at size s m
carried_out slot s m (Writing at size) = beside s (end_of host (moves.fwrite slot (bytes_from s.bytes at size)) m)
carried_out slot s m (WritingText at size) = beside s (end_of host (moves.fputs slot (bytes_from s.bytes at size)) m)
carried_out slot s m (Seeking to) = beside s (end_of host (traps.fseek slot to) m)
carried_out slot s m Telling = beside s (end_of host (traps.ftell slot) m)

abbrev pub answer_to : {Rest : Type 0} → ℕ → Contents Rest → HostModel → Result Request TrapStop → Leaves TrapAnswer Rest
answer_to slot s m (Ok request) = carried_out slot s m request
answer_to slot s m (Err stop) = (Stopped stop, s, m)

-- ---- these are the ends of the plans: bytes that are stored

stored-same : {Rest : Type 0} (t : Result (Unit {0}) SpaceFault × Contents Rest) → end_after space moves.stored t ≡ stored t
unfolding end_of
stored-same (Ok u, s) = refl
stored-same (Err e, s) = refl

pub byte-same : {Rest : Type 0} (a b : ℕ) (s : Contents Rest) → end_of space (moves.byte_stored a b) s ≡ byte_stored a b s
unfolding moves.byte_stored put_plan end_of space
byte-same a b s = end_bind space moves.stored (put_plan a b) s ∙ stored-same (put_answer s a b)

stored-next : {Rest : Type 0} (more : SpacePlan (Result (Unit {0}) TrapAnswer)) (before : Contents Rest → Result (Unit {0}) TrapAnswer × Contents Rest) →
    ((s : Contents Rest) → end_of space more s ≡ before s) → (t : Result (Unit {0}) TrapAnswer × Contents Rest) → end_after space (moves.stored_next more) t ≡ stored_next before t
unfolding end_of
stored-next more before h (Ok u, s) = h s
stored-next more before h (Err e, s) = refl

pub bytes-same : {Rest : Type 0} (bs : List ℕ) (a : ℕ) (s : Contents Rest) → end_of space (moves.bytes_stored bs a) s ≡ bytes_stored bs a s
unfolding moves.bytes_stored end_of bytes_stored
bytes-same [] a s = refl
bytes-same (b ∷ bs) a s =
    end_bind space (moves.stored_next (moves.bytes_stored bs (a + 1))) (moves.byte_stored a b) s ∙ ap (end_after space (moves.stored_next (moves.bytes_stored bs (a + 1)))) (byte-same a b s)
    ∙ stored-next (moves.bytes_stored bs (a + 1)) (bytes_stored bs (a + 1)) (λ t. bytes-same bs (a + 1) t) (byte_stored a b s)

-- ---- bytes that are read

piece-same : {Rest : Type 0} (n : ℕ) (m : HostModel) (t : Result (Unit {0}) TrapAnswer × Contents Rest) → leaving (end_after both (moves.piece_stored n) (beside_host m t)) ≡ piece_stored n m t
unfolding end_of
piece-same n m (Ok u, s) = refl
piece-same n m (Err e, s) = refl

got-same : {Rest : Type 0} (a q : ℕ) (s : Contents Rest) (t : Then (Result (List ℕ) HostFault)) → leaving (end_after both (moves.piece_got a q) (beside_space s t)) ≡ piece_got a q s t
unfolding end_of
got-same a q s (Ok got, m) =
    ap (λ t. leaving t) (end_bind both (moves.piece_stored (length got)) (on_space (moves.bytes_stored got a)) (s, m) ∙ ap (end_after both (moves.piece_stored (length got))) (end_on_space (moves.bytes_stored got a) s m ∙ ap (beside_host m) (bytes-same got a s)))
    ∙ piece-same (length got) m (bytes_stored got a s)
got-same a q s (Err e, m) = refl

read-same : {Rest : Type 0} (slot a len q : ℕ) (s : Contents Rest) (m : HostModel) → leaving (end_of both (moves.read_piece slot a len q) (s, m)) ≡ read_piece slot a len q s m
unfolding moves.read_piece read_plan end_of host
read-same slot a len q s m =
    ap (λ t. leaving t) (end_bind both (moves.piece_got a q) (on_host (read_plan slot len)) (s, m) ∙ ap (end_after both (moves.piece_got a q)) (end_on_host (read_plan slot len) s m)) ∙ got-same a q s (read_answer m slot len)

last-same : {Rest : Type 0} (gone q : ℕ) (t : Result ℕ TrapAnswer × Both Rest) → leaving (end_after both (moves.read_last gone q) t) ≡ read_last gone q (leaving t)
unfolding end_of
last-same gone q (Ok n, w) = refl
last-same gone q (Err e, w) = refl

choice : {Rest : Type 0} (b : Bool) (x y : BothPlan TrapAnswer) (w : Both Rest) (v u : Leaves TrapAnswer Rest) → leaving (end_of both x w) ≡ v → leaving (end_of both y w) ≡ u → leaving (end_of both (cond b x y) w) ≡ cond b v u
choice true x y w v u h k = h
choice false x y w v u h k = k

next-same : {Rest : Type 0} (more : BothPlan TrapAnswer) (rest : Contents Rest → HostModel → Leaves TrapAnswer Rest) (gone q : ℕ) → ((s : Contents Rest) (m : HostModel) → leaving (end_of both more (s, m)) ≡ rest s m) →
    (t : Result ℕ TrapAnswer × Both Rest) → leaving (end_after both (moves.read_next more gone q) t) ≡ read_next rest gone q (leaving t)
unfolding end_of
next-same more rest gone q h (Ok n, w) = choice (n == 4096) _ _ w _ _ (h w.0 w.1) refl
next-same more rest gone q h (Err e, w) = refl

reads-same : {Rest : Type 0} (k slot p q gone : ℕ) (s : Contents Rest) (m : HostModel) → leaving (end_of both (moves.read_pieces k slot p q gone) (s, m)) ≡ read_pieces k slot p q gone s m
unfolding moves.read_pieces read_pieces
reads-same zero slot p q gone s m =
    ap (λ t. leaving t) (end_bind both (moves.read_last gone q) (moves.read_piece slot (p + gone) (q - gone) q) (s, m))
    ∙ last-same gone q (end_of both (moves.read_piece slot (p + gone) (q - gone) q) (s, m)) ∙ ap (read_last gone q) (read-same slot (p + gone) (q - gone) q s m)
reads-same {Rest = Rest} (suc k) slot p q gone s m =
    let more = moves.read_pieces k slot p q (gone + 4096) in
    let rest = read_pieces {Rest = Rest} k slot p q (gone + 4096) in
    ap (λ t. leaving t) (end_bind both (moves.read_next more gone q) (moves.read_piece slot (p + gone) 4096 q) (s, m))
    ∙ next-same more rest gone q (λ t n. reads-same k slot p q (gone + 4096) t n) (end_of both (moves.read_piece slot (p + gone) 4096 q) (s, m))
    ∙ ap (read_next rest gone q) (read-same slot (p + gone) 4096 q s m)

pub fread-same : {Rest : Type 0} (slot p q : ℕ) (s : Contents Rest) (m : HostModel) → leaving (end_of both (moves.fread slot p q) (s, m)) ≡ fread slot p q s m
unfolding moves.fread
fread-same slot p q s m = reads-same (whole_pieces q) slot p q 0 s m

-- ---- a line

ended-same : {Rest : Type 0} (count : ℕ) (m : HostModel) (t : Result (Unit {0}) TrapAnswer × Contents Rest) → leaving (beside_host m (end_after space (moves.line_ended count) t)) ≡ line_ended count m t
unfolding end_of
ended-same count m (Ok u, s) = refl
ended-same count m (Err e, s) = refl

end-same : {Rest : Type 0} (p count : ℕ) (s : Contents Rest) (m : HostModel) → leaving (end_of both (on_space (moves.line_end p count)) (s, m)) ≡ line_end p count s m
unfolding moves.line_end
end-same p count s m =
    ap (λ t. leaving t) (end_on_space (moves.line_end p count) s m)
    ∙ ap (λ t. leaving (beside_host m t)) (end_bind space (moves.line_ended count) (moves.byte_stored (p + count) 0) s ∙ ap (end_after space (moves.line_ended count)) (byte-same (p + count) 0 s))
    ∙ ended-same count m (byte_stored (p + count) 0 s)

newline-same : {Rest : Type 0} (b : ℕ) (m : HostModel) (t : Result (Unit {0}) TrapAnswer × Contents Rest) → leaving (beside_host m (end_after space (moves.newline_after b) t)) ≡ byte_put b m t
unfolding end_of
newline-same b m (Ok u, s) = refl
newline-same b m (Err e, s) = refl

byte-got-same : {Rest : Type 0} (a : ℕ) (s : Contents Rest) (t : Then (Result (List ℕ) HostFault)) → leaving (end_after both (moves.byte_got a) (beside_space s t)) ≡ byte_got a s t
unfolding end_of moves.byte_put
byte-got-same a s (Ok [], m) = refl
byte-got-same a s (Ok (b ∷ bs), m) =
    ap (λ t. leaving t) (end_on_space (moves.byte_put a b) s m)
    ∙ ap (λ t. leaving (beside_host m t)) (end_bind space (moves.newline_after b) (moves.byte_stored a b) s ∙ ap (end_after space (moves.newline_after b)) (byte-same a b s))
    ∙ newline-same b m (byte_stored a b s)
byte-got-same a s (Err e, m) = refl

line-byte-same : {Rest : Type 0} (slot a : ℕ) (s : Contents Rest) (m : HostModel) → leaving (end_of both (moves.line_byte slot a) (s, m)) ≡ line_byte slot a s m
unfolding moves.line_byte read_plan end_of host
line-byte-same slot a s m =
    ap (λ t. leaving t) (end_bind both (moves.byte_got a) (on_host (read_plan slot 1)) (s, m) ∙ ap (end_after both (moves.byte_got a)) (end_on_host (read_plan slot 1) s m)) ∙ byte-got-same a s (read_answer m slot 1)

line-next-same : {Rest : Type 0} (more : BothPlan TrapAnswer) (rest : Contents Rest → HostModel → Leaves TrapAnswer Rest) (p count : ℕ) → ((s : Contents Rest) (m : HostModel) → leaving (end_of both more (s, m)) ≡ rest s m) →
    (t : Result Bool TrapAnswer × Both Rest) → leaving (end_after both (moves.line_next more p count) t) ≡ line_next rest p count (leaving t)
unfolding end_of
line-next-same more rest p count h (Ok newline, w) = choice newline _ _ w _ _ (end-same p (count + 1) w.0 w.1) (h w.0 w.1)
line-next-same more rest p count h (Err e, w) = refl

line-same : {Rest : Type 0} (room slot p count : ℕ) (s : Contents Rest) (m : HostModel) → leaving (end_of both (moves.line_bytes room slot p count) (s, m)) ≡ line_bytes room slot p count s m
unfolding moves.line_bytes line_bytes
line-same zero slot p count s m = end-same p count s m
line-same {Rest = Rest} (suc room) slot p count s m =
    let more = moves.line_bytes room slot p (count + 1) in
    let rest = line_bytes {Rest = Rest} room slot p (count + 1) in
    ap (λ t. leaving t) (end_bind both (moves.line_next more p count) (moves.line_byte slot (p + count)) (s, m))
    ∙ line-next-same more rest p count (λ t n. line-same room slot p (count + 1) t n) (end_of both (moves.line_byte slot (p + count)) (s, m))
    ∙ ap (line_next rest p count) (line-byte-same slot (p + count) s m)

pub fgets-same : {Rest : Type 0} (slot p q : ℕ) (s : Contents Rest) (m : HostModel) → leaving (end_of both (moves.fgets slot p q) (s, m)) ≡ fgets slot p q s m
unfolding moves.fgets end_of
fgets-same slot p q s m = choice (q == 0) _ _ (s, m) _ _ refl (line-same (q - 1) slot p 0 s m)

-- ---- bytes that are written

write-last-same : (moved : ℕ) (t : Then (Result (Unit {0}) HostFault)) → end_after host (moves.write_last moved) t ≡ write_last moved t
unfolding end_of
write-last-same moved (Ok u, m) = refl
write-last-same moved (Err e, m) = refl

pub piece-written-same : (slot : ℕ) (bytes : List ℕ) (moved : ℕ) (m : HostModel) → end_of host (moves.write_piece slot bytes moved) m ≡ write_piece slot bytes moved m
unfolding moves.write_piece write_plan end_of host
piece-written-same slot bytes moved m = end_bind host (moves.write_last moved) (write_plan slot bytes) m ∙ write-last-same moved (write_answer m slot bytes)

write-next-same : (more : HostPlan Written) (rest : HostModel → Then Written) → ((m : HostModel) → end_of host more m ≡ rest m) → (t : Then Written) → end_after host (moves.write_next more) t ≡ write_next rest t
unfolding end_of
write-next-same more rest h (Whole, m) = h m
write-next-same more rest h (Short n, m) = refl
write-next-same more rest h (writing.OutOfMemory, m) = refl

writes-same : (k slot : ℕ) (bytes : List ℕ) (moved : ℕ) (m : HostModel) → end_of host (moves.write_pieces k slot bytes moved) m ≡ write_pieces k slot bytes moved m
unfolding moves.write_pieces write_pieces
writes-same zero slot bytes moved m = piece-written-same slot bytes moved m
writes-same (suc k) slot bytes moved m =
    let more = moves.write_pieces k slot (drop 4096 bytes) (moved + 4096) in
    let rest = write_pieces k slot (drop 4096 bytes) (moved + 4096) in
    end_bind host (moves.write_next more) (moves.write_piece slot (take 4096 bytes) moved) m
    ∙ write-next-same more rest (λ n. writes-same k slot (drop 4096 bytes) (moved + 4096) n) (end_of host (moves.write_piece slot (take 4096 bytes) moved) m)
    ∙ ap (write_next rest) (piece-written-same slot (take 4096 bytes) moved m)

pub written-same : (slot : ℕ) (bytes : List ℕ) (m : HostModel) → end_of host (moves.written slot bytes) m ≡ written slot bytes m
unfolding moves.written
written-same slot bytes m = writes-same (whole_pieces (length bytes)) slot bytes 0 m

-- ---- a whole trap

host-same : {Rest : Type 0} (p : HostPlan TrapAnswer) (s : Contents Rest) (m : HostModel) → leaving (end_of both (on_host p) (s, m)) ≡ beside s (end_of host p m)
host-same p s m = ap (λ t. leaving t) (end_on_host p s m)

carried-same : {Rest : Type 0} (slot : ℕ) (s : Contents Rest) (m : HostModel) (r : Request) → leaving (end_of both (traps.carried_out slot s.bytes r) (s, m)) ≡ carried_out slot s m r
unfolding end_of
carried-same slot s m Ending = refl
carried-same slot s m (Opening at size mode) = host-same (traps.fopen slot (bytes_from s.bytes at size) mode) s m
carried-same slot s m Closing = host-same (traps.fclose slot) s m
carried-same slot s m (Reading at size) = fread-same slot at size s m
carried-same slot s m (ReadingLine at size) = fgets-same slot at size s m
carried-same slot s m (Writing at size) = host-same (moves.fwrite slot (bytes_from s.bytes at size)) s m
carried-same slot s m (WritingText at size) = host-same (moves.fputs slot (bytes_from s.bytes at size)) s m
carried-same slot s m (Seeking to) = host-same (traps.fseek slot to) s m
carried-same slot s m Telling = host-same (traps.ftell slot) s m

answer-same : {Rest : Type 0} (slot : ℕ) (s : Contents Rest) (m : HostModel) (r : Result Request TrapStop) → leaving (end_of both (traps.answer_to slot s.bytes r) (s, m)) ≡ answer_to slot s m r
unfolding end_of
answer-same slot s m (Ok request) = carried-same slot s m request
answer-same slot s m (Err stop) = refl

pub trap-same : {Rest : Type 0} (s : Contents Rest) (m : HostModel) (call : TrapCall) → trap_answer s m call ≡ answer_to (z_of call.word) s m (request_of s.bytes call)
unfolding trap_answer trap_plan end_of both look
trap-same s m call =
    ap (λ t. leaving t) (end_bind both (λ bytes. traps.answer_to (z_of call.word) bytes (request_of bytes call)) look (s, m))
    ∙ answer-same (z_of call.word) s m (request_of s.bytes call)
