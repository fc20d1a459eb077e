-- A file trap that does not touch Stack_Segment goes the same whatever is there.
use Rattle.std.proofs.Common.{◌≡◌, ℕ, ◌+◌, ◌%◌, ◌^◌, Bool, true, false, cond, arith, refl, sym, ◌∙◌, ap, Ok, Err}
use Rattle.std.specs.Prelude.{Result, ◌&&◌, ◌||◌, nat_lt}
use Rattle.mx_word.specs.Results.{map_ok}
use Rattle.mx_mem.specs.Space.{Contents}
use Rattle.mx_host.specs.HostModel.{HostModel}
use Rattle.mx_plan.specs.Plan.{end_of}
use Rattle.mx_plan.specs.Calls.{host}
use Rattle.mx_alu.specs.declared.call.TrapCall.{TrapCall}
use Rattle.mx_trap.specs.Apart.{apart, leaves_apart, with_segment, IsClear}
use Rattle.mx_trap.specs.FileTraps.{trap_answer, fopen}
use Rattle.mx_trap.specs.Moves.{Leaves, fwrite, fputs}
use Rattle.mx_trap.specs.declared.answer.TrapAnswer.{TrapAnswer}
use Rattle.mx_trap.proofs.Walks.{carried_out, answer_to, beside, trap-same}
use Rattle.mx_trap.specs.Requests.{request_of, request_by, request_after, opening_with, good_buffer, buffer, arguments, text_length}
use Rattle.mx_trap.specs.Services.{z_of, service_of}
use Rattle.mx_word.specs.Segments.{is_in_stack_segment}
use Rattle.mx_trap.specs.Touches.{meets_segment, text_touches, text_reach, arguments_touch, follows, service_touches, touches_by, is_wild, touches}
use Rattle.mx_trap.specs.declared.answer.TrapStop.{TrapStop}
use Rattle.mx_trap.specs.declared.answer.TrapStop.TheVariants.{Negative, TransferTooLarge}
use Rattle.mx_trap.specs.declared.service.Service.{Service}
use Rattle.mx_trap.specs.declared.service.Service.TheVariants.{Halt, Fopen, Fclose, Fread, Fgets, Fwrite, Fputs, Fseek, Ftell}
use Rattle.mx_trap.specs.declared.requests.Request.{Request}
use Rattle.mx_trap.specs.declared.requests.Request.TheVariants.{Opening, Reading, ReadingLine, Writing, WritingText}
use Rattle.mx_trap.proofs.ApartBytes.{same-bytes, same-text, text-untouched, same-arguments, touch-parts, clear-of, clear-within}
use Rattle.mx_trap.proofs.ApartMoves.{fread-apart, fgets-apart}

-- ---- texts

text-clear : (f : ℕ → ℕ) (a n : ℕ) → text_touches f a ≡ false → text_length (2 ^ 24) f a ≡ Ok n → IsClear a (a + n)
text-clear f a n h e =
    let reached : meets_segment a (n + 1) ≡ false = sym (ap (λ r. meets_segment a (text_reach a r)) e) ∙ h in
    clear-within a (a + (n + 1)) a (a + n) (clear-of a (n + 1) reached) (omega arith) (omega arith)

-- ---- what is asked for

named-apart : {A B : Type 0} (others : ℕ → ℕ) (rest : B) (s : Contents A) (m : HostModel) (slot p q : ℕ) (r : Result ℕ TrapStop) → ((n : ℕ) → r ≡ Ok n → IsClear p (p + n)) →
    answer_to slot (apart others rest s) m (map_ok (λ size. Opening p size q) r) ≡ leaves_apart others rest (answer_to slot s m (map_ok (λ size. Opening p size q) r))
named-apart others rest s m slot p q (Err stop) h = refl
named-apart {A} {B} others rest s m slot p q (Ok n) h = ap (λ bs. beside (apart others rest s) (end_of host (fopen slot bs q) m)) (same-bytes others s.bytes p n (h n refl))

opening-apart : {A B : Type 0} (others : ℕ → ℕ) (rest : B) (s : Contents A) (m : HostModel) (slot : ℕ) (r : Result (ℕ × ℕ) TrapStop) → follows (λ p q. text_touches s.bytes p) r ≡ false →
    answer_to slot (apart others rest s) m (opening_with (with_segment others s.bytes) r) ≡ leaves_apart others rest (answer_to slot s m (opening_with s.bytes r))
opening-apart others rest s m slot (Err stop) h = refl
opening-apart others rest s m slot (Ok (p, q)) h =
    ap (λ t. answer_to slot (apart others rest s) m (map_ok (λ size. Opening p size q) t)) (same-text others s.bytes p h)
    ∙ named-apart others rest s m slot p q (text_length (2 ^ 24) s.bytes p) (λ n e. text-clear s.bytes p n h e)

fopen-apart : {A B : Type 0} (others : ℕ → ℕ) (rest : B) (s : Contents A) (m : HostModel) (slot b : ℕ) → service_touches s.bytes b Fopen ≡ false →
    answer_to slot (apart others rest s) m (request_by (with_segment others s.bytes) b Fopen) ≡ leaves_apart others rest (answer_to slot s m (request_by s.bytes b Fopen))
fopen-apart others rest s m slot b h =
    let parts : (is_in_stack_segment b ≡ false) × (is_in_stack_segment ((b + 8) % 2 ^ 64) ≡ false) × (follows (λ p q. text_touches s.bytes p) (arguments s.bytes b) ≡ false) = touch-parts _ _ _ h in
    ap (λ r. answer_to slot (apart others rest s) m (opening_with (with_segment others s.bytes) r)) (same-arguments others s.bytes b parts.0 parts.1)
    ∙ opening-apart others rest s m slot (arguments s.bytes b) parts.2

-- a service with a buffer
good-apart : {A B : Type 0} (others : ℕ → ℕ) (rest : B) (s : Contents A) (m : HostModel) (slot : ℕ) (make : ℕ × ℕ → Request) (r : Result (ℕ × ℕ) TrapStop) → follows meets_segment r ≡ false →
    ((p q : ℕ) → IsClear p (p + q) → carried_out slot (apart others rest s) m (make (p, q)) ≡ leaves_apart others rest (carried_out slot s m (make (p, q)))) →
    answer_to slot (apart others rest s) m (map_ok make (good_buffer r)) ≡ leaves_apart others rest (answer_to slot s m (map_ok make (good_buffer r)))
good-apart others rest s m slot make (Err stop) h f = refl
good-apart {A} {B} others rest s m slot make (Ok (p, q)) h f = tested (nat_lt (2 ^ 24) q) (nat_lt 0 q && nat_lt (2 ^ 63) (p + q))
  where
    tested : (x y : Bool) → answer_to slot (apart others rest s) m (map_ok make (cond x (Err TransferTooLarge) (cond y (Err Negative) (Ok (p, q))))) ≡ leaves_apart others rest (answer_to slot s m (map_ok make (cond x (Err TransferTooLarge) (cond y (Err Negative) (Ok (p, q))))))
    tested true y = refl
    tested false true = refl
    tested false false = f p q (clear-of p q h)

buffer-apart : {A B : Type 0} (others : ℕ → ℕ) (rest : B) (s : Contents A) (m : HostModel) (slot b : ℕ) (make : ℕ × ℕ → Request) → arguments_touch meets_segment s.bytes b ≡ false →
    ((p q : ℕ) → IsClear p (p + q) → carried_out slot (apart others rest s) m (make (p, q)) ≡ leaves_apart others rest (carried_out slot s m (make (p, q)))) →
    answer_to slot (apart others rest s) m (map_ok make (buffer (with_segment others s.bytes) b)) ≡ leaves_apart others rest (answer_to slot s m (map_ok make (buffer s.bytes b)))
buffer-apart others rest s m slot b make h f =
    let parts : (is_in_stack_segment b ≡ false) × (is_in_stack_segment ((b + 8) % 2 ^ 64) ≡ false) × (follows meets_segment (arguments s.bytes b) ≡ false) = touch-parts _ _ _ h in
    ap (λ r. answer_to slot (apart others rest s) m (map_ok make (good_buffer r))) (same-arguments others s.bytes b parts.0 parts.1)
    ∙ good-apart others rest s m slot make (arguments s.bytes b) parts.2 f

write-apart : {A B : Type 0} (others : ℕ → ℕ) (rest : B) (s : Contents A) (m : HostModel) (slot p q : ℕ) → IsClear p (p + q) → carried_out slot (apart others rest s) m (Writing p q) ≡ leaves_apart others rest (carried_out slot s m (Writing p q))
write-apart others rest s m slot p q h = ap (λ bs. beside (apart others rest s) (end_of host (fwrite slot bs) m)) (same-bytes others s.bytes p q h)

texts-apart : {A B : Type 0} (others : ℕ → ℕ) (rest : B) (s : Contents A) (m : HostModel) (slot b : ℕ) (r : Result ℕ TrapStop) → ((n : ℕ) → r ≡ Ok n → IsClear b (b + n)) →
    answer_to slot (apart others rest s) m (map_ok (λ size. WritingText b size) r) ≡ leaves_apart others rest (answer_to slot s m (map_ok (λ size. WritingText b size) r))
texts-apart others rest s m slot b (Err stop) h = refl
texts-apart others rest s m slot b (Ok n) h = ap (λ bs. beside (apart others rest s) (end_of host (fputs slot bs) m)) (same-bytes others s.bytes b n (h n refl))

fputs-apart : {A B : Type 0} (others : ℕ → ℕ) (rest : B) (s : Contents A) (m : HostModel) (slot b : ℕ) → text_touches s.bytes b ≡ false →
    answer_to slot (apart others rest s) m (request_by (with_segment others s.bytes) b Fputs) ≡ leaves_apart others rest (answer_to slot s m (request_by s.bytes b Fputs))
fputs-apart others rest s m slot b h =
    ap (λ t. answer_to slot (apart others rest s) m (map_ok (λ size. WritingText b size) t)) (same-text others s.bytes b h)
    ∙ texts-apart others rest s m slot b (text_length (2 ^ 24) s.bytes b) (λ n e. text-clear s.bytes b n h e)

-- ---- a whole trap

service-apart : {A B : Type 0} (others : ℕ → ℕ) (rest : B) (s : Contents A) (m : HostModel) (slot b : ℕ) (service : Service) → service_touches s.bytes b service ≡ false →
    answer_to slot (apart others rest s) m (request_by (with_segment others s.bytes) b service) ≡ leaves_apart others rest (answer_to slot s m (request_by s.bytes b service))
service-apart others rest s m slot b Halt h = refl
service-apart others rest s m slot b Fopen h = fopen-apart others rest s m slot b h
service-apart others rest s m slot b Fclose h = refl
service-apart others rest s m slot b Fread h = buffer-apart others rest s m slot b (λ t. Reading t.0 t.1) h (λ p q c. fread-apart others rest slot p q s m c)
service-apart others rest s m slot b Fgets h = buffer-apart others rest s m slot b (λ t. ReadingLine t.0 t.1) h (λ p q c. fgets-apart others rest slot p q s m c)
service-apart others rest s m slot b Fwrite h = buffer-apart others rest s m slot b (λ t. Writing t.0 t.1) h (write-apart others rest s m slot)
service-apart others rest s m slot b Fputs h = fputs-apart others rest s m slot b h
service-apart others rest s m slot b Fseek h = refl
service-apart others rest s m slot b Ftell h = refl

after-apart : {A B : Type 0} (others : ℕ → ℕ) (rest : B) (s : Contents A) (m : HostModel) (slot b : ℕ) (r : Result Service TrapStop) → touches_by s.bytes b r ≡ false →
    answer_to slot (apart others rest s) m (request_after (with_segment others s.bytes) b r) ≡ leaves_apart others rest (answer_to slot s m (request_after s.bytes b r))
after-apart others rest s m slot b (Err stop) h = refl
after-apart others rest s m slot b (Ok service) h = service-apart others rest s m slot b service h

both-false : (b c : Bool) → (b || c) ≡ false → (b ≡ false) × (c ≡ false)
both-false true c e = absurd (cc)
both-false false c e = (refl, e)

pub trap-apart : {A B : Type 0} (others : ℕ → ℕ) (rest : B) (s : Contents A) (m : HostModel) (call : TrapCall) → touches s.bytes call ≡ false →
    trap_answer (apart others rest s) m call ≡ leaves_apart others rest (trap_answer s m call)
unfolding request_of touches is_wild
trap-apart {A} others rest s m call h =
    trap-same (apart others rest s) m call ∙ after-apart others rest s m (z_of call.word) call.arg (service_of call.word) (both-false _ _ h).1
    ∙ ap (λ (t : Leaves TrapAnswer A). leaves_apart others rest t) (sym (trap-same s m call))

-- ---- whether it touches

follows-untouched : (more more' : ℕ → ℕ → Bool) (r : Result (ℕ × ℕ) TrapStop) → ((p q : ℕ) → more p q ≡ false → more' p q ≡ false) → follows more r ≡ false → follows more' r ≡ false
follows-untouched more more' (Err stop) f h = refl
follows-untouched more more' (Ok (p, q)) f h = f p q h

arguments-untouched : (others f : ℕ → ℕ) (more more' : ℕ → ℕ → Bool) (b : ℕ) → ((p q : ℕ) → more p q ≡ false → more' p q ≡ false) → arguments_touch more f b ≡ false → arguments_touch more' (with_segment others f) b ≡ false
arguments-untouched others f more more' b g h =
    let parts : (is_in_stack_segment b ≡ false) × (is_in_stack_segment ((b + 8) % 2 ^ 64) ≡ false) × (follows more (arguments f b) ≡ false) = touch-parts _ _ _ h in
    rw (parts.0, parts.1, same-arguments others f b parts.0 parts.1) (follows-untouched more more' (arguments f b) g parts.2)

service-untouched : (others f : ℕ → ℕ) (b : ℕ) (service : Service) → service_touches f b service ≡ false → service_touches (with_segment others f) b service ≡ false
service-untouched others f b Halt h = refl
service-untouched others f b Fopen h = arguments-untouched others f (λ p q. text_touches f p) (λ p q. text_touches (with_segment others f) p) b (λ p q e. text-untouched others f p e) h
service-untouched others f b Fclose h = refl
service-untouched others f b Fread h = arguments-untouched others f meets_segment meets_segment b (λ p q e. e) h
service-untouched others f b Fgets h = arguments-untouched others f meets_segment meets_segment b (λ p q e. e) h
service-untouched others f b Fwrite h = arguments-untouched others f meets_segment meets_segment b (λ p q e. e) h
service-untouched others f b Fputs h = text-untouched others f b h
service-untouched others f b Fseek h = refl
service-untouched others f b Ftell h = refl

by-untouched : (others f : ℕ → ℕ) (b : ℕ) (r : Result Service TrapStop) → touches_by f b r ≡ false → touches_by (with_segment others f) b r ≡ false
by-untouched others f b (Err stop) h = refl
by-untouched others f b (Ok service) h = service-untouched others f b service h

pub untouched-apart : (others f : ℕ → ℕ) (call : TrapCall) → touches f call ≡ false → touches (with_segment others f) call ≡ false
unfolding touches is_wild
untouched-apart others f call h =
    let parts : (is_in_stack_segment call.pc ≡ false) × (touches_by f call.arg (service_of call.word) ≡ false) = both-false _ _ h in
    rw (parts.0) (by-untouched others f call.arg (service_of call.word) parts.1)

pub ruleset laws = (trap-apart, untouched-apart)
