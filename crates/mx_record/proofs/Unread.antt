-- A file trap that reads no file leaves the space as it is.
use Rattle.std.proofs.Common.{◌≡◌, ℕ, ◌==◌, ◌||◌, false, Ok, Err, arith, ◌∙◌, ap}
use Rattle.std.proofs.lemmas.Bool.{cond_both}
use Rattle.std.proofs.lemmas.Bool.Decides.{nat_tests}
use Rattle.std.specs.Prelude.{Result}
use Rattle.mx_host.specs.HostModel.{HostModel}
use Rattle.mx_mem.specs.Space.{Contents}
use Rattle.mx_word.specs.Results.{map_ok}
use Rattle.mx_plan.specs.Plan.{end_after, end_of}
use Rattle.mx_plan.specs.Calls.{Both, HostPlan, both, look, on_host}
use Rattle.mx_plan.proofs.Plans.{end_bind, end_look, end_on_host, end_returns}
use Rattle.mx_alu.specs.declared.call.TrapCall.{TrapCall}
use Rattle.mx_trap.specs.FileTraps.{answer_to, trap_answer, trap_plan}
use Rattle.mx_trap.specs.Requests.{arguments, buffer, most_bytes, opening_with, request_after, request_of, text_length}
use Rattle.mx_trap.specs.Services.{service_numbered, service_of, x_of, y_of, z_of}
use Rattle.mx_trap.specs.declared.answer.TrapAnswer.{TrapAnswer}
use Rattle.mx_trap.specs.declared.answer.TrapStop.{TrapStop}
use Rattle.mx_trap.specs.declared.requests.Request.{Request}
use Rattle.mx_trap.specs.declared.requests.Request.TheVariants.{Ending, Opening, Closing, Reading, ReadingLine, Writing, WritingText, Seeking, Telling}
use Rattle.mx_trap.specs.declared.service.Service.{Service}
use Rattle.mx_trap.specs.declared.service.Service.TheVariants as service
use Rattle.mx_record.specs.Following.{reads_file}

-- REQUESTS

abbrev NoReading : Result Request TrapStop → Type 0
NoReading (Ok (Reading at size)) = ⊥
NoReading (Ok (ReadingLine at size)) = ⊥
NoReading other = Unit {0}

abbrev NoReader : Result Service TrapStop → Type 0
NoReader (Ok service.Fread) = ⊥
NoReader (Ok service.Fgets) = ⊥
NoReader other = Unit {0}

opening-not : (p q : ℕ) (r : Result ℕ TrapStop) → NoReading (map_ok (λ size. Opening p size q) r)
opening-not p q (Err stop) = tt
opening-not p q (Ok n) = tt

opened-not : (bytes : ℕ → ℕ) (r : Result (ℕ × ℕ) TrapStop) → NoReading (opening_with bytes r)
opened-not bytes (Err stop) = tt
opened-not bytes (Ok (p, q)) = opening-not p q (text_length most_bytes bytes p)

writing-not : (r : Result (ℕ × ℕ) TrapStop) → NoReading (map_ok (λ (t : ℕ × ℕ). Writing t.0 t.1) r)
writing-not (Err stop) = tt
writing-not (Ok t) = tt

text-not : (b : ℕ) (r : Result ℕ TrapStop) → NoReading (map_ok (λ size. WritingText b size) r)
text-not b (Err stop) = tt
text-not b (Ok n) = tt

request-not : (bytes : ℕ → ℕ) (b : ℕ) (r : Result Service TrapStop) → NoReader r → NoReading (request_after bytes b r)
request-not bytes b (Err stop) h = tt
request-not bytes b (Ok service.Halt) h = tt
request-not bytes b (Ok service.Fopen) h = opened-not bytes (arguments bytes b)
request-not bytes b (Ok service.Fclose) h = tt
request-not bytes b (Ok service.Fread) h = absurd h
request-not bytes b (Ok service.Fgets) h = absurd h
request-not bytes b (Ok service.Fwrite) h = writing-not (buffer bytes b)
request-not bytes b (Ok service.Fputs) h = text-not b (text_length most_bytes bytes b)
request-not bytes b (Ok service.Fseek) h = tt
request-not bytes b (Ok service.Ftell) h = tt

numbered-not : (y z : ℕ) → (y == 3 || y == 4) ≡ false → NoReader (service_numbered y z)
numbered-not y z e =
    cond_both (y == 0) _ _ NoReader (λ _. cond_both (z == 0) _ _ NoReader (λ _. tt) (λ _. tt)) (λ _.
    cond_both (y == 1) _ _ NoReader (λ _. tt) (λ _.
    cond_both (y == 2) _ _ NoReader (λ _. tt) (λ _.
    cond_both (y == 3) _ _ NoReader (λ f. absurd (grind (arith, nat_tests))) (λ _.
    cond_both (y == 4) _ _ NoReader (λ f. absurd (grind (arith, nat_tests))) (λ _.
    cond_both (y == 5) _ _ NoReader (λ _. tt) (λ _.
    cond_both (y == 6) _ _ NoReader (λ _. tt) (λ _.
    cond_both (y == 7) _ _ NoReader (λ _. tt) (λ _.
    cond_both (y == 8) _ _ NoReader (λ _. tt) (λ _.
    cond_both (y == 9) _ _ NoReader (λ _. tt) (λ _.
    cond_both (y == 10) _ _ NoReader (λ _. tt) (λ _. tt)))))))))))

service-not : (word : ℕ) → reads_file word ≡ false → NoReader (service_of word)
unfolding service_of
service-not word e = cond_both (x_of word == 0) _ _ NoReader (λ _. numbered-not (y_of word) (z_of word) e) (λ _. tt)

asked-not : (bytes : ℕ → ℕ) (call : TrapCall) → reads_file call.word ≡ false → NoReading (request_of bytes call)
unfolding request_of
asked-not bytes call e = request-not bytes call.arg (service_of call.word) (service-not call.word e)

-- WHAT IS LEFT

host-left : {Rest : Type 0} (p : HostPlan TrapAnswer) (s : Contents Rest) (m : HostModel) → (end_of both (on_host p) (s, m)).1.0 ≡ s
host-left {Rest} p s m = ap (λ (t : TrapAnswer × Both Rest). t.1.0) (end_on_host p s m)

answer-left : {Rest : Type 0} (slot : ℕ) (bytes : ℕ → ℕ) (r : Result Request TrapStop) (s : Contents Rest) (m : HostModel) → NoReading r → (end_of both (answer_to slot bytes r) (s, m)).1.0 ≡ s
answer-left {Rest} slot bytes (Err stop) s m h = ap (λ (t : TrapAnswer × Both Rest). t.1.0) (end_returns both _ (s, m))
answer-left {Rest} slot bytes (Ok Ending) s m h = ap (λ (t : TrapAnswer × Both Rest). t.1.0) (end_returns both _ (s, m))
answer-left slot bytes (Ok (Opening at size mode)) s m h = host-left _ s m
answer-left slot bytes (Ok Closing) s m h = host-left _ s m
answer-left slot bytes (Ok (Reading at size)) s m h = absurd h
answer-left slot bytes (Ok (ReadingLine at size)) s m h = absurd h
answer-left slot bytes (Ok (Writing at size)) s m h = host-left _ s m
answer-left slot bytes (Ok (WritingText at size)) s m h = host-left _ s m
answer-left slot bytes (Ok (Seeking to)) s m h = host-left _ s m
answer-left slot bytes (Ok Telling) s m h = host-left _ s m

pub contents-kept : {Rest : Type 0} (s : Contents Rest) (m : HostModel) (call : TrapCall) → reads_file call.word ≡ false → (trap_answer s m call).1 ≡ s
unfolding trap_answer trap_plan
contents-kept {Rest} s m call e =
    ap (λ (t : TrapAnswer × Both Rest). t.1.0) (end_bind both (λ bytes. answer_to (z_of call.word) bytes (request_of bytes call)) look (s, m))
    ∙ ap (λ (t : (ℕ → ℕ) × Both Rest). (end_after both (λ bytes. answer_to (z_of call.word) bytes (request_of bytes call)) t).1.0) (end_look (s, m))
    ∙ answer-left (z_of call.word) s.bytes (request_of s.bytes call) s m (asked-not s.bytes call e)
