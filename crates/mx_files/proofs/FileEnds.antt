-- The ends of plans on files, by the answers of their calls.
use Rattle.std.proofs.Common.{◌≡◌, ◌≤◌, ℕ, zero, suc, ◌-◌, ◌/◌, ◌++◌, List, [], ◌∷◌, take, drop, length, Bool, true, false, cond, nat_lt, Ok, Err, refl, sym, ◌∙◌, ap}
use Rattle.std.specs.Prelude.{Result, ◌==◌}
use Rattle.mx_host.specs.HostAnswer.{Then, open_answer, read_answer, write_answer, close_answer}
use Rattle.mx_host.specs.HostModel.{HostModel}
use Rattle.mx_host.specs.declared.faults.HostFault.{HostFault}
use Rattle.mx_host.specs.declared.faults.OpenFault.{OpenFault}
use Rattle.mx_host.specs.declared.slots.Mode.TheVariants.{BinaryRead, BinaryWrite}
use Rattle.mx_mmo.specs.Replies.{limit, tail_of}
use Rattle.mx_mmo.specs.Whole.{Left, items_of}
use Rattle.mx_mmo.specs.declared.due.Phase.TheVariants.{Start}
use Rattle.mx_mmo.specs.declared.faults.MmoFault.{MmoFault}
use Rattle.mx_mmo.specs.declared.items.Tail.{Tail}
use Rattle.mx_stab.specs.Reading.{trie_answer}
use Rattle.mx_stab.specs.declared.faults.StabFault.{StabFault}
use Rattle.mx_word.specs.declared.symbols.Symbol.{Symbol}
use Rattle.mx_plan.specs.Calls.{host, need, open_plan, close_plan, read_plan, write_plan}
use Rattle.mx_plan.specs.Plan.{returns, bind, end_of, end_after}
use Rattle.mx_plan.proofs.Giving.{Gives, HostMay, gives-bind, gives-end}
use Rattle.mx_plan.proofs.Plans.{end_bind, end_returns}
use Rattle.mx_plan.proofs.Spared.{plan-spared}
use Rattle.mx_files.specs.Assembling.{assembled_outcome}
use Rattle.mx_files.specs.Clauses.{part_of}
use Rattle.mx_files.specs.FilePlans.{Part, on_ok, carried, close_file, piece_added, read_piece, read_next, read_pieces, then_closed, read_open, input_opened, open_input, file_plan, write_piece, write_pieces, text_plan, made_plan, lines_plan}
use Rattle.mx_files.specs.Writing.{was_put, put_text, lines_put}
use Rattle.mx_files.specs.ObjectPlans.{outcome_of, whole_plan, object_opened, open_object, assembled, close_object, put_object, put_source, put_into, assemble_part, assemble_plan, typed_end, typed_plan, list_part, list_plan}
use Rattle.mx_files.specs.Objects.{Assembled, source_object}
use Rattle.mx_files.specs.Typed.{Typed, trie_typed, tail_typed, end_typed, typed}
use Rattle.mx_outcome.specs.declared.outcome.Outcome.{Outcome}
use Rattle.mx_outcome.specs.declared.outcome.Outcome.TheVariants.{Done, HostFault as Broken, BadObject}
use Rattle.mx_files.specs.declared.refusal.Refusal.{Refusal}

-- ---- reading, by the answers of its calls

abbrev pub then_carried : Then (Result (Unit {0}) HostFault) → Then (Result (Unit {0}) Outcome)
then_carried t = (carried t.0, t.1)

read-by : (got : List ℕ) (m : HostModel) → end_of host (read_piece got) m ≡ end_after host (piece_added got) (read_answer m 256 4096)
unfolding read_piece read_plan bind end_of host
read-by got m = refl

pub added-by : (got piece : List ℕ) (m : HostModel) → end_after host (piece_added got) (Ok piece, m) ≡ (Ok (got ++ piece, length piece == 4096), m)
unfolding bind end_of host need
added-by got piece m = refl

pub pieces-by : (left : ℕ) (got : List ℕ) (m : HostModel) →
    end_of host (read_pieces (suc left) got) m ≡ end_after host (on_ok (read_next (read_pieces left))) (end_after host (piece_added got) (read_answer m 256 4096))
unfolding read_pieces
pieces-by left got m = end_bind host (on_ok (read_next (read_pieces left))) (read_piece got) m ∙ ap (end_after host (on_ok (read_next (read_pieces left)))) (read-by got m)

close-input : (m : HostModel) → end_of host (close_file 256) m ≡ then_carried (close_answer m 256)
unfolding close_file close_plan bind end_of host
close-input m = refl

pub then-by : (bytes : List ℕ) (m : HostModel) → end_of host (then_closed bytes) m ≡ end_after host (on_ok (λ u. returns (Ok bytes))) (then_carried (close_answer m 256))
then-by bytes m = end_bind host (on_ok (λ u. returns (Ok bytes))) (close_file 256) m ∙ ap (end_after host (on_ok (λ u. returns (Ok bytes)))) (close-input m)

pub open-by : (most : ℕ) (m : HostModel) → end_of host (read_open most) m ≡ end_after host (on_ok then_closed) (end_of host (read_pieces most []) m)
unfolding read_open
open-by most m = end_bind host (on_ok then_closed) (read_pieces most []) m

abbrev pub input_after : Then (Result (Unit {0}) OpenFault) → Then (Result (Unit {0}) Outcome)
input_after t = (input_opened t.0, t.1)

input-by : (name : List ℕ) (m : HostModel) → end_of host (open_input name) m ≡ input_after (open_answer m 256 name BinaryRead)
unfolding open_input open_plan bind end_of host
input-by name m = refl

pub file-by : (most : ℕ) (name : List ℕ) (m : HostModel) → end_of host (file_plan most name) m ≡ end_after host (on_ok (λ u. read_open most)) (input_after (open_answer m 256 name BinaryRead))
unfolding file_plan
file-by most name m = end_bind host (on_ok (λ u. read_open most)) (open_input name) m ∙ ap (end_after host (on_ok (λ u. read_open most))) (input-by name m)

-- ---- writing, by the answers of its calls

pub write-by : (slot : ℕ) (piece : List ℕ) (m : HostModel) → end_of host (write_piece slot piece) m ≡ then_carried (write_answer m slot piece)
unfolding write_piece write_plan bind end_of host
write-by slot piece m = refl

pub none-by : (slot : ℕ) (text : List ℕ) (m : HostModel) → end_of host (write_pieces 0 slot text) m ≡ end_of host (write_piece slot text) m
unfolding write_pieces
none-by slot text m = refl

pub more-by : (more slot : ℕ) (text : List ℕ) (m : HostModel) →
    end_of host (write_pieces (suc more) slot text) m ≡ end_after host (on_ok (λ u. write_pieces more slot (drop 4096 text))) (then_carried (write_answer m slot (take 4096 text)))
unfolding write_pieces
more-by more slot text m =
    end_bind host (on_ok (λ u. write_pieces more slot (drop 4096 text))) (write_piece slot (take 4096 text)) m
    ∙ ap (end_after host (on_ok (λ u. write_pieces more slot (drop 4096 text)))) (write-by slot (take 4096 text) m)

made-by : (line : List ℕ) (m : HostModel) → end_of host (made_plan line) m ≡ end_of host (write_piece 259 line) m
unfolding made_plan need bind end_of host
made-by line m = refl

pub no-lines : (m : HostModel) → end_of host (lines_plan []) m ≡ (Ok tt, m)
unfolding lines_plan end_of
no-lines m = refl

pub line-by : (line : List ℕ) (lines : List (List ℕ)) (m : HostModel) → end_of host (lines_plan (line ∷ lines)) m ≡ end_after host (on_ok (λ u. lines_plan lines)) (then_carried (write_answer m 259 line))
unfolding lines_plan
line-by line lines m =
    end_bind host (on_ok (λ u. lines_plan lines)) (made_plan line) m ∙ ap (end_after host (on_ok (λ u. lines_plan lines))) (made-by line m ∙ write-by 259 line m)

-- ---- all is written, or it is a fault of the host

abbrev IsPut : Result (Unit {0}) Outcome → Type 0
IsPut (Ok u) = Unit {0}
IsPut (Err outcome) = outcome ≡ Broken

carried-put : (r : Result (Unit {0}) HostFault) → IsPut (carried r)
carried-put (Ok u) = tt
carried-put (Err why) = refl

piece-put : (slot : ℕ) (piece : List ℕ) → Gives HostMay IsPut (write_piece slot piece)
unfolding Gives write_piece write_plan bind
piece-put slot piece = λ r t. carried-put r

on-put : (more : Part (Unit {0})) → Gives HostMay IsPut more → (r : Result (Unit {0}) Outcome) → IsPut r → Gives HostMay IsPut (on_ok (λ u. more) r)
unfolding Gives
on-put more h (Ok u) t = h
on-put more h (Err outcome) t = t

pieces-put : (more slot : ℕ) (text : List ℕ) → Gives HostMay IsPut (write_pieces more slot text)
unfolding write_pieces
pieces-put zero slot text = piece-put slot text
pieces-put (suc more) slot text =
    gives-bind HostMay IsPut IsPut (on_ok (λ u. write_pieces more slot (drop 4096 text))) (write_piece slot (take 4096 text)) (piece-put slot (take 4096 text))
    (on-put (write_pieces more slot (drop 4096 text)) (pieces-put more slot (drop 4096 text)))

made-put : (line : List ℕ) → Gives HostMay IsPut (made_plan line)
unfolding Gives made_plan need bind
made-put line = λ u t. piece-put 259 line

lines-put : (lines : List (List ℕ)) → Gives HostMay IsPut (lines_plan lines)
unfolding Gives lines_plan
lines-put [] = tt
lines-put (line ∷ lines) = gives-bind HostMay IsPut IsPut (on_ok (λ u. lines_plan lines)) (made_plan line) (made-put line) (on-put (lines_plan lines) (lines-put lines))

was-part : (t : Then (Result (Unit {0}) Outcome)) → IsPut t.0 → t ≡ part_of (was_put t)
was-part (Ok u, m) h = refl
was-part (Err outcome, m) h = ap (λ o. (Err o, m)) h

put-end : (p : Part (Unit {0})) (m : HostModel) → Gives HostMay IsPut p → end_of host p m ≡ part_of (was_put (end_of host p m))
put-end p m h = was-part (end_of host p m) (gives-end host HostMay IsPut (λ o w. tt) p m h)

pub text-end : (slot : ℕ) (text : List ℕ) (m : HostModel) → end_of host (text_plan slot text) m ≡ part_of (put_text slot text m)
unfolding text_plan put_text
text-end slot text m = put-end (write_pieces ((length text - 1) / 4096) slot text) m (pieces-put ((length text - 1) / 4096) slot text)

pub lines-end : (lines : List (List ℕ)) (m : HostModel) → end_of host (lines_plan lines) m ≡ part_of (lines_put lines m)
unfolding lines_put
lines-end lines m = put-end (lines_plan lines) m (lines-put lines)

-- ---- a source that is assembled, by the answers of its calls

abbrev pub whole_of : Then (Result (Unit {0}) Outcome) → Then Outcome
whole_of t = (outcome_of t.0, t.1)

pub whole-by : (p : Part (Unit {0})) (m : HostModel) → end_of host (whole_plan p) m ≡ whole_of (end_of host p m)
unfolding end_of
whole-by p m = end_bind host (λ r. returns (outcome_of r)) p m

answer-same : (answer : Result (Unit {0}) Refusal) → outcome_of (assembled answer) ≡ assembled_outcome answer
answer-same (Ok u) = refl
answer-same (Err refusal) = refl

close-output : (m : HostModel) → end_of host (close_file 257) m ≡ then_carried (close_answer m 257)
unfolding close_file close_plan bind end_of host
close-output m = refl

closed-by : (answer : Result (Unit {0}) Refusal) (m after : HostModel) → close_answer m 257 ≡ (Ok tt, after) → end_of host (close_object answer) m ≡ (assembled answer, after)
unfolding close_object
closed-by answer m after e =
    end_bind host (on_ok (λ u. returns (assembled answer))) (close_file 257) m
    ∙ ap (end_after host (on_ok (λ u. returns (assembled answer)))) (close-output m ∙ ap then_carried e) ∙ end_returns host (assembled answer) after

object-by : (a : Assembled) (m written after : HostModel) → put_text 257 a.0 m ≡ (true, written) → close_answer written 257 ≡ (Ok tt, after) → end_of host (put_object a) m ≡ (assembled a.1, after)
unfolding put_object
object-by a m written after e f =
    end_bind host (on_ok (λ u. close_object a.1)) (text_plan 257 a.0) m
    ∙ ap (end_after host (on_ok (λ u. close_object a.1))) (text-end 257 a.0 m ∙ ap part_of e) ∙ closed-by a.1 written after f

source-by : (source : List ℕ) (m : HostModel) → end_of host (put_source source) m ≡ end_of host (put_object (source_object source)) m
unfolding put_source need bind end_of host
source-by source m = refl

open-object-by : (name : List ℕ) (m : HostModel) → end_of host (open_object name) m ≡ (object_opened (open_answer m 257 name BinaryWrite).0, (open_answer m 257 name BinaryWrite).1)
unfolding open_object open_plan bind end_of host
open-object-by name m = refl

into-by : (object source : List ℕ) (m opened : HostModel) → open_answer m 257 object BinaryWrite ≡ (Ok tt, opened) → end_of host (put_into object source) m ≡ end_of host (put_source source) opened
unfolding put_into
into-by object source m opened e =
    end_bind host (on_ok (λ u. put_source source)) (open_object object) m
    ∙ ap (end_after host (on_ok (λ u. put_source source))) (open-object-by object m ∙ ap (λ (t : Then (Result (Unit {0}) OpenFault)). (object_opened t.0, t.1)) e)

-- it is read, the object file opens, what there is of the object is written, and the file is closed
pub assembled-by : (source object text : List ℕ) (m read opened written after : HostModel) → end_of host (file_plan 1025 source) m ≡ (Ok text, read) → open_answer read 257 object BinaryWrite ≡ (Ok tt, opened) →
    put_text 257 (source_object text).0 opened ≡ (true, written) → close_answer written 257 ≡ (Ok tt, after) → end_of host (assemble_plan source object) m ≡ (assembled_outcome (source_object text).1, after)
unfolding assemble_part
assembled-by source object text m read opened written after reads opens writes closes =
    whole-by (assemble_part source object) m
    ∙ ap whole_of (end_bind host (on_ok (put_into object)) (file_plan 1025 source) m ∙ ap (end_after host (on_ok (put_into object))) reads
    ∙ into-by object text read opened opens ∙ source-by text opened ∙ object-by (source_object text) opened written after writes closes)
    ∙ ap (λ (o : Outcome). (o, after)) (answer-same (source_object text).1)

-- reading it makes no more calls than all of it
reading-later : (object : List ℕ) (t : Then (Result (List ℕ) Outcome)) → t.1.calls ≤ (end_after host (on_ok (put_into object)) t).1.calls
reading-later object (r, m) = (plan-spared (on_ok (put_into object) r) m).later

pub assembled-later : (source object : List ℕ) (m : HostModel) → (end_of host (file_plan 1025 source) m).1.calls ≤ (end_of host (assemble_plan source object) m).1.calls
unfolding assemble_part
assembled-later source object m =
    rw (whole-by (assemble_part source object) m, end_bind host (on_ok (put_into object)) (file_plan 1025 source) m) (reading-later object (end_of host (file_plan 1025 source) m))

-- ---- an object that is listed

-- what bytes are listed as: an object, or none
abbrev IsTyped : Outcome → Type 0
IsTyped (Done status) = Done status ≡ Done 0
IsTyped (BadObject place fault) = Unit {0}
IsTyped outcome = ⊥

typed-by : (outcome : Outcome) (m : HostModel) → IsTyped outcome → whole_of (end_of host (typed_end outcome) m) ≡ (outcome, m)
unfolding bind need end_of host
typed-by (Done status) m h = ap (λ o. (o, m)) (sym h)
typed-by (BadObject place fault) m h = refl
typed-by outcome m h = absurd h

trie-typed : (place : ℕ) (trie : List ℕ) (r : Result (List Symbol) StabFault) → IsTyped (trie_typed place trie r).1
trie-typed place trie (Ok symbols) = refl
trie-typed place trie (Err fault) = tt

tail-typed : (r : Result Tail MmoFault) → IsTyped (tail_typed r).1
tail-typed (Ok tail) = trie-typed tail.place tail.trie (trie_answer tail.trie)
tail-typed (Err fault) = tt

end-typed : (r : Result Left MmoFault) → IsTyped (end_typed r).1
end-typed (Ok left) = tail-typed (tail_of left.phase left.at left.rest)
end-typed (Err fault) = tt

either-typed : (b : Bool) (t u : Typed) → IsTyped t.1 → IsTyped u.1 → IsTyped (cond b t u).1
either-typed true t u h k = h
either-typed false t u h k = k

object-typed : (object : List ℕ) → IsTyped (typed object).1
unfolding typed
object-typed object = either-typed (nat_lt limit (length object)) _ _ tt (end-typed (items_of Start 0 object).1)

-- an object is read, and its lines are written
pub listed-by : (name bytes : List ℕ) (m n k : HostModel) → end_of host (file_plan 16385 name) m ≡ (Ok bytes, n) → lines_put (typed bytes).0 n ≡ (true, k) → end_of host (list_plan name) m ≡ ((typed bytes).1, k)
unfolding list_part typed_plan
listed-by name bytes m n k read written =
    let t : Typed = typed bytes in
    whole-by (list_part name) m
    ∙ ap whole_of (end_bind host (on_ok (λ object. typed_plan (typed object))) (file_plan 16385 name) m ∙ ap (end_after host (on_ok (λ object. typed_plan (typed object)))) read
    ∙ end_bind host (on_ok (λ u. typed_end t.1)) (lines_plan t.0) n ∙ ap (end_after host (on_ok (λ u. typed_end t.1))) (lines-end t.0 n ∙ ap part_of written))
    ∙ typed-by t.1 k (object-typed bytes)

pub ruleset ends = (text-end, lines-end)
