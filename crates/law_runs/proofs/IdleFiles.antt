-- Where no call fails: a file that is read whole or in part, and an object that is written.
use Rattle.std.proofs.Common.{◌≡◌, ◌≢◌, ℕ, suc, zero, ◌+◌, ◌*◌, ◌-◌, ◌/◌, ◌<◌, ◌≤◌, Bool, true, false, List, [], ◌++◌, length, take, drop, Some, None, Ok, Err, refl, sym, ◌∙◌, ap, arith, append-nil, append_assoc}
use Rattle.std.specs.Prelude.{Option, Result, slice_get, slice_set, unwrap_or, ◌==◌}
use Rattle.std.proofs.Math.Seq.{take-add}
use Rattle.std.proofs.lemmas.Bool.Decides.{nat_tests}
use Rattle.std.proofs.lemmas.List.{length-append, length-take, get_or-set_same, set-set, take_all, drop-drop, take-append-drop}
use Rattle.std.proofs.lemmas.Option.{unwrap_or-slice_get}
use Rattle.mx_host.specs.declared.files.StoredFile.{StoredFile}
use Rattle.mx_host.specs.declared.slots.Slot.{Slot}
use Rattle.mx_host.specs.declared.slots.Slot.TheVariants.{Closed, Open}
use Rattle.mx_host.specs.declared.slots.Mode.{Mode}
use Rattle.mx_host.specs.declared.slots.Mode.TheVariants.{BinaryRead, BinaryWrite}
use Rattle.mx_host.specs.declared.slots.Lead.{Lead}
use Rattle.mx_host.specs.declared.slots.Lead.TheVariants.{File}
use Rattle.mx_host.specs.HostModel.{HostModel, last_call, place_of}
use Rattle.mx_host.specs.HostAnswer.{Then, open_answer, opened, read_answer, read_from, write_answer, write_to, close_answer, closed, with_bytes, bytes_at, put_at}
use Rattle.mx_word.specs.Lists.{with_written}
use Rattle.mx_host.specs.declared.faults.HostFault.{HostFault as SlotFault}
use Rattle.mx_host.specs.declared.faults.OpenFault.{OpenFault}
use Rattle.mx_plan.specs.Calls.{host}
use Rattle.mx_plan.specs.Plan.{returns, end_of, end_after}
use Rattle.mx_plan.proofs.Plans.{end_returns}
use Rattle.mx_files.specs.Assembling.{assembled_outcome}
use Rattle.mx_files.specs.FilePlans.{on_ok, piece_added, read_next, read_pieces, then_closed, read_open, write_pieces, text_plan}
use Rattle.mx_files.specs.ObjectPlans.{assemble_plan}
use Rattle.mx_files.specs.Objects.{source_object}
use Rattle.mx_files.specs.Writing.{was_put, put_text}
use Rattle.mx_files.specs.Source.{file_bytes}
use Rattle.mx_files.proofs.FileEnds.{then_carried, added-by, pieces-by, then-by, open-by, input_after, file-by, write-by, none-by, more-by, assembled-by}
use Rattle.mx_outcome.specs.declared.outcome.Outcome.{Outcome}
use Rattle.mx_outcome.specs.declared.outcome.Outcome.TheVariants.{NoFile}
use Rattle.mx_host.proofs.NamedFiles.{home, Lies, lies, at-home, put-put, overwritten-end}

-- the model with no call that fails, and with these files and slots
abbrev pub idle : List StoredFile → List Slot → HostModel → HostModel
idle files slots m = record m { files = files; slots = slots; calls = last_call; failing = [] }

pub slot-set : (slots : List Slot) (k : ℕ) (s d : Slot) → k < length slots → unwrap_or (slice_get (slice_set slots k s) k) d ≡ s
slot-set slots k s d h = unwrap_or-slice_get (slice_set slots k s) k d ∙ get_or-set_same slots k s d h

-- a slot that is open is closed
close-idle : (files : List StoredFile) (slots : List Slot) (m : HostModel) (k place : ℕ) (l : Lead) (mode : Mode) → k < length slots →
    close_answer (idle files (slice_set slots k (Open l mode place)) m) k ≡ (Ok tt, idle files (slice_set slots k Closed) m)
unfolding close_answer
close-idle files slots m k place l mode h =
    ap (closed (idle files (slice_set slots k (Open l mode place)) m) k) (slot-set slots k (Open l mode place) Closed h)
    ∙ ap (λ ss. (Ok tt, idle files ss m)) (set-set slots k (Open l mode place) Closed)

-- ---- reading

read-idle : (files : List StoredFile) (slots : List Slot) (m : HostModel) (k len at place : ℕ) → k < length slots →
    let got : List ℕ = take len (drop place (bytes_at files at)) in
    read_answer (idle files (slice_set slots k (Open (File at) BinaryRead place)) m) k len ≡ (Ok got, idle files (slice_set slots k (Open (File at) BinaryRead (place + length got))) m)
unfolding read_answer
read-idle files slots m k len at place h =
    let got : List ℕ = take len (drop place (bytes_at files at)) in
    ap (read_from (idle files (slice_set slots k (Open (File at) BinaryRead place)) m) k len) (slot-set slots k (Open (File at) BinaryRead place) Closed h)
    ∙ ap (λ ss. (Ok got, idle files ss m)) (set-set slots k (Open (File at) BinaryRead place) (Open (File at) BinaryRead (place + length got)))

-- a whole piece, and what is read after it
more-read : (n rest total place : ℕ) (got bytes : List ℕ) → total ≡ n + rest → length (take n (drop place bytes)) ≡ n →
    (got ++ take n (drop place bytes)) ++ take rest (drop (place + length (take n (drop place bytes))) bytes) ≡ got ++ take total (drop place bytes)
more-read n rest total place got bytes e h =
    rw (h, e, ← drop-drop n place bytes, take-add n rest (drop place bytes)) (append_assoc got (take n (drop place bytes)) (take rest (drop n (drop place bytes))))

-- a shorter piece is all that is left
short-read : (n total : ℕ) (bytes : List ℕ) → n ≤ total → length (take n bytes) ≢ n → take n bytes ≡ take total bytes
short-read n total bytes l h =
    let few : length bytes ≤ n = grind (arith, length-take n bytes) in
    take_all n bytes few ∙ sym (take_all total bytes (omega arith))

-- what was read, and the file is closed then
abbrev shut : Then (Result (List ℕ) Outcome) → Then (Result (List ℕ) Outcome)
shut t = end_after host (on_ok then_closed) t

shut-idle : (bytes : List ℕ) (files : List StoredFile) (slots : List Slot) (m : HostModel) (at place : ℕ) → 256 < length slots →
    end_of host (then_closed bytes) (idle files (slice_set slots 256 (Open (File at) BinaryRead place)) m) ≡ (Ok bytes, idle files (slice_set slots 256 Closed) m)
shut-idle bytes files slots m at place h =
    then-by bytes (idle files (slice_set slots 256 (Open (File at) BinaryRead place)) m)
    ∙ ap (λ (t : Then (Result (Unit {0}) SlotFault)). end_after host (on_ok (λ u. returns (Ok bytes))) (then_carried t)) (close-idle files slots m 256 place (File at) BinaryRead h)
    ∙ end_returns host (Ok bytes) (idle files (slice_set slots 256 Closed) m)

-- what follows a piece, by whether it was a whole one
piece-next : (left : ℕ) (got : List ℕ) (files : List StoredFile) (slots : List Slot) (m : HostModel) (at place : ℕ) → 256 < length slots →
    ((xs : List ℕ) (q : ℕ) → shut (end_of host (read_pieces left xs) (idle files (slice_set slots 256 (Open (File at) BinaryRead q)) m))
    ≡ (Ok (xs ++ take (4096 * left) (drop q (bytes_at files at))), idle files (slice_set slots 256 Closed) m)) →
    (piece : List ℕ) (b : Bool) → piece ≡ take 4096 (drop place (bytes_at files at)) → (length piece == 4096) ≡ b →
    shut (end_after host (on_ok (read_next (read_pieces left))) (Ok (got ++ piece, b), idle files (slice_set slots 256 (Open (File at) BinaryRead (place + length piece))) m))
    ≡ (Ok (got ++ take (4096 * suc left) (drop place (bytes_at files at))), idle files (slice_set slots 256 Closed) m)
piece-next left got files slots m at place h others piece true is e =
    let all : length piece ≡ 4096 = grind (arith, nat_tests) in
    let size : length (take 4096 (drop place (bytes_at files at))) ≡ 4096 = ap length (sym is) ∙ all in
    others (got ++ piece) (place + length piece)
    ∙ ap (λ xs. (Ok xs, idle files (slice_set slots 256 Closed) m))
    (ap (λ ys. (got ++ ys) ++ take (4096 * left) (drop (place + length ys) (bytes_at files at))) is
    ∙ more-read 4096 (4096 * left) (4096 * suc left) place got (bytes_at files at) (omega arith) size)
piece-next left got files slots m at place h others piece false is e =
    let fewer : length piece ≢ 4096 = grind (arith, nat_tests) in
    let n : HostModel = idle files (slice_set slots 256 (Open (File at) BinaryRead (place + length piece))) m in
    ap shut (end_returns host (Ok (got ++ piece)) n) ∙ shut-idle (got ++ piece) files slots m at (place + length piece) h
    ∙ ap (λ xs. (Ok (got ++ xs), idle files (slice_set slots 256 Closed) m))
    (is ∙ short-read 4096 (4096 * suc left) (drop place (bytes_at files at)) (omega arith) (λ same. fewer (ap length is ∙ same)))

none-read : (got : List ℕ) (m : HostModel) → end_of host (read_pieces 0 got) m ≡ (Ok got, m)
unfolding read_pieces end_of
none-read got m = refl

-- the bytes from a place on, in pieces; then the file is closed
pieces-idle : (left : ℕ) (got : List ℕ) (files : List StoredFile) (slots : List Slot) (m : HostModel) (at place : ℕ) → 256 < length slots →
    shut (end_of host (read_pieces left got) (idle files (slice_set slots 256 (Open (File at) BinaryRead place)) m))
    ≡ (Ok (got ++ take (4096 * left) (drop place (bytes_at files at))), idle files (slice_set slots 256 Closed) m)
pieces-idle zero got files slots m at place h =
    ap shut (none-read got (idle files (slice_set slots 256 (Open (File at) BinaryRead place)) m)) ∙ shut-idle got files slots m at place h
    ∙ ap (λ xs. (Ok xs, idle files (slice_set slots 256 Closed) m)) (sym (append-nil got))
pieces-idle (suc left) got files slots m at place h =
    let piece : List ℕ = take 4096 (drop place (bytes_at files at)) in
    let n : HostModel = idle files (slice_set slots 256 (Open (File at) BinaryRead (place + length piece))) m in
    ap shut (pieces-by left got (idle files (slice_set slots 256 (Open (File at) BinaryRead place)) m))
    ∙ ap (λ (t : Then (Result (List ℕ) SlotFault)). shut (end_after host (on_ok (read_next (read_pieces left))) (end_after host (piece_added got) t))) (read-idle files slots m 256 4096 at place h)
    ∙ ap (λ (t : Then (Result (List ℕ × Bool) Outcome)). shut (end_after host (on_ok (read_next (read_pieces left))) t)) (added-by got piece n)
    ∙ piece-next left got files slots m at place h (λ xs q. pieces-idle left xs files slots m at q h) piece (length piece == 4096) refl refl

open-reading : (files : List StoredFile) (slots : List Slot) (m : HostModel) (name : List ℕ) (p : Option ℕ) → place_of files name ≡ p →
    open_answer (idle files slots m) 256 name BinaryRead ≡ opened true (idle files slots m) 256 name BinaryRead p
unfolding open_answer
open-reading files slots m name p e = ap (opened true (idle files slots m) 256 name BinaryRead) e

opened-by : (most : ℕ) (name : List ℕ) (files : List StoredFile) (slots : List Slot) (m : HostModel) (p : Option ℕ) → place_of files name ≡ p →
    file_bytes most name (idle files slots m) ≡ end_after host (on_ok (λ u. read_open most)) (input_after (opened true (idle files slots m) 256 name BinaryRead p))
opened-by most name files slots m p e =
    file-by most name (idle files slots m) ∙ ap (λ (t : Then (Result (Unit {0}) OpenFault)). end_after host (on_ok (λ u. read_open most)) (input_after t)) (open-reading files slots m name p e)

-- the bytes of a file that is there, as far as this many pieces reach; then the slot is closed
pub file-idle : (most : ℕ) (files : List StoredFile) (slots : List Slot) (m : HostModel) (name : List ℕ) (at : ℕ) → 256 < length slots → place_of files name ≡ Some at →
    file_bytes most name (idle files slots m) ≡ (Ok (take (4096 * most) (bytes_at files at)), idle files (slice_set slots 256 Closed) m)
file-idle most files slots m name at h e =
    opened-by most name files slots m (Some at) e ∙ open-by most (idle files (slice_set slots 256 (Open (File at) BinaryRead 0)) m) ∙ pieces-idle most [] files slots m at 0 h

-- a file that is not there
pub file-absent : (most : ℕ) (files : List StoredFile) (slots : List Slot) (m : HostModel) (name : List ℕ) → place_of files name ≡ None →
    file_bytes most name (idle files slots m) ≡ (Err NoFile, idle files (slice_set slots 256 Closed) m)
file-absent most files slots m name e = opened-by most name files slots m None e ∙ end_returns host (Err NoFile) (idle files (slice_set slots 256 Closed) m)

-- ---- writing

-- the model while an object is written: it has these bytes so far
abbrev pub writing : List StoredFile → List Slot → HostModel → List ℕ → Option ℕ → List ℕ → HostModel
writing files slots m name p bytes = idle (put_at files name bytes p) (slice_set slots 257 (Open (File (home files p)) BinaryWrite (length bytes))) m

open-writing : (files : List StoredFile) (slots : List Slot) (m : HostModel) (name : List ℕ) (p : Option ℕ) →
    opened false (idle files slots m) 257 name BinaryWrite p ≡ (Ok tt, writing files slots m name p [])
open-writing files slots m name None = refl
open-writing files slots m name (Some at) = refl

pub open-object : (files : List StoredFile) (slots : List Slot) (m : HostModel) (name : List ℕ) →
    open_answer (idle files slots m) 257 name BinaryWrite ≡ (Ok tt, writing files slots m name (place_of files name) [])
unfolding open_answer
open-object files slots m name = open-writing files slots m name (place_of files name)

write-idle : (files : List StoredFile) (slots : List Slot) (m : HostModel) (name : List ℕ) (p : Option ℕ) (bytes from : List ℕ) → 257 < length slots → Lies files p →
    write_answer (writing files slots m name p bytes) 257 from ≡ (Ok tt, writing files slots m name p (bytes ++ from))
unfolding write_answer
write-idle files slots m name p bytes from h l =
    let s : Slot = Open (File (home files p)) BinaryWrite (length bytes) in
    let place : ℕ → Slot = λ k. Open (File (home files p)) BinaryWrite k in
    let longer : List ℕ → List ℕ = λ xs. with_written xs (length bytes) from in
    let held : bytes_at (put_at files name bytes p) (home files p) ≡ bytes = at-home files name bytes p l in
    let put : with_bytes (put_at files name bytes p) (home files p) (longer (bytes_at (put_at files name bytes p) (home files p))) ≡ put_at files name (bytes ++ from) p =
    ap (λ xs. with_bytes (put_at files name bytes p) (home files p) (longer xs)) held ∙ put-put files name bytes (longer bytes) p l ∙ ap (λ xs. put_at files name xs p) (overwritten-end bytes from) in
    let moved : slice_set (slice_set slots 257 s) 257 (place (length bytes + length from)) ≡ slice_set slots 257 (place (length (bytes ++ from))) =
    set-set slots 257 s (place (length bytes + length from)) ∙ ap (λ k. slice_set slots 257 (place k)) (sym (length-append bytes from)) in
    ap (write_to (writing files slots m name p bytes) 257 from) (slot-set slots 257 s Closed h)
    ∙ ap (λ fs. (Ok tt, idle fs (slice_set (slice_set slots 257 s) 257 (place (length bytes + length from))) m)) put
    ∙ ap (λ ss. (Ok tt, idle (put_at files name (bytes ++ from) p) ss m)) moved

pieces_put-idle : (k : ℕ) (files : List StoredFile) (slots : List Slot) (m : HostModel) (name : List ℕ) (p : Option ℕ) (bytes text : List ℕ) → 257 < length slots → Lies files p →
    end_of host (write_pieces k 257 text) (writing files slots m name p bytes) ≡ (Ok tt, writing files slots m name p (bytes ++ text))
pieces_put-idle zero files slots m name p bytes text h l =
    none-by 257 text (writing files slots m name p bytes) ∙ write-by 257 text (writing files slots m name p bytes) ∙ ap then_carried (write-idle files slots m name p bytes text h l)
pieces_put-idle (suc k) files slots m name p bytes text h l =
    let first : List ℕ = take 4096 text in
    let others : List ℕ = drop 4096 text in
    more-by k 257 text (writing files slots m name p bytes)
    ∙ ap (λ (t : Then (Result (Unit {0}) SlotFault)). end_after host (on_ok (λ u. write_pieces k 257 others)) (then_carried t)) (write-idle files slots m name p bytes first h l)
    ∙ pieces_put-idle k files slots m name p (bytes ++ first) others h l
    ∙ ap (λ xs. (Ok tt, writing files slots m name p xs)) (append_assoc bytes first others ∙ ap (λ xs. bytes ++ xs) (take-append-drop 4096 text))

text-idle : (files : List StoredFile) (slots : List Slot) (m : HostModel) (name : List ℕ) (p : Option ℕ) (text : List ℕ) → 257 < length slots → Lies files p →
    put_text 257 text (writing files slots m name p []) ≡ (true, writing files slots m name p text)
unfolding put_text text_plan
text-idle files slots m name p text h l = ap was_put (pieces_put-idle ((length text - 1) / 4096) files slots m name p [] text h l)

-- what there is of an object is written and closed: a source that is read is assembled
pub assembled-idle : (files : List StoredFile) (slots : List Slot) (m k : HostModel) (source object text : List ℕ) → 257 < length slots → file_bytes 1025 source k ≡ (Ok text, idle files slots m) →
    end_of host (assemble_plan source object) k
    ≡ (assembled_outcome (source_object text).1, idle (put_at files object (source_object text).0 (place_of files object)) (slice_set slots 257 Closed) m)
assembled-idle files slots m k source object text h read =
    let bytes : List ℕ = (source_object text).0 in
    let p : Option ℕ = place_of files object in
    assembled-by source object text k (idle files slots m) (writing files slots m object p []) (writing files slots m object p bytes) (idle (put_at files object bytes p) (slice_set slots 257 Closed) m) read
    (open-object files slots m object) (text-idle files slots m object p bytes h (lies files object))
    (close-idle (put_at files object bytes p) slots m 257 (length bytes) (File (home files p)) BinaryWrite h)
