-- Where no call fails, bytes that go out in pieces come to the same as one write of them.
use Rattle.std.proofs.Common.{◌≡◌, ℕ, suc, zero, ◌+◌, ◌-◌, ◌<◌, ◌≤◌, Bool, true, false, cond, nat_lt, List, [], ◌∷◌, ◌++◌, length, take, drop, Some, Ok, Err, refl, sym, ◌∙◌, ap, arith, append-nil, append_assoc}
use Rattle.std.specs.Prelude.{Result, slice_get, slice_set, replicate, unwrap_or}
use Rattle.std.proofs.lemmas.Bool.Decides.{nat_tests}
use Rattle.std.proofs.lemmas.List.{length-append, length-take, length-drop, length-replicate, set-set, get_or-set_same, take_at, drop_at, drop-drop, take-append-le, drop-append-le, take-append-drop, replicate-append-replicate}
use Rattle.std.proofs.lemmas.Option.{slice_get_past, unwrap_or-slice_get}
use Rattle.mx_word.specs.Lists.{with_zeros, with_part, with_written}
use Rattle.mx_host.specs.declared.files.StoredFile.{StoredFile}
use Rattle.mx_host.specs.declared.faults.HostFault.{HostFault}
use Rattle.mx_host.specs.declared.slots.Slot.{Slot}
use Rattle.mx_host.specs.declared.slots.Slot.TheVariants.{Closed, Open}
use Rattle.mx_host.specs.declared.slots.Mode.{Mode}
use Rattle.mx_host.specs.declared.slots.Lead.{Lead}
use Rattle.mx_host.specs.declared.slots.Lead.TheVariants.{Input, Output, Errors, File}
use Rattle.mx_host.specs.declared.faults.HostFault.TheVariants.{Misused}
use Rattle.mx_host.specs.HostModel.{HostModel, slot_at, is_read_only}
use Rattle.mx_host.specs.HostAnswer.{Then, write_answer, write_to, write_lead, changed_at, with_bytes, bytes_at}
use Rattle.mx_host.proofs.Still.{still, Steady, then, write-still}
use Rattle.mx_host.proofs.NamedFiles.{at-home, put-put}
use Rattle.mx_trap.specs.Moves.{whole_pieces}
use Rattle.mx_plan.specs.Calls.{host}
use Rattle.mx_plan.specs.Plan.{end_of}
use Rattle.mx_trap.specs.Moves as moves
use Rattle.mx_trap.proofs.Walks.{written-same, piece-written-same, write_piece, write_last, write_next, write_pieces, written}
use Rattle.mx_plan.specs.Counts.{unscheduled}
use Rattle.mx_trap.specs.Laws.{SameButCalls}
use Rattle.mx_trap.specs.declared.writes.Written.{Written}
use Rattle.mx_trap.specs.declared.writes.Written.TheVariants.{Whole, Short, OutOfMemory}

-- ---- bytes that are written, and others after them

zeros-joined : (old : List ℕ) (b c d : ℕ) → b + c ≡ d → old ++ replicate b 0 ++ replicate c 0 ≡ old ++ replicate d 0
zeros-joined old b c d e = append_assoc old (replicate b 0) (replicate c 0) ∙ ap (λ zs. old ++ zs) (replicate-append-replicate b c 0 ∙ ap (λ k. replicate k 0) e)

padded-length : (old : List ℕ) (to : ℕ) → length (with_zeros old to) ≡ length old + (to - length old)
padded-length old to = length-append old (replicate (to - length old) 0) ∙ ap (λ k. length old + k) (length-replicate (to - length old) 0)

padded-twice : (old : List ℕ) (near far : ℕ) → near ≤ far → with_zeros (with_zeros old near) far ≡ with_zeros old far
padded-twice old near far l =
    zeros-joined old (near - length old) (far - length (with_zeros old near)) (far - length old) (omega (arith, padded-length old near))

padded-long : (old : List ℕ) (to : ℕ) → to ≤ length (with_zeros old to)
padded-long old to = omega (arith, padded-length old to)

replaced-length : (old from : List ℕ) (place : ℕ) → place + length from ≤ length old → length (with_part old place from) ≡ length old
replaced-length old from place l = grind (arith, length-append, length-take, length-drop)

-- a front, and the bytes after it, in place of as many
replaced-joined : (old zeros front back : List ℕ) (place : ℕ) → place + length front ≤ length old →
    with_part (old ++ zeros) place (front ++ back) ≡ with_part (with_part old place front ++ zeros) (place + length front) back
replaced-joined old zeros front back place l =
    let n : ℕ = place + length front in
    let a : List ℕ = take place old in
    let d : List ℕ = drop n old in
    let left : List ℕ = drop (length back) (d ++ zeros) in
    let size : place + length (front ++ back) ≡ n + length back = omega (arith, length-append front back) in
    let few : length a ≡ place = grind (arith, length-take place old) in
    let seam : length (a ++ front) ≡ n = length-append a front ∙ ap (λ k. k + length front) few in
    let before : take place (old ++ zeros) ≡ a = take-append-le place old zeros (omega arith) in
    let after : drop (place + length (front ++ back)) (old ++ zeros) ≡ left =
    ap (λ k. drop k (old ++ zeros)) size ∙ sym (drop-drop (length back) n (old ++ zeros)) ∙ ap (drop (length back)) (drop-append-le n old zeros l) in
    let cut : with_part old place front ++ zeros ≡ a ++ front ++ (d ++ zeros) = append_assoc (a ++ front) d zeros in
    let head : take n (a ++ front ++ (d ++ zeros)) ≡ a ++ front = take_at (a ++ front) (d ++ zeros) n seam in
    let tail : drop (n + length back) (a ++ front ++ (d ++ zeros)) ≡ left =
    sym (drop-drop (length back) n (a ++ front ++ (d ++ zeros))) ∙ ap (drop (length back)) (drop_at (a ++ front) (d ++ zeros) n seam) in
    ap (λ xs. xs ++ (front ++ back) ++ drop (place + length (front ++ back)) (old ++ zeros)) before
    ∙ ap (λ xs. a ++ (front ++ back) ++ xs) after
    ∙ ap (λ xs. xs ++ left) (sym (append_assoc a front back))
    ∙ ap (λ xs. xs ++ back ++ left) (sym head)
    ∙ ap (λ xs. take n (a ++ front ++ (d ++ zeros)) ++ back ++ xs) (sym tail)
    ∙ ap (λ xs. take n xs ++ back ++ drop (n + length back) xs) (sym cut)

padded-joined : (old front back : List ℕ) (place : ℕ) →
    with_part (with_zeros old (place + length (front ++ back))) place (front ++ back)
    ≡ with_part (with_zeros (with_part (with_zeros old (place + length front)) place front) (place + length front + length back)) (place + length front) back
padded-joined old front back place =
    let n : ℕ = place + length front in
    let p : List ℕ = with_zeros old n in
    let zeros : List ℕ = replicate (n + length back - length p) 0 in
    let size : place + length (front ++ back) ≡ n + length back = omega (arith, length-append front back) in
    let long : n ≤ length p = padded-long old n in
    ap (λ k. with_part (with_zeros old k) place (front ++ back)) size
    ∙ ap (λ xs. with_part xs place (front ++ back)) (sym (padded-twice old n (n + length back) (omega arith)))
    ∙ replaced-joined p zeros front back place long
    ∙ ap (λ k. with_part (with_part p place front ++ replicate (n + length back - k) 0) n back) (sym (replaced-length p front place long))

overwritten-joined : (old : List ℕ) (place : ℕ) (front back : List ℕ) →
    with_written old place (front ++ back) ≡ with_written (with_written old place front) (place + length front) back
overwritten-joined old place [] back = let here : place ≡ place + 0 = omega arith in ap (λ k. with_written old k back) here
overwritten-joined old place (x ∷ xs) [] = ap (with_written old place) (append-nil (x ∷ xs))
overwritten-joined old place (x ∷ xs) (y ∷ ys) = padded-joined old (x ∷ xs) (y ∷ ys) place

-- ---- a slot that is written to twice

files-joined : (files : List StoredFile) (at place : ℕ) (front back : List ℕ) →
    let once : List StoredFile = with_bytes files at (with_written (bytes_at files at) place front) in
    with_bytes once at (with_written (bytes_at once at) (place + length front) back) ≡ with_bytes files at (with_written (bytes_at files at) place (front ++ back))
files-joined files at place front back = on (nat_lt at (length files)) refl
  where
    on : (b : Bool) → nat_lt at (length files) ≡ b →
        let once : List StoredFile = with_bytes files at (with_written (bytes_at files at) place front) in
        with_bytes once at (with_written (bytes_at once at) (place + length front) back) ≡ with_bytes files at (with_written (bytes_at files at) place (front ++ back))
    on true e =
        let there : at < length files = grind (arith, nat_tests) in
        let x : List ℕ = with_written (bytes_at files at) place front in
        ap (λ xs. with_bytes (with_bytes files at x) at (with_written xs (place + length front) back)) (at-home files [] x (Some at) there)
        ∙ put-put files [] x (with_written x (place + length front) back) (Some at) there
        ∙ ap (with_bytes files at) (sym (overwritten-joined (bytes_at files at) place front back))
    on false e =
        let past : length files ≤ at = grind (arith, nat_tests) in
        let same : (xs : List ℕ) → with_bytes files at xs ≡ files = λ xs. ap (changed_at files at xs) (slice_get_past files at past) in
        ap (λ fs. with_bytes fs at (with_written (bytes_at fs at) (place + length front) back)) (same (with_written (bytes_at files at) place front))
        ∙ same (with_written (bytes_at files at) (place + length front) back) ∙ sym (same (with_written (bytes_at files at) place (front ++ back)))

-- a slot that is open is one of the list
pub within : (slots : List Slot) (k : ℕ) (l : Lead) (mode : Mode) (place : ℕ) → unwrap_or (slice_get slots k) Closed ≡ Open l mode place → k < length slots
within slots k l mode place e = on (nat_lt k (length slots)) refl
  where
    on : (b : Bool) → nat_lt k (length slots) ≡ b → k < length slots
    on true t = grind (arith, nat_tests)
    on false t =
        let past : length slots ≤ k = grind (arith, nat_tests) in
        let closed : Closed ≡ Open l mode place = sym (ap (λ o. unwrap_or o Closed) (slice_get_past slots k past)) ∙ e in
        absurd (cc)

pub slot-set : (slots : List Slot) (k : ℕ) (s d : Slot) → k < length slots → unwrap_or (slice_get (slice_set slots k s) k) d ≡ s
slot-set slots k s d h = unwrap_or-slice_get (slice_set slots k s) k d ∙ get_or-set_same slots k s d h

write-open : (m : HostModel) (slot : ℕ) (from : List ℕ) (moved : ℕ) (l : Lead) (mode : Mode) (place : ℕ) → slot_at m slot ≡ Open l mode place → is_read_only mode ≡ false →
    write_piece slot from moved (still m) ≡ write_last moved (write_lead (still m) slot from l mode place)
unfolding write_answer
write-open m slot from moved l mode place e w =
    ap (λ s. write_last moved (write_to (still m) slot from s)) e ∙ ap (λ b. write_last moved (cond b (Err Misused, still m) (write_lead (still m) slot from l mode place))) w

lead-joined : (m : HostModel) (slot : ℕ) (front back : List ℕ) (moved more : ℕ) (l : Lead) (mode : Mode) (place : ℕ) → slot_at m slot ≡ Open l mode place → is_read_only mode ≡ false →
    write_next (write_piece slot back more) (write_last moved (write_lead (still m) slot front l mode place)) ≡ write_last moved (write_lead (still m) slot (front ++ back) l mode place)
lead-joined m slot front back moved more Input mode place e w = refl
lead-joined m slot front back moved more Output mode place e w =
    write-open (record m { output = m.output ++ front }) slot back more Output mode place e w ∙ ap (λ xs. (Whole, record (still m) { output = xs })) (append_assoc m.output front back)
lead-joined m slot front back moved more Errors mode place e w =
    write-open (record m { errors = m.errors ++ front }) slot back more Errors mode place e w ∙ ap (λ xs. (Whole, record (still m) { errors = xs })) (append_assoc m.errors front back)
lead-joined m slot front back moved more (File at) mode place e w =
    let to : ℕ → Slot = λ k. Open (File at) mode k in
    let once : List StoredFile = with_bytes m.files at (with_written (bytes_at m.files at) place front) in
    let size : place + length front + length back ≡ place + length (front ++ back) = omega (arith, length-append front back) in
    write-open (record m { files = once; slots = slice_set m.slots slot (to (place + length front)) }) slot back more (File at) mode (place + length front)
    (slot-set m.slots slot (to (place + length front)) Closed (within m.slots slot (File at) mode place e)) w
    ∙ ap (λ fs. (Whole, record (still m) { files = fs; slots = slice_set (slice_set m.slots slot (to (place + length front))) slot (to (place + length front + length back)) })) (files-joined m.files at place front back)
    ∙ ap (λ ss. (Whole, record (still m) { files = with_bytes m.files at (with_written (bytes_at m.files at) place (front ++ back)); slots = ss }))
    (set-set m.slots slot (to (place + length front)) (to (place + length front + length back)) ∙ ap (λ k. slice_set m.slots slot (to k)) size)

slot-joined : (m : HostModel) (slot : ℕ) (front back : List ℕ) (moved more : ℕ) (s : Slot) → slot_at m slot ≡ s →
    write_next (write_piece slot back more) (write_last moved (write_to (still m) slot front s)) ≡ write_last moved (write_to (still m) slot (front ++ back) s)
slot-joined m slot front back moved more Closed e = refl
slot-joined m slot front back moved more (Open l mode place) e = on (is_read_only mode) refl
  where
    on : (b : Bool) → is_read_only mode ≡ b →
        write_next (write_piece slot back more) (write_last moved (cond b (Err Misused, still m) (write_lead (still m) slot front l mode place)))
        ≡ write_last moved (cond b (Err Misused, still m) (write_lead (still m) slot (front ++ back) l mode place))
    on true w = refl
    on false w = lead-joined m slot front back moved more l mode place e w

-- two pieces
piece-joined : (m : HostModel) (slot : ℕ) (front back : List ℕ) (moved more : ℕ) → write_next (write_piece slot back more) (write_piece slot front moved (still m)) ≡ write_piece slot (front ++ back) moved (still m)
unfolding write_answer
piece-joined m slot front back moved more = slot-joined m slot front back moved more (slot_at m slot) refl

-- ---- no call is counted

last-case : (moved : ℕ) (r : Result (Unit {0}) HostFault) (m : HostModel) → m.failing ≡ [] → Steady (write_last moved (r, m)) (write_last moved (r, still m))
last-case moved (Ok u) m h = (refl, h)
last-case moved (Err e) m h = (refl, h)

piece-steady : (slot : ℕ) (piece : List ℕ) (moved : ℕ) (m : HostModel) → m.failing ≡ [] → Steady (write_piece slot piece moved m) (write_piece slot piece moved (still m))
piece-steady slot piece moved m h = then (write_last moved) (write_answer m slot piece) (write_answer (still m) slot piece) (last-case moved) (write-still m slot piece h)

next-case : (more : HostModel → Then Written) → ((m : HostModel) → m.failing ≡ [] → Steady (more m) (more (still m))) →
    (w : Written) (m : HostModel) → m.failing ≡ [] → Steady (write_next more (w, m)) (write_next more (w, still m))
next-case more f Whole m h = f m h
next-case more f (Short n) m h = (refl, h)
next-case more f OutOfMemory m h = (refl, h)

pieces-steady : (k slot : ℕ) (bytes : List ℕ) (moved : ℕ) (m : HostModel) → m.failing ≡ [] → Steady (write_pieces k slot bytes moved m) (write_pieces k slot bytes moved (still m))
unfolding write_pieces
pieces-steady zero slot bytes moved m h = piece-steady slot bytes moved m h
pieces-steady (suc k) slot bytes moved m h =
    then (write_next (write_pieces k slot (drop 4096 bytes) (moved + 4096))) (write_piece slot (take 4096 bytes) moved m) (write_piece slot (take 4096 bytes) moved (still m))
    (next-case (write_pieces k slot (drop 4096 bytes) (moved + 4096)) (λ n g. pieces-steady k slot (drop 4096 bytes) (moved + 4096) n g)) (piece-steady slot (take 4096 bytes) moved m h)

-- ---- all pieces

following : (more one : HostModel → Then Written) → ((n : HostModel) → more (still n) ≡ one (still n)) → (w : Written) (n : HostModel) → write_next more (w, still n) ≡ write_next one (w, still n)
following more one h Whole n = h n
following more one h (Short k) n = refl
following more one h OutOfMemory n = refl

pieces-joined : (k slot : ℕ) (bytes : List ℕ) (moved : ℕ) (m : HostModel) → write_pieces k slot bytes moved (still m) ≡ write_piece slot bytes moved (still m)
unfolding write_pieces
pieces-joined zero slot bytes moved m = refl
pieces-joined (suc k) slot bytes moved m =
    let first : List ℕ = take 4096 bytes in
    let others : List ℕ = drop 4096 bytes in
    let t : Then Written = write_piece slot first moved (still m) in
    let is : (t.0, still t.1) ≡ t = (piece-steady slot first moved (still m) refl).0 in
    ap (write_next (write_pieces k slot others (moved + 4096))) (sym is)
    ∙ following (write_pieces k slot others (moved + 4096)) (write_piece slot others (moved + 4096)) (λ n. pieces-joined k slot others (moved + 4096) n) t.0 t.1
    ∙ ap (write_next (write_piece slot others (moved + 4096))) is
    ∙ piece-joined m slot first others moved (moved + 4096)
    ∙ ap (λ xs. write_piece slot xs moved (still m)) (take-append-drop 4096 bytes)

-- what comes to the same in the still model
pub same-but_calls : {A : Type 0} (a b v : Then A) → Steady a v → Steady b v → SameButCalls a b
same-but_calls {A} a b v h k =
    let e = h.0 ∙ sym k.0 in
    record {
      answer = ap (λ (t : Then A). t.0) e;
      model = ap (λ (n : HostModel). unscheduled (record n { failing = [] })) (ap (λ (t : Then A). t.1) e);
      failing = h.1 ∙ sym k.1;
    }

pub written-joined : (slot : ℕ) (bytes : List ℕ) (m : HostModel) → m.failing ≡ [] → SameButCalls (written slot bytes m) (write_piece slot bytes 0 m)
written-joined slot bytes m h =
    let pieces = pieces-steady (whole_pieces (length bytes)) slot bytes 0 m h in
    same-but_calls (written slot bytes m) (write_piece slot bytes 0 m) (write_piece slot bytes 0 (still m))
    (pieces.0 ∙ pieces-joined (whole_pieces (length bytes)) slot bytes 0 m, pieces.1) (piece-steady slot bytes 0 m h)

pub pieces-one : (slot : ℕ) (bytes : List ℕ) (m : HostModel) → m.failing ≡ [] → SameButCalls (end_of host (moves.written slot bytes) m) (end_of host (moves.write_piece slot bytes 0) m)
pieces-one slot bytes m h = rw (written-same slot bytes m, piece-written-same slot bytes 0 m) (written-joined slot bytes m h)

pub ruleset joined = (pieces-one)
