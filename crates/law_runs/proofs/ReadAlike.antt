-- A short source is read alike in few pieces and in many.
use Rattle.std.proofs.Common.{◌≡◌, ℕ, zero, suc, ◌+◌, ◌*◌, ◌≤◌, ◌<◌, ◌^◌, ◌==◌, Bool, true, false, List, [], ◌++◌, length, length-append, Result, Ok, Err, arith, refl, sym, ap, ◌∙◌}
use Rattle.std.proofs.lemmas.Bool.Decides.{nat_tests}
use Rattle.mx_host.specs.HostModel.{HostModel}
use Rattle.mx_host.specs.HostAnswer.{Then, close_answer, open_answer, read_answer}
use Rattle.mx_host.specs.declared.faults.HostFault.{HostFault}
use Rattle.mx_host.specs.declared.faults.OpenFault.{OpenFault}
use Rattle.mx_host.specs.declared.faults.OpenFault.TheVariants as opening
use Rattle.mx_host.specs.declared.slots.Mode.TheVariants.{BinaryRead}
use Rattle.mx_outcome.specs.declared.outcome.Outcome.{Outcome}
use Rattle.mx_plan.specs.Calls.{host, need}
use Rattle.mx_plan.specs.Plan.{returns, bind, end_of, end_after}
use Rattle.mx_plan.proofs.Plans.{end_returns}
use Rattle.mx_files.specs.FilePlans.{Part, on_ok, piece_added, read_next, read_pieces, then_closed, read_open}
use Rattle.mx_files.specs.Source.{file_bytes, object_pieces, source_pieces}
use Rattle.mx_files.proofs.FileEnds.{then_carried, pieces-by, then-by, open-by, input_after, file-by}

abbrev Reading : Type 0
Reading = Then (Result (List ℕ) Outcome)

-- a pair with a fault is no pair with bytes
no-bytes : (e : Outcome) (m n : HostModel) (source : List ℕ) (A : Type 0) → ◌≡◌ {A = Reading} (Err e, m) (Ok source, n) → A
no-bytes e m n source A same = let faulty : ◌≡◌ {A = Result (List ℕ) Outcome} (Err e) (Ok source) = ap (λ (t : Reading). t.0) same in absurd (cc)

-- a piece that came, or none, and what follows it
abbrev then_next : (List ℕ → Part (List ℕ)) → List ℕ → Then (Result (List ℕ) HostFault) → Reading
then_next more got t = end_after host (on_ok (read_next more)) (end_after host (piece_added got) t)

next-more : (few many : List ℕ → Part (List ℕ)) (got : List ℕ) (t : Then (Result (List ℕ) HostFault)) (n : HostModel) (source : List ℕ) →
    ((piece : List ℕ) (m : HostModel) → length piece == 4096 ≡ true → end_of host (few (got ++ piece)) m ≡ (Ok source, n) → end_of host (many (got ++ piece)) m ≡ (Ok source, n)) →
    then_next few got t ≡ (Ok source, n) → then_next many got t ≡ (Ok source, n)
unfolding bind need end_of host
next-more few many got (Err e, m) n source more is = is
next-more few many got (Ok piece, m) n source more is = by (length piece == 4096) (more piece m) is
  where
    by : (whole : Bool) → (whole ≡ true → end_of host (few (got ++ piece)) m ≡ (Ok source, n) → end_of host (many (got ++ piece)) m ≡ (Ok source, n)) →
        end_of host (on_ok (read_next few) (Ok (got ++ piece, whole))) m ≡ (Ok source, n) → end_of host (on_ok (read_next many) (Ok (got ++ piece, whole))) m ≡ (Ok source, n)
    by true more is = more refl is
    by false more is = is

longer : (got piece source k : ℕ) → (piece == 4096) ≡ true → source < got + 4096 * suc k → source < (got + piece) + 4096 * k
longer got piece source k e h = grind (arith, nat_tests)

none-read : (got : List ℕ) (m : HostModel) → end_of host (read_pieces 0 got) m ≡ (Ok got, m)
unfolding read_pieces end_of
none-read got m = refl

pieces-more : (few many : ℕ) (got source : List ℕ) (m n : HostModel) → few ≤ many → length source < length got + 4096 * few → end_of host (read_pieces few got) m ≡ (Ok source, n) → end_of host (read_pieces many got) m ≡ (Ok source, n)
pieces-more zero many got source m n h short is =
    let same : ◌≡◌ {A = Result (List ℕ) Outcome} (Ok got) (Ok source) = ap (λ (t : Reading). t.0) (sym (none-read got m) ∙ is) in
    let long : length got ≡ length source = ap length (cc same) in
    absurd (omega (arith, short, long))
pieces-more (suc few) zero got source m n h short is = absurd (omega (arith, h))
pieces-more (suc few) (suc many) got source m n h short is =
    pieces-by many got m
    ∙ next-more (read_pieces few) (read_pieces many) got (read_answer m 256 4096) n source
    (λ piece k whole. pieces-more few many (got ++ piece) source k n (omega (arith, h))
    (let long : length (got ++ piece) ≡ length got + length piece = length-append got piece in rw long (longer (length got) (length piece) (length source) few whole short))) (sym (pieces-by few got m) ∙ is)

-- ---- the file

abbrev closed_with : List ℕ → Then (Result (Unit {0}) HostFault) → Reading
closed_with bytes t = end_after host (on_ok (λ u. returns (Ok bytes))) (then_carried t)

closed-bytes : (bytes source : List ℕ) (n : HostModel) (t : Then (Result (Unit {0}) HostFault)) → closed_with bytes t ≡ (Ok source, n) → bytes ≡ source
unfolding end_of
closed-bytes bytes source n (Err e, m) is = let same : ◌≡◌ {A = Result (List ℕ) Outcome} (Err _) (Ok source) = ap (λ (t : Reading). t.0) is in absurd (cc)
closed-bytes bytes source n (Ok u, m) is = let same : ◌≡◌ {A = Result (List ℕ) Outcome} (Ok bytes) (Ok source) = ap (λ (t : Reading). t.0) is in cc same

closed-more : (t u : Reading) (source : List ℕ) (n : HostModel) → ((m : HostModel) → t ≡ (Ok source, m) → u ≡ (Ok source, m)) →
    end_after host (on_ok then_closed) t ≡ (Ok source, n) → end_after host (on_ok then_closed) u ≡ (Ok source, n)
closed-more (Err e, m) u source n more is = no-bytes e m n source _ (sym (end_returns host (Err e) m) ∙ is)
closed-more (Ok bytes, m) u source n more is =
    let same = closed-bytes bytes source n (close_answer m 256) (sym (then-by bytes m) ∙ is) in
    let reads : ◌≡◌ {A = Reading} (Ok bytes, m) (Ok source, m) = λ i. (Ok (same i), m) in
    ap (end_after host (on_ok then_closed)) (more m reads) ∙ ap (end_after host (on_ok then_closed)) (sym reads) ∙ is

read-more : (t : Then (Result (Unit {0}) OpenFault)) (source : List ℕ) (n : HostModel) → length source ≤ 2 ^ 22 → end_after host (on_ok (λ u. read_open source_pieces)) (input_after t) ≡ (Ok source, n) →
    end_after host (on_ok (λ u. read_open object_pieces)) (input_after t) ≡ (Ok source, n)
read-more (Err opening.Absent, m) source n short is = is
read-more (Err opening.Failed, m) source n short is = is
read-more (Err opening.OutOfMemory, m) source n short is = is
read-more (Ok u, m) source n short is =
    open-by object_pieces m
    ∙ closed-more (end_of host (read_pieces source_pieces []) m) (end_of host (read_pieces object_pieces []) m) source n
    (λ k. pieces-more source_pieces object_pieces [] source m k (omega arith) (omega (arith, short))) (sym (open-by source_pieces m) ∙ is)

pub short-alike : (name source : List ℕ) (m n : HostModel) → length source ≤ 2 ^ 22 → file_bytes source_pieces name m ≡ (Ok source, n) → file_bytes object_pieces name m ≡ (Ok source, n)
short-alike name source m n short is = file-by object_pieces name m ∙ read-more (open_answer m 256 name BinaryRead) source n short (sym (file-by source_pieces name m) ∙ is)
