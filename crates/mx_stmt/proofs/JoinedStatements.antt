-- What a statement places, with its targets known and with none.
use Rattle.std.proofs.Common.{ℕ, Option, refl, ap, arith, append-nil, rules}
use Rattle.mx_stmt.proofs.Words.{Data, Tetra, Label, Placed, Answer, AreAlike, Known, Targets, no_targets, StatementTree, with_bytes, tetra_waits, tetra_data, with_tetra, with_data, encoding, IsFixed, IsOperation, IsSound}
use Rattle.mx_stmt.proofs.Alike.{alike-fault, alike-values, alike-after}
use Rattle.mx_stmt.proofs.JoinedTetras.{IsJoined, alike-none, coded-joined}
use Rattle.mx_stmt.proofs.EveryStatement.{at_place, every-statement}
use Rattle.mx_stmt.proofs.SilentStatements.{AreSilent}
use Rattle.mx_stmt.proofs.JoinedData.{IsJoinedData, form-joined as data-joined}

bytes-joined : (t : Targets) (k : Known) (label : Option Label) (before after : Data) → IsJoinedData t k.at before after → AreAlike (IsFixed t) (with_bytes k label before) (with_bytes k label after)
unfolding AreAlike
bytes-joined t k label before after is = grind arith

tetra-joined : (t : Targets) (k : Known) (line : ℕ) (label : Option Label) (a b : Answer Tetra) → AreAlike (IsJoined t line k.at) a b → AreAlike (IsFixed t) (with_tetra k line label a) (with_tetra k line label b)
tetra-joined t k line label a b is =
    alike-after (IsFixed t) (IsJoined t line k.at) a b (λ tetra. with_bytes k label (tetra_data line k.at tetra)) (λ tetra. with_bytes k label (tetra_data line k.at tetra)) is (λ x y joined.
    bytes-joined t k label (tetra_data line k.at x) (tetra_data line k.at y) (record { count = refl; waits = ap (tetra_waits line k.at) joined.wait; bytes = λ fits. joined.bytes }))

data-placed : (t : Targets) (k : Known) (label : Option Label) (a b : Answer Data) → AreAlike (IsJoinedData t k.at) a b → AreAlike (IsFixed t) (with_data k label a) (with_data k label b)
data-placed t k label a b is = search (rules, alike-after, bytes-joined)

-- ---- statements that place no bytes

same : (t : Targets) (k : Known) (a : Answer Placed) → AreSilent k a → AreAlike (IsFixed t) a a
unfolding AreSilent
same t k a h = search (rules, alike-fault, alike-values, append-nil)

-- ---- all statements

pub encoding-joined : (t : Targets) (k : Known) (s : StatementTree) → IsOperation s.op → IsSound k → AreAlike (IsFixed t) (encoding no_targets k s) (encoding t k s)
encoding-joined t k s operation sound =
    let here = at_place k s in
    every-statement k s (λ f. AreAlike (IsFixed t) (f no_targets) (f t)) (same t here)
    (λ size es small eights. data-placed t here s.label _ _ (data-joined t here s.line size es small))
    (λ shapes code l fours even. tetra-joined t here s.line s.label _ _
    (coded-joined t here s.line code shapes l (record { symbols = sound.symbols; backs = sound.backs; gregs = sound.gregs }) (even operation)))
    (λ a fours none. tetra-joined t here s.line s.label a a (alike-none t s.line here.at a none))
