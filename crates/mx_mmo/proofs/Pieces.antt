-- Reading goes on over more pieces.
use Rattle.std.proofs.Common.{◌≡◌, ℕ, zero, suc, ◌+◌, ◌<◌, ◌≤◌, length, List, [], ◌∷◌, ◌++◌, take, drop, get_or, arith, refl, sym, ◌∙◌, ap, Ok, Err, length-append, append_assoc, append-nil, false, add-one, add-zero, Result, nat_lt, rules}
use Rattle.mx_mmo.proofs.Words.{Object, TooLong, bytes-append, AreBytes, ReaderModel, limit, fresh, tail_of, Walk, passed_limit, pieces_within, with_rest, fed, items_of, left_of, object_of, object_after, with_tail, with_more, extended, Item, MmoFault, Start, concat, common_steps, nat_tests}
use Rattle.mx_mmo.proofs.Walks.{items-none, extends}

-- one piece more, and all pieces from those so far
pub concat-more : (pieces : List (List ℕ)) (i : ℕ) (d : List ℕ) → i < length pieces → concat (take (i + 1) pieces) ≡ concat (take i pieces) ++ get_or pieces i d
concat-more [] i d h = absurd (omega arith)
concat-more (p ∷ ps) zero d h = append-nil p
concat-more (p ∷ ps) (suc i) d h =
    rw add-one (ap (λ k. p ++ concat (take k ps)) (sym (add-one i)) ∙ ap (λ l. p ++ l) (concat-more ps i d (omega arith)) ∙ sym (append_assoc p (concat (take i ps)) (get_or ps i d)))

pub concat-rest : (pieces : List (List ℕ)) (i : ℕ) → concat pieces ≡ concat (take i pieces) ++ concat (drop i pieces)
concat-rest [] zero = refl
concat-rest (p ∷ ps) (suc i) = ap (λ l. p ++ l) (concat-rest ps i) ∙ sym (append_assoc p (concat (take i ps)) (concat (drop i ps)))
concat-rest pieces i = refl

pub nothing-yet : items_of Start 0 [] ≡ ([], Ok (left_of fresh))
nothing-yet = items-none Start 0 [] refl

pub goes-on : (front piece : List ℕ) (items : List Item) (m : ReaderModel) → items_of Start 0 front ≡ (items, Ok (left_of m)) →
    items_of Start 0 (front ++ piece) ≡ with_rest items (with_more m piece)
goes-on front piece items m h = extends Start 0 front piece ∙ ap (λ w. extended w piece) h

stays : (w : Walk) (rest : List ℕ) (fault : MmoFault) → w.1 ≡ Err fault → (extended w rest).1 ≡ Err fault
stays w rest fault h = cc

pub fault-stays : (front rest : List ℕ) (fault : MmoFault) → (items_of Start 0 front).1 ≡ Err fault → (items_of Start 0 (front ++ rest)).1 ≡ Err fault
fault-stays front rest fault h = ap (λ (w : Walk). w.1) (extends Start 0 front rest) ∙ stays (items_of Start 0 front) rest fault h

pub not-long : (bytes : List ℕ) → length bytes ≤ limit → object_of bytes ≡ object_after (items_of Start 0 bytes).0 (items_of Start 0 bytes).1
not-long bytes h = let e : nat_lt limit (length bytes) ≡ false = grind (arith, nat_tests) in rw e refl

pub object-of-all : (bytes : List ℕ) (items : List Item) (m : ReaderModel) → items_of Start 0 bytes ≡ (items, Ok (left_of m)) → length bytes ≤ limit →
    object_of bytes ≡ with_tail items (tail_of m.phase m.at m.rest)
object-of-all bytes items m h l = not-long bytes l ∙ ap (λ (w : Walk). object_after w.0 w.1) h

pub length-of-piece : (pieces : List (List ℕ)) (i : ℕ) (piece d : List ℕ) → i < length pieces → piece ≡ get_or pieces i d →
    length (concat (take (i + 1) pieces)) ≡ length (concat (take i pieces)) + length piece
length-of-piece pieces i piece d l is = cc (concat-more pieces i d l, length-append (concat (take i pieces)) piece)

within-from : (n i : ℕ) (pieces : List (List ℕ)) → n + length (concat (take i pieces)) ≤ limit →
    pieces_within n pieces ≡ concat (take i pieces) ++ pieces_within (n + length (concat (take i pieces))) (drop i pieces)
within-from n zero pieces l = ap (λ (k : ℕ). pieces_within k pieces) (sym (add-zero n))
within-from n (suc i) [] l = ap (λ (k : ℕ). pieces_within k []) (sym (add-zero n))
within-from n (suc i) (p ∷ ps) l =
    grind (arith, common_steps, nat_tests, within-from (n + length p) i ps (omega (arith, (length-append p (concat (take i ps))))))

within-passed : (n i : ℕ) (pieces : List (List ℕ)) (d : List ℕ) → i < length pieces → limit < n + length (get_or pieces i d) → pieces_within n (drop i pieces) ≡ []
within-passed n zero (p ∷ ps) d l h = grind arith
within-passed n (suc i) (p ∷ ps) d l h = within-passed n i ps d (omega arith) h
within-passed n i [] d l h = absurd (omega arith)

-- the fault of an item in the pieces so far, whatever follows
item-fault : (bytes : List ℕ) (fault : MmoFault) → (items_of Start 0 bytes).1 ≡ Err fault → length bytes ≤ limit → object_of bytes ≡ Err fault
item-fault bytes fault h l = not-long bytes l ∙ ap (object_after (items_of Start 0 bytes).0) h

fault-here : (pieces : List (List ℕ)) (i : ℕ) (piece d : List ℕ) (items : List Item) (m : ReaderModel) (fault : MmoFault) → i < length pieces → piece ≡ get_or pieces i d →
    items_of Start 0 (concat (take i pieces)) ≡ (items, Ok (left_of m)) → (with_rest items (with_more m piece)).1 ≡ Err fault →
    (items_of Start 0 (concat (take (i + 1) pieces))).1 ≡ Err fault
fault-here pieces i piece d items m fault l is same h = cc (concat-more pieces i d l, goes-on (concat (take i pieces)) piece items m same)

fault-after : (front rest whole : List ℕ) (fault : MmoFault) → whole ≡ front ++ rest → (items_of Start 0 front).1 ≡ Err fault → (items_of Start 0 whole).1 ≡ Err fault
fault-after front rest whole fault e h = ap (λ (b : List ℕ). (items_of Start 0 b).1) e ∙ fault-stays front rest fault h

pub exact-fault : (pieces : List (List ℕ)) (i : ℕ) (piece d : List ℕ) (items : List Item) (m : ReaderModel) (fault : MmoFault) → i < length pieces → piece ≡ get_or pieces i d →
    items_of Start 0 (concat (take i pieces)) ≡ (items, Ok (left_of m)) → (with_rest items (with_more m piece)).1 ≡ Err fault →
    length (concat pieces) ≤ limit → Err fault ≡ object_of (concat pieces)
exact-fault pieces i piece d items m fault l is same h most =
    sym (item-fault (concat pieces) fault
    (fault-after (concat (take (i + 1) pieces)) (concat (drop (i + 1) pieces)) (concat pieces) fault (concat-rest pieces (i + 1)) (fault-here pieces i piece d items m fault l is same h)) most)

pub long-fault : (pieces : List (List ℕ)) (i : ℕ) (piece d : List ℕ) (items : List Item) (m : ReaderModel) (fault : MmoFault) → i < length pieces → piece ≡ get_or pieces i d →
    items_of Start 0 (concat (take i pieces)) ≡ (items, Ok (left_of m)) → (with_rest items (with_more m piece)).1 ≡ Err fault →
    length (concat (take (i + 1) pieces)) ≤ limit → Err fault ≡ passed_limit (items_of Start 0 (pieces_within 0 pieces)).1
long-fault pieces i piece d items m fault l is same h most =
    let front = concat (take (i + 1) pieces) in
    sym (ap passed_limit (fault-after front (pieces_within (0 + length front) (drop (i + 1) pieces)) (pieces_within 0 pieces) fault (within-from 0 (i + 1) pieces (omega arith))
    (fault-here pieces i piece d items m fault l is same h)))

pub long-passed : (pieces : List (List ℕ)) (i : ℕ) (piece d : List ℕ) (items : List Item) (m : ReaderModel) → i < length pieces → piece ≡ get_or pieces i d →
    items_of Start 0 (concat (take i pieces)) ≡ (items, Ok (left_of m)) → fed m ≡ length (concat (take i pieces)) → fed m ≤ limit → limit < fed m + length piece →
    ◌≡◌ {A = Result Object MmoFault} (Err (TooLong limit)) (passed_limit (items_of Start 0 (pieces_within 0 pieces)).1)
long-passed pieces i piece d items m l is same end most far =
    let front = concat (take i pieces) in
    let p : length (get_or pieces i d) ≡ length piece = ap (λ (x : List ℕ). length x) (sym is) in
    let all : pieces_within 0 pieces ≡ front =
    within-from 0 i pieces (omega (arith, end)) ∙ ap (λ x. front ++ x) (within-passed (0 + length front) i pieces d l (omega (arith, end, p))) ∙ append-nil front in
    sym (ap (λ (b : List ℕ). passed_limit (items_of Start 0 b).1) all ∙ ap (λ (w : Walk). passed_limit w.1) same)

-- where a piece passes the limit, all pieces do
pub not-passed : (pieces : List (List ℕ)) (i : ℕ) (piece d : List ℕ) (m : ReaderModel) → i < length pieces → piece ≡ get_or pieces i d → fed m ≡ length (concat (take i pieces)) →
    length (concat pieces) ≤ limit → fed m + length piece ≤ limit
not-passed pieces i piece d m l is end most =
    let grown = length-of-piece pieces i piece d l is in
    let all = ap (λ (b : List ℕ). length b) (concat-rest pieces (i + 1)) ∙ length-append (concat (take (i + 1) pieces)) (concat (drop (i + 1) pieces)) in
    omega (arith, grown, all, end)

-- the items up to the end of a piece
pub items-of-piece : (pieces : List (List ℕ)) (i : ℕ) (piece d : List ℕ) (items more : List Item) (m n : ReaderModel) → i < length pieces → piece ≡ get_or pieces i d →
    items_of Start 0 (concat (take i pieces)) ≡ (items, Ok (left_of m)) → with_rest items (with_more m piece) ≡ (more, Ok (left_of n)) →
    items_of Start 0 (concat (take (i + 1) pieces)) ≡ (more, Ok (left_of n))
items-of-piece pieces i piece d items more m n l is same h =
    cc (concat-more pieces i d l, goes-on (concat (take i pieces)) piece items m same)

pub all-pieces : (pieces : List (List ℕ)) (i : ℕ) → length pieces ≤ i → concat (take i pieces) ≡ concat pieces
all-pieces pieces i h = let whole : take i pieces ≡ pieces = grind (arith, common_steps) in ap concat whole

-- what holds of each byte of the pieces
pub bytes-of-piece : (pieces : List (List ℕ)) (i : ℕ) (piece d : List ℕ) → i < length pieces → piece ≡ get_or pieces i d →
    AreBytes (concat (take i pieces)) → AreBytes piece → AreBytes (concat (take (i + 1) pieces))
bytes-of-piece pieces i piece d l is p q = search (rules, concat-more, bytes-append)

pub all-bytes : (pieces : List (List ℕ)) (i : ℕ) → length pieces ≤ i → AreBytes (concat (take i pieces)) → AreBytes (concat pieces)
all-bytes pieces i h b = rw (← all-pieces pieces i h) b
