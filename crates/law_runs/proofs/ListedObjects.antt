-- Objects that are listed.
use Rattle.std.proofs.Common.{◌≡◌, ◌≢◌, ℕ, ◌<◌, List, [], ◌∷◌, ◌++◌, map, length, Bool, true, false, cond, Option, Result, Ok, Err, refl, sym, ◌∙◌, ap, subst, append_assoc, arith}
use Rattle.std.specs.Prelude.{nat_lt}
use Rattle.std.specs.List.{concat, flat_map}
use Rattle.std.proofs.lemmas.Bool.Decides.{nat_tests}
use Rattle.mx_word.specs.Ranges.{AreBytes}
use Rattle.mx_word.specs.declared.symbols.Symbol.{Symbol}
use Rattle.mx_host.specs.HostModel.{HostModel, contents}
use Rattle.mx_host.proofs.Start.{slot_at-start_output}
use Rattle.mx_host.proofs.Still.{still}
use Rattle.mx_mmo.specs.Replies.{limit, tail_of}
use Rattle.mx_mmo.specs.Valid.{Valid}
use Rattle.mx_mmo.specs.Whole.{Walk, items_of, object_of, object_after, with_tail}
use Rattle.mx_mmo.specs.declared.due.Phase.TheVariants.{Start}
use Rattle.mx_mmo.specs.declared.faults.MmoFault.{MmoFault}
use Rattle.mx_mmo.specs.declared.faults.MmoFault.TheVariants.{TooLong}
use Rattle.mx_mmo.specs.declared.items.Item.{Item}
use Rattle.mx_mmo.specs.declared.items.Object.{Object}
use Rattle.mx_mmo.specs.declared.items.Tail.{Tail}
use Rattle.mx_mmo.specs.Object.{IsObject}
use Rattle.mx_mmo.specs.Tetras.{wide_lop}
use Rattle.mx_mmo.proofs.Sound.{left-bytes, object-sound}
use Rattle.mx_plan.specs.Counts.{unscheduled}
use Rattle.mx_plan.proofs.Spared.{uncalled}
use Rattle.mx_plan.specs.Wild.{ends}
use Rattle.mx_run.specs.WildRuns.{MachineKind, window_machine}
use Rattle.mx_stab.specs.Grammar.{IsTrie}
use Rattle.mx_stab.specs.Reading.{trie_answer}
use Rattle.mx_stab.specs.declared.faults.StabFault.{StabFault}
use Rattle.mx_stab.proofs.Sound.{read-trie}
use Rattle.mx_stab.proofs.Whole.{trie-read}
use Rattle.mx_type.specs.Lambda.{lambda_after}
use Rattle.mx_type.specs.Lines.{ended, stab_line, symbol_line}
use Rattle.mx_type.specs.Listing.{IsListing}
use Rattle.mx_type.specs.Texts.{item_text, items_text, tail_text, listing_text}
use Rattle.mx_type.proofs.Listed.{all-listed}
use Rattle.mx_type.proofs.Once.{items-once, trie-once}
use Rattle.mx_words.specs.declared.order.Command.TheVariants.{Show}
use Rattle.mx_words.specs.declared.order.Order.{Order}
use Rattle.mx_files.specs.Answers.{Answer, plainly}
use Rattle.mx_files.proofs.FileEnds.{listed-by}
use Rattle.mx_begin.specs.Arguments.{Word, word_at}
use Rattle.mx_top.specs.Product.{ordered_plan, product}
use Rattle.mx_top.specs.Telling.{with_message}
use Rattle.mx_files.specs.ObjectPlans.{list_plan}
use Rattle.mx_files.specs.Source.{object_pieces}
use Rattle.mx_files.specs.Typed.{Typed, shown, item_lines, tail_lines, trie_typed, tail_typed, unread, unread_trie, with_lines_first, walk_typed, typed}
use Rattle.mx_outcome.specs.declared.outcome.Outcome.{Outcome}
use Rattle.mx_outcome.specs.declared.outcome.Outcome.TheVariants.{Done, OutOfMemory}
use Rattle.law_runs.specs.Called.{IsCalled, NoCallFails}
use Rattle.law_runs.specs.Complete.{IsOrdered, IsThere, with_output}
use Rattle.law_runs.specs.Detour.{answer_unscheduled}
use Rattle.law_runs.proofs.Completed.{order-is, host-answer}
use Rattle.law_runs.proofs.CompletedFiles.{there-read, lines-still}
use Rattle.law_runs.proofs.SparedPrograms.{Answers, carried-as, message-answers, called}
use Rattle.law_runs.proofs.SteadyProduct.{SparedAnswers, message-steady}

-- ---- lines that are joined

shown-joined : (text more : List ℕ) (lines : List (List ℕ)) → concat lines ≡ more → concat (shown text ++ lines) ≡ text ++ more
shown-joined [] more lines e = e
shown-joined (b ∷ text) more lines e = ap (λ m. (b ∷ text) ++ m) e

concat-append : (xs ys : List (List ℕ)) → concat (xs ++ ys) ≡ concat xs ++ concat ys
concat-append [] ys = refl
concat-append (x ∷ xs) ys = ap (λ t. x ++ t) (concat-append xs ys) ∙ sym (append_assoc x (concat xs) (concat ys))

pub items-joined : (lambda : ℕ) (items : List Item) → concat (item_lines lambda items) ≡ items_text lambda items
unfolding item_lines items_text
items-joined lambda [] = refl
items-joined lambda (item ∷ items) =
    shown-joined (item_text lambda item) (items_text (lambda_after lambda item) items) (item_lines (lambda_after lambda item) items) (items-joined (lambda_after lambda item) items)

symbols-joined : (symbols : List Symbol) → concat (map (λ s. ended (symbol_line s)) symbols) ≡ flat_map (λ s. ended (symbol_line s)) symbols
symbols-joined [] = refl
symbols-joined (s ∷ symbols) = ap (λ t. ended (symbol_line s) ++ t) (symbols-joined symbols)

tail-joined : (trie : List ℕ) (symbols : List Symbol) → concat (tail_lines trie symbols) ≡ tail_text trie symbols
tail-joined trie symbols = ap (λ t. ended (stab_line trie) ++ t) (symbols-joined symbols)

all-joined : (items : List Item) (trie : List ℕ) (symbols : List Symbol) → concat (item_lines 0 items ++ tail_lines trie symbols) ≡ listing_text items trie symbols
all-joined items trie symbols =
    concat-append (item_lines 0 items) (tail_lines trie symbols)
    ∙ ap (λ t. t ++ concat (tail_lines trie symbols)) (items-joined 0 items)
    ∙ ap (λ t. items_text 0 items ++ t) (tail-joined trie symbols)

-- ---- what is written, by what the bytes are

tail-typed : (items : List Item) (r : Result Tail MmoFault) (object : Object) → with_tail items r ≡ Ok object →
    with_lines_first (item_lines 0 items) (tail_typed r) ≡ with_lines_first (item_lines 0 object.items) (tail_typed (Ok object.tail))
tail-typed items (Ok tail) object e =
    let is : record { items = items; tail = tail } ≡ object = cc in
    ap (λ (o : Object). with_lines_first (item_lines 0 o.items) (tail_typed (Ok o.tail))) is
tail-typed items (Err fault) object e = absurd (cc)

walk-typed : (w : Walk) (object : Object) → object_after w.0 w.1 ≡ Ok object → walk_typed 0 w ≡ with_lines_first (item_lines 0 object.items) (tail_typed (Ok object.tail))
walk-typed (items, Ok left) object e = tail-typed items (tail_of left.phase left.at left.rest) object e
walk-typed (items, Err fault) object e = absurd (cc)

either-object : (b : Bool) (long : MmoFault) (w : Walk) (object : Object) → cond b (Err long) (object_after w.0 w.1) ≡ Ok object →
    cond b ([], unread long) (walk_typed 0 w) ≡ with_lines_first (item_lines 0 object.items) (tail_typed (Ok object.tail))
either-object true long w object e = absurd (cc)
either-object false long w object e = walk-typed w object e

pub object-typed : (bytes : List ℕ) (object : Object) → object_of bytes ≡ Ok object → typed bytes ≡ with_lines_first (item_lines 0 object.items) (tail_typed (Ok object.tail))
unfolding typed
object-typed bytes object e = either-object (nat_lt limit (length bytes)) (TooLong limit) (items_of Start 0 bytes) object e

tail-fault : (items : List Item) (r : Result Tail MmoFault) (fault : MmoFault) → with_tail items r ≡ Err fault → (tail_typed r).1 ≡ unread fault
tail-fault items (Ok tail) fault e = absurd (cc)
tail-fault items (Err other) fault e = let is : other ≡ fault = cc in ap unread is

walk-fault : (w : Walk) (fault : MmoFault) → object_after w.0 w.1 ≡ Err fault → (walk_typed 0 w).1 ≡ unread fault
walk-fault (items, Ok left) fault e = tail-fault items (tail_of left.phase left.at left.rest) fault e
walk-fault (items, Err other) fault e = let is : other ≡ fault = cc in ap unread is

either-fault : (b : Bool) (long : MmoFault) (w : Walk) (fault : MmoFault) → ◌≡◌ {A = Result Object MmoFault} (cond b (Err long) (object_after w.0 w.1)) (Err fault) →
    ◌≡◌ {A = Outcome} (cond b ([], unread long) (walk_typed 0 w)).1 (unread fault)
either-fault true long w fault e = let is : long ≡ fault = cc in ap unread is
either-fault false long w fault e = walk-fault w fault e

pub fault-typed : (bytes : List ℕ) (fault : MmoFault) → object_of bytes ≡ Err fault → (typed bytes).1 ≡ unread fault
unfolding typed
fault-typed bytes fault e = either-fault (nat_lt limit (length bytes)) (TooLong limit) (items_of Start 0 bytes) fault e

pub trie-fault : (bytes : List ℕ) (object : Object) (fault : StabFault) → object_of bytes ≡ Ok object → trie_answer object.tail.trie ≡ Err fault →
    (typed bytes).1 ≡ unread_trie object.tail.place fault
trie-fault bytes object fault e f =
    ap (λ (t : Typed). t.1) (object-typed bytes object e) ∙ ap (λ r. (trie_typed object.tail.place object.tail.trie r).1) f

either-long : (b : Bool) (x y : Typed) → b ≡ true → x.0 ≡ [] → (cond b x y).0 ≡ []
either-long true x y h e = e
either-long false x y h e = absurd (cc)

is-long : (n : ℕ) → limit < n → nat_lt limit n ≡ true
is-long n h = grind (arith, nat_tests)

pub long-typed : (bytes : List ℕ) → limit < length bytes → (typed bytes).0 ≡ []
unfolding typed
long-typed bytes h = either-long (nat_lt limit (length bytes)) ([], unread (TooLong limit)) (walk_typed 0 (items_of Start 0 bytes)) (is-long (length bytes) h) refl

either-outcome : (b : Bool) (x y : Typed) → b ≡ true → (cond b x y).1 ≡ x.1
either-outcome true x y h = refl
either-outcome false x y h = absurd (cc)

pub long-outcome : (bytes : List ℕ) → limit < length bytes → (typed bytes).1 ≡ unread (TooLong limit)
unfolding typed
long-outcome bytes h = either-outcome (nat_lt limit (length bytes)) ([], unread (TooLong limit)) (walk_typed 0 (items_of Start 0 bytes)) (is-long (length bytes) h)

-- ---- the listing

pub listing-typed : (bytes : List ℕ) (object : Object) (symbols : List Symbol) → object_of bytes ≡ Ok object → IsTrie object.tail.trie symbols →
    ((typed bytes).1 ≡ Done 0) × IsListing (concat (typed bytes).0) object.items object.tail.trie
listing-typed bytes object symbols e h =
    let is : typed bytes ≡ (item_lines 0 object.items ++ tail_lines object.tail.trie symbols, Done 0) =
    object-typed bytes object e ∙ ap (λ r. with_lines_first (item_lines 0 object.items) (trie_typed object.tail.place object.tail.trie r)) (trie-read object.tail.trie symbols h) in (
      ap (λ (t : Typed). t.1) is,
      all-listed (concat (typed bytes).0) object.items object.tail.trie symbols h
          (ap (λ (t : Typed). concat t.0) is ∙ all-joined object.items object.tail.trie symbols),
    )

front-bytes : (xs ys : List ℕ) → AreBytes (xs ++ ys) → AreBytes xs
front-bytes [] ys b = tt
front-bytes (x ∷ xs) ys b = (b.0, front-bytes xs ys b.1)

-- the trie of an object of bytes has bytes
object-trie : (bytes : List ℕ) (object : Object) → AreBytes bytes → object_of bytes ≡ Ok object → AreBytes object.tail.trie
object-trie bytes object b e =
    let spelled : IsObject bytes object.items object.tail.trie = (object-sound bytes object b e).spelled in
    let whole : bytes ≡ spelled.front ++ (object.tail.trie ++ wide_lop 12 spelled.count) =
    spelled.whole ∙ append_assoc spelled.front object.tail.trie (wide_lop 12 spelled.count) in
    front-bytes object.tail.trie (wide_lop 12 spelled.count) (left-bytes spelled.front (object.tail.trie ++ wide_lop 12 spelled.count) bytes whole b)

abbrev IsDone : List ℕ → Type 0
IsDone bytes = (object : Object) × (object_of bytes ≡ Ok object) × IsListing (concat (typed bytes).0) object.items object.tail.trie

done-trie : (bytes : List ℕ) (object : Object) → AreBytes object.tail.trie → object_of bytes ≡ Ok object → (r : Result (List Symbol) StabFault) → trie_answer object.tail.trie ≡ r →
    (typed bytes).1 ≡ Done 0 → IsDone bytes
done-trie bytes object b e (Ok symbols) f h = (object, e, (listing-typed bytes object symbols e (read-trie object.tail.trie symbols b f)).1)
done-trie bytes object b e (Err fault) f h = let is = trie-fault bytes object fault e f in absurd (cc)

done-by : (bytes : List ℕ) → AreBytes bytes → (r : Result Object MmoFault) → object_of bytes ≡ r → (typed bytes).1 ≡ Done 0 → IsDone bytes
done-by bytes b (Ok object) e h = done-trie bytes object (object-trie bytes object b e) e (trie_answer object.tail.trie) refl h
done-by bytes b (Err fault) e h = let is = fault-typed bytes fault e in absurd (cc)

pub done-typed : (bytes : List ℕ) → AreBytes bytes → (typed bytes).1 ≡ Done 0 → IsDone bytes
done-typed bytes b h = done-by bytes b (object_of bytes) refl h

-- ---- one listing, one object

listed-of : (bytes : List ℕ) (object : Object) → AreBytes bytes → object_of bytes ≡ Ok object → (typed bytes).1 ≡ Done 0 → IsListing (concat (typed bytes).0) object.items object.tail.trie
listed-of bytes object b e h =
    let found : IsDone bytes = done-typed bytes b h in
    let same : ◌≡◌ {A = Result Object MmoFault} (Ok found.0) (Ok object) = sym found.1 ∙ e in
    let is : found.0 ≡ object = cc in
    subst (λ (o : Object). IsListing (concat (typed bytes).0) o.items o.tail.trie) is found.2

pub once-typed : (bytes others : List ℕ) (object other : Object) → AreBytes bytes → AreBytes others → object_of bytes ≡ Ok object → object_of others ≡ Ok other →
    (typed bytes).1 ≡ Done 0 → (typed others).1 ≡ Done 0 → concat (typed bytes).0 ≡ concat (typed others).0 →
    (object.items ≡ other.items) × (object.tail.trie ≡ other.tail.trie)
once-typed bytes others object other b c e f h k same =
    let v : Valid object.items = (object-sound bytes object b e).spelled.valid in
    let w : Valid other.items = (object-sound others other c f).spelled.valid in
    let one : IsListing (concat (typed bytes).0) object.items object.tail.trie = listed-of bytes object b e h in
    let two : IsListing (concat (typed bytes).0) other.items other.tail.trie =
    subst (λ (t : List ℕ). IsListing t other.items other.tail.trie) (sym same) (listed-of others other c f k) in (
      items-once (concat (typed bytes).0) object.items other.items object.tail.trie other.tail.trie v w one two,
      trie-once (concat (typed bytes).0) object.items other.items object.tail.trie other.tail.trie v w one two,
    )

-- ---- an object that is there

-- what is answered and left for it
abbrev there-told : List ℕ → HostModel → Answer
there-told bytes m = ends (typed bytes).1 (with_output m (concat (typed bytes).0))

abbrev still-told : List ℕ → HostModel → Answer
still-told bytes m = ends (typed bytes).1 (still (with_output m (concat (typed bytes).0)))

still-listed : (kind : MachineKind) (words : List Word) (o : Order) (bytes : List ℕ) (m : HostModel) → IsOrdered words o Show → IsThere (word_at words o.file) object_pieces bytes m →
    product kind words (still m) ≡ with_message (still-told bytes m)
unfolding ordered_plan
still-listed kind words o bytes m h there =
    order-is kind words o Show (still m) h
    ∙ ap with_message (host-answer kind (list_plan (word_at words o.file)) (still m))
    ∙ ap (λ t. with_message (plainly t))
    (listed-by (word_at words o.file) bytes (still m) (still m) (still (with_output m (concat (typed bytes).0))) (there-read (word_at words o.file) object_pieces bytes m there) (lines-still (typed bytes).0 m (slot_at-start_output m there.slots)))

pub listed-spared : (kind : MachineKind) (words : List Word) (o : Order) (bytes : List ℕ) (m : HostModel) → IsOrdered words o Show → IsThere (word_at words o.file) object_pieces bytes m →
    NoCallFails kind words m → answer_unscheduled (product kind words m) ≡ answer_unscheduled (with_message (there-told bytes (unscheduled m)))
listed-spared kind words o bytes m h there none =
    let n : HostModel = with_output (unscheduled m) (concat (typed bytes).0) in
    let same : SparedAnswers n (there-told bytes (unscheduled m)) (still-told bytes m) = uncalled in
    carried-as kind words m n (with_message (there-told bytes (unscheduled m))) (with_message (still-told bytes m)) none (still-listed kind words o bytes m h there)
    (message-steady (there-told bytes (unscheduled m)) (still-told bytes m) same) refl

pub listed-called : (words : List Word) (o : Order) (bytes : List ℕ) (old new : Option HostModel) (result : Outcome) → IsCalled words old new result → IsOrdered words o Show →
    IsThere (word_at words o.file) object_pieces bytes (contents old) → NoCallFails window_machine words (contents old) → result ≢ OutOfMemory → result ≡ (typed bytes).1
listed-called words o bytes old new result call h there none kept =
    let outcome : Outcome = (typed bytes).1 in
    let m : HostModel = with_output (unscheduled (contents old)) (concat (typed bytes).0) in
    let spoken : Answers outcome (with_message (ends outcome m)) = message-answers outcome m in
    called words old new result outcome call kept
    (spoken.0, listed-spared window_machine words o bytes (contents old) h there none ∙ spoken.1)

pub ruleset listed = (done-typed, fault-typed, long-typed)
