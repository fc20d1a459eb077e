-- What holds of the statements of lines and sources that are bytes.
use Rattle.std.proofs.Common.{◌≡◌, ◌<◌, ℕ, ◌^◌, List, [], ◌∷◌, ◌++◌, Bool, true, false, not, cond, refl, sym, ◌∙◌, ap, is_some, Option, Some, None, Result, Ok, Err, ◌==◌, rules}
use Rattle.mx_asm.proofs.Words.{result_err, AllByRecursion, slice_split, onto_first, AreBytes, lines_of, without_empty_last, split, PagesFull, nothing, take_items, meaning, Loading, Meaningless, Post, Stab, lowest_of, front, closing, main_of, StatementTree, Refused, statements_in, source_entries, Sight, final_known, sights_of, pieces, image, refusal, IsStatement, Line, lines_entries, lines_items, assembled_source, AreAccepted, outlined, has_room, loaded_image, page_fault, page_refusal, run_refusal_with, accepted_in, run_refusal}
use Rattle.mx_asm.proofs.EndLaw.{both-none}
use Rattle.mx_asm.proofs.InTurn.{all-accepted, source-accepted, source-refused}
use Rattle.mx_asm.proofs.MeaningStates.{take-append}
use Rattle.mx_asm.proofs.MeaningMemory.{same-pages}
use Rattle.mx_asm.proofs.MeaningSteady.{steady-begun, steady-all, accepted-faultless}
use Rattle.mx_asm.proofs.ByteStatements.{lines-read}
use Rattle.mx_asm.proofs.MeaningLaws.{image-meant, lines-fault, outlined-pages, page-refusal-is, sights-fault}

pub bytes-fault : (lines : List Line) → AllByRecursion AreBytes lines → result_err (take_items (lines_items lines) (Ok nothing)) ≡ page_fault (accepted_in (lines_entries lines))
bytes-fault lines bytes = lines-fault lines (lines-read lines bytes)

-- ---- sources

first-bytes : (b : ℕ) (parts : List (List ℕ)) → b < 2 ^ 8 → AllByRecursion AreBytes parts → AllByRecursion AreBytes (onto_first b parts)
first-bytes b parts l h = search rules

parts-bytes : (f : ℕ → Bool) (source : List ℕ) → AreBytes source → AllByRecursion AreBytes (slice_split f source)
parts-bytes f [] h = (tt, tt)
parts-bytes f (b ∷ source) h = search (rules, first-bytes, parts-bytes f source h.1)

split-bytes : (source : List ℕ) → AreBytes source → AllByRecursion AreBytes (split 10 source)
unfolding split
split-bytes source h = parts-bytes (λ b. b == 10) source h

last-bytes : (lines : List (List ℕ)) → AllByRecursion AreBytes lines → AllByRecursion AreBytes (without_empty_last lines)
last-bytes ((b ∷ bs) ∷ []) h = h
last-bytes (line ∷ next ∷ lines) h = (h.0, last-bytes (next ∷ lines) h.1)
last-bytes lines h = tt

pub source-bytes : (source : List ℕ) → AreBytes source → AllByRecursion AreBytes (lines_of source)
unfolding lines_of
source-bytes source h = last-bytes (split 10 source) (split-bytes source h)

abbrev pub statements_of_source : List ℕ → List StatementTree
statements_of_source source = statements_in (source_entries source)

source-read : (source : List ℕ) → AreBytes source → AllByRecursion IsStatement (statements_of_source source)
source-read source h = lines-read (lines_of source) (source-bytes source h)

pub source-are-accepted : (source : List ℕ) → AreBytes source → refusal source ≡ None → AreAccepted (statements_of_source source)
source-are-accepted source h none = search (rules, both-none, source-read)

pub source-means : (source : List ℕ) → AreBytes source → refusal source ≡ None → meaning (assembled_source source).0 ≡ loaded_image (statements_of_source source)
source-means source h none = ap (λ p. meaning p.0) (source-accepted source none) ∙ image-meant (statements_of_source source) (source-are-accepted source h none)

-- ---- sources that are run

room-is : (statements : List StatementTree) → AreAccepted statements → has_room (pieces statements) ≡ has_room (outlined (sights_of statements))
room-is statements h = search (rules, same-pages, outlined-pages, steady-all)

both-runs : (pages : Option ℕ) (refused : Option Refused) → run_refusal_with pages refused ≡ None → (pages ≡ None) × (refused ≡ None)
both-runs pages refused h = search rules

-- what is not refused for its pages has room
room-of : (ss : List Sight) → page_refusal ss ≡ None → has_room (outlined ss) ≡ true
room-of ss none = by (has_room (outlined ss)) (sym (page-refusal-is ss) ∙ ap is_some none)
  where
    by : (b : Bool) → not b ≡ false → b ≡ true
    by true h = refl
    by false h = absurd (cc)

pub run-means : (source : List ℕ) → AreBytes source → run_refusal source ≡ None → meaning (assembled_source source).0 ≡ Ok (image (statements_of_source source))
run-means source h none = search (rules, both-runs, source-are-accepted, room-is, room-of, all-accepted, source-means)

-- what is refused for its pages alone has too many of them
no-room : (b : Bool) → true ≡ not b → b ≡ false
no-room b h = search rules

pub pages-mean : (source : List ℕ) (line : ℕ) → AreBytes source → refusal source ≡ None → page_refusal (accepted_in (source_entries source)) ≡ Some line →
    meaning (assembled_source source).0 ≡ Err PagesFull
pages-mean source line h none full =
    let statements = statements_of_source source in
    let are = source-are-accepted source h none in
    let some : true ≡ not (has_room (outlined (sights_of statements))) =
    ap is_some (sym full) ∙ ap (λ ss. is_some (page_refusal ss)) (all-accepted (sights_of statements) [] are.faultless) ∙ page-refusal-is (sights_of statements) in
    let room : has_room (pieces statements) ≡ false = room-is statements are ∙ no-room (has_room (outlined (sights_of statements))) some in
    source-means source h none ∙ ap (λ b. cond b (Ok (image statements)) (Err PagesFull)) room

-- ---- what is loaded of a source

closed-fault : (g : ℕ) (values : List ℕ) (r : Result Loading Meaningless) → result_err (take_items (Post g values ∷ Stab ∷ []) r) ≡ result_err r
closed-fault g values r = search rules

emission-fault : (source : List ℕ) → AreBytes source → refusal source ≡ None → result_err (take_items (assembled_source source).0 (Ok nothing)) ≡ page_fault (accepted_in (source_entries source))
emission-fault source h none =
    let statements = statements_of_source source in
    let are = source-are-accepted source h none in
    let k = final_known statements in
    ap (λ p. result_err (take_items p.0 (Ok nothing))) (source-accepted source none)
    ∙ ap result_err (take-append (front statements) (closing k.names k.gregs) (Ok nothing))
    ∙ closed-fault (lowest_of k.gregs) (k.gregs ++ main_of k.names ∷ []) (take_items (front statements) (Ok nothing))
    ∙ sights-fault (sights_of statements) are.faultless (steady-all statements are.read are.faultless)
    ∙ ap page_fault (sym (all-accepted (sights_of statements) [] are.faultless))

pub source-fault : (source : List ℕ) → AreBytes source → result_err (take_items (assembled_source source).0 (Ok nothing)) ≡ page_fault (accepted_in (source_entries source))
source-fault source h = search (rules, emission-fault, source-refused, sights-fault, accepted-faultless, steady-begun, source-read)
