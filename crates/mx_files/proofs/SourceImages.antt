-- A source that is loaded line by line comes to what it means: the lines that were taken mean the statements before the
-- first refusal, and what is loaded of them is what their items mean.
use Rattle.std.proofs.Common.{◌≡◌, ℕ, ◌+◌, Bool, true, false, not, cond, List, [], ◌∷◌, ◌++◌, length, refl, sym, ap, subst, ◌∙◌, is_some, Option, Some, None, Result, Ok, Err, append_assoc, append-nil, length-append}
use Rattle.std.specs.List.{AllByRecursion}
use Rattle.std.specs.Result.{result_err}
use Rattle.mx_word.specs.Ranges.{AreBytes}
use Rattle.mx_line.specs.Lines.{lines_of}
use Rattle.mx_mmo.specs.Image.{Image}
use Rattle.mx_mmo.specs.Meaning.{Loading, Meaningless, PagesFull, nothing, take_item, take_items, image_in, meaning}
use Rattle.mx_mmo.specs.declared.items.Item.{Item}
use Rattle.mx_load.specs.Faults.{number_of, fault_of, told}
use Rattle.mx_load.specs.declared.fault.LoadFault.{LoadFault}
use Rattle.mx_asm.specs.declared.refused.Refused.{Refused}
use Rattle.mx_asm.specs.Entries.{source_entries, statements_in}
use Rattle.mx_asm.specs.TwoPass.{Sight}
use Rattle.mx_asm.specs.Image.{image}
use Rattle.mx_asm.specs.Pages.{accepted_in, has_room, outlined, page_fault, page_refusal, RunRefusal, run_refusal, run_refusal_with}
use Rattle.mx_asm.specs.Refusal.{first_of, end_refusal, last_line, refusal}
use Rattle.mx_asm.specs.OnePass.{Assembly, Progress, Ended, beginning, line_following, end_following}
use Rattle.mx_asm.specs.Fronts.{GrowsAlike}
use Rattle.mx_asm.specs.Whole.{Line, HasTaken, assembled_lines, assembled_source, lines_entries, lines_items, lines_taken}
use Rattle.mx_asm.proofs.InTurn.{none-taken, line-taken, line-grows, taken-ends, taken-grows, refusal-lasts, source-accepted, source-refused}
use Rattle.mx_asm.proofs.OnePassLaw.{items-are, refusal-is}
use Rattle.mx_asm.proofs.MeaningLaws.{page-refusal-is}
use Rattle.mx_asm.proofs.MeaningLines.{line-is-refused}
use Rattle.mx_asm.proofs.MeaningSources.{bytes-fault, run-means, source-bytes}
use Rattle.mx_asm.proofs.MeaningStates.{take-append}
use Rattle.mx_files.specs.Loading.{loading_status, refused_at, refusal_of, all_loaded, judged, progress_loaded, and_lines, lines_loaded, image_loaded, ended_with, end_loaded, end_after, loading_status_after, source_image}
use Rattle.mx_files.specs.Sources.{meaning_unless, source_meaning}
use Rattle.mx_files.specs.declared.refusal.Refusal.{Refusal}
use Rattle.mx_files.specs.declared.refusal.SourceFault.{SourceFault}
use Rattle.mx_files.specs.declared.refusal.SourceFault.TheVariants.{Refused as Refusing, OutOfMemory as NoRoom}
use Rattle.mx_files.proofs.LoadedItems.{fault-stays}

-- ---- items are loaded as they mean

none-left : (r : Result Loading Meaningless) → take_items [] r ≡ r
none-left (Ok s) = refl
none-left (Err e) = refl

loaded-means : (items : List Item) (r : Result Loading Meaningless) → all_loaded (told r) items ≡ told (take_items items r)
loaded-means [] r = sym (ap told (none-left r))
loaded-means (item ∷ items) (Ok s) = loaded-means items (take_item s item)
loaded-means (item ∷ items) (Err e) = fault-stays (fault_of e) (item ∷ items)

loaded-after : (out items : List Item) (s : Loading) → take_items out (Ok nothing) ≡ Ok s → all_loaded (Ok s) items ≡ told (take_items (out ++ items) (Ok nothing))
loaded-after out items s e = loaded-means items (Ok s) ∙ ap (λ r. told (take_items items r)) (sym e) ∙ ap told (sym (take-append out items (Ok nothing)))

-- ---- lines of bytes

front-bytes : (xs ys : List Line) → AllByRecursion AreBytes (xs ++ ys) → AllByRecursion AreBytes xs
front-bytes [] ys h = tt
front-bytes (x ∷ xs) ys h = (h.0, front-bytes xs ys h.1)

-- ---- pages and refusals

-- what is loaded without a fault is not refused for its pages
unrefused : (ss : List Sight) → page_fault ss ≡ None → page_refusal ss ≡ None
unrefused ss none = on (page_refusal ss) (page-refusal-is ss ∙ ap not (room (has_room (outlined ss)) none))
  where
    room : (b : Bool) → ◌≡◌ {A = Option Meaningless} (cond b None (Some PagesFull)) None → b ≡ true
    room true h = refl
    room false h = absurd (cc)

    on : (r : Option ℕ) → is_some r ≡ false → r ≡ None
    on None h = refl
    on (Some line) h = absurd (cc)

full-only : (b : Bool) (e : Meaningless) → ◌≡◌ {A = Option Meaningless} (Some e) (cond b None (Some PagesFull)) → e ≡ PagesFull
full-only true e h = absurd (cc)
full-only false e h = cc

-- ---- the lines of a source

module _ (source : List ℕ) (bytes : AreBytes source) where
  -- what lines before the rest come to: they were taken, and their items mean something
  record HasLoaded (front rest : List Line) (a : Assembly) (s : Loading) : Type 0 where
    whole : lines_of source ≡ front ++ rest
    taken : HasTaken front (Ok a)
    loaded : take_items (lines_items front) (Ok nothing) ≡ Ok s

  abbrev refused_pages : Option ℕ
  refused_pages = page_refusal (accepted_in (source_entries source))

  fault-of : (front rest : List Line) → lines_of source ≡ front ++ rest → result_err (take_items (lines_items front) (Ok nothing)) ≡ page_fault (accepted_in (lines_entries front))
  fault-of front rest whole = bytes-fault front (front-bytes front rest (subst (AllByRecursion AreBytes) whole (source-bytes source bytes)))

  -- a source that is refused for its pages
  pages-mean : (line : ℕ) → refused_pages ≡ Some line → Err (refused_at line 90) ≡ source_meaning source
  unfolding source_meaning
  pages-mean line e = ap (λ pages. meaning_unless (run_refusal_with pages (refusal source)) (image (statements_in (source_entries source)))) (sym e)

  -- a source that is refused for something else
  refusal-means : (r : Refused) → refused_pages ≡ None → refusal source ≡ Some r → Err (refusal_of r) ≡ source_meaning source
  unfolding source_meaning
  refusal-means r none e = λ i. meaning_unless (run_refusal_with (sym none i) (sym e i)) (image (statements_in (source_entries source)))

  image-means : refused_pages ≡ None → refusal source ≡ None → Ok (image (statements_in (source_entries source))) ≡ source_meaning source
  unfolding source_meaning
  image-means none e = λ i. meaning_unless (run_refusal_with (sym none i) (sym e i)) (image (statements_in (source_entries source)))

  -- what was added is loaded, so that there is no refusal for pages
  no-pages : (lines : List Line) (s : Loading) → lines_items (lines_of source) ≡ lines_items lines → take_items (lines_items lines) (Ok nothing) ≡ Ok s → refused_pages ≡ None
  no-pages lines s items loaded =
      unrefused (accepted_in (source_entries source))
      (sym (fault-of (lines_of source) [] (sym (append-nil (lines_of source)))) ∙ ap (λ l. result_err (take_items l (Ok nothing))) items ∙ ap result_err loaded)

  -- ---- no line is left

  with-refusal : (l : Result Loading LoadFault) (p : Ended) (r : Refused) → p.1 ≡ Err r → ended_with l p ≡ Err (refusal_of r)
  with-refusal l (items, Err refused) r e = cc
  with-refusal l (items, Ok trie) r e = absurd (cc)

  with-trie : (l : Result Loading LoadFault) (p : Ended) (trie : List ℕ) → p.1 ≡ Ok trie → ended_with l p ≡ image_loaded (all_loaded l p.0)
  with-trie l (items, Err refused) trie e = absurd (cc)
  with-trie l (items, Ok other) trie e = refl

  image-of : (r : Result Loading Meaningless) (m : Image) → image_in r ≡ Ok m → image_loaded (told r) ≡ Ok m
  image-of (Ok s) m e = cc
  image-of (Err why) m e = absurd (cc)

  ends : (front : List Line) (a : Assembly) (s : Loading) → HasLoaded front [] a s → ended_with (Ok s) (end_following [] (Ok a)) ≡ source_meaning source
  ends front a s h = by (refusal source) refl
    where
      whole : lines_of source ≡ front
      whole = h.whole ∙ append-nil front

      grows : GrowsAlike (lines_items front) (assembled_lines front).0 [] (end_following [] (Ok a)).0
      grows = taken-grows front [] (Ok a) h.taken

      items : lines_items front ++ (end_following [] (Ok a)).0 ≡ (assembled_source source).0
      items = ap (λ l. lines_items front ++ l) grows.added ∙ sym grows.due ∙ ap (λ ls. (assembled_lines ls).0) (sym whole)

      trie : (end_following [] (Ok a)).1 ≡ (assembled_source source).1
      trie = taken-ends front [] (Ok a) h.taken ∙ ap (λ ls. (assembled_lines ls).1) (sym whole)

      pages : refused_pages ≡ None
      pages = no-pages front s (ap lines_items whole) h.loaded

      by : (r : Option Refused) → refusal source ≡ r → ended_with (Ok s) (end_following [] (Ok a)) ≡ source_meaning source
      by (Some r) e =
          with-refusal (Ok s) (end_following [] (Ok a)) r (trie ∙ ap (λ (p : Ended). p.1) (source-refused source r e))
          ∙ refusal-means r pages e
      by None e =
          with-trie (Ok s) (end_following [] (Ok a)) _ (trie ∙ ap (λ (p : Ended). p.1) (source-accepted source e))
          ∙ ap image_loaded (loaded-after (lines_items front) (end_following [] (Ok a)).0 s h.loaded)
          ∙ ap (λ l. image_loaded (told (take_items l (Ok nothing)))) items
          ∙ image-of (take_items (assembled_source source).0 (Ok nothing)) (image (statements_in (source_entries source)))
          (run-means source bytes (λ i. run_refusal_with (pages i) (e i)))
          ∙ image-means pages e

  -- ---- a line more

  abbrev Whole : List Line → List Line → Type 0
  Whole front rest = (a : Assembly) (s : Loading) → HasLoaded front rest a s →
      end_loaded (lines_loaded (length front + 1) rest (loading_status (Ok a) (Ok s))) ≡ source_meaning source

  next : (front texts : List Line) (text : Line) → Whole (front ++ text ∷ []) texts → Whole front (text ∷ texts)
  unfolding lines_loaded
  next front texts text more a s h = step (line_following [] (Ok a) text) refl
    where
      few : page_fault (accepted_in (lines_entries front)) ≡ None
      few = sym (fault-of front (text ∷ texts) h.whole) ∙ ap result_err h.loaded

      whole : lines_of source ≡ (front ++ text ∷ []) ++ texts
      whole = h.whole ∙ sym (append_assoc front (text ∷ []) texts)

      full : (e : Meaningless) → Some e ≡ page_fault (accepted_in (lines_entries (front ++ text ∷ []))) → Err (refused_at (length front + 1) (number_of (fault_of e))) ≡ source_meaning source
      full e is =
          let only : e ≡ PagesFull = full-only (has_room (outlined (accepted_in (lines_entries (front ++ text ∷ []))))) e is in
          ap (λ why. Err (refused_at (length front + 1) (number_of (fault_of why)))) only
          ∙ pages-mean (length front + 1)
          (ap (λ ls. page_refusal (accepted_in (lines_entries ls))) h.whole ∙ line-is-refused front texts text few (sym is ∙ ap Some only))

      next_lines : List Line
      next_lines = front ++ text ∷ []

      refuses : (r : Refused) (t : Loading) → HasTaken next_lines (Err r) → take_items (lines_items next_lines) (Ok nothing) ≡ Ok t → Err (refusal_of r) ≡ source_meaning source
      refuses r t taken loaded =
          let all : lines_taken (lines_of source) ≡ (lines_items next_lines, Err r) = ap lines_taken whole ∙ refusal-lasts next_lines texts r taken in
          refusal-means r (no-pages next_lines t (sym (items-are (lines_of source)) ∙ ap (λ (p : Progress). p.0) all) loaded)
          (ap (λ f. first_of f (end_refusal (last_line (lines_of source)) (statements_in (source_entries source)))) (sym (refusal-is (lines_of source)) ∙ ap (λ (p : Progress). result_err p.1) all))

      by : (b : Result Assembly Refused) (r : Result Loading Meaningless) → HasTaken next_lines b → take_items (lines_items next_lines) (Ok nothing) ≡ r →
          end_loaded (and_lines (lines_loaded (length front + 1 + 1) texts) (judged (length front + 1) b (told r))) ≡ source_meaning source
      by b (Err e) taken loaded = full e (sym (ap result_err loaded) ∙ fault-of next_lines texts whole)
      by (Err r) (Ok t) taken loaded = refuses r t taken loaded
      by (Ok b) (Ok t) taken loaded =
          ap (λ n. end_loaded (lines_loaded (n + 1) texts (loading_status (Ok b) (Ok t)))) (sym (length-append front (text ∷ [])))
          ∙ more b t (record { whole = whole; taken = taken; loaded = loaded })

      step : (p : Progress) → line_following [] (Ok a) text ≡ p → end_loaded (and_lines (lines_loaded (length front + 1 + 1) texts) (progress_loaded (length front + 1) (Ok s) p)) ≡ source_meaning source
      step (items, b) e =
          let grows = line-grows front text [] items (Ok a) b (sym e) h.taken in
          let all : lines_items front ++ items ≡ lines_items next_lines = ap (λ l. lines_items front ++ l) grows.added ∙ sym grows.due in
          ap (λ l. end_loaded (and_lines (lines_loaded (length front + 1 + 1) texts) (judged (length front + 1) b l)))
          (loaded-after (lines_items front) items s h.loaded ∙ ap (λ l. told (take_items l (Ok nothing))) all)
          ∙ by b (take_items (lines_items next_lines) (Ok nothing)) (line-taken front text [] items (Ok a) b (sym e) h.taken) refl

  lines-are : (rest front : List Line) → Whole front rest
  unfolding lines_loaded
  lines-are [] front = ends front
  lines-are (text ∷ texts) front = next front texts text (lines-are texts (front ++ text ∷ []))

  pub source-is : source_image source ≡ source_meaning source
  unfolding source_image
  source-is = lines-are (lines_of source) [] beginning nothing (record { whole = refl; taken = none-taken; loaded = refl })

-- ---- what is answered

pub source-loaded : (source : List ℕ) → AreBytes source → (a : Result Assembly Refused) (l : Result Loading LoadFault) (r : Result Image Refusal) → a ≡ Ok beginning → l ≡ Ok nothing →
    r ≡ end_loaded (lines_loaded 1 (lines_of source) (loading_status a l)) → r ≡ source_meaning source
unfolding source_image
source-loaded source bytes a l r ea el e = e ∙ (λ i. end_loaded (lines_loaded 1 (lines_of source) (loading_status (ea i) (el i)))) ∙ source-is source bytes

pub refusal-ends : (fault : SourceFault) (a : Result Assembly Refused) (l k : Result Loading LoadFault) → end_after (Err fault) k ≡ end_loaded (loading_status_after (Err fault) a l)
refusal-ends (Refusing refusal) a l k = refl
refusal-ends NoRoom a l k = refl

-- ---- what is loaded means the image

pub items-mean-image : (source : List ℕ) (m : Image) → AreBytes source → source_meaning source ≡ Ok m → meaning (assembled_source source).0 ≡ Ok m
unfolding source_meaning
items-mean-image source m bytes h = by (run_refusal source) refl h
  where
    by : (r : Option RunRefusal) → run_refusal source ≡ r → meaning_unless r (image (statements_in (source_entries source))) ≡ Ok m → meaning (assembled_source source).0 ≡ Ok m
    by None none e = let same : image (statements_in (source_entries source)) ≡ m = cc in run-means source bytes none ∙ ap Ok same
    by (Some r) some e = absurd (cc)
