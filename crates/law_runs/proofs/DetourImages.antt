-- The object of a source is loaded as what the source is run from; where that has too many pages, it is not loaded.
use Rattle.std.proofs.Common.{◌≡◌, ℕ, ◌^◌, ◌≤◌, List, ◌++◌, length, sym, ◌∙◌, ap, subst, Some, None, Option, Result, Ok, Err, refl}
use Rattle.mx_word.specs.declared.symbols.Symbol.{Symbol}
use Rattle.mx_word.specs.Ranges.{AreBytes}
use Rattle.mx_mmo.specs.Image.{Image}
use Rattle.mx_mmo.specs.Meaning.{Loading, Meaningless, PagesFull, nothing, take_items, image_in, meaning}
use Rattle.mx_mmo.specs.Spelling.{written, ending}
use Rattle.mx_mmo.specs.Whole.{Left, items_of, object_of, object_after, with_tail}
use Rattle.mx_mmo.specs.declared.due.Phase.TheVariants.{Start}
use Rattle.mx_mmo.specs.declared.faults.MmoFault.{MmoFault}
use Rattle.mx_mmo.specs.declared.items.Item.{Item}
use Rattle.mx_mmo.specs.declared.items.Object.{Object}
use Rattle.mx_mmo.specs.declared.items.Tail.{Tail}
use Rattle.mx_mmo.proofs.Pieces.{not-long}
use Rattle.mx_mmo.proofs.Written.{written-read}
use Rattle.mx_load.specs.Faults.{number_of, fault_of}
use Rattle.mx_load.specs.Objects.{object_loaded, trie_read, with_symbols}
use Rattle.mx_load.proofs.Apart.{object-holds, fault-of-meaning}
use Rattle.mx_stab.specs.Reading.{trie_answer}
use Rattle.mx_asm.specs.Fitting.{AreWritable}
use Rattle.mx_asm.specs.Entries.{statements_in, source_entries}
use Rattle.mx_asm.specs.Image.{image, symbols_of}
use Rattle.mx_asm.specs.OnePass.{Ended}
use Rattle.mx_asm.specs.Pages.{RunRefusal, page_refusal, accepted_in, run_refusal, run_refusal_with}
use Rattle.mx_asm.specs.Refusal.{refusal}
use Rattle.mx_asm.specs.TwoPass.{final_known}
use Rattle.mx_asm.specs.Whole.{assembled_source, entries_items}
use Rattle.mx_asm.specs.declared.refused.Refused.{Refused}
use Rattle.std.proofs.lemmas.Option.{same_Some}
use Rattle.mx_asm.specs.Emission.{emission, opening, padded_trie}
use Rattle.mx_asm.proofs.InTurn.{source-accepted, source-refused}
use Rattle.mx_asm.proofs.ObjectLaws.{source-writable, source-told, source-few}
use Rattle.mx_files.specs.Sources.{meaning_unless, source_meaning}
use Rattle.mx_files.specs.Objects.{Assembled, source_object}
use Rattle.mx_files.specs.Objects as assembling
use Rattle.mx_files.specs.Assembling.{assembled_outcome}
use Rattle.mx_outcome.specs.declared.outcome.Outcome.TheVariants.{Done}
use Rattle.mx_asm.proofs.MeaningSources.{pages-mean}
use Rattle.mx_files.proofs.SourceImages.{items-mean-image}

object-is : (text trie : List ℕ) (items : List Item) → assembled_source text ≡ (items, Ok trie) → source_object text ≡ (written items ++ ending trie, Ok tt)
unfolding source_object
object-is text trie items e = ap assembling.object_of e

-- what is written of items that mean an image is loaded as that image
written-loaded : (items : List Item) (trie : List ℕ) (symbols : List Symbol) (image : Image) → AreWritable items trie → length (written items ++ ending trie) ≤ 2 ^ 26 → trie_answer trie ≡ Ok symbols →
    meaning items ≡ Ok image → object_loaded (written items ++ ending trie) ≡ Ok (image, symbols)
written-loaded items trie symbols image w short answer means =
    let place : ℕ = length (written items) in
    let object : Object = record { items = items; tail = record { trie = trie; place = place } } in
    object-holds (written items ++ ending trie) object image (written-read items trie w.valid w.padded.whole w.padded.most short) means
    ∙ ap (λ r. with_symbols image (trie_read place r)) answer

-- ---- items without a meaning

tail-items : (items : List Item) (tail : Result Tail MmoFault) (object : Object) → with_tail items tail ≡ Ok object → items ≡ object.items
tail-items items (Ok tail) object h =
    let whole : Object = record { items = items; tail = tail } in
    let same : whole ≡ object = cc in
    ap (λ (o : Object). o.items) same
tail-items items (Err fault) object h = absurd (cc)

left-items : (items : List Item) (end : Result Left MmoFault) (object : Object) → object_after items end ≡ Ok object → items ≡ object.items
left-items items (Ok left) object h = tail-items items _ object h
left-items items (Err fault) object h = absurd (cc)

fault-means : (r : Result Loading Meaningless) (e : Meaningless) → image_in r ≡ Err e → r ≡ Err e
fault-means (Ok s) e h = absurd (cc)
fault-means (Err f) e h = cc

-- what is written of items that mean nothing is not loaded, for that reason
written-refused : (items : List Item) (trie : List ℕ) (e : Meaningless) → AreWritable items trie → length (written items ++ ending trie) ≤ 2 ^ 26 → meaning items ≡ Err e →
    (place : ℕ) × (object_loaded (written items ++ ending trie) ≡ Err (place, number_of (fault_of e)))
written-refused items trie e w short means =
    let bytes : List ℕ = written items ++ ending trie in
    let object : Object = record { items = items; tail = record { trie = trie; place = length (written items) } } in
    let read : object_of bytes ≡ Ok object = written-read items trie w.valid w.padded.whole w.padded.most short in
    let are : (items_of Start 0 bytes).0 ≡ items = left-items (items_of Start 0 bytes).0 (items_of Start 0 bytes).1 object (sym (not-long bytes short) ∙ read) in
    let found = fault-of-meaning bytes e short (ap (λ is. take_items is (Ok nothing)) are ∙ fault-means (take_items items (Ok nothing)) e means) in
    (found.0, found.2)

-- ---- sources

runs-on : (r : Option RunRefusal) (image m : Image) → meaning_unless r image ≡ Ok m → r ≡ None
runs-on None image m h = refl
runs-on (Some r) image m h = absurd (cc)

not-refused : (pages : Option ℕ) (refused : Option Refused) → run_refusal_with pages refused ≡ None → refused ≡ None
not-refused (Some line) refused h = absurd (cc)
not-refused None (Some r) h = absurd (cc)
not-refused None None h = refl

pub accepted-run : (text : List ℕ) (image : Image) → source_meaning text ≡ Ok image → refusal text ≡ None
unfolding source_meaning
accepted-run text image h = not-refused (page_refusal (accepted_in (source_entries text))) (refusal text) (runs-on (run_refusal text) _ image h)

-- what is written of a source that is not refused
pub record HasObject (text : List ℕ) : Type 0 where
  items : List Item
  trie : List ℕ
  assembled : assembled_source text ≡ (items, Ok trie)
  written_as : (source_object text).0 ≡ written items ++ ending trie
  writable : AreWritable items trie
  symbols : trie_answer trie ≡ Ok (symbols_of (statements_in (source_entries text)))
  short : length (written items ++ ending trie) ≤ 2 ^ 26

has-object : (text : List ℕ) → AreBytes text → refusal text ≡ None → HasObject text
has-object text each none =
    let items : List Item = emission (statements_in (source_entries text)) in
    let trie : List ℕ = padded_trie (final_known (statements_in (source_entries text))).names in
    let is : assembled_source text ≡ (items, Ok trie) = source-accepted text none in
    record {
      items = items;
      trie = trie;
      assembled = is;
      written_as = ap (λ (x : Assembled). x.0) (object-is text trie items is);
      writable = source-writable text each items trie is;
      symbols = source-told text each items trie is;
      short = source-few text each items trie is;
    }

pub source-short : (text : List ℕ) → AreBytes text → refusal text ≡ None → length (source_object text).0 ≤ 2 ^ 26
source-short text each none =
    let w : HasObject text = has-object text each none in
    subst (λ (bytes : List ℕ). length bytes ≤ 2 ^ 26) (sym w.written_as) w.short

-- a source whose assembly is done is not refused
pub assembled-none : (text : List ℕ) → assembled_outcome (source_object text).1 ≡ Done 0 → refusal text ≡ None
unfolding source_object
assembled-none text is = by (refusal text) refl
  where
    by : (r : Option Refused) → refusal text ≡ r → refusal text ≡ None
    by None e = e
    by (Some r) e = absurd (let refused : assembled_source text ≡ (opening ++ entries_items (source_entries text), Err r) = source-refused text r e in
        let outcome : assembled_outcome (assembling.object_of (opening ++ entries_items (source_entries text), Err r)).1 ≡ Done 0 = subst (λ (x : Ended). assembled_outcome (assembling.object_of x).1 ≡ Done 0) refused is in cc)

-- the object of a source that is run is loaded as its image, with its symbols
pub source-loads : (text : List ℕ) (image : Image) → AreBytes text → source_meaning text ≡ Ok image →
    object_loaded (source_object text).0 ≡ Ok (image, symbols_of (statements_in (source_entries text)))
source-loads text image each h =
    let w : HasObject text = has-object text each (accepted-run text image h) in
    let means : meaning w.items ≡ Ok image = ap (λ (x : Ended). meaning x.0) (sym w.assembled) ∙ items-mean-image text image each h in
    ap object_loaded w.written_as ∙ written-loaded w.items w.trie (symbols_of (statements_in (source_entries text))) image w.writable w.short w.symbols means

-- a source that is assembled and yet refused when it is run has too many pages
pages-only : (pages : Option ℕ) (r : RunRefusal) → run_refusal_with pages None ≡ Some r → r.number ≡ 90
pages-only (Some line) r h =
    let same : record { line = line; number = 90; from_line = 0 } ≡ r = same_Some _ _ h in
    ap (λ (r : RunRefusal). r.number) (sym same)
pages-only None r h = absurd (cc)

full-line : (pages : Option ℕ) (r : RunRefusal) → run_refusal_with pages None ≡ Some r → (line : ℕ) × (pages ≡ Some line)
full-line (Some line) r h = (line, refl)
full-line None r h = absurd (cc)

-- the object of such a source is not loaded, for the same reason
pub pages-refused : (text : List ℕ) (r : RunRefusal) → AreBytes text → refusal text ≡ None → run_refusal text ≡ Some r →
    (r.number ≡ 90) × (place : ℕ) × (object_loaded (source_object text).0 ≡ Err (place, 90))
pages-refused text r each none h =
    let alone : run_refusal_with (page_refusal (accepted_in (source_entries text))) None ≡ Some r = ap (run_refusal_with (page_refusal (accepted_in (source_entries text)))) (sym none) ∙ h in
    let line = full-line (page_refusal (accepted_in (source_entries text))) r alone in
    let w : HasObject text = has-object text each none in
    let means : meaning w.items ≡ Err PagesFull = ap (λ (x : Ended). meaning x.0) (sym w.assembled) ∙ pages-mean text line.0 each none line.1 in
    let found = written-refused w.items w.trie PagesFull w.writable w.short means in
    (pages-only (page_refusal (accepted_in (source_entries text))) r alone, found.0, ap object_loaded w.written_as ∙ found.1)
