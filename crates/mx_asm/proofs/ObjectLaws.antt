-- An object can be written of what a source is assembled into, and its trie tells its symbols.
use Rattle.std.proofs.Common.{◌≡◌, ◌<◌, ◌≤◌, ℕ, ◌-◌, ◌/◌, ◌%◌, ◌^◌, List, [], ◌∷◌, ◌++◌, length, Option, None, Some, Ok, sym, ap, ◌∙◌, subst, arith, codes}
use Rattle.mx_asm.proofs.Words.{IfSome, AreBytes, Value, Item, File, Pre, Post, Stab, lines_of, value_of_name, lowest_of, Known, StatementTree, AsmFault, statements_in, source_entries, sights_of, final_known, zeros_after, opening, first_head, items_from, main_name, pure_or_zero, main_of, closing, emission, padded_trie, symbols_of, last_fault, end_fault, at_line, first_undefined, locals, entries_refusal, end_refusal, last_line, refusal, AreFit, IsPadded, AreWritable, assembled_source, written, ending, nat_tests, common_steps}
use Rattle.mx_stab.specs.Reading.{trie_answer}
use Rattle.mx_stab.specs.Trie.{trie_of}
use Rattle.mx_stab.proofs.Law.{written-is-trie}
use Rattle.mx_stab.proofs.Whole.{trie-read}
use Rattle.mx_asm.proofs.EndLaw.{both-none}
use Rattle.mx_asm.proofs.Fitting.{fit-one, fit-both, fit-registers, fit-time, fit-file}
use Rattle.mx_asm.proofs.InTurn.{source-accepted, source-refused}
use Rattle.mx_asm.proofs.MeaningStatements.{IsWord}
use Rattle.mx_asm.proofs.MeaningSteady.{steady-all}
use Rattle.mx_asm.proofs.ByteStatements.{lines-of-bytes}
use Rattle.mx_asm.proofs.MeaningSources.{source-bytes, source-are-accepted}
use Rattle.mx_asm.proofs.ObjectItems.{assembled-valid, items-fit}
use Rattle.mx_asm.proofs.ObjectLengths.{object-short}
use Rattle.mx_asm.proofs.ObjectNames.{IsTellable, few-registers, tellable-end}
use Rattle.mx_asm.proofs.StatementCounts.{few-statements}

-- ---- the end of an object

main-low : (value : Option Value) → IfSome value IsWord → pure_or_zero value < 2 ^ 64
main-low value h = grind (arith, nat_tests)

closing-fits : (k : Known) → IsTellable 0 k → AreFit (closing k.names k.gregs)
closing-fits k h =
    fit-both (Post (lowest_of k.gregs) (k.gregs ++ main_of k.names ∷ []) ∷ []) (Stab ∷ [])
    (fit-one _ (fit-registers k.gregs (main_of k.names) (few-registers k.gregs h.sound.gregs) h.gregs (main-low (value_of_name k.names main_name) (h.words.symbols main_name))))
    (fit-one Stab tt)

opening-fits : AreFit opening
opening-fits = fit-both (Pre (0 ∷ []) ∷ []) (File 0 (Some (codes ".mms")) ∷ []) (fit-one (Pre (0 ∷ [])) fit-time) (fit-one (File 0 (Some (codes ".mms"))) fit-file)

-- ---- the trie

whole-tetras : (bytes : List ℕ) → length (bytes ++ zeros_after (length bytes)) % 4 ≡ 0
whole-tetras bytes = grind (arith, common_steps, nat_tests)

few-tetras : (k : Known) (registers : List ℕ) (main : Option Value) → last_fault k registers main ≡ None → length (padded_trie k.names) / 4 < 2 ^ 16
few-tetras k registers main h = grind (arith, nat_tests)

no-fault : (line : ℕ) (fault : Option AsmFault) → at_line line fault ≡ None → fault ≡ None
no-fault line fault h = grind (arith, nat_tests)

padded : (k : Known) (registers : List ℕ) → end_fault k registers ≡ None → IsPadded (padded_trie k.names)
padded k registers none = record { whole = whole-tetras (trie_of k.names.symbols); most = few-tetras k registers (value_of_name k.names main_name) none }

told : (k : Known) → IsTellable 0 k → trie_answer (padded_trie k.names) ≡ Ok k.names.symbols
told k h =
    let count : ℕ = length (trie_of k.names.symbols) in
    trie-read (padded_trie k.names) k.names.symbols
    (written-is-trie k.names.symbols ((4 - count % 4) % 4) h.names.order h.names.named (omega arith))

-- ---- a source

module _ (source : List ℕ) (bytes : AreBytes source) where
  abbrev statements : List StatementTree
  statements = statements_in (source_entries source)

  abbrev end : Known
  end = final_known statements

  source-tellable : refusal source ≡ None → IsTellable 0 end
  source-tellable none =
      let are = source-are-accepted source bytes none in
      tellable-end statements are.faultless (lines-of-bytes (lines_of source) (source-bytes source bytes)) (few-statements (lines_of source))

  emission-fits : refusal source ≡ None → AreFit (emission statements)
  emission-fits none =
      let are = source-are-accepted source bytes none in
      fit-both (opening ++ items_from first_head [] (sights_of statements)) (closing end.names end.gregs)
      (fit-both opening (items_from first_head [] (sights_of statements)) opening-fits (items-fit (sights_of statements) [] first_head (steady-all statements are.read are.faultless)))
      (closing-fits end (source-tellable none))

  trie-padded : refusal source ≡ None → IsPadded (padded_trie end.names)
  trie-padded none =
      let parts = both-none (entries_refusal (source_entries source)) (end_refusal (last_line (lines_of source)) statements) none in
      let ends = both-none (first_undefined end.names (sights_of statements)) (at_line (last_line (lines_of source)) (end_fault end (locals (sights_of statements)))) parts.1 in
      padded end (locals (sights_of statements)) (no-fault (last_line (lines_of source)) (end_fault end (locals (sights_of statements))) ends.1)

  -- what is assembled is not refused
  record IsAssembled (items : List Item) (trie : List ℕ) : Type 0 where
    none : refusal source ≡ None
    items_are : items ≡ emission statements
    trie_is : trie ≡ padded_trie end.names

  assembled : (items : List Item) (trie : List ℕ) → assembled_source source ≡ (items, Ok trie) → IsAssembled items trie
  assembled items trie is = grind (arith, source-accepted, source-refused)

  pub source-writable : (items : List Item) (trie : List ℕ) → assembled_source source ≡ (items, Ok trie) → AreWritable items trie
  source-writable items trie is =
      let from = assembled items trie is in
      record {
        valid = assembled-valid (lines_of source) items trie (sym is) (subst AreFit (sym from.items_are) (emission-fits from.none));
        padded = subst IsPadded (sym from.trie_is) (trie-padded from.none);
      }

  pub source-told : (items : List Item) (trie : List ℕ) → assembled_source source ≡ (items, Ok trie) → trie_answer trie ≡ Ok (symbols_of statements)
  source-told items trie is =
      let from = assembled items trie is in
      ap trie_answer from.trie_is ∙ told end (source-tellable from.none)

  pub source-few : (items : List Item) (trie : List ℕ) → assembled_source source ≡ (items, Ok trie) → length (written items ++ ending trie) ≤ 2 ^ 26
  source-few items trie is =
      let from = assembled items trie is in
      let short = object-short source bytes from.none in
      subst (λ items. length (written items ++ ending trie) ≤ 2 ^ 26) (sym from.items_are)
      (subst (λ trie. length (written (emission statements) ++ ending trie) ≤ 2 ^ 26) (sym from.trie_is) short)
