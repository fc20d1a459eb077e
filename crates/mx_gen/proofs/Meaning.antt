-- A source that is generated is not refused.
use Rattle.std.proofs.Common.{◌≡◌, ℕ, ◌/◌, ◌≤◌, Bool, true, false, cond, List, [], length, map, Option, None, Some, Ok, ap, ◌∙◌, arith, nat_lt, is_some, rules}
use Rattle.mx_gen.proofs.Words.{le-ltb, Value, Pure, lines_of, predefined_value, value_in, pure_of, first_value, Known, Entry, source_entries, statements_in, refusal_in, nothing_known, final_known, sights_of, main_name, padded_trie, first_of, first_fault, locals, trie_limit, last_fault, end_fault, at_line, last_line, end_refusal, entries_refusal, refusal, accepted, page_refusal, accepted_in, run_refusal_with, run_refusal, generated, program}
use Rattle.mx_asm.specs.declared.faults.AsmFault.{AsmFault}
use Rattle.mx_asm.specs.declared.faults.AsmFault.TheVariants.{SymbolsTooMany}
use Rattle.mx_gen.proofs.Lines.{statements-are, none-refused}
use Rattle.mx_gen.proofs.SourceRead.{generated-read}
use Rattle.mx_gen.proofs.Refusals.{AreGood, faultless, all-defined, no-locals}
use Rattle.mx_gen.proofs.Pages.{no-page-refused, fine-accepted}
use Rattle.mx_gen.proofs.Tries.{trie-short}
use Rattle.mx_gen.proofs.Names.{block_full, procedure_full}
use Rattle.mx_gen.proofs.Walk.{AreFinal, program-known, program-good}

there-first : (o p : Option Value) → is_some o ≡ true → is_some (first_value o p) ≡ true
there-first o p h = search rules

abbrev too_many : Bool → Option AsmFault
too_many b = cond b (Some SymbolsTooMany) None

module _ (n : ℕ) (few : n ≤ 10000) where
  abbrev end : Known
  end = final_known (program n)

  finals : AreFinal n end.names
  finals =
      let known = program-known n few in
      record {
        block = λ j above most. there-first (value_in (block_full j) end.names.symbols) (pure_of (predefined_value (block_full j))) (known.blocks j above most);
        procedure = there-first (value_in procedure_full end.names.symbols) (pure_of (predefined_value procedure_full)) known.procedure;
      }

  good : AreGood end.names nothing_known (program n)
  good = program-good end.names n few finals

  trie-fits : nat_lt trie_limit (length (padded_trie end.names) / 4) ≡ false
  trie-fits =
      let known = program-known n few in
      let count = known.count in
      le-ltb trie_limit (length (padded_trie end.names) / 4) (trie-short end.names known.light (omega (arith, count, few)))

  no-end-fault : end_fault end (locals (sights_of (program n))) ≡ None
  no-end-fault =
      ap (last_fault end (locals (sights_of (program n)))) (ap (λ o. first_value o (pure_of (predefined_value main_name))) (program-known n few).main)
      ∙ ap (λ registers. last_fault end registers (Some (Pure 0x100))) (no-locals (sights_of (program n)) good.fine)
      ∙ ap too_many trie-fits

  no-end-refusal : (last : ℕ) → end_refusal last (program n) ≡ None
  no-end-refusal last =
      ap (λ r. first_of r (at_line last (end_fault end (locals (sights_of (program n)))))) (all-defined end.names (sights_of (program n)) good.met)
      ∙ ap (at_line last) no-end-fault

  abbrev entries : List Entry
  entries = map Ok (program n)

  no-entries-refusal : entries_refusal entries ≡ None
  no-entries-refusal =
      ap (λ ss. first_of (first_fault [] (sights_of ss)) (refusal_in entries)) (statements-are (program n))
      ∙ ap (λ r. first_of r (refusal_in entries)) (faultless [] (sights_of (program n)) tt good.fine)
      ∙ none-refused (program n)

  -- a source with these entries is not refused
  none-by : (last : ℕ) (es : List Entry) → es ≡ entries → first_of (entries_refusal es) (end_refusal last (statements_in es)) ≡ None
  none-by last es is = grind (arith, no-entries-refusal, statements-are, no-end-refusal)

  pub not-refused : refusal (generated n) ≡ None
  not-refused = none-by (last_line (lines_of (generated n))) (source_entries (generated n)) (generated-read n few)

  pages-fit : page_refusal (accepted_in (source_entries (generated n))) ≡ None
  pages-fit =
      ap (λ es. page_refusal (accepted_in es)) (generated-read n few)
      ∙ ap (λ ss. page_refusal (accepted [] (sights_of ss))) (statements-are (program n))
      ∙ no-page-refused [] (accepted [] (sights_of (program n))) tt (fine-accepted [] (sights_of (program n)) good.fine)

  pub not-refused-run : run_refusal (generated n) ≡ None
  not-refused-run = ap (λ p. run_refusal_with p (refusal (generated n))) pages-fit ∙ ap (run_refusal_with None) not-refused

  pub statements-of : statements_in (source_entries (generated n)) ≡ program n
  statements-of = ap statements_in (generated-read n few) ∙ statements-are (program n)
