-- What is listed of an object with a fault.
use Rattle.std.proofs.Common.{◌≡◌, ◌≢◌, ℕ, ◌+◌, ◌≤◌, List, [], ◌++◌, length, Bool, true, false, cond, Result, Ok, Err, refl, sym, ◌∙◌, ap, subst, append-nil, arith}
use Rattle.std.specs.Prelude.{nat_lt}
use Rattle.std.specs.List.{concat}
use Rattle.std.proofs.lemmas.Bool.Decides.{nat_tests}
use Rattle.mx_word.specs.Ranges.{AreBytes}
use Rattle.mx_word.specs.declared.symbols.Symbol.{Symbol}
use Rattle.mx_mmo.specs.Replies.{limit, tail_of}
use Rattle.mx_mmo.specs.Turns.{ComeFirst, phase_end}
use Rattle.mx_mmo.specs.Whole.{Left, Walk, items_of}
use Rattle.mx_mmo.specs.declared.due.Phase.TheVariants.{Start}
use Rattle.mx_mmo.specs.declared.faults.MmoFault.{MmoFault}
use Rattle.mx_mmo.specs.declared.faults.MmoFault.TheVariants.{TooLong}
use Rattle.mx_mmo.specs.declared.items.Item.{Item}
use Rattle.mx_mmo.specs.declared.items.Tail.{Tail}
use Rattle.mx_mmo.proofs.Complete.{walk-spelled}
use Rattle.mx_mmo.proofs.Sound.{IsSoundWalk, items-sound}
use Rattle.mx_stab.specs.Reading.{trie_answer}
use Rattle.mx_stab.specs.declared.faults.StabFault.{StabFault}
use Rattle.mx_type.specs.Listing.{AreLines}
use Rattle.mx_type.proofs.Listed.{items-listed}
use Rattle.mx_files.specs.Typed.{Typed, item_lines, end_typed, tail_typed, trie_typed, unread, walk_typed, typed}
use Rattle.mx_outcome.specs.declared.outcome.Outcome.TheVariants.{Done}
use Rattle.law_runs.specs.WholeItems.{AreWholeItems}
use Rattle.law_runs.proofs.ListedObjects.{items-joined}

-- items that are first in bytes are the first that are read
first-read : (bytes : List ℕ) (others : List Item) (taken left : List ℕ) → ComeFirst Start bytes others taken left →
    (more : List Item) × ((items_of Start 0 bytes).0 ≡ others ++ more)
first-read bytes others taken left s = (
  (items_of (phase_end Start others) (0 + length taken) left).0,
  ap (λ (b : List ℕ). (items_of Start 0 b).0) s.whole
      ∙ ap (λ (w : Walk). w.0) (walk-spelled Start 0 left s.spelled s.turn s.specs s.ended),
)

walk-whole : (bytes : List ℕ) (w : Walk) → items_of Start 0 bytes ≡ w → IsSoundWalk Start 0 bytes w → AreWholeItems bytes w.0
walk-whole bytes (items, Ok left) e s = record {
  front = s.front;
  rest = left.rest;
  first = s.first;
  all = λ others taken left f. subst (λ (w : Walk). (more : List Item) × (w.0 ≡ others ++ more)) e (first-read bytes others taken left f);
}
walk-whole bytes (items, Err fault) e s = record {
  front = s.front;
  rest = s.rest;
  first = s.first;
  all = λ others taken left f. subst (λ (w : Walk). (more : List Item) × (w.0 ≡ others ++ more)) e (first-read bytes others taken left f);
}

-- where the end is at fault, it has no line
trie-silent : (place : ℕ) (trie : List ℕ) (r : Result (List Symbol) StabFault) → (trie_typed place trie r).1 ≢ Done 0 → (trie_typed place trie r).0 ≡ []
trie-silent place trie (Ok symbols) n = absurd (n refl)
trie-silent place trie (Err fault) n = refl

tail-silent : (r : Result Tail MmoFault) → (tail_typed r).1 ≢ Done 0 → (tail_typed r).0 ≡ []
tail-silent (Ok tail) n = trie-silent tail.place tail.trie (trie_answer tail.trie) n
tail-silent (Err fault) n = refl

end-silent : (r : Result Left MmoFault) → (end_typed r).1 ≢ Done 0 → (end_typed r).0 ≡ []
end-silent (Ok left) n = tail-silent (tail_of left.phase left.at left.rest) n
end-silent (Err fault) n = refl

either-lines : (long : Bool) (x : Typed) (w : Walk) → long ≡ false → (cond long x (walk_typed 0 w)).1 ≢ Done 0 → (cond long x (walk_typed 0 w)).0 ≡ item_lines 0 w.0
either-lines true x w h n = absurd (cc)
either-lines false x w h n = ap (λ lines. item_lines 0 w.0 ++ lines) (end-silent w.1 n) ∙ append-nil (item_lines 0 w.0)

not-long : (n : ℕ) → n ≤ limit → nat_lt limit n ≡ false
not-long n h = grind (arith, nat_tests)

items-lines : (bytes : List ℕ) → length bytes ≤ limit → (typed bytes).1 ≢ Done 0 → (typed bytes).0 ≡ item_lines 0 (items_of Start 0 bytes).0
unfolding typed
items-lines bytes l n = either-lines (nat_lt limit (length bytes)) ([], unread (TooLong limit)) (items_of Start 0 bytes) (not-long (length bytes) l) n

pub whole_items_listed : (bytes : List ℕ) → AreBytes bytes → length bytes ≤ limit → (typed bytes).1 ≢ Done 0 →
    (items : List Item) × AreWholeItems bytes items × AreLines items (concat (typed bytes).0)
whole_items_listed bytes b l n =
    let items : List Item = (items_of Start 0 bytes).0 in (
      items,
      walk-whole bytes (items_of Start 0 bytes) refl (items-sound bytes b),
      subst (AreLines items) (sym (ap concat (items-lines bytes l n) ∙ items-joined 0 items)) (items-listed items),
    )
