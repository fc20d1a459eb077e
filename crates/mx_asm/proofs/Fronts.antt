-- What is added so far is a front of what is due, entry by entry.
use Rattle.std.proofs.Common.{◌≡◌, ℕ, ◌+◌, Bool, true, false, cond, List, [], ◌∷◌, ◌++◌, Option, None, Some, Result, Ok, Err, refl, ap, sym, ◌∙◌, append_assoc, append-nil, ◌<◌, ◌≤◌, map, arith, IfSome, subst, rules}
use Rattle.mx_asm.proofs.Words.{Wait, Item, AsmFault, Refused, Entry, line_entries, IsFront, Assembly, Taken, Progress, after_entry, and_entries, entry_taken, entries_taken, count_fault, counted, line_unless, line_taken, ended_main, ended_waits, ended, Span, LineFault, Cut, cuts_from, list_with, LabelBefore, InOrder, item_of, CutWithin, refused, entry_of, entries_of}
use Rattle.mx_asm.specs.declared.faults.AsmFault.TheVariants.{Line}

-- ---- what is added so far is a front of what is due

pub front-refl : (xs : List Item) → IsFront xs xs
front-refl xs = ([], sym (append-nil xs))

pub front-same : (xs ys : List Item) → xs ≡ ys → IsFront xs ys
front-same xs ys h = ([], sym h ∙ sym (append-nil xs))

pub front-append : (xs ys : List Item) → IsFront xs (xs ++ ys)
front-append xs ys = (ys, refl)

pub front-trans : (xs ys zs : List Item) → IsFront xs ys → IsFront ys zs → IsFront xs zs
front-trans xs ys zs h g = (h.0 ++ g.0, g.1 ∙ ap (λ l. l ++ g.0) h.1 ∙ append_assoc xs h.0 g.0)

pub after-front : (out : List Item) (t : Taken) → IsFront out (after_entry out t).0
after-front out (Err refused) = front-refl out
after-front out (Ok (items, a)) = front-append out items

and-front : (more : List Item → Assembly → Progress) → ((out : List Item) (a : Assembly) → IsFront out (more out a).0) → (p : Progress) → IsFront p.0 (and_entries more p).0
and-front more h (out, Err refused) = front-refl out
and-front more h (out, Ok a) = h out a

pub entries-front : (entries : List Entry) (out : List Item) (a : Assembly) → IsFront out (entries_taken entries out a).0
unfolding entries_taken
entries-front [] out a = front-refl out
entries-front (e ∷ entries) out a =
    front-trans out (after_entry out (entry_taken a e)).0 (and_entries (entries_taken entries) (after_entry out (entry_taken a e))).0
    (after-front out (entry_taken a e)) (and-front (entries_taken entries) (entries-front entries) (after_entry out (entry_taken a e)))

pub rest-front : (entries : List Entry) (p : Progress) → IsFront p.0 (and_entries (entries_taken entries) p).0
rest-front entries p = and-front (entries_taken entries) (entries-front entries) p

unless-front : (f : Option Refused) (out : List Item) (a : Assembly) (text : List ℕ) → IsFront out (line_unless f out a text).0
unless-front (Some refused) out a text = front-refl out
unless-front None out a text = entries-front (line_entries (a.lines + 1) text) out (counted a text)

pub line-front : (out : List Item) (a : Assembly) (text : List ℕ) → IsFront out (line_taken out a text).0
line-front out a text = unless-front (count_fault a text) out a text

trie-front : (long : Bool) (out more : List Item) (r : Refused) (trie : List ℕ) → IsFront out (cond {A = List Item × Result (List ℕ) Refused} long (out, Err r) (out ++ more, Ok trie)).0
trie-front true out more r trie = front-refl out
trie-front false out more r trie = front-append out more

main-front : (f : Option AsmFault) (out : List Item) (a : Assembly) → IsFront out (ended_main out a f).0
main-front (Some fault) out a = front-refl out
main-front None out a = trie-front _ out _ _ _

waits-front : (w : Option Wait) (out : List Item) (a : Assembly) → IsFront out (ended_waits out a w).0
waits-front (Some wait) out a = front-refl out
waits-front None out a = main-front _ out a

pub end-front : (out : List Item) (a : Assembly) → IsFront out (ended out a).0
end-front out a = waits-front _ out a

pub ruleset fronts = (front-refl, front-append, after-front)

-- ---- the entries of a line, taken one after another

-- what the statements of a line from a place on come to
abbrev pub taken_from : ℕ → List ℕ → ℕ → List Item → Assembly → Progress
taken_from line text at out a = entries_taken (entries_of (map (item_of line text) (cuts_from text at))) out a

module _ (line : ℕ) (text : List ℕ) where
  none-taken : (at : ℕ) (out : List Item) (a : Assembly) → cuts_from text at ≡ [] → taken_from line text at out a ≡ (out, Ok a)
  unfolding entries_taken
  none-taken at out a h = ap (λ cuts. entries_taken (entries_of (map (item_of line text) cuts)) out a) h

  pub taken-none : (at : ℕ) (out : List Item) (a : Assembly) (found : Option Cut) → found ≡ None → cuts_from text at ≡ list_with (cuts_from text) (Ok found) → taken_from line text at out a ≡ (out, Ok a)
  taken-none at out a found e h = none-taken at out a (h ∙ ap (λ f. list_with (cuts_from text) (Ok f)) e)

  pub taken-fault : (at : ℕ) (out : List Item) (a : Assembly) (fault : LineFault) → cuts_from text at ≡ list_with (cuts_from text) (Err fault) → taken_from line text at out a ≡ (out, Err (refused line (Line fault)))
  unfolding entries_taken
  taken-fault at out a fault h = ap (λ cuts. entries_taken (entries_of (map (item_of line text) cuts)) out a) h

  taken-more : (at : ℕ) (out : List Item) (a : Assembly) (cut : Cut) → cuts_from text at ≡ list_with (cuts_from text) (Ok (Some cut)) →
      taken_from line text at out a ≡ and_entries (taken_from line text cut.next) (after_entry out (entry_taken a (entry_of (item_of line text (Ok cut)))))
  unfolding entries_taken
  taken-more at out a cut h = ap (λ cuts. entries_taken (entries_of (map (item_of line text) cuts)) out a) h

  pub taken-failed : (at : ℕ) (out next : List Item) (a : Assembly) (cut : Cut) (r : Refused) (found : Option Cut) → found ≡ Some cut → cuts_from text at ≡ list_with (cuts_from text) (Ok found) →
      (next, Err r) ≡ after_entry out (entry_taken a (entry_of (item_of line text (Ok cut)))) → taken_from line text at out a ≡ (next, Err r)
  taken-failed at out next a cut r found e h is = taken-more at out a cut (h ∙ ap (λ f. list_with (cuts_from text) (Ok f)) e) ∙ ap (and_entries (taken_from line text cut.next)) (sym is)

  pub taken-next : (at : ℕ) (out next : List Item) (a b : Assembly) (cut : Cut) (found : Option Cut) → found ≡ Some cut → cuts_from text at ≡ list_with (cuts_from text) (Ok found) →
      (next, Ok b) ≡ after_entry out (entry_taken a (entry_of (item_of line text (Ok cut)))) → taken_from line text cut.next next b ≡ taken_from line text at out a
  taken-next at out next a b cut found e h is = sym (taken-more at out a cut (h ∙ ap (λ f. list_with (cuts_from text) (Ok f)) e) ∙ ap (and_entries (taken_from line text cut.next)) (sym is))

  pub taken-front : (at : ℕ) (out : List Item) (a : Assembly) (cut : Cut) (found : Option Cut) → found ≡ Some cut → cuts_from text at ≡ list_with (cuts_from text) (Ok found) →
      IsFront (after_entry out (entry_taken a (entry_of (item_of line text (Ok cut))))).0 (taken_from line text at out a).0
  taken-front at out a cut found e h =
      subst (λ p. IsFront (after_entry out (entry_taken a (entry_of (item_of line text (Ok cut))))).0 p.0) (sym (taken-more at out a cut (h ∙ ap (λ f. list_with (cuts_from text) (Ok f)) e)))
      (rest-front (entries_of (map (item_of line text) (cuts_from text cut.next))) (after_entry out (entry_taken a (entry_of (item_of line text (Ok cut))))))

pub cut-within : (place end : ℕ) (cut : Cut) → InOrder place end cut → CutWithin end cut
cut-within place end cut h = search rules

before-op : (place op : ℕ) (label : Option Span) → LabelBefore place label op → place < op
before-op place op label h = search rules

pub within-line : (place end : ℕ) (cut : Cut) (found : Option Cut) → found ≡ Some cut → IfSome found (InOrder place end) → cut.next ≤ end
within-line place end cut found e h = search rules

pub cut-after : (place end : ℕ) (cut : Cut) → InOrder place end cut → place < cut.next
cut-after place end cut h = omega (arith, before-op place cut.op.from cut.label h.label, h.op, h.gap, h.operands, h.next)

pub after-line : (place end : ℕ) (cut : Cut) (found : Option Cut) → found ≡ Some cut → IfSome found (InOrder place end) → place < cut.next
after-line place end cut found e h = search (rules, cut-after)

pub ruleset entering = (taken-none, taken-fault, taken-failed, taken-next, cut-within, cut-after)
