-- Objects that are listed, beside what is loaded of them.
use Rattle.std.proofs.Common.{◌≡◌, ◌≢◌, ℕ, ◌≤◌, List, length, Bool, true, false, cond, Result, Ok, Err, refl, sym, ◌∙◌, ap, inl, inr}
use Rattle.std.specs.Prelude.{nat_lt}
use Rattle.std.proofs.lemmas.Bool.{cases_lt}
use Rattle.mx_word.specs.declared.symbols.Symbol.{Symbol}
use Rattle.mx_mmo.specs.Image.{Image}
use Rattle.mx_mmo.specs.Meaning.{Loading, Meaningless, PagesFull, BadPlace, NoFile, image_in, meaning, nothing, take_items}
use Rattle.mx_mmo.specs.Replies.{limit, tail_of}
use Rattle.mx_mmo.specs.Whole.{Walk, items_of, object_of, object_after, with_tail}
use Rattle.mx_mmo.specs.declared.due.Phase.TheVariants.{Start}
use Rattle.mx_mmo.specs.declared.faults.MmoFault.{MmoFault}
use Rattle.mx_mmo.specs.declared.faults.MmoFault.TheVariants.{TooLong}
use Rattle.mx_mmo.specs.declared.items.Item.{Item}
use Rattle.mx_mmo.specs.declared.items.Object.{Object}
use Rattle.mx_mmo.specs.declared.items.Tail.{Tail}
use Rattle.mx_load.specs.Faults.{fault_of, number_of}
use Rattle.mx_load.specs.Objects.{fault_at, object_loaded, trie_read, with_symbols}
use Rattle.mx_load.proofs.Apart.{object-holds, loaded-means, fault-of-reading, fault-of-meaning, too-long}
use Rattle.mx_stab.specs.Reading.{trie_answer}
use Rattle.mx_stab.specs.declared.faults.StabFault.{StabFault}
use Rattle.mx_files.specs.Typed.{Typed, trie_typed, typed}
use Rattle.mx_outcome.specs.declared.outcome.Outcome.TheVariants.{Done, BadObject}
use Rattle.law_runs.proofs.ListedObjects.{object-typed, fault-typed, trie-fault, long-outcome}

-- what is loaded is listed
pub loaded-listed : (bytes : List ℕ) (m : Image) (symbols : List Symbol) → object_loaded bytes ≡ Ok (m, symbols) → (typed bytes).1 ≡ Done 0
loaded-listed bytes m symbols h =
    let means = loaded-means bytes m symbols h in
    let object : Object = means.0 in
    ap (λ (t : Typed). t.1) (object-typed bytes object means.1)
    ∙ ap (λ r. (trie_typed object.tail.place object.tail.trie r).1) means.3

-- a fault that is told
told-as : (place fault : ℕ) (p : ℕ × ℕ) → ◌≡◌ {A = Result (Image × List Symbol) (ℕ × ℕ)} (Err (place, fault)) (Err p) → BadObject p.0 p.1 ≡ BadObject place fault
told-as place fault p e =
    let pair : ◌≡◌ {A = ℕ × ℕ} (place, fault) p = cc in
    sym (ap (λ (q : ℕ × ℕ). BadObject q.0 q.1) pair)

-- a fault of meaning has one of three numbers
no-meaning : {A : Type 0} (fault : ℕ) (e : Meaningless) → fault ≡ number_of (fault_of e) → fault ≢ 90 → fault ≢ 95 → fault ≢ 96 → A
no-meaning fault PagesFull is a b c = absurd (a is)
no-meaning fault BadPlace is a b c = absurd (b is)
no-meaning fault NoFile is a b c = absurd (c is)

-- the items of an object are those that were read
tail-items : (items : List Item) (r : Result Tail MmoFault) (object : Object) → with_tail items r ≡ Ok object → items ≡ object.items
tail-items items (Ok tail) object e =
    let is : record { items = items; tail = tail } ≡ object = cc in
    ap (λ (o : Object). o.items) is
tail-items items (Err fault) object e = absurd (cc)

walk-items : (w : Walk) (object : Object) → object_after w.0 w.1 ≡ Ok object → w.0 ≡ object.items
walk-items (items, Ok left) object e = tail-items items (tail_of left.phase left.at left.rest) object e
walk-items (items, Err fault) object e = absurd (cc)

either-items : (b : Bool) (long : MmoFault) (w : Walk) (object : Object) → cond b (Err long) (object_after w.0 w.1) ≡ Ok object → w.0 ≡ object.items
either-items true long w object e = absurd (cc)
either-items false long w object e = walk-items w object e

read-items : (bytes : List ℕ) (object : Object) → object_of bytes ≡ Ok object → (items_of Start 0 bytes).0 ≡ object.items
read-items bytes object e = either-items (nat_lt limit (length bytes)) (TooLong limit) (items_of Start 0 bytes) object e

abbrev TellsFault : List ℕ → ℕ → ℕ → Type 0
TellsFault bytes place fault = (typed bytes).1 ≡ BadObject place fault

in-trie : (bytes : List ℕ) (object : Object) (m : Image) (place fault : ℕ) → object_of bytes ≡ Ok object → (r : Result (List Symbol) StabFault) → trie_answer object.tail.trie ≡ r →
    with_symbols m (trie_read object.tail.place r) ≡ Err (place, fault) → TellsFault bytes place fault
in-trie bytes object m place fault e (Ok symbols) f h = absurd (cc)
in-trie bytes object m place fault e (Err other) f h = trie-fault bytes object other e f ∙ told-as place fault _ (sym h)

in-object : (bytes : List ℕ) (s : Loading) (place fault : ℕ) → take_items (items_of Start 0 bytes).0 (Ok nothing) ≡ Ok s → length bytes ≤ limit →
    (o : Result Object MmoFault) → object_of bytes ≡ o → object_loaded bytes ≡ Err (place, fault) → TellsFault bytes place fault
in-object bytes s place fault g l (Err other) e h =
    fault-typed bytes other e ∙ told-as place fault (fault_at other) (sym h ∙ fault-of-reading bytes s other l e g)
in-object bytes s place fault g l (Ok object) e h =
    let means : meaning object.items ≡ Ok s.image = ap meaning (sym (read-items bytes object e)) ∙ ap image_in g in
    in-trie bytes object s.image place fault e (trie_answer object.tail.trie) refl (sym (object-holds bytes object s.image e means) ∙ h)

in-items : (bytes : List ℕ) (place fault : ℕ) → length bytes ≤ limit → (r : Result Loading Meaningless) → take_items (items_of Start 0 bytes).0 (Ok nothing) ≡ r →
    object_loaded bytes ≡ Err (place, fault) → fault ≢ 90 → fault ≢ 95 → fault ≢ 96 → TellsFault bytes place fault
in-items bytes place fault l (Ok s) g h a b c = in-object bytes s place fault g l (object_of bytes) refl h
in-items bytes place fault l (Err e) g h a b c =
    let told = fault-of-meaning bytes e l g in
    let same : ◌≡◌ {A = Result (Image × List Symbol) (ℕ × ℕ)} (Err (place, fault)) (Err (told.0, number_of (fault_of e))) = sym h ∙ told.2 in
    let pair : ◌≡◌ {A = ℕ × ℕ} (place, fault) (told.0, number_of (fault_of e)) = cc in
    no-meaning fault e (ap (λ (p : ℕ × ℕ). p.1) pair) a b c

pub fault-listed : (bytes : List ℕ) (place fault : ℕ) → object_loaded bytes ≡ Err (place, fault) → fault ≢ 90 → fault ≢ 95 → fault ≢ 96 → (typed bytes).1 ≡ BadObject place fault
fault-listed bytes place fault h a b c = elim (cases_lt limit (length bytes)) [
  | inl far ↦ long-outcome bytes far ∙ told-as place fault (fault_at (TooLong limit)) (sym h ∙ too-long bytes far)
  | inr near ↦ in-items bytes place fault near (take_items (items_of Start 0 bytes).0 (Ok nothing)) refl h a b c
]
