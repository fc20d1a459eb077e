-- An object that is listed, line by line.
use Rattle.std.proofs.Common.{◌≡◌, ◌≢◌, ℕ, List, [], ◌∷◌, ◌++◌, map, Bool, true, false, cond, Option, None, Some, inl, inr, refl, sym, ◌∙◌, ap, subst, arith, append_assoc, IsTrue}
use Rattle.std.proofs.lemmas.Bool.Decides.{nat_tests}
use Rattle.std.proofs.lemmas.Grind.{common_steps}
use Rattle.std.proofs.lemmas.List.{drop_more}
use Rattle.std.specs.Prelude.{◌+◌, ◌==◌, Result, Ok, Err, ◌<◌, ◌≤◌, drop, get_or, length, nat_lt}
use Rattle.mx_host.specs.HostModel.{HostModel, tells, contents}
use Rattle.mx_mmo.specs.Replies.{ReaderModel, feed_answer, finish_answer, finish_next, finished, fresh, limit, next_answer, refused, tail_of}
use Rattle.mx_mmo.specs.Whole.{Left, Walk, items_of, left_of}
use Rattle.mx_mmo.specs.declared.faults.MmoFault.{MmoFault}
use Rattle.mx_mmo.specs.declared.faults.MmoFault.TheVariants.{TooLong}
use Rattle.mx_mmo.specs.declared.due.Phase.TheVariants.{Start}
use Rattle.mx_mmo.specs.declared.items.Item.{Item}
use Rattle.mx_mmo.specs.declared.items.Tail.{Tail}
use Rattle.mx_mmo.proofs.Nexts.{next-gave, next-none, next-fault, finish-fault, reader-is, result-is}
use Rattle.mx_plan.specs.Calls.{host, need}
use Rattle.mx_plan.specs.Held.{Makes}
use Rattle.mx_plan.specs.Plan.{bind, end_of, Stops, IsRest}
use Rattle.mx_stab.specs.Reading.{trie_answer}
use Rattle.mx_stab.specs.declared.faults.StabFault.{StabFault}
use Rattle.mx_type.specs.Lambda.{lambda_after}
use Rattle.mx_type.specs.Texts.{item_text}
use Rattle.mx_word.specs.declared.symbols.Symbol.{Symbol}
use Rattle.mx_files.specs.Clauses.{Serves, DoesPartBetween, Leaves, is_end}
use Rattle.mx_files.specs.FilePlans.{Part, line_plan, made_plan, lines_plan}
use Rattle.mx_files.specs.ObjectPlans.{typed_end, typed_plan, shown_plan, item_plan}
use Rattle.mx_files.specs.Typed.{Typed, shown, item_lines, tail_lines, trie_typed, with_lines_first, end_typed, unread, tail_typed, walk_typed, still_typed, typed}
use Rattle.mx_outcome.specs.declared.outcome.Outcome.{Outcome}
use Rattle.mx_outcome.specs.declared.outcome.Outcome.TheVariants.{Done, Usage, NoFile, HostFault, Refused, BadObject, BadSchedule, Stopped, StepsSpent, Quit, ConsoleLimit, OutOfMemory}
use Rattle.mx_files.proofs.FileParts.{lines-end}
use Rattle.mx_plan.proofs.KeptHosts.{keeps_host-all}
use Rattle.mx_files.proofs.Parts.{works-on, works-then, works-ends, works-done, leaves-all, leaves-on, leaves-next, leaves-bind}

-- ---- lines and outcomes

after-after : (xs ys : List (List ℕ)) (t : Typed) → with_lines_first xs (with_lines_first ys t) ≡ with_lines_first (xs ++ ys) t
after-after xs ys t = ap (λ zs. (zs, t.1)) (sym (append_assoc xs ys t.0))

-- memory may run out before anything of a listing is written
abbrev pub Lacks : Typed → Type 0
Lacks t = (m : HostModel) → Stops host m (typed_plan t) m

lines-lack : (line : List ℕ) (lines : List (List ℕ)) (outcome : Outcome) → Lacks (line ∷ lines, outcome)
unfolding typed_plan lines_plan made_plan bind need Stops host
lines-lack line lines outcome m = inl refl

fault-lacks : (place fault : ℕ) → Lacks ([], BadObject place fault)
unfolding typed_plan lines_plan bind need Stops host
fault-lacks place fault m = inl refl

after-lacks : (lines : List (List ℕ)) (t : Typed) → Lacks t → Lacks (with_lines_first lines t)
after-lacks [] t h = h
after-lacks (line ∷ lines) t h = lines-lack line (lines ++ t.0) t.1

trie-lacks : (place : ℕ) (trie : List ℕ) (r : Result (List Symbol) StabFault) → Lacks (trie_typed place trie r)
trie-lacks place trie (Ok symbols) = lines-lack _ _ (Done 0)
trie-lacks place trie (Err fault) = fault-lacks _ _

pub tail-lacks : (r : Result Tail MmoFault) → Lacks (tail_typed r)
tail-lacks (Ok tail) = trie-lacks tail.place tail.trie (trie_answer tail.trie)
tail-lacks (Err fault) = fault-lacks _ _

pub end-lacks : (r : Result Left MmoFault) → Lacks (end_typed r)
end-lacks (Ok left) = tail-lacks (tail_of left.phase left.at left.rest)
end-lacks (Err fault) = fault-lacks _ _

pub walk-lacks : (lambda : ℕ) (w : Walk) → Lacks (walk_typed lambda w)
walk-lacks lambda w = after-lacks (item_lines lambda w.0) (end_typed w.1) (end-lacks w.1)

either-lacks : (b : Bool) (t u : Typed) → Lacks t → Lacks u → Lacks (cond b t u)
either-lacks true t u h k = h
either-lacks false t u h k = k

pub typed-lacks : (object : List ℕ) → Lacks (typed object)
unfolding typed
typed-lacks object = either-lacks (nat_lt limit (length object)) _ _ (fault-lacks _ _) (walk-lacks 0 (items_of Start 0 object))

-- ---- calls

refused-end : (r : Outcome) (m : HostModel) → is_end r ≡ true → end_of host (typed_plan ([], r)) m ≡ (Err r, m)
unfolding typed_plan lines_plan bind need end_of host
refused-end (Done status) m i = absurd (cc)
refused-end (Usage fault) m i = absurd (cc)
refused-end (BadSchedule place) m i = refl
refused-end (Stopped pc reason) m i = absurd (cc)
refused-end (StepsSpent steps) m i = absurd (cc)
refused-end Quit m i = absurd (cc)
refused-end ConsoleLimit m i = absurd (cc)
refused-end NoFile m i = refl
refused-end HostFault m i = refl
refused-end (Refused line fault from_line) m i = refl
refused-end (BadObject place fault) m i = refl
refused-end OutOfMemory m i = refl

-- no line, but an outcome
pub refused-works : (a : Option HostModel) (k : ℕ) (r : Outcome) (t : Typed) → Lacks t → is_end r ≡ true → r ≢ HostFault → r ≢ NoFile → (r ≢ OutOfMemory → t ≡ ([], r)) → DoesPartBetween a a k k (Err r) (typed_plan t)
refused-works a k r t lacks i h n is = record {
  told = λ u. record {
    ending = λ ne. sym (ap (λ (s : Typed). end_of host (typed_plan s) (contents a)) (is (λ e. ne (cc))) ∙ refused-end r (contents a) i);
    stopping = λ e. lacks (contents a);
  };
  cause = λ s e. absurd (h (cc));
  absent = λ u e. absurd (n (cc));
  ends = i;
  keeps = keeps_host-all a k;
}

-- all lines, where nothing is left but that
pub done-works : (a b : Option HostModel) (k m : ℕ) (lines : List (List ℕ)) (r : Result (Unit {0}) Outcome) → DoesPartBetween a b k m r (lines_plan lines) → DoesPartBetween a b k m r (typed_plan (lines, Done 0))
unfolding typed_plan
done-works a b k m lines (Ok u) w = works-then a b b k m m tt (Ok tt) (λ v. typed_end (Done 0)) (lines_plan lines) w (works-done b m tt)
done-works a b k m lines (Err outcome) w = works-ends a b k m outcome (λ v. typed_end (Done 0)) (lines_plan lines) w

pub works-named : (a b : Option HostModel) (k m : ℕ) (r : Result (Unit {0}) Outcome) (t u : Typed) → t ≡ u → DoesPartBetween a b k m r (typed_plan u) → DoesPartBetween a b k m r (typed_plan t)
works-named a b k m r t u e w = subst (λ (x : Typed). DoesPartBetween a b k m r (typed_plan x)) (sym e) w

pub leaves-named : (a : Option HostModel) (k : ℕ) (t u : Typed) → t ≡ u → Leaves a a k k (typed_plan u) (typed_plan t)
leaves-named a k t u e = subst (λ (x : Typed). Leaves a a k k (typed_plan u) (typed_plan x)) (sym e) (leaves-all a k (typed_plan u))

-- ---- a text that is shown

zero-of : (n : ℕ) → (n == 0) ≡ true → n ≡ 0
zero-of n h = grind (arith, nat_tests)

pub shown-none : (a : Option HostModel) (k : ℕ) (text : List ℕ) → (length text == 0) ≡ true → DoesPartBetween a a k k (Ok tt) (shown_plan text)
shown-none a k [] h = works-done a k tt
shown-none a k (x ∷ text) h = absurd (omega (arith, zero-of _ h))

pub shown-some : (a b : Option HostModel) (k m : ℕ) (text : List ℕ) (r : Result (Unit {0}) Outcome) → (length text == 0) ≡ false → DoesPartBetween a b k m r (line_plan text) → DoesPartBetween a b k m r (shown_plan text)
shown-some a b k m [] r h w = absurd (cc)
shown-some a b k m (x ∷ text) r h w = w

-- ---- an item, and the rest after it

none-shown : (a b : Option HostModel) (k m : ℕ) → DoesPartBetween a b k m (Ok tt) (item_plan []) → IsTrue (tells a) → contents b ≡ contents a
unfolding item_plan bind need end_of host
none-shown a b k m w t = ap (λ (e : Result (Unit {0}) Outcome × HostModel). e.1) ((w.told t).ending (λ e. absurd (cc)))

none-lacks : (m n : HostModel) → Stops host n (item_plan []) m → n ≡ m
unfolding item_plan bind need Stops host
none-lacks m n (inl e) = e
none-lacks m n (inr none) = absurd none

none-made : (m : HostModel) → Makes host Serves (item_plan []) m
unfolding item_plan bind need Makes host
none-made m = (tt, tt)

none-end : (m : HostModel) → end_of host (item_plan []) m ≡ (Ok tt, m)
unfolding item_plan bind need end_of host
none-end m = refl

one-made : (a b : Option HostModel) (k m : ℕ) (r : Result (Unit {0}) Outcome) (x : ℕ) (text : List ℕ) → DoesPartBetween a b k m r (item_plan (x ∷ text)) → DoesPartBetween a b k m r (made_plan (x ∷ text))
unfolding item_plan made_plan
one-made a b k m r x text w = w

line-leaves : (a b : Option HostModel) (k m : ℕ) (line : List ℕ) (lines : List (List ℕ)) (outcome : Outcome) → DoesPartBetween a b k m (Ok tt) (made_plan line) →
    Leaves a b k m (typed_plan (lines, outcome)) (typed_plan (line ∷ lines, outcome))
unfolding typed_plan lines_plan
line-leaves a b k m line lines outcome w =
    leaves-bind a b k m (λ u. typed_end outcome) (lines_plan lines) (lines_plan (line ∷ lines)) (leaves-next a b k m tt (λ u. lines_plan lines) (made_plan line) w)

pub item-leaves : (a b : Option HostModel) (k m : ℕ) (text : List ℕ) (t : Typed) → DoesPartBetween a b k m (Ok tt) (item_plan text) → Leaves a b k m (typed_plan t) (typed_plan (with_lines_first (shown text) t))
item-leaves a b k m [] t w = record {
  told = λ u. subst (λ n. IsRest host (typed_plan t) n (typed_plan t) (contents a)) (sym (none-shown a b k m w u)) (record { ending = refl; stopping = λ v h. h });
  cause = λ s u. let v : IsTrue (tells a) = subst IsTrue w.keeps.0 u in subst (λ n. Makes host Serves (typed_plan t) n) (sym (none-shown a b k m w v)) (s v);
  keeps = w.keeps;
}
item-leaves a b k m (x ∷ text) t w = line-leaves a b k m (x ∷ text) t.0 t.1 (one-made a b k m (Ok tt) x text w)

pub item-ends : (a b : Option HostModel) (k m : ℕ) (text : List ℕ) (t : Typed) (outcome : Outcome) → Lacks t → DoesPartBetween a b k m (Err outcome) (item_plan text) → DoesPartBetween a b k m (Err outcome) (typed_plan (with_lines_first (shown text) t))
unfolding typed_plan lines_plan
item-ends a b k m [] t outcome lacks w = record {
  told = λ u. record {
    ending = λ ne. let is = ap (λ (x : Result (Unit {0}) Outcome × HostModel). x.0) ((w.told u).ending ne ∙ none-end (contents a)) in absurd (cc);
    stopping = λ e. subst (λ n. Stops host n (typed_plan t) (contents a)) (sym (none-lacks (contents a) (contents b) ((w.told u).stopping e))) (lacks (contents a));
  };
  cause = λ s e. w.cause (λ u. none-made (contents a)) e;
  absent = w.absent;
  ends = w.ends;
  keeps = w.keeps;
}
item-ends a b k m (x ∷ text) t outcome lacks w =
    works-ends a b k m outcome (λ u. typed_end t.1) (lines_plan ((x ∷ text) ∷ t.0)) (works-ends a b k m outcome (λ u. lines_plan t.0) (made_plan (x ∷ text)) (one-made a b k m (Err outcome) x text w))

-- ---- what a reader still gives

pub still-none : (lambda : ℕ) (m n : ReaderModel) → m.fault ≡ None → (Ok None, n) ≡ next_answer m → still_typed lambda m ≡ end_typed (Ok (left_of n))
unfolding item_lines
still-none lambda m n well h =
    let is = next-none m n well h in
    ap (walk_typed lambda) is.1 ∙ ap (λ (r : ReaderModel). end_typed (Ok (left_of r))) (sym is.0)

pub still-fault : (lambda : ℕ) (m n : ReaderModel) (fault : MmoFault) → m.fault ≡ None → (Err fault, n) ≡ next_answer m → still_typed lambda m ≡ ([], unread fault)
unfolding item_lines
still-fault lambda m n fault well h = ap (walk_typed lambda) (next-fault m n fault well h)

first-line : (lambda : ℕ) (item : Item) (w : Walk) → walk_typed lambda (item ∷ w.0, w.1) ≡ with_lines_first (shown (item_text lambda item)) (walk_typed (lambda_after lambda item) w)
unfolding item_lines
first-line lambda item w = sym (after-after (shown (item_text lambda item)) (item_lines (lambda_after lambda item) w.0) (end_typed w.1))

pub still-item : (lambda next : ℕ) (m n : ReaderModel) (item : Item) → m.fault ≡ None → (Ok (Some item), n) ≡ next_answer m → next ≡ lambda_after lambda item →
    still_typed lambda m ≡ with_lines_first (shown (item_text lambda item)) (still_typed next n)
still-item lambda next m n item well h e =
    ap (walk_typed lambda) (sym (next-gave [] m n item well h).same)
    ∙ first-line lambda item (items_of n.phase n.at n.rest)
    ∙ ap (λ l. with_lines_first (shown (item_text lambda item)) (still_typed l n)) (sym e)

-- ---- an item that is next

pub next-leaves : (a b : Option HostModel) (k o lambda next : ℕ) (m n : ReaderModel) (item : Item) → m.fault ≡ None → (Ok (Some item), n) ≡ next_answer m → next ≡ lambda_after lambda item →
    DoesPartBetween a b k o (Ok tt) (item_plan (item_text lambda item)) → Leaves a b k o (typed_plan (still_typed next n)) (typed_plan (still_typed lambda m))
next-leaves a b k o lambda next m n item well h e w =
    subst (λ (t : Typed). Leaves a b k o (typed_plan (still_typed next n)) (typed_plan t)) (sym (still-item lambda next m n item well h e)) (item-leaves a b k o (item_text lambda item) (still_typed next n) w)

pub next-ends : (a b : Option HostModel) (k o lambda : ℕ) (m n : ReaderModel) (item : Item) (outcome : Outcome) → m.fault ≡ None → (Ok (Some item), n) ≡ next_answer m →
    DoesPartBetween a b k o (Err outcome) (item_plan (item_text lambda item)) → DoesPartBetween a b k o (Err outcome) (typed_plan (still_typed lambda m))
next-ends a b k o lambda m n item outcome well h w =
    let next : ℕ = lambda_after lambda item in
    works-named a b k o (Err outcome) (still_typed lambda m) (with_lines_first (shown (item_text lambda item)) (still_typed next n)) (still-item lambda next m n item well h refl)
    (item-ends a b k o (item_text lambda item) (still_typed next n) outcome (walk-lacks next (items_of n.phase n.at n.rest)) w)

-- ---- lines of a list

lines-leave : (b c : Option HostModel) (m n : ℕ) (line : List ℕ) (lines : List (List ℕ)) → DoesPartBetween b c m n (Ok tt) (made_plan line) → Leaves b c m n (lines_plan lines) (lines_plan (line ∷ lines))
unfolding lines_plan
lines-leave b c m n line lines w = leaves-next b c m n tt (λ u. lines_plan lines) (made_plan line) w

module _ {A : Type 0} (f : A → List ℕ) where
  first-of-list : (xs : List A) (i : ℕ) (x d : A) → i < length xs → x ≡ get_or xs i d → map f (drop i xs) ≡ f x ∷ map f (drop (i + 1) xs)
  first-of-list xs i x d l e = ap (map f) (drop_more xs i d l) ∙ ap (λ y. f y ∷ map f (drop (i + 1) xs)) (sym e)

  none-left : (xs : List A) (i : ℕ) → length xs ≤ i → drop i xs ≡ []
  none-left xs i l = grind (arith, common_steps)

  pub list-next : (a b c : Option HostModel) (k m n : ℕ) (xs : List A) (i : ℕ) (x d : A) (whole : Part (Unit {0})) → i < length xs → x ≡ get_or xs i d → Leaves a b k m (lines_plan (map f (drop i xs))) whole →
      DoesPartBetween b c m n (Ok tt) (made_plan (f x)) → Leaves a c k n (lines_plan (map f (drop (i + 1) xs))) whole
  list-next a b c k m n xs i x d whole l e h w =
      leaves-on a b c k m n (lines_plan (map f (drop (i + 1) xs))) (lines_plan (map f (drop i xs))) whole h
      (subst (λ ls. Leaves b c m n (lines_plan (map f (drop (i + 1) xs))) (lines_plan ls)) (sym (first-of-list xs i x d l e)) (lines-leave b c m n (f x) (map f (drop (i + 1) xs)) w))

  pub list-ends : (a b c : Option HostModel) (k m n : ℕ) (xs : List A) (i : ℕ) (x d : A) (outcome : Outcome) (whole : Part (Unit {0})) → i < length xs → x ≡ get_or xs i d → Leaves a b k m (lines_plan (map f (drop i xs))) whole →
      DoesPartBetween b c m n (Err outcome) (made_plan (f x)) → DoesPartBetween a c k n (Err outcome) whole
  list-ends a b c k m n xs i x d outcome whole l e h w =
      works-on a b c k m n (Err outcome) (lines_plan (map f (drop i xs))) whole h
      (subst (λ ls. DoesPartBetween b c m n (Err outcome) (lines_plan ls)) (sym (first-of-list xs i x d l e)) (lines-end b c m n (f x) (map f (drop (i + 1) xs)) outcome w))

  pub list-done : (a b : Option HostModel) (k m : ℕ) (xs : List A) (i : ℕ) (whole : Part (Unit {0})) → length xs ≤ i → Leaves a b k m (lines_plan (map f (drop i xs))) whole → DoesPartBetween a b k m (Ok tt) whole
  unfolding lines_plan
  list-done a b k m xs i whole l h =
      works-on a b b k m m (Ok tt) (lines_plan (map f (drop i xs))) whole h (rw (none-left xs i l) (works-done b m tt))

-- ---- the end of an object

pub tail-listed : (a b : Option HostModel) (k m : ℕ) (tail : Tail) (trie : List ℕ) (symbols shown : List Symbol) (r : Result (Unit {0}) Outcome) → Ok symbols ≡ trie_answer tail.trie → trie ≡ tail.trie → shown ≡ symbols →
    DoesPartBetween a b k m r (lines_plan (tail_lines trie shown)) → DoesPartBetween a b k m r (typed_plan (tail_typed (Ok tail)))
tail-listed a b k m tail trie symbols shown r e s t w =
    works-named a b k m r (tail_typed (Ok tail)) (tail_lines trie shown, Done 0) (ap (trie_typed tail.place tail.trie) (sym e) ∙ rw (s, t) refl) (done-works a b k m (tail_lines trie shown) r w)

finish-is : (m n : ReaderModel) (tail : Tail) (r : Result Tail MmoFault) → (Ok tail, n) ≡ finished m r → r ≡ Ok tail
finish-is m n tail (Ok other) h =
    let is : ◌≡◌ {A = Result Tail MmoFault} (Ok tail) (Ok other) = result-is _ _ h in
    sym is
finish-is m n tail (Err fault) h = let is = result-is _ _ h in absurd (cc)

pub end-read : (m n : ReaderModel) (tail : Tail) → m.fault ≡ None → (Ok tail, n) ≡ finish_answer m → end_typed (Ok (left_of m)) ≡ tail_typed (Ok tail)
end-read m n tail well h = ap tail_typed (finish-is m n tail (tail_of m.phase m.at m.rest) (h ∙ ap (λ f. finish_next f m) well))

pub end-fault : (m n : ReaderModel) (fault : MmoFault) → m.fault ≡ None → (Err fault, n) ≡ finish_answer m → end_typed (Ok (left_of m)) ≡ ([], unread fault)
end-fault m n fault well h = ap tail_typed (finish-fault m n fault well h)

-- ---- the beginning

abbrev fed-answer : Bool → List ℕ → Result (Unit {0}) MmoFault × ReaderModel
fed-answer b bytes = cond b (refused fresh (TooLong limit)) (Ok tt, record fresh { rest = bytes })

feed-is : (bytes : List ℕ) → feed_answer fresh bytes ≡ fed-answer (nat_lt limit (length bytes)) bytes
feed-is bytes =
    let size : 0 + 0 + length bytes ≡ length bytes = omega arith in
    ap (λ (k : ℕ). fed-answer (nat_lt limit k) bytes) size

fed-by : (b : Bool) (bytes : List ℕ) (n : ReaderModel) → (Ok tt, n) ≡ fed-answer b bytes →
    cond b ([], unread (TooLong limit)) (walk_typed 0 (items_of Start 0 bytes)) ≡ still_typed 0 n
fed-by true bytes n h = let is = result-is _ _ h in absurd (cc)
fed-by false bytes n h = ap (λ (m : ReaderModel). still_typed 0 m) (sym (reader-is _ _ h))

pub fed-typed : (bytes : List ℕ) (n : ReaderModel) → (Ok tt, n) ≡ feed_answer fresh bytes → typed bytes ≡ still_typed 0 n
unfolding typed
fed-typed bytes n h = fed-by (nat_lt limit (length bytes)) bytes n (h ∙ feed-is bytes)

fed-well : (b : Bool) (bytes : List ℕ) (n : ReaderModel) → (Ok tt, n) ≡ fed-answer b bytes → n.fault ≡ None
fed-well true bytes n h = let is = result-is _ _ h in absurd (cc)
fed-well false bytes n h = ap (λ (m : ReaderModel). m.fault) (reader-is _ _ h)

pub fed-unbroken : (bytes : List ℕ) (n : ReaderModel) → (Ok tt, n) ≡ feed_answer fresh bytes → n.fault ≡ None
fed-unbroken bytes n h = fed-well (nat_lt limit (length bytes)) bytes n (h ∙ feed-is bytes)

fault-by : (b : Bool) (bytes : List ℕ) (fault : MmoFault) (n : ReaderModel) → (Err fault, n) ≡ fed-answer b bytes →
    cond b ([], unread (TooLong limit)) (walk_typed 0 (items_of Start 0 bytes)) ≡ ([], unread fault)
fault-by true bytes fault n h =
    let is : ◌≡◌ {A = Result (Unit {0}) MmoFault} (Err fault) (Err (TooLong limit)) = result-is _ _ h in
    let same : TooLong limit ≡ fault = cc in
    ap (λ (f : MmoFault). ([], unread f)) same
fault-by false bytes fault n h = let is = result-is _ _ h in absurd (cc)

pub fed-fault : (bytes : List ℕ) (fault : MmoFault) (n : ReaderModel) → (Err fault, n) ≡ feed_answer fresh bytes → typed bytes ≡ ([], unread fault)
unfolding typed
fed-fault bytes fault n h = fault-by (nat_lt limit (length bytes)) bytes fault n (h ∙ feed-is bytes)
