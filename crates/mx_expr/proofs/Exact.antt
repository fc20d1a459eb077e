-- What is read is what is spelled, and a fault is the first one.
use Rattle.std.proofs.Common.{◌≡◌, ℕ, ◌<◌, ◌≤◌, List, [], ◌∷◌, ◌++◌, length, Some, None, Result, Ok, Err, refl, sym, ap, ◌∙◌, arith, append_assoc, subst, length-append, ⊎_elim, inl, inr, ◌⊎◌, ◌↔◌}
use Rattle.mx_expr.proofs.Words.{cases_lt, ExprFault, Syntax, TooWide, EmptyString, Tree, number, State, Read, passed_bound, steps, field_end, reading_end, reading, start, Spells, Before, Begins, FaultAt, IsFirst, Faultless, IsList, empty, no_front, no_list, nat_tests}
use Rattle.mx_expr.proofs.Moves.{move, moves, moves-on}
use Rattle.mx_expr.proofs.Fields.{free-some, one-list, spelled-free}
use Rattle.mx_expr.proofs.Holds.{Holds, Good}
use Rattle.mx_expr.proofs.Steps.{holds-read, move-good}
use Rattle.mx_expr.proofs.Endings.{GoodList, finish-good, begins}
use Rattle.mx_expr.proofs.Bounds.{Passed, passed, passes-moves}
use Rattle.mx_expr.proofs.Stops.{steps-none, steps-moves, front-read, within-err, Stops, stops}
use Rattle.mx_expr.proofs.Marks.{split, Marked, Seen, seen}
use Rattle.mx_expr.proofs.Marks.Seen.{front_seen, list_seen, mark_seen}

held : (front : List ℕ) (s : State) → steps start front ≡ Ok s → Holds s front
held front s e = holds-read front s (steps-moves start s front e)

viable : (front : List ℕ) (s : State) → steps start front ≡ Ok s → Begins front
viable front s e = begins s front (held front s e)

shorter : (a z : List ℕ) → Begins (a ++ z) → Begins a
shorter a z (rest, list, h) = (z ++ rest, list, subst (λ t. Spells t list) (append_assoc a z rest) h)

-- a front that is no longer than another one of the same list
front-begins : (a x b y : List ℕ) → a ++ x ≡ b ++ y → length a ≤ length b → Begins b → Begins a
front-begins a x b y e l h = let w = split a x b y e l in shorter a w.between (subst Begins w.longer h)

front-state : (a x b y : List ℕ) (s : State) → a ++ x ≡ b ++ y → length a ≤ length b → steps start b ≡ Ok s → (z : List ℕ) × (u : State) × (b ≡ a ++ z) × (x ≡ z ++ y) × (steps start a ≡ Ok u) × (steps start (a ++ z) ≡ Ok s)
front-state a x b y s e l h =
    let w = split a x b y e l in
    let r : steps start (a ++ w.between) ≡ Ok s = ap (steps start) (sym w.longer) ∙ h in
    let o = front-read start s a w.between r in
    (w.between, o.state, w.longer, w.rest, o.read, r)

around : (front rest : List ℕ) (b : ℕ) → (front ++ b ∷ []) ++ rest ≡ front ++ b ∷ rest
around front rest b = append_assoc front (b ∷ []) rest

-- Where every byte is read, only the list may be missing.
read-through : (field : List ℕ) (t : State) (other : ExprFault) (there : ℕ) → steps start field ≡ Ok t → Seen field other there → ((list : List Tree) → Spells field list → ⊥) × (there ≡ length field)
read-through field t other there e (front_seen front rest b s h p) =
    absurd (h (shorter (front ++ b ∷ []) rest (subst Begins (s ∙ sym (around front rest b)) (viable field t e))))
read-through field t other there e (list_seen h p) = (h, p)
read-through field t other there e (mark_seen m) = grind (arith, nat_tests, front-read start t m.front m.tail (ap (steps start) (sym m.spelled) ∙ e))

ends-ok : (r : Read) (list : List Tree) → reading_end r ≡ Ok list → (t : State) × (r ≡ Ok t) × (field_end t.mode t.waiting t.done ≡ Ok list)
ends-ok r list h = grind arith

-- a result, by cases
listed-as : (r : Result (List Tree) ExprFault) (field : List ℕ) (list : List Tree) → GoodList r field → r ≡ Ok list → Spells field list
listed-as r field list h1 h2 = grind arith

fault-as : (r : Result (List Tree) ExprFault) (field : List ℕ) (f : ExprFault) → GoodList r field → r ≡ Err f → f ≡ Syntax
fault-as r field f h1 h2 = grind arith

read-ok : (field : List ℕ) (t : State) (list : List Tree) → steps start field ≡ Ok t → field_end t.mode t.waiting t.done ≡ Ok list → Spells field list × Faultless field
read-ok field t list e h =
    let spelled : Spells field list = listed-as (field_end t.mode t.waiting t.done) field list (finish-good t field (held field t e)) h in
    (spelled, λ f p g. (read-through field t f p e (seen g)).0 list spelled)

none-at-empty : (f : ExprFault) (p : ℕ) → Seen [] f p → ⊥
none-at-empty f p (front_seen front rest b s h i) = absurd (omega (arith, ap length s, length-append front (b ∷ rest)))
none-at-empty f p (list_seen h i) = h (number 0 ∷ []) empty
none-at-empty f p (mark_seen m) =
    let short : length m.front ≤ length {A = ℕ} [] = omega (arith, ap length m.spelled, length-append m.front m.tail) in
    let o = front-state m.front m.tail [] [] start (sym m.spelled ∙ refl) short (steps-none start) in
    let stop = m.stops o.1 o.4 in
    absurd (cc)

pub reading-ok : (field : List ℕ) (list : List Tree) → reading field ≡ Ok list → IsList field list
reading-ok [] list h = let same : number 0 ∷ [] ≡ list = cc in (subst (Spells []) same empty, λ f p g. none-at-empty f p (seen g))
reading-ok (b ∷ bs) list h = let w = ends-ok (steps start (b ∷ bs)) list h in read-ok (b ∷ bs) w.0 list w.1 w.2

-- the first fault, where every byte is read
end-first : (field : List ℕ) (t : State) (f : ExprFault) → 0 < length field → steps start field ≡ Ok t → field_end t.mode t.waiting t.done ≡ Err f → IsFirst field f
end-first field t f some e h =
    let syntax : f ≡ Syntax = fault-as (field_end t.mode t.waiting t.done) field f (finish-good t field (held field t e)) h in
    record {
      place = length field;
      is_there = subst (λ x. FaultAt field x (length field)) (sym syntax) (no_list field (λ list g.
          let all : Ok list ≡ field_end t.mode t.waiting t.done = sym (spelled-free g) ∙ free-some field some ∙ ap reading_end (steps-moves start t field e) in
          absurd (cc)));
      least = λ other there g. omega (arith, (read-through field t other there e (seen g)).1);
      only = λ other g. inl syntax;
    }

-- the first fault, where a byte is refused
refused : (t : State) (b : ℕ) (more : List ℕ) (f : ExprFault) → move t b ≡ Err f → moves t (b ∷ more) ≡ Err f
unfolding moves
refused t b more f h = rw h refl

refused-front : (field front rest : List ℕ) (b : ℕ) (t : State) (f : ExprFault) → steps start front ≡ Ok t → move t b ≡ Err f → Begins (front ++ b ∷ []) → ⊥
refused-front field front rest b t f e h (more, list, g) =
    let read : moves start ((front ++ b ∷ []) ++ more) ≡ Err f = ap (moves start) (around front more b) ∙ moves-on start t front (b ∷ more) (steps-moves start t front e) ∙ refused t b more f h in
    let all : Ok list ≡ reading_end (moves start ((front ++ b ∷ []) ++ more)) =
    sym (spelled-free g) ∙ free-some ((front ++ b ∷ []) ++ more) (omega (arith, ap length (around front more b), length-append front (b ∷ more))) in
    absurd (cc)

good-syntax : (r : Read) (front : List ℕ) (f : ExprFault) → Good r front → r ≡ Err f → f ≡ Syntax
good-syntax r front f h1 h2 = grind arith

not-longer : {X : Type 0} (a b : ℕ) → (a ≤ b → X) → (b < a → X) → X
not-longer a b f g = ⊎_elim g f (cases_lt b a)

-- a bound before the byte that is refused
before-refused : (field : List ℕ) (f other : ExprFault) (there : ℕ) (q : Stops start field f) (m : Marked field other there) → steps start field ≡ Err f → length m.front ≤ length q.front → other ≡ f
before-refused field f other there q m e l =
    grind (arith, nat_tests, front-state m.front m.tail q.front (q.b ∷ q.rest) q.state (sym m.spelled ∙ q.spelled) l q.read)

byte-least : (field : List ℕ) (f : ExprFault) (q : Stops start field f) → steps start field ≡ Err f → f ≡ Syntax → (other : ExprFault) (there : ℕ) → Seen field other there → length q.front ≤ there
byte-least field f q e s other there (front_seen front rest b w h p) =
    not-longer (length q.front) (length front) (λ l. omega (arith, p, l)) (λ l.
    absurd (h (front-begins (front ++ b ∷ []) rest q.front (q.b ∷ q.rest) (around front rest b ∙ sym w ∙ q.spelled) (omega (arith, l, length-append front (b ∷ []))) (viable q.front q.state q.read))))
byte-least field f q e s other there (list_seen h p) = omega (arith, p, ap length q.spelled, length-append q.front (q.b ∷ q.rest))
byte-least field f q e s other there (mark_seen m) =
    not-longer (length q.front) (length m.front) (λ l. omega (arith, m.place, l)) (λ l. absurd (m.bound (before-refused field f other there q m e (omega (arith, l)) ∙ s)))

byte-first : (field : List ℕ) (f : ExprFault) (q : Stops start field f) → steps start field ≡ Err f → move q.state q.b ≡ Err f → IsFirst field f
byte-first field f q e h =
    let syntax : f ≡ Syntax = good-syntax (move q.state q.b) (q.front ++ q.b ∷ []) f (move-good q.state q.front q.b (held q.front q.state q.read)) h in
    record {
      place = length q.front;
      is_there = subst (λ x. FaultAt field x (length q.front)) (sym syntax) (subst (λ x. FaultAt x Syntax (length q.front)) (sym q.spelled)
          (no_front q.front q.rest q.b (refused-front field q.front q.rest q.b q.state f q.read h)));
      least = λ other there g. byte-least field f q e syntax other there (seen g);
      only = λ other g. inl syntax;
    }

-- the first fault, where a byte passes a bound
good-ok : (r : Read) (front : List ℕ) (t : State) → Good r front → r ≡ Ok t → Holds t front
good-ok r front t h1 h2 = grind arith

bound-begins : (field : List ℕ) (f : ExprFault) (q : Stops start field f) → passed_bound q.state.mode q.state.depth q.b ≡ Some f → Begins (q.front ++ q.b ∷ [])
bound-begins field f q e =
    let w = passes-moves q.state.mode q.state.waiting q.state.depth q.state.done q.b f e in
    begins w.0 (q.front ++ q.b ∷ []) (good-ok (move q.state q.b) (q.front ++ q.b ∷ []) w.0 (move-good q.state q.front q.b (held q.front q.state q.read)) w.1)

inner-least : (front z before text : List ℕ) (place d : ℕ) → front ++ z ≡ before ++ text → place ≡ length before → Before d before →
    ((v x : List ℕ) → z ≡ v ++ x → 0 < length v → (d : ℕ) → Before d (front ++ v) → ⊥) → place ≤ length front
inner-least front z before text place d e p b k =
    not-longer (length before) (length front) (λ l. omega (arith, p, l)) (λ l.
    let w = split front z before text e (omega (arith, l)) in
    absurd (k w.between text w.rest (omega (arith, l, ap length w.longer, length-append front w.between)) d (subst (Before d) w.longer b)))

bound-least : (field : List ℕ) (f : ExprFault) (q : Stops start field f) → steps start field ≡ Err f → Begins (q.front ++ q.b ∷ []) → (p : Passed (q.front ++ q.b ∷ q.rest) q.front f) → (other : ExprFault) (there : ℕ) → Seen field other there → p.place ≤ there
bound-least field f q e v p other there (front_seen front rest b w h i) =
    not-longer (length front) (length q.front)
    (λ l. absurd (h (front-begins (front ++ b ∷ []) rest (q.front ++ q.b ∷ []) q.rest (around front rest b ∙ sym w ∙ q.spelled ∙ sym (around q.front q.rest q.b)) (omega (arith, l, length-append front (b ∷ []), length-append q.front (q.b ∷ []))) v)))
    (λ l. omega (arith, i, l, p.near))
bound-least field f q e v p other there (list_seen h i) = omega (arith, i, p.near, ap length q.spelled, length-append q.front (q.b ∷ q.rest))
bound-least field f q e v p other there (mark_seen m) =
    not-longer (length q.front) (length m.front) (λ l. omega (arith, m.place, p.near, l)) (λ l.
    let same : other ≡ f = before-refused field f other there q m e (omega (arith, l)) in
    let o = front-state m.front m.tail q.front (q.b ∷ q.rest) q.state (sym m.spelled ∙ q.spelled) (omega (arith, l)) q.read in
    let some : 0 < length o.0 = omega (arith, l, ap length o.2, length-append m.front o.0) in
    ⊎_elim
    (λ (k : (other ≡ EmptyString) × (length o.0 ≤ 1)). omega (arith, m.place, p.before_quote (sym same ∙ k.0), k.1, ap length o.2, length-append m.front o.0))
    (λ (k : (other ≡ TooWide) × ((v x : List ℕ) → o.0 ≡ v ++ x → 0 < length v → (d : ℕ) → Before d (m.front ++ v) → ⊥)).
    let w = p.wide (sym same ∙ k.0) in
    let low : p.place ≤ length m.front = inner-least m.front o.0 w.1 w.2 p.place w.0 (sym o.2 ∙ w.4) w.5 w.3 k.1 in
    omega (arith, m.place, low))
    (m.inner o.0 (q.b ∷ q.rest) q.state o.3 some o.5))

bound-only : (field : List ℕ) (f : ExprFault) (q : Stops start field f) → steps start field ≡ Err f → Begins (q.front ++ q.b ∷ []) → (p : Passed (q.front ++ q.b ∷ q.rest) q.front f) → (other : ExprFault) (there : ℕ) → p.place ≡ there → Seen field other there → (f ≡ Syntax) ⊎ (other ≡ f)
bound-only field f q e v p other there g (front_seen front rest b w h i) =
    absurd (h (front-begins (front ++ b ∷ []) rest (q.front ++ q.b ∷ []) q.rest (around front rest b ∙ sym w ∙ q.spelled ∙ sym (around q.front q.rest q.b)) (omega (arith, g, i, p.near, length-append front (b ∷ []), length-append q.front (q.b ∷ []))) v))
bound-only field f q e v p other there g (list_seen h i) = absurd (omega (arith, g, i, p.near, ap length q.spelled, length-append q.front (q.b ∷ q.rest)))
bound-only field f q e v p other there g (mark_seen m) = inr (before-refused field f other there q m e (omega (arith, g, m.place, p.near)))

bound-first : (field : List ℕ) (f : ExprFault) (q : Stops start field f) → steps start field ≡ Err f → passed_bound q.state.mode q.state.depth q.b ≡ Some f → IsFirst field f
bound-first field f q e h =
    let v = bound-begins field f q h in
    let p = passed q.state q.front q.rest q.b f (held q.front q.state q.read) h in
    record {
      place = p.place;
      is_there = subst (λ x. FaultAt x f p.place) (sym q.spelled) p.is_there;
      least = λ other there g. bound-least field f q e v p other there (seen g);
      only = λ other g. bound-only field f q e v p other p.place refl (seen g);
    }

ends-err : (r : Read) (field : List ℕ) (f : ExprFault) → reading_end r ≡ Err f → ((t : State) × (r ≡ Ok t) × (field_end t.mode t.waiting t.done ≡ Err f)) ⊎ (r ≡ Err f)
ends-err r field f h = grind arith

pub reading-err : (field : List ℕ) (f : ExprFault) → reading field ≡ Err f → IsFirst field f
reading-err [] f h = absurd (cc)
reading-err (b ∷ bs) f h =
    ⊎_elim
    (λ (w : (t : State) × (steps start (b ∷ bs) ≡ Ok t) × (field_end t.mode t.waiting t.done ≡ Err f)). end-first (b ∷ bs) w.0 f (omega arith) w.1 w.2)
    (λ (e : steps start (b ∷ bs) ≡ Err f).
    let q = stops start (b ∷ bs) f e in
    ⊎_elim
    (λ (i : passed_bound q.state.mode q.state.depth q.b ≡ Some f). bound-first (b ∷ bs) f q e i)
    (λ (i : (passed_bound q.state.mode q.state.depth q.b ≡ None) × (move q.state q.b ≡ Err f)). byte-first (b ∷ bs) f q e i.1)
    (within-err (passed_bound q.state.mode q.state.depth q.b) (move q.state q.b) f q.stop))
    (ends-err (steps start (b ∷ bs)) (b ∷ bs) f h)

-- A field has one first fault at most.
pub one-fault : (field : List ℕ) (f g : ExprFault) → IsFirst field f → IsFirst field g → f ≡ g
one-fault field f g a b = grind arith

-- ---- reading goes by the grammar

pub not-both : (field : List ℕ) (list : List Tree) (fault : ExprFault) → IsList field list → IsFirst field fault → ⊥
not-both field list fault h first = h.1 fault first.place first.is_there

list-as : (field : List ℕ) (list : List Tree) (r : Result (List Tree) ExprFault) → reading field ≡ r → IsList field list → r ≡ Ok list
list-as field list (Ok found) is h = ap (λ l. Ok l) (one-list field found list (reading-ok field found is).0 h.0)
list-as field list (Err fault) is h = absurd (not-both field list fault h (reading-err field fault is))

fault-at : (field : List ℕ) (fault : ExprFault) (r : Result (List Tree) ExprFault) → reading field ≡ r → IsFirst field fault → r ≡ Err fault
fault-at field fault (Ok found) is first = absurd (not-both field found fault (reading-ok field found is) first)
fault-at field fault (Err other) is first = ap (λ f. Err f) (one-fault field other fault (reading-err field other is) first)

pub list-read : (field : List ℕ) (list : List Tree) → (reading field ≡ Ok list) ↔ IsList field list
list-read field list = (reading-ok field list, list-as field list (reading field) refl)

pub fault-read : (field : List ℕ) (fault : ExprFault) → (reading field ≡ Err fault) ↔ IsFirst field fault
fault-read field fault = (reading-err field fault, fault-at field fault (reading field) refl)

one-of : (field : List ℕ) (r : Result (List Tree) ExprFault) → reading field ≡ r → ((list : List Tree) × IsList field list) ⊎ ((fault : ExprFault) × IsFirst field fault)
one-of field (Ok list) is = inl (list, reading-ok field list is)
one-of field (Err fault) is = inr (fault, reading-err field fault is)

pub list-or-fault : (field : List ℕ) → ((list : List Tree) × IsList field list) ⊎ ((fault : ExprFault) × IsFirst field fault)
list-or-fault field = one-of field (reading field) refl
