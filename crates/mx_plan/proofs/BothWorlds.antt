-- Plans in a world and in the one that it represents: one after another, and what is left of a whole.
use Rattle.std.proofs.Common.{◌≡◌, ◌≢◌, refl, sym, ◌∙◌, ap, subst}
use Rattle.mx_plan.specs.Plan.{Plan, returns, bind, Acts, StopsAfter, end_of, end_after}
use Rattle.mx_plan.specs.Wild.{Course, ends, meets_wild, then_on, course, GoesAs, ComesBoth, GoesOn, alike, was_wild, IsRestBoth}
use Rattle.mx_plan.proofs.Plans.{end_bind, stops_after, rest_after, rest_done}
use Rattle.mx_plan.proofs.WildLaws.{course_bind}

-- what the other world comes to after a plan that went so
goes-then : {O : Type 0} {R : O → Type 0} {V W A B : Type 0} (goes : (o : O) → V → Course (R o) V) (seen : W → V) (Alike : W → Type 0) (Passed : V → W → Type 0)
    (f : A → Plan O R B) (x : A) (mid new : W) (result : B) (c : Course A V) → GoesAs seen Alike Passed c x mid →
    ((v : V) → Passed v mid → Passed v new) → (Alike mid → GoesAs seen Alike Passed (course goes (f x) (seen mid)) result new) →
    GoesAs seen Alike Passed (then_on (λ a v. course goes (f a) v) c) result new
goes-then {O} {R} {V} {W} {A} goes seen Alike Passed f x mid new result (ends a v) h through next =
    subst (λ (b : A). GoesAs seen Alike Passed (course goes (f b) v) result new) (sym h.0)
    (subst (λ (u : V). GoesAs seen Alike Passed (course goes (f x) u) result new) (sym h.1.0) (next h.1.1))
goes-then goes seen Alike Passed f x mid new result (meets_wild v) h through next = through v h

-- a plan, and then what follows its answer
pub both-then : {O : Type 0} {R : O → Type 0} {V W A B : Type 0} (d : Acts O R W) (goes : (o : O) → V → Course (R o) V) (seen : W → V) (Alike : W → Type 0) (Passed : V → W → Type 0)
    (f : A → Plan O R B) (p : Plan O R A) (x none : A) (last result : B) (old mid new : W) → x ≢ none → ((v : V) → Passed v mid → Passed v new) →
    ComesBoth d goes seen Alike Passed old mid none x p → ComesBoth d goes seen Alike Passed mid new last result (f x) → ComesBoth d goes seen Alike Passed old new last result (bind f p)
both-then {O} {R} {V} {W} {A} {B} d goes seen Alike Passed f p x none last result old mid new some through h n =
    let is : (x, mid) ≡ end_of d p old = h.window.ending some in
    record {
      window = record {
        ending = λ ne. n.window.ending ne ∙ sym (end_bind d f p old ∙ ap (end_after d f) (sym is));
        stopping = λ e. stops_after d f p new old (subst (StopsAfter d new f) is (n.window.stopping e));
      };
      list = λ a ne.
          subst (λ (c : Course B V). GoesAs seen Alike Passed c result new) (sym (course_bind goes f p (seen old)))
          (goes-then goes seen Alike Passed f x mid new result (course goes p (seen old)) (h.list a some) through (λ b. n.list b ne));
    }

-- ---- what is left of a whole

rest-by : {O : Type 0} {R : O → Type 0} {V W A B : Type 0} (goes : (o : O) → V → Course (R o) V) (seen : W → V) (Alike : W → Type 0) (Passed : V → W → Type 0)
    (f : A → Plan O R B) (x : A) (now : W) (whole : Course B V) (c : Course A V) → GoesAs seen Alike Passed c x now → whole ≡ then_on (λ a v. course goes (f a) v) c →
    GoesOn seen Alike Passed whole (course goes (f x) (seen now)) now
rest-by {O} {R} {V} {W} {A} goes seen Alike Passed f x now whole (ends a v) h e =
    alike h.1.1 (e ∙ ap (λ (b : A). course goes (f b) v) h.0 ∙ ap (course goes (f x)) h.1.0)
rest-by goes seen Alike Passed f x now whole (meets_wild v) h e = was_wild v e h

-- the next part of what is left is done
pub rest-both : {O : Type 0} {R : O → Type 0} {V W A B : Type 0} (d : Acts O R W) (goes : (o : O) → V → Course (R o) V) (seen : W → V) (Alike : W → Type 0) (Passed : V → W → Type 0)
    (f : A → Plan O R B) (p : Plan O R A) (x none : A) (at now start : W) (whole : Plan O R B) → x ≢ none → ((v : V) → Passed v at → Passed v now) →
    ComesBoth d goes seen Alike Passed at now none x p → IsRestBoth d goes seen Alike Passed (bind f p) at whole start → IsRestBoth d goes seen Alike Passed (f x) now whole start
rest-both {O} {R} {V} {W} {A} {B} d goes seen Alike Passed f p x none at now start whole some through h r = record {
  window = rest_after d f p x now at start whole (h.window.ending some) r.window;
  list = λ a. by (r.list a);
}
  where
    by : GoesOn seen Alike Passed (course goes whole (seen start)) (course goes (bind f p) (seen at)) at → GoesOn seen Alike Passed (course goes whole (seen start)) (course goes (f x) (seen now)) now
    by (alike a e) = rest-by goes seen Alike Passed f x now (course goes whole (seen start)) (course goes p (seen at)) (h.list a some) (e ∙ course_bind goes f p (seen at))
    by (was_wild v e k) = was_wild v e (through v k)

-- what is left is done, and with it the whole
pub whole-both : {O : Type 0} {R : O → Type 0} {V W A : Type 0} (d : Acts O R W) (goes : (o : O) → V → Course (R o) V) (seen : W → V) (Alike : W → Type 0) (Passed : V → W → Type 0)
    (rest whole : Plan O R A) (none result : A) (now new start : W) → ((v : V) → Passed v now → Passed v new) →
    ComesBoth d goes seen Alike Passed now new none result rest → IsRestBoth d goes seen Alike Passed rest now whole start → ComesBoth d goes seen Alike Passed start new none result whole
whole-both {O} {R} {V} {W} {A} d goes seen Alike Passed rest whole none result now new start through h r = record {
  window = record { ending = λ ne. h.window.ending ne ∙ sym r.window.ending; stopping = λ e. r.window.stopping new (h.window.stopping e) };
  list = λ a ne. by ne (r.list a);
}
  where
    by : result ≢ none → GoesOn seen Alike Passed (course goes whole (seen start)) (course goes rest (seen now)) now → GoesAs seen Alike Passed (course goes whole (seen start)) result new
    by ne (alike a e) = subst (λ (c : Course A V). GoesAs seen Alike Passed c result new) (sym e) (h.list a ne)
    by ne (was_wild v e k) = subst (λ (c : Course A V). GoesAs seen Alike Passed c result new) (sym e) (through v k)

-- the last part of what is left is done: at its answer the rest is over
list-done : {O : Type 0} {R : O → Type 0} {V W A B : Type 0} (goes : (o : O) → V → Course (R o) V) (seen : W → V) (Alike : W → Type 0) (Passed : V → W → Type 0)
    (f : A → Plan O R B) (p : Plan O R A) (x : A) (result : B) (at now : W) (whole : Course B V) → f x ≡ returns result → ((v : V) → Passed v at → Passed v now) →
    (Alike at → GoesAs seen Alike Passed (course goes p (seen at)) x now) → GoesOn seen Alike Passed whole (course goes (bind f p) (seen at)) at → GoesAs seen Alike Passed whole result now
unfolding course
list-done {O} {R} {V} {W} {A} {B} goes seen Alike Passed f p x result at now whole over through h (alike a e) =
    subst (λ (c : Course B V). GoesAs seen Alike Passed c result now) (sym (e ∙ course_bind goes f p (seen at)))
    (goes-then goes seen Alike Passed f x now now result (course goes p (seen at)) (h a) (λ v k. k)
    (λ b. subst (λ (q : Plan O R B). GoesAs seen Alike Passed (course goes q (seen now)) result now) (sym over) (refl, (refl, b))))
list-done {O} {R} {V} {W} {A} {B} goes seen Alike Passed f p x result at now whole over through h (was_wild v e k) =
    subst (λ (c : Course B V). GoesAs seen Alike Passed c result now) (sym e) (through v k)

pub done-both : {O : Type 0} {R : O → Type 0} {V W A B : Type 0} (d : Acts O R W) (goes : (o : O) → V → Course (R o) V) (seen : W → V) (Alike : W → Type 0) (Passed : V → W → Type 0)
    (f : A → Plan O R B) (p : Plan O R A) (x none : A) (last result : B) (at now start : W) (whole : Plan O R B) → f x ≡ returns result → (result ≢ last → x ≢ none) → (result ≡ last → x ≡ none) →
    (x ≢ none → (v : V) → Passed v at → Passed v now) → ComesBoth d goes seen Alike Passed at now none x p → IsRestBoth d goes seen Alike Passed (bind f p) at whole start →
    ComesBoth d goes seen Alike Passed start now last result whole
done-both d goes seen Alike Passed f p x none last result at now start whole over some lacks through h r = record {
  window = rest_done d f p x none last result at now start whole over some lacks h.window r.window;
  list = λ a ne. list-done goes seen Alike Passed f p x result at now _ over (through (some ne)) (λ b. h.list b (some ne)) (r.list a);
}

-- at its start all is left
pub begun-both : {O : Type 0} {R : O → Type 0} {V W A : Type 0} (d : Acts O R W) (goes : (o : O) → V → Course (R o) V) (seen : W → V) (Alike : W → Type 0) (Passed : V → W → Type 0) (p : Plan O R A) (w : W) → IsRestBoth d goes seen Alike Passed p w p w
begun-both d goes seen Alike Passed p w = record { window = record { ending = refl; stopping = λ v h. h }; list = λ a. alike a refl }

-- a plan whose answer is taken for another
pub mapped-both : {O : Type 0} {R : O → Type 0} {V W A B : Type 0} (d : Acts O R W) (goes : (o : O) → V → Course (R o) V) (seen : W → V) (Alike : W → Type 0) (Passed : V → W → Type 0)
    (g : A → B) (p : Plan O R A) (x none : A) (last : B) (old new : W) → (g x ≢ last → x ≢ none) → (g x ≡ last → x ≡ none) →
    ComesBoth d goes seen Alike Passed old new none x p → ComesBoth d goes seen Alike Passed old new last (g x) (bind (λ a. returns (g a)) p)
unfolding end_of course
mapped-both {O} {R} {V} {W} {A} {B} d goes seen Alike Passed g p x none last old new some lacks h = record {
  window = rest_done d (λ a. returns (g a)) p x none last (g x) old new old (bind (λ a. returns (g a)) p) refl some lacks h.window (record { ending = refl; stopping = λ v k. k });
  list = λ a ne.
      subst (λ (c : Course B V). GoesAs seen Alike Passed c (g x) new) (sym (course_bind goes (λ b. returns (g b)) p (seen old)))
      (goes-then goes seen Alike Passed (λ b. returns (g b)) x new new (g x) (course goes p (seen old)) (h.list a (some ne)) (λ v k. k) (λ b. (refl, (refl, b))));
}
