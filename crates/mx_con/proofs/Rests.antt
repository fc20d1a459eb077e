-- What is left of a plan where a part of it was done, where that ended the session, and where nothing is left.
use Rattle.std.proofs.Common.{◌≡◌, ◌≢◌, Ok, Err, subst, ap, sym, ◌∙◌, refl}
use Rattle.std.specs.Prelude.{Result}
use Rattle.mx_plan.specs.Plan.{Plan, returns, bind, Acts, end_of, end_after, StopsAfter, Comes, IsRest}
use Rattle.mx_plan.proofs.Plans.{end_bind, end_returns, stops_first, stops_after}
use Rattle.mx_con.specs.LinePlans.{on_ok}
use Rattle.mx_con.specs.declared.end.SessionEnd.{SessionEnd}
use Rattle.mx_con.specs.declared.end.SessionEnd.TheVariants.{OutOfMemory}

pub rest-all : {O : Type 0} {R : O → Type 0} {W A : Type 0} (d : Acts O R W) (p : Plan O R A) (w : W) → IsRest d p w p w
rest-all d p w = record { ending = refl; stopping = λ v h. h }

pub rest-ended : {O : Type 0} {R : O → Type 0} {W A B : Type 0} (d : Acts O R W) (more : A → Plan O R (Result B SessionEnd)) (p : Plan O R (Result A SessionEnd)) (end : SessionEnd) (v w start : W) (whole : Plan O R (Result B SessionEnd)) →
    IsRest d (bind (on_ok more) p) v whole start → Comes d v w (Err OutOfMemory) (Err end) p → Comes d start w (Err OutOfMemory) (Err end) whole
rest-ended d more p end v w start whole r c =
    record {
      ending = λ ne. sym (r.ending ∙ end_bind d (on_ok more) p v ∙ ap (end_after d (on_ok more)) (sym (c.ending (λ e. ne (cc)))) ∙ end_returns d (Err end) w);
      stopping = λ h. r.stopping w (stops_first d (on_ok more) p w v (c.stopping (cc)));
    }

pub rest-done : {O : Type 0} {R : O → Type 0} {W B : Type 0} (d : Acts O R W) (a : Result B SessionEnd) (w start : W) (whole : Plan O R (Result B SessionEnd)) →
    a ≢ Err OutOfMemory → IsRest d (returns a) w whole start → Comes d start w (Err OutOfMemory) a whole
rest-done d a w start whole ne r = record { ending = λ no. sym (r.ending ∙ end_returns d a w); stopping = λ h. absurd (ne h) }

-- ---- what follows a part

-- a plan comes to an answer, and what follows that to another
pub bind-comes : {O : Type 0} {R : O → Type 0} {W A B : Type 0} (d : Acts O R W) (more : A → Plan O R B) (p : Plan O R A) (x : A) (v w u : W) (none r : B) → (x, w) ≡ end_of d p v →
    Comes d w u none r (more x) → Comes d v u none r (bind more p)
bind-comes d more p x v w u none r e c = record {
  ending = λ ne. c.ending ne ∙ sym (end_bind d more p v ∙ ap (end_after d more) (sym e));
  stopping = λ h. stops_after d more p u v (subst (StopsAfter d u more) e (c.stopping h));
}

-- a part is done, and then another
pub then-comes : {O : Type 0} {R : O → Type 0} {W A B : Type 0} (d : Acts O R W) (more : A → Plan O R (Result B SessionEnd)) (p : Plan O R (Result A SessionEnd)) (x : A) (v w u : W) (r : Result B SessionEnd) →
    (Ok x, w) ≡ end_of d p v → Comes d w u (Err OutOfMemory) r (more x) → Comes d v u (Err OutOfMemory) r (bind (on_ok more) p)
then-comes d more p x v w u r e c = bind-comes d (on_ok more) p (Ok x) v w u (Err OutOfMemory) r e c

-- a part ends the session, or finds no memory
pub part-ends : {O : Type 0} {R : O → Type 0} {W A B : Type 0} (d : Acts O R W) (more : A → Plan O R (Result B SessionEnd)) (p : Plan O R (Result A SessionEnd)) (end : SessionEnd) (v w : W) →
    Comes d v w (Err OutOfMemory) (Err end) p → Comes d v w (Err OutOfMemory) (Err end) (bind (on_ok more) p)
part-ends d more p end v w c = record {
  ending = λ ne. sym (end_bind d (on_ok more) p v ∙ ap (end_after d (on_ok more)) (sym (c.ending (λ e. ne (cc)))) ∙ end_returns d (Err end) w);
  stopping = λ h. stops_first d (on_ok more) p w v (c.stopping (cc));
}

pub returned : {O : Type 0} {R : O → Type 0} {W A : Type 0} (d : Acts O R W) (a : Result A SessionEnd) (w : W) → a ≢ Err OutOfMemory → Comes d w w (Err OutOfMemory) a (returns a)
returned d a w ne = record { ending = λ no. sym (end_returns d a w); stopping = λ e. absurd (ne e) }
