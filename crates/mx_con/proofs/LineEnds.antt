-- Lines that find no memory before they are written, and lists of lines.
use Rattle.std.proofs.Common.{◌≡◌, ℕ, inl, inr, subst, List, [], ◌∷◌, Ok, Err, refl, sym, ◌∙◌, ap}
use Rattle.std.specs.Prelude.{Result}
use Rattle.mx_host.specs.HostModel.{HostModel}
use Rattle.mx_plan.specs.Plan.{bind, end_of, end_after, Stops, Comes}
use Rattle.mx_plan.specs.Calls.{host, need}
use Rattle.mx_plan.proofs.Plans.{end_bind, stops_first}
use Rattle.mx_show.specs.Texts.{ended}
use Rattle.mx_con.specs.LinePlans.{on_ok, text_plan, line_plan, lines_plan}
use Rattle.mx_con.specs.declared.end.SessionEnd.{SessionEnd}
use Rattle.mx_con.specs.declared.end.SessionEnd.TheVariants.{OutOfMemory}

-- a line that finds no memory
pub line-lacks : (line : List ℕ) (v m : HostModel) → v ≡ m → Stops host v (line_plan line) m
unfolding line_plan bind Stops host need
line-lacks line v m e = rw e (inl refl)

-- a text that holds its newline already, and takes its memory before
pub line-ready : (line text : List ℕ) (m n : HostModel) (r : Result (Unit {0}) SessionEnd) → text ≡ ended line →
    Comes host m n (Err OutOfMemory) r (text_plan text) → Comes host m n (Err OutOfMemory) r (line_plan line)
unfolding line_plan bind end_of Stops host need
line-ready line text m n r e c = record {
  ending = λ ne. c.ending ne ∙ ap (λ t. end_of host (text_plan t) m) e;
  stopping = λ h. inr (subst (λ t. Stops host n (text_plan t) m) e (c.stopping h));
}

pub ruleset lacking = (line-lacks, line-ready)

-- a list of one line
one-end : (n : HostModel) (t : Result (Unit {0}) SessionEnd × HostModel) → end_after host (on_ok (λ u. lines_plan [])) t ≡ t
unfolding lines_plan end_of
one-end n (Ok u, m) = refl
one-end n (Err end, m) = refl

pub one-line-comes : (line : List ℕ) (m n : HostModel) (r : Result (Unit {0}) SessionEnd) → Comes host m n (Err OutOfMemory) r (line_plan line) →
    Comes host m n (Err OutOfMemory) r (lines_plan (line ∷ []))
unfolding lines_plan
one-line-comes line m n r c = record {
  ending = λ ne. c.ending ne ∙ sym (end_bind host (on_ok (λ u. lines_plan [])) (line_plan line) m ∙ one-end m (end_of host (line_plan line) m));
  stopping = λ h. stops_first host (on_ok (λ u. lines_plan [])) (line_plan line) n m (c.stopping h);
}

pub no-lines-come : (m : HostModel) → Comes host m m (Err OutOfMemory) (Ok tt) (lines_plan [])
unfolding lines_plan end_of
no-lines-come m = record { ending = λ ne. refl; stopping = λ h. absurd (cc) }
