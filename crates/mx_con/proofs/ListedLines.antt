-- Lists of lines are written line by line.
use Rattle.std.proofs.Common.{◌≡◌, ℕ, zero, suc, ◌+◌, ◌-◌, ◌*◌, ◌/◌, ◌^◌, ◌<◌, ◌≤◌, List, [], ◌∷◌, true, false, None, Some, Ok, Err, refl, ◌∙◌, ap, subst, arith, map}
use Rattle.std.specs.List.{range_with_len}
use Rattle.mx_host.specs.HostModel.{HostModel, contents}
use Rattle.mx_text.specs.declared.numbers.Form.{Form}
use Rattle.mx_core.specs.State.{State}
use Rattle.mx_run.specs.FlagMaps.{has_flag, IsNextFlagged}
use Rattle.mx_run.specs.Runs.{FlagsOf}
use Rattle.mx_run.specs.declared.flags.Flags.{Flags}
use Rattle.mx_con.specs.ConsoleTexts.{flag_text}
use Rattle.mx_con.specs.Clauses.{DoesOnHost}
use Rattle.mx_con.specs.LinePlans.{line_plan, lines_plan}
use Rattle.mx_con.specs.Replies.{octas_after, flag_lines, tetra_count}
use Rattle.mx_show.specs.Subjects.{shown_line}
use Rattle.mx_cmd.specs.declared.command.Subject.TheVariants.{Memory}
use Rattle.mx_con.specs.declared.end.SessionEnd.{SessionEnd}
use Rattle.mx_plan.specs.Calls.{host, HostPlan}
use Rattle.std.specs.Prelude.{Option, Result}
use Rattle.mx_con.proofs.Parts.{Leaves, left-all, left-next, left-over, left-answer}

-- ---- octas: the lines from one on

abbrev pub octas_from : State → Form → ℕ → ℕ → ℕ → List (List ℕ)
octas_from s form a i n = map (λ k. shown_line s (Memory (a + 8 * k)) form) (range_with_len i n)

octas-next : (s : State) (form : Form) (a n i : ℕ) → i < n →
    octas_from s form a (i + 1) (n - i) ≡ shown_line s (Memory (a + 8 * (i + 1))) form ∷ octas_from s form a (i + 1 + 1) (n - (i + 1))
octas-next s form a n i l = let e : n - i ≡ suc (n - (i + 1)) = omega arith in rw e refl

abbrev pub LinesLeft : {Host : Type 0} → (Host → Option HostModel) → (Host → ℕ) → Host → Host → List (List ℕ) → HostPlan (Result (Unit {0}) SessionEnd) → Type 0
LinesLeft says faults a b lines whole = Leaves host says faults a b (contents (says a)) (contents (says b)) (lines_plan lines) whole

-- a line is written, and those after it are left; or it ends the session; or none is left
next-line : {Host : Type 0} (says : Host → Option HostModel) (faults : Host → ℕ) (a b c : Host) (lines following : List (List ℕ)) (line : List ℕ) (whole : HostPlan (Result (Unit {0}) SessionEnd)) →
    lines ≡ line ∷ following → LinesLeft says faults a b lines whole → DoesOnHost says faults b c (Ok tt) (line_plan line) → LinesLeft says faults a c following whole
unfolding lines_plan
next-line says faults a b c lines following line whole e h w =
    left-next host says faults a b c _ _ _ tt (λ u. lines_plan following) (line_plan line) whole (subst (λ ls. LinesLeft says faults a b ls whole) e h) w

line-over : {Host : Type 0} (says : Host → Option HostModel) (faults : Host → ℕ) (a b c : Host) (end : SessionEnd) (lines following : List (List ℕ)) (line : List ℕ) (whole : HostPlan (Result (Unit {0}) SessionEnd)) →
    lines ≡ line ∷ following → LinesLeft says faults a b lines whole → DoesOnHost says faults b c (Err end) (line_plan line) → DoesOnHost says faults a c (Err end) whole
unfolding lines_plan
line-over says faults a b c end lines following line whole e h w =
    left-over host says faults a b c _ _ _ end (λ (u : Unit {0}). lines_plan following) (line_plan line) whole (subst (λ ls. LinesLeft says faults a b ls whole) e h) w

no-lines : {Host : Type 0} (says : Host → Option HostModel) (faults : Host → ℕ) (a b : Host) (lines : List (List ℕ)) (whole : HostPlan (Result (Unit {0}) SessionEnd)) →
    lines ≡ [] → LinesLeft says faults a b lines whole → DoesOnHost says faults a b (Ok tt) whole
unfolding lines_plan
no-lines says faults a b lines whole e h =
    left-answer host says faults a b _ _ (Ok tt) whole (λ o. absurd (cc)) (λ o. absurd (cc)) (subst (λ ls. LinesLeft says faults a b ls whole) e h)

pub octas-begin : {Host : Type 0} (says : Host → Option HostModel) (faults : Host → ℕ) (a : Host) (s : State) (form : Form) (at n : ℕ) →
    LinesLeft says faults a a (octas_from s form at (0 + 1) (n - 0)) (lines_plan (octas_after s form at n))
unfolding octas_after
octas-begin says faults a s form at n = let e : n - 0 ≡ n = omega arith in rw e (left-all host says faults a _ (lines_plan (octas_from s form at 1 n)))

pub octas-more : {Host : Type 0} (says : Host → Option HostModel) (faults : Host → ℕ) (a b c : Host) (s : State) (form : Form) (at n i : ℕ) (whole : HostPlan (Result (Unit {0}) SessionEnd)) → i < n →
    LinesLeft says faults a b (octas_from s form at (i + 1) (n - i)) whole → DoesOnHost says faults b c (Ok tt) (line_plan (shown_line s (Memory (at + 8 * (i + 1))) form)) →
    LinesLeft says faults a c (octas_from s form at (i + 1 + 1) (n - (i + 1))) whole
octas-more says faults a b c s form at n i whole l h w = next-line says faults a b c _ _ _ whole (octas-next s form at n i l) h w

pub octas-ended : {Host : Type 0} (says : Host → Option HostModel) (faults : Host → ℕ) (a b c : Host) (s : State) (form : Form) (at n i : ℕ) (end : SessionEnd) (whole : HostPlan (Result (Unit {0}) SessionEnd)) → i < n →
    LinesLeft says faults a b (octas_from s form at (i + 1) (n - i)) whole → DoesOnHost says faults b c (Err end) (line_plan (shown_line s (Memory (at + 8 * (i + 1))) form)) →
    DoesOnHost says faults a c (Err end) whole
octas-ended says faults a b c s form at n i end whole l h w = line-over says faults a b c end _ _ _ whole (octas-next s form at n i l) h w

no-octas : (s : State) (form : Form) (at i n : ℕ) → n ≡ 0 → octas_from s form at i n ≡ []
no-octas s form at i n e = rw e refl

pub octas-done : {Host : Type 0} (says : Host → Option HostModel) (faults : Host → ℕ) (a b : Host) (s : State) (form : Form) (at n i : ℕ) (whole : HostPlan (Result (Unit {0}) SessionEnd)) → n ≤ i →
    LinesLeft says faults a b (octas_from s form at (i + 1) (n - i)) whole → DoesOnHost says faults a b (Ok tt) whole
octas-done says faults a b s form at n i whole l h = no-lines says faults a b _ whole (no-octas s form at (i + 1) (n - i) (omega arith)) h

-- ---- flags: tetras without flags have no line

gap : (f : FlagsOf) (t j k n : ℕ) → n ≡ j + k → ((q : ℕ) → t ≤ q → q < t + j → has_flag (f q) ≡ false) → flag_lines f t n ≡ flag_lines f (t + j) k
unfolding flag_lines
gap f t zero k n e h = let same : n ≡ k = omega arith in let here : t + 0 ≡ t = omega arith in rw (same, here) refl
gap f t (suc j) k n e h =
    let one : n ≡ suc (j + k) = omega arith in
    let on : t + suc j ≡ t + 1 + j = omega arith in
    rw (one, on, h t (omega arith) (omega arith)) (gap f (t + 1) j k (j + k) refl (λ q l g. h q (omega arith) (omega arith)))

all-bare : (f : FlagsOf) (t n : ℕ) → ((q : ℕ) → t ≤ q → has_flag (f q) ≡ false) → flag_lines f t n ≡ []
unfolding flag_lines
all-bare f t zero h = refl
all-bare f t (suc n) h = rw (h t (omega arith)) (all-bare f (t + 1) n (λ q l. h q (omega arith)))

here : (f : FlagsOf) (q k : ℕ) → has_flag (f q) ≡ true → flag_lines f q (suc k) ≡ flag_text (4 * q) (f q) ∷ flag_lines f (q + 1) k
unfolding flag_lines
here f q k h = rw h refl

pub flags-next : (f : FlagsOf) (t a : ℕ) (fl : Flags) → IsNextFlagged f (4 * t) (Some (a, fl)) → a < 2 ^ 64 →
    flag_lines f t (tetra_count - t) ≡ flag_text a fl ∷ flag_lines f (a / 4 + 1) (tetra_count - (a / 4 + 1))
flags-next f t a fl h most =
    let q : ℕ = a / 4 in
    let same : 4 * q ≡ a = omega (arith, h.1) in
    let from : t ≤ q = omega (arith, h.0, same) in
    let few : q < tetra_count = omega (arith, same, most) in
    let count : tetra_count - t ≡ (q - t) + suc (tetra_count - (q + 1)) = omega arith in
    let at : t + (q - t) ≡ q = omega arith in
    gap f t (q - t) (suc (tetra_count - (q + 1))) (tetra_count - t) count (λ k l g. h.4 k (omega arith) (omega (arith, same, at)))
    ∙ ap (λ p. flag_lines f p (suc (tetra_count - (q + 1)))) at
    ∙ here f q (tetra_count - (q + 1)) (ap has_flag h.2 ∙ h.3)
    ∙ ap (λ line. line ∷ flag_lines f (q + 1) (tetra_count - (q + 1))) (ap (λ p. flag_text p (f q)) same ∙ ap (flag_text a) h.2)

pub flags-more : {Host : Type 0} (says : Host → Option HostModel) (faults : Host → ℕ) (x y z : Host) (f : FlagsOf) (t a : ℕ) (fl : Flags) (whole : HostPlan (Result (Unit {0}) SessionEnd)) →
    IsNextFlagged f (4 * t) (Some (a, fl)) → a < 2 ^ 64 → LinesLeft says faults x y (flag_lines f t (tetra_count - t)) whole → DoesOnHost says faults y z (Ok tt) (line_plan (flag_text a fl)) →
    LinesLeft says faults x z (flag_lines f (a / 4 + 1) (tetra_count - (a / 4 + 1))) whole
flags-more says faults x y z f t a fl whole h most r w = next-line says faults x y z _ _ _ whole (flags-next f t a fl h most) r w

pub flags-ended : {Host : Type 0} (says : Host → Option HostModel) (faults : Host → ℕ) (x y z : Host) (f : FlagsOf) (t a : ℕ) (fl : Flags) (end : SessionEnd) (whole : HostPlan (Result (Unit {0}) SessionEnd)) →
    IsNextFlagged f (4 * t) (Some (a, fl)) → a < 2 ^ 64 → LinesLeft says faults x y (flag_lines f t (tetra_count - t)) whole → DoesOnHost says faults y z (Err end) (line_plan (flag_text a fl)) →
    DoesOnHost says faults x z (Err end) whole
flags-ended says faults x y z f t a fl end whole h most r w = line-over says faults x y z end _ _ _ whole (flags-next f t a fl h most) r w

pub flags-none : {Host : Type 0} (says : Host → Option HostModel) (faults : Host → ℕ) (x y : Host) (f : FlagsOf) (t n : ℕ) (whole : HostPlan (Result (Unit {0}) SessionEnd)) →
    IsNextFlagged f (4 * t) None → LinesLeft says faults x y (flag_lines f t n) whole → DoesOnHost says faults x y (Ok tt) whole
flags-none says faults x y f t n whole h r = no-lines says faults x y _ whole (all-bare f t n (λ q l. h q (omega arith))) r

no-flags : (f : FlagsOf) (t n : ℕ) → n ≡ 0 → flag_lines f t n ≡ []
unfolding flag_lines
no-flags f t n e = rw e refl

pub flags-done : {Host : Type 0} (says : Host → Option HostModel) (faults : Host → ℕ) (x y : Host) (f : FlagsOf) (t : ℕ) (whole : HostPlan (Result (Unit {0}) SessionEnd)) →
    tetra_count ≤ t → LinesLeft says faults x y (flag_lines f t (tetra_count - t)) whole → DoesOnHost says faults x y (Ok tt) whole
flags-done says faults x y f t whole l r = no-lines says faults x y _ whole (no-flags f t (tetra_count - t) (omega arith)) r
