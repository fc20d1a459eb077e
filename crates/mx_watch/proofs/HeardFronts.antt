-- What a watcher hears of traces.
use Rattle.std.proofs.Common.{◌≡◌, refl, ◌<◌, ℕ, zero, suc, Bool, true, false, cond, not, ◌&&◌, List, [], ◌∷◌, take, length, arith, ap, ◌∙◌, sym}
use Rattle.mx_code.specs.declared.trace.Trace.{Trace}
use Rattle.mx_watch.specs.Watching.{Watching}
use Rattle.mx_watch.specs.Hearing.{never_full, heard, reported, reported_heard}
use Rattle.mx_watch.specs.declared.telling.Report.{Report}
use Rattle.mx_watch.proofs.HearingLaws.{never-more}

not-here : (b c : Bool) (t : Trace) (hs ts : List Trace) → (c ≡ true → hs ≡ ts) → (not b && c) ≡ true → cond b (t ∷ []) (t ∷ hs) ≡ t ∷ ts
not-here true c t hs ts rest e = absurd (cc)
not-here false c t hs ts rest e = ap (λ l. t ∷ l) (rest e)

pub heard-all : (full : List Trace → Bool) (h : List Trace) → never_full full h ≡ true → heard full h ≡ h
unfolding heard
heard-all full [] e = refl
heard-all full (t ∷ ts) e =
    let later = λ (h : List Trace). full (t ∷ h) in
    not-here (full (t ∷ [])) (never_full later ts) t (heard later ts) ts (heard-all later ts) (sym (never-more full t ts) ∙ e)

pub heard-front : (full : List Trace → Bool) (h : List Trace) (k : ℕ) → k < length h → never_full full (take k h) ≡ true → full (take (suc k) h) ≡ true → heard full h ≡ take (suc k) h
unfolding heard
heard-front full [] k inside none e = absurd (omega (arith, inside))
heard-front full (t ∷ ts) zero inside none e = ap (λ b. cond b (t ∷ []) (t ∷ heard (λ h. full (t ∷ h)) ts)) e
heard-front full (t ∷ ts) (suc k) inside none e =
    let later = λ (h : List Trace). full (t ∷ h) in
    not-here (full (t ∷ [])) (never_full later (take k ts)) t (heard later ts) (take (suc k) ts) (λ c. heard-front later ts k (omega (arith, inside)) c e)
    (sym (never-more full t (take k ts)) ∙ none)

one-report : (b c : Bool) (p : ℕ) (x y : List ℕ) (r : ℕ → List ℕ → Report) → (b ≡ true → c ≡ true → x ≡ y) → cond (b && c) (r p x ∷ []) [] ≡ cond (b && c) (r p y ∷ []) []
one-report true true p x y r e = ap (λ z. r p z ∷ []) (e refl refl)
one-report true false p x y r e = refl
one-report false c p x y r e = refl

pub report-heard : (h : List Trace) (k : ℕ) (w : ℕ × Watching) → k < length h → reported h k w ≡ reported_heard h k w
report-heard h k w inside =
    one-report (never_full w.1.full (take k h)) (w.1.full (take (suc k) h)) w.0 (w.1.text (take (suc k) h)) (w.1.text (heard w.1.full h)) (λ p z. record { place = p; text = z })
    (λ none e. ap w.1.text (sym (heard-front w.1.full h k inside none e)))
