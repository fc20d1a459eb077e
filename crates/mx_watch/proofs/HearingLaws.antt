-- A list of watchers that is told traces, each watcher by itself.
use Rattle.std.proofs.Common.{◌≡◌, refl, ◌+◌, ℕ, zero, suc, Bool, true, false, cond, not, ◌&&◌, List, [], ◌∷◌, ◌++◌, take, length, arith, ap, ◌∙◌, sym}
use Rattle.std.specs.List.{flat_map, list_all, range_with_len}
use Rattle.std.proofs.lemmas.Grind.{flat_map-append}
use Rattle.std.proofs.lemmas.List.{append_assoc, append-nil}
use Rattle.mx_code.specs.declared.trace.Trace.{Trace}
use Rattle.mx_watch.specs.Watching.{Watching, later}
use Rattle.mx_watch.specs.Listening.{Listening, told, watched, stays, still_listening, reports_at}
use Rattle.mx_watch.specs.Hearing.{never_full, after, remains, reported, reports_in_turn}
use Rattle.mx_watch.specs.declared.telling.Report.{Report}

module _ {X A : Type 0} (F G : X → List A) where
  pub same_parts : ((x : X) → F x ≡ G x) → (xs : List X) → flat_map F xs ≡ flat_map G xs
  same_parts e [] = refl
  same_parts e (x ∷ xs) = ap (λ l. l ++ flat_map F xs) (e x) ∙ ap (λ l. G x ++ l) (same_parts e xs)

module _ {X Y A : Type 0} (F : Y → List A) (G : X → List Y) where
  parts_of_parts : (xs : List X) → flat_map F (flat_map G xs) ≡ flat_map (λ x. flat_map F (G x)) xs
  parts_of_parts [] = refl
  parts_of_parts (x ∷ xs) = flat_map-append F (G x) (flat_map G xs) ∙ ap (λ l. flat_map F (G x) ++ l) (parts_of_parts xs)

all-shift : (p : ℕ → Bool) (a n : ℕ) → list_all p (range_with_len (a + 1) n) ≡ list_all (λ k. p (suc k)) (range_with_len a n)
all-shift p a zero = refl
all-shift p a (suc n) =
    let next : a + 1 ≡ suc a = omega arith in
    ap (λ k. p k && list_all p (range_with_len (a + 1 + 1) n)) next ∙ ap (λ b. p (suc a) && b) (all-shift p (a + 1) n)

parts-shift : (F : ℕ → List Report) (a n : ℕ) → flat_map F (range_with_len (a + 1) n) ≡ flat_map (λ k. F (suc k)) (range_with_len a n)
parts-shift F a zero = refl
parts-shift F a (suc n) =
    let next : a + 1 ≡ suc a = omega arith in
    ap (λ k. F k ++ flat_map F (range_with_len (a + 1 + 1) n)) next ∙ ap (λ l. F (suc a) ++ l) (parts-shift F (a + 1) n)

pub never-more : (full : List Trace → Bool) (t : Trace) (ts : List Trace) → never_full full (t ∷ ts) ≡ (not (full (t ∷ [])) && never_full (λ h. full (t ∷ h)) ts)
never-more full t ts = ap (λ b. not (full (t ∷ [])) && b) (all-shift (λ k. not (full (take k (t ∷ ts)))) 1 (length ts))

one-left : (b c : Bool) (x y : ℕ × Watching) (F : ℕ × Watching → List (ℕ × Watching)) → F y ≡ cond c (x ∷ []) [] → flat_map F (cond b [] (y ∷ [])) ≡ cond (not b && c) (x ∷ []) []
one-left true c x y F e = refl
one-left false c x y F e = append-nil (F y) ∙ e

one-reported : (b c d : Bool) (r : Report) (y : ℕ × Watching) (F : ℕ × Watching → List Report) → F y ≡ cond (c && d) (r ∷ []) [] → flat_map F (cond b [] (y ∷ [])) ≡ cond ((not b && c) && d) (r ∷ []) []
one-reported true c d r y F e = refl
one-reported false c d r y F e = append-nil (F y) ∙ e

remains-more : (t : Trace) (ts : List Trace) (w : ℕ × Watching) → flat_map (remains ts) (stays t w) ≡ remains (t ∷ ts) w
remains-more t ts w =
    let x : ℕ × Watching = (w.0, after (t ∷ ts) w.1) in
    one-left (w.1.full (t ∷ [])) (never_full (λ h. w.1.full (t ∷ h)) ts) x (w.0, later t w.1) (remains ts) refl ∙ ap (λ b. cond b (x ∷ []) []) (sym (never-more w.1.full t ts))

reported-more : (t : Trace) (ts : List Trace) (k : ℕ) (w : ℕ × Watching) → flat_map (reported ts k) (stays t w) ≡ reported (t ∷ ts) (suc k) w
reported-more t ts k w =
    let r : Report = record { place = w.0; text = w.1.text (t ∷ take (suc k) ts) } in
    let d = w.1.full (t ∷ take (suc k) ts) in
    one-reported (w.1.full (t ∷ [])) (never_full (λ h. w.1.full (t ∷ h)) (take k ts)) d r (w.0, later t w.1) (reported ts k) refl
    ∙ ap (λ b. cond (b && d) (r ∷ []) []) (sym (never-more w.1.full t (take k ts)))

pub all-remain : (ws : List (ℕ × Watching)) → flat_map (remains []) ws ≡ ws
all-remain [] = refl
all-remain (w ∷ ws) = ap (λ l. w ∷ l) (all-remain ws)

pub left_of_all : (h : List Trace) (l : Listening) → (watched h l).left ≡ flat_map (remains h) l.left
unfolding watched
left_of_all [] l = sym (all-remain l.left)
left_of_all (t ∷ ts) l =
    left_of_all ts (told t l) ∙ parts_of_parts (remains ts) (stays t) l.left ∙ same_parts (λ w. flat_map (remains ts) (stays t w)) (remains (t ∷ ts)) (remains-more t ts) l.left

pub kept_of_all : (h : List Trace) (l : Listening) → (watched h l).kept ≡ l.kept ++ reports_in_turn h l.left
unfolding watched
kept_of_all [] l = sym (append-nil l.kept)
kept_of_all (t ∷ ts) l =
    let ws = l.left in
    let first = reports_at t ws in
    let all : ℕ → List Report = λ k. flat_map (reported (t ∷ ts) k) ws in
    let rest : ℕ → List Report = λ k. flat_map (reported ts k) (still_listening t ws) in
    let each : (k : ℕ) → rest k ≡ all (suc k) = λ k. parts_of_parts (reported ts k) (stays t) ws ∙ same_parts (λ w. flat_map (reported ts k) (stays t w)) (reported (t ∷ ts) (suc k)) (reported-more t ts k) ws in
    kept_of_all ts (told t l) ∙ append_assoc l.kept first (flat_map rest (range_with_len 0 (length ts)))
    ∙ ap (λ rs. l.kept ++ (first ++ rs)) (same_parts rest (λ k. all (suc k)) each (range_with_len 0 (length ts)) ∙ sym (parts-shift all 0 (length ts)))

pub ruleset hearing = (left_of_all, kept_of_all)
