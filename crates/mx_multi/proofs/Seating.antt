-- Machines of which one has the one memory: where it goes to another one, and where that one takes turns.
use Rattle.std.proofs.Common.{◌≡◌, ◌<◌, ℕ, zero, suc, ◌++◌, ◌-◌, Bool, false, true, List, [], ◌∷◌, length, get_or, set, map, take, arith, refl, sym, subst, ap, ◌∙◌}
use Rattle.std.specs.Prelude.{Option}
use Rattle.std.proofs.lemmas.List.{get_or_append_left, get_or-append_right, get_or-map, get_or-set_other, get_or-set_same, length-set, map-set, set-append_left, set-append_right, set-get_or, set-set}
use Rattle.std.proofs.Math.Seq.{take-append_seam}
use Rattle.mx_host.specs.HostModel.{HostModel, contents}
use Rattle.mx_host.proofs.Keeping.{keeps-all}
use Rattle.mx_core.specs.Bare.{Shared, nothing_shared, shared_of, with_shared}
use Rattle.mx_core.specs.Kept.{Kept, state_of}
use Rattle.mx_core.specs.State.{State}
use Rattle.mx_core.specs.Walks.{Goes}
use Rattle.mx_multi.specs.Clauses.{TakesTurnBetween, TakesTurnsBetween, TurnsAloneBetween}
use Rattle.mx_multi.specs.Joint.{AllAlone, Joint, alone, has_halted, no_processor}
use Rattle.mx_multi.specs.JointTurns.{halted_by}
use Rattle.mx_multi.specs.Seats.{IsSeated, exchanged, seated_by}
use Rattle.mx_multi.specs.Stretches.{Stretch}
use Rattle.mx_multi.specs.declared.end.MultiEnd.{MultiEnd}
use Rattle.mx_multi.specs.declared.turn.Turn.{Turn}
use Rattle.mx_multi.specs.declared.turn.Turn.TheVariants as turned
use Rattle.mx_multi.proofs.Places.{alone-at, alone-set}
use Rattle.mx_multi.proofs.Stretches.{goes-stretch}
use Rattle.mx_multi.proofs.TurnComes.{alone-later, idle-comes, idle-listed, idle-made, joint, never-idle, told-comes, told-listed, turn-is}

-- ---- lists

set-apart : (ss : List State) (i k : ℕ) (x y : State) → (i ≡ k → ⊥) → set (set ss i x) k y ≡ set (set ss k y) i x
set-apart [] i k x y ne = refl
set-apart (s ∷ ss) zero zero x y ne = absurd (ne refl)
set-apart (s ∷ ss) zero (suc k) x y ne = refl
set-apart (s ∷ ss) (suc i) zero x y ne = refl
set-apart (s ∷ ss) (suc i) (suc k) x y ne = ap (λ l. s ∷ l) (set-apart ss i k x y (λ e. ne (ap suc e)))

-- the list, after its slice was written
pub machines-written : (n : ℕ) (xs more : List Kept) → n ≡ length xs → take n (xs ++ more) ≡ xs
machines-written n xs more e = ap (λ k. take k (xs ++ more)) e ∙ take-append_seam xs more

own : (s : State) → shared_of s ≡ nothing_shared → alone s ≡ s
own s h = ap (λ m. with_shared m s) (sym h)

-- the machines at two places, of which one is in the front and the other is the first of the rest
set-parts : (front back : List Kept) (low high : ℕ) (x y : Kept) → length front ≡ high → low < high → set front low x ++ set back 0 y ≡ set (set (front ++ back) low x) high y
set-parts front back low high x y long l =
    let same : length (set front low x) ≡ high = length-set front low x ∙ long in
    let none : high - high ≡ 0 = omega arith in
    sym (ap (λ ks. set ks high y) (set-append_left front back low x (omega (arith, l, long))) ∙ set-append_right (set front low x) back high high y same (omega arith) ∙ ap (λ i. set front low x ++ set back i y) none)

pub parts-exchanged : (ks front back : List Kept) (low high : ℕ) (u v x y : Kept) → ks ≡ front ++ back → length front ≡ high → low < high → high < length ks → u ≡ get_or front low u → v ≡ get_or back 0 v →
    state_of x ≡ with_shared (shared_of (state_of v)) (state_of u) → state_of y ≡ with_shared (shared_of (state_of u)) (state_of v) →
    map state_of (set front low x ++ set back 0 y) ≡ exchanged (map state_of ks) low high
parts-exchanged ks front back low high u v x y e long l inside a b f g =
    let none : high - high ≡ 0 = omega arith in
    let at-low : get_or (map state_of ks) low no_processor ≡ state_of u =
    get_or-map state_of ks low u no_processor (omega (arith, l, inside))
    ∙ ap state_of (ap (λ hs. get_or hs low u) e ∙ get_or_append_left front back u low (omega (arith, l, long)) ∙ sym a) in
    let at-high : get_or (map state_of ks) high no_processor ≡ state_of v =
    get_or-map state_of ks high v no_processor inside
    ∙ ap state_of (ap (λ hs. get_or hs high v) e ∙ get_or-append_right front back high high v long (omega arith) ∙ ap (λ i. get_or back i v) none ∙ sym b) in
    ap (map state_of) (set-parts front back low high x y long l ∙ ap (λ hs. set (set hs low x) high y) (sym e))
    ∙ map-set state_of (set ks low x) high y ∙ ap (λ ss. set ss high (state_of y)) (map-set state_of ks low x)
    ∙ ap (λ s. set (set (map state_of ks) low s) high (state_of y)) (f ∙ ap (λ s. with_shared (shared_of s) (state_of u)) (sym at-high) ∙ ap (λ s. with_shared (shared_of (get_or (map state_of ks) high no_processor)) s) (sym at-low))
    ∙ ap (λ s. set (set (map state_of ks) low (with_shared (shared_of (get_or (map state_of ks) high no_processor)) (get_or (map state_of ks) low no_processor))) high s)
    (g ∙ ap (λ s. with_shared (shared_of s) (state_of v)) (sym at-low) ∙ ap (λ s. with_shared (shared_of (get_or (map state_of ks) low no_processor)) s) (sym at-high))

-- in either order
pub exchanged-back : (ss : List State) (i k : ℕ) → (i ≡ k → ⊥) → exchanged ss i k ≡ exchanged ss k i
exchanged-back ss i k ne = set-apart ss i k _ _ ne

-- ---- the memory is lent and given back

pub still-alone : (S : List State) (a : ℕ) → AllAlone S → IsSeated S a
still-alone S a h = alone-set S a (alone (get_or S a no_processor)) h refl

pub given-back : (R : List State) (H : List Bool) (a : ℕ) (S : List State) (M N : Shared) → S ≡ set R a (with_shared M (get_or R a no_processor)) → M ≡ nothing_shared → N ≡ shared_of (get_or R a no_processor) →
    joint S H N ≡ seated_by R H a
given-back R H a S M N e f g =
    ap (λ ss. joint ss H N) (e ∙ ap (λ m. set R a (with_shared m (get_or R a no_processor))) f) ∙ ap (λ m. joint (set R a (alone (get_or R a no_processor))) H m) g

pub given-apart : (R : List State) (a : ℕ) (S : List State) (M : Shared) → S ≡ set R a (with_shared M (get_or R a no_processor)) → M ≡ nothing_shared → IsSeated R a → AllAlone S
given-apart R a S M e f apart = subst AllAlone (sym (e ∙ ap (λ m. set R a (with_shared m (get_or R a no_processor))) f)) apart

module _ (R : List State) (H : List Bool) (a : ℕ) (inside : a < length R) where
  abbrev r : State
  r = get_or R a no_processor

  pub lent : (M : Shared) → AllAlone R → seated_by (set R a (with_shared M r)) H a ≡ joint R H M
  lent M apart =
      let here : get_or (set R a (with_shared M r)) a no_processor ≡ with_shared M r = get_or-set_same R a (with_shared M r) no_processor inside in
      ap (λ (s : State). joint (set (set R a (with_shared M r)) a (alone s)) H (shared_of s)) here
      ∙ ap (λ ss. joint ss H M) (set-set R a (with_shared M r) (alone r) ∙ ap (set R a) (own r (alone-at R a no_processor inside apart)) ∙ set-get_or R a no_processor)

  -- so it is apart, too
  pub lent-apart : (M : Shared) → AllAlone R → IsSeated (set R a (with_shared M r)) a
  lent-apart M apart = subst AllAlone (sym (ap (λ (j : Joint). j.processors) (lent M apart))) apart

  -- ---- it goes to another one

  module _ (b : ℕ) (there : b < length R) (ne : b ≡ a → ⊥) (apart : IsSeated R a) where
    abbrev q : State
    q = get_or R b no_processor

    bare-there : get_or (set R a (alone r)) b no_processor ≡ q
    bare-there = get_or-set_other R a b (alone r) no_processor ne

    q-alone : shared_of q ≡ nothing_shared
    q-alone =
        let long : length (set R a (alone r)) ≡ length R = length-set R a (alone r) in
        subst (λ (s : State). shared_of s ≡ nothing_shared) bare-there (alone-at (set R a (alone r)) b no_processor (omega (arith, long, there)) apart)

    now-there : get_or (exchanged R a b) b no_processor ≡ with_shared (shared_of r) q
    now-there =
        let long : length (set R a (with_shared (shared_of q) r)) ≡ length R = length-set R a (with_shared (shared_of q) r) in
        get_or-set_same (set R a (with_shared (shared_of q) r)) b (with_shared (shared_of r) q) no_processor (omega (arith, long, there))

    same-processors : set (exchanged R a b) b (alone (get_or (exchanged R a b) b no_processor)) ≡ set R a (alone r)
    same-processors =
        ap (λ (s : State). set (exchanged R a b) b (alone s)) now-there
        ∙ set-set (set R a (with_shared (shared_of q) r)) b (with_shared (shared_of r) q) (alone q)
        ∙ ap (λ m. set (set R a (with_shared m r)) b (alone q)) q-alone
        ∙ ap (set (set R a (alone r)) b) (own q q-alone ∙ sym bare-there)
        ∙ set-get_or (set R a (alone r)) b no_processor

    pub moved : seated_by (exchanged R a b) H b ≡ seated_by R H a
    moved =
        ap (λ ss. joint ss H (shared_of (get_or (exchanged R a b) b no_processor))) same-processors
        ∙ ap (λ (s : State). joint (set R a (alone r)) H (shared_of s)) now-there

    pub moved-apart : IsSeated (exchanged R a b) b
    moved-apart = subst AllAlone (sym same-processors) apart

-- ---- the one that has it takes turns: the states R become N

module _ (R N : List State) (H : List Bool) (a : ℕ) (inside : a < length R) (apart : IsSeated R a) (placed : N ≡ set R a (get_or N a no_processor)) (runs : has_halted H a ≡ false) where
  abbrev first : State
  first = get_or R a no_processor

  abbrev last : State
  last = get_or N a no_processor

  abbrev P : List State
  P = set R a (alone first)

  abbrev Q : List State
  Q = set N a (alone last)

  long : length N ≡ length R
  long = ap (λ (ss : List State). length ss) placed ∙ length-set R a last

  inside-N : a < length N
  inside-N = let e = long in omega (arith, e, inside)

  inside-P : a < length P
  inside-P = let e : length P ≡ length R = length-set R a (alone first) in omega (arith, e, inside)

  same-length : length Q ≡ length P
  same-length = length-set N a (alone last) ∙ long ∙ sym (length-set R a (alone first))

  put-back : Q ≡ set P a (alone last)
  put-back = ap (λ ss. set ss a (alone last)) placed ∙ set-set R a last (alone last) ∙ sym (set-set R a (alone first) (alone last))

  put : Q ≡ set P a (get_or Q a no_processor)
  put = put-back ∙ ap (set P a) (sym (get_or-set_same N a (alone last) no_processor inside-N))

  pub still-apart : IsSeated N a
  still-apart = subst AllAlone (sym put-back) (alone-set P a (alone last) apart refl)

  -- as they are on the memory
  before : with_shared (shared_of first) (get_or P a no_processor) ≡ first
  before = ap (with_shared (shared_of first)) (get_or-set_same R a (alone first) no_processor inside)

  after : with_shared (shared_of last) (get_or Q a no_processor) ≡ last
  after = ap (with_shared (shared_of last)) (get_or-set_same N a (alone last) no_processor inside-N)

  pub seat-goes : (n : ℕ) → Goes n first last → Stretch n a (seated_by R H a) (seated_by N H a)
  seat-goes n g =
      goes-stretch H a runs n P Q (shared_of first) (shared_of last) inside-P apart still-apart same-length put
      (subst (λ s. Goes n s (with_shared (shared_of last) (get_or Q a no_processor))) (sym before) (subst (λ t. Goes n first t) (sym after) g))

  pub seat-takes : (o p : Option HostModel) (e f : ℕ) (x : Turn) → TurnsAloneBetween o p e f first last x → TakesTurnBetween o p e f (seated_by R H a) (seated_by N (halted_by H a x) a) a x
  seat-takes o p e f x t =
      let made : TurnsAloneBetween o p e f (with_shared (shared_of first) (get_or P a no_processor)) (with_shared (shared_of last) (get_or Q a no_processor)) x =
      subst (λ s. TurnsAloneBetween o p e f s (with_shared (shared_of last) (get_or Q a no_processor)) x) (sym before) (subst (λ s. TurnsAloneBetween o p e f first s x) (sym after) t) in
      record {
        plan = λ h. told-comes P Q H (shared_of first) (shared_of last) a o p x inside-P same-length runs put still-apart made.told h;
        told = λ h ne. turn-is _ _ _ _ _ _ (told-comes P Q H (shared_of first) (shared_of last) a o p x inside-P same-length runs put still-apart made.told h) ne;
        listed = λ h ne u. told-listed P Q H (shared_of first) (shared_of last) a o p x inside-P same-length runs put still-apart made.told made.over h ne u;
        idle = (λ i. absurd (never-idle x made.told i), λ h. (let no : false ≡ true = sym runs ∙ h in absurd (cc)));
        marked = refl;
        bound = record { one = alone-later _ _ _ _ _ made.bound; others = put; idle = λ h. (let no : false ≡ true = sym runs ∙ h in absurd (cc)) };
        keeps = made.keeps;
      }

-- ---- turns while the memory is lent

pub idle-takes : (o : Option HostModel) (f : ℕ) (j : Joint) (who : ℕ) → has_halted j.halted who ≡ true → TakesTurnBetween o o f f j j who turned.Idle
idle-takes o f j who h = record {
  plan = λ t. idle-comes who j (contents o) h;
  told = λ t ne. turn-is who j j (contents o) (contents o) turned.Idle (idle-comes who j (contents o) h) ne;
  listed = λ t ne u. idle-listed who j (contents o) h u;
  idle = (λ i. h, λ i. refl);
  marked = refl;
  bound = idle-made who j;
  keeps = keeps-all o f;
}

pub takes-back : (o p : Option HostModel) (e f : ℕ) (j k l m : Joint) (who : ℕ) (x : Turn) → k ≡ j → m ≡ l → TakesTurnBetween o p e f k l who x → TakesTurnBetween o p e f j m who x
takes-back o p e f j k l m who x same back t = subst (λ a. TakesTurnBetween o p e f a m who x) same (subst (λ b. TakesTurnBetween o p e f k b who x) (sym back) t)

pub turns-back : (schedule : List ℕ) (n : ℕ) (o p : Option HostModel) (e f : ℕ) (j k l m : Joint) (end : MultiEnd) → k ≡ j → m ≡ l → TakesTurnsBetween schedule n o p e f k l end → TakesTurnsBetween schedule n o p e f j m end
turns-back schedule n o p e f j k l m end same back t =
    subst (λ a. TakesTurnsBetween schedule n o p e f a m end) same (subst (λ b. TakesTurnsBetween schedule n o p e f k b end) (sym back) t)
