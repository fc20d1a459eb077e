-- Items of an object are loaded one after another.
use Rattle.std.proofs.Common.{◌≡◌, ◌≢◌, ℕ, zero, suc, ◌<◌, length, Bool, true, Some, None, Ok, Err, refl, sym, ◌∙◌, ap, arith, Result, IfErr}
use Rattle.mx_load.specs.Faults as loads
use Rattle.mx_load.proofs.Words.{told, fault_of, loading_of, LoadFault, Loading, Meaningless, take_item, Due, first_item, ReaderModel, given, next_item, next_due, next_answer, left_of, Item, MmoFault, loaded_from, loaded_after, item_answer, unread, unloaded, place_and_number, Loaded, item_loaded, first_loaded, items_loaded, taken, fault_at, OutOfMemory}
use Rattle.mx_load.specs.declared.progress.Progress.{Progress}
use Rattle.mx_load.specs.declared.fault.LoadFault.TheVariants.{OutOfMemory as NoRoom}
use Rattle.mx_mmo.specs.declared.faults.MmoFault.TheVariants.{OutOfMemory as NoBytes}
use Rattle.mx_load.specs.declared.objects.ObjectFault.{ObjectFault}

-- the faults of reading and of loading keep their place and number
pub unread-is : (f : MmoFault) → unread f ≢ OutOfMemory → place_and_number (unread f) ≡ fault_at f
unread-is NoBytes h = absurd (h refl)
unread-is f h = refl

unloaded-is : (place : ℕ) (f : LoadFault) → unloaded place f ≢ OutOfMemory → place_and_number (unloaded place f) ≡ (place, loads.number_of f)
unloaded-is place NoRoom h = absurd (h refl)
unloaded-is place f h = refl

pub taken-ok : (place : ℕ) (s : Loading) (r : Result Loading Meaningless) → Ok s ≡ told r → ◌≡◌ {A = Result Loading (ℕ × ℕ)} (Ok s) (taken place r)
taken-ok place s (Ok t) h = ap Ok (cc)
taken-ok place s (Err e) h = absurd (cc)

pub taken-err : (place : ℕ) (f : LoadFault) (r : Result Loading Meaningless) → Err f ≡ told r → unloaded place f ≢ OutOfMemory → ◌≡◌ {A = Result Loading (ℕ × ℕ)} (Err (place_and_number (unloaded place f))) (taken place r)
taken-err place f (Ok t) h ne = absurd (cc)
taken-err place f (Err e) h ne =
    let same : f ≡ fault_of e = cc in
    ap Err (unloaded-is place f ne ∙ ap (λ g. (place, loads.number_of g)) same)

-- what a reader answers that has answered no fault
due : (m : ReaderModel) → m.fault ≡ None → next_answer m ≡ next_item m (first_item m.phase m.at m.rest)
due m h = ap (λ o. next_due o m) h

-- nothing whole is next
none-on : (k : ℕ) (s : Loading) (m n : ReaderModel) (d : Due) → (Ok None, n) ≡ next_item m d → first_loaded (items_loaded k) s m.phase m.at m.rest d ≡ Ok (s, left_of n)
none-on k s m n (Ok None) h = ap (λ r. Ok (s, left_of r)) (sym (ap (λ p. p.1) h))
none-on k s m n d h = let e = ap (λ p. p.0) h in absurd (cc)

pub next-none : (k : ℕ) (l : Progress) (m n : ReaderModel) → m.fault ≡ None → (Ok None, n) ≡ next_answer m → loaded_from (suc k) l m ≡ Ok (loading_of l, left_of n)
unfolding items_loaded
next-none k l m n none h = none-on k (loading_of l) m n (first_item m.phase m.at m.rest) (h ∙ due m none)

-- a fault is next
fault-on : (k : ℕ) (s : Loading) (m n : ReaderModel) (f : MmoFault) (d : Due) → (Err f, n) ≡ next_item m d → first_loaded (items_loaded k) s m.phase m.at m.rest d ≡ Err (fault_at f)
fault-on k s m n f (Ok None) h = let e = ap (λ p. p.0) h in absurd (cc)
fault-on k s m n f (Ok (Some (item, size))) h = let e = ap (λ p. p.0) h in absurd (cc)
fault-on k s m n f (Err g) h = let e = ap (λ p. p.0) h in let same : f ≡ g = cc in ap (λ g. Err (fault_at g)) (sym same)

pub next-fault : (k : ℕ) (l : Progress) (m n : ReaderModel) (f : MmoFault) → m.fault ≡ None → (Err f, n) ≡ next_answer m → unread f ≢ OutOfMemory → loaded_from (suc k) l m ≡ Err (place_and_number (unread f))
unfolding items_loaded
next-fault k l m n f none h ne =
    fault-on k (loading_of l) m n f (first_item m.phase m.at m.rest) (h ∙ due m none) ∙ ap Err (sym (unread-is f ne))

-- an item is next
follow-is : (k : ℕ) (m : ReaderModel) (item : Item) (size : ℕ) (r : Result Loading (ℕ × ℕ)) → item_loaded (items_loaded k) m.phase m.at m.rest item size r ≡ loaded_after k (given m item size) r
follow-is k m item size (Ok s) = refl
follow-is k m item size (Err fault) = refl

item-on : (k : ℕ) (s : Loading) (m n : ReaderModel) (item : Item) (d : Due) → (Ok (Some item), n) ≡ next_item m d →
    first_loaded (items_loaded k) s m.phase m.at m.rest d ≡ loaded_after k n (taken n.place (take_item s item))
item-on k s m n item (Ok (Some (i, size))) h =
    let after : n ≡ given m i size = ap (λ p. p.1) h in
    let answer = ap (λ p. p.0) h in
    let same : item ≡ i = cc in
    follow-is k m i size (taken m.at (take_item s i))
    ∙ sym (ap (λ (r : ReaderModel). loaded_after k r (taken r.place (take_item s item))) after ∙ ap (λ j. loaded_after k (given m i size) (taken m.at (take_item s j))) same)
item-on k s m n item d h = let e = ap (λ p. p.0) h in absurd (cc)

pub next-item : (k : ℕ) (l : Progress) (m n : ReaderModel) (item : Item) (place : ℕ) (r : Result Loading (ℕ × ℕ)) → m.fault ≡ None → (Ok (Some item), n) ≡ next_answer m →
    place ≡ n.place → r ≡ taken place (take_item (loading_of l) item) → loaded_from (suc k) l m ≡ loaded_after k n r
unfolding items_loaded
next-item k l m n item place r none h e f =
    item-on k (loading_of l) m n item (first_item m.phase m.at m.rest) (h ∙ due m none)
    ∙ ap (loaded_after k n) (sym (f ∙ ap (λ p. taken p (take_item (loading_of l) item)) e))

-- what an item was loaded to
pub next-went : (l k : Progress) (m n : ReaderModel) (item : Item) (place : ℕ) (r : Result Bool ObjectFault) → m.fault ≡ None → (Ok (Some item), n) ≡ next_answer m → place ≡ n.place →
    (r ≢ Err OutOfMemory → item_answer r (loading_of k) ≡ taken place (take_item (loading_of l) item)) → r ≡ Ok true → (i : ℕ) → loaded_from (suc i) l m ≡ loaded_from i k n
next-went l k m n item place (Ok b) none h e taken-is went = λ i. next-item i l m n item place (Ok (loading_of k)) none h e (taken-is (λ x. cc))
next-went l k m n item place (Err f) none h e taken-is went = absurd (cc)

pub next-failed : (l k : Progress) (m n : ReaderModel) (item : Item) (place : ℕ) (r : Result Bool ObjectFault) → m.fault ≡ None → (Ok (Some item), n) ≡ next_answer m → place ≡ n.place →
    (r ≢ Err OutOfMemory → item_answer r (loading_of k) ≡ taken place (take_item (loading_of l) item)) → r ≢ Err OutOfMemory →
    IfErr r (λ f. (i : ℕ) → loaded_from (suc i) l m ≡ Err (place_and_number f))
next-failed l k m n item place (Ok b) none h e taken-is ne = tt
next-failed l k m n item place (Err f) none h e taken-is ne = λ i. next-item i l m n item place (Err (place_and_number f)) none h e (taken-is ne)

-- the items that are left, of which there are fewer than this many
abbrev pub Left-of : Loaded → Progress → ReaderModel → Type 0
Left-of whole l m = (n : ℕ) × (length m.rest < n) × (whole ≡ loaded_from n l m)

pub left-next : (whole : Loaded) (l k : Progress) (m n : ReaderModel) → Left-of whole l m → ((i : ℕ) → loaded_from (suc i) l m ≡ loaded_from i k n) → length n.rest < length m.rest → Left-of whole k n
left-next whole l k m n (zero, few, e) next less = absurd (omega arith)
left-next whole l k m n (suc i, few, e) next less = (i, omega arith, e ∙ next i)

pub left-last : (whole r : Loaded) (l : Progress) (m : ReaderModel) → Left-of whole l m → ((i : ℕ) → loaded_from (suc i) l m ≡ r) → whole ≡ r
left-last whole r l m (zero, few, e) last = absurd (omega arith)
left-last whole r l m (suc i, few, e) last = e ∙ last i

pub ruleset loading = (taken-ok, taken-err)
