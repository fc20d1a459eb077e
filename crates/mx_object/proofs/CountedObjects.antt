-- An object that is counted from no steps on.
use Rattle.std.proofs.Common.{◌≡◌, ◌≢◌, ℕ, List, refl, subst, ap, ◌∙◌, Some, Ok, Err}
use Rattle.std.specs.Prelude.{Option, Result}
use Rattle.mx_word.specs.declared.symbols.Symbol.{Symbol}
use Rattle.mx_host.specs.HostModel.{HostModel, contents}
use Rattle.mx_mmo.specs.Image.{Image}
use Rattle.mx_plan.specs.Wild.{ends}
use Rattle.mx_load.specs.Objects.{object_loaded}
use Rattle.mx_run.specs.WildRuns.{window_machine, list_machine}
use Rattle.mx_words.specs.declared.order.Order.{Order}
use Rattle.mx_outcome.specs.declared.outcome.Outcome.{Outcome}
use Rattle.mx_outcome.specs.declared.outcome.Outcome.TheVariants.{BadObject, OutOfMemory}
use Rattle.mx_count.specs.Counting.{counts_in}
use Rattle.mx_count.specs.Leaving.{ImageLeaves}
use Rattle.mx_files.specs.Answers.{GoesAs}
use Rattle.mx_count.specs.Runs.{CountsByKind, CountsRun, by_counts, image_counted, run_counts, run_outcome}
use Rattle.mx_count.specs.declared.counts.Entry.{Entry}
use Rattle.mx_count.proofs.CountedRuns.{mapped-told}
use Rattle.mx_count.proofs.LeftHosts.{unstarted-left}
use Rattle.mx_object.specs.Addresses.{addresses_of, items_in}
use Rattle.mx_object.specs.Counting.{sheet_by}
use Rattle.mx_object.specs.Listing.{tetras_at}
use Rattle.mx_object.specs.Runs.{LoadedLeaves, by_run, loaded_with, object_counted, object_in, uncounted}
use Rattle.mx_object.specs.declared.counted.CountedObject.{CountedObject}
use Rattle.mx_object.specs.declared.counting.ObjectSheet.{ObjectSheet}
use Rattle.mx_object.specs.declared.tetras.ListedTetra.{ListedTetra}

-- ---- what is made of the counts of a run

pub object-with : (tetras : List ListedTetra) (outcome : Outcome) (es same : List Entry) (sheet : ObjectSheet) (result : CountedObject) → result.outcome ≡ outcome →
    (outcome ≢ OutOfMemory → result ≡ record { outcome = outcome; sheet = Some sheet }) → same ≡ es → sheet ≡ sheet_by (counts_in same) tetras → result.outcome ≢ OutOfMemory →
    result ≡ record { outcome = outcome; sheet = Some (sheet_by (counts_in es) tetras) }
object-with tetras outcome es same sheet result is value there made ne =
    value (λ e. ne (is ∙ e)) ∙ (λ i. record { outcome = outcome; sheet = Some ((made ∙ ap (λ (x : List Entry). sheet_by (counts_in x) tetras) there) i) })

-- an image that is counted by these tetras
pub tetras-told : (old new : Option HostModel) (tetras : List ListedTetra) (r : Result (Outcome × List Entry) Outcome) (result : CountedObject) (o : Order) (arguments : List (List ℕ)) (image : Image) →
    (result.outcome ≢ OutOfMemory → run_outcome r ≢ OutOfMemory) → (result.outcome ≢ OutOfMemory → result ≡ object_in tetras (run_counts r)) →
    CountsRun old new r (λ kind m. image_counted kind o arguments by_counts image m) →
    CountsByKind old new result.outcome result (λ kind m. by_run kind o arguments tetras image m)
tetras-told old new tetras r result o arguments image enough is told =
    mapped-told old new (run_outcome r) result.outcome (run_counts r) result (object_in tetras) (λ kind m. image_counted kind o arguments by_counts image m) enough is told

-- ---- what is loaded

pub loaded-told : (old new : Option HostModel) (result : CountedObject) (o : Order) (arguments : List (List ℕ)) (bytes : List ℕ) (image : Image) (symbols : List Symbol) →
    ◌≡◌ {A = Result (Image × List Symbol) (ℕ × ℕ)} (Ok (image, symbols)) (object_loaded bytes) →
    CountsByKind old new result.outcome result (λ kind m. by_run kind o arguments (tetras_at image symbols (addresses_of (items_in bytes))) image m) →
    CountsByKind old new result.outcome result (λ kind m. object_counted kind o arguments bytes m)
loaded-told old new result o arguments bytes image symbols e told = (
  λ t ne. told.0 t ne ∙ ap (λ r. loaded_with by_run window_machine o arguments bytes r (contents old)) e,
  λ t ne. subst (λ x. GoesAs x result (contents new)) (ap (λ r. loaded_with by_run list_machine o arguments bytes r (contents old)) e) (told.1 t ne),
)

pub refused-told : (old : Option HostModel) (result : CountedObject) (o : Order) (arguments : List (List ℕ)) (bytes : List ℕ) (place fault : ℕ) →
    ◌≡◌ {A = Result (Image × List Symbol) (ℕ × ℕ)} (Err (place, fault)) (object_loaded bytes) → result ≡ uncounted (BadObject place fault) →
    CountsByKind old old result.outcome result (λ kind m. object_counted kind o arguments bytes m)
refused-told old result o arguments bytes place fault e is = (
  λ t ne. (λ i. ends (is i) (contents old)) ∙ ap (λ r. loaded_with by_run window_machine o arguments bytes r (contents old)) e,
  λ t ne. subst (λ x. GoesAs x result (contents old)) (ap (λ r. loaded_with by_run list_machine o arguments bytes r (contents old)) e) (is, refl),
)

-- ---- how the host is left

pub loaded-left : (o : Order) (arguments : List (List ℕ)) (r : Result (Image × List Symbol) (ℕ × ℕ)) (image : Image) (symbols : List Symbol) (m k : HostModel) → Ok (image, symbols) ≡ r →
    ImageLeaves o arguments image m k → LoadedLeaves o arguments r m k
loaded-left o arguments r image symbols m k e h = subst (λ (x : Result (Image × List Symbol) (ℕ × ℕ)). LoadedLeaves o arguments x m k) e h

pub unloaded-left : (o : Order) (arguments : List (List ℕ)) (r : Result (Image × List Symbol) (ℕ × ℕ)) (m : HostModel) → LoadedLeaves o arguments r m m
unloaded-left o arguments (Ok (image, symbols)) m = unstarted-left o arguments image m
unloaded-left o arguments (Err fault) m = refl
