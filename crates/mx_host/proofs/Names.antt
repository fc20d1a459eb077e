-- Names of files stay distinct, and slots go on leading to files.
use Rattle.std.proofs.Common.{◌≡◌, ℕ, ◌≤◌, false, cond, nat_lt, List, [], ◌∷◌, ◌++◌, length, None, Some, refl, sym, subst, arith, get_or}
use Rattle.std.specs.Prelude.{slice_set}
use Rattle.std.specs.List.{IsDistinct, list_any, position_or_len}
use Rattle.std.specs.Str.{bytes_eq}
use Rattle.std.specs.Cmp.{IsEquivalence}
use Rattle.std.proofs.lemmas.Bool.Decides.{nat_tests}
use Rattle.std.proofs.lemmas.Cmp.{nat_list_eq_equiv}
use Rattle.std.proofs.lemmas.List.{length-set, map-append}
use Rattle.std.proofs.lemmas.Map.Keys.{IsDistinct-push}
use Rattle.std.proofs.lemmas.Grind.{common_steps}
use Rattle.std.proofs.Math.Seq.{map-set_same}
use Rattle.mx_host.specs.declared.files.StoredFile.{StoredFile}
use Rattle.mx_host.specs.declared.slots.Slot.{Slot}
use Rattle.mx_host.specs.HostModel.{place_of, names_of, HasDistinctNames, IsSound, Leads}
use Rattle.std.proofs.lemmas.List.Elements.{All-set}

-- two names are equal as lists of numbers are
bytes_eq_equiv : IsEquivalence bytes_eq
bytes_eq_equiv = nat_list_eq_equiv

-- other bytes in a file change no name
HasDistinctNames-set : (files : List StoredFile) (at : ℕ) (f d : StoredFile) → HasDistinctNames files → f.name ≡ (get_or files at d).name → HasDistinctNames (slice_set files at f)
unfolding HasDistinctNames
HasDistinctNames-set files at f d h e =
    subst (IsDistinct bytes_eq) (sym (map-set_same (λ g. g.name) files at f d e)) h

-- other bytes in a file keep what every call keeps
pub IsSound-set : (files : List StoredFile) (slots : List Slot) (at : ℕ) (f d : StoredFile) → IsSound files slots → f.name ≡ (get_or files at d).name → IsSound (slice_set files at f) slots
IsSound-set files slots at f d h e =
    (h.0, HasDistinctNames-set files at f d h.1 e, rw (length-set files at f) h.2)

-- another value in a slot, which leads somewhere
pub IsSound-slot : (files : List StoredFile) (slots : List Slot) (at : ℕ) (to : Slot) → IsSound files slots → Leads (length files) to → IsSound files (slice_set slots at to)
IsSound-slot files slots at to h l = (rw (length-set slots at to) h.0, h.1, All-set (Leads (length files)) slots at to l h.2)

-- where the search for a name goes past the end, no file has it
past : (files : List StoredFile) (name : List ℕ) → length files ≤ position_or_len (λ f. bytes_eq f.name name) files → list_any (bytes_eq name) (names_of files) ≡ false
past [] name h = refl
past (f ∷ fs) name h = grind (arith, common_steps, past fs name, bytes_eq_equiv.symm f.name name)

-- a search that finds nothing went past the end
missing : (n k : ℕ) → cond (nat_lt k n) (Some k) None ≡ None → n ≤ k
missing n k h = grind (arith, nat_tests)

-- a file of a name that no file has yet
pub HasDistinctNames-push : (files : List StoredFile) (f : StoredFile) → HasDistinctNames files → place_of files f.name ≡ None → HasDistinctNames (files ++ f ∷ [])
unfolding HasDistinctNames
HasDistinctNames-push files f h e =
    rw (map-append (λ g. g.name) files (f ∷ [])) (IsDistinct-push bytes_eq_equiv (names_of files) f.name h (past files f.name (missing _ _ e)))

-- no files
pub HasDistinctNames-nil : HasDistinctNames []
unfolding HasDistinctNames IsDistinct
HasDistinctNames-nil = tt

-- for `add_file`
pub ruleset distinct = (HasDistinctNames-push)
