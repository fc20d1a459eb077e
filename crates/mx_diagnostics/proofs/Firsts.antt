-- The first elements of a list, and whether a source is accepted.
use Rattle.std.proofs.Common.{◌≡◌, ◌≤◌, ℕ, List, length, take, sym, ap, ◌∙◌, refl, Option, Result, Ok, Err}
use Rattle.std.specs.Result.{is_ok, result_err}
use Rattle.std.proofs.lemmas.List.{take_all}
use Rattle.mx_files.specs.Sources.{source_meaning}
use Rattle.mx_files.specs.declared.refusal.Refusal.{Refusal}
use Rattle.mx_view.specs.Listing.{refusal_in}
use Rattle.mx_view.specs.declared.checking.ToldFault.{ToldFault}
use Rattle.mx_diagnostics.specs.Diagnostics.{is_absent}

pub first-all : (count : ℕ) (faults : List ToldFault) → length faults ≤ count → faults ≡ take count faults
first-all count faults le = sym (take_all count faults le)

pub ruleset firsts = (first-all)

absent-ok : {A : Type 0} (m : Result A Refusal) → is_absent (result_err m) ≡ is_ok m
absent-ok (Ok image) = refl
absent-ok (Err refusal) = refl

pub accepted : (source : List ℕ) (r : Option Refusal) → r ≡ refusal_in source → is_absent r ≡ is_ok (source_meaning source)
accepted source r e = ap is_absent e ∙ absent-ok (source_meaning source)

pub ruleset acceptance = (accepted)
