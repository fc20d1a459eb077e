-- The tetra of an instruction, with its target known and with none.
use Rattle.std.proofs.Common.{◌≡◌, ℕ, ◌%◌, true, List, [], ◌++◌, Option, bit_xor, refl, sym, ap, ◌∙◌, append-nil, rules, arith}
use Rattle.mx_stmt.proofs.Words.{tetra_to_bytes, WaitKind, Tree, Shape, Target, Tetra, Answer, AreAlike, Known, Targets, no_targets, future_word, relative_form, branch_form, jump_form, with_register, form_by, tetra_waits, from_place, placed, fix_bytes, fix_placements, IsSound}
use Rattle.mx_stmt.specs.declared.operands.Target.TheVariants as target
use Rattle.mx_stmt.proofs.Alike.{alike-fault, alike-values, alike-then}
use Rattle.mx_stmt.proofs.JoinedBytes.{placed-append, placed-joined}
use Rattle.mx_stmt.proofs.JoinedWords.{IsHead, word-joined, jump-head, branch-head}
use Rattle.mx_stmt.proofs.RegisterNumbers.{register-fits}
use Rattle.mx_stmt.proofs.CodesOfTargets.{has_address}
use Rattle.mx_stmt.proofs.EveryForm.{HasNoWait, every-code, none-plain, none-then}

-- ---- instructions with a known target and with none

pub record IsJoined (t : Targets) (line place : ℕ) (before after : Tetra) : Type 0 where
  pub wait : after.wait ≡ before.wait
  pub bytes : (a : ℕ) → placed (from_place place (tetra_to_bytes after.word)) a ≡ placed (from_place place (tetra_to_bytes before.word) ++ fix_placements t (tetra_waits line place before.wait)) a

pub alike-none : (t : Targets) (line place : ℕ) (a : Answer Tetra) → HasNoWait a → AreAlike (IsJoined t line place) a a
unfolding HasNoWait
alike-none t line place a h = search (rules, alike-fault, alike-values, append-nil)

relative-alike : (t : Targets) (line place head reach : ℕ) (kind : WaitKind) (target : Target) → IsHead head reach → ((target : Option ℕ) → fix_bytes kind place target ≡ tetra_to_bytes (future_word 0 reach place target)) → AreAlike (IsJoined t line place) (relative_form no_targets head reach place kind target) (relative_form t head reach place kind target)
relative-alike t line place head reach kind (target.Known n) is fix = search (rules, alike-none, none-then, none-plain)
relative-alike t line place head reach kind (target.Future who) is fix = alike-values _ _ _ (record {
  wait = refl;
  bytes = λ a.
      ap (λ w. placed (from_place place (tetra_to_bytes w)) a) (word-joined head reach is place (t who))
      ∙ placed-joined place 4 head (future_word 0 reach place (t who)) a
      ∙ ap (λ l. bit_xor (placed (from_place place (tetra_to_bytes head)) a) (placed l a)) (sym (append-nil (from_place place (fix_bytes kind place (t who))) ∙ ap (from_place place) (fix (t who))))
      ∙ sym (placed-append (from_place place (tetra_to_bytes head)) (from_place place (fix_bytes kind place (t who)) ++ []) a);
})

module _ (t : Targets) (k : Known) (line code : ℕ) where
  abbrev Joined : Answer Tetra → Answer Tetra → Type 0
  Joined = AreAlike (IsJoined t line k.at)

  branch-joined : (x a : Tree) → IsSound k → code % 2 ≡ 0 → Joined (with_register k x (λ x. branch_form no_targets k code x a)) (with_register k x (λ x. branch_form t k code x a))
  branch-joined x a sound even = search (rules, alike-then, relative-alike, branch-head, register-fits)

  jump-joined : (a : Tree) → code % 2 ≡ 0 → Joined (jump_form no_targets k code a) (jump_form t k code a)
  jump-joined a even = grind (arith, alike-then, relative-alike, jump-head)

  pub coded-joined : (shapes : List Shape) (l : List Tree) → IsSound k → (has_address shapes ≡ true → code % 2 ≡ 0) → Joined (form_by no_targets k shapes code l) (form_by t k shapes code l)
  coded-joined shapes l sound even =
      every-code k code (λ f. Joined (f no_targets) (f t)) (alike-none t line k.at) shapes (λ h x a. branch-joined x a sound (even h)) (λ h a. jump-joined a (even h)) l
