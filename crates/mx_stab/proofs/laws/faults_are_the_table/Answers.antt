use Rattle.std.proofs.Common.{◌≡◌, ℕ, List, Some, Ok, Err, Result, ap, sym, ◌∙◌, inl, inr, ◌⊎◌, refl}
use Rattle.mx_stab.proofs.Words.{AreBytes, Symbol, StabFault, FaultOf, IsTrie, fault_in, trie_answer}
use Rattle.mx_stab.proofs.FaultsFound.{fault-found}
use Rattle.mx_stab.proofs.FaultsMet.{fault-met, fault-within}
use Rattle.mx_stab.proofs.Sound.{read-trie}
use Rattle.mx_stab.proofs.laws.faults_are_the_table.Goals as goal

abbrev refusal : StabFault → Result (List Symbol) StabFault
refusal fault = Err fault

refused : (r : Result (List Symbol) StabFault) (fault : StabFault) → fault_in r ≡ Some fault → r ≡ refusal fault
refused (Ok symbols) fault e = absurd (cc)
refused (Err other) fault e = let is : other ≡ fault = cc in ap refusal is

pub returns-clause-fault : goal.returns-clause-fault
returns-clause-fault c = λ bytes fault b. (λ e. fault-found bytes fault b (refused (trie_answer bytes) fault e), λ f. ap fault_in (fault-met f))

either : (bytes : List ℕ) (r : Result (List Symbol) StabFault) → AreBytes bytes → trie_answer bytes ≡ r → ((symbols : List Symbol) × IsTrie bytes symbols) ⊎ ((fault : StabFault) × FaultOf bytes fault)
either bytes (Ok symbols) b e = inl (symbols, read-trie bytes symbols b e)
either bytes (Err fault) b e = inr (fault, fault-found bytes fault b e)

pub returns-clause-some : goal.returns-clause-some
returns-clause-some c = λ bytes b. either bytes (trie_answer bytes) b refl

same : (fault other : StabFault) → refusal fault ≡ refusal other → fault ≡ other
same fault other e = cc

pub returns-clause-one : goal.returns-clause-one
returns-clause-one c = λ bytes fault other f g. same fault other (sym (fault-met f) ∙ fault-met g)

pub returns-clause-within : goal.returns-clause-within
returns-clause-within c = λ bytes fault f. fault-within f
