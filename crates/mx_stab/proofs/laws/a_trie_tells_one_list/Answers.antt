use Rattle.std.proofs.Common.{◌≡◌, List, Ok, Result, sym, ◌∙◌}
use Rattle.mx_stab.proofs.Words.{Symbol, StabFault}
use Rattle.mx_stab.proofs.Whole.{trie-read}
use Rattle.mx_stab.proofs.laws.a_trie_tells_one_list.Goals as goal

abbrev answer : List Symbol → Result (List Symbol) StabFault
answer symbols = Ok symbols

same-list : (symbols others : List Symbol) → answer symbols ≡ answer others → symbols ≡ others
same-list symbols others e = cc

pub returns : goal.returns
returns c = λ bytes symbols others h k. same-list symbols others (sym (trie-read bytes symbols h) ∙ trie-read bytes others k)
