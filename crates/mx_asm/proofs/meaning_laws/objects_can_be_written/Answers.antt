use Rattle.mx_asm.proofs.ObjectLaws.{source-writable, source-told, source-few}
use Rattle.mx_asm.proofs.meaning_laws.objects_can_be_written.Goals as goal

pub returns-clause-writable : goal.returns-clause-writable
returns-clause-writable c = λ source items trie bytes is. source-writable source bytes items trie is

pub returns-clause-symbols : goal.returns-clause-symbols
returns-clause-symbols c = λ source items trie bytes is. source-told source bytes items trie is

pub returns-clause-short : goal.returns-clause-short
returns-clause-short c = λ source items trie bytes is. source-few source bytes items trie is
