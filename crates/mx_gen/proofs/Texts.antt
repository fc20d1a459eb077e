-- The source as lines.
use Rattle.std.proofs.Common.{◌≡◌, ℕ, zero, suc, ◌+◌, List, [], ◌∷◌, ◌++◌, codes, sym, ap, ◌∙◌, arith, append_assoc, rules}
use Rattle.mx_gen.proofs.Words.{decimal, depth, increment, random, opening, blocks, closing, generated, block_name}
use Rattle.mx_gen.proofs.Lines.{text_of}

-- a line by its label, which may be empty, its operation and its operands
abbrev pub line_with : List ℕ → List ℕ → List ℕ → List ℕ
line_with label op ops = label ++ 32 ∷ (op ++ 32 ∷ ops)

abbrev pub block_lines : ℕ → ℕ → ℕ → List (List ℕ) → List (List ℕ)
block_lines b deep more later =
    line_with (block_name b) (codes "SETL") (codes "$2," ++ decimal deep)
    ∷ line_with [] (codes "PUSHJ") (codes "$1,Rec")
    ∷ line_with [] (codes "ADDU") (codes "$0,$0,$1")
    ∷ line_with [] (codes "BOD") (codes "$0,B" ++ decimal (b + 1))
    ∷ line_with [] (codes "INCL") (codes "$0," ++ decimal more)
    ∷ later

abbrev pub procedure_lines : List (List ℕ)
procedure_lines =
    line_with (codes "Rec") (codes "BZ") (codes "$0,1F")
    ∷ line_with [] (codes "GET") (codes "$1,rJ")
    ∷ line_with [] (codes "SUBU") (codes "$3,$0,1")
    ∷ line_with [] (codes "PUSHJ") (codes "$2,Rec")
    ∷ line_with [] (codes "ADDU") (codes "$0,$0,$2")
    ∷ line_with [] (codes "PUT") (codes "rJ,$1")
    ∷ line_with [] (codes "POP") (codes "1,0")
    ∷ line_with (codes "1H") (codes "POP") (codes "1,0")
    ∷ []

abbrev pub closing_lines : ℕ → List (List ℕ)
closing_lines b = line_with (block_name b) (codes "SET") (codes "$255,$0") ∷ line_with [] (codes "TRAP") (codes "0,Halt,0") ∷ procedure_lines

unfoldable pub rest_lines : ℕ → ℕ → List (List ℕ)
rest_lines b zero = closing_lines (b + 1)
rest_lines b (suc more) = block_lines (suc b) (depth (random (suc b))) (increment (random (suc b))) (rest_lines (suc b) more)

abbrev pub all_lines : ℕ → List (List ℕ)
all_lines n = line_with [] (codes "LOC") (codes "#100") ∷ line_with (codes "Main") (codes "SETL") (codes "$0,0") ∷ rest_lines 0 n

blocks-text : (b more n : ℕ) → n ≡ b + more → blocks b ++ text_of (rest_lines b more) ≡ blocks n ++ closing n
unfolding blocks rest_lines
blocks-text b zero n is = search (rules, append_assoc)
blocks-text b (suc more) n is = search (rules, append_assoc, blocks-text (suc b) more n (omega (arith, is)))

pub generated-text : (n : ℕ) → text_of (all_lines n) ≡ generated n
unfolding generated blocks
generated-text n = ap (λ t. opening ++ t) (blocks-text 0 n n (omega arith)) ∙ sym (append_assoc opening (blocks n) (closing n))
