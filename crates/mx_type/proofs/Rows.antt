-- Worked rows of listings.
use Rattle.std.proofs.Common.{◌≡◌, ℕ, List, [], ◌∷◌, ◌++◌, Some, None, refl, sym, ap, ◌∙◌, codes}
use Rattle.std.specs.Fmt.{digits}
use Rattle.mx_type.proofs.Words.{Symbol, Item, Load, Loc, Skip, FixOcta, FixNear, FixFar, File, Line, Spec, Pre, Post, Stab, IsTrie, hex_digits, lambda_following, lambda_of, ended, stab_line, symbol_line, AreLines, IsListing, items_text, listing_text}
use Rattle.mx_word.specs.declared.symbols.Value.TheVariants.{Pure, Reg}
use Rattle.mx_text.specs.Instructions.{instruction_text}
use Rattle.mx_text.proofs.Rows.{backward, nothing_done, stopped}
use Rattle.mx_type.specs.Lines as Table
use Rattle.mx_type.proofs.Listed.{all-listed}

-- an object with a time, one tetra and a symbol
timed : List Item
timed = Pre (0x36f4a363 ∷ []) ∷ Loc 0x100 ∷ Load 0 ∷ Post 255 (0x100 ∷ []) ∷ Stab ∷ []

timed_trie : List ℕ
timed_trie = 0x20 ∷ 0x3a ∷ 0x40 ∷ 0x40 ∷ 0x10 ∷ 0x40 ∷ 0x40 ∷ 0x20 ∷ 0x4d ∷ 0x20 ∷ 0x61 ∷ 0x20 ∷ 0x69 ∷ 0x01 ∷ 0x6e ∷ 0 ∷ 0x81 ∷ 0 ∷ 0 ∷ 0 ∷ []

timed_symbols : List Symbol
timed_symbols = record { name = codes ":Main"; value = Pure 0; serial = 1 } ∷ []

abbrev timed_lines : List ℕ → List ℕ
timed_lines stop =
    codes "pre 36f4a363\nloc #0000000000000100\n#0000000000000100 00000000 " ++ (((stop ++ codes "\n")
    ++ codes "post 255 #0000000000000100\n") ++ codes "stab 203a4040104040204d20612069016e0081000000\nsymbol :Main #0000000000000000 1\n")

timed_text : List ℕ
timed_text = timed_lines (codes "TRAP 0,0,0")

timed_given : timed_text ≡ listing_text timed timed_trie timed_symbols
unfolding timed timed_trie timed_symbols timed_text items_text hex_digits digits
timed_given = ap timed_lines (sym stopped)

timed_listed : IsTrie timed_trie timed_symbols → IsListing timed_text timed timed_trie
timed_listed told = all-listed timed_text timed timed_trie timed_symbols told timed_given

-- the one line before an unknown lopcode
begun : items_text 0 (Pre (0 ∷ []) ∷ []) ≡ codes "pre 00000000\n"
unfolding items_text hex_digits digits
begun = refl

-- a tetra at an address that is lowered, and a branch backward, which shows its target
abbrev lowered_lines : List ℕ → List ℕ → List ℕ
lowered_lines first second =
    codes "loc #0000000000000102\n#0000000000000100 fd000000 " ++ ((first ++ codes "\n")
    ++ (codes "skip 6\n#0000000000000108 f1ffffff " ++ ((second ++ codes "\n") ++ [])))

lowered : items_text 0 (Loc 0x102 ∷ Load 0xfd000000 ∷ Skip 6 ∷ Load 0xf1ffffff ∷ []) ≡ lowered_lines (codes "SWYM 0,0,0") (codes "JMP #0000000000000104")
unfolding items_text hex_digits digits
lowered = ap (λ t. lowered_lines t (instruction_text 0xf1ffffff 0x108)) nothing_done ∙ ap (lowered_lines (codes "SWYM 0,0,0")) backward

-- lambda is modulo 2^64
around : lambda_of (Loc 0xfffffffffffffffe ∷ Load 0 ∷ []) ≡ 0
unfolding lambda_following
around = refl

-- fixes move nothing
fixes : items_text 0x100 (FixOcta 7 ∷ FixNear 3 ∷ FixFar 16 0x0100ffc0 ∷ FixFar 24 5 ∷ []) ≡
    codes "fixo #0000000000000007\nfixr 3\nfixrx 16 0100ffc0\nfixrx 24 00000005\n"
unfolding items_text hex_digits digits
fixes = refl

-- a file with its name and one without, a line, data of another program, `pre` without a tetra, two registers
others : items_text 0 (Pre [] ∷ File 0 (Some (codes ".mms")) ∷ File 12 None ∷ Line 65535 ∷ Spec 7 ∷ Post 254 (1 ∷ 0x100 ∷ []) ∷ Stab ∷ []) ≡
    codes "pre\nfile 0 2e6d6d73\nfile 12\nline 65535\nspec 7\npost 254 #0000000000000001 #0000000000000100\n"
unfolding items_text hex_digits digits
others = refl

-- no trie, a name with a blank and two bytes above 126, and a register
unnamed : stab_line [] ≡ codes "stab"
unnamed = refl

dotted : symbol_line (record { name = 58 ∷ 32 ∷ 0xce ∷ 0xb1 ∷ 126 ∷ []; value = Reg 255; serial = 300 }) ≡ codes "symbol :...~ $255 300"
unfolding digits
dotted = refl

-- lines by the table: the address is that of the meaning of the items before
by_table : AreLines (Loc 0x100 ∷ Skip 4 ∷ []) (codes "loc #0000000000000100\nskip 4\n")
unfolding lambda_following hex_digits digits
by_table = AreLines.next (Loc 0x100 ∷ []) (codes "loc #0000000000000100\n") (Skip 4) (codes "skip 4")
    (AreLines.next [] [] (Loc 0x100) (codes "loc #0000000000000100") AreLines.none (Table.IsLine.loc 0 0x100)) (Table.IsLine.skip 0x100 4)
