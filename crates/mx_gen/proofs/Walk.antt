-- The statements of the program are good, and what is known at the end.
use Rattle.std.proofs.Common.{◌≡◌, ℕ, zero, suc, ◌+◌, ◌*◌, ◌%◌, ◌^◌, ◌<◌, ◌≤◌, true, List, [], ◌∷◌, length, codes, fold, replicate, slice_set, Option, None, Some, refl, sym, ap, ◌∙◌, arith, subst, ⊎_elim, is_some}
use Rattle.mx_gen.proofs.Words.{AllByRecursion, cases_lt, Symbol, Value, Pure, Awaited, Near, Tree, number, name, ahead, Pseudo, Code, Set, Loc, NameTable, value_in, value_of_name, Name, Local, Known, tetra_xyz, tetra_wyde, StatementTree, Label, known_following, known_after, nothing_known, sights_from, next_local, unreferenced, depth, increment, random, stated, reg, block_name, procedure_name, block_before, closing_at, blocks_at, program}
use Rattle.mx_word.specs.declared.waits.Awaited.TheVariants as awaited
use Rattle.mx_word.specs.declared.waits.WaitKind.{WaitKind}
use Rattle.mx_stmt.specs.declared.placed.Effect.TheVariants as effect
use Rattle.mx_gen.proofs.SourceRead.{random-low, depth-low, increment-low}
use Rattle.mx_gen.proofs.Refusals.{AreGood, Leads, Ends, ends-none, ends-then, good-then}
use Rattle.mx_gen.proofs.Tries.{IsLight}
use Rattle.mx_gen.proofs.Placings.{known, placing, IsPlace, Tetras, code-placed, set-placed, plain-tetras, setl-tetra, incl-tetra, call-tetra, bod-tetra, get-tetra, put-tetra, trap-tetra, again-tetra}
use Rattle.mx_gen.proofs.Names.{block_full, main_full, procedure_full, link_full, halt_full, block-free, procedure-free, main-free, link-predefined, halt-predefined, value-none, value-some, value-predefined, block-form, label-new, with_one, other-value, own-value, still-there, one-light, one-count, HasBlocks, has_blocks-next, first_symbols, has_blocks-first}
use Rattle.mx_gen.proofs.Steps.{good-end, plain-good, waiting-good, local-later, local-here}

-- the local labels before the first one
abbrev pub no_backs : List Value
no_backs = replicate 10 (Pure 0)

-- room for this many blocks and the end from a place on
pub record Room (at more : ℕ) : Type 0 where
  pub whole : at % 4 ≡ 0
  pub low : at + 20 * more + 60 ≤ 2 ^ 18

-- the places after this many tetras
abbrev at_of : ℕ → ℕ → ℕ
at_of at zero = at
at_of at (suc j) = at_of at j + 4

at-is : (at j : ℕ) → at_of at j ≡ at + 4 * j
at-is at zero = omega arith
at-is at (suc j) = omega (arith, at-is at j)

place-of : (at : ℕ) → at % 4 ≡ 0 → at + 60 ≤ 2 ^ 18 → (j : ℕ) → j ≤ 10 → IsPlace (at_of at j)
place-of at whole low j few = let e = at-is at j in record { whole = omega (arith, whole, e); low = omega (arith, low, few, e) }

-- a coded statement by its tetra
code-leads : (symbols : List Symbol) (backs : List Value) (at : ℕ) → IsPlace at → (line : ℕ) (label : Option Label) (code : ℕ) (operands : List Tree) (word : ℕ) (wait : Option (Awaited × WaitKind)) (k : Known) →
    Tetras (known symbols backs at) code operands word wait → known_following (known symbols backs at) (stated line label (Code code) operands) (placing line at label word wait) ≡ k →
    Leads (known symbols backs at) (stated line label (Code code) operands) (placing line at label word wait) k
code-leads symbols backs at place line label code operands word wait k tetra following = record { placed = code-placed symbols backs at place line label code operands word wait tetra; following = following }

-- ---- a block

module _ (b c : ℕ) (is : c ≡ b + 1) (few : c ≤ 10001) (symbols : List Symbol) (has_blocks : HasBlocks b symbols) (at : ℕ) (whole : at % 4 ≡ 0) (low : at + 60 ≤ 2 ^ 18) where
  abbrev grown : List Symbol
  grown = with_one symbols (block_full c) at

  place : (j : ℕ) → j ≤ 10 → IsPlace (at_of at j)
  place = place-of at whole low

  new : value_in (block_full c) symbols ≡ None
  new = has_blocks.next c (omega (arith, is)) (omega (arith, few))

  grown-has : HasBlocks c grown
  grown-has = has_blocks-next b c symbols at is few (omega (arith, low)) has_blocks

  module _ (line deep more : ℕ) (deep_low : deep < 2 ^ 16) (more_low : more < 2 ^ 16) where
    lead0 : Leads (known symbols no_backs at) (stated line (Some (Name (block_name c))) (Code 0xe3) (reg 2 ∷ number deep ∷ [])) (placing line at (Some (Name (block_name c))) (tetra_wyde 0xe3 2 deep) None) (known grown no_backs (at + 4))
    lead0 = code-leads symbols no_backs at (place 0 (omega arith)) _ _ _ _ _ _ _ (setl-tetra (known symbols no_backs at) deep deep_low) refl

    lead1 : Leads (known grown no_backs (at + 4)) (stated (line + 1) None (Code 0xf2) (reg 1 ∷ name procedure_name ∷ [])) (placing (line + 1) (at + 4) None (tetra_wyde 0xf2 1 0) (Some (awaited.Name procedure_full, Near))) (known grown no_backs (at + 4 + 4))
    lead1 =
        code-leads grown no_backs (at + 4) (place 1 (omega arith)) _ _ _ _ _ _ _
        (call-tetra (known grown no_backs (at + 4)) procedure_name procedure_full refl (value-none grown no_backs (at + 4) procedure_full grown-has.procedure procedure-free)) refl

    lead2 : Leads (known grown no_backs (at + 4 + 4)) (stated (line + 2) None (Code 0x22) (reg 0 ∷ reg 0 ∷ reg 1 ∷ [])) (placing (line + 2) (at + 4 + 4) None (tetra_xyz 0x22 0 0 1) None) (known grown no_backs (at + 4 + 4 + 4))
    lead2 = code-leads grown no_backs (at + 4 + 4) (place 2 (omega arith)) _ _ _ _ _ _ _ (plain-tetras (known grown no_backs (at + 4 + 4))).sum-tetra refl

    lead3 : Leads (known grown no_backs (at + 4 + 4 + 4)) (stated (line + 3) None (Code 0x46) (reg 0 ∷ name (block_name (c + 1)) ∷ [])) (placing (line + 3) (at + 4 + 4 + 4) None (tetra_wyde 0x46 0 0) (Some (awaited.Name (block_full (c + 1)), Near))) (known grown no_backs (at + 4 + 4 + 4 + 4))
    lead3 =
        code-leads grown no_backs (at + 4 + 4 + 4) (place 3 (omega arith)) _ _ _ _ _ _ _
        (bod-tetra (known grown no_backs (at + 4 + 4 + 4)) (block_name (c + 1)) (block_full (c + 1)) (block-form grown no_backs (at + 4 + 4 + 4) (c + 1) (omega (arith, few))) (value-none grown no_backs (at + 4 + 4 + 4) (block_full (c + 1)) (grown-has.next (c + 1) (omega arith) (omega (arith, few))) (block-free (c + 1) (omega (arith, few))))) refl

    lead4 : Leads (known grown no_backs (at + 4 + 4 + 4 + 4)) (stated (line + 4) None (Code 0xe7) (reg 0 ∷ number more ∷ [])) (placing (line + 4) (at + 4 + 4 + 4 + 4) None (tetra_wyde 0xe7 0 more) None) (known grown no_backs (at + 4 + 4 + 4 + 4 + 4))
    lead4 = code-leads grown no_backs (at + 4 + 4 + 4 + 4) (place 4 (omega arith)) _ _ _ _ _ _ _ (incl-tetra (known grown no_backs (at + 4 + 4 + 4 + 4)) more more_low) refl

    pub block-ends : (later : List StatementTree) (end : Known) → Ends (known grown no_backs (at + 4 + 4 + 4 + 4 + 4)) later end → Ends (known symbols no_backs at) (block_before line c deep more later) end
    block-ends later end rest =
        ends-then _ _ _ _ _ end lead0 (ends-then _ _ _ _ _ end lead1 (ends-then _ _ _ _ _ end lead2 (ends-then _ _ _ _ _ end lead3 (ends-then _ _ _ _ later end lead4 rest))))

    pub block-good : (final : NameTable) (later : List StatementTree) → is_some (value_of_name final procedure_full) ≡ true → is_some (value_of_name final (block_full (c + 1))) ≡ true →
        AreGood final (known grown no_backs (at + 4 + 4 + 4 + 4 + 4)) later → AreGood final (known symbols no_backs at) (block_before line c deep more later)
    block-good final later called onward rest =
        plain-good final symbols no_backs at (place 0 (omega arith)) _ _ _ _ (tetra_wyde 0xe3 2 deep) _ _
        (label-new symbols no_backs at (block_name c) (block_full c) (block-form symbols no_backs at c (omega (arith, few))) (block-free c (omega (arith, few))) new) lead0
        (waiting-good final grown no_backs (at + 4) (place 1 (omega arith)) _ _ _ _ (tetra_wyde 0xf2 1 0) _ _ _ refl lead1 called
        (plain-good final grown no_backs (at + 4 + 4) (place 2 (omega arith)) _ _ _ _ (tetra_xyz 0x22 0 0 1) _ _ refl lead2
        (waiting-good final grown no_backs (at + 4 + 4 + 4) (place 3 (omega arith)) _ _ _ _ (tetra_wyde 0x46 0 0) _ _ _ refl lead3 onward
        (plain-good final grown no_backs (at + 4 + 4 + 4 + 4) (place 4 (omega arith)) _ _ _ _ (tetra_wyde 0xe7 0 more) _ _ refl lead4 rest))))

-- ---- the end

-- the procedure's statements after the first one
abbrev procedure_after : ℕ → List StatementTree
procedure_after line =
    stated (line + 1) None (Code 0xfe) (reg 1 ∷ name (codes "rJ") ∷ [])
    ∷ stated (line + 2) None (Code 0x26) (reg 3 ∷ reg 0 ∷ number 1 ∷ [])
    ∷ stated (line + 3) None (Code 0xf2) (reg 2 ∷ name procedure_name ∷ [])
    ∷ stated (line + 4) None (Code 0x22) (reg 0 ∷ reg 0 ∷ reg 2 ∷ [])
    ∷ stated (line + 5) None (Code 0xf6) (name (codes "rJ") ∷ reg 1 ∷ [])
    ∷ stated (line + 6) None (Code 0xf8) (number 1 ∷ number 0 ∷ [])
    ∷ stated (line + 7) (Some (Local 1)) (Code 0xf8) (number 1 ∷ number 0 ∷ [])
    ∷ []

module _ (b c : ℕ) (is : c ≡ b + 1) (few : c ≤ 10001) (symbols : List Symbol) (has_blocks : HasBlocks b symbols) (at : ℕ) (whole : at % 4 ≡ 0) (low : at + 60 ≤ 2 ^ 18) (line : ℕ) where
  abbrev last : List Symbol
  last = with_one symbols (block_full c) at

  abbrev to : ℕ → ℕ
  to j = at_of at j

  -- with the procedure
  abbrev all : List Symbol
  all = with_one last procedure_full (to 2)

  abbrev end_backs : List Value
  end_backs = slice_set no_backs 1 (Pure (to 9))

  lies : (j : ℕ) → j ≤ 10 → IsPlace (at_of at j)
  lies = place-of at whole low

  last-new : value_in (block_full c) symbols ≡ None
  last-new = has_blocks.next c (omega (arith, is)) (omega (arith, few))

  last-has : HasBlocks c last
  last-has = has_blocks-next b c symbols at is few (omega (arith, low)) has_blocks

  all-new : value_in procedure_full last ≡ None
  all-new = last-has.procedure

  link-none : value_in link_full all ≡ None
  link-none = other-value last procedure_full (to 2) all-new link_full refl ∙ last-has.link

  end0 : Leads (known symbols no_backs at) (stated line (Some (Name (block_name c))) Set (reg 255 ∷ reg 0 ∷ [])) (placing line at (Some (Name (block_name c))) (tetra_xyz 0xc1 255 0 0) None) (known last no_backs (to 1))
  end0 = record { placed = set-placed symbols no_backs at (lies 0 (omega arith)) line (Some (Name (block_name c))); following = refl }

  end1 : Leads (known last no_backs (to 1)) (stated (line + 1) None (Code 0) (number 0 ∷ name (codes "Halt") ∷ number 0 ∷ [])) (placing (line + 1) (to 1) None (tetra_xyz 0 0 0 0) None) (known last no_backs (to 2))
  end1 =
      code-leads last no_backs (to 1) (lies 1 (omega arith)) _ _ _ _ _ _ _
      (trap-tetra (known last no_backs (to 1)) (codes "Halt") halt_full refl (value-predefined last no_backs (to 1) halt_full 0 last-has.halt halt-predefined)) refl

  end2 : Leads (known last no_backs (to 2)) (stated (line + 2) (Some (Name procedure_name)) (Code 0x42) (reg 0 ∷ ahead 1 ∷ [])) (placing (line + 2) (to 2) (Some (Name procedure_name)) (tetra_wyde 0x42 0 0) (Some (awaited.Local 1, Near))) (known all no_backs (to 3))
  end2 = code-leads last no_backs (to 2) (lies 2 (omega arith)) _ _ _ _ _ _ _ (plain-tetras (known last no_backs (to 2))).skip-tetra refl

  end3 : Leads (known all no_backs (to 3)) (stated (line + 2 + 1) None (Code 0xfe) (reg 1 ∷ name (codes "rJ") ∷ [])) (placing (line + 2 + 1) (to 3) None (tetra_xyz 0xfe 1 0 4) None) (known all no_backs (to 4))
  end3 =
      code-leads all no_backs (to 3) (lies 3 (omega arith)) _ _ _ _ _ _ _
      (get-tetra (known all no_backs (to 3)) (codes "rJ") link_full refl (value-predefined all no_backs (to 3) link_full 4 link-none link-predefined)) refl

  end4 : Leads (known all no_backs (to 4)) (stated (line + 2 + 2) None (Code 0x26) (reg 3 ∷ reg 0 ∷ number 1 ∷ [])) (placing (line + 2 + 2) (to 4) None (tetra_xyz 0x27 3 0 1) None) (known all no_backs (to 5))
  end4 = code-leads all no_backs (to 4) (lies 4 (omega arith)) _ _ _ _ _ _ _ (plain-tetras (known all no_backs (to 4))).less-tetra refl

  again : (word : ℕ) × (Tetras (known all no_backs (to 5)) 0xf2 (reg 2 ∷ name procedure_name ∷ []) word None)
  again =
      again-tetra (known all no_backs (to 5)) procedure_name procedure_full (to 2) refl (value-some all no_backs (to 5) procedure_full (Pure (to 2)) (own-value last procedure_full (to 2) all-new))
      (omega (arith, whole)) (omega (arith, whole)) (omega (arith, low)) (omega (arith, low))

  end5 : Leads (known all no_backs (to 5)) (stated (line + 2 + 3) None (Code 0xf2) (reg 2 ∷ name procedure_name ∷ [])) (placing (line + 2 + 3) (to 5) None again.0 None) (known all no_backs (to 6))
  end5 = code-leads all no_backs (to 5) (lies 5 (omega arith)) _ _ _ _ _ _ _ again.1 refl

  end6 : Leads (known all no_backs (to 6)) (stated (line + 2 + 4) None (Code 0x22) (reg 0 ∷ reg 0 ∷ reg 2 ∷ [])) (placing (line + 2 + 4) (to 6) None (tetra_xyz 0x22 0 0 2) None) (known all no_backs (to 7))
  end6 = code-leads all no_backs (to 6) (lies 6 (omega arith)) _ _ _ _ _ _ _ (plain-tetras (known all no_backs (to 6))).more-tetra refl

  end7 : Leads (known all no_backs (to 7)) (stated (line + 2 + 5) None (Code 0xf6) (name (codes "rJ") ∷ reg 1 ∷ [])) (placing (line + 2 + 5) (to 7) None (tetra_xyz 0xf6 4 0 1) None) (known all no_backs (to 8))
  end7 =
      code-leads all no_backs (to 7) (lies 7 (omega arith)) _ _ _ _ _ _ _
      (put-tetra (known all no_backs (to 7)) (codes "rJ") link_full refl (value-predefined all no_backs (to 7) link_full 4 link-none link-predefined)) refl

  end8 : Leads (known all no_backs (to 8)) (stated (line + 2 + 6) None (Code 0xf8) (number 1 ∷ number 0 ∷ [])) (placing (line + 2 + 6) (to 8) None (tetra_wyde 0xf8 1 0) None) (known all no_backs (to 9))
  end8 = code-leads all no_backs (to 8) (lies 8 (omega arith)) _ _ _ _ _ _ _ (plain-tetras (known all no_backs (to 8))).pop-tetra refl

  end9 : Leads (known all no_backs (to 9)) (stated (line + 2 + 7) (Some (Local 1)) (Code 0xf8) (number 1 ∷ number 0 ∷ [])) (placing (line + 2 + 7) (to 9) (Some (Local 1)) (tetra_wyde 0xf8 1 0) None) (known all end_backs (to 10))
  end9 = code-leads all no_backs (to 9) (lies 9 (omega arith)) _ _ _ _ _ _ _ (plain-tetras (known all no_backs (to 9))).pop-tetra refl

  pub closing-ends : Ends (known symbols no_backs at) (closing_at line c) (known all end_backs (to 10))
  closing-ends =
      ends-then _ _ _ _ _ _ end0 (ends-then _ _ _ _ _ _ end1 (ends-then _ _ _ _ _ _ end2 (ends-then _ _ _ _ _ _ end3 (ends-then _ _ _ _ _ _ end4
      (ends-then _ _ _ _ _ _ end5 (ends-then _ _ _ _ _ _ end6 (ends-then _ _ _ _ _ _ end7 (ends-then _ _ _ _ _ _ end8 (ends-then _ _ _ _ [] _ end9 (ends-none (known all end_backs (to 10))))))))))))

  -- the label 1H is after the procedure's first line
  local-there : is_some (next_local 1 (sights_from (known all no_backs (to 3)) (procedure_after (line + 2)))) ≡ true
  local-there =
      local-later _ _ _ _ _ end3 refl (local-later _ _ _ _ _ end4 refl (local-later _ _ _ _ _ end5 refl (local-later _ _ _ _ _ end6 refl
      (local-later _ _ _ _ _ end7 refl (local-later _ _ _ _ _ end8 refl (local-here _ _ _ _ [] end9 refl refl))))))

  pub closing-good : (final : NameTable) → AreGood final (known symbols no_backs at) (closing_at line c)
  closing-good final =
      plain-good final symbols no_backs at (lies 0 (omega arith)) _ _ _ _ (tetra_xyz 0xc1 255 0 0) _ _
      (label-new symbols no_backs at (block_name c) (block_full c) (block-form symbols no_backs at c (omega (arith, few))) (block-free c (omega (arith, few))) last-new) end0
      (plain-good final last no_backs (to 1) (lies 1 (omega arith)) _ _ _ _ (tetra_xyz 0 0 0 0) _ _ refl end1
      (waiting-good final last no_backs (to 2) (lies 2 (omega arith)) _ _ _ _ (tetra_wyde 0x42 0 0) _ _ _ (label-new last no_backs (to 2) procedure_name procedure_full refl procedure-free all-new) end2 local-there
      (plain-good final all no_backs (to 3) (lies 3 (omega arith)) _ _ _ _ (tetra_xyz 0xfe 1 0 4) _ _ refl end3
      (plain-good final all no_backs (to 4) (lies 4 (omega arith)) _ _ _ _ (tetra_xyz 0x27 3 0 1) _ _ refl end4
      (plain-good final all no_backs (to 5) (lies 5 (omega arith)) _ _ _ _ again.0 _ _ refl end5
      (plain-good final all no_backs (to 6) (lies 6 (omega arith)) _ _ _ _ (tetra_xyz 0x22 0 0 2) _ _ refl end6
      (plain-good final all no_backs (to 7) (lies 7 (omega arith)) _ _ _ _ (tetra_xyz 0xf6 4 0 1) _ _ refl end7
      (plain-good final all no_backs (to 8) (lies 8 (omega arith)) _ _ _ _ (tetra_wyde 0xf8 1 0) _ _ refl end8
      (plain-good final all no_backs (to 9) (lies 9 (omega arith)) _ _ _ _ (tetra_wyde 0xf8 1 0) _ [] refl end9 (good-end final (known all end_backs (to 10))))))))))))

-- ---- all blocks

-- What is known at the end, after b blocks with these symbols and the rest of n blocks.
pub record IsEnd (b n : ℕ) (symbols : List Symbol) (k : Known) : Type 0 where
  pub kept : (x : List ℕ) → is_some (value_in x symbols) ≡ true → is_some (value_in x k.names.symbols) ≡ true
  pub blocks : (j : ℕ) → b < j → j ≤ n + 1 → is_some (value_in (block_full j) k.names.symbols) ≡ true
  pub procedure : is_some (value_in procedure_full k.names.symbols) ≡ true
  pub main : value_in main_full k.names.symbols ≡ Some (Pure 0x100)
  pub light : AllByRecursion IsLight k.names.symbols
  pub count : length k.names.symbols ≤ n + 3

pub closing-known : (b n line at : ℕ) (symbols : List Symbol) → n ≡ b → b ≤ 10000 → HasBlocks b symbols → at % 4 ≡ 0 → at + 60 ≤ 2 ^ 18 → IsEnd b n symbols (fold known_after (known symbols no_backs at) (closing_at line (b + 1)))
closing-known b n line at symbols same few has_blocks whole low =
    subst (IsEnd b n symbols) (sym (closing-ends b (b + 1) refl (omega (arith, few)) symbols has_blocks at whole low line).is) (record {
      kept = λ x there. still-there grown procedure_full (at + 4 + 4) new x (still-there symbols (block_full (b + 1)) at absent x there);
      blocks = λ j above most. still-there grown procedure_full (at + 4 + 4) new (block_full j)
          (subst (λ i. is_some (value_in (block_full i) grown) ≡ true) (let e : b + 1 ≡ j = omega (arith, above, most, same) in e) (ap is_some (own-value symbols (block_full (b + 1)) at absent)));
      procedure = ap is_some (own-value grown procedure_full (at + 4 + 4) new);
      main = other-value grown procedure_full (at + 4 + 4) new main_full refl ∙ then.main;
      light = one-light grown procedure_full (at + 4 + 4) new (omega arith) (omega (arith, low)) (let c = then.count in omega (arith, c, few)) then.light;
      count = let c = then.count in let m = one-count grown procedure_full (at + 4 + 4) new in omega (arith, c, m, same);
    })
  where
    grown : List Symbol
    grown = with_one symbols (block_full (b + 1)) at

    absent : value_in (block_full (b + 1)) symbols ≡ None
    absent = has_blocks.next (b + 1) (omega arith) (omega (arith, few))

    then : HasBlocks (b + 1) grown
    then = has_blocks-next b (b + 1) symbols at refl (omega (arith, few)) (omega (arith, low)) has_blocks

    new : value_in procedure_full grown ≡ None
    new = then.procedure

pub blocks-known : (b more n line at : ℕ) (symbols : List Symbol) → n ≡ b + more → n ≤ 10000 → HasBlocks b symbols → Room at more → IsEnd b n symbols (fold known_after (known symbols no_backs at) (blocks_at line b more))
unfolding blocks_at
blocks-known b zero n line at symbols is few has_blocks room =
    let low = room.low in
    closing-known b n line at symbols (omega (arith, is)) (omega (arith, is, few)) has_blocks room.whole (omega (arith, low))
blocks-known b (suc more) n line at symbols is few has_blocks room =
    let low = room.low in
    let whole = room.whole in
    let x = random (suc b) in
    let new : value_in (block_full (suc b)) symbols ≡ None = has_blocks.next (suc b) (omega arith) (omega (arith, is, few)) in
    let c_few : suc b ≤ 10001 = omega (arith, is, few) in
    let then = has_blocks-next b (suc b) symbols at (omega arith) c_few (omega (arith, low)) has_blocks in
    let rest = blocks-known (suc b) more n (line + 5) (at + 4 + 4 + 4 + 4 + 4) (with_one symbols (block_full (suc b)) at) (omega (arith, is)) few then
    (record { whole = omega (arith, whole); low = omega (arith, low) }) in
    let ends = block-ends b (suc b) (omega arith) c_few symbols has_blocks at whole (omega (arith, low)) line (depth x) (increment x) (depth-low x (random-low (suc b))) (increment-low x)
    (blocks_at (line + 5) (suc b) more) (fold known_after (known (with_one symbols (block_full (suc b)) at) no_backs (at + 4 + 4 + 4 + 4 + 4)) (blocks_at (line + 5) (suc b) more)) (record { is = refl }) in
    subst (IsEnd b n symbols) (sym ends.is) (record {
      kept = λ y there. rest.kept y (still-there symbols (block_full (suc b)) at new y there);
      blocks = λ j above most. ⊎_elim
          (λ more_above. rest.blocks j more_above most)
          (λ no_more. rest.kept (block_full j) (subst (λ i. is_some (value_in (block_full i) (with_one symbols (block_full (suc b)) at)) ≡ true) (let e : suc b ≡ j = omega (arith, above, no_more) in e) (ap is_some (own-value symbols (block_full (suc b)) at new))))
          (cases_lt (suc b) j);
      procedure = rest.procedure;
      main = rest.main;
      light = rest.light;
      count = rest.count;
    })

-- every name that is referred to is among the final ones
pub record AreFinal (n : ℕ) (final : NameTable) : Type 0 where
  pub block : (j : ℕ) → 0 < j → j ≤ n + 1 → is_some (value_of_name final (block_full j)) ≡ true
  pub procedure : is_some (value_of_name final procedure_full) ≡ true

pub blocks-good : (final : NameTable) (b more n line at : ℕ) (symbols : List Symbol) → AreFinal n final → n ≡ b + more → n ≤ 10000 → HasBlocks b symbols → Room at more → AreGood final (known symbols no_backs at) (blocks_at line b more)
unfolding blocks_at
blocks-good final b zero n line at symbols finals is few has_blocks room =
    let low = room.low in
    closing-good b (b + 1) refl (omega (arith, is, few)) symbols has_blocks at room.whole (omega (arith, low)) line final
blocks-good final b (suc more) n line at symbols finals is few has_blocks room =
    let low = room.low in
    let whole = room.whole in
    let x = random (suc b) in
    let c_few : suc b ≤ 10001 = omega (arith, is, few) in
    let then = has_blocks-next b (suc b) symbols at (omega arith) c_few (omega (arith, low)) has_blocks in
    let rest = blocks-good final (suc b) more n (line + 5) (at + 4 + 4 + 4 + 4 + 4) (with_one symbols (block_full (suc b)) at) finals (omega (arith, is)) few then
    (record { whole = omega (arith, whole); low = omega (arith, low) }) in
    block-good b (suc b) (omega arith) c_few symbols has_blocks at whole (omega (arith, low)) line (depth x) (increment x) (depth-low x (random-low (suc b))) (increment-low x)
    final (blocks_at (line + 5) (suc b) more) finals.procedure (finals.block (suc b + 1) (omega arith) (omega (arith, is))) rest

-- ---- the whole program

loc-leads : Leads nothing_known (stated 1 None (Pseudo Loc) (number 0x100 ∷ [])) (record { start = 0; bytes = []; waits = []; label = None; effect = effect.Plain; after = 0x100 }) (known [] no_backs 0x100)
loc-leads = record { placed = refl; following = refl }

main-place : IsPlace 0x100
main-place = record { whole = refl; low = omega arith }

main-leads : Leads (known [] no_backs 0x100) (stated 2 (Some (Name (codes "Main"))) (Code 0xe3) (reg 0 ∷ number 0 ∷ [])) (placing 2 0x100 (Some (Name (codes "Main"))) (tetra_wyde 0xe3 0 0) None) (known first_symbols no_backs 0x104)
main-leads = code-leads [] no_backs 0x100 main-place _ _ _ _ _ _ _ (plain-tetras (known [] no_backs 0x100)).main-tetra refl

first-room : (n : ℕ) → n ≤ 10000 → Room 0x104 n
first-room n few = record { whole = refl; low = omega (arith, few) }

pub program-known : (n : ℕ) → n ≤ 10000 → IsEnd 0 n first_symbols (fold known_after nothing_known (program n))
program-known n few =
    subst (IsEnd 0 n first_symbols) (sym (ends-then _ _ _ _ _ _ loc-leads (ends-then _ _ _ _ (blocks_at 3 0 n) (fold known_after (known first_symbols no_backs 0x104) (blocks_at 3 0 n)) main-leads (record { is = refl }))).is)
    (blocks-known 0 n n 3 0x104 first_symbols (omega arith) few has_blocks-first (first-room n few))

pub program-good : (final : NameTable) (n : ℕ) → n ≤ 10000 → AreFinal n final → AreGood final nothing_known (program n)
unfolding unreferenced
program-good final n few finals =
    good-then final nothing_known (stated 1 None (Pseudo Loc) (number 0x100 ∷ [])) (record { start = 0; bytes = []; waits = []; label = None; effect = effect.Plain; after = 0x100 }) (known [] no_backs 0x100) _ loc-leads
    (record { label = refl; waits = tt; value = tt; effect = refl; room = omega arith; met = refl })
    (plain-good final [] no_backs 0x100 main-place _ _ _ _ (tetra_wyde 0xe3 0 0) _ _ (label-new [] no_backs 0x100 (codes "Main") main_full refl main-free refl) main-leads
    (blocks-good final 0 n n 3 0x104 first_symbols finals (omega arith) few has_blocks-first (first-room n few)))
