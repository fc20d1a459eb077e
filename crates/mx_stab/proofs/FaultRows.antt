-- Worked rows of the table of faults.
use Rattle.std.proofs.Common.{ℕ, [], ◌∷◌, length, ap, refl, arith, inl, inr}
use Rattle.mx_stab.proofs.Words.{length-replicate, Pure, Truncated, Padding, Wide, Twice, BadSerial, CountsTooFar, EndsWithin, FaultOf, IsDue, LacksWide, NamesAgain, UpToCharacter, UpToLeft, UpToSymbol, IsSubtrie, SpellsCharacter, SpellsSerial, SpellsValue}

-- a node with the character `:` below which names go on
colon : UpToSymbol [] [] 0x20 (0x20 ∷ 0x3a ∷ []) (0x3a ∷ []) []
colon = UpToSymbol.none [] [] 0x20 (0x20 ∷ 0x3a ∷ []) (0x3a ∷ []) []
    (UpToCharacter.character [] [] 0x20 (0x20 ∷ []) [] (0x3a ∷ []) (0x3a ∷ []) (UpToLeft.left [] [] 0x20 [] [] (λ h. absurd (cc (h.0))) (IsSubtrie.none []) tt) (inr refl)
    (SpellsCharacter.one_byte 0x3a (omega arith)) (omega arith)) refl

below-colon : IsDue (0x20 ∷ 0x3a ∷ []) (0x3a ∷ []) []
below-colon = IsDue.middle [] [] [] 0x20 (0x20 ∷ 0x3a ∷ []) (0x3a ∷ []) [] IsDue.first colon refl

-- d8 00 is no character of two bytes, at the node at 2
no-character : FaultOf (0x20 ∷ 0x3a ∷ 0x81 ∷ 0xd8 ∷ 0x00 ∷ 0x05 ∷ 0x81 ∷ 0x00 ∷ []) (Wide 2)
no-character = FaultOf.wide (0x20 ∷ 0x3a ∷ []) (0x3a ∷ []) (0x81 ∷ 0xd8 ∷ 0x00 ∷ 0x05 ∷ 0x81 ∷ 0x00 ∷ []) [] below-colon
    (LacksWide.no_character 0x81 0xd8 0x00 (0x81 ∷ []) (0x05 ∷ 0x81 ∷ 0x00 ∷ []) []
    (UpToLeft.left (0x3a ∷ []) [] 0x81 [] [] (λ h. h.1 (inl (λ e. cc))) (IsSubtrie.none (0x3a ∷ [])) tt) (inl (λ e. cc)) refl (λ h. absurd (cc)))

-- the bytes end where a node is due
no-node : FaultOf (0x20 ∷ 0x3a ∷ []) (Truncated 2)
no-node = FaultOf.cut_off (0x20 ∷ 0x3a ∷ []) (0x3a ∷ []) [] [] below-colon EndsWithin.at_byte (omega arith)

-- four zeros after a trie of one empty node
four-zeros : FaultOf (0 ∷ 0 ∷ 0 ∷ 0 ∷ 0 ∷ []) (Padding 1)
four-zeros = FaultOf.padding (0 ∷ []) (0 ∷ 0 ∷ 0 ∷ 0 ∷ []) [] (IsSubtrie.bare [] 0 0 [] [] [] [] (IsSubtrie.none []) (IsSubtrie.none [])) tt
    (λ zeros few same. omega (arith, ap length same, few, length-replicate {A = ℕ} zeros 0))

-- `a` has the serial number 2^32
too-far : FaultOf (0x01 ∷ 0x61 ∷ 0x00 ∷ 0x10 ∷ 0x00 ∷ 0x00 ∷ 0x00 ∷ 0x80 ∷ []) (BadSerial 0)
too-far = FaultOf.bad_serial [] [] _ [] IsDue.first
    (CountsTooFar.serial_is 0x01 0x00 (0x01 ∷ 0x61 ∷ []) (0x61 ∷ []) [] (Pure 0) (0x00 ∷ []) (0x10 ∷ 0x00 ∷ 0x00 ∷ 0x00 ∷ []) []
    (UpToCharacter.character [] [] 0x01 (0x01 ∷ []) [] (0x61 ∷ []) (0x61 ∷ []) (UpToLeft.left [] [] 0x01 [] [] (λ h. absurd (cc (h.0))) (IsSubtrie.none []) tt) (inl (λ e. cc))
    (SpellsCharacter.one_byte 0x61 (omega arith)) (omega arith))
    (SpellsValue.pure (0x00 ∷ []) (omega arith, tt) (omega arith) (omega arith)) (omega arith, (omega arith, (omega arith, (omega arith, tt)))) (omega arith) (omega arith))

-- `a` and, beside it, `a` again, at the node at 4
first-a : UpToSymbol [] [] 0x11 (0x11 ∷ 0x61 ∷ 0x00 ∷ 0x81 ∷ []) (0x61 ∷ []) (record { name = 0x61 ∷ []; value = Pure 0; serial = 1 } ∷ [])
first-a = UpToSymbol.symbol [] [] 0x11 (0x11 ∷ 0x61 ∷ []) (0x61 ∷ []) [] (Pure 0) 1 (0x00 ∷ []) (0x81 ∷ [])
    (UpToCharacter.character [] [] 0x11 (0x11 ∷ []) [] (0x61 ∷ []) (0x61 ∷ []) (UpToLeft.left [] [] 0x11 [] [] (λ h. absurd (cc (h.0))) (IsSubtrie.none []) tt) (inl (λ e. cc))
    (SpellsCharacter.one_byte 0x61 (omega arith)) (omega arith))
    (SpellsValue.pure (0x00 ∷ []) (omega arith, tt) (omega arith) (omega arith)) (SpellsSerial.digits [] 1 tt (omega arith) (omega arith)) (tt, tt)

again : FaultOf (0x11 ∷ 0x61 ∷ 0x00 ∷ 0x81 ∷ 0x01 ∷ 0x61 ∷ 0x00 ∷ 0x82 ∷ []) (Twice 4)
again = FaultOf.twice (0x11 ∷ 0x61 ∷ 0x00 ∷ 0x81 ∷ []) [] _ (record { name = 0x61 ∷ []; value = Pure 0; serial = 1 } ∷ [])
    (IsDue.right [] [] [] 0x11 (0x11 ∷ 0x61 ∷ 0x00 ∷ 0x81 ∷ []) (0x61 ∷ []) _ [] [] IsDue.first first-a (IsSubtrie.none (0x61 ∷ [])) (tt, tt) refl)
    (NamesAgain.name_is 0x01 (0x01 ∷ 0x61 ∷ []) [] (record { name = 0x61 ∷ []; value = Pure 0; serial = 1 }) [] (Pure 0) 2 (0x00 ∷ []) (0x82 ∷ []) []
    (UpToCharacter.character [] _ 0x01 (0x01 ∷ []) _ (0x61 ∷ []) (0x61 ∷ []) (UpToLeft.left [] _ 0x01 [] [] (λ h. absurd (cc (h.0))) (IsSubtrie.none []) (tt, tt)) (inl (λ e. cc))
    (SpellsCharacter.one_byte 0x61 (omega arith)) (omega arith))
    (SpellsValue.pure (0x00 ∷ []) (omega arith, tt) (omega arith) (omega arith)) (SpellsSerial.digits [] 2 tt (omega arith) (omega arith)))
