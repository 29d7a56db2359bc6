-- The level that a server announced, and the text of a level that the highest one capped, worked out by hand.
use Rattle.daide_log.proofs.Common.{◌≡◌, ℕ, List, [], ◌∷◌, codes, Some, None, refl, digits, Bot, Server, L0, L10, L20}
use Rattle.daide_log.proofs.Common.{L30, L60, Stopped}
use Rattle.daide_log.specs.Explained.{Moved, Remark, announced_in, announced_levels, capped_from, level_announced, level_text}

-- `HLO ( ENG ) ( 1234 ) ( ( LVL n ) )`
abbrev hlo_with : ℕ → List ℕ
hlo_with n =
    0x4804 ∷ 0x4000 ∷ 0x4101 ∷ 0x4001 ∷ 0x4000 ∷ 1234 ∷ 0x4001 ∷ 0x4000 ∷ 0x4000 ∷ 0x4903 ∷ n ∷ 0x4001 ∷ 0x4001 ∷ []

-- the greatest level that the number allows; another message, and one of the bot, announces nothing
announced :
    (announced_in Server (hlo_with 30) L0 ≡ L30) × (announced_in Server (hlo_with 25) L0 ≡ L20)
    × (announced_in Server (hlo_with 100) L0 ≡ L60) × (announced_in Server (hlo_with 0) L30 ≡ L0)
    × (announced_in Bot (hlo_with 30) L0 ≡ L0) × (announced_in Server (0x480F ∷ []) L30 ≡ L30)
announced = (refl, refl, refl, refl, refl, refl)

-- only a message that was judged at the highest level, below the announced one
texts :
    (level_text L10 (capped_from L10 L30 L10) ≡ codes "judged at level 10, capped from 30")
    × (level_text L10 (capped_from L10 L10 L10) ≡ codes "judged at level 10")
    × (level_text L0 (capped_from L10 L30 L0) ≡ codes "judged at level 0")
    × (level_text L0 (capped_from L0 L60 L0) ≡ codes "judged at level 0, capped from 60")
unfolding digits
texts = (refl, refl, refl, refl)

-- each session has its own level
levels :
    (announced_levels (L0 ∷ L0 ∷ [])
    (Moved (record { source = record { line = 3; session = Some 2 }; side = Server; reported = Stopped }) [] L30 ∷ Remark [] ∷ [])
    ≡ L0 ∷ L30 ∷ [])
    × (level_announced (L10 ∷ L30 ∷ []) (record { line = 3; session = Some 2 }) ≡ L30)
    × (level_announced (L10 ∷ L30 ∷ []) (record { line = 3; session = None }) ≡ L10)
levels = (refl, refl, refl)
