-- The definitions, computed for short reports.
use Rattle.std.proofs.Common.{◌≡◌, [], ◌∷◌, ◌++◌, codes, refl}
use Rattle.daide_log_laws.specs.Added.{lines_in, without_added}

-- a move with a line that explains it, a comment, an incomplete frame, and the counts
explained_text : without_added
    ((codes "3 bot DM 4 relay" ++ 10 ∷ []) ++ (codes "    GOF ( )" ++ 10 ∷ []) ++ (codes "# a comment" ++ 10 ∷ [])
    ++ (codes "    bot: 2 of 4 bytes of a header" ++ 10 ∷ []) ++ (codes "relayed 1 prn 0 huh 0 faults 0" ++ 10 ∷ []))
    ≡ (codes "3 bot DM 4 relay" ++ 10 ∷ []) ++ (codes "relayed 1 prn 0 huh 0 faults 0" ++ 10 ∷ [])
explained_text = refl

-- a line that begins with three spaces, a line with `#` inside, and an empty line are kept
other_text : without_added ((codes "   a" ++ 10 ∷ []) ++ (codes "b # c    d" ++ 10 ∷ []) ++ (10 ∷ []) ++ codes "e")
    ≡ (codes "   a" ++ 10 ∷ []) ++ (codes "b # c    d" ++ 10 ∷ []) ++ (10 ∷ []) ++ codes "e"
other_text = refl

-- the last line may lack its line feed
last_lines : lines_in (codes "a" ++ 10 ∷ 10 ∷ codes "bc") ≡ (97 ∷ 10 ∷ []) ∷ (10 ∷ []) ∷ codes "bc" ∷ []
last_lines = refl
