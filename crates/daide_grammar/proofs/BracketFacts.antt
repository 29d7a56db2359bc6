-- The definitions of brackets at single lists. The expected results were worked out from the protocol.
use Rattle.daide_grammar.proofs.Common.{◌≡◌, ℕ, true, false, None, List, [], ◌∷◌, ◌++◌, get_or, inl, inr, refl, sym, ap}
use Rattle.daide_grammar.proofs.Common.{◌∙◌, arith, bra, ket, prn, huh, IsPaired, IsPrnWrapped, begins_with_prn}
use Rattle.daide_grammar.specs.Depth.{open_brackets, depth_of}
use Rattle.daide_grammar.specs.Table.Brackets.{excess_or_none}

-- the empty list has no open bracket and depth 0
nothing-open : open_brackets [] ≡ 0
nothing-open = refl

nothing-deep : depth_of [] ≡ 0
nothing-deep = refl

-- a bracket that was opened and not closed is open; the depth is the maximum over all prefixes, not the count at the
-- end
two-open : open_brackets (huh ∷ bra ∷ bra ∷ ket ∷ bra ∷ []) ≡ 2
two-open = refl

deepest-on-the-way : depth_of (huh ∷ bra ∷ bra ∷ bra ∷ ket ∷ ket ∷ ket ∷ bra ∷ ket ∷ []) ≡ 3
deepest-on-the-way = refl

side-by-side : depth_of (bra ∷ ket ∷ bra ∷ ket ∷ []) ≡ 1
side-by-side = refl

-- after a KET with nothing open, the number of open brackets is 0, whatever follows; such a list still has a depth
closed-early : open_brackets (huh ∷ ket ∷ bra ∷ bra ∷ []) ≡ 0
closed-early = refl

closed-early-counts : excess_or_none (huh ∷ ket ∷ bra ∷ bra ∷ []) ≡ None
closed-early-counts = refl

closed-early-deep : depth_of (huh ∷ ket ∷ bra ∷ bra ∷ []) ≡ 1
closed-early-deep = refl

-- a list that begins with PRN has no open bracket and depth 0; elsewhere PRN is an ordinary token
prn-open : open_brackets (prn ∷ bra ∷ bra ∷ []) ≡ 0
prn-open = refl

prn-deep : depth_of (prn ∷ bra ∷ bra ∷ ket ∷ ket ∷ []) ≡ 0
prn-deep = refl

prn-inside : open_brackets (huh ∷ bra ∷ prn ∷ bra ∷ []) ≡ 2
prn-inside = refl

-- ---- reports PRN

-- a report has BRA second and KET last, with any tokens between, also none or unbalanced ones
shortest-report : IsPaired (prn ∷ bra ∷ ket ∷ [])
shortest-report = inl ([], refl)

unbalanced-report : IsPaired (prn ∷ bra ∷ ket ∷ bra ∷ bra ∷ ket ∷ [])
unbalanced-report = inl (ket ∷ bra ∷ bra ∷ [], refl)

-- a list that begins with PRN and is no report is not paired, even if its brackets balance
unpaired : (m : List ℕ) → begins_with_prn m ≡ true → (IsPrnWrapped m → ⊥) → IsPaired m → ⊥
unpaired m begins none (inl report) = none report
unpaired m begins none (inr other) = let never : true ≡ false = sym begins ∙ other.0 in cc

-- a list with a last item is not empty
not-empty : (x : List ℕ) (t : ℕ) → [] ≡ x ++ t ∷ [] → ⊥
not-empty [] t e = cc
not-empty (u ∷ x) t e = cc

prn-alone : IsPaired (prn ∷ []) → ⊥
prn-alone = unpaired (prn ∷ []) refl (λ report. by_middle report.0 report.1)
  where
    by_middle : (x : List ℕ) → prn ∷ [] ≡ prn ∷ bra ∷ x ++ ket ∷ [] → ⊥
    by_middle x e = cc

-- PRN and one token are too few
prn-and-bra : IsPaired (prn ∷ bra ∷ []) → ⊥
prn-and-bra = unpaired (prn ∷ bra ∷ []) refl (λ report. by_middle report.0 report.1)
  where
    by_middle : (x : List ℕ) → prn ∷ bra ∷ [] ≡ prn ∷ bra ∷ x ++ ket ∷ [] → ⊥
    by_middle x e = let rest : [] ≡ x ++ ket ∷ [] = cc in not-empty x ket rest

-- the last token must be KET: PRN ( ) HUH is no report
prn-and-more : IsPaired (prn ∷ bra ∷ ket ∷ huh ∷ []) → ⊥
prn-and-more = unpaired (prn ∷ bra ∷ ket ∷ huh ∷ []) refl (λ report. by_middle report.0 report.1)
  where
    by_middle : (x : List ℕ) → prn ∷ bra ∷ ket ∷ huh ∷ [] ≡ prn ∷ bra ∷ x ++ ket ∷ [] → ⊥
    by_middle [] e = cc
    by_middle (t ∷ []) e = let last : huh ≡ ket = ap (λ m. get_or m 3 0) e in absurd (omega arith)
    by_middle (t ∷ u ∷ x) e = let rest : [] ≡ x ++ ket ∷ [] = cc in not-empty x ket rest

-- the second token must be BRA: PRN HUH ( ) is no report
prn-and-other : IsPaired (prn ∷ huh ∷ bra ∷ ket ∷ []) → ⊥
prn-and-other = unpaired (prn ∷ huh ∷ bra ∷ ket ∷ []) refl (λ report. by_middle report.0 report.1)
  where
    by_middle : (x : List ℕ) → prn ∷ huh ∷ bra ∷ ket ∷ [] ≡ prn ∷ bra ∷ x ++ ket ∷ [] → ⊥
    by_middle x e = let second : huh ≡ bra = ap (λ m. get_or m 1 0) e in absurd (omega arith)
