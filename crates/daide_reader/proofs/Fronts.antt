-- The prefixes of tokens without an error place.
use Rattle.std.proofs.Common.{MatchOption}
use Rattle.daide_reader.proofs.Common.{◌≡◌, ℕ, zero, suc, ◌+◌, ◌<◌, List, [], ◌∷◌, length, take, Option, None, Some}
use Rattle.daide_reader.proofs.Common.{refl, subst, arith, inl, prn, bra, ket, Sym, IsMessageOf, HasErrorIndex}
use Rattle.daide_reader.proofs.Common.{StackOrPlace}
use Rattle.daide_reader.specs.ErrorPlace.{IsAllowedPrefix, AreAllowed}

-- a report of unpaired brackets is a message of every language
pub nothing_allowed : (language : List ℕ → Type 0) (max_depth : ℕ) → IsAllowedPrefix (IsMessageOf language) max_depth []
nothing_allowed language max_depth = record {
  viable = (prn ∷ bra ∷ ket ∷ [], inl ([], refl));
  shallow = omega arith;
}

pub fronts_allowed : (language : List ℕ → Type 0) (max_depth : ℕ) (p : List ℕ)
    → ((j : ℕ) → j < length p → IsAllowedPrefix (IsMessageOf language) max_depth (take (j + 1) p))
    → AreAllowed (IsMessageOf language) max_depth p
fronts_allowed language max_depth p h zero le = nothing_allowed language max_depth
fronts_allowed language max_depth p h (suc j) le =
    subst (λ (k : ℕ). IsAllowedPrefix (IsMessageOf language) max_depth (take k p)) (let e : j + 1 ≡ suc j = omega arith in e)
    (h j (omega arith))

-- what a stack or a place says about the error place alone
pub place_said : (language : Sym → List ℕ → Type 0) (first : Sym) (max_depth : ℕ) (stack : List Sym) (place : Option ℕ)
    (p : List ℕ) → StackOrPlace language first max_depth stack place p
    → MatchOption place (AreAllowed (IsMessageOf (language first)) max_depth p) (HasErrorIndex (language first) max_depth p)
place_said language first max_depth stack None p h = fronts_allowed (language first) max_depth p h.allowed
place_said language first max_depth stack (Some i) p h = h
