-- A message with the verdict HUH does not begin with PRN, nor does a prefix of it.
use Rattle.daide_explain.proofs.Common.{◌≡◌, ℕ, ◌≤◌, true, false, List, [], ◌∷◌, take, suc, zero, inl, inr, refl, arith}
use Rattle.daide_explain.proofs.Common.{tokens_of, begins_with_prn, IsMessageOver, Words, Level, Side2, HasVerdict, Huh}
use Rattle.daide_explain.proofs.Common.{depth_of}
use Rattle.daide_reader.proofs.ErrorPlaceLemmas.{report_begins}

report_shallow : (max_depth : ℕ) (m : List ℕ) → begins_with_prn m ≡ true → depth_of m ≤ max_depth
report_shallow max_depth m e = rw e (omega arith)

-- a paired message that is not relayed does not begin with PRN
pub huh_plain : (words : Words) (side : Side2) (l : Level) (max_depth : ℕ) (m : List ℕ) (place : ℕ) →
    HasVerdict (IsMessageOver words side l) max_depth m (Huh place) → begins_with_prn m ≡ false
unfolding HasVerdict
huh_plain words side l max_depth m place (inl report, no_relay, at) =
    absurd (no_relay (record {
      is_message = inl report;
      shallow = report_shallow max_depth m (report_begins m report);
    }))
huh_plain words side l max_depth m place (inr plain, no_relay, at) = plain.0

-- nor does a prefix of it
pub front_plain : (b : List ℕ) (k : ℕ) → begins_with_prn (tokens_of b) ≡ false →
    begins_with_prn (tokens_of (take k b)) ≡ false
front_plain b zero e = refl
front_plain [] (suc k) e = refl
front_plain (x ∷ []) (suc k) e = one k
  where
    one : (k : ℕ) → begins_with_prn (tokens_of (x ∷ take k [])) ≡ false
    one zero = refl
    one (suc k) = refl
front_plain (x ∷ y ∷ b) (suc zero) e = refl
front_plain (x ∷ y ∷ b) (suc (suc k)) e = e
