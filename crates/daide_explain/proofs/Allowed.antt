-- Allowed prefixes: prefixes of them, and one more token in the terms of a reader's error place.
use Rattle.std.proofs.Common.{map, MatchOption, is_some, if◌then◌else◌}
use Rattle.daide_explain.proofs.Common.{◌≡◌, ℕ, ◌+◌, ◌*◌, ◌≤◌, ◌<◌, ◌==◌, Bool, true, false, List, [], ◌∷◌, ◌++◌}
use Rattle.daide_explain.proofs.Common.{length, take, drop, Option, None, Some, IsTrue, not, ◌↔◌, refl, sym, ◌∙◌, ap}
use Rattle.daide_explain.proofs.Common.{subst, arith, append_assoc, append-nil, take_all, take-append-drop, bra, ket}
use Rattle.daide_explain.proofs.Common.{prn, tokens_of, begins_with_prn, excess, prefixes, greatest, depth_of}
use Rattle.daide_explain.proofs.Common.{IsAllowedPrefix, IsMessageOf, Words}
use Rattle.daide_grammar.proofs.Counting.{greatest_prefixes-snoc}
use Rattle.daide_reader.specs.ErrorPlace.{AreAllowed}
use Rattle.daide_reader.specs.Reading.{Reading, HasErrorIndex, HasReadPrefix, tokens_read}
use Rattle.daide_grammar.specs.declared.symbol.Sym.{Sym}
use Rattle.daide_grammar.specs.declared.predict.Predict.{Ghosts}

-- the depth of a list is at most that of a longer one
deeper : (p q : List ℕ) → greatest (map excess (prefixes p)) ≤ greatest (map excess (prefixes (p ++ q)))
deeper p [] = rw append-nil (omega arith)
deeper p (t ∷ q) =
    let one = greatest_prefixes-snoc p t in
    let more = deeper (p ++ t ∷ []) q in
    subst (λ (l : List ℕ). greatest (map excess (prefixes p)) ≤ greatest (map excess (prefixes l)))
    (append_assoc p (t ∷ []) q) (omega arith)

depth_front : (p q : List ℕ) → depth_of p ≤ depth_of (p ++ q)
depth_front [] q = omega arith
depth_front (x ∷ p) q = go (x == prn)
  where
    go : (b : Bool) → ◌≤◌ (if b then 0 else greatest (map excess (prefixes (x ∷ p))))
        (if b then 0 else greatest (map excess (prefixes (x ∷ (p ++ q)))))
    go true = omega arith
    go false = deeper (x ∷ p) q

-- each prefix of an allowed prefix is allowed
pub front_allowed : (message : List ℕ → Type 0) (max_depth k : ℕ) (q : List ℕ) → IsAllowedPrefix message max_depth q →
    IsAllowedPrefix message max_depth (take k q)
front_allowed message max_depth k q h =
    let whole : take k q ++ drop k q ≡ q = take-append-drop k q in
    let r = h.viable.0 in
    record {
      viable = (
        drop k q ++ r,
        subst message (ap (λ (l : List ℕ). l ++ r) (sym whole) ∙ append_assoc (take k q) (drop k q) r) h.viable.1,
      );
      shallow =
          let few = depth_front (take k q) (drop k q) in
          let same : depth_of (take k q ++ drop k q) ≡ depth_of q = ap depth_of whole in
          let most = h.shallow in
          omega arith;
    }

-- equal sets of messages have the same allowed prefixes
pub allowed_along : (a b : List ℕ → Type 0) → ((m : List ℕ) → a m → b m) → (max_depth : ℕ) (p : List ℕ) →
    IsAllowedPrefix a max_depth p → IsAllowedPrefix b max_depth p
allowed_along a b there max_depth p h = record {
  viable = (h.viable.0, there (p ++ h.viable.0) h.viable.1);
  shallow = h.shallow;
}

-- tokens are allowed exactly if a reader found no error place in them
pub allowed_if_no_place : (language : List ℕ → Type 0) (max_depth : ℕ) (q : List ℕ) (place : Option ℕ) (none : Bool) →
    is_some place ≡ not none →
    MatchOption place (AreAllowed (IsMessageOf language) max_depth q) (HasErrorIndex language max_depth q) →
    IsTrue none ↔ IsAllowedPrefix (IsMessageOf language) max_depth q
allowed_if_no_place language max_depth q None true e h = (
  λ _. subst (IsAllowedPrefix (IsMessageOf language) max_depth) (take_all (length q) q (omega arith))
      (h (length q) (omega arith)),
  λ _. refl,
)
allowed_if_no_place language max_depth q None false e h = absurd cc
allowed_if_no_place language max_depth q (Some i) true e h = absurd cc
allowed_if_no_place language max_depth q (Some i) false e h = (
  λ f. let no : false ≡ true = f in absurd cc,
  λ allowed. absurd (h.is_place.here h.inside (front_allowed (IsMessageOf language) max_depth (i + 1) q allowed)),
)

-- fewer than two bytes are no token
pub nothing_before : (b : List ℕ) → length b < 2 → tokens_of b ≡ []
nothing_before [] h = refl
nothing_before (x ∷ []) h = refl
nothing_before (x ∷ y ∷ b) h = absurd (omega arith)

-- PRN alone is a prefix of a report
pub prn_allowed : (message : List ℕ → Type 0) (max_depth : ℕ) (b : List ℕ) (t : ℕ) → message (prn ∷ bra ∷ ket ∷ []) →
    length b < 2 → t ≡ prn → IsAllowedPrefix message max_depth (tokens_of b ++ t ∷ [])
prn_allowed message max_depth b t report few same =
    subst (λ (x : ℕ). IsAllowedPrefix message max_depth (tokens_of b ++ x ∷ [])) (sym same)
    (subst (λ (p : List ℕ). IsAllowedPrefix message max_depth (p ++ prn ∷ [])) (sym (nothing_before b few))
    (record { viable = (bra ∷ ket ∷ [], report); shallow = omega arith }))

-- after one more token a list begins with PRN only if it did before, or if the token is PRN and the first
pub plain_more : (b : List ℕ) (t : ℕ) → begins_with_prn (tokens_of b) ≡ false → (length b < 2 → (t == prn) ≡ false) →
    begins_with_prn (tokens_of b ++ t ∷ []) ≡ false
plain_more [] t h k = k (omega arith)
plain_more (x ∷ []) t h k = k (omega arith)
plain_more (x ∷ y ∷ b) t h k = h

-- a reader that has read nothing has read the first `tokens_read` tokens of any body
pub read_nothing : {T : Type 0} (table : Ghosts T) (words : Words) (first : Sym) (max_depth : ℕ) (v : Reading T)
    (b : List ℕ) → HasReadPrefix table words first max_depth v [] →
    HasReadPrefix table words first max_depth v (tokens_of (take (2 * tokens_read v) b))
read_nothing {T = T} table words first max_depth v b h =
    subst (λ (p : List ℕ). HasReadPrefix {T = T} table words first max_depth v p)
    (sym (ap (λ (k : ℕ). tokens_of (take (2 * k) b)) h.outline.tokens)) h
