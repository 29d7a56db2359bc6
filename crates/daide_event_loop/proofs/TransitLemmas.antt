-- System calls, one after another.
use Rattle.std.proofs.Common.{List, [], ◌∷◌, ◌++◌, subst}
use Rattle.daide_io.specs.System.{SystemCall, TransitsBy}

module _ {P S : Type 0} (transition : S → SystemCall P → S → Type 0) where
  pub transits_then : (xs ys : List (SystemCall P)) (a b c : S) → TransitsBy transition a xs b →
      TransitsBy transition b ys c → TransitsBy transition a (xs ++ ys) c
  transits_then [] ys a b c h k = subst (λ (x : S). TransitsBy transition x ys c) h k
  transits_then (x ∷ xs) ys a b c h k = (h.0, h.1, transits_then xs ys h.0 b c h.2 k)
