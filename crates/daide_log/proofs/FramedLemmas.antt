-- The items that end with the last of some bytes, each with the body of its frame.
use Rattle.daide_log.proofs.Common.{◌≡◌, ℕ, Bool, true, false, cond, eqb, List, [], ◌∷◌, length, drop, Option, Some}
use Rattle.daide_log.proofs.Common.{None, Result, Ok, Err, refl, sym, subst, arith, eqb-true, Head, Code, InvalidToken}
use Rattle.daide_log.proofs.Common.{parse_head}
use Rattle.daide_frame.specs.Frames.{FrameEvent, Begun, Whole, Wrong, alien_in, last_items}
use Rattle.daide_frame.proofs.FramesLemmas.{last_items-short, at_head, alien_in-nothing, last_items-head4, at_body}
use Rattle.daide_frame.proofs.FramesLemmas.{last_items-body4}
use Rattle.daide_frame.proofs.HeadLemmas.{parse_head-good}
use Rattle.daide_protocol.proofs.FrameShapes.{IsWholeFrame, refused}

pub data Framed (cap : ℕ) (rest : List ℕ) : List FrameEvent → Type 0 where
  quiet : Framed cap rest []
  headed : (head : Head) → Framed cap rest (Begun head ∷ [])
  at_once : (head : Head) → IsWholeFrame cap head [] → rest ≡ [] → Framed cap rest (Begun head ∷ Whole head [] ∷ [])
  whole : (head : Head) → IsWholeFrame cap head rest → Framed cap rest (Whole head rest ∷ [])
  wrong : (code : Code) → Framed cap rest (Wrong code ∷ [])

-- the fourth byte
head_framed : (cap : ℕ) (b : List ℕ) (r : Result Head Code) → parse_head b cap ≡ r → Framed cap [] (at_head r)
head_framed cap b (Err code) e = Framed.wrong code
head_framed cap b (Ok head) e = go (eqb head.len 0) refl
  where
    go : (k : Bool) → eqb head.len 0 ≡ k → Framed cap [] (Begun head ∷ (cond k (Whole head [] ∷ []) []))
    go true k =
        let good = parse_head-good b cap head e in
        Framed.at_once head (record {
          right = good.right;
          within = good.within;
          long = sym (eqb-true head.len 0 k);
          known = alien_in-nothing head;
        }) refl
    go false k = Framed.headed head

-- a later one
body_framed : (cap : ℕ) (b v : List ℕ) (head : Head) → parse_head b cap ≡ Ok head → (alien : Option ℕ) →
    alien_in head v ≡ alien → Framed cap v (at_body head v alien)
body_framed cap b v head e (Some n) a = go (eqb n (length v))
  where
    go : (k : Bool) → Framed cap v (cond k (Wrong InvalidToken ∷ []) [])
    go true = Framed.wrong InvalidToken
    go false = Framed.quiet
body_framed cap b v head e None a = go (eqb head.len (length v)) refl
  where
    go : (k : Bool) → eqb head.len (length v) ≡ k → Framed cap v (cond k (Whole head v ∷ []) [])
    go true k =
        let good = parse_head-good b cap head e in
        Framed.whole head (record {
          right = good.right;
          within = good.within;
          long = sym (eqb-true head.len (length v) k);
          known = a;
        })
    go false k = Framed.quiet

later_framed : (cap p q r s y : ℕ) (w : List ℕ) (o : Result Head Code) → parse_head (p ∷ q ∷ r ∷ s ∷ []) cap ≡ o →
    Framed cap (y ∷ w) (last_items cap (p ∷ q ∷ r ∷ s ∷ y ∷ w))
later_framed cap p q r s y w (Ok head) e =
    subst (Framed cap (y ∷ w)) (sym (last_items-body4 cap p q r s (y ∷ w) head e (omega arith)))
    (body_framed cap (p ∷ q ∷ r ∷ s ∷ []) (y ∷ w) head e (alien_in head (y ∷ w)) refl)
later_framed cap p q r s y w (Err code) e = subst (Framed cap (y ∷ w)) (sym (refused cap p q r s y w code e)) Framed.quiet

no_items : (cap : ℕ) (b rest : List ℕ) → last_items cap b ≡ [] → Framed cap rest (last_items cap b)
no_items cap b rest e = subst (Framed cap rest) (sym e) Framed.quiet

pub framed : (cap : ℕ) (b : List ℕ) → Framed cap (drop 4 b) (last_items cap b)
framed cap [] = no_items cap [] [] (last_items-short cap [] (omega arith))
framed cap (p ∷ []) = no_items cap (p ∷ []) [] (last_items-short cap (p ∷ []) (omega arith))
framed cap (p ∷ q ∷ []) = no_items cap (p ∷ q ∷ []) [] (last_items-short cap (p ∷ q ∷ []) (omega arith))
framed cap (p ∷ q ∷ r ∷ []) = no_items cap (p ∷ q ∷ r ∷ []) [] (last_items-short cap (p ∷ q ∷ r ∷ []) (omega arith))
framed cap (p ∷ q ∷ r ∷ s ∷ []) =
    subst (Framed cap []) (sym (last_items-head4 cap p q r s))
    (head_framed cap (p ∷ q ∷ r ∷ s ∷ []) (parse_head (p ∷ q ∷ r ∷ s ∷ []) cap) refl)
framed cap (p ∷ q ∷ r ∷ s ∷ y ∷ w) = later_framed cap p q r s y w (parse_head (p ∷ q ∷ r ∷ s ∷ []) cap) refl
