-- The frame events that end with one byte: none, a header, a whole frame with or without its header, or a fault.
use Rattle.daide_protocol.proofs.Common.{◌≡◌, ℕ, ◌≤◌, Bool, true, false, cond, eqb, List, [], ◌∷◌, length, Option, Some}
use Rattle.daide_protocol.proofs.Common.{None, Result, Ok, Err, refl, sym, subst, arith, eqb-true, Head, Code}
use Rattle.daide_protocol.proofs.Common.{InvalidToken, has_right_length, parse_head, FrameEvent, Begun, Whole, Wrong}
use Rattle.daide_protocol.proofs.Common.{first_items, last_items}
use Rattle.daide_frame.specs.Frames.{alien_in}
use Rattle.daide_frame.proofs.ListLemmas.{ltb_no, eqb_no}
use Rattle.daide_frame.proofs.FramesLemmas.{last_items-short, at_head, alien_in-nothing, last_items-head4, at_body}
use Rattle.daide_frame.proofs.FramesLemmas.{parse_head-append4, last_items-body4}
use Rattle.daide_frame.proofs.HeadLemmas.{parse_head-good}

-- a frame with a good header and a whole body, without an alien token
pub record IsWholeFrame (cap : ℕ) (head : Head) (body : List ℕ) : Type 0 where
  pub right : has_right_length head.kind head.len ≡ true
  pub within : head.len ≤ cap
  pub long : length body ≡ head.len
  pub known : alien_in head body ≡ None

pub data Shape (cap : ℕ) : List FrameEvent → Type 0 where
  quiet : Shape cap []
  headed : (head : Head) → Shape cap (Begun head ∷ [])
  at_once : (head : Head) → IsWholeFrame cap head [] → Shape cap (Begun head ∷ Whole head [] ∷ [])
  whole : (head : Head) (body : List ℕ) → IsWholeFrame cap head body → Shape cap (Whole head body ∷ [])
  wrong : (code : Code) → Shape cap (Wrong code ∷ [])

-- the fourth byte
head_shape : (cap : ℕ) (b : List ℕ) (r : Result Head Code) → parse_head b cap ≡ r → Shape cap (at_head r)
head_shape cap b (Err code) e = wrong code
head_shape cap b (Ok head) e = go (eqb head.len 0) refl
  where
    go : (k : Bool) → eqb head.len 0 ≡ k → Shape cap (Begun head ∷ (cond k (Whole head [] ∷ []) []))
    go true k =
        let good = parse_head-good b cap head e in
        at_once head (record {
          right = good.right;
          within = good.within;
          long = sym (eqb-true head.len 0 k);
          known = alien_in-nothing head;
        })
    go false k = headed head

-- a later one
body_shape : (cap : ℕ) (b v : List ℕ) (head : Head) → parse_head b cap ≡ Ok head → (alien : Option ℕ) →
    alien_in head v ≡ alien → Shape cap (at_body head v alien)
body_shape cap b v head e (Some n) a = go (eqb n (length v))
  where
    go : (k : Bool) → Shape cap (cond k (Wrong InvalidToken ∷ []) [])
    go true = wrong InvalidToken
    go false = quiet
body_shape cap b v head e None a = go (eqb head.len (length v)) refl
  where
    go : (k : Bool) → eqb head.len (length v) ≡ k → Shape cap (cond k (Whole head v ∷ []) [])
    go true k =
        let good = parse_head-good b cap head e in
        whole head v (record {
          right = good.right;
          within = good.within;
          long = sym (eqb-true head.len (length v) k);
          known = a;
        })
    go false k = quiet

-- nothing follows a refused header
pub refused : (cap p q r s y : ℕ) (w : List ℕ) (code : Code) → parse_head (p ∷ q ∷ r ∷ s ∷ []) cap ≡ Err code →
    last_items cap (p ∷ q ∷ r ∷ s ∷ y ∷ w) ≡ []
unfolding last_items first_items
refused cap p q r s y w code e =
    rw (ltb_no (length (p ∷ q ∷ r ∷ s ∷ y ∷ w)) 4 (omega arith))
    (rw (parse_head-append4 cap p q r s (y ∷ w))
    (rw e (rw (eqb_no 4 (length (p ∷ q ∷ r ∷ s ∷ y ∷ w)) (omega arith)) refl)))

later_shape : (cap p q r s y : ℕ) (w : List ℕ) (o : Result Head Code) → parse_head (p ∷ q ∷ r ∷ s ∷ []) cap ≡ o →
    Shape cap (last_items cap (p ∷ q ∷ r ∷ s ∷ y ∷ w))
later_shape cap p q r s y w (Ok head) e =
    subst (Shape cap) (sym (last_items-body4 cap p q r s (y ∷ w) head e (omega arith)))
    (body_shape cap (p ∷ q ∷ r ∷ s ∷ []) (y ∷ w) head e (alien_in head (y ∷ w)) refl)
later_shape cap p q r s y w (Err code) e = subst (Shape cap) (sym (refused cap p q r s y w code e)) quiet

no_items : (cap : ℕ) (b : List ℕ) → last_items cap b ≡ [] → Shape cap (last_items cap b)
no_items cap b e = subst (Shape cap) (sym e) quiet

pub shape : (cap : ℕ) (b : List ℕ) → Shape cap (last_items cap b)
shape cap [] = no_items cap [] (last_items-short cap [] (omega arith))
shape cap (p ∷ []) = no_items cap (p ∷ []) (last_items-short cap (p ∷ []) (omega arith))
shape cap (p ∷ q ∷ []) = no_items cap (p ∷ q ∷ []) (last_items-short cap (p ∷ q ∷ []) (omega arith))
shape cap (p ∷ q ∷ r ∷ []) = no_items cap (p ∷ q ∷ r ∷ []) (last_items-short cap (p ∷ q ∷ r ∷ []) (omega arith))
shape cap (p ∷ q ∷ r ∷ s ∷ []) =
    subst (Shape cap) (sym (last_items-head4 cap p q r s))
    (head_shape cap (p ∷ q ∷ r ∷ s ∷ []) (parse_head (p ∷ q ∷ r ∷ s ∷ []) cap) refl)
shape cap (p ∷ q ∷ r ∷ s ∷ y ∷ w) = later_shape cap p q r s y w (parse_head (p ∷ q ∷ r ∷ s ∷ []) cap) refl
