-- Traces of ports, one after the other.
use Rattle.std.proofs.Common.{◌≡◌, ℕ, Bool, true, false, List, [], ◌∷◌, ◌++◌, refl, sym, ap, ◌∙◌, subst, append_assoc}
use Rattle.std.specs.Prelude.{◌||◌}
use Rattle.daide_frame.specs.declared.side.Side.{Side}
use Rattle.daide_protocol.specs.Events.{Event}
use Rattle.daide_io.specs.Ports.{PortCall, EvolvesBy, event_of, events_of, took, taken, put_fails, has_failed}

pub events_of-append : (xs ys : List PortCall) → events_of (xs ++ ys) ≡ events_of xs ++ events_of ys
events_of-append [] ys = refl
events_of-append (x ∷ xs) ys =
    ap (λ (t : List Event). event_of x ++ t) (events_of-append xs ys)
    ∙ sym (append_assoc (event_of x) (events_of xs) (events_of ys))

pub taken-append : (side : Side) (xs ys : List PortCall) → taken side (xs ++ ys) ≡ taken side xs ++ taken side ys
taken-append side [] ys = refl
taken-append side (x ∷ xs) ys =
    ap (λ (t : List ℕ). took side x ++ t) (taken-append side xs ys)
    ∙ sym (append_assoc (took side x) (taken side xs) (taken side ys))

pub or_assoc : (a b c : Bool) → (a || (b || c)) ≡ ((a || b) || c)
or_assoc true b c = refl
or_assoc false b c = refl

pub has_failed-append : (side : Side) (xs ys : List PortCall) →
    has_failed side (xs ++ ys) ≡ (has_failed side xs || has_failed side ys)
has_failed-append side [] ys = refl
has_failed-append side (x ∷ xs) ys =
    ap (λ (b : Bool). put_fails side x || b) (has_failed-append side xs ys)
    ∙ or_assoc (put_fails side x) (has_failed side xs) (has_failed side ys)

module _ {P : Type 0} (transition : P → PortCall → P → Type 0) where
  pub transition_then : (xs ys : List PortCall) (p q r : P) → EvolvesBy transition p xs q → EvolvesBy transition q ys r →
      EvolvesBy transition p (xs ++ ys) r
  transition_then [] ys p q r h k = subst (λ (x : P). EvolvesBy transition x ys r) h k
  transition_then (x ∷ xs) ys p q r h k = (h.0, h.1, transition_then xs ys h.0 q r h.2 k)
