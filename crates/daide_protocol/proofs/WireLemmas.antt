-- The frames for a wire, from concatenated effects.
use Rattle.daide_protocol.proofs.Common.{◌≡◌, ℕ, true, List, [], ◌∷◌, ◌++◌, refl, sym, ap, ◌∙◌, append_assoc, Side, Bot}
use Rattle.daide_protocol.proofs.Common.{Server, Event, Comes, bytes_come, Sent, Effect, same_side, sent_to, sent_bytes}
use Rattle.daide_protocol.specs.Wires.{frames_to}

pub same_self : (side : Side) → same_side side side ≡ true
same_self Bot = refl
same_self Server = refl

pub sent_to-append : (side : Side) (a b : List Effect) → sent_to side (a ++ b) ≡ sent_to side a ++ sent_to side b
sent_to-append side [] b = refl
sent_to-append side (effect ∷ a) b =
    ap (λ (x : List Sent). frames_to side effect.sent ++ x) (sent_to-append side a b)
    ∙ sym (append_assoc (frames_to side effect.sent) (sent_to side a) (sent_to side b))

pub sent_bytes-append : (a b : List Sent) → sent_bytes (a ++ b) ≡ sent_bytes a ++ sent_bytes b
sent_bytes-append [] b = refl
sent_bytes-append (frame ∷ a) b =
    ap (λ (x : List ℕ). frame.bytes ++ x) (sent_bytes-append a b)
    ∙ sym (append_assoc frame.bytes (sent_bytes a) (sent_bytes b))

pub answers_join : (side : Side) (a b : List Effect) →
    sent_bytes (sent_to side (a ++ b)) ≡ sent_bytes (sent_to side a) ++ sent_bytes (sent_to side b)
answers_join side a b = ap sent_bytes (sent_to-append side a b) ∙ sent_bytes-append (sent_to side a) (sent_to side b)

pub bytes_come-append : (side : Side) (a b : List ℕ) → bytes_come side (a ++ b) ≡ bytes_come side a ++ bytes_come side b
bytes_come-append side [] b = refl
bytes_come-append side (x ∷ a) b = ap (λ (es : List Event). Comes side x ∷ es) (bytes_come-append side a b)
