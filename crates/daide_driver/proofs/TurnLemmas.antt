-- A turn is a part of a run.
use Rattle.std.proofs.Common.{◌≡◌, ℕ, ◌<◌, ◌≤◌, Bool, true, false, eqb, List, [], ◌∷◌, length, refl, sym, ap, ◌∙◌}
use Rattle.std.proofs.Common.{subst, arith, length-append, inl, inr}
use Rattle.std.proofs.Common.{⊎_elim}
use Rattle.daide_frame.specs.declared.side.Side.{Side}
use Rattle.daide_frame.specs.declared.side.Side.TheVariants.{Bot, Server}
use Rattle.daide_protocol.specs.Wires.{SessionView, queued, front_of, first_len, room_of, IsFrontOf}
use Rattle.daide_protocol.specs.Machine.{Sent}
use Rattle.daide_io.specs.declared.ports.ClockEvent.{ClockEvent}
use Rattle.daide_io.specs.declared.ports.ClockEvent.TheVariants.{NoEvent, ImTimeIsOver, StopIsRequested}
use Rattle.daide_io.specs.declared.ports.Pull.{Pull}
use Rattle.daide_io.specs.declared.ports.Pull.TheVariants.{Got, Idle, Ended}
use Rattle.daide_io.specs.declared.ports.Put.{Put}
use Rattle.daide_io.specs.declared.ports.Put.TheVariants.{Took, Failed}
use Rattle.daide_io.specs.Ports.{PortCall, Clock, Pulled, Offered, IsPutWithin, pulled_len}
use Rattle.daide_driver.specs.Totals.{RefinesRun, Works}
use Rattle.daide_driver.specs.Totals.{Working}
use Rattle.std.specs.Prelude.{min}
use Rattle.daide_driver.specs.Turn.{Then, Hears, AsksClock, Hands, HasNone, HandsFront, Puts, Gets, HasNoRoom}
use Rattle.daide_driver.specs.Turn.{FillsRoom, Pulls, Turn}
use Rattle.daide_driver.proofs.Stretches.{relays_append, relays_nil}
use Rattle.daide_driver.proofs.PortCalls.{clock_pops, clock_stops, clock_runs, got_bytes, was_idle, has_ended}
use Rattle.daide_driver.proofs.PortCalls.{took_bytes, put_failed, filled, none_left}

-- no port call, and no change
unmoved : (a b : SessionView) (xs : List PortCall) → xs ≡ [] → b ≡ a → RefinesRun a xs b
unmoved a b xs e f =
    subst (λ (ys : List PortCall). RefinesRun a ys b) (sym e)
    (subst (λ (c : SessionView). RefinesRun a [] c) (sym f) (relays_nil a))

heard : (event : ClockEvent) (a b : SessionView) → Works a (Clock event ∷ []) b → Hears event a b →
    RefinesRun a (Clock event ∷ []) b
heard NoEvent a b w h = subst (λ (c : SessionView). Works a (Clock NoEvent ∷ []) c → RefinesRun a (Clock NoEvent ∷ []) c)
    (sym h) (clock_runs a) w
heard ImTimeIsOver a b w h = clock_pops a b h.0.0 w h.0.1
heard StopIsRequested a b w h = clock_stops a b h.0.0 w h.0.1

clock_relays : (a : SessionView) (xs : List PortCall) (b : SessionView) → Working AsksClock a xs b → RefinesRun a xs b
clock_relays a xs b h =
    subst (λ (ys : List PortCall). Works a ys b → RefinesRun a ys b) (sym h.0.1)
    (λ w. heard h.0.0 a b w h.0.2) h.1

handed : (side : Side) (put : Put) (front : List ℕ) (a b : SessionView) → IsFrontOf front (queued a side) →
    IsPutWithin put (length front) → Works a (Offered side front put ∷ []) b → Hands side put a b →
    RefinesRun a (Offered side front put ∷ []) b
handed side (Took n) front a b f within w h = took_bytes a side front n b f within w h.0
handed side Failed front a b f within w h = put_failed a side front b w h.0

puts_relay : (side : Side) (a : SessionView) (xs : List PortCall) (b : SessionView) → Working (Puts side) a xs b →
    RefinesRun a xs b
puts_relay side a xs b h = ⊎_elim
    (λ (n : HasNone side a xs b). unmoved a b xs n.1 n.2)
    (λ (p : HandsFront side a xs b). subst (λ (ys : List PortCall). Works a ys b → RefinesRun a ys b) (sym p.asked)
    (λ w. handed side p.put (front_of a side) a b p.front p.within w p.hands) h.1)
    h.0

gotten : (side : Side) (len : ℕ) (pull : Pull) (bytes : List ℕ) (a b : SessionView) →
    Works a (Pulled side len pull bytes ∷ []) b → Gets side pull bytes a b → RefinesRun a (Pulled side len pull bytes ∷ []) b
gotten side len (Got n) bytes a b w h = got_bytes a side len n bytes h.0.0 b w h.0.1
gotten side len Idle bytes a b w h =
    subst (λ (c : SessionView). Works a (Pulled side len Idle bytes ∷ []) c → RefinesRun a (Pulled side len Idle bytes ∷ []) c)
    (sym h) (was_idle a side len bytes) w
gotten side len Ended bytes a b w h = has_ended a side len bytes h.0.0 b w h.0.1

pulls_relay : (side : Side) (a : SessionView) (xs : List PortCall) (b : SessionView) → Working (Pulls side) a xs b →
    RefinesRun a xs b
pulls_relay side a xs b h = ⊎_elim
    (λ (n : HasNoRoom side a xs b). unmoved a b xs n.1 n.2)
    (λ (p : FillsRoom side a xs b). subst (λ (ys : List PortCall). Works a ys b → RefinesRun a ys b) (sym p.asked)
    (λ w. gotten side _ p.pull p.bytes a b w p.gets) h.1)
    h.0

then_relays : (K L : SessionView → List PortCall → SessionView → Type 0) →
    ((a : SessionView) (xs : List PortCall) (b : SessionView) → K a xs b → RefinesRun a xs b) →
    ((a : SessionView) (xs : List PortCall) (b : SessionView) → L a xs b → RefinesRun a xs b) →
    (a : SessionView) (xs : List PortCall) (b : SessionView) → Then K L a xs b → RefinesRun a xs b
then_relays K L f g a xs b h =
    subst (λ (ys : List PortCall). RefinesRun a ys b) (sym h.3)
    (relays_append a h.1 h.0 h.2 b (f a h.1 h.0 h.4) (g h.0 h.2 b h.5))

-- the steps of a turn, each with the look-ups made in it
abbrev pub WorkingTurn : SessionView → List PortCall → SessionView → Type 0
WorkingTurn =
    Then (Working AsksClock) (Then (Working (Puts Bot)) (Then (Working (Puts Server))
    (Then (Working (Pulls Bot)) (Working (Pulls Server)))))

pub turn_relays : (a : SessionView) (xs : List PortCall) (b : SessionView) → WorkingTurn a xs b → RefinesRun a xs b
turn_relays =
    then_relays (Working AsksClock) (Then (Working (Puts Bot)) (Then (Working (Puts Server))
    (Then (Working (Pulls Bot)) (Working (Pulls Server))))) clock_relays
    (then_relays (Working (Puts Bot)) (Then (Working (Puts Server)) (Then (Working (Pulls Bot)) (Working (Pulls Server))))
    (puts_relay Bot)
    (then_relays (Working (Puts Server)) (Then (Working (Pulls Bot)) (Working (Pulls Server))) (puts_relay Server)
    (then_relays (Working (Pulls Bot)) (Working (Pulls Server)) (pulls_relay Bot) (pulls_relay Server))))

then_weaker : (K L M N : SessionView → List PortCall → SessionView → Type 0) →
    ((a : SessionView) (xs : List PortCall) (b : SessionView) → K a xs b → M a xs b) →
    ((a : SessionView) (xs : List PortCall) (b : SessionView) → L a xs b → N a xs b) →
    (a : SessionView) (xs : List PortCall) (b : SessionView) → Then K L a xs b → Then M N a xs b
then_weaker K L M N f g a xs b h = (h.0, h.1, h.2, h.3, f a h.1 h.0 h.4, g h.0 h.2 b h.5)

step_of : (K : SessionView → List PortCall → SessionView → Type 0) (a : SessionView) (xs : List PortCall) (b : SessionView) →
    Working K a xs b → K a xs b
step_of K a xs b h = h.0

pub turn_in_order : (a : SessionView) (xs : List PortCall) (b : SessionView) → WorkingTurn a xs b → Turn a xs b
turn_in_order =
    then_weaker (Working AsksClock) (Then (Working (Puts Bot)) (Then (Working (Puts Server))
    (Then (Working (Pulls Bot)) (Working (Pulls Server)))))
    AsksClock (Then (Puts Bot) (Then (Puts Server) (Then (Pulls Bot) (Pulls Server)))) (step_of AsksClock)
    (then_weaker (Working (Puts Bot)) (Then (Working (Puts Server)) (Then (Working (Pulls Bot)) (Working (Pulls Server))))
    (Puts Bot) (Then (Puts Server) (Then (Pulls Bot) (Pulls Server))) (step_of (Puts Bot))
    (then_weaker (Working (Puts Server)) (Then (Working (Pulls Bot)) (Working (Pulls Server)))
    (Puts Server) (Then (Pulls Bot) (Pulls Server)) (step_of (Puts Server))
    (then_weaker (Working (Pulls Bot)) (Working (Pulls Server)) (Pulls Bot) (Pulls Server)
    (step_of (Pulls Bot)) (step_of (Pulls Server)))))

-- ---- the effect of a turn's steps

-- the queue is empty, and no put is made
pub no_put : (side : Side) (front : List ℕ) (a : SessionView) (empty : Bool) → IsFrontOf front (queued a side) →
    empty ≡ eqb (length front) 0 → empty ≡ true → Puts side a [] a
no_put side front a empty is e f = inl (none_left front (queued a side) empty e f is, refl, refl)

-- a put of the whole front
pub whole_put : (side : Side) (put : Put) (front : List ℕ) (a b : SessionView) (empty : Bool) → front ≡ front_of a side →
    IsFrontOf front (queued a side) → empty ≡ eqb (length front) 0 → empty ≡ false →
    IsPutWithin put (length front) → Hands side put a b → Puts side a (Offered side front put ∷ []) b
whole_put side put front a b empty same is e f within hands = inr (record {
  put = put;
  filled = subst (λ (xs : List ℕ). 0 < length xs) same (filled front empty e f);
  front = subst (λ (xs : List ℕ). IsFrontOf xs (queued a side)) same is;
  asked = ap (λ (xs : List ℕ). Offered side xs put ∷ []) same;
  within = subst (λ (xs : List ℕ). IsPutWithin put (length xs)) same within;
  hands = hands;
})

-- a front is within the first frame
pub front_short : (xs : List ℕ) (frames : List Sent) → IsFrontOf xs frames → length xs ≤ first_len frames
front_short xs [] f = let none = ap length f in omega (arith, none)
front_short xs (frame ∷ frames) f =
    let same = ap length f.1.1 in
    omega (arith, same, length-append xs f.1.0)

-- there is no room, and no pull is made
pub no_pull : (side : Side) (room : ℕ) (a : SessionView) → room ≡ room_of a side → room ≡ 0 → Pulls side a [] a
no_pull side room a same none = inl (sym same ∙ none, refl, refl)

-- a pull into a buffer as long as the room
pub whole_pull : (side : Side) (pull : Pull) (len : ℕ) (bytes : List ℕ) (a b : SessionView) → 0 < room_of a side →
    len ≡ min (room_of a side) 512 → length bytes ≡ pulled_len pull → Gets side pull bytes a b →
    Pulls side a (Pulled side len pull bytes ∷ []) b
whole_pull side pull len bytes a b room same counted gets = inr (record {
  pull = pull;
  bytes = bytes;
  room = room;
  asked = ap (λ (n : ℕ). Pulled side n pull bytes ∷ []) same;
  counted = counted;
  gets = gets;
})
