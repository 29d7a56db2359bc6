-- The calls that a turn makes.
use Rattle.std.proofs.Common.{◌≡◌, List, [], ◌∷◌, sym, subst, arith, ⊎_elim}
use Rattle.std.specs.Prelude.{All, min}
use Rattle.std.proofs.lemmas.List.Elements.{All-nil, All-cons, All-append}
use Rattle.daide_frame.specs.declared.side.Side.{Side}
use Rattle.daide_frame.specs.declared.side.Side.TheVariants.{Bot, Server}
use Rattle.daide_protocol.specs.Wires.{SessionView, room_of, front_of}
use Rattle.daide_io.specs.Ports.{PortCall, Clock, Pulled, Offered}
use Rattle.daide_driver.specs.Turn.{Then, AsksClock, HandsFront, HasNone, Puts, HasNoRoom, FillsRoom, Pulls, Turn}
use Rattle.daide_event_loop.specs.Waiting.{IsOfTurn}

abbrev Kind : Type 1
Kind = SessionView → List PortCall → SessionView → Type 0

-- all calls of a step are those of a turn
abbrev Makes : Kind → Type 0
Makes Step = (old : SessionView) (calls : List PortCall) (new : SessionView) → Step old calls new → All IsOfTurn calls

then_made : (First Second : Kind) → Makes First → Makes Second → Makes (Then First Second)
then_made First Second first second old calls new h =
    subst (All IsOfTurn) (sym h.3)
    (All-append IsOfTurn h.1 h.2 (first old h.1 h.0 h.4) (second h.0 h.2 new h.5))

one_made : (call : PortCall) (calls : List PortCall) → calls ≡ call ∷ [] → IsOfTurn call → All IsOfTurn calls
one_made call calls is made = subst (All IsOfTurn) (sym is) (All-cons IsOfTurn call [] made (All-nil IsOfTurn))

none_made : (calls : List PortCall) → calls ≡ [] → All IsOfTurn calls
none_made calls is = subst (All IsOfTurn) (sym is) (All-nil IsOfTurn)

clock_made : Makes AsksClock
clock_made old calls new h = one_made (Clock h.0) calls h.1 tt

puts_made : (side : Side) → Makes (Puts side)
puts_made side old calls new h = ⊎_elim
    (λ (n : HasNone side old calls new). none_made calls n.1)
    (λ (p : HandsFront side old calls new). one_made (Offered side (front_of old side) p.put) calls p.asked p.filled) h

pulls_made : (side : Side) → Makes (Pulls side)
pulls_made side old calls new h = ⊎_elim
    (λ (n : HasNoRoom side old calls new). none_made calls n.1)
    (λ (p : FillsRoom side old calls new).
    one_made (Pulled side (min (room_of old side) 512) p.pull p.bytes) calls p.asked
    (let room = p.room in grind (arith, room))) h

pub turn_made : Makes Turn
turn_made =
    then_made AsksClock (Then (Puts Bot) (Then (Puts Server) (Then (Pulls Bot) (Pulls Server)))) clock_made
    (then_made (Puts Bot) (Then (Puts Server) (Then (Pulls Bot) (Pulls Server))) (puts_made Bot)
    (then_made (Puts Server) (Then (Pulls Bot) (Pulls Server)) (puts_made Server)
    (then_made (Pulls Bot) (Pulls Server) (pulls_made Bot) (pulls_made Server))))
