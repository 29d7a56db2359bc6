-- The number of turns that began, and the port calls within a quota of turns.
use Rattle.std.proofs.Common.{◌≡◌, ℕ, zero, suc, ◌+◌, ◌<◌, ◌≤◌, List, [], ◌∷◌, ◌++◌, refl, ap, ◌∙◌, arith, inl, inr}
use Rattle.daide_frame.specs.declared.side.Side.{Side}
use Rattle.daide_frame.specs.declared.side.Side.TheVariants.{Bot, Server}
use Rattle.daide_protocol.specs.Wires.{SessionView}
use Rattle.daide_io.specs.Ports.{PortCall, TurnBegins, Clock, Pulled, Offered}
use Rattle.daide_driver.specs.Turn.{Then, AsksClock, Puts, Pulls, Turn}
use Rattle.daide_event_loop.specs.Served.{turns_in, while_left}

pub turns_append : (xs ys : List PortCall) → turns_in (xs ++ ys) ≡ turns_in xs + turns_in ys
turns_append [] ys = omega arith
turns_append (TurnBegins ∷ xs) ys = let rest = turns_append xs ys in omega (arith, rest)
turns_append (Clock event ∷ xs) ys = turns_append xs ys
turns_append (Pulled side buffer pull bytes ∷ xs) ys = turns_append xs ys
turns_append (Offered side bytes put ∷ xs) ys = turns_append xs ys

-- a trace of this kind begins no turn
abbrev BeginsNone : (SessionView → List PortCall → SessionView → Type 0) → Type 0
BeginsNone Kind = (old : SessionView) (trace : List PortCall) (new : SessionView) → Kind old trace new → turns_in trace ≡ 0

clock_begins : BeginsNone AsksClock
clock_begins old trace new h = ap turns_in h.1

put_begins : (side : Side) → BeginsNone (Puts side)
put_begins side old trace new (inl h) = ap turns_in h.1
put_begins side old trace new (inr h) = ap turns_in h.asked

pull_begins : (side : Side) → BeginsNone (Pulls side)
pull_begins side old trace new (inl h) = ap turns_in h.1
pull_begins side old trace new (inr h) = ap turns_in h.asked

then_begins : (First Second : SessionView → List PortCall → SessionView → Type 0) → BeginsNone First → BeginsNone Second →
    BeginsNone (Then First Second)
then_begins First Second one two old trace new h =
    let first = one old h.1 h.0 h.4 in
    let second = two h.0 h.2 new h.5 in
    let all = turns_append h.1 h.2 in
    ap turns_in h.3 ∙ omega (arith, first, second, all)

-- a turn itself begins no other
pub turn_begins_none : (old : SessionView) (trace : List PortCall) (new : SessionView) → Turn old trace new →
    turns_in trace ≡ 0
turn_begins_none =
    then_begins AsksClock (Then (Puts Bot) (Then (Puts Server) (Then (Pulls Bot) (Pulls Server)))) clock_begins
    (then_begins (Puts Bot) (Then (Puts Server) (Then (Pulls Bot) (Pulls Server))) (put_begins Bot)
    (then_begins (Puts Server) (Then (Pulls Bot) (Pulls Server)) (put_begins Server)
    (then_begins (Pulls Bot) (Pulls Server) (pull_begins Bot) (pull_begins Server))))

-- ---- the port calls within a quota

-- all of them, if no more turns began
pub all_within : (turns : ℕ) (xs : List PortCall) → turns_in xs ≤ turns → while_left turns xs ≡ xs
all_within turns [] few = refl
all_within zero (TurnBegins ∷ xs) few = absurd (omega (arith, few))
all_within (suc turns) (TurnBegins ∷ xs) few =
    ap (λ (l : List PortCall). TurnBegins ∷ l) (all_within turns xs (omega (arith, few)))
all_within turns (Clock event ∷ xs) few = ap (λ (l : List PortCall). Clock event ∷ l) (all_within turns xs few)
all_within turns (Pulled side buffer pull bytes ∷ xs) few =
    ap (λ (l : List PortCall). Pulled side buffer pull bytes ∷ l) (all_within turns xs few)
all_within turns (Offered side bytes put ∷ xs) few =
    ap (λ (l : List PortCall). Offered side bytes put ∷ l) (all_within turns xs few)

-- at least those of a prefix in which no more turns began
pub within_then : (turns : ℕ) (xs ys : List PortCall) → turns_in xs ≤ turns →
    (zs : List PortCall) × (while_left turns (xs ++ ys) ≡ xs ++ zs)
within_then turns [] ys few = (while_left turns ys, refl)
within_then zero (TurnBegins ∷ xs) ys few = absurd (omega (arith, few))
within_then (suc turns) (TurnBegins ∷ xs) ys few =
    let rest = within_then turns xs ys (omega (arith, few)) in
    (rest.0, ap (λ (l : List PortCall). TurnBegins ∷ l) rest.1)
within_then turns (Clock event ∷ xs) ys few =
    let rest = within_then turns xs ys few in (rest.0, ap (λ (l : List PortCall). Clock event ∷ l) rest.1)
within_then turns (Pulled side buffer pull bytes ∷ xs) ys few =
    let rest = within_then turns xs ys few in
    (rest.0, ap (λ (l : List PortCall). Pulled side buffer pull bytes ∷ l) rest.1)
within_then turns (Offered side bytes put ∷ xs) ys few =
    let rest = within_then turns xs ys few in
    (rest.0, ap (λ (l : List PortCall). Offered side bytes put ∷ l) rest.1)

-- those before the first turn beyond it
pub last_within : (turns : ℕ) (xs ys : List PortCall) → turns_in xs ≡ turns →
    while_left turns (xs ++ TurnBegins ∷ ys) ≡ xs
last_within zero [] ys all = refl
last_within (suc turns) [] ys all = absurd (omega (arith, all))
last_within zero (TurnBegins ∷ xs) ys all = absurd (omega (arith, all))
last_within (suc turns) (TurnBegins ∷ xs) ys all =
    ap (λ (l : List PortCall). TurnBegins ∷ l) (last_within turns xs ys (omega (arith, all)))
last_within turns (Clock event ∷ xs) ys all = ap (λ (l : List PortCall). Clock event ∷ l) (last_within turns xs ys all)
last_within turns (Pulled side buffer pull bytes ∷ xs) ys all =
    ap (λ (l : List PortCall). Pulled side buffer pull bytes ∷ l) (last_within turns xs ys all)
last_within turns (Offered side bytes put ∷ xs) ys all =
    ap (λ (l : List PortCall). Offered side bytes put ∷ l) (last_within turns xs ys all)

-- later ones add nothing once more turns began
pub late_adds : (turns : ℕ) (xs ys : List PortCall) → turns < turns_in xs → while_left turns (xs ++ ys) ≡ while_left turns xs
late_adds turns [] ys more = absurd (omega (arith, more))
late_adds zero (TurnBegins ∷ xs) ys more = refl
late_adds (suc turns) (TurnBegins ∷ xs) ys more =
    ap (λ (l : List PortCall). TurnBegins ∷ l) (late_adds turns xs ys (omega (arith, more)))
late_adds turns (Clock event ∷ xs) ys more = ap (λ (l : List PortCall). Clock event ∷ l) (late_adds turns xs ys more)
late_adds turns (Pulled side buffer pull bytes ∷ xs) ys more =
    ap (λ (l : List PortCall). Pulled side buffer pull bytes ∷ l) (late_adds turns xs ys more)
late_adds turns (Offered side bytes put ∷ xs) ys more =
    ap (λ (l : List PortCall). Offered side bytes put ∷ l) (late_adds turns xs ys more)
