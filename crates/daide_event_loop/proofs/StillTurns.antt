-- Turns whose calls made no progress: the session is as before, and what it was called for is what it needs now.
use Rattle.std.proofs.Common.{◌≡◌, ℕ, zero, suc, ◌<◌, ◌-◌, Bool, true, false, List, [], ◌∷◌, ◌++◌, length}
use Rattle.std.proofs.Common.{refl, sym, ap, ◌∙◌, subst, arith, append-nil, ◌⊎◌, inl, inr, ⊎_elim}
use Rattle.std.specs.Prelude.{◌||◌, min, Contains, All, if◌then◌else◌, drop}
use Rattle.std.proofs.lemmas.Bool.{ltb-false, lt-ltb}
use Rattle.std.proofs.lemmas.List.Elements.{All-nil, All-cons, All-weaker, All-contains, All-contains_itself}
use Rattle.std.proofs.lemmas.List.Elements.{Contains-append_left, Contains-append_right}
use Rattle.daide_frame.specs.declared.side.Side.{Side}
use Rattle.daide_frame.specs.declared.side.Side.TheVariants.{Bot, Server}
use Rattle.daide_frame.specs.Side.{other}
use Rattle.daide_frame.specs.Frames.{missing}
use Rattle.daide_protocol.specs.Events.{bytes_come}
use Rattle.daide_protocol.specs.Machine.{Sent, Effect, SessionState, Runs, coming, is_over}
use Rattle.daide_protocol.specs.Wires.{SessionView, queued, parts_of, next_part, parts_after, front_of, has_answer}
use Rattle.daide_protocol.specs.Wires.{room_of, no_frame, without, first_len, IsFrontOf, sent_to}
use Rattle.daide_io.specs.declared.ports.ClockEvent.{ClockEvent}
use Rattle.daide_io.specs.declared.ports.ClockEvent.TheVariants.{NoEvent, ImTimeIsOver, StopIsRequested}
use Rattle.daide_io.specs.declared.ports.Pull.{Pull}
use Rattle.daide_io.specs.declared.ports.Pull.TheVariants.{Got, Idle, Ended}
use Rattle.daide_io.specs.declared.ports.Put.{Put}
use Rattle.daide_io.specs.declared.ports.Put.TheVariants.{Took, Failed}
use Rattle.daide_io.specs.Ports.{PortCall, TurnBegins, Clock, Pulled, Offered, pulled_len, is_eventful}
use Rattle.daide_driver.specs.Turn.{Hears, AsksClock, HandsFront, HasNone, Hands, Puts, Gets, HasNoRoom}
use Rattle.daide_driver.specs.Turn.{FillsRoom, Pulls, Turn, most_pulled}
use Rattle.daide_driver.specs.declared.meter.Moved.{Moved}
use Rattle.daide_driver.specs.Meter.{is_gain, is_loss, clock_moved, pull_moved, put_moved, moved_by}
use Rattle.daide_event_loop.specs.Served.{turns_in}
use Rattle.daide_event_loop.specs.Waiting.{MakesNoProgress, PullsIfRoom, OffersIfQueued}

-- ---- calls without progress

left_false : (a b : Bool) → (a || b) ≡ false → a ≡ false
left_false false b e = refl
left_false true b e = absurd (cc)

right_false : (a b : Bool) → (a || b) ≡ false → b ≡ false
right_false false b e = e
right_false true b e = absurd (cc)

no_gain : (pull : Pull) → is_gain pull ≡ false → (pull ≡ Idle) ⊎ (pull ≡ Got 0)
no_gain (Got zero) e = inr refl
no_gain (Got (suc n)) e = let some = ltb-false 0 (suc n) e in absurd (omega (arith, some))
no_gain Idle e = inl refl
no_gain Ended e = absurd (cc)

no_loss : (put : Put) → is_loss put ≡ false → put ≡ Took 0
no_loss (Took zero) e = refl
no_loss (Took (suc n)) e = let some = ltb-false 0 (suc n) e in absurd (omega (arith, some))
no_loss Failed e = absurd (cc)

no_event : (event : ClockEvent) → is_eventful event ≡ false → event ≡ NoEvent
no_event NoEvent e = refl
no_event ImTimeIsOver e = absurd (cc)
no_event StopIsRequested e = absurd (cc)

pub still_calls : (xs : List PortCall) (moved : Moved) → (moved_by xs moved).made_progress ≡ false → turns_in xs ≡ 0 →
    (moved.made_progress ≡ false) × All MakesNoProgress xs
still_calls [] moved e none = (e, All-nil MakesNoProgress)
still_calls (TurnBegins ∷ xs) moved e none = absurd (omega (arith, none))
still_calls (Clock event ∷ xs) moved e none =
    let rest = still_calls xs (clock_moved event moved) e none in (
      left_false moved.made_progress (is_eventful event) rest.0,
      All-cons MakesNoProgress (Clock event) xs (no_event event (right_false moved.made_progress (is_eventful event) rest.0)) rest.1,
    )
still_calls (Pulled side buffer pull bytes ∷ xs) moved e none =
    let rest = still_calls xs (pull_moved side pull moved) e none in (
      left_false moved.made_progress (is_gain pull) rest.0,
      All-cons MakesNoProgress (Pulled side buffer pull bytes) xs
          (no_gain pull (right_false moved.made_progress (is_gain pull) rest.0)) rest.1,
    )
still_calls (Offered side bytes put ∷ xs) moved e none =
    let rest = still_calls xs (put_moved side put moved) e none in (
      left_false moved.made_progress (is_loss put) rest.0,
      All-cons MakesNoProgress (Offered side bytes put) xs
          (no_loss put (right_false moved.made_progress (is_loss put) rest.0)) rest.1,
    )

all_left : {X : Type 0} (Q : X → Type 0) (xs ys : List X) → All Q (xs ++ ys) → All Q xs
all_left {X} Q xs ys h =
    All-weaker (Contains xs) Q (λ (x : X) (c : Contains xs x). All-contains Q (xs ++ ys) x h (Contains-append_left xs ys x c)) xs
    (All-contains_itself xs)

all_right : {X : Type 0} (Q : X → Type 0) (xs ys : List X) → All Q (xs ++ ys) → All Q ys
all_right {X} Q xs ys h =
    All-weaker (Contains ys) Q (λ (x : X) (c : Contains ys x). All-contains Q (xs ++ ys) x h (Contains-append_right xs ys x c)) ys
    (All-contains_itself ys)

-- ---- the same session to those who look at its room and its queues

record Same (a b : SessionView) : Type 0 where
  state : b.state ≡ a.state
  queues : (side : Side) → queued b side ≡ queued a side
  fronts : (side : Side) → no_frame (queued a side) ≡ false → front_of b side ≡ front_of a side

same_by : (a b : SessionView) → b ≡ a → Same a b
same_by a b e = record {
  state = ap (λ (g : SessionView). g.state) e;
  queues = λ side. ap (λ (g : SessionView). queued g side) e;
  fronts = λ side some. ap (λ (g : SessionView). front_of g side) e;
}

same_then : (a b c : SessionView) → Same a b → Same b c → Same a c
same_then a b c h k = record {
  state = k.state ∙ h.state;
  queues = λ side. k.queues side ∙ h.queues side;
  fronts = λ side some. k.fronts side (ap no_frame (h.queues side) ∙ some) ∙ h.fronts side some;
}

abbrev room_by : SessionState → List Sent → List Sent → Side → ℕ
room_by state bots servers side =
    if is_over state.phase || (has_answer side bots || has_answer side servers) then 0
    else missing state.limits.cap (coming state side).pending

room_is : (g : SessionView) (side : Side) → room_of g side ≡ room_by g.state (queued g Bot) (queued g Server) side
unfolding room_of
room_is g side = refl

room_same : (a b : SessionView) → Same a b → (side : Side) → room_of b side ≡ room_of a side
room_same a b h side =
    room_is b side ∙ ap (λ (s : SessionState). room_by s (queued b Bot) (queued b Server) side) h.state
    ∙ ap (λ (l : List Sent). room_by a.state l (queued b Server) side) (h.queues Bot)
    ∙ ap (λ (l : List Sent). room_by a.state (queued a Bot) l side) (h.queues Server) ∙ sym (room_is a side)

-- ---- one call

clock_same : (event : ClockEvent) (a b : SessionView) → event ≡ NoEvent → Hears event a b → Same a b
clock_same NoEvent a b e h = same_by a b h
clock_same ImTimeIsOver a b e h = absurd (cc)
clock_same StopIsRequested a b e h = absurd (cc)

by_sides : (K : Side → Type 0) (side : Side) → K side → K (other side) → (one : Side) → K one
by_sides K Bot own beside Bot = own
by_sides K Bot own beside Server = beside
by_sides K Server own beside Bot = beside
by_sides K Server own beside Server = own

none_taken : (front : List ℕ) (frames : List Sent) → 0 < length front → IsFrontOf front frames → without 0 frames ≡ frames
none_taken front [] some h = refl
none_taken front (frame ∷ frames) some h =
    let long : 0 < length frame.bytes = subst (λ (l : List ℕ). 0 < length l) (sym h.1.1) (longer front h.1.0 h.0) in
    let less = lt-ltb 0 (length frame.bytes) long in
    rw less refl
  where
    longer : (xs ys : List ℕ) → 0 < length xs → 0 < length (xs ++ ys)
    longer [] ys e = absurd (omega (arith, e))
    longer (x ∷ xs) ys e = omega (arith)

first_is_long : (front : List ℕ) (frames : List Sent) → 0 < length front → IsFrontOf front frames → 0 < first_len frames
first_is_long front [] some h = let none = ap length h in absurd (omega (arith, none, some))
first_is_long front (frame ∷ frames) some h =
    subst (λ (l : List ℕ). 0 < length l) (sym h.1.1) (longer front h.1.0 h.0)
  where
    longer : (xs ys : List ℕ) → 0 < length xs → 0 < length (xs ++ ys)
    longer [] ys e = absurd (omega (arith, e))
    longer (x ∷ xs) ys e = omega (arith)

parts_stay : (parts : List (List ℕ)) → parts_after 0 parts ≡ parts
parts_stay [] = refl
parts_stay (part ∷ parts) =
    let none : 0 - length part ≡ 0 = omega arith in
    ap (λ (n : ℕ). drop 0 part ∷ parts_after n parts) none
    ∙ ap (λ (l : List (List ℕ)). part ∷ l) (parts_stay parts)

wrote_same : (side : Side) (a b : SessionView) → 0 < length (front_of a side) →
    IsFrontOf (front_of a side) (queued a side) → Hands side (Took 0) a b → Same a b
wrote_same side a b some front h = record {
  state = h.0.same_state;
  queues = by_sides (λ (one : Side). queued b one ≡ queued a one) side
      (h.0.taken ∙ none_taken (front_of a side) (queued a side) some front) h.0.other_wire;
  fronts = by_sides (λ (one : Side). no_frame (queued a one) ≡ false → front_of b one ≡ front_of a one) side
      (λ filled. ap next_part (h.1.rest (first_is_long (front_of a side) (queued a side) some front) ∙ parts_stay (parts_of a side)))
      (λ filled. ap next_part (h.2.same filled));
}

no_bytes : (bytes : List ℕ) → length bytes ≡ 0 → bytes ≡ []
no_bytes [] e = refl
no_bytes (x ∷ bytes) e = absurd (omega (arith, e))

got_none : (side : Side) (bytes : List ℕ) (a b : SessionView) → length bytes ≡ 0 → Gets side (Got 0) bytes a b → Same a b
got_none side bytes a b none h =
    let run : Runs a.state [] h.0.1.effects b.state =
    subst (λ (l : List ℕ). Runs a.state (bytes_come side l) h.0.1.effects b.state) (no_bytes bytes none) h.0.1.run in
    record {
      state = run.1;
      queues = λ one. h.0.1.kept one ∙ ap (λ (l : List Effect). queued a one ++ sent_to one l) run.0
          ∙ append-nil (queued a one);
      fronts = λ one filled. ap next_part ((h.1 one).same filled);
    }

pull_same : (side : Side) (pull : Pull) (bytes : List ℕ) (a b : SessionView) → (pull ≡ Idle) ⊎ (pull ≡ Got 0) →
    length bytes ≡ pulled_len pull → Gets side pull bytes a b → Same a b
pull_same side pull bytes a b still none h = ⊎_elim
    (λ (e : pull ≡ Idle). same_by a b (subst (λ (p : Pull). Gets side p bytes a b) e h))
    (λ (e : pull ≡ Got 0). got_none side bytes a b (none ∙ ap pulled_len e) (subst (λ (p : Pull). Gets side p bytes a b) e h))
    still

-- ---- one part of a turn

-- the only call of a part
only : (x : PortCall) → Contains (x ∷ []) x
only x = (0, omega arith, refl)

one_still : (xs : List PortCall) (x : PortCall) → xs ≡ x ∷ [] → All MakesNoProgress xs → MakesNoProgress x
one_still xs x e h = All-contains MakesNoProgress xs x h (subst (λ (l : List PortCall). Contains l x) (sym e) (only x))

clock_still : (a : SessionView) (xs : List PortCall) (b : SessionView) → AsksClock a xs b → All MakesNoProgress xs →
    Same a b × Contains xs (Clock NoEvent)
clock_still a xs b h still =
    let early = one_still xs (Clock h.0) h.1 still in (
      clock_same h.0 a b early h.2,
      subst (λ (l : List PortCall). Contains l (Clock NoEvent)) (sym (h.1 ∙ ap (λ (t : ClockEvent). Clock t ∷ []) early))
          (only (Clock NoEvent)),
    )

puts_still : (side : Side) (a : SessionView) (xs : List PortCall) (b : SessionView) → Puts side a xs b →
    All MakesNoProgress xs → Same a b × OffersIfQueued side a xs
puts_still side a xs b h still = ⊎_elim
    (λ (n : HasNone side a xs b). (
      same_by a b n.2,
      λ filled. let none = ap no_frame n.0 in absurd (cc),
    ))
    (λ (p : HandsFront side a xs b).
    let nothing = one_still xs (Offered side (front_of a side) p.put) p.asked still in (
      wrote_same side a b p.filled p.front (subst (λ (put : Put). Hands side put a b) nothing p.hands),
      λ filled. subst (λ (l : List PortCall). Contains l (Offered side (front_of a side) (Took 0)))
          (sym (p.asked ∙ ap (λ (put : Put). Offered side (front_of a side) put ∷ []) nothing))
          (only (Offered side (front_of a side) (Took 0))),
    ))
    h

pulls_still : (side : Side) (a : SessionView) (xs : List PortCall) (b : SessionView) → Pulls side a xs b →
    All MakesNoProgress xs → Same a b × PullsIfRoom side a xs
pulls_still side a xs b h still = ⊎_elim
    (λ (n : HasNoRoom side a xs b). (
      same_by a b n.2,
      λ room. let none = n.0 in absurd (omega (arith, none, room)),
    ))
    (λ (p : FillsRoom side a xs b).
    let call = Pulled side (min (room_of a side) most_pulled) p.pull p.bytes in (
      pull_same side p.pull p.bytes a b (one_still xs call p.asked still) p.counted p.gets,
      λ room. (p.pull, p.bytes, subst (λ (l : List PortCall). Contains l call) (sym p.asked) (only call)),
    ))
    h

-- ---- a whole turn

pub record StillTurn (xs : List PortCall) (b : SessionView) : Type 0 where
  pub clock : Contains xs (Clock NoEvent)
  pub pulled : (side : Side) → PullsIfRoom side b xs
  pub offered : (side : Side) → OffersIfQueued side b xs

pulls_later : (side : Side) (a b : SessionView) (xs ys : List PortCall) →
    ((x : PortCall) → Contains xs x → Contains ys x) → Same a b → PullsIfRoom side a xs → PullsIfRoom side b ys
pulls_later side a b xs ys within same h =
    subst (λ (n : ℕ). 0 < n → (pull : Pull) × (bytes : List ℕ) × Contains ys (Pulled side (min n most_pulled) pull bytes))
    (sym (room_same a b same side))
    (λ room. let p = h room in (p.0, p.1, within (Pulled side (min (room_of a side) most_pulled) p.0 p.1) p.2))

offers_later : (side : Side) (a b : SessionView) (xs ys : List PortCall) →
    ((x : PortCall) → Contains xs x → Contains ys x) → Same a b → OffersIfQueued side a xs → OffersIfQueued side b ys
offers_later side a b xs ys within same h = λ filled.
    let before : no_frame (queued a side) ≡ false = ap no_frame (sym (same.queues side)) ∙ filled in
    subst (λ (l : List ℕ). Contains ys (Offered side l (Took 0))) (sym (same.fronts side before))
    (within (Offered side (front_of a side) (Took 0)) (h before))

pub turn_still : (a : SessionView) (xs : List PortCall) (b : SessionView) → Turn a xs b → All MakesNoProgress xs →
    StillTurn xs b
turn_still a xs b h still =
    let s = h.0 in
    let k = h.5 in
    let t = k.0 in
    let l = k.5 in
    let u = l.0 in
    let m = l.5 in
    let v = m.0 in
    let all = subst (λ (c : List PortCall). All MakesNoProgress c) h.3 still in
    let rest = subst (λ (c : List PortCall). All MakesNoProgress c) k.3 (all_right MakesNoProgress h.1 h.2 all) in
    let last = subst (λ (c : List PortCall). All MakesNoProgress c) l.3 (all_right MakesNoProgress k.1 k.2 rest) in
    let reads = subst (λ (c : List PortCall). All MakesNoProgress c) m.3 (all_right MakesNoProgress l.1 l.2 last) in
    let clock = clock_still a h.1 s h.4 (all_left MakesNoProgress h.1 h.2 all) in
    let bot = puts_still Bot s k.1 t k.4 (all_left MakesNoProgress k.1 k.2 rest) in
    let server = puts_still Server t l.1 u l.4 (all_left MakesNoProgress l.1 l.2 last) in
    let from_bot = pulls_still Bot u m.1 v m.4 (all_left MakesNoProgress m.1 m.2 reads) in
    let from_server = pulls_still Server v m.2 b m.5 (all_right MakesNoProgress m.1 m.2 reads) in
    let first : (x : PortCall) → Contains h.1 x → Contains xs x =
    λ x c. subst (λ (l : List PortCall). Contains l x) (sym h.3) (Contains-append_left h.1 h.2 x c) in
    let later : (x : PortCall) → Contains h.2 x → Contains xs x =
    λ x c. subst (λ (l : List PortCall). Contains l x) (sym h.3) (Contains-append_right h.1 h.2 x c) in
    let second : (x : PortCall) → Contains k.1 x → Contains xs x =
    λ x c. later x (subst (λ (l : List PortCall). Contains l x) (sym k.3) (Contains-append_left k.1 k.2 x c)) in
    let much_later : (x : PortCall) → Contains k.2 x → Contains xs x =
    λ x c. later x (subst (λ (l : List PortCall). Contains l x) (sym k.3) (Contains-append_right k.1 k.2 x c)) in
    let third : (x : PortCall) → Contains l.1 x → Contains xs x =
    λ x c. much_later x (subst (λ (q : List PortCall). Contains q x) (sym l.3) (Contains-append_left l.1 l.2 x c)) in
    let at_last : (x : PortCall) → Contains l.2 x → Contains xs x =
    λ x c. much_later x (subst (λ (q : List PortCall). Contains q x) (sym l.3) (Contains-append_right l.1 l.2 x c)) in
    let fourth : (x : PortCall) → Contains m.1 x → Contains xs x =
    λ x c. at_last x (subst (λ (q : List PortCall). Contains q x) (sym m.3) (Contains-append_left m.1 m.2 x c)) in
    let fifth : (x : PortCall) → Contains m.2 x → Contains xs x =
    λ x c. at_last x (subst (λ (q : List PortCall). Contains q x) (sym m.3) (Contains-append_right m.1 m.2 x c)) in
    let v_to_b = from_server.0 in
    let u_to_b = same_then u v b from_bot.0 v_to_b in
    let t_to_b = same_then t u b server.0 u_to_b in
    let s_to_b = same_then s t b bot.0 t_to_b in
    record {
      clock = first (Clock NoEvent) clock.1;
      pulled = by_sides (λ (one : Side). PullsIfRoom one b xs) Bot
          (pulls_later Bot u b m.1 xs fourth u_to_b from_bot.1) (pulls_later Server v b m.2 xs fifth v_to_b from_server.1);
      offered = by_sides (λ (one : Side). OffersIfQueued one b xs) Bot
          (offers_later Bot s b k.1 xs second s_to_b bot.1) (offers_later Server t b l.1 xs third t_to_b server.1);
    }
