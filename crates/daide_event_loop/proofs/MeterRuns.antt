-- The meter of a session of a run, by all its port calls: its bytes, and whether its turns were spent while it was open.
use Rattle.std.proofs.Common.{◌≡◌, ℕ, zero, suc, ◌+◌, ◌<◌, ◌≤◌, ◌⊎◌, Bool, true, false, List, [], ◌∷◌, ◌++◌, Option, Some, None}
use Rattle.std.proofs.Common.{refl, sym, ap, ◌∙◌, subst, arith, append_assoc, append-nil, inl, inr}
use Rattle.std.specs.Prelude.{is_some, is_none, nat_lt, ◌&&◌}
use Rattle.std.proofs.lemmas.Bool.{lt-ltb, le-ltb}
use Rattle.daide_protocol.specs.declared.ending.Ending.{Ending}
use Rattle.daide_protocol.specs.declared.ending.Ending.TheVariants.{Stopped}
use Rattle.daide_protocol.specs.declared.phase.SessionPhase.{SessionPhase}
use Rattle.daide_protocol.specs.Events.{Event, OperatorStops}
use Rattle.daide_protocol.specs.Machine.{SessionState, Effect, Limits, Successor, Runs, Transition, is_over, ending_in}
use Rattle.daide_protocol.specs.Wires.{SessionView}
use Rattle.daide_protocol.proofs.EndingLemmas.{ending_known}
use Rattle.daide_protocol.proofs.OneRun.{one_run, runs_join}
use Rattle.daide_protocol.proofs.PieceRuns.{over_stays}
use Rattle.daide_io.specs.declared.ports.ClockEvent.TheVariants.{StopIsRequested}
use Rattle.daide_io.specs.ByteCounts.{bytes_of}
use Rattle.daide_io.specs.FaultField.{field_in, fault_field_of}
use Rattle.daide_io.specs.Ports.{PortCall, TurnBegins, Clock, events_of}
use Rattle.daide_io.proofs.TraceLemmas.{events_of-append}
use Rattle.daide_driver.specs.declared.meter.Meter.{Meter}
use Rattle.daide_driver.specs.Headline.{untouched}
use Rattle.daide_driver.specs.Meter.{one_less, left_after, metered, is_stopped_by, StopsIf}
use Rattle.daide_driver.specs.Slab.{SlotView, IsSlotBegun, IsSlotTurned, new_slot}
use Rattle.daide_event_loop.specs.Served.{IsMetered, IsEndOf, turns_in, while_left}
use Rattle.daide_event_loop.specs.Serving.{end_of}
use Rattle.daide_event_loop.proofs.ByteLemmas.{bytes_then}
use Rattle.daide_event_loop.proofs.TurnCounts.{turns_append, turn_begins_none, all_within, within_then, last_within, late_adds}

-- ---- an end

over_for_good : (old : SessionState) (events : List Event) (effects : List Effect) (new : SessionState) →
    is_over old.phase ≡ true → Runs old events effects new → new ≡ old
over_for_good old events effects new over run = (one_run events old effects [] new old run (over_stays old events over)).1

-- a stop ends an open session, and no later event changes that
stops_by : (old : SessionState) (effects : List Effect) (new : SessionState) → is_over old.phase ≡ false →
    Transition old OperatorStops effects new → (ending_in new.phase ≡ Some Stopped) × (is_over new.phase ≡ true)
stops_by old effects new live step = (
  ap (λ (o : Successor). ending_in o.state.phase) (sym step.outcome) ∙ (rw live refl),
  ap (λ (o : Successor). is_over o.state.phase) (sym step.outcome) ∙ (rw live refl),
)

stopped_by : (old : SessionState) (calls others : List PortCall) (effects : List Effect) (new : SessionState) →
    is_over old.phase ≡ false → calls ≡ Clock StopIsRequested ∷ others → Runs old (events_of calls) effects new →
    ending_in new.phase ≡ Some Stopped
stopped_by old calls others effects new live first all =
    let run : Runs old (OperatorStops ∷ events_of others) effects new =
    subst (λ (l : List PortCall). Runs old (events_of l) effects new) first all in
    let one = stops_by old run.1 run.0 live run.3 in
    ap (λ (s : SessionState). ending_in s.phase) (over_for_good run.0 (events_of others) run.2 new one.1 run.4) ∙ one.0

-- ---- the turns of a session, so far

module _ (limits : Limits) (turns : ℕ) where
  -- it is open, and each of its turns was counted
  pub record IsOpen (history : List PortCall) (session : SessionView) (left : Option ℕ) : Type 0 where
    live : is_over session.state.phase ≡ false
    more : ℕ
    is : left ≡ Some more
    all : more + turns_in history ≡ turns

  -- it was over while turns were left
  pub record HasEnded (history : List PortCall) (session : SessionView) (left : Option ℕ) : Type 0 where
    over : is_over session.state.phase ≡ true
    more : ℕ
    is : left ≡ Some more
    early : List PortCall
    late : List PortCall
    parts : history ≡ early ++ late
    within : turns_in early ≤ turns
    effects : List Effect
    run : Runs (untouched limits).state (events_of early) effects session.state

  -- its turns were spent while it was open
  pub record IsStopped (history : List PortCall) (session : SessionView) (left : Option ℕ) : Type 0 where
    is : left ≡ None
    ending : ending_in session.state.phase ≡ Some Stopped
    late : turns < turns_in history
    effects : List Effect
    state : SessionState
    run : Runs (untouched limits).state (events_of (while_left turns history)) effects state
    live : is_over state.phase ≡ false

  abbrev Counted : List PortCall → SessionView → Option ℕ → Type 0
  Counted history session left =
      IsOpen history session left ⊎ (HasEnded history session left ⊎ IsStopped history session left)

  ended_over : (session : SessionView) → ending_in session.state.phase ≡ Some Stopped → is_over session.state.phase ≡ true
  ended_over session e = sym (ending_known session.state.phase) ∙ ap is_some e

  runs_then : (history calls : List PortCall) (mid new : SessionState) (a b : List Effect) →
      Runs (untouched limits).state (events_of history) a mid → Runs mid (events_of calls) b new →
      Runs (untouched limits).state (events_of (history ++ TurnBegins ∷ calls)) (a ++ b) new
  runs_then history calls mid new a b h k =
      subst (λ (es : List Event). Runs (untouched limits).state es (a ++ b) new) (sym (events_of-append history (TurnBegins ∷ calls)))
      (runs_join (events_of history) (events_of calls) (untouched limits).state mid new a b h k)

  -- ---- one turn more

  module _ (history calls : List PortCall) (old new : SessionView) (left : Option ℕ) (a b : List Effect)
      (before : Runs (untouched limits).state (events_of history) a old.state)
      (run : Runs old.state (events_of calls) b new.state) (none : turns_in calls ≡ 0)
      (stops : is_over old.state.phase ≡ false → is_none (one_less left) ≡ true → (others : List PortCall)
      × (calls ≡ Clock StopIsRequested ∷ others)) where
    abbrev then_turn : List PortCall
    then_turn = history ++ TurnBegins ∷ calls

    one_more : turns_in then_turn ≡ suc (turns_in history)
    one_more = let all = turns_append history (TurnBegins ∷ calls) in omega (arith, all, none)

    turn_open : IsOpen history old left → Counted then_turn new (left_after (is_over old.state.phase) left)
    turn_open h = by h.more h.is h.all
      where
        goes : (k : ℕ) → left ≡ Some (suc k) → suc k + turns_in history ≡ turns → (over : Bool) →
            is_over new.state.phase ≡ over → Counted then_turn new (left_after (is_over old.state.phase) left)
        goes k is all false e = inl (record {
          live = e;
          more = k;
          is = rw h.live (ap one_less is);
          all = let more = one_more in omega (arith, all, more);
        })
        goes k is all true e = inr (inl (record {
          over = e;
          more = k;
          is = rw h.live (ap one_less is);
          early = then_turn;
          late = [];
          parts = sym (append-nil then_turn);
          within = let more = one_more in omega (arith, all, more);
          effects = a ++ b;
          run = runs_then history calls old.state new.state a b before run;
        }))

        by : (more : ℕ) → left ≡ Some more → more + turns_in history ≡ turns →
            Counted then_turn new (left_after (is_over old.state.phase) left)
        by (suc k) is all = goes k is all (is_over new.state.phase) refl
        by zero is all =
            let first = stops h.live (ap (λ (o : Option ℕ). is_none (one_less o)) is) in
            let had : turns_in history ≡ turns = omega (arith, all) in
            inr (inr (record {
              is = rw h.live (ap one_less is);
              ending = stopped_by old.state calls first.0 b new.state h.live first.1 run;
              late = let more = one_more in omega (arith, had, more);
              effects = a;
              state = old.state;
              run = subst (λ (l : List PortCall). Runs (untouched limits).state (events_of l) a old.state)
                  (sym (last_within turns history calls had)) before;
              live = h.live;
            }))

    turn_ended : HasEnded history old left → Counted then_turn new (left_after (is_over old.state.phase) left)
    turn_ended h =
        let same = over_for_good old.state (events_of calls) b new.state h.over run in
        inr (inl (record {
          over = ap (λ (s : SessionState). is_over s.phase) same ∙ h.over;
          more = h.more;
          is = rw h.over h.is;
          early = h.early;
          late = h.late ++ TurnBegins ∷ calls;
          parts = ap (λ (l : List PortCall). l ++ TurnBegins ∷ calls) h.parts ∙ append_assoc h.early h.late (TurnBegins ∷ calls);
          within = h.within;
          effects = h.effects;
          run = subst (λ (s : SessionState). Runs (untouched limits).state (events_of h.early) h.effects s) (sym same) h.run;
        }))

    turn_stopped : IsStopped history old left → Counted then_turn new (left_after (is_over old.state.phase) left)
    turn_stopped h =
        let over = ended_over old h.ending in
        let same = over_for_good old.state (events_of calls) b new.state over run in
        inr (inr (record {
          is = rw over h.is;
          ending = ap (λ (s : SessionState). ending_in s.phase) same ∙ h.ending;
          late = let more = one_more in let was = h.late in omega (arith, was, more);
          effects = h.effects;
          state = h.state;
          run = subst (λ (l : List PortCall). Runs (untouched limits).state (events_of l) h.effects h.state)
              (sym (late_adds turns history (TurnBegins ∷ calls) h.late)) h.run;
          live = h.live;
        }))

    turn_counted : Counted history old left → Counted then_turn new (left_after (is_over old.state.phase) left)
    turn_counted (inl h) = turn_open h
    turn_counted (inr (inl h)) = turn_ended h
    turn_counted (inr (inr h)) = turn_stopped h

-- ---- the meter

-- the meter of a session is right, by its port calls so far
pub record Metering {P : Type 0} (limits : Limits) (turns : ℕ) (history : List PortCall) (now : SlotView P) : Type 0 where
  pub bytes : now.meter.moved.bytes ≡ bytes_of history
  pub counted : Counted limits turns history now.session now.meter.turns_left

-- that of a new session
pub metering_begins : {P : Type 0} (limits : Limits) (turns : ℕ) (session : SessionView) (ports : P) →
    is_over session.state.phase ≡ false →
    Metering limits turns [] (new_slot session ports turns)
metering_begins limits turns session ports live = record {
  bytes = refl;
  counted = inl (record { live = live; more = turns; is = refl; all = omega arith });
}

-- and after one turn more
pub metering_turn : {P : Type 0} (transition : P → PortCall → P → Type 0) (limits : Limits) (turns : ℕ)
    (history : List PortCall) (effects : List Effect) (old mid new : SlotView P) →
    Runs (untouched limits).state (events_of history) effects old.session.state → IsSlotBegun transition old mid →
    (t : IsSlotTurned transition mid new) → Metering limits turns history old →
    Metering limits turns (history ++ TurnBegins ∷ t.turned.exchange.call) new
metering_turn transition limits turns history effects old mid new before begun t h =
    let calls = t.turned.exchange.call in
    let whole = t.turned.exchange.session in
    let run = subst (λ (g : SessionView). Runs g.state (events_of calls) whole.delivered.sends.effects new.session.state)
    begun.session whole.delivered.sends.run in
    let same : new.meter ≡ metered (is_over old.session.state.phase) calls old.meter =
    t.meter ∙ ap (λ (g : SessionView). metered (is_over g.state.phase) calls mid.meter) begun.session
    ∙ ap (metered (is_over old.session.state.phase) calls) begun.meter in
    let stops : StopsIf (is_stopped_by (is_over old.session.state.phase) old.meter) calls =
    subst (λ (g : SessionView). StopsIf (is_stopped_by (is_over g.state.phase) old.meter) calls) begun.session
    (subst (λ (m : Meter). StopsIf (is_stopped_by (is_over mid.session.state.phase) m) calls) begun.meter t.stops) in
    record {
      bytes = ap (λ (m : Meter). m.moved.bytes) same
          ∙ bytes_then history calls (record { made_progress = false; bytes = old.meter.moved.bytes }) h.bytes;
      counted = subst (λ (m : Meter). Counted limits turns (history ++ TurnBegins ∷ calls) new.session m.turns_left) (sym same)
          (turn_counted limits turns history calls old.session new.session old.meter.turns_left effects
          whole.delivered.sends.effects before run (turn_begins_none mid.session calls new.session whole.in_order)
          (λ live none. stops (rw (live, none) refl)) h.counted);
    }

-- ---- the law

module _ {P : Type 0} (limits : Limits) (turns : ℕ) (history : List PortCall) (now : SlotView P) (effects : List Effect)
    (reached : Runs (untouched limits).state (events_of history) effects now.session.state) where
  of_open : now.meter.moved.bytes ≡ bytes_of history → IsOpen limits turns history now.session now.meter.turns_left →
      IsMetered limits turns history now
  of_open bytes h =
      let all = h.all in
      let few : turns_in history ≤ turns = omega (arith, all) in
      record {
        bytes = bytes;
        effects = effects;
        state = now.session.state;
        run = subst (λ (l : List PortCall). Runs (untouched limits).state (events_of l) effects now.session.state)
            (sym (all_within turns history few)) reached;
        spent = ap is_none h.is ∙ (rw (le-ltb turns (turns_in history) few) refl);
        stopped = λ e. let none = sym (ap is_none h.is) ∙ e in absurd (cc);
        ends = λ late. absurd (omega (arith, few, late));
      }

  -- the calls within the quota led to the state in which it is over
  pub ended_within : HasEnded limits turns history now.session now.meter.turns_left →
      (all : List Effect) × Runs (untouched limits).state (events_of (while_left turns history)) all now.session.state
  ended_within h =
      let rest = within_then turns h.early h.late h.within in (
        h.effects ++ [],
        subst (λ (l : List PortCall). Runs (untouched limits).state (events_of l) (h.effects ++ []) now.session.state)
            (sym (ap (while_left turns) h.parts ∙ rest.1))
            (subst (λ (es : List Event). Runs (untouched limits).state es (h.effects ++ []) now.session.state)
            (sym (events_of-append h.early rest.0))
            (runs_join (events_of h.early) (events_of rest.0) (untouched limits).state now.session.state now.session.state
            h.effects [] h.run (over_stays now.session.state (events_of rest.0) h.over))),
      )

  of_ended : now.meter.moved.bytes ≡ bytes_of history → HasEnded limits turns history now.session now.meter.turns_left →
      IsMetered limits turns history now
  of_ended bytes h = record {
    bytes = bytes;
    effects = (ended_within h).0;
    state = now.session.state;
    run = (ended_within h).1;
    spent = ap is_none h.is ∙ sym (rw h.over (never (nat_lt turns (turns_in history))));
    stopped = λ e. let none = sym (ap is_none h.is) ∙ e in absurd (cc);
    ends = λ late. h.over;
  }
    where
      never : (b : Bool) → (b && false) ≡ false
      never true = refl
      never false = refl

  of_stopped : now.meter.moved.bytes ≡ bytes_of history → IsStopped limits turns history now.session now.meter.turns_left →
      IsMetered limits turns history now
  of_stopped bytes h = record {
    bytes = bytes;
    effects = h.effects;
    state = h.state;
    run = h.run;
    spent = ap is_none h.is ∙ sym (rw (lt-ltb turns (turns_in history) h.late, h.live) refl);
    stopped = λ e. h.ending;
    ends = λ late. ended_over limits turns now.session h.ending;
  }

  pub is_metered : Metering limits turns history now → IsMetered limits turns history now
  is_metered h = by h.counted
    where
      by : Counted limits turns history now.session now.meter.turns_left → IsMetered limits turns history now
      by (inl k) = of_open h.bytes k
      by (inr (inl k)) = of_ended h.bytes k
      by (inr (inr k)) = of_stopped h.bytes k

-- ---- the end

-- the field of a fault is that of the state in which the session ended; an open session and a stop have none
no_field : (state : SessionState) → is_over state.phase ≡ false → fault_field_of state ≡ None
no_field state live = by (ending_in state.phase) (ending_known state.phase ∙ live)
  where
    by : (o : Option Ending) → is_some o ≡ false → field_in o state ≡ None
    by None e = refl
    by (Some ending) e = absurd (cc)

none_ends : (phase : SessionPhase) → is_over phase ≡ false → ending_in phase ≡ None
none_ends phase live = by (ending_in phase) (ending_known phase ∙ live)
  where
    by : (o : Option Ending) → is_some o ≡ false → o ≡ None
    by None e = refl
    by (Some ending) e = absurd (cc)

-- what is reported of a session that is over is its own end, by the port calls within its quota
pub end_metered : {P : Type 0} (limits : Limits) (turns : ℕ) (history : List PortCall) (now : SlotView P) (effects : List Effect) →
    Runs (untouched limits).state (events_of history) effects now.session.state → is_over now.session.state.phase ≡ true →
    Metering limits turns history now → IsEndOf limits turns history now.session (end_of now)
end_metered limits turns history now effects reached over h = by h.counted
  where
    by : Counted limits turns history now.session now.meter.turns_left → IsEndOf limits turns history now.session (end_of now)
    by (inl k) = let live = k.live in absurd (cc)
    by (inr (inl k)) =
        let within = ended_within limits turns history now effects reached k in (
          within.0,
          now.session.state,
          within.1,
          rw k.is refl,
          refl,
          refl,
        )
    by (inr (inr k)) = (
      k.effects,
      k.state,
      k.run,
      rw (k.is, none_ends k.state.phase k.live) refl,
      refl,
      ap (λ (o : Option Ending). field_in o now.session.state) k.ending ∙ sym (no_field k.state k.live),
    )
