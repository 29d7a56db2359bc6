-- Streams along a trace of port calls.
use Rattle.std.proofs.Common.{◌≡◌, ℕ, Bool, true, false, List, [], ◌∷◌, ◌++◌, Option, refl, sym, ap}
use Rattle.std.proofs.Common.{◌∙◌, subst, append_assoc, append-nil}
use Rattle.std.specs.Io.KnownBytes.{Consumes, Appends}
use Rattle.daide_frame.specs.declared.side.Side.{Side}
use Rattle.daide_frame.specs.declared.side.Side.TheVariants.{Bot, Server}
use Rattle.daide_protocol.specs.Events.{Event, Comes, Ends, Loses, ImTimerExpired, OperatorStops, bytes_come}
use Rattle.daide_protocol.specs.Heard.{bytes_from}
use Rattle.daide_protocol.specs.Machine.{Limits}
use Rattle.daide_frame.specs.PerSide.{PerSide, at}
use Rattle.daide_frame.specs.Side.{same_side}
use Rattle.daide_protocol.specs.Wires.{SessionView, sent_bytes, queued}
use Rattle.daide_driver.specs.Headline.{IsBoundedAndExact, untouched}
use Rattle.daide_io.specs.declared.ports.ClockEvent.TheVariants.{NoEvent, ImTimeIsOver, StopIsRequested}
use Rattle.daide_io.specs.Ports.{PortCall, TurnBegins, Clock, Pulled, Offered, EvolvesBy, event_of}
use Rattle.daide_io.specs.Ports.{events_of, took}
use Rattle.daide_driver.specs.Record.{Moved}
use Rattle.daide_io.specs.Ports.{taken}
use Rattle.daide_io.specs.declared.ports.Pull.TheVariants.{Got, Idle, Ended}
use Rattle.daide_io.specs.declared.ports.Put.TheVariants.{Took, Failed}
use Rattle.daide_buffered_io.specs.Buffers.{Buffer, Passes}
use Rattle.daide_buffered_io.specs.Streams.{pulled_bytes, given, Transfers}
use Rattle.daide_run.specs.Exchanged.{Exchanges}
use Rattle.daide_buffered_io.proofs.BufferLemmas.{same_passes, passes_then}

-- ---- the bytes of the events are the bytes returned

-- an event before others
event_first : (side : Side) (event : Event) (events more : List Event) →
    bytes_from side (events ++ more) ≡ bytes_from side events ++ bytes_from side more →
    bytes_from side (event ∷ events ++ more) ≡ bytes_from side (event ∷ events) ++ bytes_from side more
event_first side (Comes from byte) events more h = go (same_side from side) refl
  where
    go : (b : Bool) → same_side from side ≡ b → bytes_from side (Comes from byte ∷ events ++ more)
        ≡ bytes_from side (Comes from byte ∷ events) ++ bytes_from side more
    go true e = rw e (ap (λ (t : List ℕ). byte ∷ t) h)
    go false e = rw e h
event_first side (Ends from) events more h = h
event_first side (Loses from) events more h = h
event_first side ImTimerExpired events more h = h
event_first side OperatorStops events more h = h

bytes_from-append : (side : Side) (events more : List Event) →
    bytes_from side (events ++ more) ≡ bytes_from side events ++ bytes_from side more
bytes_from-append side [] more = refl
bytes_from-append side (event ∷ events) more = event_first side event events more (bytes_from-append side events more)

all_of_own : (side from : Side) (bytes : List ℕ) → same_side from side ≡ true →
    bytes_from side (bytes_come from bytes) ≡ bytes
all_of_own side from [] e = refl
all_of_own side from (byte ∷ bytes) e = rw e (ap (λ (t : List ℕ). byte ∷ t) (all_of_own side from bytes e))

none_of_other : (side from : Side) (bytes : List ℕ) → same_side from side ≡ false →
    bytes_from side (bytes_come from bytes) ≡ []
none_of_other side from [] e = refl
none_of_other side from (byte ∷ bytes) e = rw e (none_of_other side from bytes e)

bytes_of_event : (side : Side) (call : PortCall) → bytes_from side (event_of call) ≡ pulled_bytes side call
bytes_of_event side TurnBegins = refl
bytes_of_event side (Clock ImTimeIsOver) = refl
bytes_of_event side (Clock StopIsRequested) = refl
bytes_of_event side (Clock NoEvent) = refl
bytes_of_event side (Pulled from buffer (Got n) bytes) = go (same_side from side) refl
  where
    go : (b : Bool) → same_side from side ≡ b →
        bytes_from side (bytes_come from bytes) ≡ pulled_bytes side (Pulled from buffer (Got n) bytes)
    go true e = rw e (all_of_own side from bytes e)
    go false e = rw e (none_of_other side from bytes e)
bytes_of_event side (Pulled from buffer Idle bytes) = refl
bytes_of_event side (Pulled from buffer Ended bytes) = refl
bytes_of_event side (Offered to bytes (Took n)) = refl
bytes_of_event side (Offered to bytes Failed) = refl

bytes_of_events : (side : Side) (trace : List PortCall) → bytes_from side (events_of trace) ≡ given side trace
bytes_of_events side [] = refl
bytes_of_events side (call ∷ trace) =
    bytes_from-append side (event_of call) (events_of trace)
    ∙ ap (λ (t : List ℕ). t ++ bytes_from side (events_of trace)) (bytes_of_event side call)
    ∙ ap (λ (t : List ℕ). pulled_bytes side call ++ t) (bytes_of_events side trace)

-- ---- a history

module _ {S : Type 0} (to_give got : S → Option (List ℕ)) where
  all_passed : (history : List PortCall) (first now : PerSide (Buffer S)) →
      EvolvesBy (Transfers to_give got) first history now → (side : Side) →
      Passes to_give got (at first side) (given side history) (taken side history) (at now side)
  all_passed [] first now h side =
      subst (λ (streams : PerSide (Buffer S)). Passes to_give got (at first side) [] [] (at streams side))
      (sym h) (same_passes to_give got (at first side))
  all_passed (call ∷ history) first now h side =
      passes_then to_give got (at first side) (at h.0 side) (at now side)
      (pulled_bytes side call) (took side call) (given side history) (taken side history)
      (h.1.passes side) (all_passed history h.0 now h.2 side)

  front_of_answers : (failed over : Bool) (waited answers took waits : List ℕ) → waited ≡ [] →
      Moved failed over waited answers took waits → (rest : List ℕ) × (answers ≡ took ++ rest)
  front_of_answers false over waited answers took waits e h =
      (waits, ap (λ (t : List ℕ). t ++ answers) (sym e) ∙ h)
  front_of_answers true over waited answers took waits e h =
      (h.2.0, ap (λ (t : List ℕ). t ++ answers) (sym e) ∙ h.2.1)

  nothing_waited : (limits : Limits) (side : Side) → sent_bytes (queued (untouched limits) side) ≡ []
  nothing_waited limits Bot = refl
  nothing_waited limits Server = refl

  -- if the read buffer was empty at first, the stream gave the bytes returned and those in the read buffer now
  heard_of : (old new : Buffer S) (out over : List ℕ) → Passes to_give got old out over new → old.read_buffer ≡ [] →
      Consumes (to_give old.stream) (to_give new.stream) (out ++ new.read_buffer)
  heard_of old new out over h none =
      subst (λ (bytes : List ℕ). Consumes (to_give old.stream) (to_give new.stream) bytes)
      (ap (λ (l : List ℕ). l ++ h.came) (sym none) ∙ h.read_buffer) h.gives

  sent_of : (old new : Buffer S) (out over answers : List ℕ) → Passes to_give got old out over new → old.write_buffer ≡ [] →
      (rest : List ℕ) × (answers ≡ over ++ rest) →
      (went rest : List ℕ) × Appends (got old.stream) (got new.stream) went × (answers ≡ went ++ (new.write_buffer ++ rest))
  sent_of old new out over answers h none front = (
    h.went,
    front.0,
    h.takes,
    front.1 ∙ ap (λ (l : List ℕ). l ++ front.0) (ap (λ (l : List ℕ). l ++ over) (sym none) ∙ h.write_buffer)
        ∙ append_assoc h.went new.write_buffer front.0,
  )

  whole_of : (old new : Buffer S) (out over answers : List ℕ) → Passes to_give got old out over new → old.write_buffer ≡ [] →
      new.write_buffer ≡ [] → over ≡ answers → Appends (got old.stream) (got new.stream) answers
  whole_of old new out over answers h none written all =
      subst (λ (bytes : List ℕ). Appends (got old.stream) (got new.stream) bytes)
      (sym (append-nil h.went) ∙ ap (λ (l : List ℕ). h.went ++ l) (sym written) ∙ sym h.write_buffer
      ∙ ap (λ (l : List ℕ). l ++ over) none ∙ all) h.takes

  pub exchanged : (limits : Limits) (history : List PortCall) (first now : PerSide (Buffer S)) (g : SessionView) →
      EvolvesBy (Transfers to_give got) first history now → IsBoundedAndExact limits history g →
      Exchanges to_give got limits history first g now
  exchanged limits history first now g moves h =
      let fronts = λ (side : Side).
      front_of_answers _ _ _ _ _ _ (nothing_waited limits side) (h.sends.wires side) in
      let passed : (side : Side) → Passes to_give got (at first side) (bytes_from side (events_of history))
      (taken side history) (at now side) =
      λ side. subst
      (λ (bytes : List ℕ). Passes to_give got (at first side) bytes (taken side history) (at now side))
      (sym (bytes_of_events side history)) (all_passed history first now moves side) in
      record {
        effects = h.sends.effects;
        run = h.sends.run;
        passes = passed;
        front = fronts;
        all = h.all_sent;
        heard = λ side. heard_of (at first side) (at now side) _ _ (passed side);
        sent = λ side none.
            sent_of (at first side) (at now side) _ _ _ (passed side) none (fronts side);
        whole = λ closed side kept none written. whole_of (at first side) (at now side) _ _ _
            (passed side) none written (h.all_sent closed side kept);
      }
