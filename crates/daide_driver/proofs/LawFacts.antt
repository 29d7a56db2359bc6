-- Each law of `laws`, used once at small values: few calls, two places, six turns. Each fact takes only the law, so
-- that a weaker law does not check.
use Rattle.std.proofs.Common.{◌≡◌, ℕ, ◌+◌, ◌<◌, ◌≤◌, min, List, [], ◌∷◌, length, Some, refl, ◌∙◌, subst, arith}
use Rattle.std.specs.Prelude.{slice_get}
use Rattle.daide_frame.specs.declared.side.Side.TheVariants.{Bot, Server}
use Rattle.daide_protocol.specs.Machine.{Limits}
use Rattle.daide_protocol.specs.Wires.{SessionView, queued, first_len, sent_bytes, parts_of, holding}
use Rattle.daide_io.specs.declared.ports.ClockEvent.TheVariants.{NoEvent}
use Rattle.daide_io.specs.declared.ports.Pull.TheVariants.{Got}
use Rattle.daide_io.specs.Ports.{PortCall, Clock, Pulled, EvolvesBy}
use Rattle.daide_channels.specs.Fronts.{AreFresh}
use Rattle.daide_driver.specs.Due.{AreTurns, DueBytesGo, EachTurnTakesAll, EachTurnTakesSome, FramesGo, taken_in}
use Rattle.daide_driver.specs.Headline.{untouched}
use Rattle.daide_driver.specs.Whole.{HasHeadline}
use Rattle.daide_driver.specs.Hub.{HubView}
use Rattle.daide_driver.specs.HubRuns.{Added, Begun, Removed, Turned, HubRuns, Life, Opened, Stood, TurnRuns, TurnStarts, fresh_life}
use Rattle.daide_driver.specs.HubRuns.{with_call, SessionsAreApart, PortsComeBackApart, EachHasItsHeadline, OpenedSessionsAreReachable}
use Rattle.daide_driver.specs.HubRuns.{WentAlone}
use Rattle.daide_driver.specs.Laws.{HeadlinesJoin, NewSessionsAreReachable, RelaysJoin}
use Rattle.daide_driver.specs.Record.{EvolveTogether}
use Rattle.daide_driver.specs.Totals.{RefinesRun}
use Rattle.daide_frame.proofs.PerSideLemmas.{on_both}
use Rattle.daide_frame.specs.declared.side.Side.{Side}

-- ---- relays

-- a read of the clock, and two bytes after it
joined : RelaysJoin → (a b c : SessionView) (bytes : List ℕ) → RefinesRun a (Clock NoEvent ∷ []) b →
    RefinesRun b (Pulled Bot 512 (Got 2) bytes ∷ []) c → RefinesRun a (Clock NoEvent ∷ Pulled Bot 512 (Got 2) bytes ∷ []) c
joined law a b c bytes first second =
    law a b c (Clock NoEvent ∷ []) (Pulled Bot 512 (Got 2) bytes ∷ []) first second

-- before any call, whatever the limits
opens : NewSessionsAreReachable → (limits : Limits) → RefinesRun (untouched limits) [] (untouched limits)
opens law limits = law limits (untouched limits) (record {
  state = refl;
  quiet = on_both (λ (side : Side). queued (untouched limits) side ≡ []) refl refl;
  frame_bytes = on_both (λ (side : Side). (holding (untouched limits) side).frame_bytes ≡ []) refl refl;
  unasked = on_both (λ (side : Side). (holding (untouched limits) side).total ≡ 0) refl refl;
  unlooked = on_both (λ (side : Side). (holding (untouched limits) side).looked_at ≡ 0) refl refl;
  uncounted = refl;
})

-- three calls, one after the other
headlines : {P : Type 0} (transition : P → PortCall → P → Type 0) → HeadlinesJoin transition →
    (a b c d : SessionView × P) → EvolveTogether transition HasHeadline a b → EvolveTogether transition HasHeadline b c →
    EvolveTogether transition HasHeadline c d → EvolveTogether transition HasHeadline a d
headlines transition law a b c d first second third = law a c d (law a b c first second) third

-- ---- the queued bytes

-- at least one byte is queued, and one turn is made
byte_goes : DueBytesGo → (old new : SessionView) (trace : List PortCall) → AreTurns old (trace ∷ []) new →
    EachTurnTakesSome Server (trace ∷ []) → (n : ℕ) → length (sent_bytes (queued old Server)) ≡ n + 1 →
    0 < length (taken_in Server (trace ∷ []))
byte_goes law old new trace turns some n waits =
    let gone : min 1 (n + 1) ≤ length (taken_in Server (trace ∷ [])) =
    subst (λ (k : ℕ). min 1 k ≤ length (taken_in Server (trace ∷ []))) waits
    (law Server (trace ∷ []) old new turns some) in
    omega (arith, gone)

-- six turns are enough for an unsent frame
frame_goes : FramesGo → (old new : SessionView) (a b c d e f : List PortCall) →
    AreTurns old (a ∷ b ∷ c ∷ d ∷ e ∷ f ∷ []) new → EachTurnTakesAll Bot (a ∷ b ∷ c ∷ d ∷ e ∷ f ∷ []) →
    AreFresh (parts_of old Bot) (queued old Bot) →
    first_len (queued old Bot) ≤ length (taken_in Bot (a ∷ b ∷ c ∷ d ∷ e ∷ f ∷ []))
frame_goes law old new a b c d e f turns all fresh =
    law Bot (a ∷ b ∷ c ∷ d ∷ e ∷ f ∷ []) old new turns all fresh (omega arith)

-- ---- a hub

module _ {P : Type 0} (transition : P → PortCall → P → Type 0) (limits : Limits) where
  -- a hub with two places
  abbrev two : List (SessionView × P) → HubView P
  two places = record { limits = limits; max = 2; places = places }

  -- a turn of the first place leaves the second unchanged
  second_stays : SessionsAreApart transition → (first second now : SessionView × P) (new : HubView P) →
      HubRuns transition (two (first ∷ second ∷ [])) (Turned 0 ∷ []) new → slice_get new.places 1 ≡ Some now → now ≡ second
  second_stays law first second now new runs at =
      let apart = law (Turned 0 ∷ []) (two (first ∷ second ∷ [])) new runs in
      let went = apart.alone 1 (fresh_life (Stood second)) now refl at in
      went.2 ∙ went.1

  -- the ports returned after one turn that began with them
  handed_back : PortsComeBackApart transition → (place : SessionView × P) (ports : P) (new : HubView P) →
      HubRuns transition (two (place ∷ [])) (Begun 0 ∷ Removed 0 ports ∷ []) new →
      (life : Life P) × (session : SessionView) × WentAlone transition limits life (session, ports)
      × (Some (with_call TurnStarts (fresh_life (Stood place))) ≡ Some life)
  handed_back law place ports new runs =
      let back = law (Begun 0 ∷ []) 0 ports (two (place ∷ [])) new runs in
      (back.0, back.1, back.4, back.2)

  -- one turn of the only place
  one_headline : EachHasItsHeadline transition → (place now : SessionView × P) (new : HubView P) →
      HubRuns transition (two (place ∷ [])) (Turned 0 ∷ []) new → slice_get new.places 0 ≡ Some now →
      EvolveTogether transition HasHeadline place now
  one_headline law place now new runs at =
      let got = law (Turned 0 ∷ []) (two (place ∷ [])) new runs 0 (with_call TurnRuns (fresh_life (Stood place))) now refl
      at (omega arith) in
      subst (λ (first : SessionView × P). EvolveTogether transition HasHeadline first now) got.1 got.2

  -- ports that were handed over, and no turn
  one_added : OpenedSessionsAreReachable transition → (ports : P) (now : SessionView × P) (new : HubView P) →
      HubRuns transition (two []) (Added ports ∷ []) new → slice_get new.places 0 ≡ Some now →
      (history : List PortCall) × RefinesRun (untouched limits) history now.0 × EvolvesBy transition ports history now.1
  one_added law ports now new runs at =
      law (Added ports ∷ []) (two []) new runs 0 (fresh_life (Opened ports)) ports now refl at refl
