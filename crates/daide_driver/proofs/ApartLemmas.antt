-- Calls of a hub in a row keep its sessions apart.
use Rattle.std.proofs.Common.{◌≡◌, ℕ, zero, suc, true, List, [], ◌∷◌, ◌++◌, length, map, Option, Some, refl, sym, ap}
use Rattle.std.proofs.Common.{◌<◌, subst, set, ◌∙◌, arith}
use Rattle.std.specs.Prelude.{slice_get, remove, unwrap_or}
use Rattle.daide_protocol.specs.Machine.{Limits}
use Rattle.daide_protocol.specs.Wires.{SessionView, IsNew, is_closed}
use Rattle.daide_io.specs.Ports.{PortCall, TurnBegins, EvolvesBy}
use Rattle.daide_session.specs.Bounds.{IsWithinBounds}
use Rattle.daide_driver.specs.Record.{EvolveTogether}
use Rattle.daide_driver.specs.Totals.{RefinesRun}
use Rattle.daide_driver.specs.Turn.{Then}
use Rattle.daide_driver.specs.Headline.{untouched}
use Rattle.daide_driver.specs.Whole.{HasHeadline, WholeTurn}
use Rattle.daide_driver.specs.Hub.{HubView}
use Rattle.daide_driver.specs.HubRuns.{HubCall, Added, Begun, Turned, Removed, HubStep, HubRuns, Beginning, Stood, Opened}
use Rattle.daide_driver.specs.HubRuns.{OwnCall, TurnStarts, TurnRuns, Life, fresh_life, with_call, with_call_at, lives_after}
use Rattle.daide_driver.specs.HubRuns.{lives_after_all, lives_of, OwnStep, CallsAlone, turns_of, BeginsAs, WentAlone}
use Rattle.daide_driver.specs.HubRuns.{AreApart}
use Rattle.daide_driver.proofs.PortCalls.{turn_begins}
use Rattle.daide_io.proofs.TraceLemmas.{transition_then}
use Rattle.daide_driver.proofs.Stretches.{carries_then, carries_weaker, relays_append, relays_nil}
use Rattle.daide_driver.proofs.Standing.{headline_of, headlines_join, new_stands, totals_of}

-- `Some` is injective
some-same : {X : Type 0} (x y : X) → Some x ≡ Some y → x ≡ y
some-same {X} x y e = ap (λ (o : Option X). unwrap_or o x) e

module _ {P : Type 0} (transition : P → PortCall → P → Type 0) (limits : Limits) where
  -- lives and places, pair by pair
  abbrev Each : List (Life P) → List (SessionView × P) → Type 0
  Each [] [] = Unit {0}
  Each [] (place ∷ places) = ⊥
  Each (life ∷ lives) [] = ⊥
  Each (life ∷ lives) (place ∷ places) = WentAlone transition limits life place × Each lives places

  each-standing : (places : List (SessionView × P)) → Each (map (λ place. fresh_life (Stood place)) places) places
  each-standing [] = tt
  each-standing (place ∷ places) = ((place, refl, refl), each-standing places)

  each-added : (lives : List (Life P)) (places : List (SessionView × P)) (life : Life P) (place : SessionView × P) →
      WentAlone transition limits life place → Each lives places → Each (lives ++ life ∷ []) (places ++ place ∷ [])
  each-added [] [] life place w each = (w, tt)
  each-added [] (p ∷ places) life place w each = absurd each
  each-added (l ∷ lives) [] life place w each = absurd each
  each-added (l ∷ lives) (p ∷ places) life place w each = (each.0, each-added lives places life place w each.1)

  -- one call more for a session
  calls-more : (calls : List OwnCall) (call : OwnCall) (first before after : SessionView × P) →
      CallsAlone transition calls first before → OwnStep transition call before after →
      CallsAlone transition (calls ++ call ∷ []) first after
  calls-more [] call first before after w t =
      (after, subst (λ (x : SessionView × P). OwnStep transition call x after) w t, refl)
  calls-more (own ∷ calls) call first before after w t = (w.0, w.1, calls-more calls call w.0 before after w.2 t)

  once-more : (life : Life P) (call : OwnCall) (before after : SessionView × P) → WentAlone transition limits life before →
      OwnStep transition call before after → WentAlone transition limits (with_call call life) after
  once-more life call before after w t = (w.0, w.1, calls-more life.calls call w.0 before after w.2 t)

  each-called : (lives : List (Life P)) (places : List (SessionView × P)) (i : ℕ) (call : OwnCall)
      (before after : SessionView × P) → slice_get places i ≡ Some before → OwnStep transition call before after →
      Each lives places → Each (with_call_at i call lives) (set places i after)
  each-called [] [] i call before after e t each = absurd (cc)
  each-called [] (p ∷ places) i call before after e t each = absurd each
  each-called (l ∷ lives) [] i call before after e t each = absurd each
  each-called (l ∷ lives) (p ∷ places) zero call before after e t each =
      let went = subst (λ (x : SessionView × P). WentAlone transition limits l x) (some-same p before e) each.0 in
      (once-more l call before after went t, each.1)
  each-called (l ∷ lives) (p ∷ places) (suc i) call before after e t each =
      (each.0, each-called lives places i call before after e t each.1)

  each-removed : (lives : List (Life P)) (places : List (SessionView × P)) (i : ℕ) → Each lives places →
      Each (remove lives i) (remove places i)
  each-removed [] [] zero each = tt
  each-removed [] [] (suc i) each = tt
  each-removed [] (p ∷ places) i each = absurd each
  each-removed (l ∷ lives) [] i each = absurd each
  each-removed (l ∷ lives) (p ∷ places) zero each = each.1
  each-removed (l ∷ lives) (p ∷ places) (suc i) each = (each.0, each-removed lives places i each.1)

  each-counted : (lives : List (Life P)) (places : List (SessionView × P)) → Each lives places →
      length places ≡ length lives
  each-counted [] [] each = refl
  each-counted [] (p ∷ places) each = absurd each
  each-counted (l ∷ lives) [] each = absurd each
  each-counted (l ∷ lives) (p ∷ places) each = ap suc (each-counted lives places each.1)

  -- the life at an existing place
  each-found : (lives : List (Life P)) (places : List (SessionView × P)) (i : ℕ) (now : SessionView × P) →
      slice_get places i ≡ Some now → Each lives places →
      (life : Life P) × (slice_get lives i ≡ Some life) × WentAlone transition limits life now
  each-found [] [] i now e each = absurd (cc)
  each-found [] (p ∷ places) i now e each = absurd each
  each-found (l ∷ lives) [] i now e each = absurd each
  each-found (l ∷ lives) (p ∷ places) zero now e each =
      (l, refl, subst (λ (x : SessionView × P). WentAlone transition limits l x) (some-same p now e) each.0)
  each-found (l ∷ lives) (p ∷ places) (suc i) now e each = each-found lives places i now e each.1

  each-apart : (lives : List (Life P)) (places : List (SessionView × P)) → Each lives places →
      AreApart transition limits lives places
  each-apart lives places each = record {
    counted = each-counted lives places each;
    alone = λ i life now e f.
        let found = each-found lives places i now f each in
        subst (λ (x : Life P). WentAlone transition limits x now) (some-same found.0 life (sym found.1 ∙ e)) found.2;
  }

module _ {P : Type 0} (transition : P → PortCall → P → Type 0) where
  -- the effect of one call, by its contract
  one-call : (call : HubCall P) (old new : HubView P) (lives : List (Life P)) → HubStep transition old call new →
      Each transition old.limits lives old.places →
      (new.limits ≡ old.limits) × Each transition old.limits (lives_after call lives) new.places
  one-call (Added ports) old new lives s each =
      let same = s.2 in (
        ap (λ (h : HubView P). h.limits) same,
        subst (λ (h : HubView P). Each transition old.limits (lives_after (Added ports) lives) h.places) (sym same)
            (each-added transition old.limits lives old.places (fresh_life (Opened ports)) (s.0, ports)
            ((s.0, ports), (s.1, refl), refl) each),
      )
  one-call (Begun i) old new lives s each =
      let same = s.3 in (
        ap (λ (h : HubView P). h.limits) same,
        subst (λ (h : HubView P). Each transition old.limits (with_call_at i TurnStarts lives) h.places) (sym same)
            (each-called transition old.limits lives old.places i TurnStarts s.0 s.1 s.2 s.4 each),
      )
  one-call (Turned i) old new lives s each =
      let same = s.3 in (
        ap (λ (h : HubView P). h.limits) same,
        subst (λ (h : HubView P). Each transition old.limits (with_call_at i TurnRuns lives) h.places) (sym same)
            (each-called transition old.limits lives old.places i TurnRuns s.0 s.1 s.2 s.4 each),
      )
  one-call (Removed i ports) old new lives s each =
      let same = s.3 in (
        ap (λ (h : HubView P). h.limits) same,
        subst (λ (h : HubView P). Each transition old.limits (remove lives i) h.places) (sym same)
            (each-removed transition old.limits lives old.places i each),
      )

  all-calls : (calls : List (HubCall P)) (old new : HubView P) (lives : List (Life P)) → HubRuns transition old calls new →
      Each transition old.limits lives old.places → Each transition old.limits (lives_after_all calls lives) new.places
  all-calls [] old new lives run each =
      subst (λ (h : HubView P). Each transition old.limits lives h.places) (sym run) each
  all-calls (call ∷ calls) old new lives run each =
      let first = one-call call old run.0 lives run.1 each in
      let after = lives_after call lives in
      let here = subst (λ (l : Limits). Each transition l after run.0.places) (sym first.0) first.1 in
      subst (λ (l : Limits). Each transition l (lives_after_all calls after) new.places) first.0
      (all-calls calls run.0 new after run.2 here)

  lives-of : (calls : List (HubCall P)) (old new : HubView P) → HubRuns transition old calls new →
      Each transition old.limits (lives_of old calls) new.places
  lives-of calls old new run =
      all-calls calls old new (map (λ place. fresh_life (Stood place)) old.places) run
      (each-standing transition old.limits old.places)

  pub sessions_apart : (calls : List (HubCall P)) (old new : HubView P) → HubRuns transition old calls new →
      AreApart transition old.limits (lives_of old calls) new.places
  sessions_apart calls old new run =
      each-apart transition old.limits (lives_of old calls) new.places (lives-of calls old new run)

  -- a run in two parts
  pub runs_split : (calls more : List (HubCall P)) (old new : HubView P) → HubRuns transition old (calls ++ more) new →
      (mid : HubView P) × HubRuns transition old calls mid × HubRuns transition mid more new
  runs_split [] more old new run = (old, refl, run)
  runs_split (call ∷ calls) more old new run =
      let rest = runs_split calls more run.0 new run.2 in
      (rest.0, (run.0, run.1, rest.1), rest.2)

  pub ports_come_back : (calls : List (HubCall P)) (i : ℕ) (ports : P) (old new : HubView P) →
      HubRuns transition old (calls ++ Removed i ports ∷ []) new →
      (life : Life P) × (session : SessionView) × (slice_get (lives_of old calls) i ≡ Some life)
      × (is_closed session ≡ true) × WentAlone transition old.limits life (session, ports)
  ports_come_back calls i ports old new run =
      let parts = runs_split calls (Removed i ports ∷ []) old new run in
      let removed = parts.2.1 in
      let found = each-found transition old.limits (lives_of old calls) parts.0.places i (removed.0, ports) removed.1
      (lives-of calls old parts.0 parts.1) in
      (found.0, removed.0, found.1, removed.2, found.2)

  -- two headlines, one after another, by the joined traces
  pub headline_then : (a b c : SessionView × P) → EvolveTogether transition HasHeadline a b →
      EvolveTogether transition HasHeadline b c → EvolveTogether transition HasHeadline a c
  headline_then a b c h k =
      carries_weaker transition (Then HasHeadline HasHeadline) HasHeadline a c (λ xs. headlines_join a.0 xs c.0)
      (carries_then transition HasHeadline HasHeadline a b c h k)

  -- a call for a session is a part of a run, by the port calls in it
  own-relays : (call : OwnCall) (a b : SessionView × P) → OwnStep transition call a b → EvolveTogether transition RefinesRun a b
  own-relays TurnStarts a b t = record {
    call = TurnBegins ∷ [];
    session = subst (λ (g : SessionView). RefinesRun a.0 (TurnBegins ∷ []) g) (sym t.0) (turn_begins a.0);
    ports = (b.1, t.1, refl);
  }
  own-relays TurnRuns a b t = carries_weaker transition WholeTurn RefinesRun a b (λ xs o. o.delivered) t.exchange

  relays-then : (a b c : SessionView × P) → EvolveTogether transition RefinesRun a b → EvolveTogether transition RefinesRun b c →
      EvolveTogether transition RefinesRun a c
  relays-then a b c h k =
      carries_weaker transition (Then RefinesRun RefinesRun) RefinesRun a c
      (λ xs r. subst (λ (l : List PortCall). RefinesRun a.0 l c.0) (sym r.3) (relays_append a.0 r.1 r.0 r.2 c.0 r.4 r.5))
      (carries_then transition RefinesRun RefinesRun a b c h k)

  alone-relays : (calls : List OwnCall) (a b : SessionView × P) → CallsAlone transition calls a b → EvolveTogether transition RefinesRun a b
  alone-relays [] a b t =
      subst (λ (x : SessionView × P). EvolveTogether transition RefinesRun a x) (sym t)
      (record { call = []; session = relays_nil a.0; ports = refl })
  alone-relays (call ∷ calls) a b t = relays-then a t.0 b (own-relays call a t.0 t.1) (alone-relays calls t.0 b t.2)

  -- a session within its bounds stays within them, and a turn brings it within them
  own-bounded : (call : OwnCall) (a b : SessionView × P) → OwnStep transition call a b → IsWithinBounds a.0 →
      IsWithinBounds b.0
  own-bounded TurnStarts a b t h = subst IsWithinBounds (sym t.0) h
  own-bounded TurnRuns a b t h = t.exchange.session.bounds

  stays-bounded : (calls : List OwnCall) (a b : SessionView × P) → CallsAlone transition calls a b → IsWithinBounds a.0 →
      IsWithinBounds b.0
  stays-bounded [] a b t h = subst (λ (x : SessionView × P). IsWithinBounds x.0) (sym t) h
  stays-bounded (call ∷ calls) a b t h = stays-bounded calls t.0 b t.2 (own-bounded call a t.0 t.1 h)

  turned-bounded : (calls : List OwnCall) (a b : SessionView × P) → 0 < turns_of calls → CallsAlone transition calls a b →
      IsWithinBounds b.0
  turned-bounded [] a b h t = absurd (omega (arith, h))
  turned-bounded (TurnStarts ∷ calls) a b h t = turned-bounded calls t.0 b h t.2
  turned-bounded (TurnRuns ∷ calls) a b h t = stays-bounded calls t.0 b t.2 t.1.exchange.session.bounds

  -- the calls for a session, if at least one is a turn, have the headline of all port calls in them
  alone-headline : (calls : List OwnCall) (a b : SessionView × P) → 0 < turns_of calls → CallsAlone transition calls a b →
      EvolveTogether transition HasHeadline a b
  alone-headline calls a b h t =
      carries_weaker transition RefinesRun HasHeadline a b
      (λ xs r. (headline_of a.0 xs b.0 (turned-bounded calls a b h t) r.sends, totals_of a.0 xs b.0 r))
      (alone-relays calls a b t)

  pub each_headline : (calls : List (HubCall P)) (old new : HubView P) → HubRuns transition old calls new →
      (i : ℕ) (life : Life P) (now : SessionView × P) → slice_get (lives_of old calls) i ≡ Some life →
      slice_get new.places i ≡ Some now → 0 < turns_of life.calls →
      (first : SessionView × P) × BeginsAs old.limits life.begun first × EvolveTogether transition HasHeadline first now
  each_headline calls old new run i life now e f h =
      let went = (sessions_apart calls old new run).alone i life now e f in
      (went.0, went.1, alone-headline life.calls went.0 now h went.2)

  -- a reachable session stays reachable, with the port calls of the calls for it appended to its history
  stands-alone : (limits : Limits) (ports : P) (a b : SessionView × P) → EvolveTogether transition RefinesRun a b →
      ((history : List PortCall) × RefinesRun (untouched limits) history a.0 × EvolvesBy transition ports history a.1) →
      (history : List PortCall) × RefinesRun (untouched limits) history b.0 × EvolvesBy transition ports history b.1
  stands-alone limits ports a b t h = (
    h.0 ++ t.call,
    relays_append (untouched limits) h.0 a.0 t.call b.0 h.1 t.session,
    transition_then transition h.0 t.call ports a.1 b.1 h.2 t.ports,
  )

  pub opened_stand : (calls : List (HubCall P)) (old new : HubView P) → HubRuns transition old calls new →
      (i : ℕ) (life : Life P) (ports : P) (now : SessionView × P) → slice_get (lives_of old calls) i ≡ Some life →
      slice_get new.places i ≡ Some now → life.begun ≡ Opened ports →
      (history : List PortCall) × RefinesRun (untouched old.limits) history now.0 × EvolvesBy transition ports history now.1
  opened_stand calls old new run i life ports now e f o =
      let went = (sessions_apart calls old new run).alone i life now e f in
      let begun : IsNew old.limits went.0.0 × (went.0.1 ≡ ports) =
      subst (λ (x : Beginning P). BeginsAs old.limits x went.0) o went.1 in
      stands-alone old.limits ports went.0 now (alone-relays life.calls went.0 now went.2) ([], new_stands old.limits went.0.0 begun.0, begun.1)
