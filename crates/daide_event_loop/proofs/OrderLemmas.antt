-- The operator's orders, round by round.
use Rattle.std.proofs.Common.{◌≡◌, ℕ, ◌+◌, ◌<◌, ◌≤◌, Bool, true, false, List, [], ◌∷◌, ◌++◌, Option, Some, None, inl, inr}
use Rattle.std.proofs.Common.{refl, sym, ap, ◌∙◌, subst, arith}
use Rattle.std.specs.Prelude.{◌==◌, ◌&&◌, if◌then◌else◌, slice_get}
use Rattle.std.specs.List.{list_all}
use Rattle.std.proofs.lemmas.Bool.{eqb-false}
use Rattle.daide_frame.proofs.ListLemmas.{eqb_same}
use Rattle.daide_protocol.specs.Wires.{is_closed}
use Rattle.daide_settings.specs.declared.settings.Settings.{Settings}
use Rattle.daide_io.specs.Ports.{PortCall}
use Rattle.daide_io.specs.declared.system.Connect.{Connect}
use Rattle.daide_io.specs.declared.system.Connect.TheVariants.{Ready, Failed, Pending}
use Rattle.daide_io.specs.declared.system.Orders.{Orders}
use Rattle.daide_io.specs.System.{SystemCall, Accepts}
use Rattle.daide_driver.specs.declared.place.SlabPlace.{SlabPlace}
use Rattle.daide_driver.specs.declared.place.SlabPlace.TheVariants.{Free, Kept, Held}
use Rattle.daide_driver.specs.Slab.{is_free_place, SlotView}
use Rattle.daide_event_loop.specs.declared.admission_counters.AdmissionCounters.{AdmissionCounters}
use Rattle.daide_event_loop.specs.Serving.{ServiceView, initial_service, closed, heeding, opening, polled, shows_where, have_all_come}
use Rattle.daide_settings.specs.BotsInAll.{bots_in_all}
use Rattle.daide_event_loop.specs.Serving.{LeavesVisit, TurnsAndLeaves, JoinsBy, VisitsBy, Visits, queued_again, accepted_at, Admits, Round}
use Rattle.daide_event_loop.specs.Served.{sum_over_calls, accept_calls, show_calls, orders_with, stop_orders, show_orders, HeedsStops, HeedsOrders}
use Rattle.daide_event_loop.proofs.CountLemmas.{counted_append, parts_count, none_shown, IsOfOpening, visits_none}

-- ---- counts of the calls that a round makes beside its visits

module _ {P : Type 0} where
  pub accepts_early : IsOfOpening {P = P} accept_calls
  accepts_early = record {
    connects = λ place connect. refl;
    turns = λ place account before after. refl;
    rests = λ place ports rests. refl;
    retires = λ place ports end. refl;
    notifies = λ notice. refl;
  }

  shows_early : IsOfOpening {P = P} show_calls
  shows_early = record {
    connects = λ place connect. refl;
    turns = λ place account before after. refl;
    rests = λ place ports rests. refl;
    retires = λ place ports end. refl;
    notifies = λ notice. refl;
  }

  orders_early : (Has : Orders → Bool) → IsOfOpening {P = P} (orders_with Has)
  orders_early Has = record {
    connects = λ place connect. refl;
    turns = λ place account before after. refl;
    rests = λ place ports rests. refl;
    retires = λ place ports end. refl;
    notifies = λ notice. refl;
  }

  -- what a round counts, it counts when it begins and when it accepts a bot
  pub counted_early : (count : SystemCall P → ℕ) → IsOfOpening count → (port_transition : P → PortCall → P → Type 0)
      (ys : List (SystemCall P)) (old new : ServiceView P) → (r : Round port_transition old ys new) →
      sum_over_calls count ys ≡ sum_over_calls count (opening r.woken r.orders old) + sum_over_calls count r.admission
  counted_early count early port_transition ys old new r =
      let opens = opening r.woken r.orders old in
      let all = parts_count count ys (opens ++ r.visiting) r.admission r.asked in
      let one = counted_append count opens r.visiting in
      let none = visits_none port_transition count early r.visits.visited r.visits.turns (polled r.woken r.orders old) r.visiting r.mid
      r.visits.takes in
      omega (arith, all, one, none)

  -- ---- after a stop

  -- no order, so nothing to heed
  none_to_heed : (trace : List (SystemCall P)) → stop_orders trace ≡ 0 → HeedsStops trace
  none_to_heed [] none = tt
  none_to_heed (call ∷ trace) none =
      (λ some. absurd (omega (arith, none, some)), none_to_heed trace (omega (arith, none)))

  -- a longer trace, in whose second part accept is not called if the first part has an order to stop
  heeds_then : (xs ys : List (SystemCall P)) → HeedsStops xs → HeedsStops ys →
      (0 < stop_orders xs → sum_over_calls accept_calls ys ≡ 0) → HeedsStops (xs ++ ys)
  heeds_then [] ys h k none = k
  heeds_then (x ∷ xs) ys h k none = (
    λ some. (let before = h.0 some in
        let after = none (omega (arith, some)) in
        let both = counted_append accept_calls xs ys in
        omega (arith, before, after, both)),
    heeds_then xs ys h.1 k (λ some. none (omega (arith, some))),
  )

  -- an admission gives no order, and shows nothing
  pub admission_none : (count : SystemCall P → ℕ) → ((place : ℕ) (came : Bool) → count (Accepts place came) ≡ 0) →
      (old : ServiceView P) (trace : List (SystemCall P)) (new : ServiceView P) → Admits old trace new →
      sum_over_calls count trace ≡ 0
  admission_none count none old trace new (inl asks) =
      let all = ap (sum_over_calls count) asks.asked in
      let own = none asks.place asks.came in
      omega (arith, all, own)
  admission_none count none old trace new (inr rests) = ap (sum_over_calls count) rests.1

  -- if all bots came, accept is not called
  admission_over : (old : ServiceView P) (trace : List (SystemCall P)) (new : ServiceView P) → Admits old trace new →
      old.counters.sessions ≡ old.counters.accepted → (sum_over_calls accept_calls trace ≡ 0) × (new ≡ old)
  admission_over old trace new (inl asks) all =
      absurd (eqb-false old.counters.accepted old.counters.sessions asks.due (sym all))
  admission_over old trace new (inr rests) all = (ap (sum_over_calls accept_calls) rests.1, rests.2)

  -- the limit of bots in all is the one after the orders, and is not exceeded
  admission_limit : (old : ServiceView P) (trace : List (SystemCall P)) (new : ServiceView P) → Admits old trace new →
      old.counters.accepted ≤ old.counters.sessions →
      (new.counters.sessions ≡ old.counters.sessions) × (new.counters.accepted ≤ new.counters.sessions)
  admission_limit old trace new (inl asks) within =
      subst (λ (s : ServiceView P). (s.counters.sessions ≡ old.counters.sessions) × (s.counters.accepted ≤ s.counters.sessions))
      (sym asks.then_kept) (by asks.came)
    where
      by : (came : Bool) →
          ((if came then accepted_at old asks.place else old).counters.sessions ≡ old.counters.sessions)
          × ((if came then accepted_at old asks.place else old).counters.accepted
          ≤ (if came then accepted_at old asks.place else old).counters.sessions)
      by true = let apart = eqb-false old.counters.accepted old.counters.sessions asks.due in (refl, omega (arith, within, apart))
      by false = (refl, within)
  admission_limit old trace new (inr rests) within =
      subst (λ (s : ServiceView P). (s.counters.sessions ≡ old.counters.sessions) × (s.counters.accepted ≤ s.counters.sessions))
      (sym rests.2) (refl, within)

-- visits change no counter
module _ {P : Type 0} (port_transition : P → PortCall → P → Type 0) where
  leave_counters : (closed : Bool) (now : SlotView P) (old : ServiceView P) (place : ℕ)
      (trace : List (SystemCall P)) (new : ServiceView P) → LeavesVisit closed now old place trace new → new.counters ≡ old.counters
  leave_counters true now old place trace new h = ap (λ (s : ServiceView P). s.counters) h.1
  leave_counters false now old place trace new h = ap (λ (s : ServiceView P). s.counters) h.2 ∙ by h.0
    where
      by : (rests : Bool) → (if rests then old else queued_again old place).counters ≡ old.counters
      by true = refl
      by false = refl

  turned_counters : (old : ServiceView P) (place turns : ℕ) (trace : List (SystemCall P)) (new : ServiceView P) →
      TurnsAndLeaves port_transition old place turns trace new → new.counters ≡ old.counters
  turned_counters old place turns trace new h =
      leave_counters (is_closed h.now.session) h.now (record old { slab = h.turned }) place h.leaving new h.leaves

  pub visit_counters : (at : Option (SlabPlace (SlotView P))) (old : ServiceView P) (place turns : ℕ)
      (trace : List (SystemCall P)) (new : ServiceView P) → VisitsBy port_transition at old place turns trace new →
      new.counters ≡ old.counters
  visit_counters None old place turns trace new h = ap (λ (s : ServiceView P). s.counters) h.2
  visit_counters (Some Free) old place turns trace new h = ap (λ (s : ServiceView P). s.counters) h.2
  visit_counters (Some Kept) old place turns trace new h = by h.0 h.1 h.3
    where
      by : (connect : Connect P) (joining : List (SystemCall P)) → JoinsBy port_transition connect old place turns joining new →
          new.counters ≡ old.counters
      by (Ready ports) joining m = turned_counters (record old { slab = m.0 }) place turns joining new m.2
      by Failed joining m = ap (λ (s : ServiceView P). s.counters) m.2
      by Pending joining m = ap (λ (s : ServiceView P). s.counters) m.2
  visit_counters (Some (Held now)) old place turns trace new h = turned_counters old place turns trace new h

  pub visits_counters : (visited : List ℕ) (turns : ℕ) (old : ServiceView P) (trace : List (SystemCall P)) (new : ServiceView P) →
      Visits port_transition visited turns old trace new → new.counters ≡ old.counters
  visits_counters [] turns old trace new h = ap (λ (s : ServiceView P). s.counters) h.2
  visits_counters (place ∷ earlier) turns old trace new h =
      visit_counters (slice_get h.0.slab.places place) (record h.0 { ready = h.8.ready }) place h.2 h.4 new h.8.visits
      ∙ visits_counters earlier h.1 old h.3 h.0 h.7

-- ---- the limit of bots in all, under the orders so far

-- The limit is that of the settings, or, after an order to stop, the number of bots accepted. No order is ignored.
pub record Limited {P : Type 0} (settings : Settings) (trace : List (SystemCall P)) (counters : AdmissionCounters) :
    Type 0 where
  pub stops : HeedsStops trace
  pub goes_on : stop_orders trace ≡ 0 → counters.sessions ≡ bots_in_all settings
  pub over : 0 < stop_orders trace → counters.sessions ≡ counters.accepted
  pub at_most : counters.sessions ≤ bots_in_all settings
  pub accepted : counters.accepted ≤ counters.sessions
  pub shows : show_orders trace ≡ 0 → sum_over_calls show_calls trace ≡ 0

pub first_limit : {P : Type 0} (settings : Settings) →
    Limited {P = P} settings [] (initial_service {P = P} settings).counters
first_limit settings = record {
  stops = tt;
  goes_on = λ none. refl;
  over = λ some. absurd (omega (arith, some));
  at_most = omega (arith);
  accepted = omega (arith);
  shows = λ none. refl;
}

-- what an order to stop leaves of the counters
record Heeds (stops : Bool) (old new : AdmissionCounters) : Type 0 where
  kept : stops ≡ false → new ≡ old
  over : stops ≡ true → new.sessions ≡ new.accepted
  still_over : old.sessions ≡ old.accepted → new.sessions ≡ new.accepted
  accepted : new.accepted ≡ old.accepted
  at_most : new.sessions ≤ old.sessions
  within : new.accepted ≤ new.sessions

heeds : (stops : Bool) (old : AdmissionCounters) → old.accepted ≤ old.sessions →
    Heeds stops old (if stops then closed old else old)
heeds true old within = record {
  kept = λ e. absurd (cc);
  over = λ e. refl;
  still_over = λ e. refl;
  accepted = refl;
  at_most = within;
  within = omega arith;
}
heeds false old within = record {
  kept = λ e. refl;
  over = λ e. absurd (cc);
  still_over = λ e. e;
  accepted = refl;
  at_most = omega (arith);
  within = within;
}

abbrev count_if : Bool → ℕ
count_if b = if b then 1 else 0

one_if : (b : Bool) → 0 < count_if b → b ≡ true
one_if true some = refl
one_if false some = absurd (omega (arith, some))

none_if : (b : Bool) → count_if b ≡ 0 → b ≡ false
none_if false none = refl
none_if true none = absurd (omega (arith, none))

module _ {P : Type 0} (port_transition : P → PortCall → P → Type 0) (settings : Settings) where
  -- what a round does with its orders
  record Obeys (ys : List (SystemCall P)) (old new : AdmissionCounters) (orders : Orders) : Type 0 where
    stops : stop_orders ys ≡ count_if orders.stops_accepting
    shows : show_orders ys ≡ 0 → sum_over_calls show_calls ys ≡ 0
    heeds : HeedsStops ys
    none : (heeding orders old).sessions ≡ (heeding orders old).accepted →
        (sum_over_calls accept_calls ys ≡ 0) × (new.sessions ≡ new.accepted)
    limit : new.sessions ≡ (heeding orders old).sessions
    within : new.accepted ≤ new.sessions

  obeys : (ys : List (SystemCall P)) (old new : ServiceView P) → old.counters.accepted ≤ old.counters.sessions →
      (r : Round port_transition old ys new) → Obeys ys old.counters new.counters r.orders
  obeys ys old new within r = record {
    stops = stops;
    shows = shows;
    heeds = subst HeedsStops (sym r.asked) (heeded, none_to_heed rest no_more);
    none = none;
    limit = admits.0 ∙ ap (λ (c : AdmissionCounters). c.sessions) same;
    within = admits.1;
  }
    where
      under : AdmissionCounters
      under = heeding r.orders old.counters

      opens : List (SystemCall P)
      opens = opening r.woken r.orders old

      rest : List (SystemCall P)
      rest = shows_where r.orders.shows_sessions old.slab.places ++ r.visiting ++ r.admission

      same : r.mid.counters ≡ under
      same = visits_counters port_transition r.visits.visited r.visits.turns (polled r.woken r.orders old) r.visiting r.mid r.visits.takes

      fits : r.mid.counters.accepted ≤ r.mid.counters.sessions
      fits = subst (λ (c : AdmissionCounters). c.accepted ≤ c.sessions) (sym same)
          (heeds r.orders.stops_accepting old.counters within).within

      admits : (new.counters.sessions ≡ r.mid.counters.sessions) × (new.counters.accepted ≤ new.counters.sessions)
      admits = admission_limit r.mid r.admission new r.admits fits

      ordered : (Has : Orders → Bool) → sum_over_calls (orders_with Has) ys ≡ count_if (Has r.orders)
      ordered Has =
          let all = counted_early (orders_with Has) (orders_early Has) port_transition ys old new r in
          let shown = none_shown (orders_with Has) r.orders.shows_sessions old.slab.places (λ ports status. refl) in
          let admitted = admission_none (orders_with Has) (λ place came. refl) r.mid r.admission new r.admits in
          omega (arith, all, shown, admitted)

      stops : stop_orders ys ≡ count_if r.orders.stops_accepting
      stops = ordered (λ orders. orders.stops_accepting)

      shows : show_orders ys ≡ 0 → sum_over_calls show_calls ys ≡ 0
      shows none =
          let all = counted_early show_calls shows_early port_transition ys old new r in
          let not_shown = none_if r.orders.shows_sessions (sym (ordered (λ orders. orders.shows_sessions)) ∙ none) in
          let shown : sum_over_calls show_calls (shows_where r.orders.shows_sessions old.slab.places) ≡ 0 =
          ap (λ (b : Bool). sum_over_calls show_calls (shows_where b old.slab.places)) not_shown in
          let admitted = admission_none show_calls (λ place came. refl) r.mid r.admission new r.admits in
          omega (arith, all, shown, admitted)

      calls : sum_over_calls accept_calls ys ≡ sum_over_calls accept_calls r.admission
      calls =
          let all = counted_early accept_calls accepts_early port_transition ys old new r in
          let shown = none_shown accept_calls r.orders.shows_sessions old.slab.places (λ ports status. refl) in
          omega (arith, all, shown)

      none : under.sessions ≡ under.accepted → (sum_over_calls accept_calls ys ≡ 0) × (new.counters.sessions ≡ new.counters.accepted)
      none over =
          let all : r.mid.counters.sessions ≡ r.mid.counters.accepted =
          subst (λ (c : AdmissionCounters). c.sessions ≡ c.accepted) (sym same) over in
          let admitted = admission_over r.mid r.admission new r.admits all in (
            calls ∙ admitted.0,
            subst (λ (s : ServiceView P). s.counters.sessions ≡ s.counters.accepted) (sym admitted.1) all,
          )

      no_more : stop_orders rest ≡ 0
      no_more =
          let all = sym (ap stop_orders r.asked) ∙ stops in
          omega (arith, all)

      heeded : 0 < count_if r.orders.stops_accepting → sum_over_calls accept_calls rest ≡ 0
      heeded some =
          let all = sym (ap (sum_over_calls accept_calls) r.asked) ∙ (none ((heeds r.orders.stops_accepting old.counters within).over
          (one_if r.orders.stops_accepting some))).0 in
          omega (arith, all)

  -- one round more
  pub limit_then : (xs ys : List (SystemCall P)) (old new : ServiceView P) → Limited settings xs old.counters →
      Round port_transition old ys new → Limited settings (xs ++ ys) new.counters
  limit_then xs ys old new h r = record {
    stops = heeds_then xs ys h.stops own.heeds (λ some. (own.none (under.still_over (h.over some))).0);
    goes_on = λ none. (
        let before : stop_orders xs ≡ 0 = omega (arith, none, stops) in
        let now : count_if r.orders.stops_accepting ≡ 0 = omega (arith, none, stops, ordered) in
        own.limit ∙ ap (λ (c : AdmissionCounters). c.sessions) (under.kept (none_if r.orders.stops_accepting now))
        ∙ h.goes_on before);
    over = λ some. (own.none (over some)).1;
    at_most =
        let limit = own.limit in
        let less = under.at_most in
        let most = h.at_most in
        omega (arith, limit, less, most);
    accepted = own.within;
    shows = λ none. (
        let both = counted_append (orders_with (λ orders. orders.shows_sessions)) xs ys in
        let shown = counted_append show_calls xs ys in
        let first = h.shows (omega (arith, none, both)) in
        let second = own.shows (omega (arith, none, both)) in
        omega (arith, shown, first, second));
  }
    where
      own : Obeys ys old.counters new.counters r.orders
      own = obeys ys old new h.accepted r

      under : Heeds r.orders.stops_accepting old.counters (heeding r.orders old.counters)
      under = heeds r.orders.stops_accepting old.counters h.accepted

      stops : stop_orders (xs ++ ys) ≡ stop_orders xs + stop_orders ys
      stops = counted_append (orders_with (λ orders. orders.stops_accepting)) xs ys

      ordered : stop_orders ys ≡ count_if r.orders.stops_accepting
      ordered = own.stops

      over : 0 < stop_orders (xs ++ ys) → (heeding r.orders old.counters).sessions ≡ (heeding r.orders old.counters).accepted
      over some = by r.orders.stops_accepting refl
        where
          by : (b : Bool) → r.orders.stops_accepting ≡ b →
              (heeding r.orders old.counters).sessions ≡ (heeding r.orders old.counters).accepted
          by true e = under.over e
          by false e =
              let none : stop_orders ys ≡ 0 = ordered ∙ ap count_if e in
              under.still_over (h.over (omega (arith, some, stops, none)))

  -- the law, from the limit
  pub orders_heeded : (trace : List (SystemCall P)) (run : ServiceView P) → Limited settings trace run.counters →
      HeedsOrders settings trace run
  orders_heeded trace run h = record {
    stops = h.stops;
    ends = λ some. (
        let all : have_all_come run.counters ≡ true =
        ap (λ (n : ℕ). run.counters.accepted == n) (h.over some) ∙ eqb_same run.counters.accepted in
        ap (λ (b : Bool). b && list_all is_free_place run.slab.places) all);
    goes_on = h.goes_on;
    shows = h.shows;
  }
