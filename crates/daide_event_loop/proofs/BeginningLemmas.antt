-- The turns of a visit: the slab lends the ports of a session, and the system begins each turn.
use Rattle.std.proofs.Common.{◌≡◌, ℕ, zero, suc, ◌+◌, ◌<◌, true, false, List, [], ◌∷◌, ◌++◌}
use Rattle.std.proofs.Common.{Option, Some, None, refl, sym, ap, ◌∙◌, subst, arith, add-one}
use Rattle.std.specs.Prelude.{slice_get, slice_set}
use Rattle.daide_protocol.specs.declared.account.Account.{Account}
use Rattle.daide_io.specs.Ports.{PortCall, TurnBegins}
use Rattle.daide_io.specs.System.{SystemCall, BeginsTurn, TransitsBy}
use Rattle.daide_driver.specs.declared.meter.Meter.{Meter}
use Rattle.daide_driver.specs.declared.place.SlabPlace.{SlabPlace}
use Rattle.daide_driver.specs.declared.place.SlabPlace.TheVariants.{Free, Kept, Held}
use Rattle.daide_driver.specs.Slab.{SlabView, SlotView, IsSlotTurned, IsAt, is_so, is_at, is_held, IfHeldAt, with_ports_at_place, with_ports_in, ChangesAt}
use Rattle.daide_event_loop.specs.Serving.{OpensTurn, TakesTurn, TakesTurns, TurnsInRow, has_moved_in, quantum}
use Rattle.daide_event_loop.proofs.TransitLemmas.{transits_then}

-- ---- a place of a slab

pub get_set : {X : Type 0} (xs : List X) (i : ℕ) (x y : X) → slice_get xs i ≡ Some y → slice_get (slice_set xs i x) i ≡ Some x
get_set [] zero x y e = absurd (cc)
get_set [] (suc i) x y e = absurd (cc)
get_set (one ∷ xs) zero x y e = refl
get_set (one ∷ xs) (suc i) x y e = get_set xs i x y e

module _ {P : Type 0} where
  -- there is a session at a place
  pub held_in : (at : Option (SlabPlace (SlotView P))) → is_so is_held at ≡ true → (now : SlotView P) × (at ≡ Some (Held now))
  held_in None e = absurd (cc)
  held_in (Some Free) e = absurd (cc)
  held_in (Some Kept) e = absurd (cc)
  held_in (Some (Held now)) e = (now, refl)

  -- after a call on a session it is still there
  pub changed_there : (Kind : SlotView P → SlotView P → Type 0) (old : SlabView P) (place : ℕ) (new : SlabView P) →
      (h : ChangesAt Kind old place new) → IsAt new place (Held h.1)
  changed_there Kind old place new h =
      ap (λ (slab : SlabView P). slice_get slab.places place) h.3
      ∙ get_set old.places place (Held h.1) (Held h.0) h.2

  pub held_then : (Kind : SlotView P → SlotView P → Type 0) (old : SlabView P) (place : ℕ) (new : SlabView P) →
      ChangesAt Kind old place new → is_at is_held new.places place ≡ true
  held_then Kind old place new h = ap (is_so is_held) (changed_there Kind old place new h)

module _ {P : Type 0} (port_transition : P → PortCall → P → Type 0) where
  -- when its turn begins, the place has the ports that the loan left, and the session and its meter are unchanged
  pub lent : (slab : SlabView P) (place : ℕ) (account : Account) (old new : P) → is_at is_held slab.places place ≡ true →
      IfHeldAt slab.places place (λ now. account ≡ now.session.account) → IfHeldAt slab.places place (λ now. old ≡ now.ports) →
      port_transition old TurnBegins new →
      ChangesAt (OpensTurn port_transition place (BeginsTurn place account old new ∷ [])) slab place (with_ports_at_place slab place new)
  lent slab place account old new held counted value begins =
      let found = held_in (slice_get slab.places place) held in
      let now = found.0 in
      let same : old ≡ now.ports = value now found.1 in (
        now,
        record now { ports = new },
        found.1,
        ap (λ (o : Option (SlabPlace (SlotView P))). with_ports_in slab place o new) found.1,
        (
          record {
            session = refl;
            ports = subst (λ (ports : P). port_transition ports TurnBegins new) same begins;
            meter = refl;
          },
          λ i. BeginsTurn place (counted now found.1 i) (same i) new ∷ [],
        ),
      )

  -- so the turn finds its session
  pub lent_there : (slab : SlabView P) (place : ℕ) (account : Account) (old new : P) → is_at is_held slab.places place ≡ true →
      IfHeldAt slab.places place (λ now. account ≡ now.session.account) → IfHeldAt slab.places place (λ now. old ≡ now.ports) →
      port_transition old TurnBegins new → is_at is_held (with_ports_at_place slab place new).places place ≡ true
  lent_there slab place account old new held counted value begins =
      held_then (OpensTurn port_transition place (BeginsTurn place account old new ∷ [])) slab place (with_ports_at_place slab place new)
      (lent slab place account old new held counted value begins)

  -- and so does whatever comes after it
  pub turned_there : (old : SlabView P) (place : ℕ) (trace : List (SystemCall P))
      (new : SlabView P) → TakesTurn port_transition old place trace new →
      is_at is_held new.places place ≡ true
  turned_there old place trace new h = held_then (IsSlotTurned port_transition) h.begun place new h.runs

  -- after one turn or more
  pub turns_there : (n : ℕ) (old : SlabView P) (place : ℕ) (trace : List (SystemCall P))
      (new : SlabView P) → 0 < n → TurnsInRow port_transition n old place trace new →
      is_at is_held new.places place ≡ true
  turns_there zero old place trace new some h = absurd (omega (arith, some))
  turns_there (suc n) old place trace new some h = turned_there h.0 place h.2 new h.6

  -- whether the session at a place moved is what its meter says
  pub moved_there : (slab : SlabView P) (place : ℕ) (meter : Meter) → is_at is_held slab.places place ≡ true →
      IfHeldAt slab.places place (λ now. meter ≡ now.meter) → has_moved_in (slice_get slab.places place) ≡ meter.moved.made_progress
  moved_there slab place meter held value =
      let found = held_in (slice_get slab.places place) held in
      ap has_moved_in found.1 ∙ ap (λ (m : Meter). m.moved.made_progress) (sym (value found.0 found.1))

  module _ {S : Type 0} (transition : S → SystemCall P → S → Type 0) where
    -- the turns of a visit so far, the last of which made progress
    pub record Taken (first : S) (old : SlabView P) (place n : ℕ) (slab : SlabView P)
        (system : S) : Type 0 where
      pub trace : List (SystemCall P)
      pub transits : TransitsBy transition first trace system
      pub turns : TurnsInRow port_transition n old place trace slab
      pub moved : 0 < n → has_moved_in (slice_get slab.places place) ≡ true
      pub held : is_at is_held slab.places place ≡ true

    pub none_taken : (s : S) (old : SlabView P) (place : ℕ) →
        is_at is_held old.places place ≡ true → Taken s old place 0 old s
    none_taken s old place held = record {
      trace = [];
      transits = refl;
      turns = (refl, refl);
      moved = λ none. absurd (omega (arith, none));
      held = held;
    }

    -- one turn more
    module _ (s t u : S) (old mid new : SlabView P) (place n : ℕ) (h : Taken s old place n mid t)
        (trace : List (SystemCall P)) (goes : TransitsBy transition t trace u)
        (takes : TakesTurn port_transition mid place trace new) where
      one_more_turn : TurnsInRow port_transition (n + 1) old place (h.trace ++ trace) new
      one_more_turn = rw add-one (mid, h.trace, trace, refl, h.turns, h.moved, takes)

      pub another_turn : has_moved_in (slice_get new.places place) ≡ true → Taken s old place (n + 1) new u
      another_turn moved = record {
        trace = h.trace ++ trace;
        transits = transits_then transition h.trace trace s t u h.transits goes;
        turns = one_more_turn;
        moved = λ some. moved;
        held = turned_there mid place trace new takes;
      }

      -- by which these are all turns, since it made no progress
      pub last_turn : n < quantum → has_moved_in (slice_get new.places place) ≡ false →
          (all : List (SystemCall P)) × TransitsBy transition s all u
          × TakesTurns port_transition old place (n + 1) all new
      last_turn few still = (
        h.trace ++ trace,
        transits_then transition h.trace trace s t u h.transits goes,
        record {
          made = one_more_turn;
          some = omega arith;
          few = omega (arith, few);
          all = λ fewer. still;
        },
      )

    -- the session had its quantum
    pub all_taken : (s t : S) (old new : SlabView P) (place n : ℕ) → Taken s old place n new t → n ≡ quantum →
        (all : List (SystemCall P)) × TransitsBy transition s all t × TakesTurns port_transition old place quantum all new
    all_taken s t old new place n h full = (
      h.trace,
      h.transits,
      record {
        made = subst (λ (k : ℕ). TurnsInRow port_transition k old place h.trace new) full h.turns;
        some = omega arith;
        few = omega arith;
        all = λ fewer. absurd (omega (arith, fewer));
      },
    )
