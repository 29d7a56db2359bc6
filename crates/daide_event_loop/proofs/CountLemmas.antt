-- The bots accepted, the connects pending, the sessions, and the fate of the others: what each step adds to them.
use Rattle.std.proofs.Common.{◌≡◌, ℕ, zero, suc, ◌+◌, Bool, true, false, cond, List, [], ◌∷◌, ◌++◌, Option, Some, None, refl, sym, ap, ◌∙◌}
use Rattle.std.proofs.Common.{subst, arith, inl, inr}
use Rattle.std.specs.Prelude.{count_by, slice_get, slice_set, if◌then◌else◌}
use Rattle.std.proofs.lemmas.List.Sums.{sum_by-cons}
use Rattle.daide_protocol.specs.declared.account.Account.{Account}
use Rattle.daide_protocol.specs.Wires.{is_closed}
use Rattle.daide_io.specs.Ports.{PortCall}
use Rattle.daide_io.specs.declared.system.Connect.{Connect}
use Rattle.daide_io.specs.declared.system.Connect.TheVariants.{Ready, Failed, Pending}
use Rattle.daide_io.specs.declared.system.Notice.{Notice}
use Rattle.daide_io.specs.declared.system.Notice.TheVariants.{TurnsSpent}
use Rattle.daide_io.specs.declared.system.Orders.{Orders}
use Rattle.daide_io.specs.declared.system.SessionEnd.{SessionEnd}
use Rattle.daide_io.specs.declared.system.SessionStatus.{SessionStatus}
use Rattle.daide_io.specs.System.{SystemCall, Shows, Accepts, Connects, BeginsTurn, Rests, Retires, Notifies, status_of}
use Rattle.daide_driver.specs.declared.place.SlabPlace.{SlabPlace}
use Rattle.daide_driver.specs.declared.place.SlabPlace.TheVariants.{Free, Kept, Held}
use Rattle.daide_driver.specs.Slab.{SlabView, IsAt, is_held, is_kept, ChangesAt, SlotView, new_slot, IsSlotTurned}
use Rattle.daide_event_loop.specs.Serving.{ServiceView, sessions_in, pending_in, shows_where, opening, polled, closed}
use Rattle.daide_event_loop.specs.Serving.{OpensTurn, TurnsInRow, LeavesVisit, TurnsAndLeaves, JoinsBy, VisitsBy, Visits}
use Rattle.daide_event_loop.specs.Serving.{RestsBy, queued_again, spent_notice, retirement, end_of, Admits, accepted_at}
use Rattle.daide_driver.specs.declared.meter.Meter.{Meter}
use Rattle.daide_driver.specs.Meter.{has_spent_turns}
use Rattle.daide_event_loop.specs.Served.{comes, connects, retires, unreached, sum_over_calls}

-- ---- counts of places

pub set_count : {X : Type 0} (p : X → Bool) (xs : List X) (i : ℕ) (x y : X) → slice_get xs i ≡ Some x →
    count_by p (slice_set xs i y) + cond (p x) 1 0 ≡ count_by p xs + cond (p y) 1 0
set_count p [] zero x y e = absurd (cc)
set_count p [] (suc i) x y e = absurd (cc)
set_count {X} p (one ∷ xs) zero x y e =
    let same : cond (p one) 1 0 ≡ cond (p x) 1 0 = ap first e in
    let before = sum_by-cons (λ (z : X). cond (p z) 1 0) one xs in
    let after = sum_by-cons (λ (z : X). cond (p z) 1 0) y xs in
    omega (arith, same, before, after)
  where
    first : Option X → ℕ
    first None = 0
    first (Some z) = cond (p z) 1 0
set_count {X} p (one ∷ xs) (suc i) x y e =
    let rest = set_count p xs i x y e in
    let before = sum_by-cons (λ (z : X). cond (p z) 1 0) one xs in
    let after = sum_by-cons (λ (z : X). cond (p z) 1 0) one (slice_set xs i y) in
    omega (arith, rest, before, after)

-- the first of a list counts or not
pub count_first : {X : Type 0} (p : X → Bool) (x : X) (xs : List X) → count_by p (x ∷ xs) ≡ cond (p x) 1 0 + count_by p xs
count_first {X} p x xs = sum_by-cons (λ (z : X). cond (p z) 1 0) x xs

-- ---- sums over calls

module _ {P : Type 0} where
  pub counted_append : (count : SystemCall P → ℕ) (xs ys : List (SystemCall P)) →
      sum_over_calls count (xs ++ ys) ≡ sum_over_calls count xs + sum_over_calls count ys
  counted_append count [] ys = omega arith
  counted_append count (x ∷ xs) ys =
      let rest = counted_append count xs ys in
      omega (arith, rest)

  -- what an equal trace and its two parts add
  pub parts_count : (count : SystemCall P → ℕ) (all xs ys : List (SystemCall P)) → all ≡ xs ++ ys →
      sum_over_calls count all ≡ sum_over_calls count xs + sum_over_calls count ys
  parts_count count all xs ys e = ap (sum_over_calls count) e ∙ counted_append count xs ys

  -- sessions that are shown add nothing to any count but that of shown ones
  pub none_shown : (count : SystemCall P → ℕ) (shown : Bool) (places : List (SlabPlace (SlotView P))) →
      ((ports : P) (status : SessionStatus) → count (Shows ports status) ≡ 0) →
      sum_over_calls count (shows_where shown places) ≡ 0
  none_shown count false places silent = refl
  none_shown count true [] silent = refl
  none_shown count true (Free ∷ places) silent = none_shown count true places silent
  none_shown count true (Kept ∷ places) silent = none_shown count true places silent
  none_shown count true (Held now ∷ places) silent =
      let one = silent now.ports (status_of now.session now.meter.moved.bytes) in
      let rest = none_shown count true places silent in
      omega (arith, one, rest)

  -- this counts nothing in a visit
  pub record IsOfOpening (count : SystemCall P → ℕ) : Type 0 where
    pub connects : (place : ℕ) (connect : Connect P) → count (Connects place connect) ≡ 0
    pub turns : (place : ℕ) (account : Account) (before after : P) → count (BeginsTurn place account before after) ≡ 0
    pub rests : (place : ℕ) (ports : P) (rests : Bool) → count (Rests place ports rests) ≡ 0
    pub retires : (place : ℕ) (ports : P) (end : SessionEnd) → count (Retires place ports end) ≡ 0
    pub notifies : (notice : Notice) → count (Notifies notice) ≡ 0

module _ {P : Type 0} (port_transition : P → PortCall → P → Type 0) (count : SystemCall P → ℕ) where
  -- the calls that begin turns add nothing, if one adds nothing
  pub turns_none : ((place : ℕ) (account : Account) (before after : P) → count (BeginsTurn place account before after) ≡ 0) → (n : ℕ)
      (old : SlabView P) (place : ℕ) (trace : List (SystemCall P)) (new : SlabView P) →
      TurnsInRow port_transition n old place trace new → sum_over_calls count trace ≡ 0
  turns_none none zero old place trace new h = ap (sum_over_calls count) h.0
  turns_none none (suc n) old place trace new h =
      let all = parts_count count trace h.1 h.2 h.3 in
      let before = turns_none none n old place h.1 h.0 h.4 in
      let begins = h.6.begins in
      let last : sum_over_calls count h.2 ≡ 0 =
      ap (sum_over_calls count) begins.4.1
      ∙ (let one = none place begins.0.session.account begins.0.ports begins.1.ports in omega (arith, one)) in
      omega (arith, all, before, last)

  pub rests_none : ((place : ℕ) (ports : P) (rests : Bool) → count (Rests place ports rests) ≡ 0) → (moved : Bool) (place : ℕ)
      (ports : P) (trace : List (SystemCall P)) (rests : Bool) → RestsBy moved place ports trace rests →
      sum_over_calls count trace ≡ 0
  rests_none none true place ports trace rests h = ap (sum_over_calls count) h.0
  rests_none none false place ports trace rests h =
      let all = ap (sum_over_calls count) h in
      let one = none place ports rests in
      omega (arith, all, one)

  -- a parting adds what its last call adds
  pub retirement_count : ((notice : Notice) → count (Notifies notice) ≡ 0) → (place : ℕ) (ports : P) (meter : Meter) (end : SessionEnd) →
      sum_over_calls count (retirement place ports meter end) ≡ count (Retires place ports end)
  retirement_count none place ports meter end = by (has_spent_turns meter)
    where
      by : (spent : Bool) → sum_over_calls count (spent_notice spent ++ Retires place ports end ∷ []) ≡ count (Retires place ports end)
      by true = let word = none TurnsSpent in omega (arith, word)
      by false = omega arith

  module _ (early : IsOfOpening count) where
    leave_none : (closed : Bool) (now : SlotView P) (old : ServiceView P) (place : ℕ)
        (trace : List (SystemCall P)) (new : ServiceView P) → LeavesVisit closed now old place trace new →
        sum_over_calls count trace ≡ 0
    leave_none true now old place trace new h =
        ap (sum_over_calls count) h.0 ∙ retirement_count early.notifies place now.ports now.meter (end_of now)
        ∙ early.retires place now.ports (end_of now)
    leave_none false now old place trace new h =
        rests_none early.rests now.meter.moved.made_progress place now.ports trace h.0 h.1

    turned_none : (old : ServiceView P) (place turns : ℕ) (trace : List (SystemCall P)) (new : ServiceView P) →
        TurnsAndLeaves port_transition old place turns trace new → sum_over_calls count trace ≡ 0
    turned_none old place turns trace new h =
        let all = parts_count count trace h.turning h.leaving h.asked in
        let begun = turns_none early.turns turns old.slab place h.turning h.turned h.takes.made in
        let left = leave_none (is_closed h.now.session) h.now (record old { slab = h.turned }) place h.leaving new h.leaves in
        omega (arith, all, begun, left)

    visit_none : (at : Option (SlabPlace (SlotView P))) (old : ServiceView P) (place turns : ℕ) (trace : List (SystemCall P))
        (new : ServiceView P) → VisitsBy port_transition at old place turns trace new → sum_over_calls count trace ≡ 0
    visit_none None old place turns trace new h = ap (sum_over_calls count) h.1
    visit_none (Some Free) old place turns trace new h = ap (sum_over_calls count) h.1
    visit_none (Some Kept) old place turns trace new h =
        let all = ap (sum_over_calls count) h.2 in
        let one = early.connects place h.0 in
        let rest = by h.0 h.1 h.3 in
        omega (arith, all, one, rest)
      where
        by : (connect : Connect P) (joining : List (SystemCall P)) → JoinsBy port_transition connect old place turns joining new →
            sum_over_calls count joining ≡ 0
        by (Ready ports) joining m = turned_none (record old { slab = m.0 }) place turns joining new m.2
        by Failed joining m =
            ap (sum_over_calls count) m.1
        by Pending joining m = ap (sum_over_calls count) m.1
    visit_none (Some (Held now)) old place turns trace new h = turned_none old place turns trace new h

    pub visits_none : (visited : List ℕ) (turns : ℕ) (old : ServiceView P) (trace : List (SystemCall P)) (new : ServiceView P) →
        Visits port_transition visited turns old trace new → sum_over_calls count trace ≡ 0
    visits_none [] turns old trace new h = ap (sum_over_calls count) h.1
    visits_none (place ∷ earlier) turns old trace new h =
        let all = parts_count count trace h.3 h.4 h.6 in
        let before = visits_none earlier h.1 old h.3 h.0 h.7 in
        let last = visit_none (slice_get h.0.slab.places place) (record h.0 { ready = h.8.ready }) place h.2 h.4 new h.8.visits in
        omega (arith, all, before, last)

-- ---- the counts of a run

module _ {P : Type 0} where
  -- what a trace adds: bots that were accepted; sessions that began, and those that were retired; connects that are
  -- pending no more
  pub record Counts (trace : List (SystemCall P)) (old new : ServiceView P) : Type 0 where
    pub came : old.counters.accepted + sum_over_calls comes trace ≡ new.counters.accepted
    pub held : sessions_in old.slab + sum_over_calls connects trace ≡ sessions_in new.slab + sum_over_calls retires trace
    pub met : pending_in old.slab + sum_over_calls comes trace
        ≡ pending_in new.slab + sum_over_calls connects trace + sum_over_calls unreached trace

  pub counts_then : (all xs ys : List (SystemCall P)) (a b c : ServiceView P) → all ≡ xs ++ ys → Counts xs a b → Counts ys b c →
      Counts all a c
  counts_then all xs ys a b c e h k =
      let came = parts_count comes all xs ys e in
      let began = parts_count connects all xs ys e in
      let ended = parts_count retires all xs ys e in
      let lost = parts_count unreached all xs ys e in
      let one = h.came in
      let two = k.came in
      let three = h.held in
      let four = k.held in
      let five = h.met in
      let six = k.met in
      record {
        came = omega (arith, came, one, two);
        held = omega (arith, began, ended, three, four);
        met = omega (arith, came, began, lost, five, six);
      }

  -- nothing is counted in these calls, and the counts of the run are the same
  pub same_counts : (trace : List (SystemCall P)) (old new : ServiceView P) → sum_over_calls comes trace ≡ 0 →
      sum_over_calls connects trace ≡ 0 → sum_over_calls retires trace ≡ 0 → sum_over_calls unreached trace ≡ 0 →
      new.counters.accepted ≡ old.counters.accepted → sessions_in new.slab ≡ sessions_in old.slab →
      pending_in new.slab ≡ pending_in old.slab → Counts trace old new
  same_counts trace old new a b c d e f g = record {
    came = omega (arith, a, e);
    held = omega (arith, b, c, f);
    met = omega (arith, a, b, d, g);
  }

  -- ---- a poll

  pub opening_counts : (woken : List ℕ) (orders : Orders) (old : ServiceView P) →
      Counts (opening woken orders old) old (polled woken orders old)
  opening_counts woken orders old =
      let shown = orders.shows_sessions in
      same_counts (opening woken orders old) old (polled woken orders old)
      (let rest = none_shown comes shown old.slab.places (λ ports status. refl) in omega (arith, rest))
      (let rest = none_shown connects shown old.slab.places (λ ports status. refl) in omega (arith, rest))
      (let rest = none_shown retires shown old.slab.places (λ ports status. refl) in omega (arith, rest))
      (let rest = none_shown unreached shown old.slab.places (λ ports status. refl) in omega (arith, rest))
      (by orders.stops_accepting) refl refl
    where
      by : (stops : Bool) → (if stops then closed old.counters else old.counters).accepted ≡ old.counters.accepted
      by true = refl
      by false = refl

  -- ---- a bot is accepted

  pub admission_counts : (old : ServiceView P) (trace : List (SystemCall P)) (new : ServiceView P) → Admits old trace new →
      Counts trace old new
  admission_counts old trace new (inr none) =
      same_counts trace old new (ap (sum_over_calls comes) none.1) (ap (sum_over_calls connects) none.1)
      (ap (sum_over_calls retires) none.1) (ap (sum_over_calls unreached) none.1)
      (ap (λ (s : ServiceView P). s.counters.accepted) none.2) (ap (λ (s : ServiceView P). sessions_in s.slab) none.2)
      (ap (λ (s : ServiceView P). pending_in s.slab) none.2)
  admission_counts old trace new (inl asks) =
      subst (λ (l : List (SystemCall P)). Counts l old new) (sym asks.asked)
      (subst (λ (s : ServiceView P). Counts (Accepts asks.place asks.came ∷ []) old s) (sym asks.then_kept) (by asks.came))
    where
      by : (came : Bool) → Counts (Accepts asks.place came ∷ []) old (if came then accepted_at old asks.place else old)
      by true =
          let sessions = set_count is_held old.slab.places asks.place Free Kept asks.free in
          let pending = set_count is_kept old.slab.places asks.place Free Kept asks.free in
          record {
            came = refl;
            held = omega (arith, sessions);
            met = omega (arith, pending);
          }
      by false = same_counts (Accepts asks.place false ∷ []) old old refl refl refl refl refl refl refl

-- ---- a visit

module _ {P : Type 0} (port_transition : P → PortCall → P → Type 0) where
  -- a call on a session changes no count of places
  changed_counts : (Kind : SlotView P → SlotView P → Type 0)
      (old : SlabView P) (place : ℕ) (new : SlabView P) → ChangesAt Kind old place new →
      (sessions_in new ≡ sessions_in old) × (pending_in new ≡ pending_in old)
  changed_counts Kind old place new h =
      let sessions = set_count is_held old.places place (Held h.0) (Held h.1) h.2 in
      let pending = set_count is_kept old.places place (Held h.0) (Held h.1) h.2 in (
        ap (λ (s : SlabView P). sessions_in s) h.3 ∙ omega (arith, sessions),
        ap (λ (s : SlabView P). pending_in s) h.3 ∙ omega (arith, pending),
      )

  turns_counts : (n : ℕ) (old : SlabView P) (place : ℕ) (trace : List (SystemCall P))
      (new : SlabView P) → TurnsInRow port_transition n old place trace new →
      (sessions_in new ≡ sessions_in old) × (pending_in new ≡ pending_in old)
  turns_counts zero old place trace new h =
      (ap (λ (s : SlabView P). sessions_in s) h.1, ap (λ (s : SlabView P). pending_in s) h.1)
  turns_counts (suc n) old place trace new h =
      let before = turns_counts n old place h.1 h.0 h.4 in
      let begun = changed_counts (OpensTurn port_transition place h.2) h.0 place h.6.begun h.6.begins in
      let run = changed_counts (IsSlotTurned port_transition) h.6.begun place new h.6.runs in
      (run.0 ∙ begun.0 ∙ before.0, run.1 ∙ begun.1 ∙ before.1)

  leave_counts : (closed : Bool) (now : SlotView P) (old : ServiceView P) (place : ℕ)
      (trace : List (SystemCall P)) (new : ServiceView P) → IsAt old.slab place (Held now) →
      LeavesVisit closed now old place trace new → Counts trace old new
  leave_counts true now old place trace new at h =
      let end = end_of now in
      let sessions = set_count is_held old.slab.places place (Held now) Free at in
      let pending = set_count is_kept old.slab.places place (Held now) Free at in
      let a = retirement_count port_transition comes (λ notice. refl) place now.ports now.meter end in
      let b = retirement_count port_transition connects (λ notice. refl) place now.ports now.meter end in
      let c = retirement_count port_transition retires (λ notice. refl) place now.ports now.meter end in
      let d = retirement_count port_transition unreached (λ notice. refl) place now.ports now.meter end in
      subst (λ (l : List (SystemCall P)). Counts l old new) (sym h.0)
      (subst (λ (s : ServiceView P). Counts (retirement place now.ports now.meter end) old s) (sym h.1) (record {
        came = omega (arith, a);
        held = omega (arith, b, c, sessions);
        met = omega (arith, a, b, d, pending);
      }))
  leave_counts false now old place trace new at h =
      same_counts trace old new
      (rests_none port_transition comes (λ place ports rests. refl) now.meter.moved.made_progress place now.ports trace h.0 h.1)
      (rests_none port_transition connects (λ place ports rests. refl) now.meter.moved.made_progress place now.ports trace h.0 h.1)
      (rests_none port_transition retires (λ place ports rests. refl) now.meter.moved.made_progress place now.ports trace h.0 h.1)
      (rests_none port_transition unreached (λ place ports rests. refl) now.meter.moved.made_progress place now.ports trace h.0 h.1)
      (ap (λ (s : ServiceView P). s.counters.accepted) h.2 ∙ (same h.0).0)
      (ap (λ (s : ServiceView P). sessions_in s.slab) h.2 ∙ (same h.0).1)
      (ap (λ (s : ServiceView P). pending_in s.slab) h.2 ∙ (same h.0).2)
    where
      same : (rests : Bool) → ((if rests then old else queued_again old place).counters.accepted ≡ old.counters.accepted)
          × (sessions_in (if rests then old else queued_again old place).slab ≡ sessions_in old.slab)
          × (pending_in (if rests then old else queued_again old place).slab ≡ pending_in old.slab)
      same true = (refl, refl, refl)
      same false = (refl, refl, refl)

  turned_counts : (old : ServiceView P) (place turns : ℕ) (trace : List (SystemCall P)) (new : ServiceView P) →
      TurnsAndLeaves port_transition old place turns trace new → Counts trace old new
  turned_counts old place turns trace new h =
      let mid : ServiceView P = record old { slab = h.turned } in
      let made = h.takes.made in
      let same = turns_counts turns old.slab place h.turning h.turned made in
      counts_then trace h.turning h.leaving old mid new h.asked
      (same_counts h.turning old mid
      (turns_none port_transition comes (λ place account before after. refl) turns old.slab place h.turning h.turned made)
      (turns_none port_transition connects (λ place account before after. refl) turns old.slab place h.turning h.turned made)
      (turns_none port_transition retires (λ place account before after. refl) turns old.slab place h.turning h.turned made)
      (turns_none port_transition unreached (λ place account before after. refl) turns old.slab place h.turning h.turned made)
      refl same.0 same.1)
      (leave_counts (is_closed h.now.session) h.now mid place h.leaving new h.there h.leaves)

  pub visit_counts : (at : Option (SlabPlace (SlotView P))) (old : ServiceView P) (place turns : ℕ)
      (trace : List (SystemCall P)) (new : ServiceView P) → slice_get old.slab.places place ≡ at →
      VisitsBy port_transition at old place turns trace new → Counts trace old new
  visit_counts None old place turns trace new there h =
      subst (λ (l : List (SystemCall P)). Counts l old new) (sym h.1)
      (subst (λ (s : ServiceView P). Counts [] old s) (sym h.2) (same_counts [] old old refl refl refl refl refl refl refl))
  visit_counts (Some Free) old place turns trace new there h =
      subst (λ (l : List (SystemCall P)). Counts l old new) (sym h.1)
      (subst (λ (s : ServiceView P). Counts [] old s) (sym h.2) (same_counts [] old old refl refl refl refl refl refl refl))
  visit_counts (Some Kept) old place turns trace new there h = by h.0 h.1 h.2 h.3
    where
      by : (connect : Connect P) (joining : List (SystemCall P)) → trace ≡ Connects place connect ∷ joining →
          JoinsBy port_transition connect old place turns joining new → Counts trace old new
      by (Ready ports) joining e m =
          let mid : ServiceView P = record old { slab = m.0 } in
          let opens = m.1 in
          let sessions = set_count is_held old.slab.places place Kept (Held (new_slot opens.0 ports old.counters.turns)) there in
          let pending = set_count is_kept old.slab.places place Kept (Held (new_slot opens.0 ports old.counters.turns)) there in
          let now = ap (λ (s : SlabView P). sessions_in s) opens.2 in
          let left = ap (λ (s : SlabView P). pending_in s) opens.2 in
          counts_then trace (Connects place (Ready ports) ∷ []) joining old mid new e (record {
            came = omega arith;
            held = omega (arith, sessions, now);
            met = omega (arith, pending, left);
          }) (turned_counts mid place turns joining new m.2)
      by Failed joining e m =
          let sessions = set_count is_held old.slab.places place Kept Free there in
          let pending = set_count is_kept old.slab.places place Kept Free there in
          subst (λ (l : List (SystemCall P)). Counts l old new) (sym (e ∙ ap (λ (l : List (SystemCall P)). Connects place Failed ∷ l) m.1))
          (subst (λ (s : ServiceView P). Counts (Connects place Failed ∷ []) old s) (sym m.2) (record {
            came = omega arith;
            held = omega (arith, sessions);
            met = omega (arith, pending);
          }))
      by Pending joining e m =
          subst (λ (l : List (SystemCall P)). Counts l old new) (sym (e ∙ ap (λ (l : List (SystemCall P)). Connects place Pending ∷ l) m.1))
          (subst (λ (s : ServiceView P). Counts (Connects place Pending ∷ []) old s) (sym m.2)
          (same_counts (Connects place Pending ∷ []) old old refl refl refl refl refl refl refl))
  visit_counts (Some (Held now)) old place turns trace new there h = turned_counts old place turns trace new h

  pub visits_counts : (visited : List ℕ) (turns : ℕ) (old : ServiceView P) (trace : List (SystemCall P)) (new : ServiceView P) →
      Visits port_transition visited turns old trace new → Counts trace old new
  visits_counts [] turns old trace new h =
      subst (λ (l : List (SystemCall P)). Counts l old new) (sym h.1)
      (subst (λ (s : ServiceView P). Counts [] old s) (sym h.2) (same_counts [] old old refl refl refl refl refl refl refl))
  visits_counts (place ∷ earlier) turns old trace new h =
      let mid : ServiceView P = record h.0 { ready = h.8.ready } in
      let before = visits_counts earlier h.1 old h.3 h.0 h.7 in
      counts_then trace h.3 h.4 old mid new h.6
      (record { came = before.came; held = before.held; met = before.met })
      (visit_counts (slice_get mid.slab.places place) mid place h.2 h.4 new refl h.8.visits)
