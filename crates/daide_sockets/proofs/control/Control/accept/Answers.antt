use Rattle.std.proofs.Common.{◌≡◌, ℕ, Option, Some, None, ap, sym, ◌∙◌, subst, refl, rules}
use Rattle.std.specs.Duration.{as_nanos}
use Rattle.std.specs.declared.time.Instant.{Instant}
use Rattle.daide_sockets.specs.Clock.{IsAfter}
use Rattle.daide_sockets.proofs.ControlLemmas.{connection_row}
use Rattle.daide_sockets.proofs.KeptRowLemmas.{changes_none, same_reading}
use Rattle.daide_sockets.proofs.NetworkCallLemmas.{none}
use Rattle.daide_sockets.specs.Wakeups.{is_after_poll}
use Rattle.daide_sockets.specs.declared.poller.Poller.{Poller}
use Rattle.daide_sockets.proofs.control.Control.accept.Goals as goal

pub accept_from-requires : goal.accept_from-requires
accept_from-requires g c =
    connection_row c.args.poller.now.table c.control_connection_key-key.result c.first_free.result (c.first_free.ensures (search rules)) (c.control_connection_key-key.ensures (c.first_free.ensures (search rules)))

-- there is no listener
pub returns-in_default-clause-accepts : goal.returns-in_default-clause-accepts
returns-in_default-clause-accepts g c = record {
  made = λ due room. absurd (let no = c.in_default.is in let is = rw no at due in cc);
  not_made = λ no. (refl, refl);
}

pub returns-then-not-has_room-clause-accepts : goal.returns-then-not-has_room-clause-accepts
returns-then-not-has_room-clause-accepts g c = record {
  made = λ due room. absurd (let no = sym c.has_room.ensures ∙ c.if-not-has_room.true in cc);
  not_made = λ no. (refl, refl);
}

pub returns-in_default-accept_from-clause-accepts : goal.returns-in_default-accept_from-clause-accepts
returns-in_default-accept_from-clause-accepts g c =
    let room = sym c.has_room.ensures ∙ c.if-not-has_room.false in record {
      made = λ due free. (
        c.control_connection_key-key.result,
        connection_row c.args.poller.now.table c.control_connection_key-key.result c.first_free.result
            (c.first_free.ensures (search rules)) (c.control_connection_key-key.ensures (c.first_free.ensures (search rules))),
        None,
        rw c.in_default-accept_from.is at (c.accept_from.ensures.made (rw c.in-Some.is at due)),
        refl,
      );
      not_made = λ no.
          let kept = c.accept_from.ensures.not_made (rw c.in-Some.is at (rw room at no)) in
          (ap (λ (p : Poller g.row.N.Denot g.row.S.Denot). p.network) kept.2, refl);
    }

pub returns-clause-accepts : goal.returns-clause-accepts
returns-clause-accepts g c =
    let room = sym c.has_room.ensures ∙ c.if-not-has_room.false in
    let reading = c.args.poller.now.table.reading in
    let moment = c.after-closes_at.result in
    let nanos : as_nanos c.from_secs.result ≡ 2000000000 = search rules in record {
      made = λ due free. (
        c.control_connection_key-key.result,
        connection_row c.args.poller.now.table c.control_connection_key-key.result c.first_free.result
            (c.first_free.ensures (search rules)) (c.control_connection_key-key.ensures (c.first_free.ensures (search rules))),
        Some c.in-Some-accept_from.stream,
        rw c.in-Some-accept_from.is at (c.accept_from.ensures.made (rw c.in-Some.is at due)),
        (
          c.new.result,
          c.new.ensures.stream,
          record {
            stage = c.new.ensures.reads;
            line = c.new.ensures.empty;
            closes_at = subst (λ (m : Option Instant). IsAfter reading 2000000000 m) (sym c.new.ensures.closes_at)
                (subst (λ (n : ℕ). IsAfter reading n moment) nanos
                (subst (λ (r : Option Instant). IsAfter r (as_nanos c.from_secs.result) moment)
                (same_reading _ _ _ c.accept_from.ensures.table) c.after-closes_at.ensures));
          },
          c.put.ensures,
        ),
      );
      not_made = λ no. absurd (let none = (c.accept_from.ensures.not_made (rw c.in-Some.is at (rw room at no))).0 in
          let some = c.in-Some-accept_from.is in cc);
    }

pub returns-in_default-clause-table : goal.returns-in_default-clause-table
returns-in_default-clause-table g c = changes_none _ _ _ refl

pub returns-in_default-clause-calls : goal.returns-in_default-clause-calls
returns-in_default-clause-calls g c = none g.N.Network.transition is_after_poll _ _ refl

pub returns-then-not-has_room-clause-table : goal.returns-then-not-has_room-clause-table
returns-then-not-has_room-clause-table g c = changes_none _ _ _ refl

pub returns-then-not-has_room-clause-calls : goal.returns-then-not-has_room-clause-calls
returns-then-not-has_room-clause-calls g c = none g.N.Network.transition is_after_poll _ _ refl

pub returns-in_default-accept_from-clause-table : goal.returns-in_default-accept_from-clause-table
returns-in_default-accept_from-clause-table g c = c.accept_from.ensures.table

pub returns-in_default-accept_from-clause-calls : goal.returns-in_default-accept_from-clause-calls
returns-in_default-accept_from-clause-calls g c = c.accept_from.ensures.calls

pub returns-clause-table : goal.returns-clause-table
returns-clause-table g c = c.accept_from.ensures.table

pub returns-clause-calls : goal.returns-clause-calls
returns-clause-calls g c = c.accept_from.ensures.calls
