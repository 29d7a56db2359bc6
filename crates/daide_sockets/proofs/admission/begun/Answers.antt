use Rattle.std.proofs.Common.{Ok, Err, ap, ◌∙◌, refl, rules}
use Rattle.std.proofs.lemmas.Option.{slice_get_read}
use Rattle.daide_buffered_io.specs.declared.readiness.Readiness.{Readiness}
use Rattle.daide_sockets.specs.Table.{Table, report_at}
use Rattle.daide_sockets.proofs.AcceptLemmas.{connects_on}
use Rattle.daide_sockets.proofs.KeptRowLemmas.{changes_then, freed_changes, freed_unknown}
use Rattle.daide_sockets.proofs.admission.begun.Goals as goal

pub loop-address-preserved-in-Err : goal.loop-address-preserved-in-Err
loop-address-preserved-in-Err g c = record {
  table = c.loop-address.invariant.table;
  calls = connects_on g.N.Network.transition c.args.servers.now c.args.key c.args.tried.now c.loop-address.tried
      c.loop-address.invariant.calls.0 c.in-Some.address.now _ _ _ c.loop-address.invariant.calls.1
      (slice_get_read _ _ _ _ refl c.in-Some.ensures.lookup.3.0 c.in-Some.ensures.lookup.1)
      c.loop-address.invariant.calls.2 (record {
        begun = Err c.in-Err.error;
        mid = c.connect.new.self;
        call = rw c.in-Err.is at c.connect.ensures;
        rest = refl;
      });
}

pub returns-then-follow-clause-connects : goal.returns-then-follow-clause-connects
returns-then-follow-clause-connects g c = record {
  place = c.loop-address.tried;
  address = c.in-Some.address.now;
  listed = slice_get_read _ _ _ _ refl c.in-Some.ensures.lookup.3.0 c.in-Some.ensures.lookup.1;
  begun = c.in-Ok.stream;
  before = c.loop-address.poller.network;
  mid = c.connect.new.self;
  begins = rw c.in-Ok.is at c.connect.ensures;
  follows = search rules;
}

pub returns-then-follow-clause-calls : goal.returns-then-follow-clause-calls
returns-then-follow-clause-calls g c =
    connects_on g.N.Network.transition c.args.servers.now c.args.key c.args.tried.now c.loop-address.tried
    c.loop-address.invariant.calls.0 c.in-Some.address.now _ _ _ c.loop-address.invariant.calls.1
    (slice_get_read _ _ _ _ refl c.in-Some.ensures.lookup.3.0 c.in-Some.ensures.lookup.1)
    c.loop-address.invariant.calls.2 (record {
      begun = Ok c.in-Ok.stream;
      mid = c.connect.new.self;
      call = rw c.in-Ok.is at c.connect.ensures;
      rest = (c.follow.result, _, c.follow.ensures.call);
    })

pub loop-address-preserved : goal.loop-address-preserved
loop-address-preserved g c = record {
  table = changes_then _ _ _ _ c.loop-address.invariant.table (freed_changes _ _ c.args.key c.follow.ensures.table);
  calls = connects_on g.N.Network.transition c.args.servers.now c.args.key c.args.tried.now c.loop-address.tried
      c.loop-address.invariant.calls.0 c.in-Some.address.now _ _ _ c.loop-address.invariant.calls.1
      (slice_get_read _ _ _ _ refl c.in-Some.ensures.lookup.3.0 c.in-Some.ensures.lookup.1)
      c.loop-address.invariant.calls.2 (record {
        begun = Ok c.in-Ok.stream;
        mid = c.connect.new.self;
        call = rw c.in-Ok.is at c.connect.ensures;
        rest = (c.follow.result, _, c.follow.ensures.call);
      });
}

pub returns-then-follow-clause-unknown : goal.returns-then-follow-clause-unknown
returns-then-follow-clause-unknown g c =
    ap (λ (t : Table). (report_at t c.args.key).may_write) c.follow.ensures.table
    ∙ ap (λ (r : Readiness). r.may_write) (freed_unknown _ c.args.key)

pub returns-then-follow-clause-table : goal.returns-then-follow-clause-table
returns-then-follow-clause-table g c =
    changes_then _ _ _ _ c.loop-address.invariant.table (freed_changes _ _ c.args.key c.follow.ensures.table)
