use Rattle.std.proofs.Common.{◌≢◌, length, nat_lt, inl, refl, rules}
use Rattle.daide_causes.specs.Causes.{HasFailed}
use Rattle.daide_tools.specs.Controlling.{RunAnswers}
use Rattle.daide_tools.proofs.ControllingLemmas.{each_ended, none_ended}
use Rattle.daide_tools.proofs.controlling.status_of_each.Goals as goal

pub returns-clause-ended : goal.returns-clause-ended
returns-clause-ended g c =
    let some : length c.args.names.now ≢ 0 = search rules in
    each_ended g.R.FileOpener.Opens g.F.Read.remaining g.R.RunReacher.Reaches g.S.Write.contents g.S.Read.remaining
    (HasFailed g.O.Sink.Fails) c.args.format (nat_lt 1 (length c.args.names.now)) c.args.names.now
    (g.O.Write.contents c.args.output.now) (g.O.Write.contents c.loop-rest.output) c.loop-rest.status some refl
    (inl (c.loop-rest.invariant.each (g.O.Write.contents c.loop-rest.output) c.loop-rest.status
    (none_ended
    (RunAnswers g.R.FileOpener.Opens g.F.Read.remaining g.R.RunReacher.Reaches g.S.Write.contents g.S.Read.remaining
    (nat_lt 1 (length c.args.names.now)) c.args.format)
    c.loop-rest.rest.now (g.O.Write.contents c.loop-rest.output) c.loop-rest.status c.in_default.len_below)))
