use Rattle.std.proofs.Common.{sym, ◌∙◌}
use Rattle.daide_sockets.proofs.PollLemmas.{polls_places}
use Rattle.daide_sockets.proofs.poller.Poller.poll_for.Goals as goal

pub returns : goal.returns
returns g c =
    let poll = c.poll.ensures in
    let wake = c.wake.ensures in (
      wake.0,
      wake.1,
      poll.0,
      poll.1,
      polls_places g.N.Network.transition poll.0 c.as_slice.result.now wake.0 _ _ _ _ _ poll.2
          (poll.3 ∙ sym c.as_slice.ensures.value) wake.2,
    )
