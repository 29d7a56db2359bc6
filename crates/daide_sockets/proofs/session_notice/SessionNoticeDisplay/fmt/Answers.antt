use Rattle.daide_sockets.proofs.session_notice.SessionNoticeDisplay.fmt.Goals as goal

pub returns-in-Began-clause-writes : goal.returns-in-Began-clause-writes
returns-in-Began-clause-writes g c = rw c.in-Began.is c.write.ensures.writes

pub returns-in-Reached-clause-writes : goal.returns-in-Reached-clause-writes
returns-in-Reached-clause-writes g c = rw c.in-Reached.is c.write-in-Reached.ensures.writes
