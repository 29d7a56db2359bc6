use Rattle.daide_session.proofs.Common.{List, length, sym, ap, ◌∙◌, Sent, SessionView, queued, sent_bytes}
use Rattle.daide_session.proofs.EmitsLemmas.{waiting_at}
use Rattle.daide_session.proofs.session.Session.queued_len.Goals as goal

pub returns : goal.returns
returns g c =
    c.queued_len.ensures
    ∙ (ap (λ (xs : List Sent). length (sent_bytes xs))
    (sym (waiting_at c.self.inside.channels c.self.inside.protocol c.args.side))
    ∙ ap (λ (v : SessionView). length (sent_bytes (queued v c.args.side))) c.self.view_is)
