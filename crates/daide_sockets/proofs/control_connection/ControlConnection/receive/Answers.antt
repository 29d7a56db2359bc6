use Rattle.std.proofs.Common.{◌≡◌, ◌∙◌, ap, subst}
use Rattle.daide_sockets.specs.Control.{BeginsReply}
use Rattle.daide_sockets.specs.ControlRequest.{judgement_of, at_end}
use Rattle.daide_sockets.specs.declared.control_request.Judgement.{Judgement}
use Rattle.daide_sockets.proofs.control_connection.ControlConnection.receive.Goals as goal
use Rattle.daide_sockets.specs.Control.{stage_after}

pub returns : goal.returns
returns g c =
    let heard = c.hear-pull.new.self in
    let same : c.at_end-judgement.result ≡ at_end (judgement_of heard.line.items) c.hear-pull.result =
    c.at_end-judgement.ensures
    ∙ ap (λ (j : Judgement). at_end j c.hear-pull.result) (c.judgement_of.ensures ∙ ap judgement_of c.as_slice.ensures.value) in
    record {
      pull = c.hear-pull.result;
      heard = heard;
      hears = c.hear-pull.ensures;
      stage = c.begin.ensures.stage ∙ ap stage_after same;
      answer = subst (λ (j : Judgement). BeginsReply c.args.run.now j c.begin.new.self.status c.begin.new.self.answer) same
          c.begin.ensures.answer;
      rest = c.begin.ensures.rest;
    }
