use Rattle.daide_channels.proofs.Common.{ap, ◌∙◌, lvl_scan_of, frame_tokens, Receiver}
use Rattle.daide_channels.proofs.receiver.Receiver.found.Goals as goal

pub returns : goal.returns
returns g c =
    c.found.ensures
    ∙ (c.self.invariant.found ∙ ap (λ (v : Receiver). lvl_scan_of (frame_tokens v.cap v.frame_bytes)) c.self.view_is)
