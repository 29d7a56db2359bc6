use Rattle.daide_channels.proofs.Common.{◌+◌, ◌*◌, ◌≤◌, subst, start_symbol_of, side2_of, frame_tokens, spoken_words}
use Rattle.daide_channels.proofs.Common.{Receiver}
use Rattle.daide_grammar.specs.Depth.{open_brackets}
use Rattle.daide_channels.proofs.receiver.Receiver.entries.Goals as goal

pub returns-clause-few : goal.returns-clause-few
returns-clause-few g c =
    let i = c.self.inside in
    subst (λ (v : Receiver). c.entries.result ≤ 8 * open_brackets (frame_tokens v.cap v.frame_bytes) + 16) c.self.view_is
    (c.entries.ensures.entries (spoken_words i.reader.table) (start_symbol_of (side2_of i.side) i.level) i.reader.max_depth
    (frame_tokens i.cutter.cap i.cutter.bytes) c.self.invariant.stands)
