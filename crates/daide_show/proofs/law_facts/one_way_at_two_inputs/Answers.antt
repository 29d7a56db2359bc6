use Rattle.daide_show.proofs.Common.{Ok, Err, codes, Bot, L0, NotHex}
use Rattle.daide_show.specs.Shown.{plain_request}
use Rattle.daide_show.proofs.FrameFacts.{fm, fm_shown, letter}
use Rattle.daide_show.proofs.law_facts.one_way_at_two_inputs.Goals as goal

pub returns : goal.returns
returns c = record {
  shown = λ outcome h.
      c.input_is_shown_in_one_way.ensures (plain_request Bot L0) (codes "03 00 00 00") outcome (Ok fm_shown) h fm;
  refused = λ outcome h.
      c.input_is_shown_in_one_way.ensures (plain_request Bot L0) (codes "0G") outcome (Err NotHex) h letter;
}
