use Rattle.daide_show.proofs.Common.{codes, sym, decode_pairs, Bot, L0}
use Rattle.daide_frame.specs.Frames.{first_items}
use Rattle.daide_frame.specs.Head.{parse_head}
use Rattle.daide_show.specs.Shown.{parse_frame, plain_request}
use Rattle.daide_show.proofs.law_facts.note_at_two_inputs.Goals as goal

pub returns : goal.returns
unfolding decode_pairs parse_frame first_items parse_head
returns c = record {
  odd = λ outcome h. sym (c.note_is_of_the_fault.ensures (plain_request Bot L0) (codes "0") outcome h);
  whole = λ outcome h. sym (c.note_is_of_the_fault.ensures (plain_request Bot L0) (codes "03 00 00 00") outcome h);
}
