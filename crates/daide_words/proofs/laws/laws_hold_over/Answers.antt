use Rattle.daide_words.proofs.Common.{words_of}
use Rattle.daide_words.proofs.laws.laws_hold_over.Goals as goal

pub returns : goal.returns
returns c =
    let words = words_of c.args.words.now in
    let accepted = c.are_accepted.ensures in
    record {
      laws = c.added_words_keep_the_laws.ensures words accepted;
      start_symbol = λ side level m. c.start_symbol_stands_for_messages.ensures words side level m accepted;
      spoken = c.accepted_words_are_spoken.ensures words accepted;
      paired = λ side level m. c.messages_are_paired.ensures words side level m accepted;
      huh = λ side level a. c.huh_answer_is_a_message.ensures words side level a accepted;
      huh_with_err = λ side level m place. c.huh_answer_with_err_is_a_message.ensures words side level m place accepted;
      class = λ place word at. c.added_words_move_as_other.ensures.class words place word accepted at;
      elsewhere = λ place word sym at. c.added_words_move_as_other.ensures.elsewhere words place word sym accepted at;
      names = λ i j one other at there. c.accepted_words_differ.ensures.names words i j one other accepted at there;
      codes = λ i j one other at there. c.accepted_words_differ.ensures.codes words i j one other accepted at there;
    }
