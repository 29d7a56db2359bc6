use Rattle.daide_words.specs.Word.{grammar_words}
use Rattle.daide_words.specs.Words.{words_of}
use Rattle.daide_frame.specs.PerSide.{both}
use Rattle.daide_channels.specs.Channels.{fields}
use Rattle.daide_channels.proofs.NewLemmas.{AreNew, are_new, new_sound, quiet_of}
use Rattle.daide_channels.proofs.channels.Channels.new.Given as given
use Rattle.daide_channels.proofs.channels.Channels.new.Goals as goal

quiet : (g : given.Over) (c : goal.After-new-6 g) → AreNew c.args.cap
    (record { max_depth = c.args.max_depth; words = grammar_words (words_of c.args.words) })
    (fields c.new-3.result c.new-6.result)
quiet g c =
    let bot = c.in_ok-new.ensures in
    let server = c.in_ok-new-2.ensures in
    let new = are_new (fields (both c.in_ok-new.field-0 c.in_ok-new-2.field-0) (both c.new-4.result c.new-5.result))
    (record {
      its_side = bot.side;
      its_cap = bot.limits.0;
      its_rules = bot.rules;
      lowest = bot.limits.1;
      empty = bot.empty.0;
      unanswered = bot.empty.1;
      unasked = bot.unasked;
      unlooked = bot.unlooked;
    })
    (record {
      its_side = server.side;
      its_cap = server.limits.0;
      its_rules = server.rules;
      lowest = server.limits.1;
      empty = server.empty.0;
      unanswered = server.empty.1;
      unasked = server.unasked;
      unlooked = server.unlooked;
    }) c.new-4.ensures c.new-5.ensures in
    rw (c.new-3.ensures, c.new-6.ensures) new

pub invariant_of-result : goal.invariant_of-result
invariant_of-result g c = new_sound (quiet g c)

pub returns-clause-quiet : goal.returns-clause-quiet
returns-clause-quiet g c = quiet_of (quiet g c)
