use Rattle.daide_words.specs.Words.{words_of}
use Rattle.daide_session.proofs.laws.levels_agree_toward_the_bot_over.Goals as goal

pub returns : goal.returns
returns c = c.levels_agree_toward_the_bot.ensures (words_of c.args.words.now) c.are_accepted.ensures
