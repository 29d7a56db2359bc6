use Rattle.daide_log.proofs.Common.{◌∙◌, Bot, Server}
use Rattle.daide_log.proofs.PartLemmas.{both_put}
use Rattle.daide_log.proofs.PlayLemmas.{idle_free}
use Rattle.daide_log.proofs.explained.put_session.Goals as goal

pub put_unfinished-requires : goal.put_unfinished-requires
put_unfinished-requires g c = idle_free c.args.session.now Bot c.requires

pub put_unfinished-requires-2 : goal.put_unfinished-requires-2
put_unfinished-requires-2 g c = idle_free c.args.session.now Server c.requires

pub returns-clause-text : goal.returns-clause-text
returns-clause-text g c =
    both_put _ _ c.in_ok-bot.bot c.in_ok-server.server _ _ _ c.in_ok-bot.ensures.text c.in_ok-server.ensures.text

pub returns-clause-same_writer : goal.returns-clause-same_writer
returns-clause-same_writer g c = c.put_unfinished-2.ensures.same_writer ∙ c.put_unfinished.ensures.same_writer
