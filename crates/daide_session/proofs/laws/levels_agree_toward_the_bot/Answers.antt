use Rattle.daide_session.proofs.LevelsAgree.{levels_agree}
use Rattle.daide_session.proofs.laws.levels_agree_toward_the_bot.Goals as goal

pub returns : goal.returns
returns c = λ words accepted. levels_agree words accepted (c.joined_gateways.ensures words accepted)
