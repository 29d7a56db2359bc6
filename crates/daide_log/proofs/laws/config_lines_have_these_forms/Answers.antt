use Rattle.daide_log.proofs.ConfigForms.{config_line_is, match_config_line_is}
use Rattle.daide_log.proofs.laws.config_lines_have_these_forms.Goals as goal

pub returns : goal.returns
returns c = record { single = config_line_is; match_log = match_config_line_is }
