use Rattle.daide_grammar.proofs.Languages.{start_symbol-language}
use Rattle.daide_grammar.proofs.laws.start_symbol_stands_for_messages.Goals as goal

pub returns : goal.returns
returns c = start_symbol-language
