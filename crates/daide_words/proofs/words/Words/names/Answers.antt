use Rattle.daide_words.proofs.Common.{rules, take, sym, words_of}
use Rattle.daide_words.proofs.WordLists.{names_back}
use Rattle.daide_words.proofs.words.Words.names.Goals as goal

pub returns-clause-names : goal.returns-clause-names
unfolding words_of
returns-clause-names c =
    let words = c.args.self.now in
    sym (names_back (take words.count words.names) (take words.count words.meanings) (search rules))
