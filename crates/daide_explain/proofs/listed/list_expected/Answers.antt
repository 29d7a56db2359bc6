use Rattle.daide_explain.proofs.Common.{[], ◌++◌, names_of, words_of, listed_tokens, codes_of}
use Rattle.daide_explain.proofs.Filtered.{filtered_none}
use Rattle.daide_explain.proofs.listed.list_expected.Goals as goal

pub returns-clause-listed : goal.returns-clause-listed
returns-clause-listed g c =
    c.in_ok-append_codes-2.ensures.filtered (listed_tokens ++ codes_of (names_of (words_of c.args.rules.now.words.now)))
    (c.in_ok-append_words.ensures.filtered listed_tokens (c.in_ok-append_codes.ensures.filtered [] (filtered_none _ _ c.new-tokens.ensures.items)))
