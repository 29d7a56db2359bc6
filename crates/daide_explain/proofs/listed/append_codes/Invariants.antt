use Rattle.daide_explain.proofs.Common.{ℕ, List, ◌++◌, take, tokens_of, IsMessageOver, grammar_words, words_of}
use Rattle.daide_explain.proofs.Common.{IsExpected, IsFilteredBy}
use Rattle.daide_explain.proofs.listed.append_codes.Given as goal

-- the first `code-index` codes were filtered
abbrev pub invariant-loop-code : goal.invariant-loop-code
invariant-loop-code g l =
    let expected = IsExpected (IsMessageOver (grammar_words (words_of l.fn.rules.words.now)) l.fn.rules.end l.fn.rules.level) l.fn.rules.max_depth
    (tokens_of l.fn.before) in
    (done : List ℕ) → IsFilteredBy expected done l.initial.tokens.items →
    IsFilteredBy expected (done ++ take l.code-index l.codes) l.tokens.items
