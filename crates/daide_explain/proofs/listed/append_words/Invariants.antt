use Rattle.daide_explain.proofs.Common.{ℕ, List, ◌++◌, take, tokens_of, IsMessageOver, grammar_words, words_of}
use Rattle.daide_explain.proofs.Common.{IsExpected, IsFilteredBy, codes_of}
use Rattle.daide_explain.proofs.listed.append_words.Given as goal

-- the first `named-index` names were filtered
abbrev pub invariant-loop-named : goal.invariant-loop-named
invariant-loop-named g l =
    let expected = IsExpected (IsMessageOver (grammar_words (words_of l.fn.rules.words.now)) l.fn.rules.end l.fn.rules.level) l.fn.rules.max_depth
    (tokens_of l.fn.before) in
    (done : List ℕ) → IsFilteredBy expected done l.initial.tokens.items →
    IsFilteredBy expected (done ++ codes_of (take l.named-index l.named-items)) l.tokens.items
