use Rattle.daide_explain.proofs.Common.{◌<◌, tokens_of, Level, grammar_words, words_of}
use Rattle.daide_explain.specs.LowestLevel.{IsBelow, IsRelayedAt}
use Rattle.daide_explain.proofs.LevelPlaces.{level_place}
use Rattle.daide_explain.proofs.levels.lowest_level.Given as goal

-- the message is relayed at none of the earlier levels above the given one
abbrev pub invariant-loop-i : goal.invariant-loop-i
invariant-loop-i l =
    (high : Level) → level_place high < l.i → IsBelow l.fn.rules.level high →
    ¬ IsRelayedAt (grammar_words (words_of l.fn.rules.words.now)) l.fn.rules.end high l.fn.rules.max_depth
    (tokens_of l.fn.body)
