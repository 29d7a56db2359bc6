use Rattle.daide_explain.proofs.Common.{◌≡◌, ◌∙◌, ap, ℕ, subst, tokens_of, start_symbol_of, dialect_of, Words}
use Rattle.daide_explain.proofs.Common.{grammar_words, words_of, Extended, spoken_words, spoken, accepted_free}
use Rattle.daide_explain.proofs.Common.{IsMessageOf, HasVerdict, place_in}
use Rattle.daide_grammar.specs.Table.Languages.{SymbolMatchesIn}
use Rattle.daide_protocol.proofs.WordedVerdicts.{worded_verdicts}
use Rattle.daide_explain.proofs.expected.verdict_of.Goals as goal

pub returns-clause-verdict : goal.returns-clause-verdict
unfolding words_of
returns-clause-verdict c =
    let words = grammar_words (words_of c.args.rules.now.words.now) in
    let m = tokens_of c.args.body.now in
    let first = start_symbol_of c.args.rules.now.end c.args.rules.now.level in
    let v = c.read_body.result in
    let read = c.read_body.ensures.verdict _ _ _ c.start.ensures.stands_after in
    let table = c.new-reader.result.table in
    let all : spoken (spoken_words table) ≡ words =
    ap (λ (t : Extended). spoken (spoken_words t)) c.new-reader.ensures.table ∙ ap spoken c.new.ensures.words
    ∙ c.new.ensures.all_spoken in
    worded_verdicts words (accepted_free (words_of c.args.rules.now.words.now) c.args.rules.now.words.now.accepted) c.args.rules.now.end c.args.rules.now.level
    c.args.rules.now.max_depth m v
    (subst (λ (ws : Words). HasVerdict (IsMessageOf (SymbolMatchesIn (dialect_of ws) first)) c.args.rules.now.max_depth m v) all
    (subst
    (λ (d : ℕ). HasVerdict (IsMessageOf (SymbolMatchesIn (dialect_of (spoken (spoken_words table))) first)) d m v)
    c.new-reader.ensures.stands_after.depth_kept read))

pub returns-clause-within : goal.returns-clause-within
returns-clause-within c =
    place_in _ _ c.args.body.now c.read_body.result
    (c.read_body.ensures.verdict _ _ _ c.start.ensures.stands_after)
