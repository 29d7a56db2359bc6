use Rattle.std.proofs.lemmas.Bool.Decides.{nat_tests}
use Rattle.daide_explain.proofs.Common.{◌≡◌, ℕ, ◌<◌, ◌==◌, false, [], ◌∷◌, ◌++◌, length, refl, sym, ◌∙◌, ap, subst}
use Rattle.daide_explain.proofs.Common.{arith, inl, IsTrue, ◌↔◌, eqb-true, prn, tokens_of, begins_with_prn, dialect_of}
use Rattle.daide_explain.proofs.Common.{IsMessageOver, start_symbol_of, Words, grammar_words, words_of, Extended}
use Rattle.daide_explain.proofs.Common.{spoken_words, spoken, accepted_free, IsMessageOf, IsAllowedPrefix}
use Rattle.daide_grammar.specs.Table.Languages.{SymbolMatchesIn}
use Rattle.daide_explain.proofs.Allowed.{read_nothing, allowed_along, allowed_if_no_place, prn_allowed, plain_more}
use Rattle.daide_protocol.proofs.WordedVerdicts.{worded_messages}
use Rattle.daide_explain.proofs.expected.is_expected.Goals as goal
use Rattle.daide_explain.proofs.expected.is_expected.Goals.{else-before-lt2-via-then-before-lt2+else-is_prn, else-before-lt2-via-else-before-lt2}

pub returns-then-is_prn : goal.returns-then-is_prn
returns-then-is_prn c =
    let few : length c.args.before.now < 2 = grind (arith, nat_tests) in
    let same : c.args.token ≡ prn = eqb-true c.args.token prn (sym c.is_prn.ensures ∙ c.if-is_prn.true) in (
      λ _. prn_allowed (IsMessageOver (grammar_words (words_of c.args.rules.now.words.now)) c.args.rules.now.end c.args.rules.now.level) c.args.rules.now.max_depth
          c.args.before.now c.args.token (inl ([], refl)) few same,
      λ _. refl,
    )

pub returns : goal.returns
unfolding words_of
returns c =
    let words = grammar_words (words_of c.args.rules.now.words.now) in
    let b = c.args.before.now in
    let q = tokens_of b ++ c.args.token ∷ [] in
    let first = start_symbol_of c.args.rules.now.end c.args.rules.now.level in
    let table = c.new-reader.result.table in
    let apart : length b < 2 → (c.args.token == prn) ≡ false = λ few.
    elim c.else-before-lt2.branch [
      | else-before-lt2-via-then-before-lt2+else-is_prn w ↦ sym w.is_prn.ensures ∙ w.if-is_prn.false
      | else-before-lt2-via-else-before-lt2 w ↦ (let a = w.if-before-lt2.false in absurd (grind (arith, nat_tests, a, few)))
    ] in
    let plain : begins_with_prn q ≡ false = plain_more b c.args.token c.requires.plain apart in
    let free = accepted_free (words_of c.args.rules.now.words.now) c.args.rules.now.words.now.accepted in
    let all : spoken (spoken_words table) ≡ words =
    ap (λ (t : Extended). spoken (spoken_words t)) c.new-reader.ensures.table ∙ ap spoken c.new.ensures.words
    ∙ c.new.ensures.all_spoken in
    let read = c.read.ensures.stands_after _ _ _ (read_nothing _ _ _ _ _ b c.start.ensures.stands_after) in
    let stands = c.push.ensures.stands_after _ _ _ (tokens_of b) read in
    let said = c.place.ensures.place _ _ _ q plain stands in
    let here = allowed_if_no_place _ _ q _ _ c.is_none.ensures said in
    let spoken_here = subst (λ (d : ℕ). IsTrue c.is_none.result ↔
    IsAllowedPrefix (IsMessageOf (SymbolMatchesIn (dialect_of (spoken (spoken_words table))) first)) d q)
    c.new-reader.ensures.stands_after.depth_kept here in
    let all_here = subst (λ (ws : Words). IsTrue c.is_none.result ↔
    IsAllowedPrefix (IsMessageOf (SymbolMatchesIn (dialect_of ws) first)) c.args.rules.now.max_depth q) all spoken_here in (
      λ t. allowed_along _ _ (λ m. (worded_messages words free c.args.rules.now.end c.args.rules.now.level m).0) c.args.rules.now.max_depth q (all_here.0 t),
      λ h. all_here.1 (allowed_along _ _ (λ m. (worded_messages words free c.args.rules.now.end c.args.rules.now.level m).1) c.args.rules.now.max_depth q h),
    )
