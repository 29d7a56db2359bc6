use Rattle.daide_show.proofs.Common.{◌≡◌, ◌++◌, List, ℕ, ap, refl, ◌∙◌, append_assoc, subst, tokens_of, Kind, Level}
use Rattle.daide_show.proofs.Common.{IsMessageOver, grammar_words, words_of, Verdict}
use Rattle.daide_grammar.specs.declared.side.Side2.{Side2}
use Rattle.daide_words.specs.declared.words.Words.{Words}
use Rattle.daide_reader.specs.Verdict.{HasVerdict}
use Rattle.daide_show.specs.Shown.{message_shown, kind_line, line, printed, verdict_lines}
use Rattle.daide_show.proofs.frame_view.text.write_message.Goals as goal

-- four texts written in sequence
joined : (old a b c d first second third fourth : List ℕ) → first ≡ old ++ a → second ≡ first ++ b →
    third ≡ second ++ c → fourth ≡ third ++ d → fourth ≡ old ++ (((a ++ b) ++ c) ++ d)
joined old a b c d first second third fourth x y z w =
    w ∙ ap (λ (l : List ℕ). l ++ d) (z ∙ ap (λ (l : List ℕ). l ++ c) (y ∙ ap (λ (l : List ℕ). l ++ b) x))
    ∙ simp append_assoc

-- the verdict of a reader, by the rules of the request
ruled : (words asked : Words) (end side : Side2) (level at : Level) (depth most : ℕ) (m : List ℕ) (verdict : Verdict) →
    words ≡ asked → end ≡ side → level ≡ at → depth ≡ most →
    HasVerdict (IsMessageOver (grammar_words (words_of words)) end level) depth m verdict →
    HasVerdict (IsMessageOver (grammar_words (words_of asked)) side at) most m verdict
ruled words asked end side level at depth most m verdict w e l d has =
    subst (λ (x : Words). HasVerdict (IsMessageOver (grammar_words (words_of x)) side at) most m verdict) w
    (subst (λ (x : Side2). HasVerdict (IsMessageOver (grammar_words (words_of words)) x at) most m verdict) e
    (subst (λ (x : Level). HasVerdict (IsMessageOver (grammar_words (words_of words)) end x) most m verdict) l
    (subst (λ (x : ℕ). HasVerdict (IsMessageOver (grammar_words (words_of words)) end level) x m verdict) d has)))

pub returns-clause-text : goal.returns-clause-text
returns-clause-text g c =
    let body = c.args.body.now in
    let verdict = c.verdict_of-verdict.result in
    let old = c.args.text.now.items in
    let len = c.args.head.len in
    let words = words_of c.args.request.now.words.now in
    let answer = verdict_lines words verdict body in
    let lines = c.in_ok-write_lines.ensures.text in
    let wrote = c.in_ok-relayed.ensures.text in
    let rules = c.rules_of.ensures in
    let tokens = line (printed words (tokens_of body)) in (
      message_shown words len body verdict lines.0,
      (
        verdict,
        lines.0,
        ruled _ _ _ _ _ _ _ _ (tokens_of body) verdict rules.words rules.end rules.level rules.depth
            c.verdict_of-verdict.ensures.verdict,
        lines.1,
        refl,
      ),
      (
        joined old (kind_line c.args.head.kind len) tokens answer lines.0 _ _ _ _ c.in_ok-write_kind.ensures.text
            c.in_ok-write_tokens.ensures.text wrote.0 lines.2
            ∙ ap (λ (kind : Kind). old ++ (((kind_line kind len ++ tokens) ++ answer) ++ lines.0)) c.requires.dm,
        wrote.1,
      ),
    )
