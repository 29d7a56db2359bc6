use Rattle.daide_protocol.proofs.Common.{ℕ, List, [], ◌∷◌, map, ap, ◌∙◌, arith, text_with, tokens_of}
use Rattle.daide_protocol.proofs.Common.{token_of_character, nme}
use Rattle.daide_protocol.proofs.NameTextLemmas.{cut_name, nme_text, whole_name}
use Rattle.daide_protocol.proofs.bot_name.NameText.put.Goals as goal

pub returns-then-from-gt-MOST_KEPT-clause-text : goal.returns-then-from-gt-MOST_KEPT-clause-text
returns-then-from-gt-MOST_KEPT-clause-text c =
    cut_name c.args.self.now _ _ (omega (arith, c.if-from-gt-MOST_KEPT.true, c.from.ensures))
    (nme_text (tokens_of c.to_be_bytes.result) c.characters.result.now _ _ _ _ c.put_tokens-command.result.place
    c.put_characters-printed.result.place (ap tokens_of c.to_be_bytes.ensures) c.put_tokens-command.ensures.text
    c.put_tokens-command.ensures.place c.put_characters-printed.ensures.text c.put_characters-printed.ensures.place
    c.end_of.ensures.text c.put-end.ensures.text
    ∙ ap (λ (l : List ℕ). text_with [] (nme ∷ map token_of_character l)) c.characters.ensures.shown)
    c.put.ensures.text

pub returns-clause-text : goal.returns-clause-text
returns-clause-text c =
    whole_name c.args.self.now _ (omega (arith, c.if-from-gt-MOST_KEPT.false, c.from.ensures))
    (nme_text (tokens_of c.to_be_bytes.result) c.characters.result.now _ _ _ _ c.put_tokens-command.result.place
    c.put_characters-printed.result.place (ap tokens_of c.to_be_bytes.ensures) c.put_tokens-command.ensures.text
    c.put_tokens-command.ensures.place c.put_characters-printed.ensures.text c.put_characters-printed.ensures.place
    c.end_of.ensures.text c.put-end.ensures.text
    ∙ ap (λ (l : List ℕ). text_with [] (nme ∷ map token_of_character l)) c.characters.ensures.shown)
