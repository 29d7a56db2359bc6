use Rattle.daide_log.proofs.Common.{ℕ, List, [], ◌∷◌, ◌++◌, ◌∙◌, ap, append_assoc}
use Rattle.daide_log.proofs.RecordHead.{word_put}
use Rattle.daide_log.proofs.record_text.put_word.Goals as goal

pub returns-clause-text : goal.returns-clause-text
returns-clause-text c =
    word_put c.args.word c.args.line.now.items c.put.new.line.items c.put-2.new.line.items c.put-3.new.line.items
    c.put_bytes.new.line.items c.put_name.new.line.items c.put_number.new.line.items c.put_name-2.new.line.items c.to_be.result
    (32 ∷ (c.name.result.now ++ 32 ∷ [])) (32 ∷ (c.name-2.result.now ++ 10 ∷ [])) c.number.result c.to_be.ensures
    (ap (λ (l : List ℕ). 32 ∷ (l ++ 32 ∷ [])) c.name.ensures.name)
    c.number.ensures (ap (λ (l : List ℕ). 32 ∷ (l ++ 10 ∷ [])) c.name-2.ensures.name)
    c.put.ensures.text c.put-2.ensures.text c.put-3.ensures.text
    c.put_bytes.ensures.text
    (c.put_name.ensures.text ∙ append_assoc c.put_bytes.new.line.items (32 ∷ c.name.result.now) (32 ∷ []))
    c.put_number.ensures.text
    (c.put_name-2.ensures.text ∙ append_assoc c.put_number.new.line.items (32 ∷ c.name-2.result.now) (10 ∷ []))
