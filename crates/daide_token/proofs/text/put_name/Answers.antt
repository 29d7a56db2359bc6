use Rattle.daide_token.proofs.Common.{◌≡◌, ℕ, List, [], ◌∷◌, ◌++◌, length, get_or, refl, ap, ◌∙◌, arith, take}
use Rattle.daide_token.proofs.text.put_name.Goals as goal

letters : (name : List ℕ) → length name ≡ 3 → get_or name 0 0 ∷ get_or name 1 0 ∷ get_or name 2 0 ∷ [] ≡ name
letters [] e = absurd (omega arith)
letters (a ∷ []) e = absurd (omega arith)
letters (a ∷ b ∷ []) e = absurd (omega arith)
letters (a ∷ b ∷ c ∷ []) e = refl
letters (a ∷ b ∷ c ∷ d ∷ rest) e = absurd (omega arith)

pub returns-clause-text : goal.returns-clause-text
returns-clause-text c =
    let same = c.as_bytes.ensures.value in
    let three = letters c.as_bytes.result.now (ap length same ∙ c.requires.three) ∙ same in
    c.put.ensures.text ∙ ap (λ (t : List ℕ). take c.args.len c.args.line.now ++ t) three
