use Rattle.std.proofs.Common.{◌≢◌, Bor, lit<}
use Rattle.std.specs.Option.{MatchOption}
use Rattle.std.proofs.lemmas.Str.Pattern.{strip_prefix_char}
use Rattle.daide_token.proofs.Common.{◌≡◌, ℕ, true, List, [], ◌∷◌, Option, None, Some, option_map, ap, ◌∙◌, eqb-true}
use Rattle.daide_token.proofs.Common.{is_spaced, name_of_cell}
use Rattle.daide_token.proofs.names.name_of.Goals as goal

-- a cell without its space is its name
without_space : (cell : List ℕ) (r : Option (Bor (List ℕ))) (name : Option (List ℕ)) → name_of_cell cell ≡ name →
    is_spaced cell ≡ true → MatchOption r ((rest : List ℕ) → cell ≢ 32 ∷ rest) (λ x. cell ≡ 32 ∷ x.now) →
    option_map (λ (x : Bor (List ℕ)). x.now) r ≡ name
without_space [] None name e s m = e
without_space [] (Some x) name e s m = absurd (cc)
without_space (space ∷ letters) None name e s m =
    absurd (m letters (ap (λ (c : ℕ). c ∷ letters) (eqb-true space 32 s)))
without_space (space ∷ letters) (Some x) name e s m =
    let same : x.now ≡ letters = cc in ap Some same ∙ e

pub returns : goal.returns
returns c =
    without_space c.spaced_name_of.result.now c.strip_prefix.result _ c.spaced_name_of.ensures.name c.spaced_name_of.ensures.spaced
    (strip_prefix_char 32 c.spaced_name_of.result.now c.strip_prefix.result c.strip_prefix.ensures.cases (lit< tt))
