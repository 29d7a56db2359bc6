-- The part at fault among the entries left is that among all.
use Rattle.daide_settings.proofs.Common.{◌≡◌, ◌≤◌, ◌+◌, ◌-◌, ℕ, List, [], ◌∷◌, Result, Ok, Option, length, take, drop}
use Rattle.daide_settings.proofs.Common.{get_or, sym, ap, ◌∙◌, arith, Value, items_view, view, Word, added, unfit_part}
use Rattle.daide_settings.specs.declared.settings.parts.Field.{Field}
use Rattle.daide_settings.specs.Parts.{unfit_after}
use Rattle.daide_settings.proofs.ReportLemmas.{take_all}

-- the first entry left has a word that is accepted
pub unfit_next : (place : ℕ) (before more : List Word) (default : Value) (rest : List Value) (n : ℕ) →
    1 ≤ length rest → length rest - 1 ≤ n → added before (view (get_or rest 0 default)) ≡ Ok more →
    unfit_part (place + 1) more (items_view (take n (drop 1 rest))) ≡ unfit_part place before (items_view rest)
unfit_next place before more default [] n some long e = absurd (omega arith)
unfit_next place before more default (entry ∷ others) n some long e =
    let same : place + 1 ≡ 1 + place = omega arith in
    ap (λ (at : ℕ). unfit_part at more (items_view (take n others))) same
    ∙ ap (λ (l : List Value). unfit_part (1 + place) more (items_view l)) (take_all n others (omega (arith, long)))
    ∙ sym (ap (λ (r : Result (List Word) (Option Field)).
    unfit_after place r (λ words. unfit_part (1 + place) words (items_view others))) e)
