use Rattle.daide_grammar.proofs.Common.{Bool, true, false, not, ◌&&◌, ◌||◌, ℕ, List, [], ◌∷◌, inl, inr, refl, ap, arith}
use Rattle.daide_grammar.proofs.Common.{slice_index, bra, ket, prn, IsPaired, L0, L10, L60}
use Rattle.daide_grammar.specs.Balanced.{IsBalanced, bracketed, plain}
use Rattle.daide_grammar.specs.declared.side.Side2.TheVariants.{Client as BotSide, ServerEnd}
use Rattle.daide_grammar.proofs.Apart.{numbers_apart, true_no_false}
use Rattle.daide_grammar.proofs.law_facts.messages_at_values.Goals as goal

pub returns-clause-start_symbol : goal.returns-clause-start_symbol
returns-clause-start_symbol c m said =
    true_no_false ((c.start_symbol_stands_for_messages.ensures BotSide L60 (prn ∷ m)).0 said).1

pub returns-clause-any : goal.returns-clause-any
returns-clause-any c =
    (c.any_is_balanced.ensures (bra ∷ 0x4803 ∷ ket ∷ [])).1
    (bracketed (0x4803 ∷ []) (plain 0x4803 (numbers_apart 0x4803 bra refl) (numbers_apart 0x4803 ket refl)))

pub returns-clause-balanced : goal.returns-clause-balanced
returns-clause-balanced c m matches = (c.any_is_balanced.ensures (ket ∷ m)).0 matches

no_report : (m : List ℕ) → IsPaired (0x4803 ∷ m) → IsBalanced (0x4803 ∷ m)
no_report m paired = elim paired [
  | inl report ↦ absurd (numbers_apart 0x4803 prn refl (ap (λ (l : List ℕ). slice_index l 0) report.1))
  | inr other ↦ other.1
]

pub returns-clause-paired : goal.returns-clause-paired
returns-clause-paired c m said = no_report m (c.messages_are_paired.ensures BotSide L60 (0x4803 ∷ m) said)

pub returns-clause-levels : goal.returns-clause-levels
returns-clause-levels c m = c.levels_only_add.ensures ServerEnd L10 L60 m (omega arith)

pub returns-clause-word : goal.returns-clause-word
returns-clause-word c word other =
    c.other_messages_stay.ensures (word ∷ []) BotSide L0 (0x4803 ∷ [])
    (ap (λ (b : Bool). not (b || false) && true) other)
