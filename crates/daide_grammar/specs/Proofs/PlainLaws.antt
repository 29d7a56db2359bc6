-- The laws of prediction for the protocol's own grammar.
use Rattle.std.proofs.Common.{◌≡◌, ℕ, [], ◌∷◌, ◌↔◌, ◌∙◌, ap}
use Rattle.daide_token.specs.declared.class.Class.TheVariants.{Bra, Ket}
use Rattle.daide_token.specs.Class.{class_of}
use Rattle.daide_token.specs.Token.{bra, ket}
use Rattle.daide_token.proofs.ClassLaws.{class_bra, class_ket, class_of-bra, class_of-ket}
use Rattle.daide_grammar.specs.declared.side.Side2.{Side2}
use Rattle.daide_grammar.specs.declared.level.Level.{Level}
use Rattle.daide_grammar.specs.Table.Symbols.{slot_of, may_end_of, table_answer, start_symbol_of}
use Rattle.daide_grammar.specs.SideMessages.{standard}
use Rattle.daide_grammar.specs.Table.Languages.{SymbolMatches}
use Rattle.daide_grammar.specs.Table.LawfulStack.{IsLawful, start_symbol}
use Rattle.daide_grammar.specs.Table.Laws.{IsCorrectPrediction}
use Rattle.daide_grammar.specs.Proofs.StandardDialect.{standard-proper, standard-words}
use Rattle.daide_grammar.specs.Proofs.TableLaws.{table_laws}

-- a bracket is the only token of its class
pub only_bra : (t : ℕ) → (class_of t ≡ Bra) ↔ (t ≡ bra)
only_bra t = (class_bra t, λ e. ap class_of e ∙ class_of-bra)

pub only_ket : (t : ℕ) → (class_of t ≡ Ket) ↔ (t ≡ ket)
only_ket t = (class_ket t, λ e. ap class_of e ∙ class_of-ket)

-- the table satisfies the laws of prediction
pub plain_laws : IsCorrectPrediction class_of SymbolMatches table_answer may_end_of (IsLawful table_answer)
plain_laws = table_laws standard standard-proper (λ s t. standard-words (slot_of s) t) only_bra only_ket

-- a start symbol alone is a lawful stack
pub plain_begins : (side : Side2) (level : Level) → IsLawful table_answer (start_symbol_of side level ∷ []) 0
plain_begins side level = start_symbol side level
