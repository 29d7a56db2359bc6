-- The language of a start symbol, and the messages that a gateway sends in reply.
use Rattle.daide_grammar.proofs.Common.{◌≡◌, ℕ, Bool, true, false, ◌==◌, List, [], ◌∷◌, ◌++◌, inl, inr, ◌↔◌, refl, sym}
use Rattle.daide_grammar.proofs.Common.{◌∙◌, ap, subst, append-nil, eqb-true, Prn, Huh, bra, ket, prn, huh, class_of}
use Rattle.daide_grammar.proofs.Common.{Level, L60, Side2, Matches, bracketed, begins_with_prn, IsPrnWrapped, IsPaired}
use Rattle.daide_grammar.proofs.Common.{Take, Stop, entries, may_end_of, table_answer, SymbolMatches, only_bra}
use Rattle.daide_grammar.proofs.Common.{only_ket, plain_laws}
use Rattle.daide_token.proofs.ClassLaws.{class_of-prn}
use Rattle.daide_grammar.specs.declared.side.Side2.TheVariants.{Client, ServerEnd}
use Rattle.daide_grammar.specs.declared.symbol.Sym.TheVariants.{AnyGroup}
use Rattle.daide_grammar.specs.Forms.{Form}
use Rattle.daide_grammar.specs.Message.Lists.{any}
use Rattle.daide_grammar.specs.Balanced.{IsBalanced}
use Rattle.daide_grammar.specs.Table.Symbols.{form_of, start_symbol_of}
use Rattle.daide_grammar.specs.SideMessages.{standard, message_form, IsMessage}
use Rattle.daide_grammar.proofs.BalancedLemmas.{KeepsBrackets, message-balanced, any-balanced, paired, bra-accepted}
use Rattle.daide_grammar.proofs.BalancedLemmas.{ket-accepted}

-- in the standard dialect each bracket is the only token of its class
pub standard-brackets : KeepsBrackets standard
standard-brackets = record { bras = only_bra; kets = only_ket }

-- the form of a start symbol is that of the messages of its side
pub start_symbol-form : (side : Side2) (l : Level) → form_of (start_symbol_of side l) ≡ message_form side l
unfolding form_of
start_symbol-form Client l = refl
start_symbol-form ServerEnd l = refl

-- no form begins with PRN: the reader handles PRN itself
start_symbol-stops : (side : Side2) (l : Level) → table_answer (start_symbol_of side l) Prn ≡ Stop
unfolding table_answer entries may_end_of
start_symbol-stops Client L60 = refl
start_symbol-stops ServerEnd L60 = refl
start_symbol-stops _ _ = refl

-- the token PRN has the class PRN
class-prn : (t : ℕ) → (t == prn) ≡ true → class_of t ≡ Prn
class-prn t e = ap class_of (eqb-true t prn e) ∙ class_of-prn

-- a test that cannot pass is false
pub begins-false : (b : Bool) → (b ≡ true → ⊥) → b ≡ false
begins-false true f = absurd (f refl)
begins-false false f = refl

-- so no list of a start symbol begins with PRN
form-not-prn : (side : Side2) (l : Level) (m : List ℕ) → SymbolMatches (start_symbol_of side l) m → begins_with_prn m ≡ false
form-not-prn side l [] h = refl
form-not-prn side l (t ∷ m) h =
    begins-false (t == prn) (λ e. plain_laws.stops_none (start_symbol_of side l) t
    (ap (table_answer (start_symbol_of side l)) (class-prn t e) ∙ start_symbol-stops side l) m h)

-- a list of a start symbol matches the form of its side, and conversely
to-form : (side : Side2) (l : Level) (m : List ℕ) → SymbolMatches (start_symbol_of side l) m →
    Matches standard (message_form side l) m
to-form side l m h = subst (λ (f : Form). Matches standard f m) (start_symbol-form side l) h

from-form : (side : Side2) (l : Level) (m : List ℕ) → Matches standard (message_form side l) m →
    SymbolMatches (start_symbol_of side l) m
from-form side l m h = subst (λ (f : Form). Matches standard f m) (sym (start_symbol-form side l)) h

-- a report PRN begins with PRN
pub report-begins : (m : List ℕ) → IsPrnWrapped m → begins_with_prn m ≡ false → ⊥
report-begins m r e = let f : true ≡ false = sym (ap begins_with_prn r.1) ∙ e in cc

-- a start symbol derives the messages that don't begin with PRN
pub start_symbol-language : (side : Side2) (l : Level) (m : List ℕ) →
    SymbolMatches (start_symbol_of side l) m ↔ (IsMessage side l m × (begins_with_prn m ≡ false))
start_symbol-language side l m = (
  λ h. (inr (to-form side l m h), form-not-prn side l m h),
  λ h. elim h.0 [
    | inl r ↦ absurd (report-begins m r h.1)
    | inr f ↦ from-form side l m f
  ],
)

-- every message is paired
pub message-paired : (side : Side2) (l : Level) (m : List ℕ) → IsMessage side l m → IsPaired m
unfolding paired
message-paired side l m (inl r) = inl r
message-paired side l m (inr f) =
    inr (
      form-not-prn side l m (from-form side l m f),
      message-balanced standard standard-brackets (λ s k. refl) side l
          m f,
    )

-- `any` is every list whose brackets balance
pub any-is-balanced : (m : List ℕ) → Matches standard any m ↔ IsBalanced m
unfolding paired
any-is-balanced m = any-balanced standard standard-brackets (λ s k. refl) m

-- either side may send HUH at every level
huh-taken : (side : Side2) (l : Level) → table_answer (start_symbol_of side l) Huh ≡ Take (AnyGroup ∷ [])
unfolding table_answer entries may_end_of
huh-taken Client L60 = refl
huh-taken ServerEnd L60 = refl
huh-taken _ _ = refl

-- a balanced list in brackets is a list of the symbol for `any` in brackets
any-grouped : (a : List ℕ) → IsBalanced a → SymbolMatches AnyGroup (bra ∷ (a ++ ket ∷ []))
unfolding form_of
any-grouped a h =
    bracketed bra ket (bra-accepted standard standard-brackets) ((any-is-balanced a).1 h)
    (ket-accepted standard standard-brackets)

-- the token HUH has the class HUH
pub class-huh : class_of huh ≡ Huh
unfolding class_of
class-huh = refl

-- HUH, with balanced tokens in brackets
pub huh-answer : (side : Side2) (l : Level) (a : List ℕ) → IsBalanced a → IsMessage side l (huh ∷ bra ∷ (a ++ ket ∷ []))
huh-answer side l a h =
    let s = start_symbol_of side l in
    let rest = bra ∷ (a ++ ket ∷ []) in
    let taken = plain_laws.takes s huh (AnyGroup ∷ []) (ap (table_answer s) class-huh ∙ huh-taken side l) rest in
    inr (to-form side l (huh ∷ rest) (taken.1 (rest, [], sym (append-nil rest), any-grouped a h, refl)))
