-- No symbol's language is empty: taking the first entries derives a list of it.
use Rattle.std.proofs.Common.{◌≡◌, ℕ, zero, suc, ◌<◌, Bool, true, false, ◌&&◌, nat_lt, List, [], ◌∷◌, ◌++◌, refl, sym}
use Rattle.std.proofs.Common.{◌∙◌, ap, subst, arith, ltb-true, Some}
use Rattle.std.proofs.lemmas.Bool.{eq-eqb}
use Rattle.daide_token.specs.declared.class.Class.{Class}
use Rattle.daide_token.specs.declared.class.Class.TheVariants.{Obs}
use Rattle.daide_grammar.specs.declared.level.Level.TheVariants.{L60}
use Rattle.daide_grammar.specs.declared.symbol.Sym.{Sym}
use Rattle.daide_grammar.specs.declared.symbol.Sym.TheVariants.{PressGroup, ArrangementGroup, FactGroup, OperandGroup}
use Rattle.daide_grammar.specs.declared.symbol.Sym.TheVariants.{RequestGroup, SendGroup, Request, Client, SendTail}
use Rattle.daide_grammar.specs.declared.symbol.Sym.TheVariants.{SendFirst, Send, MaybeSendGroup, Server, Press}
use Rattle.daide_grammar.specs.declared.symbol.Sym.TheVariants.{Arrangement, Operand, Operands, Fact}
use Rattle.daide_grammar.specs.Classes.{class_number, own_classes}
use Rattle.daide_grammar.specs.Forms.{TokenTest, is, any_but_brackets, Form, Dialect}
use Rattle.daide_grammar.specs.Matches.{MatchAll}
use Rattle.daide_grammar.specs.Table.Symbols.{form_of, Alternative, entries, entry_at, this_or, forms, may_end_of, slot_of}
use Rattle.daide_grammar.specs.Table.Symbols.{is_of_kind}
use Rattle.daide_grammar.specs.Table.Languages.{SymbolMatchesIn}
use Rattle.daide_grammar.specs.Proofs.Alternatives.{both-pass, MatchAll-split}
use Rattle.daide_grammar.specs.Proofs.MovesAgree.{Proper, IsStandard, standard-no-word, AllMatchIn, entry-law}
use Rattle.daide_grammar.specs.Proofs.MovesAgree.{may_end-law}

-- a class that passes the test
abbrev pub sample : TokenTest → Class
sample (is c) = c
sample any_but_brackets = Obs

-- whether the symbols end after n steps, each of which removes a symbol or replaces it by the rest of its first entry
unfoldable pub ends_in : ℕ → List Sym → Bool
ends_in n [] = true
ends_in zero (s ∷ ss) = false
ends_in (suc n) (s ∷ ss) =
    elim (may_end_of s) [
      | true ↦ ends_in n ss
      | false ↦ elim (entries s) [
        | [] ↦ false
        | e ∷ es ↦ nat_lt (class_number
            (sample e.kind)) own_classes && ends_in n (e.rest ++ ss)
      ]
    ]

-- A test that computes: every symbol ends within forty steps. The clause that fails names the symbol.
pub all_end : (s : Sym) → ends_in 40 (s ∷ []) ≡ true
unfolding ends_in entries may_end_of
all_end (PressGroup L60) = refl
all_end (ArrangementGroup L60) = refl
all_end (FactGroup L60) = refl
all_end (OperandGroup L60) = refl
all_end (RequestGroup L60) = refl
all_end (SendGroup L60) = refl
all_end (Request L60) = refl
all_end (Client L60) = refl
all_end (SendTail L60) = refl
all_end (SendFirst L60) = refl
all_end (Send L60) = refl
all_end (MaybeSendGroup L60) = refl
all_end (Server L60) = refl
all_end (Press L60) = refl
all_end (Arrangement L60) = refl
all_end (Operand L60) = refl
all_end (Operands L60) = refl
all_end (Fact L60) = refl
all_end _ = refl

-- the language has a list
abbrev pub Inhabited : Dialect → List Sym → Type 0
Inhabited d ss = (w : List ℕ) × AllMatchIn d ss w

-- the forms of two concatenated lists of symbols
forms-append : (rest ss : List Sym) → forms (rest ++ ss) ≡ forms rest ++ forms ss
forms-append [] ss = refl
forms-append (s ∷ rest) ss = ap (λ fs. form_of s ∷ fs) (forms-append rest ss)

-- a test accepts its sample
takes-sample : (k : TokenTest) → is_of_kind k (sample k) ≡ true
takes-sample (is c) = eq-eqb (class_number c) (class_number c) refl
takes-sample any_but_brackets = refl

-- a first entry that takes the class is the one that is found
first-found : (c : Class) (e : Alternative) (es : List Alternative) → is_of_kind e.kind c ≡ true → entry_at c (e ∷ es) ≡ Some e
first-found c e es h = ap (λ b. this_or b e (entry_at c es)) h

-- a class with a number below the words is a class of the protocol's own tokens
standard-below : (c : Class) → class_number c < own_classes → IsStandard c
standard-below c h k e = omega (arith, ap class_number e)

-- a nullable symbol adds the empty list
skipped : (d : Dialect) (s : Sym) (ss : List Sym) → SymbolMatchesIn d s [] → Inhabited d ss → Inhabited d (s ∷ ss)
skipped d s ss m h = (h.0, ([], h.0, m, h.1, refl))

-- a token of the first entry's class, and a list of its rest
taken : (d : Dialect) (ok : Proper d) (s : Sym) (ss : List Sym) (e : Alternative) (es : List Alternative) → entries s ≡ e ∷ es →
    class_number (sample e.kind) < own_classes → Inhabited d (e.rest ++ ss) → Inhabited d (s ∷ ss)
taken d ok s ss e es q h i =
    let tk = ok.token_of (sample e.kind) h in
    let k = MatchAll-split d (forms e.rest) (forms ss) i.0 (subst (λ (fs : List Form). MatchAll d fs i.0)
    (forms-append e.rest ss) i.1) in
    let found = subst (λ (x : List Alternative). entry_at (d.class_of tk.0) x ≡ Some e) (sym q)
    (first-found (d.class_of tk.0) e es (ap (is_of_kind e.kind) tk.1 ∙ takes-sample e.kind)) in
    let law = entry-law d ok s e tk.0 k.0 (standard-no-word d ok (slot_of s) tk.0 (subst IsStandard (sym tk.1)
    (standard-below (sample e.kind) h))) found in
    (tk.0 ∷ (k.0 ++ k.1), (tk.0 ∷ k.0, k.1, law.1 k.2, k.3, refl))

-- symbols that end in this way have a list
pub inhabited : (d : Dialect) (ok : Proper d) (n : ℕ) (ss : List Sym) → ends_in n ss ≡ true → Inhabited d ss
unfolding ends_in
inhabited d ok n [] h = ([], refl)
inhabited d ok zero (s ∷ ss) h = cc
inhabited d ok (suc n) (s ∷ ss) h = step (λ ss k. inhabited d ok n ss k) (may_end_of s) (entries s) refl refl h
  where
    step : ((ss : List Sym) → ends_in n ss ≡ true → Inhabited d ss) → (b : Bool) (es : List Alternative) → may_end_of s ≡ b →
        entries s ≡ es →
        elim b as (λ _. Bool) [
          | true ↦ ends_in n ss
          | false ↦ elim es as (λ _. Bool) [
            | [] ↦ false
            | e ∷ es ↦ nat_lt
                (class_number (sample e.kind)) own_classes && ends_in n (e.rest ++ ss)
          ]
        ] ≡ true →
        Inhabited d (s ∷ ss)
    step go true es p q e = skipped d s ss ((may_end-law d ok s).0 p) (go ss e)
    step go false [] p q e = cc
    step go false (x ∷ es) p q e =
        let r = both-pass (nat_lt (class_number (sample x.kind)) own_classes) (ends_in n
        (x.rest ++ ss)) e in taken d ok s ss x es q (ltb-true (class_number (sample x.kind)) own_classes r.0) (go
        (x.rest ++ ss) r.1)

-- every symbol has a list
pub symbol-inhabited : (d : Dialect) (ok : Proper d) (s : Sym) → (w : List ℕ) × SymbolMatchesIn d s w
symbol-inhabited d ok s = let h = inhabited d ok 40 (s ∷ []) (all_end s) in (h.1.0, h.1.2)
