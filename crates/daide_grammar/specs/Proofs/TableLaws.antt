-- The laws of the trait, proved for this table in any dialect, for the tokens that begin no added word.
use Rattle.std.proofs.Common.{◌≡◌, ℕ, List, [], ◌∷◌, ◌↔◌, sym, arith}
use Rattle.daide_token.specs.declared.class.Class.TheVariants.{Bra, Ket}
use Rattle.daide_grammar.specs.declared.symbol.Sym.{Sym}
use Rattle.daide_grammar.specs.Forms.{Dialect}
use Rattle.daide_grammar.specs.Table.Symbols.{may_end_of, slot_of, table_answer}
use Rattle.daide_grammar.specs.Table.Stacks.{StackMatches}
use Rattle.daide_grammar.specs.Table.LawfulStack.{IsLawful, word, skip}
use Rattle.daide_grammar.specs.Table.Laws.{IsCorrectPrediction}
use Rattle.daide_token.specs.Token.{bra, ket}
use Rattle.daide_grammar.specs.Table.Languages.{SymbolMatchesIn}
use Rattle.daide_grammar.specs.Proofs.MovesAgree.{Proper, NoWord, AllMatchIn, take-law, skip-law, stop-law, may_end-law}
use Rattle.daide_grammar.specs.Proofs.StacksInOrder.{table-moves}
use Rattle.daide_grammar.specs.Proofs.StacksStaySmall.{Lawful-short, Lawful-apart, Lawful-open, Lawful-close}
use Rattle.daide_grammar.specs.Proofs.StacksStaySmall.{Lawful-skips, Lawful-ends}
use Rattle.daide_grammar.specs.Proofs.NoLanguageIsEmpty.{symbol-inhabited}

-- the concatenation of the symbols' forms is the concatenation of their languages
pub follows : (d : Dialect) (ss : List Sym) (w : List ℕ) → AllMatchIn d ss w → StackMatches (SymbolMatchesIn d) ss w
follows d [] w h = h
follows d (s ∷ ss) w h = (h.0, h.1, sym h.4, h.2, follows d ss h.1 h.3)

pub followed : (d : Dialect) (ss : List Sym) (w : List ℕ) → StackMatches (SymbolMatchesIn d) ss w → AllMatchIn d ss w
followed d [] w h = h
followed d (s ∷ ss) w h = (h.0, h.1, h.3, followed d ss h.1 h.4, sym h.2)

-- the laws of a table whose dialect adds no words
pub table_laws : (d : Dialect) (ok : Proper d) → ((s : Sym) (t : ℕ) → NoWord d (slot_of s) t) →
    ((t : ℕ) → (d.class_of t ≡ Bra) ↔ (t ≡ bra)) → ((t : ℕ) → (d.class_of t ≡ Ket) ↔ (t ≡ ket)) →
    IsCorrectPrediction d.class_of (SymbolMatchesIn d) table_answer may_end_of (IsLawful table_answer)
table_laws d ok none bras kets = record {
  only_bra = bras;
  only_ket = kets;
  takes = λ s t rest a w. let k = take-law d ok s rest t w (none s t) a in (
    λ m. follows d rest w (k.0 m),
    λ m. k.1
        (followed d rest w m),
  );
  skips_empty = λ s t a. (skip-law d ok s t (none s t) a).0;
  skips_none = λ s t a. (skip-law d ok s t (none s t) a).1;
  stops_empty = λ s t a. (stop-law d ok s t (none s t) a).0;
  stops_none = λ s t a. (stop-law d ok s t (none s t) a).1;
  ends = may_end-law d ok;
  no_language_is_empty = symbol-inhabited d ok;
  neighbours_differ = Lawful-apart table-moves;
  lawful_skip = λ s c stack k l a. skip {s = s} c a l;
  lawful_take = λ s c rest stack k l a b n. word {s = s} c b n a l;
  lawful_open = Lawful-open;
  lawful_close = Lawful-close table-moves;
  few_entries = Lawful-short table-moves;
  few_skips = λ stack k c l. omega (arith, Lawful-skips table-moves stack k c l);
  few_ends = λ stack l. omega (arith, Lawful-ends table-moves stack 0 l);
}
