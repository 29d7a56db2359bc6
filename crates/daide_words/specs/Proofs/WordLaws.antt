-- The laws of prediction, with words of free codes.
use Rattle.std.proofs.Common.{◌≡◌, Bool, true, false, [], ◌∷◌, refl, ap, arith, if◌then◌else◌}
use Rattle.daide_grammar.specs.declared.level.Level.{Level}
use Rattle.daide_grammar.specs.declared.side.Side2.{Side2}
use Rattle.daide_grammar.specs.Table.Symbols.{may_end_of, start_symbol_of}
use Rattle.daide_grammar.specs.SideMessages.{dialect_of}
use Rattle.daide_grammar.specs.Table.Languages.{SymbolMatchesIn}
use Rattle.daide_grammar.specs.Table.LawfulStack.{IsLawful, start_symbol, word, skip}
use Rattle.daide_grammar.specs.Table.Laws.{IsCorrectPrediction}
use Rattle.daide_grammar.specs.Words.{Words}
use Rattle.daide_grammar.specs.Proofs.MovesAgree.{may_end-law}
use Rattle.daide_grammar.specs.Proofs.StacksStaySmall.{Lawful-short, Lawful-apart, Lawful-open, Lawful-close}
use Rattle.daide_grammar.specs.Proofs.StacksStaySmall.{Lawful-skips, Lawful-ends}
use Rattle.daide_grammar.specs.Proofs.NoLanguageIsEmpty.{symbol-inhabited}
use Rattle.daide_grammar.specs.Proofs.TableLaws.{follows, followed}
use Rattle.daide_words.specs.Table.OverWords.{answer_over, are_free, spoken, spoken_dialect}
use Rattle.daide_words.specs.Proofs.WordMoves.{takes-over, skips-over, stops-over}
use Rattle.daide_words.specs.Proofs.WordStacks.{word-moves}
use Rattle.daide_words.specs.Proofs.WordDialect.{words-proper, only_bra_with, only_ket_with}

-- any list of words with free codes keeps the laws of prediction
pub laws_over : (words : Words) → are_free words ≡ true →
    IsCorrectPrediction (dialect_of words).class_of (SymbolMatchesIn (dialect_of words)) (answer_over words) may_end_of
    (IsLawful (answer_over words))
laws_over words f =
    let d = dialect_of words in
    let ok = words-proper words f in
    let moves = word-moves words in
    record {
      only_bra = only_bra_with words f;
      only_ket = only_ket_with words f;
      takes = λ s t rest a w. let k = takes-over words ok s t rest w a in
          (λ m. follows d rest w (k.0 m), λ m. k.1 (followed d rest w m));
      skips_empty = λ s t a. (skips-over words ok s t a).0;
      skips_none = λ s t a. (skips-over words ok s t a).1;
      stops_empty = λ s t a. (stops-over words ok s t a).0;
      stops_none = λ s t a. (stops-over words ok s t a).1;
      ends = may_end-law d ok;
      no_language_is_empty = symbol-inhabited d ok;
      neighbours_differ = Lawful-apart moves;
      lawful_skip = λ s c stack k l a. skip {s = s} c a l;
      lawful_take = λ s c rest stack k l a b n. word {s = s} c b n a l;
      lawful_open = Lawful-open;
      lawful_close = Lawful-close moves;
      few_entries = Lawful-short moves;
      few_skips = λ stack k c l. omega (arith, Lawful-skips moves stack k c l);
      few_ends = λ stack l. omega (arith, Lawful-ends moves stack 0 l);
    }

-- the words that a table takes into account have free codes
spoken-free : (words : Words) → are_free (spoken words) ≡ true
unfolding spoken
spoken-free words = go (are_free words) refl
  where
    go : (b : Bool) → are_free words ≡ b → are_free (if b then words else []) ≡ true
    go true e = e
    go false e = refl

-- a table takes all words with free codes into account
pub all-spoken : (words : Words) → are_free words ≡ true → spoken words ≡ words
unfolding spoken
all-spoken words f = ap (λ b. if b then words else []) f

-- so a table's words keep the laws
pub spoken_laws : (words : Words) →
    IsCorrectPrediction (spoken_dialect words).class_of (SymbolMatchesIn (spoken_dialect words)) (answer_over (spoken words))
    may_end_of (IsLawful (answer_over (spoken words)))
spoken_laws words = laws_over (spoken words) (spoken-free words)

-- a start symbol alone is a stack that can arise
pub spoken_begins : (words : Words) (side : Side2) (level : Level) →
    IsLawful (answer_over (spoken words)) (start_symbol_of side level ∷ []) 0
spoken_begins words side level = start_symbol side level
