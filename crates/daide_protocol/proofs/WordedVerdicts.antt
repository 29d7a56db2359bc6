-- The verdicts of a reader over a table with an operator's words are those of the grammar over these words.
use Rattle.std.proofs.Common.{◌↔◌}
use Rattle.daide_protocol.proofs.Common.{◌≡◌, if◌then◌else◌, ℕ, Bool, true, false, List, [], inl, inr, refl, Level}
use Rattle.daide_protocol.proofs.Common.{Client, ServerEnd, Words, Verdict}
use Rattle.daide_grammar.specs.declared.side.Side2.{Side2}
use Rattle.daide_grammar.specs.Matches.{Matches}
use Rattle.daide_grammar.specs.SideMessages.{dialect_of, message_form, IsMessageOver}
use Rattle.daide_grammar.specs.Table.Languages.{SymbolMatchesIn}
use Rattle.daide_grammar.specs.Table.Symbols.{form_of, start_symbol_of}
use Rattle.daide_words.specs.Table.OverWords.{are_free, spoken, spoken_dialect}
use Rattle.daide_words.specs.Proofs.WordLaws.{all-spoken}
use Rattle.daide_words.proofs.OverMessages.{start_symbol-language}
use Rattle.daide_reader.specs.ViablePrefix.{IsMessageOf}
use Rattle.daide_reader.specs.Verdict.{HasVerdict}
use Rattle.daide_reader.proofs.VerdictLemmas.{verdict_along}

-- a list that matches a side's form is derived by its start symbol
opening_has : (words : Words) (side : Side2) (l : Level) (m : List ℕ) →
    Matches (dialect_of words) (message_form side l) m → SymbolMatchesIn (dialect_of words) (start_symbol_of side l) m
unfolding form_of
opening_has words Client l m h = h
opening_has words ServerEnd l m h = h

-- the messages of the table's start symbol are those of its side and level
pub worded_messages : (words : Words) → are_free words ≡ true → (side : Side2) (l : Level) (m : List ℕ) →
    IsMessageOf (SymbolMatchesIn (dialect_of words) (start_symbol_of side l)) m ↔ IsMessageOver words side l m
worded_messages words free side l m = (there, back)
  where
    there : IsMessageOf (SymbolMatchesIn (dialect_of words) (start_symbol_of side l)) m → IsMessageOver words side l m
    there (inl report) = inl report
    there (inr (_, h)) = ((start_symbol-language words free side l m).0 h).0

    back : IsMessageOver words side l m → IsMessageOf (SymbolMatchesIn (dialect_of words) (start_symbol_of side l)) m
    back (inl report) = inl report
    back (inr h) =
        let opened = opening_has words side l m h in
        inr (((start_symbol-language words free side l m).0 opened).1, opened)

-- and so are the verdicts
pub worded_verdicts : (words : Words) → are_free words ≡ true → (side : Side2) (l : Level) (max_depth : ℕ) (m : List ℕ)
    (v : Verdict) → HasVerdict (IsMessageOf (SymbolMatchesIn (dialect_of words) (start_symbol_of side l))) max_depth m v →
    HasVerdict (IsMessageOver words side l) max_depth m v
worded_verdicts words free side l max_depth m v =
    verdict_along (IsMessageOf (SymbolMatchesIn (dialect_of words) (start_symbol_of side l))) (IsMessageOver words side l)
    (worded_messages words free side l) max_depth m v

-- and conversely
worded_back : (words : Words) → are_free words ≡ true → (side : Side2) (l : Level) (max_depth : ℕ) (m : List ℕ)
    (v : Verdict) → HasVerdict (IsMessageOver words side l) max_depth m v →
    HasVerdict (IsMessageOf (SymbolMatchesIn (dialect_of words) (start_symbol_of side l))) max_depth m v
worded_back words free side l max_depth m v =
    let same = worded_messages words free side l in
    verdict_along (IsMessageOver words side l) (IsMessageOf (SymbolMatchesIn (dialect_of words) (start_symbol_of side l)))
    (λ n. ((same n).1, (same n).0)) max_depth m v

-- the words that a table takes into account have free codes
spoken_free : (words : Words) → are_free (spoken words) ≡ true
unfolding spoken
spoken_free words = go (are_free words) refl
  where
    go : (b : Bool) → are_free words ≡ b → are_free (if b then words else []) ≡ true
    go true e = e
    go false e = refl

-- a reader over a table judges by the words that the table takes into account
pub spoken_verdicts : (words : Words) (side : Side2) (l : Level) (max_depth : ℕ) (m : List ℕ) (v : Verdict) →
    HasVerdict (IsMessageOf (SymbolMatchesIn (spoken_dialect words) (start_symbol_of side l))) max_depth m v →
    HasVerdict (IsMessageOver (spoken words) side l) max_depth m v
spoken_verdicts words side l max_depth m v =
    worded_verdicts (spoken words) (spoken_free words) side l max_depth m v

-- if the codes of the words are free, these are all the words
pub free_verdicts : (words : Words) → are_free words ≡ true → (side : Side2) (l : Level) (max_depth : ℕ) (m : List ℕ)
    (v : Verdict) → HasVerdict (IsMessageOf (SymbolMatchesIn (spoken_dialect words) (start_symbol_of side l))) max_depth m v ↔
    HasVerdict (IsMessageOver words side l) max_depth m v
free_verdicts words free side l max_depth m v =
    let both : HasVerdict (IsMessageOf (SymbolMatchesIn (dialect_of words) (start_symbol_of side l))) max_depth m v ↔
    HasVerdict (IsMessageOver words side l) max_depth m v =
    (worded_verdicts words free side l max_depth m v, worded_back words free side l max_depth m v) in
    rw (all-spoken words free) both
