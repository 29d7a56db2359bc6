-- The names that several proofs of this crate cite, passed on from one place.
pub use Rattle.std.proofs.Common.{◌≡◌, ℕ, ◌+◌, ◌*◌, ◌≤◌, ◌<◌, ◌==◌, Bool, true, false, List, [], ◌∷◌, ◌++◌, length}
pub use Rattle.std.proofs.Common.{take, drop, Option, None, Some, IsTrue, not, ◌↔◌, refl, sym, ◌∙◌, ap, subst, arith}
pub use Rattle.std.proofs.Common.{append_assoc, append-nil, ◌%◌, zero, suc, ◌||◌, ◌⊎◌, inl, inr, get_or, codes, ◌&&◌}
pub use Rattle.std.proofs.lemmas.Bool.{eqb-true, eq-eqb, eqb-false}
pub use Rattle.std.proofs.lemmas.List.{take_all, take-append-drop, length-take-le}
pub use Rattle.std.proofs.lemmas.Result.{on_ok_weaker}
pub use Rattle.std.specs.Bool.{MatchBool}
pub use Rattle.std.specs.Fmt.{decimal}
pub use Rattle.daide_token.proofs.TokenPlaces.{tokens_of-front}
unfoldable pub use Rattle.daide_token.specs.Class.{class_of}
pub use Rattle.daide_token.specs.Names.{Named}
pub use Rattle.daide_token.specs.Token.{bra, ket, prn, tokens_of}
pub use Rattle.daide_token.specs.declared.class.Class.{Class}
pub use Rattle.daide_grammar.specs.Depth.{excess, prefixes, greatest, depth_of, open_brackets, bras, kets}
pub use Rattle.daide_grammar.specs.Paired.{begins_with_prn, IsPaired}
pub use Rattle.daide_grammar.specs.SideMessages.{dialect_from, dialect_of, IsMessageOver}
pub use Rattle.daide_grammar.specs.Table.Brackets.{is_bra, is_ket, excess_or_none}
pub use Rattle.daide_grammar.specs.Table.Symbols.{start_symbol_of}
pub use Rattle.daide_grammar.specs.Words.{Words}
pub use Rattle.daide_grammar.specs.declared.level.Level.{Level}
pub use Rattle.daide_grammar.specs.declared.level.Level.TheVariants.{L0, L10, L20, L30, L40, L50, L60}
pub use Rattle.daide_grammar.specs.declared.side.Side2.{Side2}
pub use Rattle.daide_grammar.specs.declared.side.Side2.TheVariants.{Client}
pub use Rattle.daide_reader.proofs.BodyLemmas.{tokens_of-length, place_in}
pub use Rattle.daide_reader.specs.ErrorPlace.{IsAllowedPrefix, IsErrorPlace}
pub use Rattle.daide_reader.specs.Verdict.{IsRelayed}
unfoldable pub use Rattle.daide_reader.specs.Verdict.{HasVerdict}
pub use Rattle.daide_reader.specs.ViablePrefix.{IsMessageOf}
pub use Rattle.daide_reader.specs.declared.verdict.Verdict.{Verdict}
pub use Rattle.daide_reader.specs.declared.verdict.Verdict.TheVariants.{Relay, Prn, Huh}
pub use Rattle.daide_words.proofs.AcceptedCodes.{accepted_free}
pub use Rattle.daide_words.specs.Proofs.WordDialect.{free-codes, keeps}
pub use Rattle.daide_words.specs.Proofs.WordLaws.{laws_over}
unfoldable pub use Rattle.daide_words.specs.Table.Extended.{spoken_words}
pub use Rattle.daide_words.specs.Table.OverWords.{are_free}
unfoldable pub use Rattle.daide_words.specs.Table.OverWords.{spoken}
pub use Rattle.daide_words.specs.Word.{grammar_words, names_of}
unfoldable pub use Rattle.daide_words.specs.Words.{words_of}
pub use Rattle.daide_words.specs.declared.extended.Extended.{Extended}
pub use Rattle.daide_words.specs.declared.word.Word.{Word}
pub use Rattle.daide_explain.specs.Expected.{IsExpected, IsEndExpected}
pub use Rattle.daide_explain.specs.Explained.{IsExplained, brackets_in, end_item, level_line}
unfoldable pub use Rattle.daide_explain.specs.Explained.{class_items, expected_line, items, side_line}
pub use Rattle.daide_explain.specs.Listed.{IsIn, listed_tokens, codes_of, representatives, AreExpected}
unfoldable pub use Rattle.daide_explain.specs.Listed.{IsFilteredBy}
