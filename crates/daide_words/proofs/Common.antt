-- The names that several proofs of this crate cite, passed on from one place.
pub use Rattle.std.proofs.Common.{◌≡◌, ℕ, zero, suc, ◌+◌, ◌<◌, ◌≤◌, Bool, true, false, not, ◌&&◌, ◌||◌, ◌==◌, nat_eq}
pub use Rattle.std.proofs.Common.{nat_le, List, [], ◌∷◌, ◌++◌, length, Option, Some, None, if◌then◌else◌, refl, sym, ap}
pub use Rattle.std.proofs.Common.{◌∙◌, subst, arith, leb-true, is_ok, is_none, Result, Ok, Err, bytes_eq, leb-false}
pub use Rattle.std.proofs.Common.{map, codes, option_map, inl, inr, ◌↔◌, append-nil, take, drop, rules}
pub use Rattle.std.proofs.lemmas.Bool.{eqb-true, eq-eqb}
pub use Rattle.std.proofs.lemmas.Bool.Decides.{nat_tests}
pub use Rattle.std.proofs.lemmas.Slice.Eq.{bytes_eq-Decides}
pub use Rattle.std.specs.List.{list_any, list_all}
pub use Rattle.daide_token.specs.Class.{token_of}
unfoldable pub use Rattle.daide_token.specs.Class.{class_of}
pub use Rattle.daide_token.specs.Names.{Named}
unfoldable pub use Rattle.daide_token.specs.Names.{names, name_of, token_named}
pub use Rattle.daide_token.specs.Token.{prn, bra, ket}
pub use Rattle.daide_token.specs.declared.class.Class.{Class}
pub use Rattle.daide_token.specs.declared.class.Class.TheVariants.{Other, Word}
pub use Rattle.daide_grammar.proofs.RowsAgree.{word_unknown}
pub use Rattle.daide_grammar.specs.Classes.{class_number, same_class}
pub use Rattle.daide_grammar.specs.Level.{level_number}
pub use Rattle.daide_grammar.specs.Proofs.Alternatives.{both-pass}
pub use Rattle.daide_grammar.specs.SideMessages.{dialect_from, dialect_of, IsMessageOver}
pub use Rattle.daide_grammar.specs.Table.Answers.{TableEntry, Take, Stop, Skip}
pub use Rattle.daide_grammar.specs.Table.Languages.{SymbolMatchesIn}
pub use Rattle.daide_grammar.specs.Table.ParseActions.{is_stop}
unfoldable pub use Rattle.daide_grammar.specs.Table.ParseActions.{action}
unfoldable pub use Rattle.daide_grammar.specs.Table.Symbols.{slot_of, table_answer, entries, may_end_of, form_of}
pub use Rattle.daide_grammar.specs.Words.{most_words, AddedWord, Words, WordSlot, press_word, arrangement_word}
pub use Rattle.daide_grammar.specs.Words.{WordOperand, an_arrangement, operand_in, stands_in, word_form}
pub use Rattle.daide_grammar.specs.declared.level.Level.{Level}
pub use Rattle.daide_grammar.specs.declared.level.Level.TheVariants.{L0, L10, L20, L30, L40, L50, L60}
pub use Rattle.daide_grammar.specs.declared.numbers.TheConstants.{LEAVES_ARRANGEMENT_GROUP, LEAVES_OPERAND_GROUP}
pub use Rattle.daide_grammar.specs.declared.numbers.TheConstants.{LEAVES_PRESS_GROUP}
pub use Rattle.daide_grammar.specs.declared.side.Side2.{Side2}
pub use Rattle.daide_grammar.specs.declared.symbol.Sym.{Sym}
pub use Rattle.daide_grammar.specs.declared.symbol.Sym.TheVariants.{ProvincesGroup, Press, Client, Closing, WordList}
pub use Rattle.daide_words.specs.Accepted.{is_free_name, is_free_code, is_barred, has_press, may_hold, word_fault}
pub use Rattle.daide_words.specs.Accepted.{are_accepted_after, is_capital, are_accepted}
pub use Rattle.daide_words.specs.Proofs.WordDialect.{keeps, class-Other, free-codes}
pub use Rattle.daide_words.specs.Proofs.WordLaws.{laws_over, all-spoken}
unfoldable pub use Rattle.daide_words.specs.Table.Extended.{spoken_words}
pub use Rattle.daide_words.specs.Table.OverWords.{are_free, operand_symbol, word_answer, makes}
unfoldable pub use Rattle.daide_words.specs.Table.OverWords.{answer_over}
pub use Rattle.daide_words.specs.Table.Place.{grammar_place}
pub use Rattle.daide_words.specs.Table.Places.{place_from}
pub use Rattle.daide_words.specs.Word.{grammar_words, names_of, grammar_word, grammar_operand, grammar_slot}
pub use Rattle.daide_words.specs.Words.{word_at}
unfoldable pub use Rattle.daide_words.specs.Words.{words_of}
pub use Rattle.daide_words.specs.declared.operand.Operand.{Operand}
pub use Rattle.daide_words.specs.declared.slot.Slot.{Slot}
pub use Rattle.daide_words.specs.declared.word.WordError.{WordError}
