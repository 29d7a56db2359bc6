-- The names that several proofs of this crate cite, passed on from one place.
pub use Rattle.std.proofs.Common.{◌≡◌, ℕ, zero, suc, ◌+◌, ◌<◌, Bool, true, List, [], ◌∷◌, length, get_or, map, refl}
pub use Rattle.std.proofs.Common.{sym, ap, ◌∙◌, arith, false, ◌==◌, ◌≢◌, ◌&&◌, ◌++◌, ◌↔◌, subst, append_assoc}
pub use Rattle.std.proofs.Common.{append-nil, None, inl, inr, if◌then◌else◌, ◌*◌, ◌/◌, ◌%◌, nat_eq, drop, ◌-◌, ◌≤◌, max}
pub use Rattle.std.proofs.Common.{◌||◌, nat_lt, cond, Option, Some, take, nat_le, not, reverse, ltb-true, slice_index}
pub use Rattle.std.proofs.Math.ListN.{get_or-map}
pub use Rattle.std.proofs.lemmas.Bool.{and_parts, eq-eqb, eqb-true}
pub use Rattle.std.proofs.lemmas.Bool.Decides.{nat_tests}
pub use Rattle.std.specs.List.{list_all, range_with_len}
pub use Rattle.daide_token.proofs.ClassLaws.{standard_class}
pub use Rattle.daide_token.specs.Class.{is_standard}
unfoldable pub use Rattle.daide_token.specs.Class.{class_of}
unfoldable pub use Rattle.daide_token.specs.Text.{text_of}
pub use Rattle.daide_token.specs.Token.{bra, ket, prn, huh, err}
pub use Rattle.daide_token.specs.declared.class.Class.{Class}
pub use Rattle.daide_token.specs.declared.class.Class.TheVariants.{Bra, Ket, Num, Power, Season, Text, Other, Prn, Huh}
pub use Rattle.daide_token.specs.declared.class.Class.TheVariants.{Adm, Aly, And, Bwx, Ccd, Dmz, Drw, Fct, Frm, Gof}
pub use Rattle.daide_token.specs.declared.class.Class.TheVariants.{Hlo, Hst, Iam, Idk, Ins, Lod, Map, Mdf, Mis, Nme}
pub use Rattle.daide_token.specs.declared.class.Class.TheVariants.{Not, Now, Obs, Occ, Off, Ord, Orr, Out, Pce, Qry}
pub use Rattle.daide_token.specs.declared.class.Class.TheVariants.{Rej, Scd, Sco, Slo, Smr, Snd, Sry, Sub, Sug, Sve}
pub use Rattle.daide_token.specs.declared.class.Class.TheVariants.{Thk, Thx, Tme, Try, Xdo, Yes, Word, Via, Wve, Vss}
pub use Rattle.daide_grammar.specs.Classes.{class_number, same_class, own_classes}
pub use Rattle.daide_grammar.specs.Level.{level_number}
pub use Rattle.daide_grammar.specs.Matches.{rule, Matches, token, nothing, both, first, second, no_more, one_more}
pub use Rattle.daide_grammar.specs.Matches.{bracketed, by_name}
pub use Rattle.daide_grammar.specs.Paired.{IsPaired, IsPrnWrapped, begins_with_prn}
pub use Rattle.daide_grammar.specs.Proofs.Alternatives.{both-pass}
pub use Rattle.daide_grammar.specs.Proofs.MovesAgree.{no-yes}
pub use Rattle.daide_grammar.specs.Proofs.Numbers.{class_number_back, number_back}
pub use Rattle.daide_grammar.specs.Proofs.PlainLaws.{only_bra, only_ket, plain_begins, plain_laws}
pub use Rattle.daide_grammar.specs.Table.Answers.{Take, Stop, TableEntry, Skip}
pub use Rattle.daide_grammar.specs.Table.Cells.{column_at, next_at, rule_at}
unfoldable pub use Rattle.daide_grammar.specs.Table.Cells.{class_cell, first_at, row_cell}
pub use Rattle.daide_grammar.specs.Table.Languages.{SymbolMatches}
pub use Rattle.daide_grammar.specs.Table.LawfulStack.{IsLawful}
pub use Rattle.daide_grammar.specs.Table.Numbers.{all_classes, bracket_step, class_at, classes, symbols, all_symbols}
pub use Rattle.daide_grammar.specs.Table.Numbers.{symbol_number, symbol_at, is_bracket, word_number}
pub use Rattle.daide_grammar.specs.Table.ParseActions.{rest_of, all_rules, HasRule, is_take, is_stop}
unfoldable pub use Rattle.daide_grammar.specs.Table.ParseActions.{action, rest_of_action}
pub use Rattle.daide_grammar.specs.Table.Stacks.{StackMatches, stack_after}
pub use Rattle.daide_grammar.specs.Table.Symbols.{is_of_kind, Alternative, on, answer_by, entry_at, this_or}
unfoldable pub use Rattle.daide_grammar.specs.Table.Symbols.{entries, may_end_of, table_answer}
pub use Rattle.daide_grammar.specs.declared.level.Level.{Level}
pub use Rattle.daide_grammar.specs.declared.level.Level.TheVariants.{L60, L0, L10, L20, L30, L40, L50}
pub use Rattle.daide_grammar.specs.declared.side.Side2.{Side2}
pub use Rattle.daide_grammar.specs.declared.symbol.Sym.{Sym}
pub use Rattle.daide_grammar.specs.declared.table.rows.TheConstants.{TABLE}
