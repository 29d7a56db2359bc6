-- The names that several proofs of this crate cite, passed on from one place.
pub use Rattle.std.proofs.Common.{◌≡◌, ℕ, false, List, ◌++◌, refl, ap, ◌∙◌, append_assoc, Bool, true, [], ◌∷◌, subst}
pub use Rattle.std.proofs.Common.{not, codes, map, replicate, ◌≤◌, length, take, drop, sym, Ok, Err, Some, None, ◌+◌}
pub use Rattle.std.proofs.Common.{Result, unwrap_or, get_or, Option, inl, inr, ◌⊎◌, ◌-◌, arith, length-append}
pub use Rattle.std.proofs.Common.{append-nil, IfOk, ◌*◌, rules}
pub use Rattle.std.proofs.lemmas.List.{take-append-le, length-take-le}
pub use Rattle.std.specs.Bool.{MatchBool}
unfoldable pub use Rattle.std.specs.Fmt.{digits}
pub use Rattle.std.specs.List.{range_with_len, slice_split}
unfoldable pub use Rattle.hex.specs.Hex.{decode_pairs}
pub use Rattle.hex.specs.declared.error.FromHexError.{FromHexError}
pub use Rattle.daide_token.specs.Token.{tokens_of}
pub use Rattle.daide_frame.specs.declared.code.Code.{Code}
pub use Rattle.daide_frame.specs.declared.head.Kind.{Kind}
pub use Rattle.daide_frame.specs.declared.head.Kind.TheVariants.{Im, Em, Rm, Dm, Fm}
pub use Rattle.daide_frame.specs.declared.side.Side.TheVariants.{Bot}
pub use Rattle.daide_grammar.specs.SideMessages.{IsMessageOver}
pub use Rattle.daide_grammar.specs.declared.level.Level.{Level}
pub use Rattle.daide_grammar.specs.declared.level.Level.TheVariants.{L0}
pub use Rattle.daide_reader.proofs.VerdictLemmas.{verdict_is_one}
pub use Rattle.daide_reader.specs.declared.verdict.Verdict.{Verdict}
pub use Rattle.daide_reader.specs.declared.verdict.Verdict.TheVariants.{Relay, Prn, Huh}
pub use Rattle.daide_words.specs.Word.{grammar_words}
unfoldable pub use Rattle.daide_words.specs.Words.{words_of}
pub use Rattle.daide_words.specs.declared.word.Word.{Word}
pub use Rattle.daide_protocol.specs.Answers.{answer_body}
pub use Rattle.daide_protocol.specs.Bounds.{longest_body, greatest_depth}
pub use Rattle.daide_protocol.specs.Machine.{side2_of}
pub use Rattle.daide_show.specs.Groups.{odd_group_of}
pub use Rattle.daide_show.specs.Input.{digits_from, is_blank, limit, parse_hex, digits_of}
pub use Rattle.daide_show.specs.declared.frame_view.ShowFault.{ShowFault}
pub use Rattle.daide_show.specs.declared.frame_view.ShowFault.TheVariants.{NotHex, TooLong, NotOneFrame}
pub use Rattle.daide_show.specs.declared.frame_view.places.Place.{Place}
