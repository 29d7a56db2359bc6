-- The names that several proofs of this crate cite, passed on from one place.
pub use Rattle.std.proofs.Common.{◌≡◌, ℕ, ◌+◌, ◌*◌, ◌/◌, suc, List, [], ◌∷◌, length, take, refl, ap, arith, ◌≢◌, zero}
pub use Rattle.std.proofs.Common.{◌-◌, ◌%◌, ◌^◌, ◌<◌, ◌≤◌, Bool, true, false, Option, Some, None, IfSome, ◌++◌, get_or}
pub use Rattle.std.proofs.Common.{reverse, sym, ◌∙◌, subst, IsSome, append_assoc, append-nil, if◌then◌else◌, ◌⊎◌, ◌↔◌}
pub use Rattle.std.proofs.Common.{inl, inr, ◌==◌, ◌||◌, is_some, IfNone, drop, nat_eq, ◌&&◌, add-one, rules}
pub use Rattle.std.proofs.Math.Seq.{drop-length, take-length}
pub use Rattle.std.proofs.lemmas.Bool.{cases_lt, eqb-true}
pub use Rattle.std.proofs.lemmas.Bool.Decides.{nat_tests}
pub use Rattle.std.proofs.lemmas.List.{reverse-append, reverse-reverse, length-append, length-take-le, take_all}
pub use Rattle.std.proofs.lemmas.List.{length-drop, take-append-drop}
pub use Rattle.std.specs.List.{list_all}
pub use Rattle.std.specs.Option.{unwrap_or}
pub use Rattle.daide_token.specs.Token.{tokens_of, prn, bra, ket}
pub use Rattle.daide_token.specs.declared.class.Class.{Class}
pub use Rattle.daide_grammar.proofs.Counting.{excess_or_none-snoc}
pub use Rattle.daide_grammar.specs.Paired.{begins_with_prn, IsPrnWrapped}
pub use Rattle.daide_grammar.specs.Table.Answers.{TableEntry, Take, Skip, Stop}
pub use Rattle.daide_grammar.specs.Table.Brackets.{is_bra, is_ket, excess_or_none, count_one}
pub use Rattle.daide_grammar.specs.Table.Laws.{IsCorrectPrediction}
pub use Rattle.daide_grammar.specs.Table.ParseActions.{is_take, is_stop, rest_of}
pub use Rattle.daide_grammar.specs.Table.Stacks.{stack_after, ends_asked, StackMatches}
pub use Rattle.daide_grammar.specs.Words.{Words}
pub use Rattle.daide_grammar.specs.declared.level.Level.{Level}
pub use Rattle.daide_grammar.specs.declared.predict.Predict.{Ghosts}
pub use Rattle.daide_grammar.specs.declared.side.Side2.{Side2}
pub use Rattle.daide_grammar.specs.declared.symbol.Sym.{Sym}
pub use Rattle.daide_reader.specs.Bounds.{below_zero, most_tokens}
pub use Rattle.daide_reader.specs.Outline.{IsOutlineOf, with_token, first_is, outline_of, count_all, has_outer_brackets}
pub use Rattle.daide_reader.specs.Reading.{Expects, HasErrorIndex, StackOrPlace, Reading, HasReadPrefix, IsSteady}
pub use Rattle.daide_reader.specs.Reading.{steps_since, brackets_open, reading, tokens_read}
pub use Rattle.daide_reader.specs.Slice.{place_behind, ReadsTo, SliceState}
pub use Rattle.daide_reader.specs.Stack.{steps_at, open_count}
unfoldable pub use Rattle.daide_reader.specs.Verdict.{HasVerdict}
pub use Rattle.daide_reader.specs.ViablePrefix.{IsMessageOf}
pub use Rattle.daide_reader.specs.declared.outline.Outline.{Outline}
pub use Rattle.daide_reader.specs.declared.verdict.Verdict.{Verdict}
pub use Rattle.daide_reader.specs.declared.verdict.Verdict.TheVariants.{Relay, Prn, Huh}
