-- The names that several proofs of this crate cite, passed on from one place.
pub use Rattle.std.proofs.Common.{◌≡◌, ℕ, ◌+◌, ◌*◌, ◌/◌, ◌%◌, ◌==◌, nat_lt, nat_le, ◌&&◌, Bool, true, false, not}
pub use Rattle.std.proofs.Common.{if◌then◌else◌, List, [], ◌∷◌, refl, ap, sym, ◌∙◌, subst, arith, zero, suc, ◌-◌, ℤ}
pub use Rattle.std.proofs.Common.{pos, negsuc, ◌^◌, ◌<◌, ◌≤◌, ◌++◌, length, append_assoc, Option, Some, None, ◌⊎◌, map}
pub use Rattle.std.proofs.Common.{get_or, option_map, cond, unwrap_or, codes, replicate, take, drop, rules}
pub use Rattle.std.proofs.lemmas.Bool.{eqb-true, and_parts}
pub use Rattle.std.proofs.lemmas.Bool.Decides.{nat_tests}
pub use Rattle.std.proofs.lemmas.Int.{ints, to_z-of_z}
pub use Rattle.std.specs.Fmt.{signed_decimal, decimal}
pub use Rattle.std.specs.Io.KnownBytes.{Appends}
pub use Rattle.std.specs.List.{list_all, find, range_with_len}
pub use mir.Syntax.{w16}
pub use Rattle.daide_token.specs.Class.{class_in, has_one_token, is_standard, token_of, has_known_category}
unfoldable pub use Rattle.daide_token.specs.Class.{class_of}
pub use Rattle.daide_token.specs.NamePages.{is_spaced, name_of_cell}
pub use Rattle.daide_token.specs.Names.{Named}
unfoldable pub use Rattle.daide_token.specs.Names.{name_of, names, token_named}
pub use Rattle.daide_token.specs.Text.{hex_digit_of, hex_text, text_of_token, is_quotable}
unfoldable pub use Rattle.daide_token.specs.Text.{text_of, text_with}
pub use Rattle.daide_token.specs.TextSteps.{place_after, rest_of_text, before_character, before_item, token_text}
pub use Rattle.daide_token.specs.TextSteps.{place_past, some_text}
pub use Rattle.daide_token.specs.Token.{bra, ket, prn, number_of, token_of_number, tokens_of}
pub use Rattle.daide_token.specs.declared.class.Class.{Class}
pub use Rattle.daide_token.specs.declared.class.Class.TheVariants.{Num, Bra, Ket, Power, Note, Outcome, Coast, Season}
pub use Rattle.daide_token.specs.declared.class.Class.TheVariants.{Text, Province, Prn, Param, Other, Alien, Word}
pub use Rattle.daide_token.specs.declared.text.PrinterState.{PrinterState}
