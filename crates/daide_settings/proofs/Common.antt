-- The names that several proofs of this crate cite, passed on from one place.
pub use Rattle.std.proofs.Common.{◌≡◌, true, false, refl, codes, ◌&&◌, ℕ, Bool, List, Option, Some, None, Result, Ok}
pub use Rattle.std.proofs.Common.{Err, ◌++◌, sym, map, [], ◌∷◌, String, Global, string_bytes, ap, ◌∙◌, append-nil}
pub use Rattle.std.proofs.Common.{length, arith, ◌+◌, ◌-◌, pos, ◌≤◌, take, drop, get_or, append_assoc}
pub use Rattle.std.proofs.lemmas.Grind.{common_steps}
pub use Rattle.std.proofs.lemmas.Result.{on_ok_weaker}
pub use Rattle.std.specs.List.{list_all}
pub use Rattle.std.specs.Map.{keys_of}
pub use Rattle.toml.specs.Data.{Members, get_member, Data, string, integer, boolean, array, no_items, item, no_members}
pub use Rattle.toml.specs.Data.{member, table, Items}
unfoldable pub use Rattle.toml.specs.Parse.{parse_document}
pub use Rattle.toml.specs.View.{items_view, members_view, view, table_view}
pub use Rattle.toml.specs.declared.value.Value.{Value}
unfoldable pub use Rattle.daide_words.specs.Words.{words_of}
pub use Rattle.daide_words.specs.declared.word.Word.{Word}
pub use Rattle.daide_settings.specs.Judged.{fault_at}
pub use Rattle.daide_settings.specs.Parts.{faulty_part, part_value, added, unfit_part}
pub use Rattle.daide_settings.specs.Report.{AreParts, IsFaultPart, IsUnknownLine, part_words, path_text, unknown_keys}
pub use Rattle.daide_settings.specs.Report.{default_line, IsValueLine}
pub use Rattle.daide_settings.specs.Settings.{Given, key_text, address_of, read_number, read_flag, read_text, then_with}
pub use Rattle.daide_settings.specs.Settings.{keys_judged, judged_settings, has_only_known, is_in_range, is_known}
unfoldable pub use Rattle.daide_settings.specs.Settings.{judged_members}
pub use Rattle.daide_settings.specs.WordSettings.{words_judged, words_of_entries, accepted_words}
pub use Rattle.daide_settings.specs.declared.settings.SettingsError.{SettingsError}
pub use Rattle.daide_settings.specs.declared.settings.SettingsError.TheVariants.{Unknown, WrongType, Range, Missing}
pub use Rattle.daide_settings.specs.declared.settings.key.Key.{Key}
pub use Rattle.daide_settings.specs.declared.settings.key.Key.TheVariants.{Listen, Server, TopLevel, MaxBody, MaxDepth}
pub use Rattle.daide_settings.specs.declared.settings.key.Key.TheVariants.{ImSeconds, MaxSessions, Sessions, Turns}
pub use Rattle.daide_settings.specs.declared.settings.key.Key.TheVariants.{IdleSeconds, Words, StallSeconds, Endless}
pub use Rattle.daide_settings.specs.declared.settings.key.Key.TheVariants.{Allow, MaxPerAddress, MaxRefused, Control}
pub use Rattle.daide_settings.specs.declared.settings.key.TheConstants.Key.{ALL}
pub use Rattle.daide_settings.specs.declared.settings.parts.ValuePart.{ValuePart}
pub use Rattle.daide_settings.specs.declared.settings.ranges.AddressRange.{AddressRange}
