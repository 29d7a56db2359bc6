-- All faults of a document, where `judged_settings` has the first: the fault of each key by itself. (own)
use Rattle.std.specs.Prelude.{◌&&◌, Bool, false, Option, Some, None, is_none}
use Rattle.std.specs.Result.{result_err}
use Rattle.std.specs.List.{list_all}
use Rattle.toml.specs.Data.{Data, Members, get_member}
use Rattle.daide_settings.specs.declared.settings.key.Key.{Key}
use Rattle.daide_settings.specs.declared.settings.key.Key.TheVariants.{Listen, Server, TopLevel, MaxBody, MaxDepth}
use Rattle.daide_settings.specs.declared.settings.key.Key.TheVariants.{ImSeconds, MaxSessions, Sessions, Turns, IdleSeconds}
use Rattle.daide_settings.specs.declared.settings.key.Key.TheVariants.{Words, StallSeconds, Endless, Allow, MaxPerAddress, MaxRefused, Control}
use Rattle.daide_settings.specs.declared.settings.key.TheConstants.Key.{ALL}
use Rattle.daide_settings.specs.declared.settings.SettingsError.{SettingsError}
use Rattle.daide_settings.specs.Settings.{key_text, address_of, read_flag, read_number, read_text, has_only_known}
use Rattle.daide_settings.specs.WordSettings.{words_judged}
use Rattle.daide_settings.specs.Ranges.{allow_judged}

-- the fault of a key with this value
abbrev pub fault_of : Key → Option Data → Option SettingsError
fault_of Listen value = result_err (address_of Listen value)
fault_of Server value = result_err (address_of Server value)
fault_of TopLevel value = result_err (read_number TopLevel value)
fault_of MaxBody value = result_err (read_number MaxBody value)
fault_of MaxDepth value = result_err (read_number MaxDepth value)
fault_of ImSeconds value = result_err (read_number ImSeconds value)
fault_of MaxSessions value = result_err (read_number MaxSessions value)
fault_of Sessions value = result_err (read_number Sessions value)
fault_of Turns value = result_err (read_number Turns value)
fault_of IdleSeconds value = result_err (read_number IdleSeconds value)
fault_of Words value = result_err (words_judged value)
fault_of StallSeconds value = result_err (read_number StallSeconds value)
fault_of Endless value = result_err (read_flag Endless value)
fault_of Allow value = result_err (allow_judged value)
fault_of MaxPerAddress value = result_err (read_number MaxPerAddress value)
fault_of MaxRefused value = result_err (read_number MaxRefused value)
fault_of Control value = result_err (read_text Control value)

-- the fault of a key in a document
abbrev pub fault_at : Key → Members → Option SettingsError
fault_at key members = fault_of key (get_member (key_text key) members)

-- no key has a fault
abbrev pub keys_are_right : Members → Bool
keys_are_right members = list_all (λ key. is_none (fault_at key members)) ALL

-- a document without a fault: no unknown key, and no fault of a known one
abbrev pub is_right : Members → Bool
is_right members = has_only_known members && keys_are_right members

-- a text that is no TOML document has a fault
abbrev pub is_right_document : Option Members → Bool
is_right_document None = false
is_right_document (Some members) = is_right members
