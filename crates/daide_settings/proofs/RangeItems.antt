-- The ranges of some values, one after the other.
use Rattle.std.proofs.Common.{option_map, is_some}
use Rattle.daide_settings.proofs.Common.{◌≡◌, ◌&&◌, List, [], ◌∷◌, ◌++◌, Result, length, arith, refl, ap, list_all}
use Rattle.daide_settings.proofs.Common.{Items, Value, items_view, view, AddressRange, SettingsError}
use Rattle.toml.specs.Data.{as_str}
use Rattle.daide_settings.specs.Ranges.{are_texts, item_count, ranges_of, named_or_range}

pub all_texts : (values : List Value) →
    list_all (λ value. is_some (as_str (view value))) values ≡ are_texts (items_view values)
all_texts [] = refl
all_texts (value ∷ others) = ap (λ rest. is_some (as_str (view value)) && rest) (all_texts others)

pub counted : (values : List Value) → item_count (items_view values) ≡ length values
counted [] = refl
counted (value ∷ others) = let rest = counted others in omega (arith, rest)

-- the result for some ranges followed by those of items
abbrev pub further : List AddressRange → Items → Result (List AddressRange) SettingsError
further before items = named_or_range (option_map (λ ranges. before ++ ranges) (ranges_of items))
