-- Tests of all keys of a table, and of all values of an array, are tests of its members and items.
use Rattle.daide_settings.proofs.Common.{◌≡◌, ℕ, Bool, ◌&&◌, List, [], ◌∷◌, String, Global, string_bytes, refl, ap}
use Rattle.daide_settings.proofs.Common.{list_all, keys_of, Value, items_view, members_view, view}
use Rattle.daide_settings.specs.WordSettings.{are_entries, has_only, is_entry}

pub keys_only : (allowed : List ℕ → Bool) (entries : List (String Global × Value))
    → list_all (λ key. allowed (string_bytes key)) (keys_of entries) ≡ has_only allowed (members_view entries)
keys_only allowed [] = refl
keys_only allowed (entry ∷ others) = ap (λ rest. allowed (string_bytes entry.0) && rest) (keys_only allowed others)

pub all_entries : (values : List Value) →
    list_all (λ value. is_entry (view value)) values ≡ are_entries (items_view values)
all_entries [] = refl
all_entries (value ∷ others) = ap (λ rest. is_entry (view value) && rest) (all_entries others)
