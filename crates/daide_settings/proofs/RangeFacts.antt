-- Which text is a range, which hosts a range contains, and who may come, at values worked out from docs/FORMATS.md.
use Rattle.std.proofs.Common.{replicate}
use Rattle.std.specs.Net.Reader.{read_number, read_octet, read_ipv4, read_segment, read_segments, read_ipv6}
use Rattle.daide_settings.proofs.Common.{◌≡◌, codes, true, false, List, ℕ, [], ◌∷◌, Some, None, Ok, Err, map, refl, pos}
use Rattle.daide_settings.proofs.Common.{◌+◌, ◌-◌, Result, Bool, Data, string, integer, array, table, Items, no_items}
use Rattle.daide_settings.proofs.Common.{item, no_members, Allow, SettingsError, WrongType, Range, AddressRange}
use Rattle.daide_settings.specs.declared.settings.ranges.Host.{Host}
use Rattle.daide_settings.specs.declared.settings.ranges.Host.TheVariants.{V4, V6}
use Rattle.daide_settings.specs.Ranges.{range_named, contains, canonical, may_come, allow_judged}

abbrev range : Host → ℕ → AddressRange
range host prefix = record { host = host; prefix = prefix }

-- ---- texts

-- 127.0.0.0, 10.1.2.3 and 2001:db8::
abbrev loopback : Host
loopback = V4 0x7F000000

abbrev ten : Host
ten = V4 0x0A010203

abbrev documentation : Host
documentation = V6 0x20010DB8000000000000000000000000

v4_texts : (range_named (codes "127.0.0.0/8") ≡ Some (range loopback 8)) × (range_named (codes "10.1.2.3") ≡ Some (range ten 32))
    × (range_named (codes "10.1.2.3/0") ≡ Some (range ten 0)) × (range_named (codes "10.1.2.3/1") ≡ Some (range ten 1))
    × (range_named (codes "10.1.2.3/31") ≡ Some (range ten 31)) × (range_named (codes "10.1.2.3/32") ≡ Some (range ten 32))
    × (range_named (codes "10.1.2.3/33") ≡ None) × (range_named (codes "10.1.2.3/128") ≡ None)
unfolding read_number read_octet read_ipv4 read_segment read_segments read_ipv6
v4_texts = (refl, refl, refl, refl, refl, refl, refl, refl)

v6_texts : (range_named (codes "::1") ≡ Some (range (V6 1) 128)) × (range_named (codes "::/0") ≡ Some (range (V6 0) 0))
    × (range_named (codes "2001:db8::/32") ≡ Some (range documentation 32))
    × (range_named (codes "2001:DB8:0:0:0:0:0:0/33") ≡ Some (range documentation 33))
    × (range_named (codes "::1/127") ≡ Some (range (V6 1) 127)) × (range_named (codes "::1/128") ≡ Some (range (V6 1) 128))
    × (range_named (codes "::1/129") ≡ None)
unfolding read_number read_octet read_ipv4 read_segment read_segments read_ipv6
v6_texts = (refl, refl, refl, refl, refl, refl, refl)

-- an IPv4-mapped address is no range, with or without a prefix; an IPv4-compatible one is
mapped_texts : (range_named (codes "::ffff:10.1.2.3") ≡ None) × (range_named (codes "::ffff:0:0/96") ≡ None)
    × (range_named (codes "::10.1.2.3") ≡ Some (range (V6 0x0A010203) 128))
unfolding read_number read_octet read_ipv4 read_segment read_segments read_ipv6
mapped_texts = (refl, refl, refl)

no_ranges : map range_named (
    codes "" ∷ codes "/" ∷ codes "/8" ∷ codes "127.0.0.0/" ∷ codes "127.0.0/8" ∷ codes "127.0.0.0.0/8" ∷ codes "256.0.0.0/8"
    ∷ codes "127.0.0.0/08" ∷ codes "127.0.0.0/+8" ∷ codes "127.0.0.0/-1" ∷ codes "127.0.0.0/ 8" ∷ codes "127.0.0.0/8 "
    ∷ codes " 127.0.0.0/8" ∷ codes "127.0.0.0/8/8" ∷ codes "127.0.0.0/0000" ∷ codes "127.0.0.0/1000" ∷ codes "127.0.0.01"
    ∷ codes "127.0.0.1:16713" ∷ codes "[::1]" ∷ codes ":::1" ∷ codes "::1%1" ∷ codes "localhost" ∷ codes "*" ∷ [])
    ≡ replicate 23 None
unfolding read_number read_octet read_ipv4 read_segment read_segments read_ipv6
no_ranges = refl

-- ---- hosts

-- whether a range contains the address before its first, its first, its last, and the one after its last
abbrev ends : AddressRange → (ℕ → Host) → ℕ → ℕ → List Bool
ends own host first last = map (λ n. contains own (host n)) ((first - 1) ∷ first ∷ last ∷ (last + 1) ∷ [])

abbrev exactly : List Bool
exactly = false ∷ true ∷ true ∷ false ∷ []

v4_hosts : (ends (range (V4 0x7F123456) 8) V4 0x7F000000 0x7FFFFFFF ≡ exactly)
    × (ends (range (V4 0x0A000003) 31) V4 0x0A000002 0x0A000003 ≡ exactly)
    × (ends (range (V4 0x0A000003) 32) V4 0x0A000003 0x0A000003 ≡ exactly)
    × (ends (range (V4 0x0A000003) 33) V4 0x0A000003 0x0A000003 ≡ exactly)
    × (map (λ n. contains (range (V4 0xC0000000) 1) (V4 n)) (0 ∷ 0x7FFFFFFF ∷ 0x80000000 ∷ 0xFFFFFFFF ∷ []) ≡ false ∷ false ∷ true ∷ true ∷ [])
    × (map (λ n. contains (range (V4 0x0A000003) 0) (V4 n)) (0 ∷ 0x7FFFFFFF ∷ 0x80000000 ∷ 0xFFFFFFFF ∷ []) ≡ replicate 4 true)
v4_hosts = (refl, refl, refl, refl, refl, refl)

v6_hosts : (ends (range documentation 32) V6 0x20010DB8000000000000000000000000 0x20010DB8FFFFFFFFFFFFFFFFFFFFFFFF ≡ exactly)
    × (ends (range (V6 3) 127) V6 2 3 ≡ exactly) × (ends (range (V6 3) 128) V6 3 3 ≡ exactly)
    × (map (λ n. contains (range (V6 3) 0) (V6 n)) (0 ∷ 0xFFFFFFFFFFFFFFFFFFFFFFFFFFFFFFFF ∷ []) ≡ true ∷ true ∷ [])
v6_hosts = (refl, refl, refl, refl)

-- neither family has the other's, but for an IPv4-mapped address, which is the IPv4 address in it
families : (contains (range (V4 0) 0) (V6 1) ≡ false) × (contains (range (V6 0) 0) (V4 1) ≡ false)
    × (canonical 0xFFFF7F000001 ≡ V4 0x7F000001) × (canonical 0x7F000001 ≡ V6 0x7F000001)
    × (canonical 0x1FFFF7F000001 ≡ V6 0x1FFFF7F000001) × (canonical 0xFFFE7F000001 ≡ V6 0xFFFE7F000001)
    × (contains (range (V4 0x7F000000) 8) (canonical 0xFFFF7F000001) ≡ true)
    × (contains (range (V6 0) 0) (canonical 0xFFFF7F000001) ≡ false)
families = (refl, refl, refl, refl, refl, refl, refl, refl)

-- ---- who may come

abbrev at_home : List AddressRange
at_home = range (V4 0x7F000000) 8 ∷ range (V6 1) 128 ∷ []

-- with a limit of two: none, one and two of the same address are there, and two of others
two_of_an_address :
    map (λ present. may_come at_home 2 present (V4 0x7F000001))
    ([] ∷ (V4 0x7F000001 ∷ []) ∷ (V4 0x7F000001 ∷ V4 0x7F000002 ∷ V4 0x7F000001 ∷ []) ∷ (V4 0x7F000002 ∷ V6 0x7F000001 ∷ []) ∷ [])
    ≡ true ∷ true ∷ false ∷ true ∷ []
two_of_an_address = refl

-- without a limit as many as like, and in no case one that no range has
others_may_not : (may_come at_home 0 (replicate 9 (V6 1)) (V6 1) ≡ true) × (may_come at_home 0 [] (V6 2) ≡ false)
    × (may_come at_home 2 [] (V4 0x80000001) ≡ false) × (may_come [] 0 [] (V6 1) ≡ false)
others_may_not = (refl, refl, refl, refl)

-- ---- the key

abbrev values : List Data → Items
values [] = no_items
values (value ∷ others) = item value (values others)

abbrev judged : List Data → Result (List AddressRange) SettingsError
judged given = allow_judged (Some (array (values given)))

everyone_may : allow_judged None ≡ Ok (range (V4 0) 0 ∷ range (V6 0) 0 ∷ [])
everyone_may = refl

number_of_ranges : (judged [] ≡ Err (Range Allow)) × (judged (replicate 16 (string (codes "::1"))) ≡ Ok (replicate 16 (range (V6 1) 128)))
    × (judged (replicate 17 (string (codes "::1"))) ≡ Err (Range Allow))
unfolding read_number read_octet read_ipv4 read_segment read_segments read_ipv6
number_of_ranges = (refl, refl, refl)

-- the type of a later value is reported before the range of an earlier one
type_before_range : (judged (string (codes "x") ∷ integer (pos 1) ∷ []) ≡ Err (WrongType Allow))
    × (allow_judged (Some (string (codes "::1"))) ≡ Err (WrongType Allow))
    × (allow_judged (Some (table no_members)) ≡ Err (WrongType Allow))
    × (judged (string (codes "::1") ∷ string (codes "x") ∷ []) ≡ Err (Range Allow))
unfolding read_number read_octet read_ipv4 read_segment read_segments read_ipv6
type_before_range = (refl, refl, refl, refl)
