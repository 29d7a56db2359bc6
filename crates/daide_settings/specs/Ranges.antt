-- Which addresses may come: the keys `allow` and `max_per_address` of docs/FORMATS.md, "Settings", as definitions. Std
-- defines which text is an address. (own)
use Rattle.std.specs.Prelude.{ℕ, ◌+◌, ◌-◌, ◌*◌, ◌/◌, ◌%◌, ◌^◌, ◌&&◌, ◌||◌, ◌==◌, nat_le, nat_lt, Bool, true, false, if◌then◌else◌}
use Rattle.std.specs.Prelude.{List, [], ◌∷◌, length, Option, Some, None, is_some, option_and_then, option_map}
use Rattle.std.specs.Prelude.{Result, Ok, Err}
use Rattle.std.specs.List.{list_any, before_first, after_first, position_or_len}
use Rattle.std.specs.Int.{w32, w128, from_be_bytes}
use Rattle.std.specs.Net.Addr.{ipv4_bits, ipv6_bits, octets_of}
use Rattle.std.specs.Net.Reader.{read_ipv4, read_ipv6, whole_value}
use Rattle.std.specs.declared.net.ip_addr.IpAddr.{IpAddr}
use Rattle.std.specs.declared.net.ip_addr.IpAddr.TheVariants as Ip
use Rattle.toml.specs.Data.{Data, as_str, as_array, Items, no_items, item}
use Rattle.daide_settings.specs.declared.settings.key.Key.TheVariants.{Allow}
use Rattle.daide_settings.specs.declared.settings.SettingsError.{SettingsError}
use Rattle.daide_settings.specs.declared.settings.SettingsError.TheVariants.{WrongType, Range}
use Rattle.daide_settings.specs.declared.settings.ranges.Host.{Host}
use Rattle.daide_settings.specs.declared.settings.ranges.Host.TheVariants.{V4, V6}
use Rattle.daide_settings.specs.declared.settings.ranges.AddressRange.{AddressRange}

-- ---- the address of a host, as a number

-- the first 96 bits of an IPv4-mapped address
abbrev pub mapped_front : ℕ
mapped_front = 0xFFFF

abbrev pub is_mapped : ℕ → Bool
is_mapped bits = bits / 2 ^ 32 == mapped_front

-- an IPv4-mapped address is the IPv4 address of its last 32 bits
abbrev pub canonical : ℕ → Host
canonical bits = if is_mapped bits then V4 (bits % 2 ^ 32) else V6 bits

abbrev pub host_of : IpAddr → Host
host_of (Ip.V4 address) = V4 (ipv4_bits address)
host_of (Ip.V6 address) = canonical (ipv6_bits address)

-- ---- a range

-- two numbers of `width` bits have the same first `prefix` bits
abbrev pub begin_alike : ℕ → ℕ → ℕ → ℕ → Bool
begin_alike width prefix a b = prefix == 0 || a / 2 ^ (width - prefix) == b / 2 ^ (width - prefix)

-- a range has the addresses of its own family whose first bits are those of its address
abbrev pub has_host : ℕ → Host → Host → Bool
has_host prefix (V4 own) (V4 bits) = begin_alike 32 prefix own bits
has_host prefix (V6 own) (V6 bits) = begin_alike 128 prefix own bits
has_host prefix _ _ = false

abbrev pub contains : AddressRange → Host → Bool
contains range host = has_host range.prefix range.host host

-- ---- the text of a range

-- the bits of a text that is an IPv4 address, and of one that is an IPv6 address
abbrev pub v4_named : List ℕ → Option ℕ
v4_named text = option_map (λ octets. from_be_bytes w32 octets) (whole_value (read_ipv4 text))

abbrev pub v6_named : List ℕ → Option ℕ
v6_named text = option_map (λ segments. from_be_bytes w128 (octets_of segments)) (whole_value (read_ipv6 text))

-- an IPv6 address that is not IPv4-mapped, since no range in that form would contain a host
abbrev pub v6_of_bits : ℕ → Option Host
v6_of_bits bits = if is_mapped bits then None else Some (V6 bits)

abbrev pub v4_or_else : Option ℕ → Option Host → Option Host
v4_or_else (Some bits) other = Some (V4 bits)
v4_or_else None other = other

-- the host of a text
abbrev pub host_named : List ℕ → Option Host
host_named text = v4_or_else (v4_named text) (option_and_then v6_of_bits (v6_named text))

abbrev pub width_of : Host → ℕ
width_of (V4 bits) = 32
width_of (V6 bits) = 128

-- a decimal digit from `least` on, as a number
abbrev pub digit_from : ℕ → ℕ → Option ℕ
digit_from least byte = if nat_le (48 + least) byte && nat_le byte 57 then Some (byte - 48) else None

-- one digit more
abbrev pub then_digit : Option ℕ → ℕ → Option ℕ
then_digit before byte = option_and_then (λ n. option_map (λ digit. 10 * n + digit) (digit_from 0 byte)) before

-- one to three decimal digits without a leading zero
abbrev pub number_named : List ℕ → Option ℕ
number_named (a ∷ []) = digit_from 0 a
number_named (a ∷ b ∷ []) = then_digit (digit_from 1 a) b
number_named (a ∷ b ∷ c ∷ []) = then_digit (then_digit (digit_from 1 a) b) c
number_named other = None

-- the range with this prefix, which must not be longer than the address
abbrev pub range_with : Host → ℕ → Option AddressRange
range_with host prefix =
    if nat_le prefix (width_of host) then Some (record { host = host; prefix = prefix }) else None

-- a host alone is a range of one address
abbrev pub range_of_one : Host → AddressRange
range_of_one host = record { host = host; prefix = width_of host }

abbrev pub prefixed : Option ℕ → Host → Option AddressRange
prefixed prefix host = option_and_then (range_with host) prefix

abbrev pub is_slash : ℕ → Bool
is_slash byte = byte == 47

-- an address, or an address, a slash and the length of a prefix
abbrev pub range_named : List ℕ → Option AddressRange
range_named text =
    if nat_lt (position_or_len is_slash text) (length text)
    then option_and_then (prefixed (number_named (after_first is_slash text))) (host_named (before_first is_slash text))
    else option_map range_of_one (host_named text)

-- ---- who may come

abbrev pub same_host : Host → Host → Bool
same_host (V4 a) (V4 b) = a == b
same_host (V6 a) (V6 b) = a == b
same_host _ _ = false

-- the number of connections from a host, among those of these hosts
abbrev pub count_at : Host → List Host → ℕ
count_at host [] = 0
count_at host (first ∷ others) = (if same_host host first then 1 else 0) + count_at host others

-- a further connection from a host may come: a range contains it, and fewer than `most` of those present are from it; 0
-- is no limit
abbrev pub may_come : List AddressRange → ℕ → List Host → Host → Bool
may_come allow most present host =
    list_any (λ range. contains range host) allow && (most == 0 || nat_lt (count_at host present) most)

-- ---- the key `allow`

-- the most ranges of a document
abbrev pub most_ranges : ℕ
most_ranges = 16

-- without the key everyone may come: both families, with no bit in common
abbrev pub everyone : List AddressRange
everyone = record { host = V4 0; prefix = 0 } ∷ record { host = V6 0; prefix = 0 } ∷ []

-- whether each value is a text
abbrev pub are_texts : Items → Bool
are_texts no_items = true
are_texts (item value others) = is_some (as_str value) && are_texts others

abbrev pub item_count : Items → ℕ
item_count no_items = 0
item_count (item value others) = 1 + item_count others

-- the range of a value
abbrev pub range_of : Data → Option AddressRange
range_of value = option_and_then range_named (as_str value)

abbrev pub range_before : Option AddressRange → Option (List AddressRange) → Option (List AddressRange)
range_before (Some range) (Some ranges) = Some (range ∷ ranges)
range_before _ _ = None

-- the ranges of all values, if each has one
abbrev pub ranges_of : Items → Option (List AddressRange)
ranges_of no_items = Some []
ranges_of (item value others) = range_before (range_of value) (ranges_of others)

abbrev pub is_range_count : ℕ → Bool
is_range_count n = nat_le 1 n && nat_le n most_ranges

abbrev pub named_or_range : Option (List AddressRange) → Result (List AddressRange) SettingsError
named_or_range None = Err (Range Allow)
named_or_range (Some ranges) = Ok ranges

-- the types of all values are checked before their number, and then each text
abbrev pub items_judged : Option Items → Result (List AddressRange) SettingsError
items_judged None = Err (WrongType Allow)
items_judged (Some items) =
    if are_texts items
    then (if is_range_count (item_count items) then named_or_range (ranges_of items) else Err (Range Allow))
    else Err (WrongType Allow)

-- the ranges of the key
abbrev pub allow_judged : Option Data → Result (List AddressRange) SettingsError
allow_judged None = Ok everyone
allow_judged (Some value) = items_judged (as_array value)
