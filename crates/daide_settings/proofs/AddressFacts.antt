-- Which texts are addresses: both sides of each limit, worked out from docs/FORMATS.md.
use Rattle.daide_settings.proofs.Common.{◌≡◌, true, false, refl, codes}
use Rattle.daide_settings.specs.Addresses.{is_address}

-- ---- the host

name_and_port : is_address (codes "a:1") ≡ true
name_and_port = refl

ipv4_and_port : is_address (codes "127.0.0.1:16713") ≡ true
ipv4_and_port = refl

ipv6_and_port : is_address (codes "[::1]:16713") ≡ true
ipv6_and_port = refl

ipv6_without_brackets : is_address (codes "::1:16713") ≡ true
ipv6_without_brackets = refl

no_text : is_address (codes "") ≡ false
no_text = refl

no_host : is_address (codes ":80") ≡ false
no_host = refl

scheme : is_address (codes "tcp://127.0.0.1:80") ≡ false
scheme = refl

path_after_the_port : is_address (codes "127.0.0.1:80/") ≡ false
path_after_the_port = refl

-- ---- the port

port_alone : is_address (codes "17030") ≡ false
port_alone = refl

no_port : is_address (codes "127.0.0.1") ≡ false
no_port = refl

empty_port : is_address (codes "127.0.0.1:") ≡ false
empty_port = refl

lowest_port : is_address (codes "a:0") ≡ true
lowest_port = refl

highest_port : is_address (codes "a:65535") ≡ true
highest_port = refl

port_too_high : is_address (codes "a:65536") ≡ false
port_too_high = refl

port_of_many_digits : is_address (codes "a:99999999999999999999") ≡ false
port_of_many_digits = refl

port_with_zeros : is_address (codes "a:0000080") ≡ true
port_with_zeros = refl

port_with_a_plus : is_address (codes "a:+80") ≡ true
port_with_a_plus = refl

plus_alone : is_address (codes "a:+") ≡ false
plus_alone = refl

port_with_a_minus : is_address (codes "a:-1") ≡ false
port_with_a_minus = refl

digit_before_0 : is_address (codes "a:1/") ≡ false
digit_before_0 = refl

digit_after_9 : is_address (codes "a:1:") ≡ false
digit_after_9 = refl

blank_after_the_port : is_address (codes "a:1 ") ≡ false
blank_after_the_port = refl
