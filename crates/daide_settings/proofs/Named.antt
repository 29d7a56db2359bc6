-- What std parses is what its reader reads: the relation of `parse_ascii` as a function of the text.
use Rattle.std.proofs.Common.{subst, lit≤, option_map, option_and_then, ◌<◌, nat_lt, ne_eqb}
use Rattle.std.specs.declared.net.ipv4_addr.Ipv4Addr.{Ipv4Addr}
use Rattle.std.specs.declared.net.ipv6_addr.Ipv6Addr.{Ipv6Addr}
use Rattle.std.proofs.lemmas.Bool.Decides.{nat_tests}
use Rattle.std.specs.List.{position_or_len, before_first, after_first}
use Rattle.std.specs.Int.{w32, w128, from_be_bytes}
use Rattle.std.specs.Net.Addr.{ipv4_octets, ipv6_segments, ipv4_bits, ipv6_bits, octets_of}
use Rattle.std.specs.Net.Grammar.{IsDotted, IsColonHex, IsIpv4Text, IsIpv6Text}
use Rattle.std.specs.Net.Reader.{Read, read_ipv4, read_ipv6, whole_value}
use Rattle.daide_settings.proofs.Common.{◌≡◌, ℕ, List, [], ◌∷◌, ◌++◌, Some, None, refl, sym, ap, ◌∙◌, append-nil}
use Rattle.daide_settings.proofs.Common.{length, true, arith}
use Rattle.daide_settings.specs.Ranges.{v4_named, v6_named, is_slash, prefixed, number_named, host_named, range_named}
use Rattle.std.proofs.NetLemmas.Ipv4.{read_ipv4_complete, read_ipv4_sound}
use Rattle.std.proofs.NetLemmas.Ipv6.{read_ipv6_complete, read_ipv6_sound, EndsGroups-nil}

-- a text that spells nothing has no whole value, if what its reader reads is spelled
module _ (Spells : List ℕ → List ℕ → Type 0) (text : List ℕ) (read : Read (List ℕ))
    (sound : (xs rest : List ℕ) → read ≡ Some (xs, rest) → (front : List ℕ) × (text ≡ front ++ rest) × Spells front xs)
  where
    unread : ((xs : List ℕ) → ¬ (Spells text xs)) → (r : Read (List ℕ)) → read ≡ r → None ≡ whole_value r
    unread none None e = refl
    unread none (Some (xs, [])) e =
        let (front, split, spells) = sound xs [] e in
        absurd (none xs (subst (λ t. Spells t xs) (sym (split ∙ append-nil front)) spells))
    unread none (Some (xs, c ∷ rest)) e = rw (ne_eqb (length (c ∷ rest)) 0 (omega arith))

    pub no_value : ((xs : List ℕ) → ¬ (Spells text xs)) → None ≡ whole_value read
    no_value none = unread none read refl

pub v4_read : (text : List ℕ) (a : Ipv4Addr) → IsIpv4Text text a → Some (ipv4_bits a) ≡ v4_named text
unfolding ipv4_bits
v4_read text a h =
    ap (λ r. option_map (λ octets. from_be_bytes w32 octets) (whole_value r))
    (sym (ap read_ipv4 (sym (append-nil text)) ∙ read_ipv4_complete text (ipv4_octets a) [] h (lit≤ tt)))

pub v6_read : (text : List ℕ) (a : Ipv6Addr) → IsIpv6Text text a → Some (ipv6_bits a) ≡ v6_named text
unfolding ipv6_bits
v6_read text a h =
    ap (λ r. option_map (λ segments. from_be_bytes w128 (octets_of segments)) (whole_value r))
    (sym (ap read_ipv6 (sym (append-nil text)) ∙ read_ipv6_complete text (ipv6_segments a) [] h EndsGroups-nil))

pub v4_unread : (text : List ℕ) → ((a : Ipv4Addr) → ¬ (IsIpv4Text text a)) → None ≡ v4_named text
v4_unread text none =
    ap (λ o. option_map (λ octets. from_be_bytes w32 octets) o)
    (no_value IsDotted text (read_ipv4 text) (read_ipv4_sound text) (λ octets h. none (record { octets = octets }) h))

pub v6_unread : (text : List ℕ) → ((a : Ipv6Addr) → ¬ (IsIpv6Text text a)) → None ≡ v6_named text
v6_unread text none =
    ap (λ o. option_map (λ segments. from_be_bytes w128 (octets_of segments)) o)
    (no_value IsColonHex text (read_ipv6 text) (read_ipv6_sound text) (λ segments h. none (record { segments = segments }) h))

-- the range of a text with a slash, and of one without
pub range_split : (text address digits : List ℕ) → position_or_len is_slash text < length text →
    address ≡ before_first is_slash text → digits ≡ after_first is_slash text →
    option_and_then (prefixed (number_named digits)) (host_named address) ≡ range_named text
range_split text address digits slash front back =
    let test : nat_lt (position_or_len is_slash text) (length text) ≡ true = grind (arith, nat_tests) in
    rw (front, back, test)
