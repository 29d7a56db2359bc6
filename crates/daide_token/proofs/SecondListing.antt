-- The names and classes of tokens, listed a second time by category and second byte, and compared with the tables. A
-- table with a shifted, swapped or missing row does not check. Written from the protocol's table of categories.
use Rattle.daide_token.proofs.Common.{◌≡◌, ℕ, ◌+◌, ◌*◌, ◌-◌, nat_le, true, false, codes, refl, List, [], ◌∷◌, ◌++◌, map}
use Rattle.daide_token.proofs.Common.{replicate, Some, option_map, range_with_len, Class, Bra, Ket, Prn, Num, Power}
use Rattle.daide_token.proofs.Common.{Note, Outcome, Coast, Season, Text, Province, Param, Other, Alien, class_of}
use Rattle.daide_token.proofs.Common.{Named, names, token_named}
use Prim.Native.String.{String}
use Rattle.daide_token.specs.declared.class.Class.TheVariants.{Amy, Flt, Cto, Cvy, Hld, Mto, Sup, Via, Dsb, Rto, Bld}
use Rattle.daide_token.specs.declared.class.Class.TheVariants.{Rem, Wve, Ccd, Drw, Frm, Gof, Hlo, Hst, Huh, Iam, Lod}
use Rattle.daide_token.specs.declared.class.Class.TheVariants.{Map, Mdf, Mis, Nme, Not, Now, Obs, Off, Ord, Out, Rej}
use Rattle.daide_token.specs.declared.class.Class.TheVariants.{Sco, Slo, Snd, Sub, Sve, Thx, Tme, Yes, Adm, Smr, Lvl}
use Rattle.daide_token.specs.declared.class.Class.TheVariants.{Mrt, Uno, Aly, And, Bwx, Dmz, Fct, Idk, Ins, Occ, Orr}
use Rattle.daide_token.specs.declared.class.Class.TheVariants.{Pce, Prp, Qry, Scd, Sry, Sug, Thk, Try, Vss, Xdo}

-- ---- names

-- the value of a hexadecimal digit
abbrev digit : ℕ → ℕ
digit c = elim (nat_le c 57) [ true ↦ c - 48 | false ↦ c - 55 ]

-- the tokens of a category: two digits of the second byte and the name, with a space between them
abbrev named_in : ℕ → List ℕ → List Named
named_in category (high ∷ low ∷ s ∷ a ∷ b ∷ c ∷ t ∷ rest) =
    (category * 256 + digit high * 16 + digit low, a ∷ b ∷ c ∷ []) ∷ named_in category rest
named_in category (high ∷ low ∷ s ∷ a ∷ b ∷ c ∷ []) =
    (category * 256 + digit high * 16 + digit low, a ∷ b ∷ c ∷ []) ∷ []
named_in category _ = []

abbrev in_category : ℕ → String → List Named
in_category category text = named_in category (codes text)

-- brackets, powers, units, orders, notes, results, coasts, seasons, commands, parameters, press; provinces: inland,
-- inland centre, sea, coastal, coastal centre, bicoastal centre
abbrev listing : List Named
listing =
    in_category 0x40 "00 BRA 01 KET"
    ++ in_category 0x41 "00 AUS 01 ENG 02 FRA 03 GER 04 ITA 05 RUS 06 TUR"
    ++ in_category 0x42 "00 AMY 01 FLT"
    ++ in_category 0x43 "20 CTO 21 CVY 22 HLD 23 MTO 24 SUP 25 VIA 40 DSB 41 RTO 80 BLD 81 REM 82 WVE"
    ++ in_category 0x44 "00 MBV 02 CST 03 ESC 04 FAR 05 HSC 06 NAS 07 NMB 08 NMR 09 NRN 0A NRS 0B NSA 0C NSC"
    ++ in_category 0x44 "0D NSF 0E NSP 10 NSU 11 NVR 12 NYU 13 YSC"
    ++ in_category 0x45 "00 SUC 01 BNC 02 CUT 03 DSR 04 FLD 05 NSO 06 RET"
    ++ in_category 0x46 "00 NCS 02 NEC 04 ECS 06 SEC 08 SCS 0A SWC 0C WCS 0E NWC"
    ++ in_category 0x47 "00 SPR 01 SUM 02 FAL 03 AUT 04 WIN"
    ++ in_category 0x48 "00 CCD 01 DRW 02 FRM 03 GOF 04 HLO 05 HST 06 HUH 07 IAM 08 LOD 09 MAP 0A MDF 0B MIS"
    ++ in_category 0x48 "0C NME 0D NOT 0E NOW 0F OBS 10 OFF 11 ORD 12 OUT 13 PRN 14 REJ 15 SCO 16 SLO 17 SND"
    ++ in_category 0x48 "18 SUB 19 SVE 1A THX 1B TME 1C YES 1D ADM 1E SMR"
    ++ in_category 0x49 "00 AOA 01 BTL 02 ERR 03 LVL 04 MRT 05 MTL 06 NPB 07 NPR 08 PDA 09 PTL 0A RTL 0B UNO"
    ++ in_category 0x49 "0D DSD"
    ++ in_category 0x4A "00 ALY 01 AND 02 BWX 03 DMZ 06 FCT 0A IDK 0C INS 0E OCC 0F ORR 10 PCE 13 PRP 14 QRY"
    ++ in_category 0x4A "15 SCD 16 SRY 17 SUG 18 THK 1A TRY 1C VSS 1F XDO"
    ++ in_category 0x50 "00 BOH 01 BUR 02 GAL 03 RUH 04 SIL 05 TYR 06 UKR"
    ++ in_category 0x51 "07 BUD 08 MOS 09 MUN 0A PAR 0B SER 0C VIE 0D WAR"
    ++ in_category 0x52 "0E ADR 0F AEG 10 BAL 11 BAR 12 BLA 13 EAS 14 ECH 15 GOB 16 GOL 17 HEL 18 ION 19 IRI"
    ++ in_category 0x52 "1A MAO 1B NAO 1C NTH 1D NWG 1E SKA 1F TYS 20 WES"
    ++ in_category 0x54 "21 ALB 22 APU 23 ARM 24 CLY 25 FIN 26 GAS 27 LVN 28 NAF 29 PIC 2A PIE 2B PRU 2C SYR"
    ++ in_category 0x54 "2D TUS 2E WAL 2F YOR"
    ++ in_category 0x55 "30 ANK 31 BEL 32 BER 33 BRE 34 CON 35 DEN 36 EDI 37 GRE 38 HOL 39 KIE 3A LON 3B LVP"
    ++ in_category 0x55 "3C MAR 3D NAP 3E NWY 3F POR 40 ROM 41 RUM 42 SEV 43 SMY 44 SWE 45 TRI 46 TUN 47 VEN"
    ++ in_category 0x57 "48 BUL 49 SPA 4A STP"

-- the table is the listing: it has each of these names at its token, and no other
names-listed : names ≡ listing
unfolding names
names-listed = refl

-- ---- classes

-- the tokens with a class of their own, by name: the brackets, units, orders, commands and press, and three parameters
abbrev own_classes : List (String × Class)
own_classes =
    ("BRA", Bra) ∷ ("KET", Ket) ∷ ("AMY", Amy) ∷ ("FLT", Flt) ∷ ("CTO", Cto) ∷ ("CVY", Cvy) ∷
    ("HLD", Hld) ∷ ("MTO", Mto) ∷ ("SUP", Sup) ∷ ("VIA", Via) ∷ ("DSB", Dsb) ∷ ("RTO", Rto) ∷
    ("BLD", Bld) ∷ ("REM", Rem) ∷ ("WVE", Wve) ∷ ("CCD", Ccd) ∷ ("DRW", Drw) ∷ ("FRM", Frm) ∷
    ("GOF", Gof) ∷ ("HLO", Hlo) ∷ ("HST", Hst) ∷ ("HUH", Huh) ∷ ("IAM", Iam) ∷ ("LOD", Lod) ∷
    ("MAP", Map) ∷ ("MDF", Mdf) ∷ ("MIS", Mis) ∷ ("NME", Nme) ∷ ("NOT", Not) ∷ ("NOW", Now) ∷
    ("OBS", Obs) ∷ ("OFF", Off) ∷ ("ORD", Ord) ∷ ("OUT", Out) ∷ ("PRN", Prn) ∷ ("REJ", Rej) ∷
    ("SCO", Sco) ∷ ("SLO", Slo) ∷ ("SND", Snd) ∷ ("SUB", Sub) ∷ ("SVE", Sve) ∷ ("THX", Thx) ∷
    ("TME", Tme) ∷ ("YES", Yes) ∷ ("ADM", Adm) ∷ ("SMR", Smr) ∷ ("LVL", Lvl) ∷ ("MRT", Mrt) ∷
    ("UNO", Uno) ∷ ("ALY", Aly) ∷ ("AND", And) ∷ ("BWX", Bwx) ∷ ("DMZ", Dmz) ∷ ("FCT", Fct) ∷
    ("IDK", Idk) ∷ ("INS", Ins) ∷ ("OCC", Occ) ∷ ("ORR", Orr) ∷ ("PCE", Pce) ∷ ("PRP", Prp) ∷
    ("QRY", Qry) ∷ ("SCD", Scd) ∷ ("SRY", Sry) ∷ ("SUG", Sug) ∷ ("THK", Thk) ∷ ("TRY", Try) ∷
    ("VSS", Vss) ∷ ("XDO", Xdo) ∷ []

own-classes :
    map (λ row. option_map class_of (token_named (codes row.0))) own_classes ≡ map (λ row. Some row.1) own_classes
unfolding class_of token_named names
own-classes = refl

-- the tokens of a category
abbrev tokens_in : ℕ → List ℕ
tokens_in category = range_with_len (category * 256) 256

-- the classes of a category, from its first code to its last
abbrev whole : ℕ → List Class
whole category = map class_of (tokens_in category)

-- n codes with the class `Other`
abbrev others : ℕ → List Class
others n = replicate n Other

-- each token with a class of its own has it at its code; the other codes of its category are `Other`, those of category
-- 49 `Param`
at-codes : (whole 0x40 ≡ Bra ∷ Ket ∷ others 254)
    × (whole 0x42 ≡ Amy ∷ Flt ∷ others 254)
    × (whole 0x43 ≡ others 32 ++ Cto ∷ Cvy ∷ Hld ∷ Mto ∷ Sup ∷ Via ∷ others 26 ++ Dsb ∷ Rto ∷ others 62
    ++ Bld ∷ Rem ∷ Wve ∷ others 125)
    × (whole 0x48 ≡ Ccd ∷ Drw ∷ Frm ∷ Gof ∷ Hlo ∷ Hst ∷ Huh ∷ Iam ∷ Lod ∷ Map ∷ Mdf ∷ Mis ∷ Nme ∷ Not ∷ Now ∷ Obs
    ∷ Off ∷ Ord ∷ Out ∷ Prn ∷ Rej ∷ Sco ∷ Slo ∷ Snd ∷ Sub ∷ Sve ∷ Thx ∷ Tme ∷ Yes ∷ Adm ∷ Smr ∷ others 225)
    × (whole 0x4A ≡ Aly ∷ And ∷ Bwx ∷ Dmz ∷ others 2 ++ Fct ∷ others 3 ++ Idk ∷ others 1 ++ Ins ∷ others 1
    ++ Occ ∷ Orr ∷ Pce ∷ others 2 ++ Prp ∷ Qry ∷ Scd ∷ Sry ∷ Sug ∷ Thk ∷ others 1 ++ Try ∷ others 1
    ++ Vss ∷ others 2 ++ Xdo ∷ others 224)
    × (whole 0x49 ≡ replicate 3 Param ++ Lvl ∷ Mrt ∷ replicate 6 Param ++ Uno ∷ replicate 244 Param)
unfolding class_of
at-codes = (refl, refl, refl, refl, refl, refl)

-- every token of these categories is of its kind, listed or not
kinds : (whole 0x41 ≡ replicate 256 Power) × (whole 0x44 ≡ replicate 256 Note) × (whole 0x45 ≡ replicate 256 Outcome)
    × (whole 0x46 ≡ replicate 256 Coast) × (whole 0x47 ≡ replicate 256 Season) × (whole 0x4B ≡ replicate 256 Text)
unfolding class_of
kinds = (refl, refl, refl, refl, refl, refl)

provinces : (whole 0x50 ≡ replicate 256 Province) × (whole 0x51 ≡ replicate 256 Province)
    × (whole 0x52 ≡ replicate 256 Province) × (whole 0x53 ≡ replicate 256 Province)
    × (whole 0x54 ≡ replicate 256 Province) × (whole 0x55 ≡ replicate 256 Province)
    × (whole 0x56 ≡ replicate 256 Province) × (whole 0x57 ≡ replicate 256 Province)
unfolding class_of
provinces = (refl, refl, refl, refl, refl, refl, refl, refl)

-- the classes of the first and the last token of each category, for a range of categories
abbrev ends_of : ℕ → ℕ → List Class
ends_of first n =
    let categories = range_with_len first n in
    map class_of (map (λ c. c * 256) categories ++ map (λ c. c * 256 + 255) categories)

-- the numbers end at 3FFF, and a token of no known category is alien
numbers : ends_of 0x00 64 ≡ replicate 128 Num
unfolding class_of
numbers = refl

aliens : (ends_of 0x4C 4 ≡ replicate 8 Alien) × (ends_of 0x58 168 ≡ replicate 336 Alien)
unfolding class_of
aliens = (refl, refl)
