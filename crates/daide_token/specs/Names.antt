-- The names of tokens, as the protocol's table has them. One table serves both directions.
use Rattle.std.specs.Prelude.{ℕ, ◌+◌, ◌==◌, List, [], ◌∷◌, ◌++◌, codes, bytes_eq, Option, option_map}
use Rattle.std.specs.List.{find}

-- a token and its name
abbrev pub Named : Type 0
Named = ℕ × List ℕ

-- names of three letters, separated by spaces, for tokens that count up by one
abbrev pub names_counting_from : ℕ → List ℕ → List Named
names_counting_from t (a ∷ b ∷ c ∷ space ∷ letters) = (t, a ∷ b ∷ c ∷ []) ∷ names_counting_from (t + 1) letters
names_counting_from t letters = (t, letters) ∷ []

-- the table, by category: brackets, powers, units, orders, notes, results, coasts, seasons, commands, parameters,
-- press, and the provinces of the standard map, inland, inland centres, sea, coastal, coastal centres, bicoastal
-- centres
unfoldable pub names : List Named
names =
    names_counting_from 0x4000 (codes "BRA KET") ++
    names_counting_from 0x4100 (codes "AUS ENG FRA GER ITA RUS TUR") ++
    names_counting_from 0x4200 (codes "AMY FLT") ++
    names_counting_from 0x4320 (codes "CTO CVY HLD MTO SUP VIA") ++
    names_counting_from 0x4340 (codes "DSB RTO") ++
    names_counting_from 0x4380 (codes "BLD REM WVE") ++
    names_counting_from 0x4400 (codes "MBV") ++
    names_counting_from 0x4402 (codes "CST ESC FAR HSC NAS NMB NMR NRN NRS NSA NSC NSF NSP") ++
    names_counting_from 0x4410 (codes "NSU NVR NYU YSC") ++
    names_counting_from 0x4500 (codes "SUC BNC CUT DSR FLD NSO RET") ++
    names_counting_from 0x4600 (codes "NCS") ++
    names_counting_from 0x4602 (codes "NEC") ++
    names_counting_from 0x4604 (codes "ECS") ++
    names_counting_from 0x4606 (codes "SEC") ++
    names_counting_from 0x4608 (codes "SCS") ++
    names_counting_from 0x460A (codes "SWC") ++
    names_counting_from 0x460C (codes "WCS") ++
    names_counting_from 0x460E (codes "NWC") ++
    names_counting_from 0x4700 (codes "SPR SUM FAL AUT WIN") ++
    names_counting_from 0x4800 (codes "CCD DRW FRM GOF HLO HST HUH IAM LOD MAP MDF MIS NME NOT NOW OBS") ++
    names_counting_from 0x4810 (codes "OFF ORD OUT PRN REJ SCO SLO SND SUB SVE THX TME YES ADM SMR") ++
    names_counting_from 0x4900 (codes "AOA BTL ERR LVL MRT MTL NPB NPR PDA PTL RTL UNO") ++
    names_counting_from 0x490D (codes "DSD") ++
    names_counting_from 0x4A00 (codes "ALY") ++
    names_counting_from 0x4A01 (codes "AND") ++
    names_counting_from 0x4A02 (codes "BWX") ++
    names_counting_from 0x4A03 (codes "DMZ") ++
    names_counting_from 0x4A06 (codes "FCT") ++
    names_counting_from 0x4A0A (codes "IDK") ++
    names_counting_from 0x4A0C (codes "INS") ++
    names_counting_from 0x4A0E (codes "OCC") ++
    names_counting_from 0x4A0F (codes "ORR") ++
    names_counting_from 0x4A10 (codes "PCE") ++
    names_counting_from 0x4A13 (codes "PRP") ++
    names_counting_from 0x4A14 (codes "QRY") ++
    names_counting_from 0x4A15 (codes "SCD") ++
    names_counting_from 0x4A16 (codes "SRY") ++
    names_counting_from 0x4A17 (codes "SUG") ++
    names_counting_from 0x4A18 (codes "THK") ++
    names_counting_from 0x4A1A (codes "TRY") ++
    names_counting_from 0x4A1C (codes "VSS") ++
    names_counting_from 0x4A1F (codes "XDO") ++
    names_counting_from 0x5000 (codes "BOH BUR GAL RUH SIL TYR UKR") ++
    names_counting_from 0x5107 (codes "BUD MOS MUN PAR SER VIE WAR") ++
    names_counting_from 0x520E (codes "ADR AEG BAL BAR BLA EAS ECH GOB GOL HEL ION IRI MAO NAO NTH NWG SKA TYS WES") ++
    names_counting_from 0x5421 (codes "ALB APU ARM CLY FIN GAS LVN NAF PIC PIE PRU SYR TUS WAL YOR") ++
    names_counting_from 0x5530 (codes "ANK BEL BER BRE CON DEN EDI GRE HOL KIE LON LVP MAR NAP NWY POR") ++
    names_counting_from 0x5540 (codes "ROM RUM SEV SMY SWE TRI TUN VEN") ++
    names_counting_from 0x5748 (codes "BUL SPA STP")

-- the name of a token, brackets included; a number, a character or an unlisted token has none
unfoldable pub name_of : ℕ → Option (List ℕ)
name_of t = option_map (λ row. row.1) (find (λ row. row.0 == t) names)

-- the token with a name, letter for letter; none if no token has it
unfoldable pub token_named : List ℕ → Option ℕ
token_named name = option_map (λ row. row.0) (find (λ row. bytes_eq row.1 name) names)
