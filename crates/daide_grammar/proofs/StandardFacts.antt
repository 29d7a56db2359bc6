-- The definitions at single messages: for each rule of both sides at least one message, with the level at which it
-- enters, and a similar list that is no message. The expected results were worked out from the protocol's tables, so a
-- wrong definition does not check.
use Rattle.std.specs.Fmt.{digits}
use Rattle.daide_grammar.proofs.Common.{List, [], ◌∷◌, refl, class_of, text_of, L0, L10, L20, L30, L40, L50, L60}
use Rattle.daide_grammar.proofs.Common.{entries, may_end_of, table_answer}
use Rattle.daide_token.specs.Names.{names, name_of, token_named}
use Rattle.daide_grammar.specs.declared.side.Side2.TheVariants.{Client, ServerEnd}
use Rattle.daide_grammar.proofs.FactRows.{Row, said_from, never_said, AllHold, rows-hold}

-- The requests of a client. From the protocol's list of client requests.
abbrev pub requests : List Row
requests =
    said_from Client L0 "NME ( 'a' ) ( 'b' )"
    ∷ said_from Client L0 "NME ( ) ( )"
    ∷ said_from Client L0 "NME ( 'ab' ) ( 'b' )"
    ∷ never_said Client "NME ( 'a' )"
    ∷ never_said Client "NME ( 'a' ( ) 'b' ) ( )"
    ∷ never_said Client "NME ( FRA ) ( 'b' )"
    ∷ never_said Client "NME ( 'a' ) ( FRA )"
    ∷ never_said Client "NME ( 'a' ) ( 'b' ) ( 'b' )"
    ∷ said_from Client L0 "OBS"
    ∷ never_said Client "OBS OBS"
    ∷ said_from Client L0 "IAM ( ENG ) ( 4660 )"
    ∷ never_said Client "IAM ( ENG )"
    ∷ never_said Client "IAM ( ENG FRA ) ( 5 )"
    ∷ never_said Client "IAM ( UNO ) ( 5 )"
    ∷ said_from Client L0 "HLO"
    ∷ never_said Client "HLO ( ENG )"
    ∷ said_from Client L0 "MAP"
    ∷ never_said Client "MAP ( 'a' )"
    ∷ said_from Client L0 "MDF"
    ∷ never_said Client "MDF ( )"
    ∷ said_from Client L0 "SCO"
    ∷ never_said Client "SCO ( FRA PAR )"
    ∷ said_from Client L0 "NOW"
    ∷ never_said Client "NOW ( SPR 1901 )"
    ∷ said_from Client L0 "ORD"
    ∷ never_said Client "ORD ( SPR 1901 )"
    ∷ said_from Client L0 "HST ( SPR 1901 )"
    ∷ never_said Client "HST"
    ∷ never_said Client "HST ( SPR )"
    ∷ never_said Client "HST ( SPR 1901 1902 )"
    ∷ said_from Client L0 "SUB"
    ∷ said_from Client L0 "SUB ( SPR 1901 )"
    ∷ never_said Client "SUB ( )"
    ∷ never_said Client "SUB ( SPR 1901 ) ( SPR 1901 )"
    ∷ said_from Client L0 "MIS"
    ∷ never_said Client "MIS ( -1 )"
    ∷ said_from Client L0 "GOF"
    ∷ never_said Client "GOF ( )"
    ∷ said_from Client L0 "TME"
    ∷ said_from Client L0 "TME ( -1 )"
    ∷ never_said Client "TME -1"
    ∷ never_said Client "TME ( )"
    ∷ said_from Client L0 "DRW"
    ∷ said_from Client L0 "DRW ( ENG FRA )"
    ∷ never_said Client "DRW ( )"
    ∷ never_said Client "DRW ( ENG ) ( FRA )"
    ∷ never_said Client "DRW ( UNO )"
    ∷ said_from Client L0 "NOT ( SUB ( SPR 1901 ) ( ENG WVE ) )"
    ∷ said_from Client L0 "NOT ( SUB )"
    ∷ said_from Client L0 "NOT ( GOF )"
    ∷ said_from Client L0 "NOT ( TME )"
    ∷ said_from Client L0 "NOT ( TME ( 5 ) )"
    ∷ said_from Client L0 "NOT ( DRW )"
    ∷ said_from Client L0 "NOT ( DRW ( ENG FRA ) )"
    ∷ never_said Client "NOT ( OBS )"
    ∷ never_said Client "NOT ( )"
    ∷ said_from Client L0 "ADM ( 'a' ) ( 'b' )"
    ∷ never_said Client "ADM ( 'a' ) 'b'"
    ∷ never_said Client "'a'"
    ∷ never_said Client ""
    ∷ []

pub requests_hold : AllHold requests
unfolding class_of table_answer entries may_end_of text_of names name_of token_named digits
requests_hold = rows-hold requests refl

-- The other messages of a client: yes or no to the server's MAP, SVE and LOD, and a report. It may not send the
-- server's own messages.
abbrev pub client : List Row
client =
    said_from Client L0 "YES ( MAP ( 'a' ) )"
    ∷ said_from Client L0 "YES ( SVE ( ) )"
    ∷ said_from Client L0 "YES ( LOD ( ) )"
    ∷ said_from Client L0 "REJ ( MAP ( 'a' ) )"
    ∷ said_from Client L0 "REJ ( SVE ( 'a' ) )"
    ∷ said_from Client L0 "REJ ( LOD ( 'a' ) )"
    ∷ never_said Client "YES ( GOF )"
    ∷ never_said Client "YES ( MAP 'a' )"
    ∷ never_said Client "YES ( MAP ( FRA ) )"
    ∷ never_said Client "YES ( MAP ( 'a' ) ( 'b' ) )"
    ∷ never_said Client "REJ ( OBS )"
    ∷ never_said Client "YES ( SND ( FRA ) ( TRY ( ) ) )"
    ∷ said_from Client L0 "HUH ( GOF ( ) )"
    ∷ said_from Client L0 "HUH ( GOF ( ( ) OBS ) ( ) )"
    ∷ never_said Client "HUH GOF"
    ∷ never_said Client "HUH ( ) ( )"
    ∷ never_said Client "OFF"
    ∷ never_said Client "CCD ( FRA )"
    ∷ never_said Client "SVE ( 'a' )"
    ∷ never_said Client "FRM ( FRA ) ( ENG ) ( TRY ( ) )"
    ∷ []

pub client_hold : AllHold client
unfolding class_of table_answer entries may_end_of text_of names name_of token_named digits
client_hold = rows-hold client refl

-- Orders, in SUB.
abbrev pub orders : List Row
orders =
    said_from Client L0 "SUB ( SPR 1901 ) ( ( ENG FLT NTH ) MTO ( STP NCS ) )"
    ∷ said_from Client L0 "SUB ( ( ENG FLT NTH ) HLD ) ( ( ENG AMY LON ) HLD )"
    ∷ never_said Client "SUB ( ENG FLT NTH ) HLD"
    ∷ never_said Client "SUB ( ( UNO FLT NTH ) HLD )"
    ∷ never_said Client "SUB ( ( ENG FLT NTH MRT ( NWY ) ) HLD )"
    ∷ never_said Client "SUB ( ( ENG FLT ( STP NCS SCS ) ) HLD )"
    ∷ said_from Client L0 "SUB ( ( ENG FLT NTH ) MTO NWY )"
    ∷ never_said Client "SUB ( ( ENG FLT NTH ) MTO )"
    ∷ said_from Client L0 "SUB ( ( ENG FLT ( SPA NCS ) ) SUP ( FRA AMY GAS ) )"
    ∷ said_from Client L0 "SUB ( ( ENG FLT NTH ) SUP ( FRA AMY GAS ) MTO SPA )"
    ∷ never_said Client "SUB ( ( ENG FLT NTH ) SUP ( FRA AMY GAS ) MTO ( SPA NCS ) )"
    ∷ never_said Client "SUB ( ( ENG FLT NTH ) SUP ( FRA AMY GAS ) MTO SPA PAR )"
    ∷ never_said Client "SUB ( ( ENG FLT NTH ) SUP ( FRA AMY GAS MRT ( ) ) )"
    ∷ said_from Client L0 "SUB ( ( ENG FLT NTH ) CVY ( ENG AMY LON ) CTO NWY )"
    ∷ never_said Client "SUB ( ( ENG FLT NTH ) CVY ( ENG AMY LON ) CTO ( STP NCS ) )"
    ∷ never_said Client "SUB ( ( ENG FLT NTH ) CVY ( ENG AMY LON ) CTO NWY VIA ( NTH ) )"
    ∷ said_from Client L0 "SUB ( ( ENG AMY LON ) CTO NWY VIA ( NTH ) )"
    ∷ said_from Client L0 "SUB ( ( ENG AMY LON ) CTO SYR VIA ( NTH MAO WES ION ) )"
    ∷ never_said Client "SUB ( ( ENG AMY LON ) CTO NWY VIA ( ) )"
    ∷ never_said Client "SUB ( ( ENG FLT NTH ) CTO NWY )"
    ∷ never_said Client "SUB ( ( ENG AMY LON ) CTO ( STP NCS ) VIA ( NTH ) )"
    ∷ never_said Client "SUB ( ( ENG AMY LON ) CTO NWY VIA ( ( STP NCS ) ) )"
    ∷ said_from Client L0 "SUB ( ( ENG FLT NTH ) RTO ( STP NCS ) )"
    ∷ never_said Client "SUB ( ( ENG FLT NTH ) RTO )"
    ∷ said_from Client L0 "SUB ( ( ENG FLT NTH ) DSB )"
    ∷ never_said Client "SUB ( ( ENG FLT NTH ) DSB NTH )"
    ∷ said_from Client L0 "SUB ( ( ENG FLT LON ) BLD ) ( ( ENG FLT LON ) REM )"
    ∷ never_said Client "SUB ( ( ENG LON ) BLD )"
    ∷ said_from Client L0 "SUB ( ENG WVE )"
    ∷ never_said Client "SUB ( ( ENG ) WVE )"
    ∷ never_said Client "SUB ( UNO WVE )"
    ∷ never_said Client "SUB ( ENG WVE ) ( SPR 1901 )"
    ∷ []

pub orders_hold : AllHold orders
unfolding class_of table_answer entries may_end_of text_of names name_of token_named digits
orders_hold = rows-hold orders refl

-- What a server says without press. From the protocol's list of server messages.
abbrev pub server : List Row
server =
    said_from ServerEnd L0 "MAP ( 'a' )"
    ∷ never_said ServerEnd "MAP"
    ∷ said_from ServerEnd L0 "MDF ( FRA ) ( ( ( FRA PAR ) ( UNO ) ) ( GAS ) ) ( )"
    ∷ said_from ServerEnd L0 "MDF ( FRA ) ( ( ) ( ) ) ( ( PAR ( AMY GAS ) ) ( GAS ( AMY PAR ) ( ( FLT NCS ) SPA ) ) )"
    ∷ said_from ServerEnd L0 "MDF ( FRA ) ( ( ( ( FRA ENG ) PAR ) ) ( ) ) ( )"
    ∷ said_from ServerEnd L0 "MDF ( ENG FRA ) ( ( ( FRA PAR BRE ) ) ( GAS BUR ) ) ( ( PAR ( AMY GAS BUR ) ( FLT ) ) )"
    ∷ never_said ServerEnd "MDF ( ) ( ( ( FRA PAR ) ) ( GAS ) ) ( )"
    ∷ never_said ServerEnd "MDF ( FRA ) ( ( ( FRA PAR ) ) ) ( )"
    ∷ never_said ServerEnd "MDF ( FRA ) ( ( ) ( ) ) ( ( PAR ( AMY ) ( NCS GAS ) ) )"
    ∷ never_said ServerEnd "MDF ( FRA ) ( ( ( FRA ( SPA NCS ) ) ) ( ) ) ( )"
    ∷ never_said ServerEnd "MDF ( FRA ) ( ( ) ( ) ) ( ( ( SPA NCS ) ) )"
    ∷ never_said ServerEnd "MDF ( FRA ) ( ( ) ( ) ) ( ( PAR GAS ) )"
    ∷ said_from ServerEnd L0 "MDF ( FRA ) ( ( ) ( ) ) ( ( STP ( ( FLT NCS ) BAR NWY ) ( FLT ( SPA NCS ) ) ) ( PAR ) )"
    ∷ never_said ServerEnd "MDF ( UNO ) ( ( ) ( ) ) ( )"
    ∷ never_said ServerEnd "MDF ( FRA ) ( ( ) ( ( SPA NCS ) ) ) ( )"
    ∷ said_from ServerEnd L0 "HLO ( ENG ) ( 1234 ) ( ( LVL 10 ) )"
    ∷ said_from ServerEnd L0 "HLO ( UNO ) ( 0 ) ( ( AOA ) ( MTL 60 ) )"
    ∷ never_said ServerEnd "HLO"
    ∷ never_said ServerEnd "HLO ( ENG FRA ) ( 0 ) ( )"
    ∷ never_said ServerEnd "HLO ( ENG ) ( 0 ) ( ( LVL 10 20 ) )"
    ∷ never_said ServerEnd "HLO ( ( ENG ) ) ( 5 ) ( )"
    ∷ said_from ServerEnd L0 "HLO ( ENG ) ( 5 ) ( )"
    ∷ said_from ServerEnd L0 "HLO ( ENG ) ( 5 ) ( ( MRT ) ( UNO 3 ) ( ERR ) )"
    ∷ never_said ServerEnd "HLO ( ENG ) ( 5 ) ( ( 10 ) )"
    ∷ said_from ServerEnd L0 "SCO ( FRA PAR ) ( UNO BEL )"
    ∷ said_from ServerEnd L0 "SCO ( ( FRA ENG ) PAR BEL )"
    ∷ never_said ServerEnd "SCO ( FRA PAR ) FRA"
    ∷ never_said ServerEnd "SCO ( PAR )"
    ∷ never_said ServerEnd "SCO ( FRA ( SPA NCS ) )"
    ∷ never_said ServerEnd "SCO ( ( FRA UNO ) PAR )"
    ∷ said_from ServerEnd L0 "SCO"
    ∷ said_from ServerEnd L0 "SCO ( FRA ) ( ( FRA ) PAR ) ( ( FRA ENG GER ) )"
    ∷ never_said ServerEnd "SCO ( ( ) PAR )"
    ∷ said_from ServerEnd L0 "NOW ( SPR 1901 ) ( FRA AMY PAR ) ( FRA FLT BRE MRT ( ECH ) )"
    ∷ never_said ServerEnd "NOW ( FRA AMY PAR )"
    ∷ never_said ServerEnd "NOW ( SPR 1901 ) ( FRA AMY PAR MRT )"
    ∷ never_said ServerEnd "NOW ( SPR 1901 ) ( UNO AMY PAR )"
    ∷ said_from ServerEnd L0 "NOW ( SPR 1901 )"
    ∷ said_from ServerEnd L0 "NOW ( SPR 1901 ) ( FRA FLT BRE MRT ( ) ) ( FRA AMY PAR MRT ( BUR GAS PIC ) )"
    ∷ said_from ServerEnd L0 "THX ( ( FRA AMY PAR ) HLD ) ( MBV )"
    ∷ never_said ServerEnd "THX ( ( FRA AMY PAR ) HLD ) ( SUC )"
    ∷ never_said ServerEnd "THX ( ENG WVE ) ( MBV ) ( MBV )"
    ∷ said_from ServerEnd L0 "MIS ( FRA AMY BUR MRT ( PAR ( SPA SCS ) ) )"
    ∷ said_from ServerEnd L0 "MIS ( -1 )"
    ∷ said_from ServerEnd L0 "MIS"
    ∷ never_said ServerEnd "MIS ( -1 ) ( FRA AMY BUR )"
    ∷ never_said ServerEnd "MIS ( FRA AMY BUR ) ( -1 )"
    ∷ said_from ServerEnd L0 "ORD ( SPR 1901 ) ( ( FRA AMY PAR ) HLD ) ( SUC RET )"
    ∷ said_from ServerEnd L0 "ORD ( SPR 1901 ) ( FRA WVE ) ( MBV )"
    ∷ never_said ServerEnd "ORD ( SPR 1901 ) ( FRA WVE ) ( )"
    ∷ never_said ServerEnd "ORD ( SPR 1901 ) ( ENG WVE ) ( SUC ) ( RET )"
    ∷ said_from ServerEnd L0 "ORD ( SPR 1901 ) ( FRA WVE ) ( SUC BNC DSR RET )"
    ∷ said_from ServerEnd L0 "TME ( 30 )"
    ∷ never_said ServerEnd "TME"
    ∷ said_from ServerEnd L0 "CCD ( FRA )"
    ∷ never_said ServerEnd "CCD ( UNO )"
    ∷ said_from ServerEnd L0 "NOT ( CCD ( FRA ) )"
    ∷ never_said ServerEnd "NOT ( GOF )"
    ∷ said_from ServerEnd L0 "OUT ( FRA )"
    ∷ never_said ServerEnd "OUT ( UNO )"
    ∷ said_from ServerEnd L0 "SLO ( FRA )"
    ∷ never_said ServerEnd "SLO"
    ∷ never_said ServerEnd "SLO ( UNO )"
    ∷ said_from ServerEnd L0 "DRW"
    ∷ said_from ServerEnd L0 "DRW ( ENG FRA )"
    ∷ never_said ServerEnd "DRW ( )"
    ∷ said_from ServerEnd L0 "OFF"
    ∷ never_said ServerEnd "OFF ( FRA )"
    ∷ said_from ServerEnd L0 "SMR ( FAL 1905 ) ( FRA ( 'a' ) ( 'b' ) 0 1904 ) ( ENG ( ) ( ) 18 )"
    ∷ said_from ServerEnd L0 "SMR ( FAL 1905 )"
    ∷ never_said ServerEnd "SMR ( FAL 1905 ) ( FRA ( 'a' ) ( 'b' ) )"
    ∷ never_said ServerEnd "SMR ( FAL 1905 ) ( UNO ( ) ( ) 18 )"
    ∷ never_said ServerEnd "SMR ( FAL 1905 ) ( FRA ( FRA ) ( 'b' ) 5 )"
    ∷ said_from ServerEnd L0 "SVE ( 'a' )"
    ∷ never_said ServerEnd "SVE"
    ∷ said_from ServerEnd L0 "LOD ( 'a' )"
    ∷ never_said ServerEnd "LOD ( FRA )"
    ∷ said_from ServerEnd L0 "ADM ( 'a' ) ( 'b' )"
    ∷ never_said ServerEnd "ADM ( 'a' )"
    ∷ said_from ServerEnd L0 "HUH ( )"
    ∷ never_said ServerEnd "HUH OFF"
    ∷ never_said ServerEnd "GOF"
    ∷ never_said ServerEnd "SUB"
    ∷ never_said ServerEnd ""
    ∷ []

pub server_hold : AllHold server
unfolding class_of table_answer entries may_end_of text_of names name_of token_named digits
server_hold = rows-hold server refl

-- The requests that a server accepts or refuses.
abbrev pub answered_requests : List Row
answered_requests =
    said_from ServerEnd L0 "YES ( NME ( 'a' ) ( 'b' ) )"
    ∷ said_from ServerEnd L0 "YES ( OBS )"
    ∷ said_from ServerEnd L0 "YES ( IAM ( ENG ) ( 4660 ) )"
    ∷ said_from ServerEnd L0 "YES ( HLO )"
    ∷ said_from ServerEnd L0 "YES ( HST ( SPR 1901 ) )"
    ∷ said_from ServerEnd L0 "YES ( SUB ( SPR 1901 ) ( ENG WVE ) )"
    ∷ said_from ServerEnd L0 "YES ( GOF )"
    ∷ said_from ServerEnd L0 "YES ( TME ( 30 ) )"
    ∷ said_from ServerEnd L0 "YES ( DRW ( ENG FRA ) )"
    ∷ said_from ServerEnd L0 "YES ( NOT ( GOF ) )"
    ∷ said_from ServerEnd L0 "REJ ( NME ( 'a' ) ( 'b' ) )"
    ∷ said_from ServerEnd L0 "REJ ( IAM ( ENG ) ( 4660 ) )"
    ∷ said_from ServerEnd L0 "REJ ( MAP )"
    ∷ said_from ServerEnd L0 "REJ ( MDF )"
    ∷ said_from ServerEnd L0 "REJ ( SCO )"
    ∷ said_from ServerEnd L0 "REJ ( NOW )"
    ∷ said_from ServerEnd L0 "REJ ( ORD )"
    ∷ said_from ServerEnd L0 "REJ ( SUB )"
    ∷ said_from ServerEnd L0 "REJ ( MIS )"
    ∷ said_from ServerEnd L0 "REJ ( NOT ( SUB ) )"
    ∷ said_from ServerEnd L0 "REJ ( ADM ( 'a' ) ( 'b' ) )"
    ∷ never_said ServerEnd "YES"
    ∷ never_said ServerEnd "REJ ( )"
    ∷ never_said ServerEnd "YES ( OFF )"
    ∷ never_said ServerEnd "YES ( MAP ( 'a' ) )"
    ∷ never_said ServerEnd "YES ( HUH ( ) )"
    ∷ never_said ServerEnd "YES ( YES ( MAP ( 'a' ) ) )"
    ∷ never_said ServerEnd "REJ ( REJ ( OBS ) )"
    ∷ never_said ServerEnd "REJ ( YES ( MAP ( 'a' ) ) )"
    ∷ never_said ServerEnd "REJ ( OBS ) ( OBS )"
    ∷ []

pub answered_requests_hold : AllHold answered_requests
unfolding class_of table_answer entries may_end_of text_of names name_of token_named digits
answered_requests_hold = rows-hold answered_requests refl

-- The sending of press, which begins at level 10.
abbrev pub sends : List Row
sends =
    said_from Client L10 "SND ( FRA ) ( TRY ( DRW ) )"
    ∷ said_from Client L10 "SND ( SPR 1901 ) ( FRA GER ) ( TRY ( ) )"
    ∷ said_from Client L10 "SND ( FRA GER ENG ) ( TRY ( PRP PCE DRW ENG 5 'a' ) )"
    ∷ never_said Client "SND ( SPR 1901 ) ( TRY ( ) )"
    ∷ never_said Client "SND ( TRY ( DRW ) )"
    ∷ never_said Client "SND ( ) ( TRY ( ) )"
    ∷ never_said Client "SND ( UNO ) ( TRY ( ) )"
    ∷ never_said Client "SND ( FRA UNO ) ( TRY ( ) )"
    ∷ never_said Client "SND ( SPR 1901 ) ( SPR 1901 ) ( FRA ) ( TRY ( ) )"
    ∷ never_said Client "SND ( FRA ) ( TRY ( ) ) ( TRY ( ) )"
    ∷ never_said Client "SND ( FRA )"
    ∷ never_said Client "TRY ( DRW )"
    ∷ never_said ServerEnd "SND ( FRA ) ( TRY ( DRW ) )"
    ∷ []

pub sends_hold : AllHold sends
unfolding class_of table_answer entries may_end_of text_of names name_of token_named digits
sends_hold = rows-hold sends refl

-- Press from level 10 and, from 60, the press that queries and insists.
abbrev pub press : List Row
press =
    said_from Client L10 "SND ( FRA ) ( PRP ( DRW ) )"
    ∷ said_from Client L10 "SND ( FRA ) ( FCT ( SLO ( FRA ) ) )"
    ∷ said_from Client L10 "SND ( FRA ) ( YES ( REJ ( BWX ( HUH ( ( ) ) ) ) ) )"
    ∷ never_said Client "SND ( FRA ) ( TRY ( ( DRW ) ) )"
    ∷ never_said Client "SND ( FRA ) ( HUH DRW )"
    ∷ never_said Client "SND ( FRA ) ( PRP ( DRW ) ( DRW ) )"
    ∷ never_said Client "SND ( FRA ) ( PRN ( ) )"
    ∷ said_from Client L60 "SND ( FRA ) ( INS ( DRW ) )"
    ∷ said_from Client L60 "SND ( FRA ) ( INS ( AND ( DRW ) ( ORR ( DRW ) ( DRW ) ) ) )"
    ∷ said_from Client L60 "SND ( FRA ) ( QRY ( DRW ) )"
    ∷ said_from Client L60 "SND ( FRA ) ( QRY ( AND ( DRW ) ( ORR ( DRW ) ( DRW ) ) ) )"
    ∷ said_from Client L60 "SND ( FRA ) ( SUG ( DRW ) )"
    ∷ said_from Client L60 "SND ( FRA ) ( THK ( DRW ) )"
    ∷ said_from Client L60 "SND ( FRA ) ( THK ( QRY ( DRW ) ) )"
    ∷ said_from Client L60 "SND ( FRA ) ( IDK ( TRY ( ) ) )"
    ∷ said_from Client L60 "SND ( FRA ) ( SRY ( TRY ( ) ) )"
    ∷ said_from Client L60 "SND ( FRA ) ( YES ( INS ( DRW ) ) )"
    ∷ never_said Client "SND ( FRA ) ( INS ( QRY ( DRW ) ) )"
    ∷ never_said Client "SND ( FRA ) ( SUG ( QRY ( DRW ) ) )"
    ∷ never_said Client "SND ( FRA ) ( QRY ( QRY ( DRW ) ) )"
    ∷ never_said Client "SND ( FRA ) ( IDK ( DRW ) )"
    ∷ []

pub press_hold : AllHold press
unfolding class_of table_answer entries may_end_of text_of names name_of token_named digits
press_hold = rows-hold press refl

-- Arrangements.
abbrev pub arrangements : List Row
arrangements =
    said_from Client L10 "SND ( FRA ) ( PRP ( PCE ( ENG FRA ) ) )"
    ∷ never_said Client "SND ( FRA ) ( PRP ( PCE ( ) ) )"
    ∷ never_said Client "SND ( FRA ) ( PRP ( PCE ( UNO ) ) )"
    ∷ said_from Client L10 "SND ( FRA ) ( PRP ( PCE ( ENG FRA GER ) ) )"
    ∷ never_said Client "SND ( FRA ) ( PRP ( PCE ( ENG UNO ) ) )"
    ∷ said_from Client L10 "SND ( FRA ) ( PRP ( ALY ( ENG FRA ) VSS ( GER ) ) )"
    ∷ never_said Client "SND ( FRA ) ( PRP ( ALY ( ENG FRA ) ( GER ) ) )"
    ∷ never_said Client "SND ( FRA ) ( PRP ( ALY ( ENG ) VSS ( ) ) )"
    ∷ said_from Client L10 "SND ( FRA ) ( PRP ( ALY ( ENG ) VSS ( GER RUS TUR ) ) )"
    ∷ never_said Client "SND ( FRA ) ( PRP ( ALY ( ) VSS ( GER ) ) )"
    ∷ never_said Client "SND ( FRA ) ( PRP ( ALY ( UNO ) VSS ( GER ) ) )"
    ∷ said_from Client L10 "SND ( FRA ) ( PRP ( DRW ( ENG FRA ) ) )"
    ∷ said_from Client L10 "SND ( FRA ) ( PRP ( SLO ( FRA ) ) )"
    ∷ never_said Client "SND ( FRA ) ( PRP ( SLO ) )"
    ∷ never_said Client "SND ( FRA ) ( PRP ( SLO ( UNO ) ) )"
    ∷ said_from Client L10 "SND ( FRA ) ( PRP ( NOT ( NOT ( DRW ( ENG ) ) ) ) )"
    ∷ said_from Client L20 "SND ( FRA ) ( PRP ( XDO ( ( FRA AMY PAR ) HLD ) ) )"
    ∷ said_from Client L20 "SND ( FRA ) ( PRP ( DMZ ( FRA ) ( GAS ) ) )"
    ∷ never_said Client "SND ( FRA ) ( PRP ( DMZ ( FRA ) ( ) ) )"
    ∷ never_said Client "SND ( FRA ) ( PRP ( DMZ ( FRA ) ( ( SPA NCS ) ) ) )"
    ∷ said_from Client L20 "SND ( FRA ) ( PRP ( DMZ ( FRA ENG GER ) ( GAS BUR PIC ) ) )"
    ∷ never_said Client "SND ( FRA ) ( PRP ( DMZ ( ) ( GAS ) ) )"
    ∷ never_said Client "SND ( FRA ) ( PRP ( DMZ ( UNO ) ( GAS ) ) )"
    ∷ said_from Client L20 "SND ( FRA ) ( PRP ( NOT ( XDO ( ENG WVE ) ) ) )"
    ∷ said_from Client L30 "SND ( FRA ) ( PRP ( AND ( DRW ) ( DRW ) ) )"
    ∷ said_from Client L30 "SND ( FRA ) ( PRP ( AND ( DRW ) ( DRW ) ( DRW ) ) )"
    ∷ never_said Client "SND ( FRA ) ( PRP ( AND ( DRW ) ) )"
    ∷ said_from Client L30 "SND ( FRA ) ( PRP ( AND ( DRW ) ( DRW ) ( DRW ) ( DRW ) ) )"
    ∷ said_from Client L30 "SND ( FRA ) ( PRP ( ORR ( DRW ) ( DRW ) ) )"
    ∷ said_from Client L30 "SND ( FRA ) ( PRP ( ORR ( DRW ) ( DRW ) ( SLO ( FRA ) ) ) )"
    ∷ never_said Client "SND ( FRA ) ( PRP ( ORR ( DRW ) ) )"
    ∷ said_from Client L30 "SND ( FRA ) ( PRP ( ORR ( PCE ( ENG ) ) ( ALY ( ENG ) VSS ( GER ) ) ( SLO ( FRA ) ) ) )"
    ∷ said_from Client L30 "SND ( FRA ) ( PRP ( AND ( XDO ( ENG WVE ) ) ( NOT ( DRW ) ) ) )"
    ∷ said_from Client L30 "SND ( FRA ) ( PRP ( NOT ( AND ( DRW ) ( DRW ) ) ) )"
    ∷ said_from Client L40 "SND ( FRA ) ( PRP ( SCD ( FRA PAR ) ) )"
    ∷ said_from Client L40 "SND ( FRA ) ( PRP ( SCD ( FRA PAR ) ( ENG ) ) )"
    ∷ never_said Client "SND ( FRA ) ( PRP ( SCD ) )"
    ∷ said_from Client L40 "SND ( FRA ) ( PRP ( SCD ( FRA PAR BRE MAR ) ( ENG LON ) ( GER ) ) )"
    ∷ never_said Client "SND ( FRA ) ( PRP ( SCD ( UNO PAR ) ) )"
    ∷ never_said Client "SND ( FRA ) ( PRP ( SCD ( FRA ( SPA NCS ) ) ) )"
    ∷ said_from Client L40 "SND ( FRA ) ( PRP ( OCC ( FRA AMY PAR ) ) )"
    ∷ said_from Client L40 "SND ( FRA ) ( PRP ( OCC ( FRA AMY PAR ) ( ENG FLT NTH ) ) )"
    ∷ never_said Client "SND ( FRA ) ( PRP ( OCC ( FRA AMY ) ) )"
    ∷ said_from Client L40 "SND ( FRA ) ( PRP ( OCC ( FRA AMY PAR ) ( ENG FLT NTH ) ( GER AMY MUN ) ) )"
    ∷ never_said Client "SND ( FRA ) ( PRP ( OCC ) )"
    ∷ never_said Client "SND ( FRA ) ( PRP ( OCC ( FRA AMY PAR MRT ( ) ) ) )"
    ∷ said_from Client L40 "SND ( FRA ) ( PRP ( AND ( SCD ( FRA PAR ) ) ( OCC ( FRA AMY PAR ) ) ) )"
    ∷ said_from Client L50 "SND ( FRA ) ( PRP ( AND ( AND ( DRW ) ( DRW ) ) ( DRW ) ) )"
    ∷ said_from Client L50 "SND ( FRA ) ( PRP ( AND ( DRW ) ( ORR ( DRW ) ( DRW ) ) ) )"
    ∷ said_from Client L50 "SND ( FRA ) ( PRP ( ORR ( DRW ) ( DRW ) ( AND ( DRW ) ( DRW ) ) ) )"
    ∷ said_from Client L50 "SND ( FRA ) ( PRP ( AND ( NOT ( ORR ( DRW ) ( DRW ) ) ) ( DRW ) ) )"
    ∷ never_said Client "SND ( FRA ) ( PRP ( ORR ( DRW ) ( QRY ( DRW ) ) ) )"
    ∷ []

pub arrangements_hold : AllHold arrangements
unfolding class_of table_answer entries may_end_of text_of names name_of token_named digits
arrangements_hold = rows-hold arrangements refl

-- Facts: arrangements, and at level 60 queries and the negations of facts.
abbrev pub facts : List Row
facts =
    said_from Client L10 "SND ( FRA ) ( FCT ( NOT ( NOT ( DRW ) ) ) )"
    ∷ said_from Client L20 "SND ( FRA ) ( FCT ( XDO ( ENG WVE ) ) )"
    ∷ said_from Client L30 "SND ( FRA ) ( FCT ( AND ( DRW ) ( DRW ) ) )"
    ∷ said_from Client L40 "SND ( FRA ) ( FCT ( SCD ( FRA PAR ) ) )"
    ∷ said_from Client L50 "SND ( FRA ) ( FCT ( AND ( DRW ) ( ORR ( DRW ) ( DRW ) ) ) )"
    ∷ said_from Client L60 "SND ( FRA ) ( FCT ( QRY ( DRW ) ) )"
    ∷ said_from Client L60 "SND ( FRA ) ( FCT ( QRY ( AND ( DRW ) ( DRW ) ) ) )"
    ∷ said_from Client L60 "SND ( FRA ) ( FCT ( NOT ( QRY ( DRW ) ) ) )"
    ∷ said_from Client L60 "SND ( FRA ) ( FCT ( NOT ( NOT ( QRY ( DRW ) ) ) ) )"
    ∷ never_said Client "SND ( FRA ) ( PRP ( NOT ( QRY ( DRW ) ) ) )"
    ∷ never_said Client "SND ( FRA ) ( FCT ( QRY ( QRY ( DRW ) ) ) )"
    ∷ never_said Client "SND ( FRA ) ( FCT ( AND ( DRW ) ( QRY ( DRW ) ) ) )"
    ∷ never_said Client "SND ( FRA ) ( FCT ( NOT ( AND ( DRW ) ( QRY ( DRW ) ) ) ) )"
    ∷ []

pub facts_hold : AllHold facts
unfolding class_of table_answer entries may_end_of text_of names name_of token_named digits
facts_hold = rows-hold facts refl

-- Press that a server passes on, FRM: each press, arrangement and fact at its level.
abbrev pub passed_on : List Row
passed_on =
    said_from ServerEnd L10 "FRM ( FRA ) ( ENG ) ( PRP ( PCE ( ENG FRA ) ) )"
    ∷ said_from ServerEnd L10 "FRM ( FRA ) ( ENG ) ( PRP ( ALY ( ENG FRA ) VSS ( GER ) ) )"
    ∷ said_from ServerEnd L10 "FRM ( FRA ) ( ENG ) ( PRP ( DRW ) )"
    ∷ said_from ServerEnd L10 "FRM ( FRA ) ( ENG ) ( PRP ( SLO ( FRA ) ) )"
    ∷ said_from ServerEnd L10 "FRM ( FRA ) ( ENG ) ( PRP ( NOT ( DRW ) ) )"
    ∷ said_from ServerEnd L10 "FRM ( FRA ) ( ENG ) ( FCT ( DRW ) )"
    ∷ said_from ServerEnd L10 "FRM ( FRA ) ( ENG GER ) ( TRY ( PRP DRW ) )"
    ∷ said_from ServerEnd L10 "FRM ( FRA ) ( ENG ) ( YES ( PRP ( DRW ) ) )"
    ∷ said_from ServerEnd L10 "FRM ( FRA ) ( ENG ) ( REJ ( PRP ( DRW ) ) )"
    ∷ said_from ServerEnd L10 "FRM ( FRA ) ( ENG ) ( BWX ( PRP ( DRW ) ) )"
    ∷ said_from ServerEnd L10 "FRM ( FRA ) ( ENG ) ( HUH ( PRP ( ) ) )"
    ∷ said_from ServerEnd L20 "FRM ( FRA ) ( ENG ) ( PRP ( XDO ( ( FRA AMY PAR ) HLD ) ) )"
    ∷ said_from ServerEnd L20 "FRM ( FRA ) ( ENG ) ( PRP ( DMZ ( FRA ) ( GAS ) ) )"
    ∷ said_from ServerEnd L20 "FRM ( FRA ) ( ENG ) ( YES ( PRP ( XDO ( ENG WVE ) ) ) )"
    ∷ said_from ServerEnd L30 "FRM ( FRA ) ( ENG ) ( PRP ( AND ( DRW ) ( DRW ) ) )"
    ∷ said_from ServerEnd L30 "FRM ( FRA ) ( ENG ) ( PRP ( ORR ( DRW ) ( DRW ) ) )"
    ∷ said_from ServerEnd L30 "FRM ( FRA ) ( ENG ) ( REJ ( FCT ( NOT ( AND ( DRW ) ( DRW ) ) ) ) )"
    ∷ said_from ServerEnd L40 "FRM ( FRA ) ( ENG ) ( PRP ( SCD ( FRA PAR ) ) )"
    ∷ said_from ServerEnd L40 "FRM ( FRA ) ( ENG ) ( PRP ( OCC ( FRA AMY PAR ) ) )"
    ∷ said_from ServerEnd L50 "FRM ( FRA ) ( ENG ) ( PRP ( AND ( AND ( DRW ) ( DRW ) ) ( DRW ) ) )"
    ∷ said_from ServerEnd L50 "FRM ( FRA ) ( ENG ) ( PRP ( ORR ( DRW ) ( NOT ( AND ( DRW ) ( DRW ) ) ) ) )"
    ∷ said_from ServerEnd L60 "FRM ( FRA ) ( ENG ) ( INS ( DRW ) )"
    ∷ said_from ServerEnd L60 "FRM ( FRA ) ( ENG ) ( QRY ( DRW ) )"
    ∷ said_from ServerEnd L60 "FRM ( FRA ) ( ENG ) ( SUG ( DRW ) )"
    ∷ said_from ServerEnd L60 "FRM ( FRA ) ( ENG ) ( THK ( DRW ) )"
    ∷ said_from ServerEnd L60 "FRM ( FRA ) ( ENG ) ( IDK ( TRY ( ) ) )"
    ∷ said_from ServerEnd L60 "FRM ( FRA ) ( ENG ) ( SRY ( TRY ( ) ) )"
    ∷ said_from ServerEnd L60 "FRM ( FRA ) ( ENG ) ( FCT ( QRY ( DRW ) ) )"
    ∷ said_from ServerEnd L60 "FRM ( FRA ) ( ENG ) ( THK ( NOT ( QRY ( DRW ) ) ) )"
    ∷ never_said ServerEnd "FRM ( FRA ENG ) ( ENG ) ( TRY ( ) )"
    ∷ never_said ServerEnd "FRM ( FRA ) ( UNO ) ( TRY ( ) )"
    ∷ never_said ServerEnd "FRM ( UNO ) ( ENG ) ( TRY ( ) )"
    ∷ never_said ServerEnd "FRM ( FRA ) ( ) ( TRY ( ) )"
    ∷ never_said ServerEnd "FRM ( FRA ) ( TRY ( ) )"
    ∷ never_said ServerEnd "FRM ( FRA ) ( ENG )"
    ∷ never_said ServerEnd "FRM ( SPR 1901 ) ( FRA ) ( ENG ) ( TRY ( ) )"
    ∷ never_said ServerEnd "FRM ( FRA ) ( ENG ) ( TRY ( ) ) ( TRY ( ) )"
    ∷ never_said ServerEnd "FRM ( FRA ) ( ENG ) ( DRW )"
    ∷ never_said ServerEnd "FRM ( FRA ) ( ENG ) ( SND ( ENG ) ( TRY ( ) ) )"
    ∷ never_said ServerEnd "FRM ( FRA ) ( ENG ) ( PRP ( QRY ( DRW ) ) )"
    ∷ []

pub passed_on_hold : AllHold passed_on
unfolding class_of table_answer entries may_end_of text_of names name_of token_named digits
passed_on_hold = rows-hold passed_on refl

-- Press that a server returns, since a power is in civil disorder or out of the game, and press that it accepts or
-- refuses.
abbrev pub handed_back : List Row
handed_back =
    said_from ServerEnd L10 "CCD ( FRA ) ( SND ( ENG ) ( PRP ( PCE ( ENG FRA ) ) ) )"
    ∷ said_from ServerEnd L10 "CCD ( FRA ) ( SND ( SPR 1901 ) ( ENG ) ( TRY ( ) ) )"
    ∷ said_from ServerEnd L20 "CCD ( FRA ) ( SND ( ENG ) ( PRP ( XDO ( ENG WVE ) ) ) )"
    ∷ said_from ServerEnd L30 "CCD ( FRA ) ( SND ( ENG ) ( PRP ( AND ( DRW ) ( DRW ) ) ) )"
    ∷ said_from ServerEnd L40 "CCD ( FRA ) ( SND ( ENG ) ( PRP ( SCD ( FRA PAR ) ) ) )"
    ∷ said_from ServerEnd L50 "CCD ( FRA ) ( SND ( ENG ) ( PRP ( AND ( DRW ) ( ORR ( DRW ) ( DRW ) ) ) ) )"
    ∷ said_from ServerEnd L60 "CCD ( FRA ) ( SND ( ENG ) ( INS ( DRW ) ) )"
    ∷ said_from ServerEnd L10 "OUT ( FRA ) ( SND ( ENG ) ( TRY ( ) ) )"
    ∷ said_from ServerEnd L20 "OUT ( FRA ) ( SND ( ENG ) ( FCT ( DMZ ( FRA ) ( GAS ) ) ) )"
    ∷ said_from ServerEnd L30 "OUT ( FRA ) ( SND ( ENG ) ( PRP ( ORR ( DRW ) ( DRW ) ) ) )"
    ∷ said_from ServerEnd L40 "OUT ( FRA ) ( SND ( ENG ) ( PRP ( OCC ( FRA AMY PAR ) ) ) )"
    ∷ said_from ServerEnd L50 "OUT ( FRA ) ( SND ( ENG ) ( PRP ( ORR ( AND ( DRW ) ( DRW ) ) ( DRW ) ) ) )"
    ∷ said_from ServerEnd L60 "OUT ( FRA ) ( SND ( ENG ) ( FCT ( QRY ( DRW ) ) ) )"
    ∷ said_from ServerEnd L10 "YES ( SND ( ENG ) ( TRY ( ) ) )"
    ∷ said_from ServerEnd L20 "YES ( SND ( ENG ) ( PRP ( XDO ( ENG WVE ) ) ) )"
    ∷ said_from ServerEnd L30 "YES ( SND ( ENG ) ( PRP ( AND ( DRW ) ( DRW ) ) ) )"
    ∷ said_from ServerEnd L40 "YES ( SND ( ENG ) ( PRP ( SCD ( FRA PAR ) ) ) )"
    ∷ said_from ServerEnd L50 "YES ( SND ( ENG ) ( PRP ( AND ( DRW ) ( ORR ( DRW ) ( DRW ) ) ) ) )"
    ∷ said_from ServerEnd L60 "YES ( SND ( ENG ) ( QRY ( DRW ) ) )"
    ∷ said_from ServerEnd L10 "REJ ( SND ( SPR 1901 ) ( ENG FRA ) ( PRP ( DRW ) ) )"
    ∷ said_from ServerEnd L20 "REJ ( SND ( ENG ) ( PRP ( DMZ ( FRA ) ( GAS ) ) ) )"
    ∷ said_from ServerEnd L30 "REJ ( SND ( ENG ) ( PRP ( ORR ( DRW ) ( DRW ) ) ) )"
    ∷ said_from ServerEnd L40 "REJ ( SND ( ENG ) ( PRP ( OCC ( FRA AMY PAR ) ) ) )"
    ∷ said_from ServerEnd L50 "REJ ( SND ( ENG ) ( PRP ( ORR ( DRW ) ( ORR ( DRW ) ( DRW ) ) ) ) )"
    ∷ said_from ServerEnd L60 "REJ ( SND ( ENG ) ( THK ( QRY ( DRW ) ) ) )"
    ∷ never_said ServerEnd "OUT ( FRA ) ( OBS )"
    ∷ never_said ServerEnd "CCD ( FRA ) ( )"
    ∷ never_said ServerEnd "CCD ( UNO ) ( SND ( ENG ) ( TRY ( ) ) )"
    ∷ never_said ServerEnd "CCD ( FRA ) ( FRM ( FRA ) ( ENG ) ( TRY ( ) ) )"
    ∷ never_said ServerEnd "OUT ( FRA ) ( SND ( ENG ) ( TRY ( ) ) ) ( SND ( ENG ) ( TRY ( ) ) )"
    ∷ never_said ServerEnd "NOT ( CCD ( FRA ) ( SND ( ENG ) ( TRY ( ) ) ) )"
    ∷ never_said ServerEnd "SLO ( FRA ) ( SND ( ENG ) ( TRY ( ) ) )"
    ∷ never_said ServerEnd "YES ( FRM ( FRA ) ( ENG ) ( TRY ( ) ) )"
    ∷ never_said ServerEnd "YES ( SND ( ENG ) ( DRW ) )"
    ∷ never_said ServerEnd "REJ ( SND ( ENG ) ( PRP ( QRY ( DRW ) ) ) )"
    ∷ []

pub handed_back_hold : AllHold handed_back
unfolding class_of table_answer entries may_end_of text_of names name_of token_named digits
handed_back_hold = rows-hold handed_back refl
