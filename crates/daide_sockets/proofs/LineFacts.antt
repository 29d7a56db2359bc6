-- The lines of sessions, with each cause of an end, and what a run counts and knows of its server. The texts were worked out from
-- docs/FORMATS.md by hand.
use Rattle.std.proofs.Common.{◌≡◌, true, false, [], ◌∷◌, Some, None, codes, refl}
use Rattle.std.specs.Fmt.{char_count, digits, padded_integral}
use Rattle.std.specs.declared.net.socket_addr.SocketAddr.{SocketAddr}
use Rattle.std.specs.declared.net.socket_addr.SocketAddr.TheVariants.{V4}
use Rattle.daide_frame.specs.declared.code.Code.TheVariants as Codes
use Rattle.daide_frame.specs.declared.side.Side.TheVariants.{Bot, Server}
use Rattle.daide_protocol.specs.Account.{nothing_accounted}
use Rattle.daide_protocol.specs.AccountText.{account_text, name_part, power_part, rest_text, side_text}
use Rattle.daide_protocol.specs.declared.ending.Ending.{Ending}
use Rattle.daide_protocol.specs.declared.ending.Ending.TheVariants.{Ended, Lost, Final, Error, Fault, Stopped}
use Rattle.daide_io.specs.declared.fault_field.FaultField.TheVariants.{Token}
use Rattle.daide_io.specs.declared.system.Cause.TheVariants as Causes
use Rattle.daide_status.specs.Counts.{no_counts}
use Rattle.daide_status.specs.declared.counts.EndCause.TheVariants as EndCauses
use Rattle.daide_status.specs.declared.snapshot.ServerState.TheVariants.{Up, Away}
use Rattle.daide_sockets.specs.Lines.{end_cause_of, ending_text, lasted_text, line_of, no_bot_counted, why_text, why_unreached}
use Rattle.daide_sockets.specs.ServerStates.{away_at, reached_at, untried_at}
use Rattle.daide_sockets.specs.declared.admission.NoBot.TheVariants.{NoneCame, MayNotCome, NotFollowed}
use Rattle.daide_sockets.specs.declared.server_state.KnownServer.{KnownServer}
use Rattle.daide_sockets.specs.declared.session_notice.SessionNotice.TheVariants as Notices
use Rattle.daide_sockets.specs.declared.session_notice.Why.{Why}
use Rattle.daide_sockets.specs.declared.session_notice.Why.TheVariants as Whys

-- ---- why a session ended

abbrev session : Ending → Why
session ending = Whys.Ended (Causes.Session ending) None

events_are_told :
    (why_text (session (Ended Bot)) ≡ codes "bot ended") × (why_text (session (Ended Server)) ≡ codes "server ended")
    × (why_text (session (Lost Bot)) ≡ codes "bot lost") × (why_text (session (Lost Server)) ≡ codes "server lost")
    × (why_text (session (Final Bot)) ≡ codes "FM of bot") × (why_text (session (Final Server)) ≡ codes "FM of server")
    × (why_text (session (Error Bot)) ≡ codes "EM of bot") × (why_text (session (Error Server)) ≡ codes "EM of server")
    × (why_text (session Stopped) ≡ codes "stopped by the operator")
events_are_told = (refl, refl, refl, refl, refl, refl, refl, refl, refl)

others_are_told :
    (why_text (Whys.Ended Causes.TurnsSpent None) ≡ codes "turns spent") × (why_text (Whys.Silent Bot) ≡ codes "bot silent")
    × (why_text (Whys.Silent Server) ≡ codes "server silent") × (why_text Whys.NoServer ≡ codes "no server")
    × (why_text (Whys.Refused Bot) ≡ codes "too many refusals of bot")
    × (why_text (Whys.Refused Server) ≡ codes "too many refusals of server")
    × (why_text (session (Fault Bot Codes.ImTimeout)) ≡ codes "no IM in time")
others_are_told = (refl, refl, refl, refl, refl, refl, refl)

stalls_are_told : why_text (Whys.Stalled Server 60) ≡ codes "server took nothing for 60 s"
unfolding digits
stalls_are_told = refl

fault_is_told : ending_text (Fault Server Codes.InvalidToken) (Some (Token 0x6000 6))
    ≡ codes "fault 0E of server: invalid token 6000 at byte 6"
unfolding char_count digits padded_integral
fault_is_told = refl

-- ---- whole lines

times_are_told : (lasted_text None ≡ []) × (lasted_text (Some 99) ≡ codes " after 0.0 s")
    × (lasted_text (Some 100) ≡ codes " after 0.1 s") × (lasted_text (Some 61299) ≡ codes " after 61.2 s")
unfolding digits
times_are_told = (refl, refl, refl, refl)

abbrev bot : SocketAddr
bot = V4 (record { ip = record { octets = 127 ∷ 0 ∷ 0 ∷ 1 ∷ [] }; port = 50000 })

lines_are_told :
    (line_of (Notices.Began 3 bot) ≡ codes "daide-gate: session 3 began: bot at 127.0.0.1:50000\n")
    × (line_of (Notices.Declined bot) ≡ codes "daide-gate: bot at 127.0.0.1:50000 may not come\n")
    × (line_of (Notices.Dropped bot)
    ≡ codes "daide-gate: bot at 127.0.0.1:50000 is dropped: the system cannot follow its connection\n")
    × (line_of (Notices.Reached 3 bot) ≡ codes "daide-gate: session 3 reached the server from 127.0.0.1:50000\n")
unfolding digits
lines_are_told = (refl, refl, refl, refl)

end_is_told : line_of (Notices.Ended 3 (record { milliseconds = Some 61299 }) (Whys.Silent Bot) nothing_accounted)
    ≡ codes "daide-gate: session 3 ended after 61.2 s: bot silent; bot 0 relayed 0 prn 0 huh; server 0 relayed 0 prn 0 huh; 0 faults; level 0\n"
unfolding account_text side_text rest_text name_part power_part digits
end_is_told = refl

-- ---- counts

events_are_counted :
    (end_cause_of (session (Ended Bot)) ≡ EndCauses.Ended Bot) × (end_cause_of (session (Ended Server)) ≡ EndCauses.Ended Server)
    × (end_cause_of (session (Lost Bot)) ≡ EndCauses.Lost Bot) × (end_cause_of (session (Lost Server)) ≡ EndCauses.Lost Server)
    × (end_cause_of (session (Final Bot)) ≡ EndCauses.Final Bot) × (end_cause_of (session (Final Server)) ≡ EndCauses.Final Server)
    × (end_cause_of (session (Error Bot)) ≡ EndCauses.Error Bot) × (end_cause_of (session (Error Server)) ≡ EndCauses.Error Server)
    × (end_cause_of (session Stopped) ≡ EndCauses.Stopped)
events_are_counted = (refl, refl, refl, refl, refl, refl, refl, refl, refl)

others_are_counted :
    (end_cause_of (session (Fault Bot Codes.ImTimeout)) ≡ EndCauses.NoIm)
    × (end_cause_of (session (Fault Bot Codes.WrongMagic)) ≡ EndCauses.Fault Bot)
    × (end_cause_of (session (Fault Server Codes.InvalidToken)) ≡ EndCauses.Fault Server)
    × (end_cause_of (Whys.Ended Causes.TurnsSpent None) ≡ EndCauses.TurnsSpent)
    × (end_cause_of (Whys.Silent Bot) ≡ EndCauses.Silent Bot) × (end_cause_of (Whys.Silent Server) ≡ EndCauses.Silent Server)
    × (end_cause_of (Whys.Stalled Bot 60) ≡ EndCauses.Stalled Bot)
    × (end_cause_of (Whys.Stalled Server 60) ≡ EndCauses.Stalled Server)
    × (end_cause_of (Whys.Refused Bot) ≡ EndCauses.Refused Bot) × (end_cause_of (Whys.Refused Server) ≡ EndCauses.Refused Server)
    × (end_cause_of (why_unreached false) ≡ EndCauses.NoServer) × (end_cause_of (why_unreached true) ≡ EndCauses.Stopped)
others_are_counted = (refl, refl, refl, refl, refl, refl, refl, refl, refl, refl, refl, refl)

no_bots_are_counted : (no_bot_counted NoneCame no_counts ≡ no_counts)
    × (no_bot_counted (MayNotCome bot) no_counts ≡ record no_counts { declined = 1 })
    × (no_bot_counted (NotFollowed bot) no_counts ≡ record no_counts { dropped = 1 })
no_bots_are_counted = (refl, refl, refl)

-- ---- the server

-- the server is away for three bots, and then reached, twice
abbrev away_thrice : KnownServer
away_thrice = away_at None (away_at None (away_at None (untried_at None)))

server_is_away : away_thrice ≡ record { state = Away; since = None; unreached = 3 }
server_is_away = refl

server_is_reached : reached_at None (reached_at None away_thrice) ≡ record { state = Up; since = None; unreached = 0 }
server_is_reached = refl

server_is_away_again : away_at None (reached_at None away_thrice) ≡ record { state = Away; since = None; unreached = 1 }
server_is_away_again = refl
