-- Rows of the protocol's table of faults and of the session's rules, computed from the definitions, so that a wrong row
-- of a definition does not check.
use Rattle.std.proofs.Common.{pos}
use Rattle.daide_protocol.proofs.Common.{◌≡◌, ℕ, List, [], ◌∷◌, ◌++◌, length, take, Some, None, refl, Side, Bot, Server}
use Rattle.daide_protocol.proofs.Common.{Kind, Im, Rm, Dm, Fm, Em, L0, L10, L20, L30, L60, ImTimeout, WrongLength}
use Rattle.daide_protocol.proofs.Common.{InvalidToken, head_bytes, parse_head, is_alien, first_items, last_items, im_of}
use Rattle.daide_protocol.proofs.Common.{Verdict, Relay, Prn, Huh, Phase, SessionPhase, Ending, Ended, Final, Error}
use Rattle.daide_protocol.proofs.Common.{Fault, Stopped, Comes, Ends, Loses, ImTimerExpired, OperatorStops, answer_body}
use Rattle.daide_protocol.proofs.Common.{answer_bytes, lvl_scan_of, level_reported, Limits, SessionState, Successor}
use Rattle.daide_protocol.proofs.Common.{coming, initial_state, nothing, header_outcome, with_coming, untimely}
use Rattle.daide_protocol.proofs.Common.{frame_outcome, fault, end, phase_after, plain_phase, event_outcome, question}
use Rattle.daide_protocol.proofs.Common.{sent_to, sent_bytes, note_of}
use Rattle.daide_protocol.specs.declared.phase.SessionPhase.TheVariants as SessionPhases
use Rattle.daide_protocol.specs.declared.phase.Phase.TheVariants.{WaitIm, WaitRm, Open, Over}
use Rattle.daide_protocol.specs.declared.note.Deed.TheVariants as Deeds
use Rattle.daide_protocol.specs.declared.note.Note.TheVariants as Notes
use Rattle.daide_protocol.specs.Answers.{prn_open, huh_open, err_bytes, close_bytes}
use Rattle.daide_protocol.specs.declared.hlo.LvlScan.TheVariants.{NoToken, NoHlo, NoNumber, Number}
use Rattle.daide_protocol.specs.HloLevel.{first_level}
use Rattle.daide_protocol.proofs.SomeRun.{in_phase, phase_at}

-- a session in a phase at level 0, with nothing held
abbrev standing : Limits → Phase → SessionState
standing limits phase = in_phase phase L0 (initial_state limits)

-- the bytes for a wire
abbrev wire : Side → Successor → List ℕ
wire side outcome = sent_bytes (sent_to side outcome.effects)

-- a header of this kind from a side, in this phase
abbrev header : Limits → Phase → Side → Kind → Successor
header limits phase side kind = header_outcome (standing limits phase) side (untimely (phase_at phase L0) side kind)

-- a session that is over by this ending, with nothing held
abbrev over : Ending → SessionState → SessionState
over ending state = record state { phase = SessionPhases.Over ending }

abbrev fm : List ℕ
fm = 0x03 ∷ 0x00 ∷ 0x00 ∷ 0x00 ∷ []

-- a whole frame of this kind from a side, in this phase; a DM has the verdict Relay
abbrev frame : Limits → Phase → Side → Kind → List ℕ → Successor
frame limits phase side kind body =
    frame_outcome (standing limits phase) side (record { kind = kind; len = length body }) body Relay

-- a whole message from a side, with this verdict
abbrev message : Limits → Side → List ℕ → Verdict → Successor
message limits side body verdict =
    frame_outcome (standing limits Open) side (record { kind = Dm; len = length body }) body verdict

-- the body of an IM, and the message OBS
abbrev im : List ℕ
im = 0x00 ∷ 0x01 ∷ 0xDA ∷ 0x10 ∷ []

abbrev obs : List ℕ
obs = 0x48 ∷ 0x0F ∷ []

abbrev em : ℕ → List ℕ
em code = 0x04 ∷ 0x00 ∷ 0x00 ∷ 0x02 ∷ 0x00 ∷ code ∷ []

-- ---- untimely headers: the side gets an EM with the code, the other an FM, but not the server before the IM

module _ (limits : Limits) where
  bot_rm_first : (wire Bot (header limits WaitIm Bot Rm) ≡ em 0x02) × (wire Server (header limits WaitIm Bot Rm) ≡ [])
  bot_rm_first = (refl, refl)

  bot_dm_first : (wire Bot (header limits WaitIm Bot Dm) ≡ em 0x02) × (wire Server (header limits WaitIm Bot Dm) ≡ [])
  bot_dm_first = (refl, refl)

  server_im_first : (wire Server (header limits WaitIm Server Im) ≡ em 0x07)
      × (wire Bot (header limits WaitIm Server Im) ≡ fm)
  server_im_first = (refl, refl)

  server_rm_first : (wire Server (header limits WaitIm Server Rm) ≡ em 0x08)
      × (wire Bot (header limits WaitIm Server Rm) ≡ fm)
  server_rm_first = (refl, refl)

  server_dm_first : (wire Server (header limits WaitIm Server Dm) ≡ em 0x0B)
      × (wire Bot (header limits WaitIm Server Dm) ≡ fm)
  server_dm_first = (refl, refl)

  bot_im_second : (wire Bot (header limits WaitRm Bot Im) ≡ em 0x06) × (wire Server (header limits WaitRm Bot Im) ≡ fm)
  bot_im_second = (refl, refl)

  bot_rm_second : (wire Bot (header limits WaitRm Bot Rm) ≡ em 0x0D) × (wire Server (header limits WaitRm Bot Rm) ≡ fm)
  bot_rm_second = (refl, refl)

  bot_dm_before_rm : (wire Bot (header limits WaitRm Bot Dm) ≡ em 0x0A)
      × (wire Server (header limits WaitRm Bot Dm) ≡ fm)
  bot_dm_before_rm = (refl, refl)

  server_im_second : (wire Server (header limits WaitRm Server Im) ≡ em 0x07)
      × (wire Bot (header limits WaitRm Server Im) ≡ fm)
  server_im_second = (refl, refl)

  server_dm_before_rm : (wire Server (header limits WaitRm Server Dm) ≡ em 0x0B)
      × (wire Bot (header limits WaitRm Server Dm) ≡ fm)
  server_dm_before_rm = (refl, refl)

  bot_im_open : (wire Bot (header limits Open Bot Im) ≡ em 0x06) × (wire Server (header limits Open Bot Im) ≡ fm)
  bot_im_open = (refl, refl)

  bot_rm_open : (wire Bot (header limits Open Bot Rm) ≡ em 0x0D) × (wire Server (header limits Open Bot Rm) ≡ fm)
  bot_rm_open = (refl, refl)

  server_im_open : (wire Server (header limits Open Server Im) ≡ em 0x07)
      × (wire Bot (header limits Open Server Im) ≡ fm)
  server_im_open = (refl, refl)

  server_rm_open : (wire Server (header limits Open Server Rm) ≡ em 0x0C)
      × (wire Bot (header limits Open Server Rm) ≡ fm)
  server_rm_open = (refl, refl)

  -- ---- headers that are permitted: nothing is sent

  goes_on : ((header limits WaitIm Bot Im).effects ≡ []) × ((header limits WaitRm Server Rm).effects ≡ [])
      × ((header limits Open Bot Dm).effects ≡ []) × ((header limits Open Server Dm).effects ≡ [])
  goes_on = (refl, refl, refl, refl)

  fm_goes_on : (phase : SessionPhase) (side : Side) → (untimely phase side Fm ≡ None) × (untimely phase side Em ≡ None)
  fm_goes_on SessionPhases.WaitIm Bot = (refl, refl)
  fm_goes_on SessionPhases.WaitIm Server = (refl, refl)
  fm_goes_on SessionPhases.WaitRm Bot = (refl, refl)
  fm_goes_on SessionPhases.WaitRm Server = (refl, refl)
  fm_goes_on (SessionPhases.Open level) Bot = (refl, refl)
  fm_goes_on (SessionPhases.Open level) Server = (refl, refl)
  fm_goes_on (SessionPhases.Over ending) Bot = (refl, refl)
  fm_goes_on (SessionPhases.Over ending) Server = (refl, refl)

  -- ---- frames, ends and the timer

  -- a good IM is relayed to the server, and the RM is next
  im_goes_on : (wire Server (frame limits WaitIm Bot Im im) ≡ 0x00 ∷ 0x00 ∷ 0x00 ∷ 0x04 ∷ im)
      × (wire Bot (frame limits WaitIm Bot Im im) ≡ [])
      × ((frame limits WaitIm Bot Im im).state ≡ standing limits WaitRm)
  unfolding im_of answer_bytes head_bytes
  im_goes_on = (refl, refl, refl)

  -- another magic number, or another version, is a fault, of which the server gets nothing
  im_turned : (wire Bot (frame limits WaitIm Bot Im (0x00 ∷ 0x01 ∷ 0x10 ∷ 0xDA ∷ [])) ≡ em 0x03)
      × (wire Server (frame limits WaitIm Bot Im (0x00 ∷ 0x01 ∷ 0x10 ∷ 0xDA ∷ [])) ≡ [])
  unfolding im_of
  im_turned = (refl, refl)

  im_of_other_magic : wire Bot (frame limits WaitIm Bot Im (0x00 ∷ 0x01 ∷ 0xDA ∷ 0x11 ∷ [])) ≡ em 0x04
  unfolding im_of
  im_of_other_magic = refl

  im_of_other_version : wire Bot (frame limits WaitIm Bot Im (0x00 ∷ 0x02 ∷ 0xDA ∷ 0x10 ∷ [])) ≡ em 0x05
  unfolding im_of
  im_of_other_version = refl

  -- an RM is relayed to the bot, with its blocks if it has any, and the session is open at level 0
  rm_goes_on : (wire Bot (frame limits WaitRm Server Rm []) ≡ 0x01 ∷ 0x00 ∷ 0x00 ∷ 0x00 ∷ [])
      × (wire Server (frame limits WaitRm Server Rm []) ≡ [])
      × ((frame limits WaitRm Server Rm []).state ≡ standing limits Open)
  unfolding answer_bytes head_bytes
  rm_goes_on = (refl, refl, refl)

  rm_with_a_block : wire Bot (frame limits WaitRm Server Rm (0x41 ∷ 0x00 ∷ 0x41 ∷ 0x55 ∷ 0x53 ∷ 0x00 ∷ []))
      ≡ 0x01 ∷ 0x00 ∷ 0x00 ∷ 0x06 ∷ 0x41 ∷ 0x00 ∷ 0x41 ∷ 0x55 ∷ 0x53 ∷ 0x00 ∷ []
  unfolding answer_bytes head_bytes
  rm_with_a_block = refl

  -- an FM or EM of the bot before the IM is dropped, and the session is over
  bot_fm_first : (wire Server (frame limits WaitIm Bot Fm []) ≡ []) × (wire Bot (frame limits WaitIm Bot Fm []) ≡ [])
      × ((frame limits WaitIm Bot Fm []).state ≡ over (Final Bot) (initial_state limits))
  bot_fm_first = (refl, refl, refl)

  bot_em_first : (wire Server (frame limits WaitIm Bot Em (0x00 ∷ 0x01 ∷ [])) ≡ [])
      × (wire Bot (frame limits WaitIm Bot Em (0x00 ∷ 0x01 ∷ [])) ≡ [])
      × ((frame limits WaitIm Bot Em (0x00 ∷ 0x01 ∷ [])).state ≡ over (Error Bot) (initial_state limits))
  bot_em_first = (refl, refl, refl)

  -- Every other FM or EM is relayed to the other side, and the session is over. The code of an EM is not checked.
  fm_ends : (wire Bot (frame limits WaitIm Server Fm []) ≡ fm) × (wire Server (frame limits WaitIm Server Fm []) ≡ [])
      × (wire Server (frame limits WaitRm Bot Fm []) ≡ fm) × (wire Bot (frame limits WaitRm Bot Fm []) ≡ [])
      × (wire Bot (frame limits WaitRm Server Fm []) ≡ fm) × (wire Server (frame limits WaitRm Server Fm []) ≡ [])
      × (wire Server (frame limits Open Bot Fm []) ≡ fm) × (wire Bot (frame limits Open Bot Fm []) ≡ [])
      × (wire Bot (frame limits Open Server Fm []) ≡ fm) × (wire Server (frame limits Open Server Fm []) ≡ [])
  unfolding answer_bytes head_bytes
  fm_ends = (refl, refl, refl, refl, refl, refl, refl, refl, refl, refl)

  em_ends : (wire Bot (frame limits WaitIm Server Em (0x00 ∷ 0xFF ∷ [])) ≡ em 0xFF)
      × (wire Server (frame limits WaitRm Bot Em (0x00 ∷ 0xFF ∷ [])) ≡ em 0xFF)
      × (wire Bot (frame limits WaitRm Server Em (0x00 ∷ 0xFF ∷ [])) ≡ em 0xFF)
      × (wire Server (frame limits Open Bot Em (0x00 ∷ 0xFF ∷ [])) ≡ em 0xFF)
      × (wire Bot (frame limits Open Server Em (0x00 ∷ 0xFF ∷ [])) ≡ em 0xFF)
      × (wire Server (frame limits Open Server Em (0x00 ∷ 0xFF ∷ [])) ≡ [])
  unfolding answer_bytes head_bytes
  em_ends = (refl, refl, refl, refl, refl, refl)

  fm_and_em_leave_nothing : (side : Side) → ((frame limits Open side Fm []).state ≡ over (Final side) (initial_state limits))
      × ((frame limits Open side Em (0x00 ∷ 0x01 ∷ [])).state ≡ over (Error side) (initial_state limits))
  fm_and_em_leave_nothing Bot = (refl, refl)
  fm_and_em_leave_nothing Server = (refl, refl)

  -- a fault of a frame itself: the side that made it gets an EM, the other an FM
  frame_faults : (wire Bot (fault (standing limits WaitIm) Bot WrongLength) ≡ em 0x09)
      × (wire Server (fault (standing limits WaitIm) Bot WrongLength) ≡ [])
      × (wire Server (fault (standing limits WaitIm) Server WrongLength) ≡ em 0x09)
      × (wire Bot (fault (standing limits WaitIm) Server WrongLength) ≡ fm)
      × (wire Bot (fault (standing limits WaitRm) Bot InvalidToken) ≡ em 0x0E)
      × (wire Server (fault (standing limits WaitRm) Bot InvalidToken) ≡ fm)
      × (wire Server (fault (standing limits Open) Server InvalidToken) ≡ em 0x0E)
      × (wire Bot (fault (standing limits Open) Server InvalidToken) ≡ fm)
      × ((fault (standing limits Open) Server InvalidToken).state ≡ over (Fault Server InvalidToken) (initial_state limits))
  frame_faults = (refl, refl, refl, refl, refl, refl, refl, refl, refl)

  -- an end, or a wire that fails: the other side gets an FM, but not the server before the IM
  bot_end_first : (wire Server (end (standing limits WaitIm) (Ended Bot) Bot) ≡ [])
      × (wire Bot (end (standing limits WaitIm) (Ended Bot) Bot) ≡ [])
  bot_end_first = (refl, refl)

  server_end_first : (wire Bot (end (standing limits WaitIm) (Ended Server) Server) ≡ fm)
      × (wire Server (end (standing limits WaitIm) (Ended Server) Server) ≡ [])
  server_end_first = (refl, refl)

  ends_later : (wire Server (end (standing limits WaitRm) (Ended Bot) Bot) ≡ fm)
      × (wire Bot (end (standing limits WaitRm) (Ended Bot) Bot) ≡ [])
      × (wire Bot (end (standing limits WaitRm) (Ended Server) Server) ≡ fm)
      × (wire Server (end (standing limits WaitRm) (Ended Server) Server) ≡ [])
      × (wire Server (end (standing limits Open) (Ended Bot) Bot) ≡ fm)
      × (wire Bot (end (standing limits Open) (Ended Bot) Bot) ≡ [])
      × (wire Bot (end (standing limits Open) (Ended Server) Server) ≡ fm)
      × (wire Server (end (standing limits Open) (Ended Server) Server) ≡ [])
  ends_later = (refl, refl, refl, refl, refl, refl, refl, refl)

  -- a lost wire is an end, and differs only in the session's ending; once over, neither does anything
  lost_as_ended : (phase : Phase) (side : Side) →
      let lost = event_outcome (standing limits phase) (Loses side) Relay in
      let ended = event_outcome (standing limits phase) (Ends side) Relay in
      (lost.effects ≡ ended.effects) × (plain_phase lost.state.phase ≡ plain_phase ended.state.phase)
      × (over (Ended Bot) lost.state ≡ over (Ended Bot) ended.state)
  lost_as_ended WaitIm side = (refl, refl, refl)
  lost_as_ended WaitRm side = (refl, refl, refl)
  lost_as_ended Open side = (refl, refl, refl)
  lost_as_ended Over side = (refl, refl, refl)

  ended_twice : (side : Side) → event_outcome (standing limits Over) (Ends side) Relay ≡ nothing (standing limits Over)
  ended_twice side = refl

  -- the timer is a fault of the bot before the IM, and does nothing later
  im_timeout : (wire Bot (event_outcome (standing limits WaitIm) ImTimerExpired Relay) ≡ em 0x01)
      × (wire Server (event_outcome (standing limits WaitIm) ImTimerExpired Relay) ≡ [])
      × ((event_outcome (standing limits WaitIm) ImTimerExpired Relay).state ≡ over (Fault Bot ImTimeout) (initial_state limits))
  im_timeout = (refl, refl, refl)

  im_timeout_later : (event_outcome (standing limits WaitRm) ImTimerExpired Relay ≡ nothing (standing limits WaitRm))
      × (event_outcome (standing limits Open) ImTimerExpired Relay ≡ nothing (standing limits Open))
      × (event_outcome (standing limits Over) ImTimerExpired Relay ≡ nothing (standing limits Over))
  im_timeout_later = (refl, refl, refl)

  -- a stop: before the IM the bot alone gets an FM, then each side gets one; once over, it does nothing
  stop_before_the_im : let stopped = event_outcome (standing limits WaitIm) OperatorStops Relay in
      (wire Bot stopped ≡ fm) × (wire Server stopped ≡ []) × (stopped.state ≡ over Stopped (initial_state limits))
      × (note_of stopped.effects ≡ Notes.Stopped)
  stop_before_the_im = (refl, refl, refl, refl)

  stop_later : let waits = event_outcome (standing limits WaitRm) OperatorStops Relay in
      let opened = event_outcome (standing limits Open) OperatorStops Relay in
      (wire Bot waits ≡ fm) × (wire Server waits ≡ fm) × (wire Bot opened ≡ fm) × (wire Server opened ≡ fm)
      × (waits.state ≡ over Stopped (initial_state limits)) × (opened.state ≡ over Stopped (initial_state limits))
  stop_later = (refl, refl, refl, refl, refl, refl)

  stopped_once_over : event_outcome (standing limits Over) OperatorStops Relay ≡ nothing (standing limits Over)
  stopped_once_over = refl

  -- ---- messages

  -- a message is relayed to the other side, and PRN and HUH are returned only to its sender
  obs_relayed : (wire Server (message limits Bot obs Relay) ≡ 0x02 ∷ 0x00 ∷ 0x00 ∷ 0x02 ∷ obs)
      × (wire Bot (message limits Bot obs Relay) ≡ [])
  unfolding answer_bytes head_bytes
  obs_relayed = (refl, refl)

  obs_of_the_server : (wire Server (message limits Server obs (Huh 0))
      ≡ 0x02 ∷ 0x00 ∷ 0x00 ∷ 0x0A ∷ huh_open ++ err_bytes ++ obs ++ close_bytes)
      × (wire Bot (message limits Server obs (Huh 0)) ≡ [])
  unfolding answer_bytes head_bytes
  obs_of_the_server = (refl, refl)

  prn_of_the_bot : (wire Bot (message limits Bot (0x40 ∷ 0x00 ∷ []) Prn)
      ≡ 0x02 ∷ 0x00 ∷ 0x00 ∷ 0x08 ∷ prn_open ++ 0x40 ∷ 0x00 ∷ close_bytes)
      × (wire Server (message limits Bot (0x40 ∷ 0x00 ∷ []) Prn) ≡ [])
  unfolding answer_bytes head_bytes
  prn_of_the_bot = (refl, refl)

  -- a message leaves the session open, whatever the verdict
  messages_go_on : (side : Side) (place : ℕ) → ((message limits side obs Relay).state ≡ standing limits Open)
      × ((message limits side obs Prn).state ≡ standing limits Open)
      × ((message limits side obs (Huh place)).state ≡ standing limits Open)
  messages_go_on Bot place = (refl, refl, refl)
  messages_go_on Server place = (refl, refl, refl)

  -- the header records the level: that of the session, which a later HLO does not change
  noted_at_the_header : (coming (header_outcome (in_phase Open L30 (initial_state limits)) Bot None).state Bot).noted ≡ L30
  noted_at_the_header = refl

-- ---- answers

-- GOF (
prn_of_gof : answer_body (0x48 ∷ 0x03 ∷ 0x40 ∷ 0x00 ∷ []) Prn
    ≡ 0x48 ∷ 0x13 ∷ 0x40 ∷ 0x00 ∷ 0x48 ∷ 0x03 ∷ 0x40 ∷ 0x00 ∷ 0x40 ∷ 0x01 ∷ []
prn_of_gof = refl

huh_of_nothing : answer_body [] (Huh 0) ≡ 0x48 ∷ 0x06 ∷ 0x40 ∷ 0x00 ∷ 0x49 ∷ 0x02 ∷ 0x40 ∷ 0x01 ∷ []
huh_of_nothing = refl

-- ---- the level of an HLO

-- HLO ( UNO ) ( 0 ) ( ( LVL number ) )
abbrev hlo_with : ℕ → List ℕ
hlo_with number = 0x4804 ∷ 0x4000 ∷ 0x490B ∷ 0x4001 ∷ 0x4000 ∷ 0x0000 ∷ 0x4001
    ∷ 0x4000 ∷ 0x4000 ∷ 0x4903 ∷ number ∷ 0x4001 ∷ 0x4001 ∷ []

-- HLO ( ENG ) ( 1234 ) ( ( LVL 10 ) )
hlo_10 : first_level (0x4804 ∷ 0x4000 ∷ 0x4101 ∷ 0x4001 ∷ 0x4000 ∷ 0x04D2 ∷ 0x4001 ∷ 0x4000 ∷ 0x4000 ∷ 0x4903 ∷ 0x000A
    ∷ 0x4001 ∷ 0x4001 ∷ []) ≡ Some (pos 10)
hlo_10 = refl

-- an option LVL without a number is skipped: ( ( LVL ) ( MTL 30 ) ( LVL 20 ) )
hlo_20 : first_level (0x4804 ∷ 0x4000 ∷ 0x4000 ∷ 0x4903 ∷ 0x4001 ∷ 0x4000 ∷ 0x4905 ∷ 0x001E ∷ 0x4001 ∷ 0x4000 ∷ 0x4903
    ∷ 0x0014 ∷ 0x4001 ∷ 0x4001 ∷ []) ≡ Some (pos 20)
hlo_20 = refl

-- without an option the level is 0, whatever it was
hlo_without : level_reported L60 (0x4804 ∷ 0x4000 ∷ 0x4101 ∷ 0x4001 ∷ 0x4000 ∷ 0x04D2 ∷ 0x4001 ∷ 0x4000 ∷ 0x4001 ∷ []) L10
    ≡ L0
hlo_without = refl

-- the greatest level at most the number and the operator's top level; level 0 for a negative number
hlo_25 : level_reported L60 (hlo_with 25) L0 ≡ L20
hlo_25 = refl

hlo_60_under_30 : level_reported L30 (hlo_with 60) L0 ≡ L30
hlo_60_under_30 = refl

hlo_9 : level_reported L60 (hlo_with 9) L30 ≡ L0
hlo_9 = refl

hlo_of_minus_1 : level_reported L60 (hlo_with 0x3FFF) L30 ≡ L0
hlo_of_minus_1 = refl

hlo_of_8191 : level_reported L60 (hlo_with 0x1FFF) L0 ≡ L60
hlo_of_8191 = refl

-- only a relayed HLO of the server sets it: not one of the bot, and not one that gets PRN or HUH
hlo_sets : phase_after L60 Dm Server Relay (hlo_with 10) (SessionPhases.Open L0) ≡ SessionPhases.Open L10
hlo_sets = refl

hlo_of_the_bot : phase_after L60 Dm Bot Relay (hlo_with 10) (SessionPhases.Open L0) ≡ SessionPhases.Open L0
hlo_of_the_bot = refl

hlo_answered : (phase_after L60 Dm Server Prn (hlo_with 10) (SessionPhases.Open L30) ≡ SessionPhases.Open L30)
    × (phase_after L60 Dm Server (Huh 1) (hlo_with 10) (SessionPhases.Open L30) ≡ SessionPhases.Open L30)
hlo_answered = (refl, refl)

-- an RM opens a session at level 0, and every frame but a DM has one phase after it
phase_after_other_frames : (phase : SessionPhase) (side : Side) →
    (phase_after L60 Im side Relay [] phase ≡ SessionPhases.WaitRm)
    × (phase_after L60 Rm side Relay [] phase ≡ SessionPhases.Open L0)
    × (phase_after L60 Fm side Relay [] phase ≡ SessionPhases.Over (Final side))
    × (phase_after L60 Em side Relay [] phase ≡ SessionPhases.Over (Error side))
phase_after_other_frames phase side = (refl, refl, refl, refl)

-- the first option with a number counts
hlo_with_two : first_level (0x4000 ∷ 0x4903 ∷ 0x0014 ∷ 0x4001 ∷ 0x4000 ∷ 0x4903 ∷ 0x000A ∷ 0x4001 ∷ []) ≡ Some (pos 20)
hlo_with_two = refl

-- as the tokens arrive: the number is found at the bracket that closes its option, whatever follows
found_token_by_token : (lvl_scan_of [] ≡ NoToken) × (lvl_scan_of (take 1 (hlo_with 25)) ≡ NoNumber 0 0 0x4804)
    × (lvl_scan_of (take 2 (hlo_with 25)) ≡ NoNumber 0 0x4804 0x4000)
    × (lvl_scan_of (take 9 (hlo_with 25)) ≡ NoNumber 0x4001 0x4000 0x4000)
    × (lvl_scan_of (take 10 (hlo_with 25)) ≡ NoNumber 0x4000 0x4000 0x4903)
    × (lvl_scan_of (take 11 (hlo_with 25)) ≡ NoNumber 0x4000 0x4903 0x0019)
    × (lvl_scan_of (take 12 (hlo_with 25)) ≡ Number (pos 25)) × (lvl_scan_of (hlo_with 25) ≡ Number (pos 25))
    × (lvl_scan_of (hlo_with 25 ++ hlo_with 10) ≡ Number (pos 25))
found_token_by_token = (refl, refl, refl, refl, refl, refl, refl, refl, refl)

-- an option without a number, or without its closing bracket, is skipped: ( LVL ( LVL 20 ( LVL 10 )
found_after_broken_options : lvl_scan_of (0x4804 ∷ 0x4000 ∷ 0x4903 ∷ 0x4000 ∷ 0x4903 ∷ 0x0014 ∷ 0x4000 ∷ 0x4903 ∷ 0x000A
    ∷ 0x4001 ∷ []) ≡ Number (pos 10)
found_after_broken_options = refl

-- in a message other than an HLO nothing is found, with or without options: YES ( HLO ( .. ) ( .. ) ( ( LVL 25 ) ) )
found_in_no_hlo : lvl_scan_of (0x481C ∷ 0x4000 ∷ hlo_with 25 ++ 0x4001 ∷ []) ≡ NoHlo
found_in_no_hlo = refl

-- another message does not change the level
other_message : level_reported L60 (0x4810 ∷ []) L10 ≡ L10
other_message = refl

-- ---- the outcome of the last byte of a frame

abbrev small : Limits
small = record { cap = 512; top_level = L60; max_depth = 62; words = [] }

-- these bytes from the bot are pending, in this phase at level 30, and the last header arrived at level 10
abbrev pending_in : Phase → List ℕ → SessionState
pending_in phase bytes = with_coming (in_phase phase L30 (initial_state small)) Bot (record { pending = bytes; noted = L10 })

-- a message is judged by the level at its header
judged_by_the_noted_level : question (pending_in Open (0x02 ∷ 0x00 ∷ 0x00 ∷ 0x02 ∷ 0x48 ∷ [])) (Comes Bot 0x0F)
    ≡ Some (record { side = Bot; level = L10; message = 0x480F ∷ [] })
unfolding last_items first_items parse_head is_alien
judged_by_the_noted_level = refl

-- a message without tokens is whole with its header, and judged by the current level
empty_judged_by_the_level_now : question (pending_in Open (0x02 ∷ 0x00 ∷ 0x00 ∷ [])) (Comes Bot 0x00)
    ≡ Some (record { side = Bot; level = L30; message = [] })
unfolding last_items first_items parse_head is_alien
empty_judged_by_the_level_now = refl

-- nothing else is judged: no header, no other frame, no untimely message, and nothing after the end
not_judged : (question (pending_in Open (0x02 ∷ 0x00 ∷ 0x00 ∷ [])) (Comes Bot 0x02) ≡ None)
    × (question (pending_in Open (0x03 ∷ 0x00 ∷ 0x00 ∷ [])) (Comes Bot 0x00) ≡ None)
    × (question (pending_in Open (0x04 ∷ 0x00 ∷ 0x00 ∷ 0x02 ∷ 0x00 ∷ [])) (Comes Bot 0x01) ≡ None)
    × (question (pending_in WaitRm (0x02 ∷ 0x00 ∷ 0x00 ∷ [])) (Comes Bot 0x00) ≡ None)
    × (question (pending_in Over (0x02 ∷ 0x00 ∷ 0x00 ∷ [])) (Comes Bot 0x00) ≡ None)
unfolding last_items first_items parse_head is_alien
not_judged = (refl, refl, refl, refl, refl)

-- the faults of a frame come before the session's own: at the header, or at an alien token
faults_by_bytes : (wire Bot (event_outcome (pending_in WaitRm (0x00 ∷ 0x00 ∷ 0x04 ∷ [])) (Comes Bot 0x00) Relay)
    ≡ em 0x03)
    × (wire Bot (event_outcome (pending_in WaitRm (0x02 ∷ 0x00 ∷ 0x00 ∷ [])) (Comes Bot 0x03) Relay) ≡ em 0x09)
    × (wire Bot (event_outcome (pending_in WaitRm (0x02 ∷ 0x00 ∷ 0x00 ∷ [])) (Comes Bot 0x02) Relay) ≡ em 0x0A)
    × (wire Bot (event_outcome (pending_in Open (0x02 ∷ 0x00 ∷ 0x02 ∷ [])) (Comes Bot 0x02) Relay) ≡ em 0x08)
    × (wire Bot (event_outcome (pending_in Open (0x02 ∷ 0x00 ∷ 0x00 ∷ 0x04 ∷ 0x58 ∷ [])) (Comes Bot 0x00) Relay)
    ≡ em 0x0E)
unfolding last_items first_items parse_head is_alien
faults_by_bytes = (refl, refl, refl, refl, refl)

-- the reports of the effects
reported_by_bytes : (note_of (event_outcome (pending_in Open (0x03 ∷ 0x00 ∷ 0x00 ∷ [])) (Comes Bot 0x00) Relay).effects
    ≡ Notes.Frame (record { kind = Fm; len = 0 }) Deeds.Relayed)
    × (note_of (event_outcome (pending_in WaitIm (0x03 ∷ 0x00 ∷ 0x00 ∷ [])) (Comes Bot 0x00) Relay).effects
    ≡ Notes.Frame (record { kind = Fm; len = 0 }) Deeds.Dropped)
    × (note_of (event_outcome (pending_in Open (0x02 ∷ 0x00 ∷ 0x00 ∷ [])) (Comes Bot 0x00) (Huh 0)).effects
    ≡ Notes.Frame (record { kind = Dm; len = 0 }) (Deeds.Huh 0))
    × (note_of (event_outcome (pending_in Open (0x02 ∷ 0x00 ∷ 0x00 ∷ [])) (Comes Bot 0x00) Prn).effects
    ≡ Notes.Frame (record { kind = Dm; len = 0 }) Deeds.Prn)
    × (note_of (event_outcome (pending_in Open (0x02 ∷ 0x00 ∷ 0x00 ∷ [])) (Comes Bot 0x03) Relay).effects
    ≡ Notes.Fault WrongLength)
    × (note_of (event_outcome (pending_in Open (0x02 ∷ 0x00 ∷ 0x00 ∷ [])) (Comes Bot 0x02) Relay).effects
    ≡ Notes.Nothing)
unfolding last_items first_items parse_head is_alien
reported_by_bytes = (refl, refl, refl, refl, refl, refl)
