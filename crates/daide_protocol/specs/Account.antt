-- The account of a session: what was done with the frames of each side, the faults, the level of press that was last in
-- force, what the bot calls itself, and the power that it plays. What is counted, and that it is counted modulo 2^64, is (own); the level is by
-- docs/PROTOCOL.md, "The session".
use Rattle.std.specs.Prelude.{ℕ, ◌+◌, ◌%◌, ◌^◌, List, [], ◌∷◌, drop, Option, Some, None}
use Rattle.daide_token.specs.Token.{tokens_of}
use Rattle.daide_frame.specs.declared.side.Side.{Side}
use Rattle.daide_frame.specs.declared.side.Side.TheVariants.{Bot, Server}
use Rattle.daide_frame.specs.declared.head.Kind.{Kind}
use Rattle.daide_frame.specs.declared.head.Kind.TheVariants.{Dm, Rm}
use Rattle.daide_grammar.specs.declared.level.Level.{Level}
use Rattle.daide_grammar.specs.declared.level.Level.TheVariants.{L0}
use Rattle.daide_protocol.specs.declared.account.Account.{Account}
use Rattle.daide_protocol.specs.declared.account.Counter.{Counter}
use Rattle.daide_protocol.specs.declared.account.Counter.TheVariants as Counters
use Rattle.daide_protocol.specs.declared.account.SideCounts.{SideCounts}
use Rattle.daide_protocol.specs.declared.bot_name.BotName.TheVariants.{Unknown}
use Rattle.daide_protocol.specs.declared.note.Deed.{Deed}
use Rattle.daide_protocol.specs.declared.note.Deed.TheVariants.{Relayed, Dropped, Prn, Huh}
use Rattle.daide_protocol.specs.declared.note.Note.{Note}
use Rattle.daide_protocol.specs.declared.note.Note.TheVariants as Notes
use Rattle.daide_protocol.specs.declared.summary.Summary.{Summary}
use Rattle.daide_protocol.specs.BotName.{name_after}
use Rattle.daide_protocol.specs.Power.{power_after}
use Rattle.daide_protocol.specs.HloLevel.{level_reported}
use Rattle.daide_protocol.specs.Machine.{Sent, Effect}
use Rattle.daide_protocol.specs.Summary.{one_more}

abbrev pub no_frames : SideCounts
no_frames = record { relayed = 0; prn = 0; huh = 0 }

-- all counters, in the order in which texts have them
abbrev pub all_counters : List Counter
all_counters = Counters.Relayed ∷ Counters.Prn ∷ Counters.Huh ∷ []

-- the number of a counter
abbrev pub side_count : Counter → SideCounts → ℕ
side_count Counters.Relayed c = c.relayed
side_count Counters.Prn c = c.prn
side_count Counters.Huh c = c.huh

-- the account of a session without any effect
abbrev pub nothing_accounted : Account
nothing_accounted = record { bot = no_frames; server = no_frames; faults = 0; level = L0; name = Unknown; power = None }

-- ---- one more effect

-- a side's counts after one more of its frames, by what was done with it; a dropped frame is not counted
abbrev pub frame_counted : Deed → SideCounts → SideCounts
frame_counted Relayed c = record { relayed = one_more c.relayed; prn = c.prn; huh = c.huh }
frame_counted Dropped c = c
frame_counted Prn c = record { relayed = c.relayed; prn = one_more c.prn; huh = c.huh }
frame_counted (Huh place) c = record { relayed = c.relayed; prn = c.prn; huh = one_more c.huh }

-- the level after one more frame with these tokens: an RM sets level 0, and a relayed HLO of the server its level
abbrev pub level_after : Level → Kind → Side → Deed → List ℕ → Level → Level
level_after top Rm side deed tokens level = L0
level_after top Dm Server Relayed tokens level = level_reported top tokens level
level_after top kind side deed tokens level = level

-- the account after one more frame of a side
abbrev pub frame_accounted : Level → Side → Kind → Deed → List ℕ → Account → Account
frame_accounted top Bot kind deed tokens a = record {
  bot = frame_counted deed a.bot;
  server = a.server;
  faults = a.faults;
  level = level_after top kind Bot deed tokens a.level;
  name = name_after kind Bot deed tokens a.name;
  power = power_after kind Bot deed tokens a.power;
}
frame_accounted top Server kind deed tokens a = record {
  bot = a.bot;
  server = frame_counted deed a.server;
  faults = a.faults;
  level = level_after top kind Server deed tokens a.level;
  name = name_after kind Server deed tokens a.name;
  power = power_after kind Server deed tokens a.power;
}

-- the account after one more fault
abbrev pub fault_accounted : Account → Account
fault_accounted a = record {
  bot = a.bot;
  server = a.server;
  faults = one_more a.faults;
  level = a.level;
  name = a.name;
  power = a.power;
}

-- a frame belongs to the side that the sent frame answers
abbrev pub answer_accounted : Level → Option Side → Kind → Deed → List ℕ → Account → Account
answer_accounted top None kind deed tokens a = a
answer_accounted top (Some side) kind deed tokens a = frame_accounted top side kind deed tokens a

-- One more effect, by what it reports and what it sends: a frame by its answer, with the tokens of the sent bytes. Ends,
-- stops and dropped frames change nothing.
abbrev pub effect_accounted : Level → Note → List Sent → Account → Account
effect_accounted top (Notes.Frame head deed) (frame ∷ frames) a =
    answer_accounted top frame.answers head.kind deed (tokens_of (drop 4 frame.bytes)) a
effect_accounted top (Notes.Frame head deed) [] a = a
effect_accounted top (Notes.Fault code) sent a = fault_accounted a
effect_accounted top Notes.Nothing sent a = a
effect_accounted top Notes.Stopped sent a = a

-- ---- all effects

-- a session's account after these effects, with this highest level
abbrev pub accounted : Level → List Effect → Account → Account
accounted top [] a = a
accounted top (effect ∷ effects) a = accounted top effects (effect_accounted top effect.reported effect.sent a)

-- the counts of both sides together, modulo 2^64
abbrev pub summary_of : Account → Summary
summary_of a = record {
  relayed = (a.bot.relayed + a.server.relayed) % 2 ^ 64;
  prn = (a.bot.prn + a.server.prn) % 2 ^ 64;
  huh = (a.bot.huh + a.server.huh) % 2 ^ 64;
  faults = a.faults;
}
