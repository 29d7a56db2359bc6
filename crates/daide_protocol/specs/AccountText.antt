-- The text of an account, as the line of an ended session has it. (own)
use Rattle.std.specs.Prelude.{ℕ, ◌++◌, List, [], Option, Some, None, codes}
use Rattle.std.specs.List.{flat_map}
use Rattle.std.specs.Fmt.{decimal}
use Rattle.daide_grammar.specs.Level.{level_number}
use Rattle.daide_protocol.specs.declared.account.Account.{Account}
use Rattle.daide_protocol.specs.declared.account.Counter.{Counter}
use Rattle.daide_protocol.specs.declared.account.Counter.TheVariants.{Relayed, Prn, Huh}
use Rattle.daide_protocol.specs.declared.account.SideCounts.{SideCounts}
use Rattle.daide_protocol.specs.declared.bot_name.BotName.{BotName}
use Rattle.daide_protocol.specs.declared.bot_name.BotName.TheVariants.{Unknown, Nme, Iam}
use Rattle.daide_protocol.specs.Account.{all_counters, side_count}
use Rattle.daide_protocol.specs.declared.power.Power.{Power}
use Rattle.daide_protocol.specs.BotName.{name_text}
use Rattle.daide_protocol.specs.Power.{power_text}

-- the name of a counter in texts
abbrev pub counter_name : Counter → List ℕ
counter_name Relayed = codes "relayed"
counter_name Prn = codes "prn"
counter_name Huh = codes "huh"

-- each count of a side before its name, after a space
unfoldable pub side_text : SideCounts → List ℕ
side_text c =
    flat_map (λ counter. codes " " ++ decimal (side_count counter c) ++ codes " " ++ counter_name counter) all_counters

-- a name after the level; nothing if the bot has said none
unfoldable pub name_part : BotName → List ℕ
name_part Unknown = []
name_part (Nme text) = codes "; " ++ name_text (Nme text)
name_part (Iam power) = codes "; " ++ name_text (Iam power)

-- a power after the name; nothing if the server has said none
unfoldable pub power_part : Option Power → List ℕ
power_part None = []
power_part (Some power) = codes "; power " ++ power_text power

-- the faults, the level, the name and the power
unfoldable pub rest_text : Account → List ℕ
rest_text a =
    codes "; " ++ decimal a.faults ++ codes " faults; level " ++ decimal (level_number a.level) ++ name_part a.name
    ++ power_part a.power

-- the counts of both sides, and the rest
unfoldable pub account_text : Account → List ℕ
account_text a = codes "bot" ++ side_text a.bot ++ codes "; server" ++ side_text a.server ++ rest_text a
