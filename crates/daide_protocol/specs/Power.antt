-- The power that a bot plays, as its server says: in HLO ( power ) ( passcode ) ( variant ), and in YES ( IAM ( power )
-- ( passcode ) ), by docs/PROTOCOL.md, "The messages". That the last one that was relayed counts is (own). The bot's own
-- IAM is only a claim.
use Rattle.std.specs.Prelude.{ℕ, ◌==◌, if◌then◌else◌, List, [], ◌∷◌, Option, Some, None}
use Rattle.std.specs.Option.{option_or}
use Rattle.daide_token.specs.Text.{text_with}
use Rattle.daide_token.specs.Token.{hlo}
use Rattle.daide_frame.specs.declared.side.Side.{Side}
use Rattle.daide_frame.specs.declared.side.Side.TheVariants.{Server}
use Rattle.daide_frame.specs.declared.head.Kind.{Kind}
use Rattle.daide_frame.specs.declared.head.Kind.TheVariants.{Dm}
use Rattle.daide_protocol.specs.declared.note.Deed.{Deed}
use Rattle.daide_protocol.specs.declared.note.Deed.TheVariants.{Relayed}
use Rattle.daide_protocol.specs.declared.power.Power.{Power}
use Rattle.daide_protocol.specs.BotName.{iam}

-- YES ( request ), by which the server grants a request
abbrev pub yes : ℕ
yes = 0x481C

-- the power with this token; an observer's HLO has UNO in its place
abbrev pub of_token : ℕ → Power
of_token t = record { token = t }

-- the power in a granted request with this command and these tokens after it, if it is an IAM
abbrev pub power_granted : ℕ → List ℕ → Option Power
power_granted command (bracket ∷ operand ∷ tokens) = if command == iam then Some (of_token operand) else None
power_granted command tokens = None

-- the power in a message with these tokens, if it is an HLO, or a YES to an IAM
abbrev pub power_in : List ℕ → Option Power
power_in (command ∷ bracket ∷ operand ∷ tokens) =
    if command == hlo then Some (of_token operand) else
    if command == yes then power_granted operand tokens else
    None
power_in tokens = None

-- the power after one more frame with these tokens: only a relayed message of the server changes it
abbrev pub power_after : Kind → Side → Deed → List ℕ → Option Power → Option Power
power_after Dm Server Relayed tokens power = option_or (power_in tokens) power
power_after kind side deed tokens power = power

-- the text of a power: that of its token
abbrev pub power_text : Power → List ℕ
power_text power = text_with [] (power.token ∷ [])
