-- Press, and how a client sends it. The level at which a form enters is (own).
use Rattle.daide_token.specs.declared.class.Class.TheVariants.{Bwx, Fct, Huh, Idk, Ins, Prp, Qry, Rej, Snd}
use Rattle.daide_token.specs.declared.class.Class.TheVariants.{Sry, Sug, Thk, Try, Yes}
use Rattle.daide_grammar.specs.declared.level.Level.{Level}
use Rattle.daide_grammar.specs.declared.level.Level.TheVariants.{L60}
use Rattle.daide_grammar.specs.Forms.{Press_slot, Press_name, Send_name, Added, Form, ◌·◌, ◌∣◌}
use Rattle.daide_grammar.specs.Forms.{group, named, tok, some, maybe, from_level}
use Rattle.daide_grammar.specs.Message.Lists.{power, season_and_year, words, any}
use Rattle.daide_grammar.specs.Message.Arrangements.{arrangement, fact}

-- a press of the level
abbrev pub press : Level → Form
press l = named (Press_name l)

-- an insistence, a query, a suggestion, a belief, and the replies "I don't know" and "sorry"
abbrev pub asking_press : Level → Form
asking_press l =
    tok Ins · group (arrangement l)
    ∣ tok Qry · group (arrangement l)
    ∣ tok Sug · group (arrangement l)
    ∣ tok Thk · group (fact l)
    ∣ tok Idk · group (press l)
    ∣ tok Sry · group (press l)

-- From 10 a proposal, a statement, the words that may be tried, and the replies yes, no, none of your business, not
-- understood; at 60 the press that queries; an operator's word. (No message contains a press below level 10.)
abbrev pub press_rule : Level → Form
press_rule l =
    tok Prp · group (arrangement l)
    ∣ tok Fct · group (fact l)
    ∣ tok Try · group words
    ∣ tok Yes · group (press l)
    ∣ tok Rej · group (press l)
    ∣ tok Bwx · group (press l)
    ∣ tok Huh · group any
    ∣ from_level L60 l (asking_press l)
    ∣ named (Added Press_slot l)

-- the sending of a press to powers, in a given turn or in the current one
abbrev pub send : Level → Form
send l = named (Send_name l)

-- SND [( turn )] ( power+ ) ( press )
abbrev pub send_rule : Level → Form
send_rule l = tok Snd · maybe (group season_and_year) · group (some power) · group (press l)
