-- What a client says: requests, replies and the report HUH. (Message has the report PRN.)
use Rattle.daide_token.specs.declared.class.Class.TheVariants.{Adm, Gof, Hlo, Hst, Huh, Iam, Lod, Map, Mdf}
use Rattle.daide_token.specs.declared.class.Class.TheVariants.{Mis, Nme, Not, Now, Num, Obs, Ord, Rej, Sco}
use Rattle.daide_token.specs.declared.class.Class.TheVariants.{Sub, Sve, Tme, Yes}
use Rattle.daide_grammar.specs.declared.level.Level.{Level}
use Rattle.daide_grammar.specs.declared.level.Level.TheVariants.{L10}
use Rattle.daide_grammar.specs.Forms.{Request_name, Form, ◌·◌, ◌∣◌, many, group, named, tok, maybe, from_level}
use Rattle.daide_grammar.specs.Message.Lists.{power, season_and_year, text, any}
use Rattle.daide_grammar.specs.Message.Orders.{order}
use Rattle.daide_grammar.specs.Message.Arrangements.{draw}
use Rattle.daide_grammar.specs.Message.Press.{send}

-- orders, for a given turn or for the current one
abbrev pub submit : Form
submit = tok Sub · maybe (group season_and_year) · many (group order)

-- the time that is left, or a request for a notice at this number of seconds
abbrev pub time : Form
time = tok Tme · maybe (group (tok Num))

-- a client's earlier request that it may take back
abbrev pub cancel : Form
cancel = submit ∣ tok Gof ∣ time ∣ draw

-- a client's request to the server
abbrev pub request : Level → Form
request l = named (Request_name l)

-- the client requests, in the order of the protocol's table; press from level 10
abbrev pub request_rule : Level → Form
request_rule l =
    tok Nme · group text · group text
    ∣ tok Obs
    ∣ tok Iam · group power · group (tok Num)
    ∣ tok Hlo
    ∣ tok Map
    ∣ tok Mdf
    ∣ tok Sco
    ∣ tok Now
    ∣ tok Ord
    ∣ tok Hst · group season_and_year
    ∣ submit
    ∣ tok Mis
    ∣ tok Gof
    ∣ time
    ∣ draw
    ∣ tok Not · group cancel
    ∣ tok Adm · group text · group text
    ∣ from_level L10 l (send l)

-- a server's message that a client accepts or refuses
abbrev pub reply : Form
reply = tok Map · group text ∣ tok Sve · group text ∣ tok Lod · group text

-- the report, from either side, that a list of tokens was not understood
abbrev pub report : Form
report = tok Huh · group any

-- what a client may say, except for the report PRN
abbrev pub client : Level → Form
client l =
    request l
    ∣ tok Yes · group reply
    ∣ tok Rej · group reply
    ∣ report
