-- Kinds of one token, and lists of tokens.
use Rattle.daide_token.specs.declared.class.Class.TheVariants.{Num, Power, Province, Season, Text}
use Rattle.daide_grammar.specs.Forms.{any_but_brackets, Any_name, Form, one, ◌·◌, ◌∣◌, many, group, named, tok}

-- one power
abbrev pub power : Form
power = tok Power

-- one province
abbrev pub province : Form
province = tok Province

-- a season and its year, a number
abbrev pub season_and_year : Form
season_and_year = tok Season · tok Num

-- characters, none or more (that there may be none is (own))
abbrev pub text : Form
text = many (tok Text)

-- any tokens except brackets, none or more
abbrev pub words : Form
words = many (one any_but_brackets)

-- any list of tokens whose brackets balance
abbrev pub any : Form
any = named Any_name

-- words, and lists in brackets, in any order
abbrev pub anything : Form
anything = many (one any_but_brackets ∣ group any)
