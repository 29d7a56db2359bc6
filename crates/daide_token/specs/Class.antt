-- The class of a token, by its category (first byte) and its code (second byte). The protocol fixes categories and
-- codes. That every token of some categories is of its kind, listed or not, is (own).
use Rattle.std.specs.Prelude.{ℕ, ◌/◌, ◌%◌, ◌==◌, nat_lt, nat_le, ◌&&◌, ◌||◌, Bool}
use Rattle.std.specs.Prelude.{true, false, if◌then◌else◌, List, [], ◌∷◌}
use Rattle.daide_token.specs.declared.class.Class.{Class}
use Rattle.daide_token.specs.declared.class.Class.TheVariants.{Num, Bra, Ket, Power, Note, Outcome, Coast, Season}
use Rattle.daide_token.specs.declared.class.Class.TheVariants.{Text, Province, Amy, Flt, Cto, Cvy, Hld, Mto, Sup, Via}
use Rattle.daide_token.specs.declared.class.Class.TheVariants.{Dsb, Rto, Bld, Rem, Wve, Ccd, Drw, Frm, Gof, Hlo, Hst}
use Rattle.daide_token.specs.declared.class.Class.TheVariants.{Huh, Iam, Lod, Map, Mdf, Mis, Nme, Not, Now, Obs, Off}
use Rattle.daide_token.specs.declared.class.Class.TheVariants.{Ord, Out, Prn, Rej, Sco, Slo, Snd, Sub, Sve, Thx, Tme}
use Rattle.daide_token.specs.declared.class.Class.TheVariants.{Yes, Adm, Smr, Aly, And, Bwx, Dmz, Fct, Idk, Ins, Occ}
use Rattle.daide_token.specs.declared.class.Class.TheVariants.{Orr, Pce, Prp, Qry, Scd, Sry, Sug, Thk, Try, Vss, Xdo}
use Rattle.daide_token.specs.declared.class.Class.TheVariants.{Lvl, Mrt, Uno, Param, Other, Alien, Word}

-- the class beside a code in a table; a code that is not listed has the class `unlisted`
abbrev pub listed : List (ℕ × Class) → Class → ℕ → Class
listed [] unlisted code = unlisted
listed (row ∷ rows) unlisted code = if row.0 == code then row.1 else listed rows unlisted code

-- category 40: brackets
abbrev pub brackets : List (ℕ × Class)
brackets =
    (0x00, Bra) ∷ (0x01, Ket) ∷ []

-- category 42: units
abbrev pub units : List (ℕ × Class)
units =
    (0x00, Amy) ∷ (0x01, Flt) ∷ []

-- category 43: orders
abbrev pub orders : List (ℕ × Class)
orders =
    (0x20, Cto) ∷ (0x21, Cvy) ∷ (0x22, Hld) ∷ (0x23, Mto) ∷ (0x24, Sup) ∷ (0x25, Via) ∷ (0x40, Dsb) ∷
    (0x41, Rto) ∷ (0x80, Bld) ∷ (0x81, Rem) ∷ (0x82, Wve) ∷ []

-- category 48: commands
abbrev pub commands : List (ℕ × Class)
commands =
    (0x00, Ccd) ∷ (0x01, Drw) ∷ (0x02, Frm) ∷ (0x03, Gof) ∷ (0x04, Hlo) ∷ (0x05, Hst) ∷ (0x06, Huh) ∷
    (0x07, Iam) ∷ (0x08, Lod) ∷ (0x09, Map) ∷ (0x0A, Mdf) ∷ (0x0B, Mis) ∷ (0x0C, Nme) ∷ (0x0D, Not) ∷
    (0x0E, Now) ∷ (0x0F, Obs) ∷ (0x10, Off) ∷ (0x11, Ord) ∷ (0x12, Out) ∷ (0x13, Prn) ∷ (0x14, Rej) ∷
    (0x15, Sco) ∷ (0x16, Slo) ∷ (0x17, Snd) ∷ (0x18, Sub) ∷ (0x19, Sve) ∷ (0x1A, Thx) ∷ (0x1B, Tme) ∷
    (0x1C, Yes) ∷ (0x1D, Adm) ∷ (0x1E, Smr) ∷ []

-- category 49: the parameters that the grammar names
abbrev pub parameters : List (ℕ × Class)
parameters =
    (0x03, Lvl) ∷ (0x04, Mrt) ∷ (0x0B, Uno) ∷ []

-- category 4A: press
abbrev pub press_classes : List (ℕ × Class)
press_classes =
    (0x00, Aly) ∷ (0x01, And) ∷ (0x02, Bwx) ∷ (0x03, Dmz) ∷ (0x06, Fct) ∷ (0x0A, Idk) ∷ (0x0C, Ins) ∷
    (0x0E, Occ) ∷ (0x0F, Orr) ∷ (0x10, Pce) ∷ (0x13, Prp) ∷ (0x14, Qry) ∷ (0x15, Scd) ∷ (0x16, Sry) ∷
    (0x17, Sug) ∷ (0x18, Thk) ∷ (0x1A, Try) ∷ (0x1C, Vss) ∷ (0x1F, Xdo) ∷ []

-- the class of a token, by category and code
abbrev pub class_in : ℕ → ℕ → Class
class_in category code =
    if nat_lt category 0x40 then Num else
    if category == 0x40 then listed brackets Other code else
    if category == 0x41 then Power else
    if category == 0x42 then listed units Other code else
    if category == 0x43 then listed orders Other code else
    if category == 0x44 then Note else
    if category == 0x45 then Outcome else
    if category == 0x46 then Coast else
    if category == 0x47 then Season else
    if category == 0x48 then listed commands Other code else
    if category == 0x49 then listed parameters Param code else
    if category == 0x4A then listed press_classes Other code else
    if category == 0x4B then Text else
    if nat_le 0x50 category && nat_le category 0x57 then Province else
    Alien

-- the class of a token; a number past FFFF is no token, and Alien
unfoldable pub class_of : ℕ → Class
class_of t = class_in (t / 256) (t % 256)

-- whether a first byte is that of a number, or a known category: 40 to 4B and 50 to 57
abbrev pub is_known_category : ℕ → Bool
is_known_category category = nat_lt category 0x4C || (nat_le 0x50 category && nat_le category 0x57)

-- whether a token is a number or has a known category
abbrev pub has_known_category : ℕ → Bool
has_known_category t = is_known_category (t / 256)

-- one token of each class, its only one if the class has just one (own). A word of an operator has none here; its value
-- is past all tokens.
abbrev pub token_of : Class → ℕ
token_of Num = 0x0000
token_of Bra = 0x4000
token_of Ket = 0x4001
token_of Power = 0x4100
token_of Note = 0x4400
token_of Outcome = 0x4500
token_of Coast = 0x4600
token_of Season = 0x4700
token_of Text = 0x4B61
token_of Province = 0x5000
token_of Amy = 0x4200
token_of Flt = 0x4201
token_of Cto = 0x4320
token_of Cvy = 0x4321
token_of Hld = 0x4322
token_of Mto = 0x4323
token_of Sup = 0x4324
token_of Via = 0x4325
token_of Dsb = 0x4340
token_of Rto = 0x4341
token_of Bld = 0x4380
token_of Rem = 0x4381
token_of Wve = 0x4382
token_of Ccd = 0x4800
token_of Drw = 0x4801
token_of Frm = 0x4802
token_of Gof = 0x4803
token_of Hlo = 0x4804
token_of Hst = 0x4805
token_of Huh = 0x4806
token_of Iam = 0x4807
token_of Lod = 0x4808
token_of Map = 0x4809
token_of Mdf = 0x480A
token_of Mis = 0x480B
token_of Nme = 0x480C
token_of Not = 0x480D
token_of Now = 0x480E
token_of Obs = 0x480F
token_of Off = 0x4810
token_of Ord = 0x4811
token_of Out = 0x4812
token_of Prn = 0x4813
token_of Rej = 0x4814
token_of Sco = 0x4815
token_of Slo = 0x4816
token_of Snd = 0x4817
token_of Sub = 0x4818
token_of Sve = 0x4819
token_of Thx = 0x481A
token_of Tme = 0x481B
token_of Yes = 0x481C
token_of Adm = 0x481D
token_of Smr = 0x481E
token_of Aly = 0x4A00
token_of And = 0x4A01
token_of Bwx = 0x4A02
token_of Dmz = 0x4A03
token_of Fct = 0x4A06
token_of Idk = 0x4A0A
token_of Ins = 0x4A0C
token_of Occ = 0x4A0E
token_of Orr = 0x4A0F
token_of Pce = 0x4A10
token_of Prp = 0x4A13
token_of Qry = 0x4A14
token_of Scd = 0x4A15
token_of Sry = 0x4A16
token_of Sug = 0x4A17
token_of Thk = 0x4A18
token_of Try = 0x4A1A
token_of Vss = 0x4A1C
token_of Xdo = 0x4A1F
token_of Lvl = 0x4903
token_of Mrt = 0x4904
token_of Uno = 0x490B
token_of Param = 0x4900
token_of Other = 0x4002
token_of Alien = 0x5800
token_of (Word place) = 0x10000

-- whether the class is that of some token without an operator's words
abbrev pub is_standard : Class → Bool
is_standard (Word place) = false
is_standard _ = true

-- whether a class has exactly one token
abbrev pub has_one_token : Class → Bool
has_one_token Num = false
has_one_token Power = false
has_one_token Note = false
has_one_token Outcome = false
has_one_token Coast = false
has_one_token Season = false
has_one_token Text = false
has_one_token Province = false
has_one_token Param = false
has_one_token Other = false
has_one_token Alien = false
has_one_token (Word place) = false
has_one_token _ = true
