-- A number for each class of tokens, by which the table compares two classes. (own)
use Rattle.std.specs.Prelude.{ℕ, ◌+◌, Bool, nat_eq, List, [], ◌∷◌}
use Rattle.daide_token.specs.declared.class.Class.{Class}
use Rattle.daide_token.specs.declared.class.Class.TheVariants.{Num, Bra, Ket, Power, Note, Outcome, Coast, Season}
use Rattle.daide_token.specs.declared.class.Class.TheVariants.{Text, Province, Amy, Flt, Cto, Cvy, Hld, Mto, Sup, Via}
use Rattle.daide_token.specs.declared.class.Class.TheVariants.{Dsb, Rto, Bld, Rem, Wve, Ccd, Drw, Frm, Gof, Hlo, Hst}
use Rattle.daide_token.specs.declared.class.Class.TheVariants.{Huh, Iam, Lod, Map, Mdf, Mis, Nme, Not, Now, Obs, Off}
use Rattle.daide_token.specs.declared.class.Class.TheVariants.{Ord, Out, Prn, Rej, Sco, Slo, Snd, Sub, Sve, Thx, Tme}
use Rattle.daide_token.specs.declared.class.Class.TheVariants.{Yes, Adm, Smr, Aly, And, Bwx, Dmz, Fct, Idk, Ins, Occ}
use Rattle.daide_token.specs.declared.class.Class.TheVariants.{Orr, Pce, Prp, Qry, Scd, Sry, Sug, Thk, Try, Vss, Xdo}
use Rattle.daide_token.specs.declared.class.Class.TheVariants.{Lvl, Mrt, Uno, Param, Other, Alien, Word}

-- the number of classes without the operator's words, whose numbers follow
abbrev pub own_classes : ℕ
own_classes = 79

-- the index of a class: the brackets first, the operator's words last
abbrev pub class_number : Class → ℕ
class_number Bra = 0
class_number Ket = 1
class_number Num = 2
class_number Power = 3
class_number Note = 4
class_number Outcome = 5
class_number Coast = 6
class_number Season = 7
class_number Text = 8
class_number Province = 9
class_number Amy = 10
class_number Flt = 11
class_number Cto = 12
class_number Cvy = 13
class_number Hld = 14
class_number Mto = 15
class_number Sup = 16
class_number Via = 17
class_number Dsb = 18
class_number Rto = 19
class_number Bld = 20
class_number Rem = 21
class_number Wve = 22
class_number Ccd = 23
class_number Drw = 24
class_number Frm = 25
class_number Gof = 26
class_number Hlo = 27
class_number Hst = 28
class_number Huh = 29
class_number Iam = 30
class_number Lod = 31
class_number Map = 32
class_number Mdf = 33
class_number Mis = 34
class_number Nme = 35
class_number Not = 36
class_number Now = 37
class_number Obs = 38
class_number Off = 39
class_number Ord = 40
class_number Out = 41
class_number Prn = 42
class_number Rej = 43
class_number Sco = 44
class_number Slo = 45
class_number Snd = 46
class_number Sub = 47
class_number Sve = 48
class_number Thx = 49
class_number Tme = 50
class_number Yes = 51
class_number Adm = 52
class_number Smr = 53
class_number Aly = 54
class_number And = 55
class_number Bwx = 56
class_number Dmz = 57
class_number Fct = 58
class_number Idk = 59
class_number Ins = 60
class_number Occ = 61
class_number Orr = 62
class_number Pce = 63
class_number Prp = 64
class_number Qry = 65
class_number Scd = 66
class_number Sry = 67
class_number Sug = 68
class_number Thk = 69
class_number Try = 70
class_number Vss = 71
class_number Xdo = 72
class_number Lvl = 73
class_number Mrt = 74
class_number Uno = 75
class_number Param = 76
class_number Other = 77
class_number Alien = 78
class_number (Word k) = own_classes + k

-- whether two classes have the same number: by the law `numbers_tell_classes_apart`, whether they are equal
abbrev pub same_class : Class → Class → Bool
same_class c d = nat_eq (class_number c) (class_number d)

-- the classes in the order of their numbers, without the operator's words
abbrev pub classes_in_order : List Class
classes_in_order =
    Bra ∷ Ket ∷ Num ∷ Power ∷ Note ∷ Outcome ∷ Coast ∷ Season ∷ Text ∷ Province ∷ Amy ∷ Flt ∷ Cto ∷ Cvy ∷
    Hld ∷ Mto ∷ Sup ∷ Via ∷ Dsb ∷ Rto ∷ Bld ∷ Rem ∷ Wve ∷ Ccd ∷ Drw ∷ Frm ∷ Gof ∷ Hlo ∷ Hst ∷ Huh ∷ Iam ∷
    Lod ∷ Map ∷ Mdf ∷ Mis ∷ Nme ∷ Not ∷ Now ∷ Obs ∷ Off ∷ Ord ∷ Out ∷ Prn ∷ Rej ∷ Sco ∷ Slo ∷ Snd ∷ Sub ∷
    Sve ∷ Thx ∷ Tme ∷ Yes ∷ Adm ∷ Smr ∷ Aly ∷ And ∷ Bwx ∷ Dmz ∷ Fct ∷ Idk ∷ Ins ∷ Occ ∷ Orr ∷ Pce ∷ Prp ∷
    Qry ∷ Scd ∷ Sry ∷ Sug ∷ Thk ∷ Try ∷ Vss ∷ Xdo ∷ Lvl ∷ Mrt ∷ Uno ∷ Param ∷ Other ∷ Alien ∷ []
