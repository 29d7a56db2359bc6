-- The classes that no arm of the plain table lists have the arm's default. Each symbol is shown once here, instead of
-- once for each class and level.
use Rattle.daide_grammar.proofs.Common.{◌≡◌, ◌≢◌, ◌<◌, Bool, true, false, nat_le, List, [], ◌∷◌, ◌++◌, Option, None}
use Rattle.daide_grammar.proofs.Common.{refl, sym, ap, subst, ◌∙◌, arith, Class, Adm, Aly, And, Bwx, Ccd, Dmz, Drw, Fct}
use Rattle.daide_grammar.proofs.Common.{Frm, Gof, Hlo, Hst, Huh, Iam, Idk, Ins, Lod, Map, Mdf, Mis, Nme, Not, Now, Obs}
use Rattle.daide_grammar.proofs.Common.{Occ, Off, Ord, Orr, Out, Pce, Qry, Rej, Scd, Sco, Slo, Smr, Snd, Sry, Sub, Sug}
use Rattle.daide_grammar.proofs.Common.{Sve, Thk, Thx, Tme, Try, Xdo, Yes, Level, L0, L10, L20, L30, L40, L50, L60, Sym}
use Rattle.daide_grammar.proofs.Common.{level_number, same_class, TableEntry, Stop, Alternative, on, answer_by, entries}
use Rattle.daide_grammar.proofs.Common.{entry_at, is_of_kind, may_end_of, table_answer, this_or}
use Rattle.daide_token.specs.declared.class.Class.TheVariants.{Prp}
use Rattle.daide_token.proofs.ClassNumbers.{told-apart}
use Rattle.daide_grammar.specs.declared.symbol.Sym.TheVariants.{Against, AnyGroup, Arrangement, ArrangementGroup}
use Rattle.daide_grammar.specs.declared.symbol.Sym.TheVariants.{Client, Fact, FactGroup, MaybePowersGroup, Operand}
use Rattle.daide_grammar.specs.declared.symbol.Sym.TheVariants.{OperandGroup, OrderGroup, PowerGroup, PowersGroup}
use Rattle.daide_grammar.specs.declared.symbol.Sym.TheVariants.{Press, PressGroup, ProvincesGroup, ReplyGroup, Request}
use Rattle.daide_grammar.specs.declared.symbol.Sym.TheVariants.{SendTail, Server, ShareGroup, Shares, UnitGroup}
use Rattle.daide_grammar.specs.declared.symbol.Sym.TheVariants.{UnitGroups}
use Rattle.daide_grammar.specs.Forms.{is}
use Rattle.daide_grammar.specs.Table.Symbols.{asking_entries, joining_entries, only_from, request_entries}
use Rattle.daide_grammar.specs.Table.Symbols.{simple_entries}

-- no entry of the list takes the class
abbrev NoneTakes : Class → List Alternative → Type 0
NoneTakes c [] = Unit {0}
NoneTakes c (e ∷ es) = (is_of_kind e.kind c ≡ false) × NoneTakes c es

none_of : (c : Class) (es : List Alternative) → NoneTakes c es → entry_at c es ≡ None
none_of c [] h = refl
none_of c (e ∷ es) h = ap (λ (b : Bool). this_or b e (entry_at c es)) h.0 ∙ none_of c es h.1

joined : (c : Class) (xs ys : List Alternative) → NoneTakes c xs → NoneTakes c ys → NoneTakes c (xs ++ ys)
joined c [] ys h k = k
joined c (x ∷ xs) ys h k = (h.0, joined c xs ys h.1 k)

from_on : (a l : Level) (c : Class) (es : List Alternative) → NoneTakes c es → NoneTakes c (only_from a l es)
from_on a l c es h = by_test (nat_le (level_number a) (level_number l))
  where
    by_test : (b : Bool) → NoneTakes c (elim b [ true ↦ es | false ↦ [] ])
    by_test true = h
    by_test false = tt

apart : {c : Class} (k : Class) → c ≢ k → is_of_kind (is k) c ≡ false
apart {c} k n = by_test (same_class k c) refl
  where
    by_test : (b : Bool) → same_class k c ≡ b → same_class k c ≡ false
    by_test true e = absurd (n (sym ((told-apart k c).0 e)))
    by_test false e = e

-- without an entry nothing is taken, and entries that do not take the class may be left out
stopped : (c : Class) (es : List Alternative) → NoneTakes c es → Stop ≡ answer_by (entry_at c es) false
stopped c es h = ap (λ (o : Option Alternative). answer_by o false) (sym (none_of c es h))

dropped : (c : Class) (xs ys : List Alternative) → entry_at c ys ≡ None → entry_at c (xs ++ ys) ≡ entry_at c xs
dropped c [] ys h = h
dropped c (x ∷ xs) ys h = ap (λ (o : Option Alternative). this_or (is_of_kind x.kind c) x o) (dropped c xs ys h)

-- an entry may replace another if neither takes the class
in_place : (c : Class) (xs : List Alternative) (e f : Alternative) (ys : List Alternative) → is_of_kind e.kind c ≡ false →
    is_of_kind f.kind c ≡ false → entry_at c (xs ++ e ∷ ys) ≡ entry_at c (xs ++ f ∷ ys)
in_place c [] e f ys p q =
    ap (λ (b : Bool). this_or b e (entry_at c ys)) p ∙ sym (ap (λ (b : Bool). this_or b f (entry_at c ys)) q)
in_place c (x ∷ xs) e f ys p q = ap (λ (o : Option Alternative). this_or (is_of_kind x.kind c) x o) (in_place c xs e f ys p q)

left_out : {a : TableEntry} (c : Class) (xs ys : List Alternative) → NoneTakes c ys → a ≡ answer_by (entry_at c xs) false →
    a ≡ answer_by (entry_at c (xs ++ ys)) false
left_out c xs ys h e = e ∙ ap (λ (o : Option Alternative). answer_by o false) (sym (dropped c xs ys (none_of c ys h)))

-- ---- arrangements and facts

-- a simple arrangement begins with no other class
pub simple_other : (l : Level) (inside : Sym) (c : Class) → c ≢ Pce → c ≢ Aly → c ≢ Drw → c ≢ Slo → c ≢ Not → c
    ≢ Xdo → c ≢ Dmz → c ≢ Scd → c ≢ Occ → Stop ≡ answer_by (entry_at c (simple_entries l inside)) false
simple_other l inside c pce aly drw slo not xdo dmz scd occ =
    let orders = on Xdo (OrderGroup ∷ []) ∷ on Dmz (PowersGroup ∷ ProvincesGroup ∷ []) ∷ [] in
    let centres = on Scd (ShareGroup ∷ Shares ∷ []) ∷ on Occ (UnitGroup ∷ UnitGroups ∷ []) ∷ [] in
    let new = joined c (only_from L20 l orders) (only_from L40 l centres)
    (from_on L20 l c orders (apart Xdo xdo, (apart Dmz dmz, tt)))
    (from_on L40 l c centres (apart Scd scd, (apart Occ occ, tt))) in
    stopped c (simple_entries l inside)
    (apart Pce pce, (apart Aly aly, (apart Drw drw, (apart Slo slo, (apart Not not, new)))))

-- an arrangement that begins with neither AND nor ORR, or is at a level without them, is a simple one
pub arrangement_other : {a : TableEntry} (l : Level) (c : Class) → c ≢ And → c ≢ Orr →
    a ≡ answer_by (entry_at c (simple_entries l (ArrangementGroup l))) false → a ≡ table_answer (Arrangement l) c
unfolding table_answer entries may_end_of
arrangement_other l c and orr e =
    left_out c (simple_entries l (ArrangementGroup l)) (only_from L30 l (joining_entries l))
    (from_on L30 l c (joining_entries l) (apart And and, (apart Orr orr, tt))) e

pub arrangement_below : {a : TableEntry} (l : Level) (c : Class) → level_number l < 30 →
    a ≡ answer_by (entry_at c (simple_entries l (ArrangementGroup l))) false → a ≡ table_answer (Arrangement l) c
unfolding table_answer entries may_end_of
arrangement_below L0 c less e = e
arrangement_below L10 c less e = e
arrangement_below L20 c less e = e
arrangement_below _ c less e = absurd (omega arith)

-- and so is an operand
pub operand_other : {a : TableEntry} (l : Level) (c : Class) → c ≢ And → c ≢ Orr →
    a ≡ answer_by (entry_at c (simple_entries l (OperandGroup l))) false → a ≡ table_answer (Operand l) c
unfolding table_answer entries may_end_of
operand_other l c and orr e =
    left_out c (simple_entries l (OperandGroup l)) (only_from L50 l (joining_entries l))
    (from_on L50 l c (joining_entries l) (apart And and, (apart Orr orr, tt))) e

pub operand_below : {a : TableEntry} (l : Level) (c : Class) → level_number l < 50 →
    a ≡ answer_by (entry_at c (simple_entries l (OperandGroup l))) false → a ≡ table_answer (Operand l) c
unfolding table_answer entries may_end_of
operand_below L50 c less e = absurd (omega arith)
operand_below L60 c less e = absurd (omega arith)
operand_below _ c less e = e

-- a fact that begins with neither NOT nor QRY, or below level 60, is an arrangement
pub fact_other : {a : TableEntry} (l : Level) (c : Class) → c ≢ Not → c ≢ Qry → a ≡ table_answer (Arrangement l) c →
    a ≡ table_answer (Fact l) c
unfolding table_answer entries may_end_of
fact_other L60 c not qry e =
    let same = in_place c
    (on Pce (PowersGroup ∷ []) ∷ on Aly (PowersGroup ∷ Against ∷ PowersGroup ∷ []) ∷ on Drw (MaybePowersGroup ∷ [])
    ∷ on Slo (PowerGroup ∷ []) ∷ [])
    (on Not (ArrangementGroup L60 ∷ [])) (on Not (FactGroup L60 ∷ []))
    (on Xdo (OrderGroup ∷ []) ∷ on Dmz (PowersGroup ∷ ProvincesGroup ∷ []) ∷ on Scd (ShareGroup ∷ Shares ∷ [])
    ∷ on Occ (UnitGroup ∷ UnitGroups ∷ []) ∷ joining_entries L60)
    (apart Not not) (apart Not not) in
    left_out c (simple_entries L60 (FactGroup L60) ++ joining_entries L60) (on Qry (ArrangementGroup L60 ∷ []) ∷ [])
    (apart Qry qry, tt) (e ∙ ap (λ (o : Option Alternative). answer_by o false) same)
fact_other _ c _ _ e = e

pub fact_below : {a : TableEntry} (l : Level) (c : Class) → level_number l < 60 → a ≡ table_answer (Arrangement l) c →
    a ≡ table_answer (Fact l) c
unfolding table_answer entries may_end_of
fact_below L60 c less e = absurd (omega arith)
fact_below _ c less e = e

-- ---- press and messages

-- a press begins with no other class
pub press_other : (l : Level) (c : Class) → c ≢ Prp → c ≢ Fct → c ≢ Try → c ≢ Yes → c ≢ Rej → c ≢ Bwx → c ≢ Huh →
    c ≢ Ins → c ≢ Qry → c ≢ Sug → c ≢ Thk → c ≢ Idk → c ≢ Sry → Stop ≡ table_answer (Press l) c
unfolding table_answer entries may_end_of
press_other l c prp fct try yea rej bwx huh ins qry sug thk idk sry =
    let asking = from_on L60 l c (asking_entries l)
    (apart Ins ins, (apart Qry qry, (apart Sug sug, (apart Thk thk, (apart Idk idk, (apart Sry sry, tt))))))
    in
    stopped c (entries (Press l)) (
      apart Prp prp,
      (
        apart Fct fct,
        (
          apart Try try,
          (
            apart Yes yea,
            (
              apart Rej rej,
              (
                apart Bwx bwx,
                (
                  apart Huh
                      huh,
                  asking,
                ),
              ),
            ),
          ),
        ),
      ),
    )

-- a request begins with no other class
pub request_other : (l : Level) (c : Class) → c ≢ Nme → c ≢ Obs → c ≢ Iam → c ≢ Hlo → c ≢ Map → c ≢ Mdf → c ≢
    Sco → c ≢ Now → c ≢ Ord → c ≢ Hst → c ≢ Sub → c ≢ Mis → c ≢ Gof → c ≢ Tme → c ≢ Drw → c ≢ Not → c ≢ Adm → c
    ≢ Snd → Stop ≡ table_answer (Request l) c
unfolding table_answer entries may_end_of
request_other l c nme obs iam hlo map mdf sco now ord hst sub mis gof tme drw not adm snd =
    let send = from_on L10 l c (on Snd (SendTail l ∷ []) ∷ []) (apart Snd snd, tt) in
    stopped c (request_entries l) (
      apart Nme nme,
      (
        apart Obs obs,
        (
          apart Iam iam,
          (
            apart Hlo hlo,
            (
              apart Map map,
              (
                apart Mdf mdf,
                (
                  apart Sco
                      sco,
                  (
                    apart Now now,
                    (
                      apart Ord ord,
                      (
                        apart Hst hst,
                        (
                          apart Sub sub,
                          (
                            apart Mis mis,
                            (
                              apart Gof gof,
                              (
                                apart
                                    Tme tme,
                                (apart Drw drw, (apart Not not, (apart Adm adm, send))),
                              ),
                            ),
                          ),
                        ),
                      ),
                    ),
                  ),
                ),
              ),
            ),
          ),
        ),
      ),
    )

-- a client's message that begins with none of three classes is a request
pub client_other : {a : TableEntry} (l : Level) (c : Class) → c ≢ Yes → c ≢ Rej → c ≢ Huh →
    a ≡ table_answer (Request l) c → a ≡ table_answer (Client l) c
unfolding table_answer entries may_end_of
client_other l c yea rej huh e =
    left_out c (request_entries l)
    (on Yes (ReplyGroup ∷ []) ∷ on Rej (ReplyGroup ∷ []) ∷ on Huh (AnyGroup ∷ []) ∷ [])
    (apart Yes yea, (apart Rej rej, (apart Huh huh, tt))) e

-- a server's message begins with no other class
pub server_other : (l : Level) (c : Class) → c ≢ Map → c ≢ Mdf → c ≢ Hlo → c ≢ Sco → c ≢ Now → c ≢ Thx → c ≢ Mis →
    c ≢ Ord → c ≢ Tme → c ≢ Yes → c ≢ Rej → c ≢ Ccd → c ≢ Not → c ≢ Out → c ≢ Slo → c ≢ Drw → c ≢ Off → c ≢ Smr →
    c ≢ Sve → c ≢ Lod → c ≢ Adm → c ≢ Huh → c ≢ Frm → Stop ≡ table_answer (Server l) c
unfolding table_answer entries may_end_of
server_other l c map mdf hlo sco now thx mis ord tme yea rej ccd not out slo drw off smr sve lod adm huh frm =
    let handed_on = on Frm (PowerGroup ∷ PowersGroup ∷ PressGroup l ∷ []) ∷ [] in
    stopped c (entries (Server l)) (
      apart Map map,
      (
        apart Mdf mdf,
        (
          apart Hlo hlo,
          (
            apart Sco sco,
            (
              apart Now now,
              (
                apart Thx thx,
                (
                  apart Mis
                      mis,
                  (
                    apart Ord ord,
                    (
                      apart Tme tme,
                      (
                        apart Yes yea,
                        (
                          apart Rej rej,
                          (
                            apart Ccd ccd,
                            (
                              apart Not not,
                              (
                                apart
                                    Out out,
                                (
                                  apart Slo slo,
                                  (
                                    apart Drw drw,
                                    (
                                      apart Off off,
                                      (
                                        apart Smr smr,
                                        (
                                          apart Sve sve,
                                          (
                                            apart Lod lod,
                                            (apart Adm adm, (apart Huh huh, from_on L10 l c handed_on (apart Frm frm, tt))),
                                          ),
                                        ),
                                      ),
                                    ),
                                  ),
                                ),
                              ),
                            ),
                          ),
                        ),
                      ),
                    ),
                  ),
                ),
              ),
            ),
          ),
        ),
      ),
    )

-- ---- classes that enter at a higher level

pub simple_xdo : (l : Level) (inside : Sym) (c : Class) → c ≡ Xdo → level_number l < 20 → Stop ≡ answer_by
    (entry_at c (simple_entries l inside)) false
simple_xdo l inside c e less =
    subst (λ (c : Class). Stop ≡ answer_by (entry_at c (simple_entries l inside)) false) (sym e) (at_level l less)
  where
    at_level : (l : Level) → level_number l < 20 → Stop ≡ answer_by (entry_at Xdo (simple_entries l inside)) false
    at_level L0 less = refl
    at_level L10 less = refl
    at_level _ less = absurd (omega arith)

pub simple_dmz : (l : Level) (inside : Sym) (c : Class) → c ≡ Dmz → level_number l < 20 → Stop ≡ answer_by
    (entry_at c (simple_entries l inside)) false
simple_dmz l inside c e less =
    subst (λ (c : Class). Stop ≡ answer_by (entry_at c (simple_entries l inside)) false) (sym e) (at_level l less)
  where
    at_level : (l : Level) → level_number l < 20 → Stop ≡ answer_by (entry_at Dmz (simple_entries l inside)) false
    at_level L0 less = refl
    at_level L10 less = refl
    at_level _ less = absurd (omega arith)

pub simple_scd : (l : Level) (inside : Sym) (c : Class) → c ≡ Scd → level_number l < 40 → Stop ≡ answer_by
    (entry_at c (simple_entries l inside)) false
simple_scd l inside c e less =
    subst (λ (c : Class). Stop ≡ answer_by (entry_at c (simple_entries l inside)) false) (sym e) (at_level l less)
  where
    at_level : (l : Level) → level_number l < 40 → Stop ≡ answer_by (entry_at Scd (simple_entries l inside)) false
    at_level L40 less = absurd (omega arith)
    at_level L50 less = absurd (omega arith)
    at_level L60 less = absurd (omega arith)
    at_level _ less = refl

pub simple_occ : (l : Level) (inside : Sym) (c : Class) → c ≡ Occ → level_number l < 40 → Stop ≡ answer_by
    (entry_at c (simple_entries l inside)) false
simple_occ l inside c e less =
    subst (λ (c : Class). Stop ≡ answer_by (entry_at c (simple_entries l inside)) false) (sym e) (at_level l less)
  where
    at_level : (l : Level) → level_number l < 40 → Stop ≡ answer_by (entry_at Occ (simple_entries l inside)) false
    at_level L40 less = absurd (omega arith)
    at_level L50 less = absurd (omega arith)
    at_level L60 less = absurd (omega arith)
    at_level _ less = refl

pub press_ins : (l : Level) (c : Class) → c ≡ Ins → level_number l < 60 → Stop ≡ table_answer (Press l) c
unfolding table_answer entries may_end_of
press_ins l c e less =
    subst (λ (c : Class). Stop ≡ table_answer (Press l) c) (sym e) (at_level l less)
  where
    at_level : (l : Level) → level_number l < 60 → Stop ≡ table_answer (Press l) Ins
    at_level L60 less = absurd (omega arith)
    at_level _ less = refl

pub press_qry : (l : Level) (c : Class) → c ≡ Qry → level_number l < 60 → Stop ≡ table_answer (Press l) c
unfolding table_answer entries may_end_of
press_qry l c e less =
    subst (λ (c : Class). Stop ≡ table_answer (Press l) c) (sym e) (at_level l less)
  where
    at_level : (l : Level) → level_number l < 60 → Stop ≡ table_answer (Press l) Qry
    at_level L60 less = absurd (omega arith)
    at_level _ less = refl

pub press_sug : (l : Level) (c : Class) → c ≡ Sug → level_number l < 60 → Stop ≡ table_answer (Press l) c
unfolding table_answer entries may_end_of
press_sug l c e less =
    subst (λ (c : Class). Stop ≡ table_answer (Press l) c) (sym e) (at_level l less)
  where
    at_level : (l : Level) → level_number l < 60 → Stop ≡ table_answer (Press l) Sug
    at_level L60 less = absurd (omega arith)
    at_level _ less = refl

pub press_thk : (l : Level) (c : Class) → c ≡ Thk → level_number l < 60 → Stop ≡ table_answer (Press l) c
unfolding table_answer entries may_end_of
press_thk l c e less =
    subst (λ (c : Class). Stop ≡ table_answer (Press l) c) (sym e) (at_level l less)
  where
    at_level : (l : Level) → level_number l < 60 → Stop ≡ table_answer (Press l) Thk
    at_level L60 less = absurd (omega arith)
    at_level _ less = refl

pub press_idk : (l : Level) (c : Class) → c ≡ Idk → level_number l < 60 → Stop ≡ table_answer (Press l) c
unfolding table_answer entries may_end_of
press_idk l c e less =
    subst (λ (c : Class). Stop ≡ table_answer (Press l) c) (sym e) (at_level l less)
  where
    at_level : (l : Level) → level_number l < 60 → Stop ≡ table_answer (Press l) Idk
    at_level L60 less = absurd (omega arith)
    at_level _ less = refl

pub press_sry : (l : Level) (c : Class) → c ≡ Sry → level_number l < 60 → Stop ≡ table_answer (Press l) c
unfolding table_answer entries may_end_of
press_sry l c e less =
    subst (λ (c : Class). Stop ≡ table_answer (Press l) c) (sym e) (at_level l less)
  where
    at_level : (l : Level) → level_number l < 60 → Stop ≡ table_answer (Press l) Sry
    at_level L60 less = absurd (omega arith)
    at_level _ less = refl

pub request_snd : (l : Level) (c : Class) → c ≡ Snd → level_number l < 10 → Stop ≡ table_answer (Request l) c
unfolding table_answer entries may_end_of
request_snd l c e less =
    subst (λ (c : Class). Stop ≡ table_answer (Request l) c) (sym e) (at_level l less)
  where
    at_level : (l : Level) → level_number l < 10 → Stop ≡ table_answer (Request l) Snd
    at_level L0 less = refl
    at_level _ less = absurd (omega arith)

pub server_frm : (l : Level) (c : Class) → c ≡ Frm → level_number l < 10 → Stop ≡ table_answer (Server l) c
unfolding table_answer entries may_end_of
server_frm l c e less =
    subst (λ (c : Class). Stop ≡ table_answer (Server l) c) (sym e) (at_level l less)
  where
    at_level : (l : Level) → level_number l < 10 → Stop ≡ table_answer (Server l) Frm
    at_level L0 less = refl
    at_level _ less = absurd (omega arith)
