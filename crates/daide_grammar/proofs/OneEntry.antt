-- A symbol with one entry: the class of the entry takes its token, and no other class does.
use Rattle.daide_grammar.proofs.Common.{◌≡◌, Bool, true, false, None, List, [], ◌∷◌, refl, sym, ap, ◌∙◌, if◌then◌else◌}
use Rattle.daide_grammar.proofs.Common.{Class, Sym, TableEntry, Take, Skip, Stop, same_class, Alternative, on}
use Rattle.daide_grammar.proofs.Common.{answer_by, entries, entry_at, may_end_of, table_answer, this_or}

told : (b ends : Bool) (e : Alternative) →
    (if b then Take e.rest else answer_by None ends) ≡ answer_by (this_or b e None) ends
told true ends e = refl
told false ends e = refl

one_told : (t : Sym) (wanted c : Class) (rest : List Sym) (ends : Bool) →
    entries t ≡ on wanted rest ∷ [] → may_end_of t ≡ ends →
    (if same_class wanted c then Take rest else answer_by None ends) ≡ table_answer t c
unfolding table_answer
one_told t wanted c rest ends one end =
    told (same_class wanted c) ends (on wanted rest)
    ∙ ap (λ (es : List Alternative). answer_by (entry_at c es) ends) (sym one)
    ∙ ap (λ (b : Bool). answer_by (entry_at c (entries t)) b) (sym end)

-- a symbol that must begin with the class
pub must_told : {a : TableEntry} {s : Sym} (t : Sym) (wanted c : Class) (rest : List Sym) → s ≡ t →
    entries t ≡ on wanted rest ∷ [] → may_end_of t ≡ false →
    a ≡ (if same_class wanted c then Take rest else Stop) → a ≡ table_answer s c
must_told t wanted c rest is one end says =
    says ∙ one_told t wanted c rest false one end ∙ ap (λ (s : Sym). table_answer s c) (sym is)

-- a nullable symbol
pub may_told : {a : TableEntry} {s : Sym} (t : Sym) (wanted c : Class) (rest : List Sym) → s ≡ t →
    entries t ≡ on wanted rest ∷ [] → may_end_of t ≡ true →
    a ≡ (if same_class wanted c then Take rest else Skip) → a ≡ table_answer s c
may_told t wanted c rest is one end says =
    says ∙ one_told t wanted c rest true one end ∙ ap (λ (s : Sym). table_answer s c) (sym is)

-- a symbol's entry is that of its name
pub by_name : {s t : Sym} (c : Class) → s ≡ t → table_answer t c ≡ table_answer s c
by_name c is = ap (λ (s : Sym). table_answer s c) (sym is)
