-- The reachable stacks are short, and a nullable symbol is directly above a closing bracket or at the bottom.
use Rattle.std.proofs.Common.{◌≡◌, ◌≢◌, ℕ, suc, Bool, true, false, not, ◌&&◌, ◌||◌, nat_eq, List, [], ◌∷◌, ◌++◌, Some}
use Rattle.std.proofs.Common.{None, refl, sym, ◌∙◌, ap, subst, arith, append-nil}
use Rattle.std.proofs.lemmas.Bool.{eqb-true}
use Rattle.std.specs.List.{list_all}
use Rattle.daide_token.specs.declared.class.Class.{Class}
use Rattle.daide_token.specs.declared.class.Class.TheVariants.{Bra, Ket, Word}
use Rattle.daide_grammar.specs.declared.level.Level.TheVariants.{L60}
use Rattle.daide_grammar.specs.declared.symbol.Sym.{Sym}
use Rattle.daide_grammar.specs.declared.symbol.Sym.TheVariants.{Closing, PressGroup, ArrangementGroup, FactGroup}
use Rattle.daide_grammar.specs.declared.symbol.Sym.TheVariants.{OperandGroup, RequestGroup, SendGroup, Request, Client}
use Rattle.daide_grammar.specs.declared.symbol.Sym.TheVariants.{SendTail, SendFirst, Send, MaybeSendGroup, Server}
use Rattle.daide_grammar.specs.declared.symbol.Sym.TheVariants.{Press, Arrangement, Operand, Operands, Fact}
use Rattle.daide_grammar.specs.Classes.{class_number, same_class}
use Rattle.daide_grammar.specs.Forms.{TokenTest, is, any_but_brackets}
use Rattle.daide_grammar.specs.Table.Symbols.{Alternative, entries, may_end_of, entry_at, table_answer, answer_by, this_or, on}
use Rattle.daide_grammar.specs.Table.Symbols.{is_of_kind}
use Rattle.daide_grammar.specs.Table.Symbols.{start_symbol_of}
use Rattle.daide_grammar.specs.Table.Answers.{TableEntry, Take, Skip, Stop}
use Rattle.daide_grammar.specs.Table.Shapes.{is_bottom_symbol, shape, join, shapes}
use Rattle.daide_grammar.specs.declared.level.Level.{Level}
use Rattle.daide_grammar.specs.declared.side.Side2.{Side2}
use Rattle.daide_grammar.specs.declared.side.Side2.TheVariants.{Client as ClientSide, ServerEnd as ServerSide}
use Rattle.daide_grammar.specs.Table.LawfulStack.{IsLawful, start_symbol, word, bra, ket, skip}
use Rattle.daide_grammar.specs.Proofs.Sizes.{fits, fits_below, fits_tail, is_single, begins_positive, Fits, Fits-test}
use Rattle.daide_grammar.specs.Proofs.Sizes.{Fits_trans, Fits_refl, join-mono, IsCons, shapes-cons, shapes-append, caps}
use Rattle.daide_grammar.specs.Proofs.Sizes.{sizes-opened, sizes-closed, sizes-skipped}
use Rattle.daide_grammar.specs.Proofs.Alternatives.{both-pass}
use Rattle.daide_grammar.specs.Proofs.MovesAgree.{find-passes, find-takes, take-entry, skip-entry}

-- whether the symbol is a closing bracket
abbrev pub is_closing : Sym → Bool
is_closing Closing = true
is_closing _ = false

-- whether each bottom symbol is directly above a closing bracket, or last if b is true
unfoldable pub tidy : Bool → List Sym → Bool
tidy b [] = true
tidy b (s ∷ []) = not (is_bottom_symbol s) || b
tidy b (s ∷ r ∷ ss) = (not (is_bottom_symbol s) || is_closing r) && tidy b (r ∷ ss)

-- the change of the sizes by a token, by whether it opens and whether it closes a bracket
abbrev pub sized_by : Bool → Bool → List ℕ → List ℕ → Bool
sized_by true b rest whole = fits_below 5 rest whole
sized_by false true rest whole = fits_tail rest whole
sized_by false false rest whole = fits rest whole

-- whether the sizes of a rest fit those of its symbol, by the test of the token
unfoldable pub sized : TokenTest → List ℕ → List ℕ → Bool
sized (is c) rest whole = sized_by (same_class c Bra) (same_class c Ket) rest whole
sized any_but_brackets rest whole = fits rest whole

-- whether an entry's rest has its bottom symbol last, and fits the sizes of its symbol
unfoldable pub entry_ordered : Sym → Alternative → Bool
entry_ordered s e = tidy (is_bottom_symbol s) e.rest && sized e.kind (shapes e.rest) (shape s)

-- each entry is in order, the symbol has a size, and a nullable symbol is a bottom symbol and closes no bracket
unfoldable pub ordered : Sym → Bool
ordered s =
    (list_all (entry_ordered s) (entries s) && begins_positive (shape s))
    && (not (may_end_of s) || (is_bottom_symbol s && is_single (shape s)))

-- A test that computes: every symbol of the table is in order. The clause that fails names the symbol.
pub all_ordered : (s : Sym) → ordered s ≡ true
unfolding ordered entry_ordered sized tidy fits shape is_bottom_symbol entries may_end_of
all_ordered (PressGroup L60) = refl
all_ordered (ArrangementGroup L60) = refl
all_ordered (FactGroup L60) = refl
all_ordered (OperandGroup L60) = refl
all_ordered (RequestGroup L60) = refl
all_ordered (SendGroup L60) = refl
all_ordered (Request L60) = refl
all_ordered (Client L60) = refl
all_ordered (SendTail L60) = refl
all_ordered (SendFirst L60) = refl
all_ordered (Send L60) = refl
all_ordered (MaybeSendGroup L60) = refl
all_ordered (Server L60) = refl
all_ordered (Press L60) = refl
all_ordered (Arrangement L60) = refl
all_ordered (Operand L60) = refl
all_ordered (Operands L60) = refl
all_ordered (Fact L60) = refl
all_ordered _ = refl

-- ---- the entries keep the order

-- the numbers of the brackets' classes determine them
pub number-Bra : (c : Class) → class_number c ≡ 0 → c ≡ Bra
number-Bra Bra e = refl
number-Bra (Word k) e = absurd (omega arith)
number-Bra _ e = cc

pub number-Ket : (c : Class) → class_number c ≡ 1 → c ≡ Ket
number-Ket Ket e = refl
number-Ket (Word k) e = absurd (omega arith)
number-Ket _ e = cc

-- a stack whose sizes fit, and whose bottom symbols are last
pub record Ordered (n : ℕ) (ss : List Sym) : Type 0 where
  pub sizes : Fits (shapes ss) (caps n)
  pub tidied : tidy true ss ≡ true

-- what the table's tests say about an entry
record OrderedEntry (s : Sym) (e : Alternative) : Type 0 where
  tidied : tidy (is_bottom_symbol s) e.rest ≡ true
  sized_so : sized e.kind (shapes e.rest) (shape s) ≡ true

-- every entry that is found is in order
ordered-entry : (s : Sym) (c : Class) (e : Alternative) → entry_at c (entries s) ≡ Some e → OrderedEntry s e
unfolding ordered entry_ordered
ordered-entry s c e f =
    let p = both-pass (list_all (entry_ordered s) (entries s) && begins_positive (shape s)) _ (all_ordered s) in
    let q = both-pass (list_all (entry_ordered s) (entries s)) (begins_positive (shape s)) p.0 in
    let r = both-pass (tidy (is_bottom_symbol s) e.rest) (sized e.kind (shapes e.rest) (shape s)) (find-passes
    (entry_ordered s) c (entries s) e q.0 f) in
    record { tidied = r.0; sized_so = r.1 }

-- a disjunction with true passes
pub or-true : (a : Bool) → (a || true) ≡ true
or-true true = refl
or-true false = refl

-- a symbol that is skipped is nullable
pub skip-ends : (s : Sym) (c : Class) → table_answer s c ≡ Skip → may_end_of s ≡ true
unfolding table_answer
skip-ends s c m = (skip-entry (entry_at c (entries s)) (may_end_of s) m).1

-- a bottom symbol stays in order if it is alone
tidy-one : (b : Bool) (s : Sym) → tidy b (s ∷ []) ≡ true → tidy true (s ∷ []) ≡ true
unfolding tidy
tidy-one b s e = or-true (not (is_bottom_symbol s))

-- a list in order above others is in order at the bottom
tidy-bottom : (b : Bool) (ss : List Sym) → tidy b ss ≡ true → tidy true ss ≡ true
unfolding tidy
tidy-bottom b [] e = refl
tidy-bottom b (s ∷ []) e = tidy-one b s e
tidy-bottom b (s ∷ r ∷ ss) e =
    let p = both-pass (not (is_bottom_symbol s) || is_closing r) (tidy b (r ∷ ss)) e in
    ap (λ (x : Bool). x && tidy true (r ∷ ss)) p.0 ∙ tidy-bottom b (r ∷ ss) p.1

-- a rest may end with a bottom symbol only if the symbol that it replaces is one
last-handed : (r s q : Bool) → (not r || s) ≡ true → (not s || q) ≡ true → (not r || q) ≡ true
last-handed true true q e h = h
last-handed true false q e h = cc
last-handed false s q e h = refl

-- a rest in place of its symbol, above another symbol
tidy-above : (s q : Sym) (below rest : List Sym) → tidy (is_bottom_symbol s) rest ≡ true →
    (not (is_bottom_symbol s) || is_closing q) ≡ true →
    tidy true (q ∷ below) ≡ true → tidy true (rest ++ (q ∷ below)) ≡ true
unfolding tidy
tidy-above s q below [] e h k = k
tidy-above s q below (r ∷ []) e h k =
    ap (λ (x : Bool). x && tidy true (q ∷ below)) (last-handed (is_bottom_symbol r) (is_bottom_symbol s) (is_closing q) e h) ∙ k
tidy-above s q below (r ∷ r' ∷ rest) e h k =
    let p = both-pass (not (is_bottom_symbol r) || is_closing r') (tidy (is_bottom_symbol s) (r' ∷ rest)) e in
    ap (λ (x : Bool). x && tidy true (r' ∷ (rest ++ (q ∷ below)))) p.0 ∙ tidy-above s q below (r' ∷ rest) p.1 h k

-- a rest in place of its symbol
tidy-replaced : (s : Sym) (below rest : List Sym) → tidy (is_bottom_symbol s) rest ≡ true → tidy true (s ∷ below) ≡ true →
    tidy true (rest ++ below) ≡ true
unfolding tidy
tidy-replaced s [] rest e h =
    subst (λ (x : List Sym). tidy true x ≡ true) (sym (append-nil rest)) (tidy-bottom (is_bottom_symbol s) rest e)
tidy-replaced s (q ∷ below) rest e h =
    let p = both-pass (not (is_bottom_symbol s) || is_closing q) (tidy true (q ∷ below)) h in tidy-above s q below rest e p.0 p.1

-- which of the three cases a class selects
pub sized-Bra : (k : TokenTest) (xs ys : List ℕ) → is_of_kind k Bra ≡ true → sized k xs ys ≡ true → fits_below 5 xs ys ≡ true
unfolding sized
sized-Bra (is c) xs ys h e = subst (λ (b : Bool). sized_by b (same_class c Ket) xs ys ≡ true) h e
sized-Bra any_but_brackets xs ys h e = cc

pub sized-Ket : (k : TokenTest) (xs ys : List ℕ) → is_of_kind k Ket ≡ true → sized k xs ys ≡ true → fits_tail xs ys ≡ true
unfolding sized
sized-Ket (is c) xs ys h e =
    subst (λ (m : ℕ). sized_by (nat_eq m 0) (nat_eq m 1) xs ys ≡ true) (eqb-true (class_number c) 1 h) e
sized-Ket any_but_brackets xs ys h e = cc

-- a test that does not pass is false
not-so : (b : Bool) → (b ≡ true → ⊥) → b ≡ false
not-so true h = absurd (h refl)
not-so false h = refl

pub sized-word : (k : TokenTest) (c : Class) (xs ys : List ℕ) → c ≢ Bra → c ≢ Ket → is_of_kind k c ≡ true →
    sized k xs ys ≡ true → fits xs ys ≡ true
unfolding sized
sized-word (is d) c xs ys b n h e =
    let same = eqb-true (class_number d) (class_number c) h in
    let p : same_class d Bra ≡ false = not-so (same_class d Bra) (λ t. b (number-Bra c (sym same ∙ eqb-true
    (class_number d) 0 t))) in
    let q : same_class d Ket ≡ false = not-so (same_class d Ket) (λ t. n (number-Ket c (sym same ∙ eqb-true
    (class_number d) 1 t))) in
    subst (λ (x : Bool). sized_by false x xs ys ≡ true) q (subst (λ (x : Bool). sized_by x
    (same_class d Ket) xs ys ≡ true) p e)
sized-word any_but_brackets c xs ys b n h e = e

-- every symbol has a size
shape-cons : (s : Sym) → IsCons (shape s)
unfolding shape
shape-cons Closing = tt
shape-cons _ = tt

-- a nullable symbol is a bottom symbol and has one size
pub record Empty (s : Sym) : Type 0 where
  pub last : is_bottom_symbol s ≡ true
  pub single : is_single (shape s) ≡ true

-- a nullable symbol has these properties, by its test
pub empty-parts : (s : Sym) → may_end_of s ≡ true → Empty s
unfolding ordered
empty-parts s h =
    let p = both-pass (list_all (entry_ordered s) (entries s) && begins_positive (shape s)) _ (all_ordered s) in
    let q = subst (λ (b : Bool). (not b || (is_bottom_symbol s && is_single (shape s))) ≡ true) h p.1 in
    let t = both-pass (is_bottom_symbol s) (is_single (shape s)) q in
    record { last = t.0; single = t.1 }

-- the stack below a symbol is in order
tidy-under : (s : Sym) (ss : List Sym) → tidy true (s ∷ ss) ≡ true → tidy true ss ≡ true
unfolding tidy
tidy-under s [] h = refl
tidy-under s (r ∷ ss) h = (both-pass (not (is_bottom_symbol s) || is_closing r) (tidy true (r ∷ ss)) h).1

-- what a table's moves keep in order: a rest replaces its symbol, by some test that takes the class
pub record GoodTake (s : Sym) (c : Class) (rest : List Sym) : Type 0 where
  pub kind : TokenTest
  pub takes : is_of_kind kind c ≡ true
  pub tidied : tidy (is_bottom_symbol s) rest ≡ true
  pub sized_so : sized kind (shapes rest) (shape s) ≡ true

-- a table whose Takes keep the order, whose skipped symbols are nullable, and whose closing bracket takes nothing else
pub record GoodMoves (moves : Sym → Class → TableEntry) : Type 0 where
  pub take : (s : Sym) (c : Class) (rest : List Sym) → moves s c ≡ Take rest → GoodTake s c rest
  pub skips : (s : Sym) (c : Class) → moves s c ≡ Skip → may_end_of s ≡ true
  pub closes : (c : Class) → c ≢ Ket → moves Closing c ≡ Stop

-- the table's own moves keep the order
pub table-take : (s : Sym) (c : Class) (rest : List Sym) → table_answer s c ≡ Take rest → GoodTake s c rest
unfolding table_answer
table-take s c rest a =
    let t = take-entry (entry_at c (entries s)) (may_end_of s) rest a in
    let o = ordered-entry s c t.0 t.1 in
    subst (GoodTake s c) t.2 (record {
      kind = t.0.kind;
      takes = find-takes c
          (entries s) t.0 t.1;
      tidied = o.tidied;
      sized_so = o.sized_so;
    })

-- the table entry made of one alternative that does not take the class
closed-by : (b : Bool) → b ≡ false → answer_by (this_or b (on Ket []) None) false ≡ Stop
closed-by true e = cc
closed-by false e = refl

-- the symbol of a closing bracket takes nothing else
table-closes : (c : Class) → c ≢ Ket → table_answer Closing c ≡ Stop
unfolding table_answer entries may_end_of
table-closes c n = closed-by (same_class Ket c) (not-so (same_class Ket c) (λ t. n (number-Ket c (sym (eqb-true 1
    (class_number c) t)))))

pub table-moves : GoodMoves table_answer
table-moves = record { take = table-take; skips = skip-ends; closes = table-closes }

-- the stack after a rest replaces the symbol
replaced-rest : (n m : ℕ) (s : Sym) (c : Class) (rest below : List Sym) → GoodTake s c rest → Ordered n (s ∷ below) →
    ((k : TokenTest) (xs : List ℕ) → IsCons xs → is_of_kind k c ≡ true → sized k xs (shape s) ≡ true → Fits (join (shape s)
    (shapes below)) (caps n) → Fits (join xs (shapes below)) (caps m)) →
    Ordered m (rest ++ below)
replaced-rest n m s c rest below t o go =
    record {
      sizes =
          subst (λ (w : List ℕ). Fits w (caps m)) (sym (shapes-append rest below)) (go t.kind (shapes rest)
          (shapes-cons rest) t.takes t.sized_so o.sizes);
      tidied = tidy-replaced s below rest t.tidied o.tidied;
    }

-- a start symbol alone has at most eight entries
start_symbol-sizes : (side : Side2) (level : Level) → Fits (shapes (start_symbol_of side level ∷ [])) (caps 0)
unfolding shape
start_symbol-sizes ClientSide l = (omega arith, tt)
start_symbol-sizes ServerSide l = (omega arith, tt)

-- a symbol alone is in order
tidy-alone : (s : Sym) → tidy true (s ∷ []) ≡ true
unfolding tidy
tidy-alone s = or-true (not (is_bottom_symbol s))

-- every reachable stack is in order
pub Lawful-ordered : {moves : Sym → Class → TableEntry} (g : GoodMoves moves) {n : ℕ} {ss : List Sym} →
    IsLawful moves ss n → Ordered n ss
Lawful-ordered g (start_symbol side level) =
    record { sizes = start_symbol-sizes side level; tidied = tidy-alone (start_symbol_of side level) }
Lawful-ordered g (word {n = n} {s = s} {rest = rest} {below = below} c b k m l) =
    replaced-rest n n s c rest below (g.take s _ rest m) (Lawful-ordered g l) (λ kind xs x a z f.
    Fits_trans (join xs (shapes below)) (join (shape s) (shapes below)) (caps n)
    (join-mono xs (shape s) (shapes below) (shapes below) (Fits-test xs (shape s) (sized-word kind c xs
    (shape s) b k a z)) (Fits_refl (shapes below))) f)
Lawful-ordered g (bra {n = n} {s = s} {rest = rest} {below = below} m l) =
    replaced-rest n (suc n) s Bra rest below (g.take s _ rest m) (Lawful-ordered g l) (λ kind xs x a z f.
    sizes-opened 5 xs (shape s) (shapes below) (caps n) (shape-cons s) (sized-Bra kind xs (shape s) a z) f)
Lawful-ordered g (ket {n = n} {s = s} {rest = rest} {below = below} m l) =
    replaced-rest (suc n) n s Ket rest below (g.take s _ rest m) (Lawful-ordered g l) (λ kind xs x a z f.
    sizes-closed 5 xs (shape s) (shapes below) (caps n) x (sized-Ket kind xs (shape s) a z) f)
Lawful-ordered g (skip {n = n} {s = s} {below = below} c m l) =
    let o = Lawful-ordered g l in
    let e = empty-parts s (g.skips s c m) in
    record {
      sizes = sizes-skipped (shape s) (shapes below) (caps n) e.single
          (shapes-cons below) o.sizes;
      tidied = tidy-under s below o.tidied;
    }
