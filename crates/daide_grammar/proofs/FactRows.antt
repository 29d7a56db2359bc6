-- Facts about single messages, in the protocol's notation: the levels at which a side may send a message, computed by
-- following the table.
use Rattle.daide_grammar.proofs.Common.{◌≡◌, ℕ, ◌+◌, ◌*◌, ◌≤◌, ◌<◌, ◌==◌, nat_le, Bool, true, false, not, ◌&&◌, ◌||◌}
use Rattle.daide_grammar.proofs.Common.{List, [], ◌∷◌, ◌++◌, Option, None, Some, ◌↔◌, inl, inr, refl, sym, ◌∙◌, ap}
use Rattle.daide_grammar.proofs.Common.{subst, append-nil, arith, eqb-true, nat_tests, text_of, Level, L0, L10, L20}
use Rattle.daide_grammar.proofs.Common.{L30, L40, L50, L60, Side2, Sym, level_number, begins_with_prn, StackMatches}
use Rattle.daide_grammar.proofs.Common.{SymbolMatches, both-pass, no-yes, plain_begins}
use Prim.Native.String.{String}
use Rattle.std.proofs.Common.{codes, bytes_eq, ◌⊎◌}
use Rattle.std.proofs.lemmas.Slice.Eq.{bytes_eq-Decides}
use Rattle.daide_grammar.specs.Table.Symbols.{start_symbol_of}
use Rattle.daide_grammar.specs.SideMessages.{IsMessage}
use Rattle.daide_grammar.specs.Proofs.Alternatives.{either-passes}
use Rattle.daide_grammar.proofs.Languages.{start_symbol-language}
use Rattle.daide_grammar.proofs.LevelsGrow.{levels-only-add}
use Rattle.daide_grammar.proofs.MessageText.{tokens_of_text}
use Rattle.daide_grammar.proofs.Walks.{follows, follows-exactly}

-- a message in its text form, with the level from which a side may send it, or never
pub data Row : Type 0 where
  said_from : Side2 → Level → String → Row
  never_said : Side2 → String → Row

-- the statement of a row: the text is that of a message that the side may send at this level, at every higher one and
-- at no lower one; or at no level
abbrev pub Holds : Row → Type 0
Holds (said_from side from text) =
    (m : List ℕ) × (text_of m ≡ codes text)
    × ((level : Level) → (level_number from ≤ level_number level) ↔ IsMessage side level m)
Holds (never_said side text) = (m : List ℕ) × (text_of m ≡ codes text) × ((level : Level) → ¬ IsMessage side level m)

-- every row of a list holds
abbrev pub AllHold : List Row → Type 0
AllHold [] = Unit {0}
AllHold (row ∷ rows) = Holds row × AllHold rows

-- ---- the test of a row

-- whether the table follows the list from the start symbol to its end
abbrev is_followed : Side2 → Level → List ℕ → Bool
is_followed side l m = follows (start_symbol_of side l ∷ []) m

-- the next lower level; below L0 there is none
abbrev lower : Level → Level
lower L0 = L0
lower L10 = L0
lower L20 = L10
lower L30 = L20
lower L40 = L30
lower L50 = L40
lower L60 = L50

-- whether the text was read right, and is no report PRN, which the table does not cover
abbrev is_read : String → List ℕ → Bool
is_read text m = bytes_eq (text_of m) (codes text) && not (begins_with_prn m)

-- a message enters at a level if the table accepts it there and not at the next lower one; a message that L60 refuses
-- enters nowhere
abbrev enters_at : Side2 → Level → List ℕ → Bool
enters_at side l m = is_followed side l m && (level_number l == 0 || not (is_followed side (lower l) m))

abbrev is_right : Row → Bool
is_right (said_from side l text) = let m = tokens_of_text (codes text) in is_read text m && enters_at side l m
is_right (never_said side text) = let m = tokens_of_text (codes text) in is_read text m && not (is_followed side L60 m)

-- the row if its test fails, or else the first wrong one of the rest
abbrev if_wrong : Bool → Row → Option Row → Option Row
if_wrong true row rest = rest
if_wrong false row rest = Some row

-- the first wrong row
abbrev pub first_wrong : List Row → Option Row
first_wrong [] = None
first_wrong (row ∷ rows) = if_wrong (is_right row) row (first_wrong rows)

-- ---- a right row holds

-- the stack of one symbol has the language of the symbol
alone : (s : Sym) (m : List ℕ) → StackMatches SymbolMatches (s ∷ []) m ↔ SymbolMatches s m
alone s m = (
  λ h. subst (SymbolMatches s) (sym (h.2 ∙ (ap (λ x. h.0 ++ x) h.4 ∙ append-nil h.0))) h.3,
  λ h. (m, [], sym (append-nil m), h, refl),
)

-- a list that the table follows is a message
followed-said : (side : Side2) (l : Level) (m : List ℕ) → is_followed side l m ≡ true → IsMessage side l m
followed-said side l m e =
    let s = start_symbol_of side l in
    let walk = follows-exactly m (s ∷ []) (0, plain_begins side l) in
    ((start_symbol-language side l m).0 ((alone s m).0 (walk.0 e))).0

-- a list that it does not follow is no message, unless it begins with PRN
unfollowed-unsaid : (side : Side2) (l : Level) (m : List ℕ) → begins_with_prn m ≡ false → is_followed side l m ≡ false →
    ¬ IsMessage side l m
unfollowed-unsaid side l m n e h =
    let s = start_symbol_of side l in
    let walk = follows-exactly m (s ∷ []) (0, plain_begins side l) in
    no-yes (is_followed side l m) (walk.1 ((alone s m).1 ((start_symbol-language side l m).1 (h, n)))) e

-- no level is above L60
at-most-highest : (l : Level) → level_number l ≤ 60
at-most-highest L60 = omega arith
at-most-highest _ = omega arith

-- levels are ten apart
ten-apart : (low high : Level) → level_number low < level_number high → level_number low ≤ level_number (lower high)
ten-apart low high h =
    elim (next high) [ inl e ↦ omega (arith, h, e) | inr e ↦ omega (arith, h, e, (tens low).1, (tens high).1) ]
  where
    tens : (l : Level) → (k : ℕ) × (level_number l ≡ 10 * k)
    tens L0 = (0, refl)
    tens L10 = (1, refl)
    tens L20 = (2, refl)
    tens L30 = (3, refl)
    tens L40 = (4, refl)
    tens L50 = (5, refl)
    tens L60 = (6, refl)

    next : (l : Level) → (level_number l ≡ 0) ⊎ (level_number (lower l) + 10 ≡ level_number l)
    next L0 = inl refl
    next _ = inr refl

-- a test fails if its negation passes
opposite : (b : Bool) → not b ≡ true → b ≡ false
opposite true e = cc
opposite false e = refl

-- a message that enters at a level is one exactly from that level on
entered : (side : Side2) (from : Level) (m : List ℕ) → begins_with_prn m ≡ false → enters_at side from m ≡ true →
    (level : Level) → (level_number from ≤ level_number level) ↔ IsMessage side level m
entered side from m n e level =
    let p = both-pass (is_followed side from m) lowest_or_new e in (
      λ h. levels-only-add side from level m h (followed-said side from m p.0),
      λ said. at_least p.1 said (nat_le (level_number from) (level_number level)) refl,
    )
  where
    lowest_or_new : Bool
    lowest_or_new = level_number from == 0 || not (is_followed side (lower from) m)

    at_least : lowest_or_new ≡ true → IsMessage side level m → (b : Bool) →
        nat_le (level_number from) (level_number level) ≡ b → level_number from ≤ level_number level
    at_least f said true b = grind (arith, nat_tests, b)
    at_least f said false b =
        let less : level_number level < level_number from = grind (arith, nat_tests, b) in
        elim (either-passes (level_number from == 0) (not (is_followed side (lower from) m)) f) [
          | inl z ↦ omega (arith, less, eqb-true (level_number from) 0 z)
          | inr u ↦
              let none = unfollowed-unsaid side (lower from) m n (opposite (is_followed side (lower from) m) u) in
              absurd (none (levels-only-add side level (lower from) m (ten-apart level from less) said))
        ]

-- a list that is no message at L60 is none at any level
never : (side : Side2) (m : List ℕ) → begins_with_prn m ≡ false → not (is_followed side L60 m) ≡ true →
    (level : Level) → ¬ IsMessage side level m
never side m n e level said =
    let none = unfollowed-unsaid side L60 m n (opposite (is_followed side L60 m) e) in
    none (levels-only-add side level L60 m (at-most-highest level) said)

-- a text that was read right is the text of the message
read-right : (text : String) (m : List ℕ) → is_read text m ≡ true →
    (text_of m ≡ codes text) × (begins_with_prn m ≡ false)
read-right text m e =
    let p = both-pass (bytes_eq (text_of m) (codes text)) (not (begins_with_prn m)) e in
    ((bytes_eq-Decides (text_of m) (codes text)).0 p.0, opposite (begins_with_prn m) p.1)

-- a row whose test passes holds
right-holds : (row : Row) → is_right row ≡ true → Holds row
right-holds (said_from side from text) e =
    let m = tokens_of_text (codes text) in
    let p = both-pass (is_read text m) (enters_at side from m) e in
    let q = read-right text m p.0 in
    (m, q.0, entered side from m q.1 p.1)
right-holds (never_said side text) e =
    let m = tokens_of_text (codes text) in
    let p = both-pass (is_read text m) (not (is_followed side L60 m)) e in
    let q = read-right text m p.0 in
    (m, q.0, never side m q.1 p.1)

-- if no row is wrong, the first is right and none of the rest is wrong
none-wrong : (b : Bool) (row : Row) (rest : Option Row) → if_wrong b row rest ≡ None → (b ≡ true) × (rest ≡ None)
none-wrong true row rest e = (refl, e)
none-wrong false row rest e = cc

-- if no row is wrong, each row holds
pub rows-hold : (rows : List Row) → first_wrong rows ≡ None → AllHold rows
rows-hold [] e = tt
rows-hold (row ∷ rows) e =
    let p = none-wrong (is_right row) row (first_wrong rows) e in (right-holds row p.0, rows-hold rows p.1)
