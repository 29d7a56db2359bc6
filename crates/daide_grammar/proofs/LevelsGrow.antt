-- A message of a level is a message of every higher level. Each rule of the higher level has the alternatives of the
-- lower one, with forms of the higher level in place of those of the lower one.
use Rattle.daide_grammar.proofs.Common.{◌≡◌, ◌≤◌, ℕ, Bool, true, false, nat_le, List, inl, inr, refl, arith, nat_tests}
use Rattle.daide_grammar.proofs.Common.{Level, L10, L20, L30, L40, L60, Side2, level_number, rule, Matches, both, first}
use Rattle.daide_grammar.proofs.Common.{second, no_more, one_more, bracketed, by_name}
use Rattle.daide_grammar.specs.declared.side.Side2.TheVariants.{Client, ServerEnd}
use Rattle.daide_grammar.specs.Forms.{Form, never, ◌·◌, ◌∣◌, many, group, named, from_level, Dialect}
use Rattle.daide_grammar.specs.Forms.{Slot, Flat_slot, Arrangement_slot, Added}
use Rattle.daide_grammar.specs.Forms.{Nonterminal, Arrangement_name, Flat_name, Fact_name, Press_name, Send_name, Request_name}
use Rattle.daide_grammar.specs.Message.Arrangements.{joinable, simple, joined}
use Rattle.daide_grammar.specs.Message.Press.{asking_press}
use Rattle.daide_grammar.specs.Message.Server.{press_message}
use Rattle.daide_grammar.specs.SideMessages.{standard, message_form, IsMessageIn, IsMessage}

-- ---- forms that grow with the level

-- the first level is not above the second
infixl 20 ◌⊑◌
abbrev pub ◌⊑◌ : Level → Level → Type 0
low ⊑ high = level_number low ≤ level_number high

-- a slot of an operator's word that is contained in another
pub data SlotWithin : Slot → Slot → Type 0 where
  same_slot : {s : Slot} → SlotWithin s s
  flat_slot : SlotWithin Flat_slot Arrangement_slot

-- a name with a smaller language: the same name at a lower level, or a flat arrangement for any arrangement
pub data NameWithin : Nonterminal → Nonterminal → Type 0 where
  arrangements : {a b : Level} → a ⊑ b → NameWithin (Arrangement_name a) (Arrangement_name b)
  flats : {a b : Level} → a ⊑ b → NameWithin (Flat_name a) (Flat_name b)
  flat_arrangements : {a b : Level} → a ⊑ b → NameWithin (Flat_name a) (Arrangement_name b)
  facts : {a b : Level} → a ⊑ b → NameWithin (Fact_name a) (Fact_name b)
  presses : {a b : Level} → a ⊑ b → NameWithin (Press_name a) (Press_name b)
  sends : {a b : Level} → a ⊑ b → NameWithin (Send_name a) (Send_name b)
  requests : {a b : Level} → a ⊑ b → NameWithin (Request_name a) (Request_name b)
  words : {s t : Slot} {a b : Level} → SlotWithin s t → a ⊑ b → NameWithin (Added s a) (Added t b)

-- a form with the structure of another, except for names with smaller languages and missing alternatives
infixr 60 ◌··◌
infixr 55 ◌∣∣◌
pub data Within : Form → Form → Type 0 where
  same : {f : Form} → Within f f
  missing : {f : Form} → Within never f
  ◌··◌ : {f f' g g' : Form} → Within f f' → Within g g' → Within (f · g) (f' · g')
  ◌∣∣◌ : {f f' g g' : Form} → Within f f' → Within g g' → Within (f ∣ g) (f' ∣ g')
  and_one_more : {f f' g h k : Form} → Within f f' → Within g k → Within (f ∣ g) (f' ∣ h ∣ k)
  each : {f f' : Form} → Within f f' → Within (many f) (many f')
  inside : {f f' : Form} → Within f f' → Within (group f) (group f')
  name : {n n' : Nonterminal} → NameWithin n n' → Within (named n) (named n')

-- a word that is allowed in a slot at a level is allowed in every larger slot at every higher level
abbrev pub WordsGrow : Dialect → Type 0
WordsGrow d = (s t : Slot) (a b : Level) → SlotWithin s t → a ⊑ b → Within (d.added s a) (d.added t b)

-- ---- every rule is one of these forms

-- a form with a branch by level is contained in that of a higher level if each branch is, and the second is contained
-- in the first
by-level : (n : ℕ) (a b : Level) {f f' g g' : Form} → a ⊑ b → Within f g → Within f' g' → Within f' g →
    Within
    (elim (nat_le n (level_number a)) [ true ↦ f | false ↦ f' ])
    (elim (nat_le n (level_number b)) [ true ↦ g | false ↦ g' ])
by-level n a b {f} {f'} {g} {g'} h x y z =
    go (nat_le n (level_number a)) (nat_le n (level_number b)) (λ e. grind (arith, nat_tests, h, e))
  where
    go : (p q : Bool) → (p ≡ true → q ≡ true) →
        Within (elim p [ true ↦ f | false ↦ f' ]) (elim q [ true ↦ g | false ↦ g' ])
    go true true e = x
    go true false e = let no : false ≡ true = e refl in cc
    go false true e = z
    go false false e = y

-- a form that is allowed from a level on is allowed at every higher one
pub from_level-within : (x a b : Level) {f g : Form} → a ⊑ b → Within f g → Within (from_level x a f) (from_level x b g)
from_level-within x a b h k = by-level (level_number x) a b h k missing missing

-- an operand is a flat arrangement at low levels, and any arrangement at higher ones
operand-within : (a b : Level) → a ⊑ b → Within (joinable a) (joinable b)
operand-within a b h = by-level _ a b h (name (arrangements h)) (name (flats h)) (name (flat_arrangements h))

joined-within : (a b : Level) → a ⊑ b → Within (joined a) (joined b)
joined-within a b h =
    let operands = inside (operand-within a b h) in
    (same ·· operands ·· operands ·· each operands) ∣∣ (same ·· operands ·· operands ·· each operands)

simple-within : (a b : Level) {f g : Form} → a ⊑ b → Within f g → Within (simple a f) (simple b g)
simple-within a b h k =
    same ∣∣ same ∣∣ same ∣∣ same ∣∣ same ·· inside k ∣∣ from_level-within L20 a b h same ∣∣ from_level-within L40 a b h same

asking-within : (a b : Level) → a ⊑ b → Within (asking_press a) (asking_press b)
asking-within a b h =
    let arrangement = inside (name (arrangements h)) in
    let press = inside (name (presses h)) in
    same ·· arrangement
    ∣∣ same ·· arrangement
    ∣∣ same ·· arrangement
    ∣∣ same ·· inside (name (facts h))
    ∣∣ same ·· press
    ∣∣ same ·· press

press-message-within : (a b : Level) → a ⊑ b → Within (press_message a) (press_message b)
press-message-within a b h =
    let send = inside (name (sends h)) in
    same ·· same ·· same ·· inside (name (presses h)) ∣∣ same ·· same ·· send ∣∣ same ·· same ·· send

-- the rule of a name is contained in that of every larger name
rule-within : (d : Dialect) → WordsGrow d → {n n' : Nonterminal} → NameWithin n n' → Within (rule d n) (rule d n')
rule-within d grow (arrangements {a} {b} h) =
    simple-within a b h (name (arrangements h))
    ∣∣ from_level-within L30 a b h (joined-within a b h)
    ∣∣ name (words same_slot h)
rule-within d grow (flats {a} {b} h) = simple-within a b h (name (flats h)) ∣∣ name (words same_slot h)
rule-within d grow (flat_arrangements {a} {b} h) =
    and_one_more (simple-within a b h (name (flat_arrangements h))) (name (words flat_slot h))
rule-within d grow (facts {a} {b} h) =
    name (arrangements h)
    ∣∣ from_level-within L60 a b h (same ·· inside (name (arrangements h)) ∣∣ same ·· inside (name (facts h)))
rule-within d grow (presses {a} {b} h) =
    let arrangement = inside (name (arrangements h)) in
    let fact = inside (name (facts h)) in
    let press = inside (name (presses h)) in
    same ·· arrangement
    ∣∣ same ·· fact
    ∣∣ same
    ∣∣ same ·· press ∣∣ same ·· press ∣∣ same ·· press
    ∣∣ same
    ∣∣ from_level-within L60 a b h (asking-within a b h)
    ∣∣ name (words same_slot h)
rule-within d grow (sends h) = same ·· same ·· same ·· inside (name (presses h))
rule-within d grow (requests {a} {b} h) =
    same ∣∣ same ∣∣ same ∣∣ same ∣∣ same ∣∣ same ∣∣ same ∣∣ same ∣∣ same ∣∣ same
    ∣∣ same ∣∣ same ∣∣ same ∣∣ same ∣∣ same ∣∣ same ∣∣ same ∣∣ from_level-within L10 a b h (name (sends h))
rule-within d grow (words {s} {t} {a} {b} k h) = grow s t a b k h

-- and so are the forms of messages
message-within : (side : Side2) (a b : Level) → a ⊑ b → Within (message_form side a) (message_form side b)
message-within Client a b h = name (requests h) ∣∣ same
message-within ServerEnd a b h =
    let request = inside (name (requests h)) in
    same ∣∣ same ∣∣ same ∣∣ same ∣∣ same ∣∣ same ∣∣ same ∣∣ same ∣∣ same ∣∣ same
    ∣∣ same ·· request
    ∣∣ same ·· request
    ∣∣ same ∣∣ same ∣∣ same ∣∣ same ∣∣ same ∣∣ same ∣∣ same ∣∣ same ∣∣ same ∣∣ same
    ∣∣ from_level-within L10 a b h (press-message-within a b h)
    ∣∣ same

-- ---- a list that matches a form matches every form that contains it

matches-grow : (d : Dialect) → WordsGrow d → {f g : Form} {w : List ℕ} → Within f g → Matches d f w → Matches d g w
matches-grow d grow same m = m
matches-grow d grow missing m = elim m [ ]
matches-grow d grow (h ·· k) (both m n) = both (matches-grow d grow h m) (matches-grow d grow k n)
matches-grow d grow (h ∣∣ k) (first m) = first (matches-grow d grow h m)
matches-grow d grow (h ∣∣ k) (second m) = second (matches-grow d grow k m)
matches-grow d grow (and_one_more h k) (first m) = first (matches-grow d grow h m)
matches-grow d grow (and_one_more h k) (second m) = second (second (matches-grow d grow k m))
matches-grow d grow (each h) no_more = no_more
matches-grow d grow (each h) (one_more m n) = one_more (matches-grow d grow h m) (matches-grow d grow (each h) n)
matches-grow d grow (inside h) (bracketed b k o m c) = bracketed b k o (matches-grow d grow h m) c
matches-grow d grow (name h) (by_name m) = by_name (matches-grow d grow (rule-within d grow h) m)

-- in a dialect whose words grow, a message of a level is one of every higher level
pub message-grows : (d : Dialect) → WordsGrow d → (side : Side2) (a b : Level) (m : List ℕ) → a ⊑ b →
    IsMessageIn d side a m → IsMessageIn d side b m
message-grows d grow side a b m h (inl report) = inl report
message-grows d grow side a b m h (inr f) = inr (matches-grow d grow (message-within side a b h) f)

-- and so in the protocol's own dialect, which has no words
pub levels-only-add : (side : Side2) (low high : Level) (m : List ℕ) → level_number low ≤ level_number high →
    IsMessage side low m → IsMessage side high m
levels-only-add = message-grows standard (λ s t a b k h. missing)
