-- The definitions at single messages with an operator's words: XYZ, a press about a power from level 20 on, and QQQ, an
-- arrangement about an arrangement from level 30 on. Worked out from the meaning of a word.
use Rattle.daide_grammar.proofs.Common.{◌≡◌, ℕ, List, [], ◌∷◌, ◌++◌, inr, refl, nat_le, true, class_of, Level}
use Rattle.daide_grammar.proofs.Common.{level_number, L10, L20, L30, L50, Matches, token, nothing, both, first, second}
use Rattle.daide_grammar.proofs.Common.{no_more, one_more, bracketed, by_name}
use Rattle.daide_grammar.specs.declared.side.Side2.TheVariants.{Client}
use Rattle.daide_grammar.specs.Forms.{Dialect, Form, Press_slot, Arrangement_slot, Flat_slot, Added, Press_name}
use Rattle.daide_grammar.specs.Forms.{Arrangement_name, Flat_name, Send_name, Request_name, group, some, from_level}
use Rattle.daide_grammar.specs.Message.Lists.{power, words}
use Rattle.daide_grammar.specs.Message.Arrangements.{arrangement, flat_arrangement}
use Rattle.daide_grammar.specs.Message.Press.{press, send}
use Rattle.daide_grammar.specs.Words.{Words, press_word, arrangement_word, one_power, an_arrangement}
use Rattle.daide_grammar.specs.SideMessages.{standard, dialect_of, IsMessage, IsMessageOver}

abbrev XYZ : ℕ
XYZ = 0x4A40

abbrev QQQ : ℕ
QQQ = 0x4A41

abbrev BRA : ℕ
BRA = 0x4000

abbrev KET : ℕ
KET = 0x4001

abbrev ENG : ℕ
ENG = 0x4101

abbrev FRA : ℕ
FRA = 0x4102

abbrev DRW : ℕ
DRW = 0x4801

abbrev SND : ℕ
SND = 0x4817

abbrev AND : ℕ
AND = 0x4A01

abbrev PRP : ℕ
PRP = 0x4A13

abbrev TRY : ℕ
TRY = 0x4A1A

abbrev added : Words
added =
    record { code = XYZ; slot = press_word; level = L20; operand = one_power }
    ∷ record { code = QQQ; slot = arrangement_word; level = L30; operand = an_arrangement }
    ∷ []

abbrev d : Dialect
d = dialect_of added

-- with no words the dialect is the standard one
no_words : (dialect_of [] ≡ standard) × (IsMessageOver [] ≡ IsMessage)
no_words = (refl, refl)

-- a list in brackets
in_brackets : (f : Form) (u : List ℕ) → Matches d f u → Matches d (group f) (BRA ∷ (u ++ KET ∷ []))
unfolding class_of
in_brackets f u m = bracketed {u = u} BRA KET refl m refl

-- a power in brackets
to_a_power : (p : ℕ) → Matches d power (p ∷ []) → Matches d (group (some power)) (BRA ∷ p ∷ KET ∷ [])
to_a_power p m = in_brackets (some power) (p ∷ []) (both {u = p ∷ []} {v = []} m no_more)

-- SND ( FRA ) ( press )
abbrev sent : List ℕ → List ℕ
sent p = SND ∷ BRA ∷ FRA ∷ KET ∷ BRA ∷ (p ++ KET ∷ [])

send_of : (l : Level) (p : List ℕ) → Matches d (press l) p → Matches d (send l) (sent p)
unfolding class_of
send_of l p m = by_name {n = Send_name l}
    (both {u = SND ∷ []} {v = BRA ∷ FRA ∷ KET ∷ BRA ∷ (p ++ KET ∷ [])} (token refl)
    (both {u = []} {v = BRA ∷ FRA ∷ KET ∷ BRA ∷ (p ++ KET ∷ [])} (first nothing)
    (both {u = BRA ∷ FRA ∷ KET ∷ []} {v = BRA ∷ (p ++ KET ∷ [])} (to_a_power FRA (token refl))
    (in_brackets (press l) p m))))

-- a form from a level on, at that level or a higher one
reached : (a l : Level) (f : Form) (w : List ℕ) → nat_le (level_number a) (level_number l) ≡ true → Matches d f w →
    Matches d (from_level a l f) w
reached a l f w e m = rw (e, from_level) m

-- as a request, the last alternative of the form
request_of : (l : Level) (p : List ℕ) → nat_le 10 (level_number l) ≡ true → Matches d (press l) p →
    IsMessageOver added Client l (sent p)
request_of l p e m = inr (first (by_name {n = Request_name l}
    (second (second (second (second
    (second (second (second (second (second (second (second (second (second (second (second (second (second
    (reached L10 l (send l) (sent p) e (send_of l p m)))))))))))))))))))))

-- ---- the word of a press

-- XYZ ( ENG ), from 20 on
a_press_word : IsMessageOver added Client L20 (sent (XYZ ∷ BRA ∷ ENG ∷ KET ∷ []))
unfolding class_of
a_press_word = request_of L20 _ refl (by_name {n = Press_name L20}
    (second (second (second (second (second (second (second (second
    (by_name {n = Added Press_slot L20} (first (both {u = XYZ ∷ []} {v = BRA ∷ ENG ∷ KET ∷ []} (token refl)
    (in_brackets power (ENG ∷ []) (token refl))))))))))))))

-- in a list of free words it is allowed at any level: TRY ( XYZ )
a_free_word : IsMessageOver added Client L10 (sent (TRY ∷ BRA ∷ XYZ ∷ KET ∷ []))
unfolding class_of
a_free_word = request_of L10 _ refl (by_name {n = Press_name L10}
    (second (second (first (both {u = TRY ∷ []} {v = BRA ∷ XYZ ∷ KET ∷ []} (token refl)
    (in_brackets words (XYZ ∷ []) (one_more {u = XYZ ∷ []} {v = []} (token (λ e. cc, λ e. cc)) no_more)))))))

-- ---- the word of an arrangement

drawn : (l : Level) → Matches d (arrangement l) (DRW ∷ [])
unfolding class_of
drawn l = by_name {n = Arrangement_name l} (first (second (second (first
    (both {u = DRW ∷ []} {v = []} (token refl) (first nothing))))))

drawn_flat : (l : Level) → Matches d (flat_arrangement l) (DRW ∷ [])
unfolding class_of
drawn_flat l = by_name {n = Flat_name l} (first (second (second (first
    (both {u = DRW ∷ []} {v = []} (token refl) (first nothing))))))

-- AND ( x ) ( y )
abbrev both_of : List ℕ → List ℕ → List ℕ
both_of x y = AND ∷ BRA ∷ (x ++ KET ∷ BRA ∷ (y ++ KET ∷ []))

-- QQQ ( x )
abbrev q : List ℕ → List ℕ
q x = QQQ ∷ BRA ∷ (x ++ KET ∷ [])

-- AND ( DRW ) ( DRW ) is an arrangement of level 50, and so is QQQ around it
and_50 : Matches d (arrangement L50) (both_of (DRW ∷ []) (DRW ∷ []))
unfolding class_of
and_50 = by_name {n = Arrangement_name L50} (second (first (first
    (both {u = AND ∷ []} {v = BRA ∷ DRW ∷ KET ∷ BRA ∷ DRW ∷ KET ∷ []} (token refl)
    (both {u = BRA ∷ DRW ∷ KET ∷ []} {v = BRA ∷ DRW ∷ KET ∷ []} (in_brackets (arrangement L50) (DRW ∷ []) (drawn L50))
    (both {u = BRA ∷ DRW ∷ KET ∷ []} {v = []} (in_brackets (arrangement L50) (DRW ∷ []) (drawn L50)) no_more))))))

word_50 : Matches d (arrangement L50) (q (both_of (DRW ∷ []) (DRW ∷ [])))
unfolding class_of
word_50 = by_name {n = Arrangement_name L50} (second (second (by_name {n = Added Arrangement_slot L50} (second (first
    (both {u = QQQ ∷ []} {v = BRA ∷ (both_of (DRW ∷ []) (DRW ∷ []) ++ KET ∷ [])} (token refl)
    (in_brackets (arrangement L50) (both_of (DRW ∷ []) (DRW ∷ [])) and_50)))))))

-- QQQ ( DRW ) is flat, since DRW is: an operand of AND at level 30
flat_word : Matches d (flat_arrangement L30) (q (DRW ∷ []))
unfolding class_of
flat_word = by_name {n = Flat_name L30} (second (by_name {n = Added Flat_slot L30} (second (first
    (both {u = QQQ ∷ []} {v = BRA ∷ DRW ∷ KET ∷ []} (token refl)
    (in_brackets (flat_arrangement L30) (DRW ∷ []) (drawn_flat L30)))))))

-- PRP ( AND ( QQQ ( DRW ) ) ( DRW ) ) at 30
a_flat_operand : IsMessageOver added Client L30 (sent (PRP ∷ BRA ∷ (both_of (q (DRW ∷ [])) (DRW ∷ []) ++ KET ∷ [])))
unfolding class_of
a_flat_operand = request_of L30 _ refl (by_name {n = Press_name L30} (first
    (both {u = PRP ∷ []} {v = BRA ∷ (both_of (q (DRW ∷ [])) (DRW ∷ []) ++ KET ∷ [])} (token refl)
    (in_brackets (arrangement L30) (both_of (q (DRW ∷ [])) (DRW ∷ []))
    (by_name {n = Arrangement_name L30} (second (first (first
    (both {u = AND ∷ []} {v = BRA ∷ (q (DRW ∷ []) ++ KET ∷ BRA ∷ DRW ∷ KET ∷ [])} (token refl)
    (both {u = BRA ∷ (q (DRW ∷ []) ++ KET ∷ [])} {v = BRA ∷ DRW ∷ KET ∷ []}
    (in_brackets (flat_arrangement L30) (q (DRW ∷ [])) flat_word)
    (both {u = BRA ∷ DRW ∷ KET ∷ []} {v = []}
    (in_brackets (flat_arrangement L30) (DRW ∷ []) (drawn_flat L30)) no_more)))))))))))

-- PRP ( AND ( QQQ ( AND ( DRW ) ( DRW ) ) ) ( DRW ) ) at 50
an_operand_that_nests : IsMessageOver added Client L50
    (sent (PRP ∷ BRA ∷ (both_of (q (both_of (DRW ∷ []) (DRW ∷ []))) (DRW ∷ []) ++ KET ∷ [])))
unfolding class_of
an_operand_that_nests = request_of L50 _ refl (by_name {n = Press_name L50} (first
    (both {u = PRP ∷ []} {v = BRA ∷ (both_of (q (both_of (DRW ∷ []) (DRW ∷ []))) (DRW ∷ []) ++ KET ∷ [])} (token refl)
    (in_brackets (arrangement L50) (both_of (q (both_of (DRW ∷ []) (DRW ∷ []))) (DRW ∷ []))
    (by_name {n = Arrangement_name L50} (second (first (first
    (both {u = AND ∷ []} {v = BRA ∷ (q (both_of (DRW ∷ []) (DRW ∷ [])) ++ KET ∷ BRA ∷ DRW ∷ KET ∷ [])} (token refl)
    (both {u = BRA ∷ (q (both_of (DRW ∷ []) (DRW ∷ [])) ++ KET ∷ [])} {v = BRA ∷ DRW ∷ KET ∷ []}
    (in_brackets (arrangement L50) (q (both_of (DRW ∷ []) (DRW ∷ []))) word_50)
    (both {u = BRA ∷ DRW ∷ KET ∷ []} {v = []}
    (in_brackets (arrangement L50) (DRW ∷ []) (drawn L50)) no_more)))))))))))
