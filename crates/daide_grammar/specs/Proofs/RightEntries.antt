-- A test that the entries of a symbol are right, and its meaning.
use Rattle.std.proofs.Common.{Bool, true, false, not, ◌&&◌, nat_lt, List, [], ◌∷◌, ◌++◌, Option, Some, None, IsTrue}
use Rattle.std.proofs.Common.{refl}
use Rattle.std.specs.Bool.{beq}
use Rattle.std.specs.List.{list_any, list_all}
use Rattle.daide_grammar.specs.declared.symbol.Sym.{Sym}
use Rattle.daide_grammar.specs.declared.level.Level.{Level}
use Rattle.daide_grammar.specs.declared.level.Level.TheVariants.{L60}
use Rattle.daide_grammar.specs.declared.symbol.Sym.TheVariants.{PressGroup, ArrangementGroup, FactGroup, OperandGroup}
use Rattle.daide_grammar.specs.declared.symbol.Sym.TheVariants.{RequestGroup, SendGroup, Request, Client, SendTail}
use Rattle.daide_grammar.specs.declared.symbol.Sym.TheVariants.{SendFirst, Send, MaybeSendGroup, Server, Press}
use Rattle.daide_grammar.specs.declared.symbol.Sym.TheVariants.{Arrangement, Operand, Operands, Fact}
use Rattle.daide_grammar.specs.Classes.{class_number, own_classes, same_class}
use Rattle.daide_grammar.specs.Forms.{TokenTest, is, any_but_brackets, Slot, Press_slot, Arrangement_slot, Flat_slot, Added}
use Rattle.daide_grammar.specs.Forms.{Form, named, Dialect}
use Rattle.daide_grammar.specs.Table.Symbols.{form_of, Alternative, entries, forms, may_end_of, slot_of}
use Rattle.daide_grammar.specs.Table.Symbols.{is_of_kind}
use Rattle.daide_grammar.specs.Proofs.Reading.{FirstItem, starts, ends, unopened, heads}
use Rattle.daide_grammar.specs.Proofs.Reading
use Rattle.daide_grammar.specs.Proofs.Alternatives.{same_level, same_kind, parts_all, covers}
use Rattle.daide_grammar.specs.Proofs.Alternatives

-- the first alternatives before the others if the test passes
abbrev pub if_same : Bool → List (List Form) → List (List Form) → List (List Form)
if_same true ps qs = ps ++ qs
if_same false ps qs = qs

-- the alternatives after a token that passes the test
unfoldable pub after : TokenTest → List FirstItem → List (List Form)
after k [] = []
after k (starts m fs ∷ hs) = if_same (same_kind m k) (parts_all fs) (after k hs)
after k (ends ∷ hs) = after k hs
after k (unopened fs ∷ hs) = after k hs

-- no token passes both tests
abbrev pub apart : TokenTest → TokenTest → Bool
apart (is c) (is d) = not (same_class c d)
apart (is c) any_but_brackets = not (is_of_kind any_but_brackets c)
apart any_but_brackets (is c) = not (is_of_kind any_but_brackets c)
apart any_but_brackets any_but_brackets = false

-- whether the tests of the entries are pairwise apart
unfoldable pub all_apart : List Alternative → Bool
all_apart [] = true
all_apart (e ∷ es) = list_all (λ f. apart e.kind f.kind) es && all_apart es

-- whether two slots are the same
abbrev pub same_slot : Slot → Slot → Bool
same_slot Press_slot Press_slot = true
same_slot Arrangement_slot Arrangement_slot = true
same_slot Flat_slot Flat_slot = true
same_slot _ _ = false

-- only the added words of the slot
unfoldable pub is_added : Option (Slot × Level) → List Form → Bool
is_added (Some p) (named (Added s l) ∷ []) = same_slot s p.0 && same_level l p.1
is_added _ _ = false

-- a head is that of an entry, or the end, or an added word
unfoldable pub known : Option (Slot × Level) → List Alternative → FirstItem → Bool
known o es (starts k fs) = list_any (λ e. same_kind k e.kind) es
known o es ends = true
known o es (unopened fs) = is_added o fs

-- an entry is right if its rest and the alternatives after its token cover each other
unfoldable pub entry_right : List FirstItem → Alternative → Bool
entry_right hs e =
    let rest = parts_all (forms e.rest) in
    let next = after e.kind hs in
    covers rest next && covers next rest

-- whether a head is the end
abbrev pub is_end_marker : FirstItem → Bool
is_end_marker ends = true
is_end_marker _ = false

-- whether a head is unopened
abbrev pub is_unopened : FirstItem → Bool
is_unopened (unopened fs) = true
is_unopened _ = false

-- the test of one of the standard's own classes
abbrev pub is_plain : TokenTest → Bool
is_plain (is c) = nat_lt (class_number c) own_classes
is_plain any_but_brackets = false

-- if words may be added, they are among the heads, and no entry takes them
unfoldable pub added_right : Option (Slot × Level) → List Alternative → List FirstItem → Bool
added_right None es hs = true
added_right (Some p) es hs = list_any is_unopened hs && list_all (λ e. is_plain e.kind) es

-- whether a symbol with these entries and heads is right: each entry is right, each head is known, the tests are apart,
-- and the nullable flag agrees
unfoldable pub right_by : Option (Slot × Level) → Bool → List Alternative → List FirstItem → Bool
right_by o b es hs =
    (((list_all (entry_right hs) es && list_all (known o es) hs) && all_apart es) && beq (list_any is_end_marker hs) b)
    && added_right o es hs

-- whether a symbol of the table is right
unfoldable pub agrees_with_first : Dialect → Sym → Bool
agrees_with_first d s = right_by (slot_of s) (may_end_of s) (entries s) (heads d 60 (form_of s ∷ []))

-- A test that computes: every symbol of the table is right, whatever words are added. The clause of a symbol names a
-- wrong entry.
pub all_right : (d : Dialect) (s : Sym) → IsTrue (agrees_with_first d s)
unfolding agrees_with_first right_by added_right slot_of entry_right known is_added all_apart after entries form_of may_end_of
    Reading.heads Reading.opened Alternatives.parts_all Alternatives.parts Alternatives.name_parts Alternatives.product
    Alternatives.covers Alternatives.below_all Alternatives.below Alternatives.name_below
all_right d (PressGroup L60) = refl
all_right d (ArrangementGroup L60) = refl
all_right d (FactGroup L60) = refl
all_right d (OperandGroup L60) = refl
all_right d (RequestGroup L60) = refl
all_right d (SendGroup L60) = refl
all_right d (Request L60) = refl
all_right d (Client L60) = refl
all_right d (SendTail L60) = refl
all_right d (SendFirst L60) = refl
all_right d (Send L60) = refl
all_right d (MaybeSendGroup L60) = refl
all_right d (Server L60) = refl
all_right d (Press L60) = refl
all_right d (Arrangement L60) = refl
all_right d (Operand L60) = refl
all_right d (Operands L60) = refl
all_right d (Fact L60) = refl
all_right d _ = refl
