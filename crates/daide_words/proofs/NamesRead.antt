-- The names of slots and operands: each is read, and no other.
use Rattle.std.proofs.Common.{◌⊎◌}
use Rattle.daide_words.proofs.Common.{◌≡◌, ℕ, Bool, true, false, List, codes, Option, Some, None, if◌then◌else◌, inl}
use Rattle.daide_words.proofs.Common.{inr, ◌↔◌, refl, ap, ◌∙◌, bytes_eq, bytes_eq-Decides, Slot, Operand}
use Rattle.daide_words.specs.declared.slot.Slot.TheVariants as slots
use Rattle.daide_words.specs.declared.operand.Operand.TheVariants as operands
use Rattle.daide_words.specs.WordNames.{operand_name, operand_named, slot_name, slot_named}

-- a name is the first of a list of names, or one of the others
module _ {V : Type 0} (name word : List ℕ) (here value : V) (others : Option V) where
  this_or_others : (if bytes_eq name word then Some here else others) ≡ Some value →
      ((name ≡ word) × (here ≡ value)) ⊎ (others ≡ Some value)
  this_or_others h = go (bytes_eq name word) refl h
    where
      go : (b : Bool) → bytes_eq name word ≡ b → (if b then Some here else others) ≡ Some value →
          ((name ≡ word) × (here ≡ value)) ⊎ (others ≡ Some value)
      go true e h = let same : here ≡ value = cc in inl ((bytes_eq-Decides name word).0 e, same)
      go false e h = inr h

slot_read : (name : List ℕ) (slot : Slot) → slot_named name ≡ Some slot → name ≡ slot_name slot
slot_read name slot h =
    elim (this_or_others name (codes "press") slots.Press slot
    (if bytes_eq name (codes "arrangement") then Some slots.Arrangement else None) h) [
      | inl a ↦ a.0 ∙ ap slot_name a.1
      | inr h ↦ elim (this_or_others name (codes "arrangement") slots.Arrangement slot None h) [
        | inl a ↦ a.0 ∙ ap slot_name a.1
        | inr h ↦ absurd cc
      ]
    ]

slot_back : (slot : Slot) → slot_named (slot_name slot) ≡ Some slot
slot_back slots.Press = refl
slot_back slots.Arrangement = refl

pub slot_names : (name : List ℕ) (slot : Slot) → (slot_named name ≡ Some slot) ↔ (name ≡ slot_name slot)
slot_names name slot = (slot_read name slot, λ same. ap slot_named same ∙ slot_back slot)

module _ (name : List ℕ) (operand : Operand) where
  abbrev is : Type 0
  is = name ≡ operand_name operand

  from_press : (if bytes_eq name (codes "press") then Some operands.Press else None) ≡ Some operand → is
  from_press h = elim (this_or_others name (codes "press") operands.Press operand None h) [
    | inl a ↦ a.0 ∙ ap operand_name a.1
    | inr h ↦ absurd cc
  ]

  abbrev after_order : Option Operand
  after_order =
      if bytes_eq name (codes "arrangement") then Some operands.Arrangement else
      if bytes_eq name (codes "press") then Some operands.Press else
      None

  from_arrangement : after_order ≡ Some operand → is
  from_arrangement h = elim (this_or_others name (codes "arrangement") operands.Arrangement operand _ h) [
    | inl a ↦ a.0 ∙ ap operand_name a.1
    | inr h ↦ from_press h
  ]

  abbrev after_provinces : Option Operand
  after_provinces = if bytes_eq name (codes "order") then Some operands.Order else after_order

  from_order : after_provinces ≡ Some operand → is
  from_order h = elim (this_or_others name (codes "order") operands.Order operand after_order h) [
    | inl a ↦ a.0 ∙ ap operand_name a.1
    | inr h ↦ from_arrangement h
  ]

  abbrev after_powers : Option Operand
  after_powers = if bytes_eq name (codes "provinces") then Some operands.Provinces else after_provinces

  from_provinces : after_powers ≡ Some operand → is
  from_provinces h = elim (this_or_others name (codes "provinces") operands.Provinces operand after_provinces h) [
    | inl a ↦ a.0 ∙ ap operand_name a.1
    | inr h ↦ from_order h
  ]

  abbrev after_power : Option Operand
  after_power = if bytes_eq name (codes "powers") then Some operands.Powers else after_powers

  from_powers : after_power ≡ Some operand → is
  from_powers h = elim (this_or_others name (codes "powers") operands.Powers operand after_powers h) [
    | inl a ↦ a.0 ∙ ap operand_name a.1
    | inr h ↦ from_provinces h
  ]

  operand_read : operand_named name ≡ Some operand → is
  operand_read h = elim (this_or_others name (codes "power") operands.Power operand after_power h) [
    | inl a ↦ a.0 ∙ ap operand_name a.1
    | inr h ↦ from_powers h
  ]

operand_back : (operand : Operand) → operand_named (operand_name operand) ≡ Some operand
operand_back operands.Power = refl
operand_back operands.Powers = refl
operand_back operands.Provinces = refl
operand_back operands.Order = refl
operand_back operands.Arrangement = refl
operand_back operands.Press = refl

pub operand_names : (name : List ℕ) (operand : Operand) → (operand_named name ≡ Some operand) ↔ (name ≡ operand_name operand)
operand_names name operand = (operand_read name operand, λ same. ap operand_named same ∙ operand_back operand)
