-- The protocol's own tokens and forms as a dialect: each class has a token, and there are no added words.
use Rattle.std.proofs.Common.{◌≡◌, ℕ, ◌<◌, true, Option, None, Some, refl, arith}
use Rattle.daide_token.specs.declared.class.Class.{Class}
use Rattle.daide_token.specs.declared.class.Class.TheVariants.{Word}
use Rattle.daide_token.specs.Class.{class_of, token_of, is_standard}
use Rattle.daide_token.proofs.ClassLaws.{class_of-token_of}
use Rattle.daide_grammar.specs.declared.level.Level.{Level}
use Rattle.daide_grammar.specs.Classes.{class_number, own_classes}
use Rattle.daide_grammar.specs.Forms.{Slot}
use Rattle.daide_grammar.specs.SideMessages.{standard}
use Rattle.daide_grammar.specs.Proofs.MovesAgree.{Proper, NoWord}

-- a class with a number below the words is a class of tokens
pub is_standard-below : (c : Class) → class_number c < own_classes → is_standard c ≡ true
is_standard-below (Word k) h = absurd (omega arith)
is_standard-below _ h = refl

-- a token of each class, except for added words
token_of_class : (c : Class) → class_number c < own_classes → (t : ℕ) × (class_of t ≡ c)
token_of_class c h = (token_of c, class_of-token_of c (is_standard-below c h))

-- there are no added forms, and each class has a token
pub standard-proper : Proper standard
standard-proper =
    record { not_empty = λ s l m. elim m [ ]; by_word = λ s l t w m. elim m [ ]; token_of = token_of_class }

-- no word is added anywhere
pub standard-words : (o : Option (Slot × Level)) (t : ℕ) → NoWord standard o t
standard-words None t = tt
standard-words (Some p) t = λ w m. elim m [ ]
