-- What is printed of a judgement, one text after another.
use Rattle.std.proofs.Common.{◌≡◌, ℕ, List, ◌++◌, Option, Some, None, Result, Ok, Err, OnOk, append_assoc, ap, refl, ◌∙◌}
use Rattle.std.specs.Io.KnownBytes.{Appends}

-- what is written in two parts
pub appends_both : (old mid new : Option (List ℕ)) (first second text : List ℕ) → Appends old mid first → Appends mid new second →
    second ≡ text → Appends old new (first ++ text)
appends_both None mid new first second text wrote next same = tt
appends_both (Some before) None new first second text wrote next same = absurd wrote
appends_both (Some before) (Some between) None first second text wrote next same = absurd next
appends_both (Some before) (Some between) (Some after) first second text wrote next same =
    next ∙ ap (λ (front : List ℕ). front ++ second) wrote ∙ append_assoc before first second
    ∙ ap (λ (rest : List ℕ). before ++ (first ++ rest)) same

-- what is written in three parts, and what is appended to a list in three parts
pub three_written : {E : Type 0} (result : Result (Unit {0}) E) (old one two new : Option (List ℕ)) (a b c : List ℕ) →
    Appends old one a → Appends one two b → OnOk result (Appends two new c) → OnOk result (Appends old new (a ++ (b ++ c)))
three_written (Ok done) old one two new a b c first second third =
    appends_both old one new a (b ++ c) _ first (appends_both one two new b c _ second third refl) refl
three_written (Err fault) old one two new a b c first second third = tt

pub three_appended : {E : Type 0} (result : Result (Unit {0}) E) (old one two new a b c : List ℕ) → one ≡ old ++ a →
    two ≡ one ++ b → OnOk result (new ≡ two ++ c) → OnOk result (new ≡ old ++ (a ++ (b ++ c)))
three_appended (Ok done) old one two new a b c first second third =
    third ∙ ap (λ (l : List ℕ). l ++ c) (second ∙ ap (λ (l : List ℕ). l ++ b) first) ∙ append_assoc (old ++ a) b c
    ∙ append_assoc old a (b ++ c)
three_appended (Err fault) old one two new a b c first second third = tt
