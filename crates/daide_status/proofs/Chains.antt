-- What calls appended one after another, unless memory was refused.
use Rattle.std.proofs.Common.{◌≡◌, ℕ, ◌++◌, List, Result, Ok, Err, Vec, OnOk, OnErr, ap, ◌∙◌, append_assoc}
use Rattle.daide_causes.specs.Causes.{WasRefused}
use Rattle.daide_status.specs.Pieces.{AppendsOrRefused}

pub chained : (old a b m n : List ℕ) → m ≡ old ++ a → n ≡ m ++ b → n ≡ old ++ (a ++ b)
chained old a b m n first second = second ∙ ap (λ t. t ++ b) first ∙ append_assoc old a b

-- a last call after calls that succeeded
pub then_last : {A E : Type 0} (Refuses : ℕ → Type 0) (old m n : Vec ℕ A) (result : Result (Unit {0}) E) (a b : List ℕ) →
    m.items ≡ old.items ++ a → AppendsOrRefused Refuses m n result b → AppendsOrRefused Refuses old n result (a ++ b)
then_last Refuses old m n (Ok done) a b first second = chained old.items a b m.items n.items first second
then_last Refuses old m n (Err fault) a b first second = second

-- one call of the allocator's
pub appended_as : {A E : Type 0} (Refuses : ℕ → Type 0) (old new : Vec ℕ A) (result : Result (Unit {0}) E) (a b : List ℕ) →
    OnOk result (new.items ≡ old.items ++ a) → OnErr result (WasRefused Refuses) → a ≡ b → AppendsOrRefused Refuses old new result b
appended_as Refuses old new (Ok done) a b appended refused same = appended ∙ ap (λ t. old.items ++ t) same
appended_as Refuses old new (Err fault) a b appended refused same = refused
