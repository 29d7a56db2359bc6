-- Names and tokens are inverse to each other: a row of the table is found by its token and by its name.
use Rattle.std.proofs.Common.{bytes_eq, nat_eq}
use Rattle.std.proofs.lemmas.Slice.Eq.{bytes_eq-Decides}
use Rattle.daide_token.proofs.Common.{◌≡◌, ◌==◌, ℕ, Bool, true, false, List, Option, Some, None, length, refl, sym, ap}
use Rattle.daide_token.proofs.Common.{◌∙◌, eqb-true, list_all, Named, name_of, names, token_named}
use Rattle.daide_token.proofs.TableLemmas.{found_passes}

-- whether a look-up found this token, or this name
abbrev is_token : Option ℕ → ℕ → Bool
is_token None t = false
is_token (Some u) t = u == t

abbrev pub is_name : Option (List ℕ) → List ℕ → Bool
is_name None name = false
is_name (Some other) name = bytes_eq other name

is_token-same : (o : Option ℕ) (t : ℕ) → is_token o t ≡ true → o ≡ Some t
is_token-same None t e = absurd (cc)
is_token-same (Some u) t e = ap Some (eqb-true u t e)

pub is_name-same : (o : Option (List ℕ)) (name : List ℕ) → is_name o name ≡ true → o ≡ Some name
is_name-same None name e = absurd (cc)
is_name-same (Some other) name e = ap Some ((bytes_eq-Decides other name).0 e)

-- whether the name of a row has its token, and the token its name
abbrev has_token : Named → Bool
has_token row = is_token (token_named row.1) row.0

abbrev pub has_name : Named → Bool
has_name row = is_name (name_of row.0) row.1

each_token_back : list_all has_token names ≡ true
unfolding names token_named
each_token_back = refl

pub each_name_back : list_all has_name names ≡ true
unfolding names name_of
each_name_back = refl

pub token_named-name_of : (t : ℕ) (name : List ℕ) → name_of t ≡ Some name → token_named name ≡ Some t
unfolding name_of
token_named-name_of t name e =
    found_passes (λ (row : Named). row.1) (λ row. row.0 == t) has_token names name each_token_back e
    (λ row same back here. ap token_named (sym here) ∙ is_token-same _ _ back ∙ ap Some (eqb-true _ _ same))

pub name_of-token_named : (name : List ℕ) (t : ℕ) → token_named name ≡ Some t → name_of t ≡ Some name
unfolding token_named
name_of-token_named name t e =
    found_passes (λ (row : Named). row.0) (λ row. bytes_eq row.1 name) has_name names t each_name_back e (
    λ row same back here. let letters = (bytes_eq-Decides row.1 name).0 same in
    ap name_of (sym here) ∙ is_name-same _ _ back ∙ ap Some letters
    )

-- each name has three letters
three_letters : list_all (λ (row : Named). nat_eq (length row.1) 3) names ≡ true
unfolding names
three_letters = refl

pub name_of-length : (t : ℕ) (name : List ℕ) → name_of t ≡ Some name → length name ≡ 3
unfolding name_of
name_of-length t name e =
    found_passes (λ (row : Named). row.1) (λ row. row.0 == t) (λ row. nat_eq (length row.1) 3) names name three_letters e
    (λ row same three here. ap length (sym here) ∙ eqb-true _ _ three)
