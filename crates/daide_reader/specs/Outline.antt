-- What a reader keeps of the ends of a message. (own)
use Rattle.std.specs.Prelude.{Option, ◌≡◌, ℕ, ◌+◌, ◌==◌, ◌&&◌, nat_le, Bool, false, List, [], ◌∷◌, length, reverse}
use Rattle.std.specs.Prelude.{drop, if◌then◌else◌}
use Rattle.daide_token.specs.Token.{prn}
use Rattle.daide_grammar.specs.Paired.{begins_with_prn}
use Rattle.daide_grammar.specs.Table.Brackets.{is_bra, is_ket, count_one}
use Rattle.daide_reader.specs.declared.outline.Outline.{Outline}

-- the token is PRN
abbrev pub is_prn : ℕ → Bool
is_prn t = t == prn

-- the list has a first token, and it passes the test
abbrev pub first_is : (ℕ → Bool) → List ℕ → Bool
first_is test [] = false
first_is test (t ∷ m) = test t

-- the outline of these tokens
pub record IsOutlineOf (o : Outline) (p : List ℕ) : Type 0 where
  pub tokens : o.tokens ≡ length p
  pub begins : o.is_prn ≡ begins_with_prn p
  pub second : o.second_is_bra ≡ first_is is_bra (drop 1 p)
  pub last : o.last_is_ket ≡ first_is is_ket (reverse p)

-- the outline with one more token
abbrev pub with_token : Outline → ℕ → Outline
with_token o t = record {
  tokens = o.tokens + 1;
  is_prn = if o.tokens == 0 then is_prn t else o.is_prn;
  second_is_bra = if o.tokens == 1 then is_bra t else o.second_is_bra;
  last_is_ket = is_ket t;
}

-- brackets enclose everything after the first token
abbrev pub has_outer_brackets : Outline → Bool
has_outer_brackets o = nat_le 3 o.tokens && o.second_is_bra && o.last_is_ket

-- the outline of some tokens
abbrev pub outline_of : List ℕ → Outline
outline_of p = record {
  tokens = length p;
  is_prn = begins_with_prn p;
  second_is_bra = first_is is_bra (drop 1 p);
  last_is_ket = first_is is_ket (reverse p);
}

-- the outline of all tokens of a message, from that of its first ones
abbrev pub outline_on : Outline → List ℕ → Outline
outline_on o m = record {
  tokens = length m;
  is_prn = if o.tokens == 0 then begins_with_prn m else o.is_prn;
  second_is_bra = first_is is_bra (drop 1 m);
  last_is_ket = first_is is_ket (reverse m);
}

-- the open brackets after more tokens
abbrev pub count_all : Option ℕ → List ℕ → Option ℕ
count_all unclosed [] = unclosed
count_all unclosed (t ∷ q) = count_all (count_one (is_bra t) (is_ket t) unclosed) q
