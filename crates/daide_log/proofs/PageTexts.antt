-- A text that is appended to a page byte by byte.
use Rattle.daide_log.proofs.Common.{◌≡◌, ℕ, Bool, List, [], ◌∷◌, ◌++◌, length, Option, refl, sym, ap, ◌∙◌, subst}
use Rattle.daide_log.proofs.Common.{append_assoc, append-nil, ◌≤◌, ◌-◌, true, take, drop, get_or, arith, ◌==◌, Appends}
use Rattle.daide_frame.proofs.ListLemmas.{take_whole}
use Rattle.daide_log.specs.Explained.{indented, indented_byte, indented_from}
use Rattle.daide_log.proofs.PlayLemmas.{appends_more, appends_none}

-- a prefix of the text is written, and this is left
pub record Puts (a b : Option (List ℕ)) (all left : List ℕ) : Type 0 where
  pub done : List ℕ
  pub whole : done ++ left ≡ all
  pub text : Appends a b done

pub puts_none : (a : Option (List ℕ)) (all : List ℕ) → Puts a a all all
puts_none a all = record { done = []; whole = refl; text = appends_none a }

pub puts_more : (a b c : Option (List ℕ)) (all left more after : List ℕ) → Puts a b all left → left ≡ more ++ after →
    Appends b c more → Puts a c all after
puts_more a b c all left more after p e w = record {
  done = p.done ++ more;
  whole = append_assoc p.done more after ∙ ap (λ (l : List ℕ). p.done ++ l) (sym e) ∙ p.whole;
  text = appends_more a b c p.done more p.text w;
}

pub puts_all : (a b : Option (List ℕ)) (all left : List ℕ) → Puts a b all left → left ≡ [] → Appends a b all
puts_all a b all left p e =
    subst (Appends a b) (sym (append-nil p.done) ∙ ap (λ (l : List ℕ). p.done ++ l) (sym e) ∙ p.whole) p.text

-- ---- one byte of a slice at a time

pub puts_next : (a b c : Option (List ℕ)) (all rest : List ℕ) (n : ℕ) → Puts a b all rest → 1 ≤ length rest →
    length rest - 1 ≤ n → Appends b c (get_or rest 0 0 ∷ []) → Puts a c all (take n (drop 1 rest))
puts_next a b c all [] n p some long w = absurd (omega arith)
puts_next a b c all (x ∷ rest) n p some long w =
    subst (Puts a c all) (sym (take_whole n rest (omega (arith, long))))
    (puts_more a b c all (x ∷ rest) (x ∷ []) rest p refl w)

pub puts_in_line : (a b c : Option (List ℕ)) (all rest : List ℕ) (begins : Bool) (n : ℕ) →
    Puts a b all (indented_from begins rest) → 1 ≤ length rest → length rest - 1 ≤ n →
    Appends b c (indented_byte begins (get_or rest 0 0)) →
    Puts a c all (indented_from (get_or rest 0 0 == 10) (take n (drop 1 rest)))
puts_in_line a b c all [] begins n p some long w = absurd (omega arith)
puts_in_line a b c all (x ∷ rest) begins n p some long w =
    subst (λ (l : List ℕ). Puts a c all (indented_from (x == 10) l)) (sym (take_whole n rest (omega (arith, long))))
    (puts_more a b c all (indented_from begins (x ∷ rest)) (indented_byte begins x) (indented_from (x == 10) rest) p refl w)

pub puts_indented : (a : Option (List ℕ)) (text : List ℕ) → Puts a a (indented text) (indented_from true text)
unfolding indented
puts_indented a text = puts_none a (indented_from true text)
