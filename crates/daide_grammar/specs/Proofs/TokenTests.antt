-- The test of a token, as the table computes it, accepts what it means.
use Rattle.std.proofs.Common.{◌≡◌, ◌≢◌, Bool, true, false, not, ◌&&◌, sym, ◌∙◌, refl}
use Rattle.daide_token.specs.declared.class.Class.{Class}
use Rattle.daide_token.specs.declared.class.Class.TheVariants.{Bra, Ket}
use Rattle.daide_token.proofs.ClassNumbers.{told-apart}
use Rattle.daide_grammar.specs.Classes.{same_class}
use Rattle.daide_grammar.specs.Forms.{TokenTest, is, any_but_brackets, Accepts}
use Rattle.daide_grammar.specs.Table.Symbols.{is_of_kind}

both_fail : (a b : Bool) → (not a && not b) ≡ true → (a ≡ false) × (b ≡ false)
both_fail true b h = absurd (cc)
both_fail false true h = absurd (cc)
both_fail false false h = (refl, refl)

neither : (a b : Bool) → (a ≡ true → ⊥) → (b ≡ true → ⊥) → (not a && not b) ≡ true
neither true b f g = absurd (f refl)
neither false true f g = absurd (g refl)
neither false false f g = refl

fails : (a : Bool) → a ≡ false → a ≡ true → ⊥
fails a e h = absurd (let f : true ≡ false = sym h ∙ e in cc)

differs : (a c : Class) → same_class a c ≡ false → c ≢ a
differs a c h e = fails (same_class a c) h ((told-apart a c).1 (sym e))

-- if the computed test passes, the test accepts the class
pub accepted : (k : TokenTest) (c : Class) → is_of_kind k c ≡ true → Accepts k c
accepted (is a) c h = sym ((told-apart a c).0 h)
accepted any_but_brackets c h =
    let p = both_fail (same_class Bra c) (same_class Ket c) h in (differs Bra c p.0, differs Ket c p.1)

-- and conversely
pub passed : (k : TokenTest) (c : Class) → Accepts k c → is_of_kind k c ≡ true
passed (is a) c e = (told-apart a c).1 (sym e)
passed any_but_brackets c h =
    neither (same_class Bra c) (same_class Ket c) (λ e. h.0 (sym ((told-apart Bra c).0 e)))
    (λ e. h.1 (sym ((told-apart Ket c).0 e)))
