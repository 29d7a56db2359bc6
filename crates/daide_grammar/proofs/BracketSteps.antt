-- The table's column of bracket steps agrees with the definition.
use Rattle.daide_grammar.proofs.Common.{◌≡◌, ℕ, ◌<◌, Bool, true, false, map, refl, sym, ap, ◌∙◌, if◌then◌else◌}
use Rattle.daide_grammar.proofs.Common.{range_with_len, eqb-true, bra, ket, class_of, Class, Bra, Ket, all_classes}
use Rattle.daide_grammar.proofs.Common.{bracket_step, class_at, only_bra, only_ket}
use Rattle.daide_grammar.specs.Table.Brackets.{is_bra, is_ket}
use Rattle.daide_grammar.specs.Table.Cells.{bracket_cell}
use Rattle.daide_grammar.proofs.Alike.{alike}

steps : map bracket_cell (range_with_len 0 all_classes) ≡ map (λ n. bracket_step (class_at n)) (range_with_len 0 all_classes)
unfolding bracket_cell
steps = refl

pub step_told : (n : ℕ) → n < all_classes → bracket_cell n ≡ bracket_step (class_at n)
step_told n less = alike bracket_cell (λ n. bracket_step (class_at n)) all_classes steps n less

neither : (c : Class) → (c ≡ Bra → ⊥) → (c ≡ Ket → ⊥) → bracket_step c ≡ 0
neither Bra opens closes = absurd (opens refl)
neither Ket opens closes = absurd (closes refl)
neither _ opens closes = refl

pub step_by_class : (t : ℕ) → bracket_step (class_of t) ≡ (if is_bra t then 1 else if is_ket t then 65535 else 0)
step_by_class t = go (is_bra t) (is_ket t) refl refl
  where
    go : (b k : Bool) → is_bra t ≡ b → is_ket t ≡ k
        → bracket_step (class_of t) ≡ (if b then 1 else if k then 65535 else 0)
    go true k x y = ap bracket_step ((only_bra t).1 (eqb-true t bra x))
    go false true x y = ap bracket_step ((only_ket t).1 (eqb-true t ket y))
    go false false x y =
        neither (class_of t)
        (λ e. let yes : is_bra t ≡ true = ap is_bra ((only_bra t).0 e) in let f : true ≡ false = sym yes ∙ x in cc)
        (λ e. let yes : is_ket t ≡ true = ap is_ket ((only_ket t).0 e) in let f : true ≡ false = sym yes ∙ y in cc)
