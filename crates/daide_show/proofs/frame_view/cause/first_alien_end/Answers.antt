use Rattle.daide_show.proofs.Common.{◌≡◌, ◌+◌, ◌*◌, true, false, get_or, Option, ℕ, sym, ap, ◌∙◌, arith, not, unwrap_or}
use Rattle.daide_token.specs.Class.{has_known_category}
use Rattle.daide_frame.specs.Frames.{first_alien, is_alien}
use Rattle.daide_frame.proofs.AlienLemmas.{is_alien-is, first_alien-here, first_alien-next, first_alien-none, shifted_place-zero}
use Rattle.daide_show.proofs.frame_view.cause.first_alien_end.Goals as goal

pub loop-i-init : goal.loop-i-init
loop-i-init c = shifted_place-zero (first_alien c.args.body.now)

pub loop-i-preserved : goal.loop-i-preserved
loop-i-preserved c =
    let v = c.args.body.now in
    let n = 2 * c.loop-i.i in
    let known : is_alien (get_or v n 0) (get_or v (n + 1) 0) ≡ false = is_alien-is _ _ ∙ ap not (ap has_known_category (sym c.token_at.ensures.value) ∙ sym c.has_known_category.ensures ∙ c.if-not-has_known_category.false) in
    first_alien-next v n (2 * (c.loop-i.i + 1)) (omega arith) (omega (arith, c.loop-i-test.true)) known c.loop-i.invariant

pub returns-then-not-has_known_category-clause-value : goal.returns-then-not-has_known_category-clause-value
returns-then-not-has_known_category-clause-value c =
    let v = c.args.body.now in
    let n = 2 * c.loop-i.i in
    let alien : is_alien (get_or v n 0) (get_or v (n + 1) 0) ≡ true = is_alien-is _ _ ∙ ap not (ap has_known_category (sym c.token_at.ensures.value) ∙ sym c.has_known_category.ensures ∙ c.if-not-has_known_category.true) in
    ap (λ (o : Option ℕ). unwrap_or o 0) (first_alien-here v n (omega (arith, c.loop-i-test.true)) alien c.loop-i.invariant)

pub returns-clause-value : goal.returns-clause-value
returns-clause-value c =
    ap (λ (o : Option ℕ). unwrap_or o 0)
    (first_alien-none c.args.body.now (2 * c.loop-i.i) (omega (arith, c.loop-i-test.false)) c.loop-i.invariant)
