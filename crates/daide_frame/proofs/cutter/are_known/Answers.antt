use Rattle.std.proofs.Common.{◌≡◌, Bool, true, false, ◌&&◌, get_or, ◌+◌, ◌*◌, refl, sym, ap, ◌∙◌, not}
use Rattle.daide_token.specs.Class.{has_known_category}
use Rattle.daide_frame.specs.Frames.{is_alien}
use Rattle.daide_frame.proofs.AlienLemmas.{is_alien-is, known_more}
use Rattle.daide_frame.proofs.cutter.are_known.Goals as goal

both : (a b : Bool) → (a && b) ≡ true → (a ≡ true) × (b ≡ true)
both true true e = (refl, refl)
both true false e = absurd (cc)
both false b e = absurd (cc)

pub loop-k-preserved : goal.loop-k-preserved
loop-k-preserved c known =
    let v = c.args.body.now in
    let n = c.args.first + c.loop-k.k in
    let before = both c.loop-k.known c.has_known_category-known.result known in
    let here : is_alien (get_or v (2 * n) 0) (get_or v (2 * n + 1) 0) ≡ false = is_alien-is _ _ ∙ ap not (ap has_known_category (sym c.token_at.ensures.value) ∙ sym c.has_known_category-known.ensures ∙ before.1) in
    known_more v c.args.first c.loop-k.k (c.loop-k.invariant before.0) here
