use Rattle.std.proofs.Common.{◌≡◌, ◌+◌, ◌*◌, true, false, get_or, take, sym, ap, ◌∙◌, arith, not}
use Rattle.daide_token.specs.Class.{has_known_category}
use Rattle.daide_frame.specs.Frames.{is_alien}
use Rattle.daide_frame.proofs.AlienLemmas.{is_alien-is, first_alien-known, first_alien-here, first_alien-next, first_alien-none}
use Rattle.daide_frame.proofs.FramesLemmas.{alien_in-dm, alien_in-other}
use Rattle.daide_frame.proofs.ListLemmas.{within_part}
use Rattle.daide_frame.proofs.cutter.alien_end.Goals as goal

pub returns-in_default : goal.returns-in_default
returns-in_default c = sym (alien_in-other c.args.head c.args.body.now c.in_default.not-Dm)

pub known_front-i-requires-clause-none : goal.known_front-i-requires-clause-none
known_front-i-requires-clause-none c =
    let v = c.args.body.now in
    let n = 2 * c.args.known in
    let before = alien_in-dm c.args.head (take n v) c.in-Dm.is (within_part v n c.args.head.len c.requires.within) in
    first_alien-known v n (omega arith) c.requires.counted (sym before ∙ c.requires.looked_at)

pub loop-i-preserved : goal.loop-i-preserved
loop-i-preserved c =
    let v = c.args.body.now in
    let n = 2 * c.loop-i.i in
    let known : is_alien (get_or v n 0) (get_or v (n + 1) 0) ≡ false = is_alien-is _ _ ∙ ap not (ap has_known_category (sym c.token_at.ensures.value) ∙ sym c.has_known_category.ensures ∙ c.if-not-has_known_category.false) in
    first_alien-next v n (2 * (c.loop-i.i + 1)) (omega arith) (omega (arith, c.loop-i-test.true)) known c.loop-i.invariant

pub returns-then-not-has_known_category : goal.returns-then-not-has_known_category
returns-then-not-has_known_category c =
    let v = c.args.body.now in
    let n = 2 * c.loop-i.i in
    let alien : is_alien (get_or v n 0) (get_or v (n + 1) 0) ≡ true = is_alien-is _ _ ∙ ap not (ap has_known_category (sym c.token_at.ensures.value) ∙ sym c.has_known_category.ensures ∙ c.if-not-has_known_category.true) in
    first_alien-here v n (omega (arith, c.loop-i-test.true)) alien c.loop-i.invariant ∙ sym (alien_in-dm c.args.head v c.in-Dm.is c.requires.within)

pub returns : goal.returns
returns c =
    let v = c.args.body.now in
    first_alien-none v (2 * c.loop-i.i) (omega (arith, c.loop-i-test.false)) c.loop-i.invariant ∙ sym (alien_in-dm c.args.head v c.in-Dm.is c.requires.within)
