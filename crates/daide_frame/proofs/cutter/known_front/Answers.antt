use Rattle.std.proofs.Common.{◌≡◌, ℕ, ◌+◌, ◌*◌, ◌-◌, ◌/◌, ◌≤◌, length, drop, arith, subst}
use Rattle.daide_frame.specs.Frames.{first_alien, shifted_place}
use Rattle.daide_frame.proofs.AlienLemmas.{first_alien-known_run, known_from}
use Rattle.daide_frame.proofs.cutter.known_front.Goals as goal

pub loop-i-preserved : goal.loop-i-preserved
loop-i-preserved c =
    let v = c.args.body.now in
    let i = c.loop-i.i in
    let size : 2 * (i + 8) ≤ length v = omega (arith, c.loop-i-test.true) in
    (size, first_alien-known_run v i 8 size (c.are_known.ensures c.if-not-are_known.false) c.loop-i.invariant.1)

pub returns-then-are_known-clause-none : goal.returns-then-are_known-clause-none
returns-then-are_known-clause-none c =
    let v = c.args.body.now in
    let i = c.loop-i.i in
    let tokens = length v / 2 in
    let more : i ≤ tokens = omega (arith, c.if-i-tokens.true) in
    let less : tokens - 8 ≤ i = omega (arith, c.loop-i-test.false) in
    let enough : 8 ≤ tokens = omega (arith, c.if-tokens-ge-TOGETHER.true) in
    let last = known_from v (tokens - 8) 8 i (tokens - i)
    (c.are_known-then-tokens-ge-TOGETHER.ensures c.if-are_known.true) less (omega (arith, more, enough)) in
    let all : i + (tokens - i) ≡ tokens = omega (arith, more) in
    subst (λ (n : ℕ). first_alien v ≡ shifted_place (2 * n) (first_alien (drop (2 * n) v))) all
    (first_alien-known_run v i (tokens - i) (omega (arith, more)) last c.loop-i.invariant.1)
