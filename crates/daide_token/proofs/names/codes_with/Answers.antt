use Rattle.daide_token.proofs.Common.{◌<◌, ◌⊎◌, sym, arith}
use Rattle.daide_token.proofs.NamesByLetter.{at_letter, no_other_letter}
use Rattle.daide_token.proofs.names.codes_with.Goals as goal

pub returns-then-letter-lt65 : goal.returns-then-letter-lt65
returns-then-letter-lt65 c =
    let out : (c.args.letter < 0x41) ⊎ (0x5A < c.args.letter) = grind (arith, c.then-letter-lt65.either) in
    sym (no_other_letter c.args.letter out)

pub returns : goal.returns
returns c =
    at_letter (λ codes. codes.now) c.letters.result.now _ c.args.letter _ c.letters.ensures
    (omega (arith, c.if-letter-gt90.false)) (omega (arith, c.if-letter-lt65.false))
