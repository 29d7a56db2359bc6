use Rattle.daide_protocol.proofs.Common.{refl, arith, subst, tokens_of, characters}
use Rattle.daide_protocol.proofs.NameLemmas.{Fills, fills_all, fills_more, fills_nothing, fills_too_much}
use Rattle.daide_protocol.proofs.NameLemmas.{text_ends, text_goes_on, text_stops}
use Rattle.daide_protocol.proofs.bot_name.NameText.at_front.Goals as goal

pub characters-init : goal.characters-init
characters-init c = fills_nothing _ _ refl

pub returns-then-category-ne-CHARACTERS : goal.returns-then-category-ne-CHARACTERS
returns-then-category-ne-CHARACTERS c =
    fills_all _ _ _ _
    (text_stops c.characters.rest.now c.to_be.result c.from_be.result c.in-len2-up.len_at_least c.from_be.ensures
    c.to_be.ensures c.if-category-ne-CHARACTERS.true)
    c.characters.invariant

pub returns-then-len-eq-MOST_KEPT : goal.returns-then-len-eq-MOST_KEPT
returns-then-len-eq-MOST_KEPT c =
    fills_too_much _ c.characters.bytes _ c.characters.len _ c.if-len-eq-MOST_KEPT.true
    (subst (Fills (characters (tokens_of c.args.tokens.now)) c.characters.bytes c.characters.len)
    (text_goes_on c.characters.rest.now c.to_be.result c.from_be.result c.in-len2-up.len_at_least c.from_be.ensures
    c.to_be.ensures c.if-category-ne-CHARACTERS.false)
    c.characters.invariant)

pub characters-preserved : goal.characters-preserved
characters-preserved c =
    fills_more _ c.characters.bytes _ c.characters.len _
    (omega (arith, c.characters.invariant.whole, c.if-len-eq-MOST_KEPT.false))
    (subst (Fills (characters (tokens_of c.args.tokens.now)) c.characters.bytes c.characters.len)
    (text_goes_on c.characters.rest.now c.to_be.result c.from_be.result c.in-len2-up.len_at_least c.from_be.ensures
    c.to_be.ensures c.if-category-ne-CHARACTERS.false)
    c.characters.invariant)

pub returns : goal.returns
returns c = fills_all _ _ _ _ (text_ends c.characters.rest.now c.in_default.len_below) c.characters.invariant
