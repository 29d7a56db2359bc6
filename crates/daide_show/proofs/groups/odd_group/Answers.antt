use Rattle.std.proofs.Common.{tests}
use Rattle.std.proofs.lemmas.Iterator.Splits.{YieldsList-from_slice_split}
use Rattle.std.proofs.lemmas.Iterator.Consumers.{YieldsList-turn, YieldsList-end, YieldsList-at}
use Rattle.std.proofs.lemmas.List.{length_push}
use Rattle.daide_show.proofs.Common.{◌+◌, ℕ, length, ap, sym, ◌∙◌, arith, rules, slice_split, is_blank}
use Rattle.daide_show.proofs.OddGroups.{odd_from, empty_part, even_part, odd_part, no_part}
use Rattle.daide_show.proofs.groups.odd_group.Goals as goal

pub returns-then-is_odd_group : goal.returns-then-is_odd_group
returns-then-is_odd_group c =
    let turn = YieldsList-turn
    (YieldsList-at c.into_iter-group-iterator.ensures.into_iter_gives
    (YieldsList-from_slice_split _ is_blank c.args.input.now c.split-group-items.ensures.rest
    c.split-group-items.ensures.done c.split-group-items.ensures.closure (λ x b q called. search (rules, tests))))
    c.loop-group.yielded _ c.loop-group.yielded_by _ _ c.in-Some.group c.in-Some.is c.next.ensures.steps in
    odd_part c.loop-group.place (length c.loop-group.yielded) (slice_split is_blank c.args.input.now)
    c.in-Some.group.now turn.0 turn.1 (sym c.is_empty.ensures ∙ c.if-is_empty.false)
    (sym c.is_odd_group.ensures ∙ c.if-is_odd_group.true)
    ∙ c.loop-group.invariant.3

pub loop-group-preserved-then-is_empty : goal.loop-group-preserved-then-is_empty
loop-group-preserved-then-is_empty c =
    let parts = slice_split is_blank c.args.input.now in
    let place = c.loop-group.place in
    let turn = YieldsList-turn
    (YieldsList-at c.into_iter-group-iterator.ensures.into_iter_gives
    (YieldsList-from_slice_split _ is_blank c.args.input.now c.split-group-items.ensures.rest
    c.split-group-items.ensures.done c.split-group-items.ensures.closure (λ x b q called. search (rules, tests))))
    c.loop-group.yielded _ c.loop-group.yielded_by _ _ c.in-Some.group c.in-Some.is c.next.ensures.steps in
    let more = length_push c.loop-group.yielded c.in-Some.group in (
      search rules,
      search rules,
      omega (arith, more, c.loop-group.invariant.2),
      ap (λ (n : ℕ). odd_from place n parts) more
          ∙ (empty_part place (length c.loop-group.yielded) parts c.in-Some.group.now turn.0 turn.1
          (sym c.is_empty.ensures ∙ c.if-is_empty.true)
          ∙ c.loop-group.invariant.3),
    )

pub loop-group-preserved : goal.loop-group-preserved
loop-group-preserved c =
    let parts = slice_split is_blank c.args.input.now in
    let place = c.loop-group.place in
    let turn = YieldsList-turn
    (YieldsList-at c.into_iter-group-iterator.ensures.into_iter_gives
    (YieldsList-from_slice_split _ is_blank c.args.input.now c.split-group-items.ensures.rest
    c.split-group-items.ensures.done c.split-group-items.ensures.closure (λ x b q called. search (rules, tests))))
    c.loop-group.yielded _ c.loop-group.yielded_by _ _ c.in-Some.group c.in-Some.is c.next.ensures.steps in
    let more = length_push c.loop-group.yielded c.in-Some.group in (
      search rules,
      search rules,
      omega (arith, more, c.loop-group.invariant.2),
      ap (λ (n : ℕ). odd_from (place + 1) n parts) more
          ∙ (even_part place (length c.loop-group.yielded) parts c.in-Some.group.now turn.0 turn.1
          (sym c.is_empty.ensures ∙ c.if-is_empty.false) (sym c.is_odd_group.ensures ∙ c.if-is_odd_group.false)
          ∙ c.loop-group.invariant.3),
    )

pub returns : goal.returns
returns c =
    let turn = YieldsList-end
    (YieldsList-at c.into_iter-group-iterator.ensures.into_iter_gives
    (YieldsList-from_slice_split _ is_blank c.args.input.now c.split-group-items.ensures.rest
    c.split-group-items.ensures.done c.split-group-items.ensures.closure (λ x b q called. search (rules, tests))))
    c.loop-group.yielded _ c.loop-group.yielded_by _ _ c.in-None.is c.next.ensures.steps in
    no_part c.loop-group.place (length c.loop-group.yielded) (slice_split is_blank c.args.input.now)
    (omega (arith, turn.1))
    ∙ c.loop-group.invariant.3
