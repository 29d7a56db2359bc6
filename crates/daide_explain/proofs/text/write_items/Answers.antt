use Rattle.daide_explain.proofs.Common.{words_of}
use Rattle.daide_explain.proofs.Items.{items_none, item_next}
use Rattle.daide_explain.proofs.text.write_items.Goals as goal

pub loop-token-init : goal.loop-token-init
loop-token-init g c = items_none (words_of c.args.words.now) c.args.text.now.items

pub loop-token-preserved : goal.loop-token-preserved
loop-token-preserved g c =
    item_next (words_of c.args.words.now) c.args.tokens.now c.loop-token.token-index c.token-item.result
    c.args.text.now.items c.loop-token.text.items c.append.new.list.items c.write_item.new.text.items
    c.loop-token-test.true c.token-item.is c.loop-token.invariant c.in_ok-append.ensures.appended
    c.in_ok-write_item.ensures.text
