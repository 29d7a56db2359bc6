use Rattle.daide_explain.proofs.Common.{◌≡◌, ◌++◌, take, words_of, items}
use Rattle.daide_explain.proofs.text.write_items.Given as goal

-- the items of the first `token-index` tokens were written
abbrev pub invariant-loop-token : goal.invariant-loop-token
invariant-loop-token g l =
    l.text.items ≡ l.initial.text.items ++ items (words_of l.fn.words) (take l.token-index l.tokens)
