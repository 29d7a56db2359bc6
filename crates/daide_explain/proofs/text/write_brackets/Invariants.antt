use Rattle.daide_explain.proofs.Common.{◌≡◌, ◌++◌, take, words_of, brackets_in, items}
use Rattle.daide_explain.proofs.text.write_brackets.Given as goal

-- the brackets among the first `token-index` tokens were written
abbrev pub invariant-loop-token : goal.invariant-loop-token
invariant-loop-token g l =
    l.text.items ≡ l.initial.text.items ++ items (words_of l.fn.words) (brackets_in (take l.token-index l.tokens))
