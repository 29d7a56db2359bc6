use Rattle.daide_reader.proofs.Common.{◌≡◌, ◌≢◌, ◌≤◌, ◌<◌, ◌+◌, ◌-◌, ◌*◌, ◌++◌, [], ◌∷◌, take, drop, reverse, tokens_of}
use Rattle.daide_token.specs.Class.{class_of as known_class}
use Rattle.daide_reader.proofs.StretchLemmas.{MidToken}
use Rattle.daide_reader.proofs.slice.run_below_depth_limit.Given as goal

-- the locals are a reader that has read the tokens before `loaded`, or is inside it, and its stack is not empty
abbrev pub invariant-loop-first : goal.invariant-loop-first
invariant-loop-first g l = record {
  inside : l.left ≤ g.row.N;
  some : l.left ≢ 0;
  top : reverse (take l.left l.cells) ≡ l.symbol ∷ reverse (take (l.left - 1) l.cells);
  from : l.fn.start.read ≤ l.next;
  more : l.next < l.end;
  shallow : l.opened + (l.end - l.next) ≤ l.max_depth;
  front : take (l.next + 1) (tokens_of l.body) ≡ take l.next (tokens_of l.body) ++ l.loaded ∷ [];
  rest : drop l.next (tokens_of l.body) ≡ l.loaded ∷ drop (l.next + 1) (tokens_of l.body);
  class : l.column ≡ known_class l.loaded;
  mid : MidToken g.T.Predict g.met.T.Predict.laws l.max_depth l.body l.fn.start.read l.fn.start.unclosed
      (record { table = l.fn.table; stack = reverse (take l.fn.start.count l.fn.cells) })
      l.next l.opened l.end (record { table = l.table; stack = reverse (take l.left l.cells) });
}

-- after a token that is taken the stack may be higher; inside a token it is lower
abbrev pub decreases-loop-first : goal.decreases-loop-first
decreases-loop-first g l = (l.end - l.next) * 4097 + l.left
