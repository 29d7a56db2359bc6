use Rattle.daide_reader.proofs.Common.{List, take, reverse, subst, Sym, ReadsTo, SliceState}
use Rattle.daide_reader.proofs.parse_stack.ParseStack+Symbol+N.read_tokens.Goals as goal

pub invariant_of-self : goal.invariant_of-self
invariant_of-self g c = c.read_tokens-reached.ensures.inside

pub returns : goal.returns
returns g c =
    let new : SliceState g.row.T.Denot = record {
      table = c.read_tokens-reached.new.table;
      stack = reverse (take c.read_tokens-reached.result.count c.read_tokens-reached.new.cells);
    } in
    record {
      tokens = c.read_tokens-reached.ensures.tokens;
      all = c.read_tokens-reached.ensures.all;
      reads = subst (λ (s : List Sym). ReadsTo g.T.Predict c.args.max_depth c.args.body.now 0 c.args.unclosed
          (record { table = c.args.table.now; stack = reverse s })
          c.read_tokens-reached.result.tokens c.read_tokens-reached.result.unclosed c.read_tokens-reached.result.place new)
          c.self.view_is c.read_tokens-reached.ensures.reads;
    }
