use Rattle.daide_reader.proofs.Common.{ℕ, ◌*◌, List, take, sym, ap, ◌∙◌, subst, tokens_of, HasReadPrefix}
use Rattle.daide_reader.proofs.reader.Reader.read_body.Goals as goal

pub returns : goal.returns
returns g c =
    let b = c.args.body.now in
    let none = sym (ap (λ (k : ℕ). tokens_of (take (2 * k) b)) c.requires.unread) in
    record {
      verdict = λ words first max_depth h. c.finish.ensures.verdict words first max_depth (tokens_of b)
          (c.read.ensures.stands_after words first max_depth
          (subst (λ (p : List ℕ). HasReadPrefix g.T.Predict words first max_depth c.args.self.now p) none h));
      stands_after = λ words first max_depth h. c.finish.ensures.stands_after words first max_depth (tokens_of b)
          (c.read.ensures.stands_after words first max_depth
          (subst (λ (p : List ℕ). HasReadPrefix g.T.Predict words first max_depth c.args.self.now p) none h));
      words = c.finish.ensures.words ∙ c.read.ensures.words;
      depth = c.finish.ensures.depth ∙ c.read.ensures.depth;
      base = c.finish.ensures.base ∙ c.read.ensures.base;
      finished = c.finish.ensures.finished;
    }
