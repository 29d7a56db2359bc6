use Rattle.daide_reader.proofs.Common.{◌≡◌, ◌||◌, ◌≤◌, ℕ, IfSome, length, take, reverse, ◌%◌, ◌^◌, ◌+◌, inl, refl, sym}
use Rattle.daide_reader.proofs.Common.{subst, rules, arith, is_bra, is_ket, Class, stack_after, steps_at}
use Rattle.daide_grammar.specs.Table.Numbers.{is_bracket}
use Rattle.daide_reader.proofs.Counts.{none_due}
use Rattle.daide_reader.proofs.StackLemmas.{bracket_told}
use Rattle.daide_reader.proofs.SliceLemmas.{bra_of, no_bra_of, taken_at, refused_by}
use Rattle.daide_reader.proofs.slice.read_token.Goals as goal

-- the class decides whether the token is a bracket
pub recount-requires : goal.recount-requires
recount-requires g c =
    let laws = g.met.T.Predict.laws (g.T.Predict.words c.args.table.now) in
    record {
      low = c.requires.low;
      told = subst (λ (class : Class). is_bracket class ≡ (is_bra c.args.token || is_ket c.args.token))
          (sym c.class_of-class.ensures)
          (bracket_told _ c.args.token (laws.only_bra c.args.token) (laws.only_ket c.args.token));
    }

-- one bracket too many
pub returns-then-not-recount : goal.returns-then-not-recount
returns-then-not-recount g c = record {
  fits = λ some. absurd cc;
  taken = tt;
  inside = tt;
  counted = c.recount.ensures.counted;
  reject_at = inl (bra_of _ _ c.recount.ensures.fits c.if-not-recount.true);
  words = refl;
  steps = (0, omega arith, none_due _ 0 refl);
}

pub follow-requires : goal.follow-requires
follow-requires g c =
    let moves = g.T.Predict.moves (g.T.Predict.words c.args.table.now) in
    let stack = reverse (take c.args.count c.args.cells.now) in (
      search rules,
      (
        c.requires.size,
        (
          c.requires.count,
          subst (λ (class : Class). IfSome (stack_after moves class stack) (λ after. length after ≤ g.row.N))
              (sym c.class_of-class.ensures)
              (c.requires.room (no_bra_of _ _ c.recount.ensures.fits c.if-not-recount.false)),
        ),
      ),
    )

pub returns : goal.returns
returns g c =
    let moves = g.T.Predict.moves (g.T.Predict.words c.args.table.now) in
    let stack = reverse (take c.args.count c.args.cells.now) in
    record {
      fits = λ _. no_bra_of _ _ c.recount.ensures.fits c.if-not-recount.false;
      taken = taken_at moves _ _ stack c.follow.result c.follow.new.cells c.class_of-class.ensures
          c.follow.ensures.taken;
      inside = c.follow.ensures.inside;
      counted = c.recount.ensures.counted;
      reject_at = refused_by _ moves _ _ stack c.follow.result c.class_of-class.ensures c.follow.ensures.reject_at;
      words = c.follow.ensures.words;
      steps = rw (no_bra_of _ _ c.recount.ensures.fits c.if-not-recount.false)
          (subst (λ (class : Class). (n : ℕ) × (n ≤ steps_at moves class stack)
          × (g.T.Predict.asked c.follow.new.table % 2 ^ 64 ≡ (g.T.Predict.asked c.args.table.now + n) % 2 ^ 64))
          c.class_of-class.ensures
          (steps_at moves c.class_of-class.result stack, omega arith, c.follow.ensures.steps));
    }
