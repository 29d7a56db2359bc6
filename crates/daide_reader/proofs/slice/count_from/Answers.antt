use Rattle.daide_reader.proofs.Common.{◌≡◌, ℕ, ◌+◌, List, Option, None, Some, length, drop, sym, ap, ◌∙◌, arith}
use Rattle.daide_reader.proofs.Common.{tokens_of, is_bra, is_ket, count_one, count_all}
use Rattle.daide_reader.proofs.BodyLemmas.{tokens_of-length}
use Rattle.daide_reader.proofs.SliceLemmas.{count_all-none, count_all-end, closed_early}
use Rattle.daide_reader.proofs.slice.count_from.Goals as goal

-- nothing is counted after a KET with nothing open
pub returns-in_default : goal.returns-in_default
returns-in_default c =
    let q = drop c.args.next (tokens_of c.args.body.now) in
    record { count = sym (ap (λ (u : Option ℕ). count_all u q) c.in_default.is ∙ count_all-none q) }

pub returns-then-opened-eq0 : goal.returns-then-opened-eq0
returns-then-opened-eq0 c =
    let inv = c.loop-i.invariant in
    let m = tokens_of c.args.body.now in
    let t = c.token_at-token.result in
    let here : count_one (is_bra t) (is_ket t) (Some c.loop-i.opened) ≡ None =
    closed_early (is_bra t) (is_ket t) c.loop-i.opened (sym c.is_bra.ensures ∙ c.if-is_bra.false) (sym c.is_ket.ensures
    ∙ c.if-is_ket.true) c.if-opened-eq0.true in
    let q = drop (c.loop-i.i + 1) m in
    record {
      count = sym (sym inv.left ∙ ap (λ (q : List ℕ). count_all (Some c.loop-i.opened) q) c.token_at-token.ensures.rest
          ∙ ap (λ (u : Option ℕ). count_all u q) here ∙ count_all-none q);
    }

pub returns : goal.returns
returns c =
    let inv = c.loop-i.invariant in
    let m = tokens_of c.args.body.now in
    let all : c.loop-i.i ≡ length m =
    omega (arith, tokens_of-length c.args.body.now, c.requires.next, c.loop-i.auto.i-end) in
    record { count = sym (count_all-end (Some c.loop-i.opened) c.loop-i.i m all) ∙ inv.left }
