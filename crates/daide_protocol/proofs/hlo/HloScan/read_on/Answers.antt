use Rattle.daide_protocol.proofs.Common.{[], ◌∷◌, ◌++◌, ◌+◌, ◌≤◌, ◌≡◌, take, drop, length, sym, ap, ◌∙◌, arith, refl}
use Rattle.daide_protocol.proofs.Common.{take-append-drop, tokens_of, tokens_of-length, lvl_scan_of}
use Rattle.daide_frame.proofs.ListLemmas.{take_whole}
use Rattle.daide_reader.proofs.ReadingLemmas.{raised_none, raised_by, raised_more, raised_within}
use Rattle.daide_protocol.proofs.HloLemmas.{first_tokens}
use Rattle.daide_protocol.proofs.hlo.HloScan.read_on.Goals as goal

pub loop-i-init : goal.loop-i-init
loop-i-init c = (
  λ found. found ∙ ap lvl_scan_of (first_tokens c.args.from c.args.body.now),
  raised_none _ _ refl,
)

pub loop-i-preserved : goal.loop-i-preserved
loop-i-preserved c =
    let m = tokens_of c.args.body.now in
    let i = c.loop-i.i in
    let from = c.loop-i.auto.i in
    let next : take (i + 1) m ≡ take i m ++ c.token_at.result ∷ [] = c.token_at.ensures.front in (
      λ found. c.look.ensures.found (take i m) (c.loop-i.invariant.0 found) ∙ ap lvl_scan_of (sym next),
      raised_more _ 1 _ _ c.loop-i.self.looked_at _ (omega arith) c.loop-i.invariant.1
          (raised_by 1 c.loop-i.self.looked_at _ _ (omega arith) refl (omega (arith, c.look.ensures.looked_at))),
    )

pub returns-then-is_settled-clause-found : goal.returns-then-is_settled-clause-found
returns-then-is_settled-clause-found c = λ found.
    let m = tokens_of c.args.body.now in
    let i = c.loop-i.i in
    c.is_settled.ensures c.if-is_settled.true (take i m) (drop i m) (c.loop-i.invariant.0 found)
    ∙ ap lvl_scan_of (take-append-drop i m)

pub returns-then-is_settled-clause-looked_at : goal.returns-then-is_settled-clause-looked_at
returns-then-is_settled-clause-looked_at c =
    let test = c.loop-i-test.true in
    raised_within _ _ _ _ _ (omega arith) refl c.loop-i.invariant.1

pub returns-clause-found : goal.returns-clause-found
returns-clause-found c = λ found.
    let m = tokens_of c.args.body.now in
    let all : length m ≤ c.loop-i.i = omega (arith, tokens_of-length c.args.body.now) in
    c.loop-i.invariant.0 found ∙ ap lvl_scan_of (take_whole c.loop-i.i m all)

pub returns-clause-looked_at : goal.returns-clause-looked_at
returns-clause-looked_at c = raised_within _ _ _ _ _ (omega arith) refl c.loop-i.invariant.1
