use Rattle.daide_explain.proofs.Common.{◌≡◌, ◌≤◌, length, take, sym, ◌∙◌, arith, inl, inr, eqb-true, eqb-false}
use Rattle.daide_explain.proofs.Common.{length-take-le, bra, ket, tokens_of, tokens_of-length}
use Rattle.daide_explain.proofs.Scans.{scan_bra, scan_ket, scan_plain, scan_all, all_closed, some_open, ket_here}
use Rattle.daide_explain.proofs.brackets.find_unpaired.Goals as goal
use Rattle.daide_explain.proofs.brackets.find_unpaired.Goals.{then-is_bra, then-opened-eq0, else-opened-eq0}
use Rattle.daide_explain.proofs.brackets.find_unpaired.Goals.{else-is_bra+then-is_ket+else-opened-eq0-2}
use Rattle.daide_explain.proofs.brackets.find_unpaired.Goals.{else-is_bra+else-is_ket}

pub returns-then-opened-eq0-2 : goal.returns-then-opened-eq0-2
returns-then-opened-eq0-2 c =
    let m = tokens_of c.args.body.now in
    let test = c.loop-i-test.true in
    let long = tokens_of-length c.args.body.now in
    let inside : c.loop-i.i ≤ length m = omega arith in
    ket_here m c.token_at-token.result c.loop-i.i c.loop-i.opened c.loop-i.first
    (eqb-true _ ket (sym c.is_ket.ensures ∙ c.if-is_ket.true)) inside c.token_at-token.ensures.rest
    c.if-opened-eq0-2.true c.loop-i.invariant.scanned

pub loop-i-preserved : goal.loop-i-preserved
loop-i-preserved c =
    let m = tokens_of c.args.body.now in
    let i = c.loop-i.i in
    let t = c.token_at-token.result in
    let n = c.loop-i.opened in
    let first = c.loop-i.first in
    let now = c.if-is_bra.opened in
    let place = c.if-is_bra.first in
    let scanned = c.loop-i.invariant.scanned in
    let few = c.loop-i.invariant.few in
    let front = c.token_at-token.ensures.front in
    let test = c.loop-i-test.true in
    let long = tokens_of-length c.args.body.now in
    let inside : i ≤ length m = omega arith in
    let len : length (take i m) ≡ i = length-take-le i m inside in
    elim c.if-is_bra.branch [
      | then-is_bra w ↦ elim w.if-opened-eq0.branch [
        | then-opened-eq0 v ↦ record {
          scanned = scan_bra m i t n first now place front len (eqb-true t bra (sym c.is_bra.ensures ∙ w.if-is_bra.true)) w.opened-is
              (inl (v.if-opened-eq0.true, w.first-is ∙ v.first-is)) scanned;
          few = (let a = w.opened-is in omega arith);
        }
        | else-opened-eq0 v ↦ record {
          scanned = scan_bra m i t n first now place front len (eqb-true t bra (sym c.is_bra.ensures ∙ w.if-is_bra.true)) w.opened-is
              (inr (v.if-opened-eq0.false, w.first-is ∙ v.first-is)) scanned;
          few = (let a = w.opened-is in omega arith);
        }
      ]
      | else-is_bra+then-is_ket+else-opened-eq0-2 w ↦ record {
        scanned = scan_ket m i t n first now place front
            (eqb-true t ket (sym w.is_ket.ensures ∙ w.if-is_ket.true)) w.opened-is w.if-opened-eq0-2.false w.first-is
            scanned;
        few = (let a = w.opened-is in omega arith);
      }
      | else-is_bra+else-is_ket w ↦ record {
        scanned = scan_plain m i t n first now place front (eqb-false t bra (sym c.is_bra.ensures ∙ w.if-is_bra.false))
            (eqb-false t ket (sym w.is_ket.ensures ∙ w.if-is_ket.false)) w.opened-is w.first-is scanned;
        few = (let a = w.opened-is in omega arith);
      }
    ]

pub returns-then-opened-eq0-3 : goal.returns-then-opened-eq0-3
returns-then-opened-eq0-3 c =
    let m = tokens_of c.args.body.now in
    let test = c.loop-i-test.false in
    let long = tokens_of-length c.args.body.now in
    let over : length m ≤ c.loop-i.i = omega arith in
    all_closed m c.loop-i.opened c.loop-i.first c.if-opened-eq0-3.true
    (scan_all m c.loop-i.i c.loop-i.opened c.loop-i.first over c.loop-i.invariant.scanned)

pub returns : goal.returns
returns c =
    let m = tokens_of c.args.body.now in
    let test = c.loop-i-test.false in
    let long = tokens_of-length c.args.body.now in
    let over : length m ≤ c.loop-i.i = omega arith in
    some_open m c.loop-i.opened c.loop-i.first c.if-opened-eq0-3.false
    (scan_all m c.loop-i.i c.loop-i.opened c.loop-i.first over c.loop-i.invariant.scanned)
