use Rattle.std.proofs.Common.{◌≡◌, ◌++◌, length, take, drop, sym, ap, ◌∙◌, arith}
use Rattle.daide_frame.specs.Frames.{Cut, announced}
use Rattle.daide_frame.proofs.CutterLemmas.{body_of, announced-is}
use Rattle.daide_frame.proofs.cutter.Cutter.body.Goals as goal

pub returns-clause-value : goal.returns-clause-value
returns-clause-value g c =
    let a = c.self.inside in
    c.as_slice.ensures.value ∙ sym (body_of a.cap a.have a.header a.head a.is_faulty a.body.items _ c.self.invariant)
    ∙ ap (λ (v : Cut). drop 4 v.bytes) c.self.view_is

pub returns-clause-within : goal.returns-clause-within
returns-clause-within g c =
    let a = c.self.inside in
    let h = announced-is a.cap a.have a.header a.head a.is_faulty a.body.items _ c.self.invariant in
    let e : announced a.cap (take a.have a.header ++ a.body.items)
    ≡ announced c.args.self.now.cap c.args.self.now.bytes =
    ap (λ (v : Cut). announced v.cap v.bytes) c.self.view_is in
    omega (arith, ap length c.as_slice.ensures.value, h.0)

pub returns-clause-capped : goal.returns-clause-capped
returns-clause-capped g c =
    let a = c.self.inside in
    let h = announced-is a.cap a.have a.header a.head a.is_faulty a.body.items _ c.self.invariant in
    let e : announced a.cap (take a.have a.header ++ a.body.items)
    ≡ announced c.args.self.now.cap c.args.self.now.bytes =
    ap (λ (v : Cut). announced v.cap v.bytes) c.self.view_is in
    let k : a.cap ≡ c.args.self.now.cap = ap (λ (v : Cut). v.cap) c.self.view_is in
    omega (arith, h.1)
