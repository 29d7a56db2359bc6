use Rattle.std.proofs.Common.{◌≡◌, ℕ, ◌-◌, ◌++◌, length, take, Option, Some, sym, ap, ◌∙◌, arith}
use Rattle.daide_frame.proofs.Common.{Head}
use Rattle.daide_frame.specs.Frames.{Cut, missing, missing_of_body}
use Rattle.daide_frame.proofs.CutterLemmas.{missing-header, missing-body, missing_of-open, missing_of-spoilt, in_body}
use Rattle.daide_frame.proofs.cutter.Cutter.room.Goals as goal

pub returns-then-self-lt-HEADER : goal.returns-then-self-lt-HEADER
returns-then-self-lt-HEADER g c =
    let a = c.self.inside in
    let i = c.self.invariant in
    sym (missing-header a.cap a.have a.header a.body.items c.if-self-lt-HEADER.true i.four
    (i.no_body c.if-self-lt-HEADER.true)) ∙ ap (λ (v : Cut). missing v.cap v.bytes) c.self.view_is

pub returns-in-Some : goal.returns-in-Some
returns-in-Some g c =
    let a = c.self.inside in
    let i = c.self.invariant in
    let whole : a.have ≡ 4 = omega (arith, i.in_header, c.if-self-lt-HEADER.false) in
    let good = c.in-Some.head in
    let b = in_body a.cap a.have a.header a.head a.is_faulty a.body.items _ good i c.in-Some.is in
    let now : missing a.cap (take a.have a.header ++ a.body.items) ≡ missing_of_body (Some good) a.body.items =
    missing-body a.cap a.have a.header a.head a.body.items whole i.four i.read
    ∙ ap (λ (o : Option Head). missing_of_body o a.body.items) c.in-Some.is in
    let n : length a.body.items ≡ c.len.result = omega (arith, a.body.ok.0, c.len.ensures) in
    ap (λ (k : ℕ). k - c.len.result) c.from.ensures ∙ ap (λ (k : ℕ). good.len - k) (sym n)
    ∙ sym (now ∙ missing_of-open good a.body.items (sym b.alien ∙ c.if-not-self.true))
    ∙ ap (λ (v : Cut). missing v.cap v.bytes) c.self.view_is

pub returns-in_default : goal.returns-in_default
returns-in_default g c =
    let a = c.self.inside in
    let i = c.self.invariant in
    let whole : a.have ≡ 4 = omega (arith, i.in_header, c.if-self-lt-HEADER.false) in
    let good = c.in-Some.head in
    let b = in_body a.cap a.have a.header a.head a.is_faulty a.body.items _ good i c.in-Some.is in
    let now : missing a.cap (take a.have a.header ++ a.body.items) ≡ missing_of_body (Some good) a.body.items =
    missing-body a.cap a.have a.header a.head a.body.items whole i.four i.read
    ∙ ap (λ (o : Option Head). missing_of_body o a.body.items) c.in-Some.is in
    sym (now ∙ missing_of-spoilt good a.body.items (sym b.alien ∙ c.if-not-self.false))
    ∙ ap (λ (v : Cut). missing v.cap v.bytes) c.self.view_is

pub returns-in_default-2 : goal.returns-in_default-2
returns-in_default-2 g c =
    let a = c.self.inside in
    let i = c.self.invariant in
    let whole : a.have ≡ 4 = omega (arith, i.in_header, c.if-self-lt-HEADER.false) in
    sym (missing-body a.cap a.have a.header a.head a.body.items whole i.four i.read
    ∙ ap (λ (o : Option Head). missing_of_body o a.body.items) c.in_default.is)
    ∙ ap (λ (v : Cut). missing v.cap v.bytes) c.self.view_is
