use Rattle.std.proofs.Common.{◌≡◌, ℕ, ◌<◌, ◌≤◌, ◌⊎◌, inl, inr, Bool, true, false, leb, List, ◌++◌, take, Option}
use Rattle.std.proofs.Common.{sym, ap, ◌∙◌, subst, arith, append-nil, length-take}
use Rattle.daide_frame.proofs.Common.{leb_tells, take-append-le, Head, IsConsistent}
use Rattle.daide_frame.specs.Frames.{Cut}
use Rattle.daide_frame.proofs.ListLemmas.{take_whole}
use Rattle.daide_frame.proofs.cutter.Cutter.header.Goals as goal

-- the header's bytes so far are the first four of the frame
header_of : (limit have : ℕ) (header : List ℕ) (head : Option Head) (f : Bool) (body : List ℕ) (capacity : ℕ) →
    IsConsistent limit have header head f body capacity → take have header ≡ take 4 (take have header ++ body)
header_of limit have header head f body capacity i = by_have (leb_tells 4 have)
  where
    by_have : ((leb 4 have ≡ true) × (4 ≤ have)) ⊎ ((leb 4 have ≡ false) × (have < 4)) →
        take have header ≡ take 4 (take have header ++ body)
    by_have (inl t) =
        subst (λ (h : List ℕ). h ≡ take 4 (h ++ body)) (sym (take_whole have header (omega (arith, i.four))))
        (sym (take-append-le 4 header body (omega (arith, i.four)) ∙ take_whole 4 header (omega (arith, i.four))))
    by_have (inr t) =
        subst (λ (b : List ℕ). take have header ≡ take 4 (take have header ++ b)) (sym (i.no_body t.1))
        (sym (ap (take 4) (append-nil (take have header))
        ∙ take_whole 4 (take have header) (omega (arith, length-take have header, i.four))))

pub returns : goal.returns
returns g c =
    let a = c.self.inside in
    c.split_at.ensures.front
    ∙ header_of a.cap a.have a.header a.head a.is_faulty a.body.items _ c.self.invariant
    ∙ ap (λ (v : Cut). take 4 v.bytes) c.self.view_is
