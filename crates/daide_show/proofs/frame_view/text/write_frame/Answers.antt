use Rattle.daide_show.proofs.Common.{◌≡◌, ◌⊎◌, inl, inr, List, ℕ, refl, Kind, Im, Rm, Dm, Fm, Em}
use Rattle.daide_show.specs.Shown.{ShowRequest, request_of, IsFrameShownAs, relayed_shown}
use Rattle.daide_show.proofs.Outcomes.{if_ok-more}
use Rattle.daide_show.proofs.frame_view.text.write_frame.Goals as goal

-- a frame of a kind that is not checked is relayed
unchecked : (asked : ShowRequest) (kind : Kind) (len : ℕ) (body : List ℕ) → (kind ≡ Rm) ⊎ ((kind ≡ Fm) ⊎ (kind ≡ Em))
    → IsFrameShownAs asked kind len body (relayed_shown kind len)
unchecked asked Rm len body is = refl
unchecked asked Fm len body is = refl
unchecked asked Em len body is = refl
unchecked asked Im len body (inl e) = absurd cc
unchecked asked Im len body (inr (inl e)) = absurd cc
unchecked asked Im len body (inr (inr e)) = absurd cc
unchecked asked Dm len body (inl e) = absurd cc
unchecked asked Dm len body (inr (inl e)) = absurd cc
unchecked asked Dm len body (inr (inr e)) = absurd cc

pub returns-in-Rm-clause-text : goal.returns-in-Rm-clause-text
returns-in-Rm-clause-text g c =
    if_ok-more c.write_relayed.result _ _ c.write_relayed.ensures.text
    (λ relayed wrote. (
      relayed_shown c.args.head.kind c.args.head.len,
      unchecked (request_of c.args.request.now) c.args.head.kind c.args.head.len c.args.body.now c.in-Rm.is,
      wrote,
    ))
