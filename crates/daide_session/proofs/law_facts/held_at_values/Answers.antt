use Rattle.daide_session.proofs.Common.{◌≡◌, ℕ, ◌≤◌, List, subst, arith, All, Dm, Bot, Server, Level, Verdict}
use Rattle.daide_session.proofs.Common.{longest_body, Sent, initial_state, IsJudged, came_in, IsFrame, IsVerdictOfNext}
use Rattle.daide_session.proofs.law_facts.held_at_values.Goals as goal

short : (cap : ℕ) → cap ≡ 512 → cap ≤ longest_body
short cap is = omega (arith, is)

pub returns-clause-row : goal.returns-clause-row
returns-clause-row c limits events effects new run words cap frame sent =
    let came = came_in (initial_state limits) events effects new run in
    subst (λ (all : List Sent). All (λ (sent : Sent). (body : List ℕ) (level : Level) (verdict : Verdict) →
    IsFrame Dm body sent.bytes → IsJudged limits Server level body verdict →
    IsVerdictOfNext limits came Bot level body verdict) all) sent
    (c.two_gateways_in_a_row_over.ensures limits events effects new run words (short limits.cap cap) Bot)
    0 frame (omega arith)

pub returns-clause-joined : goal.returns-clause-joined
returns-clause-joined c limits events next_events effects next_effects new next_new run next_run words cap joined =
    (c.joined_gateways_over.ensures limits Server events next_events effects next_effects new next_new run next_run words
    (short limits.cap cap) joined).in_order

pub returns-clause-levels : goal.returns-clause-levels
returns-clause-levels c limits events next_events effects next_effects new next_new run next_run words cap joined =
    c.levels_agree_toward_the_bot_over.ensures limits events next_events effects next_effects new next_new run next_run
    words (short limits.cap cap) joined
