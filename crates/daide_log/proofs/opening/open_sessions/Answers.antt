use Rattle.std.proofs.lemmas.List.Elements.{All-push}
use Rattle.daide_log.proofs.Common.{◌≡◌, ◌∙◌, ◌∷◌, sym, ap, subst, arith, ℕ, [], All, length, length-append, replicate}
use Rattle.daide_log.proofs.Common.{initial_state, limits_with, words_of, states_of, IsReady, Config}
use Rattle.daide_protocol.specs.Wires.{IsNew}
use Rattle.daide_log.proofs.EventLemmas.{new_is_ready, one_more_opened}
use Rattle.daide_log.proofs.opening.open_sessions.Goals as goal

pub loop-session-preserved : goal.loop-session-preserved
loop-session-preserved g c =
    let config = c.args.head.now.limits.config in
    let words = words_of c.args.head.now.words in
    let limits = limits_with config words in
    let items = c.loop-session.sessions.items in
    let session = c.in-Ok-with_limits.session in
    let opening = subst (λ (x : Config). IsNew (limits_with x words) session) c.of-limits.ensures
    c.in-Ok-with_limits.ensures.opening in
    let invariant = c.loop-session.invariant in
    let added = c.push_reserved.ensures.items in (
      ap states_of added ∙ one_more_opened limits items c.loop-session._session session invariant.0
          opening,
      subst (All (IsReady config words)) (sym added)
          (All-push (IsReady config words) items session invariant.1
          (new_is_ready config words session opening c.requires)),
      omega (arith, ap length added, length-append items (session ∷ []), invariant.2),
      omega (arith, c.push_reserved.ensures.capacity, invariant.3),
    )

pub returns-clause-begun : goal.returns-clause-begun
returns-clause-begun g c =
    let limits = limits_with c.args.head.now.limits.config (words_of c.args.head.now.words) in
    subst (λ (n : ℕ). states_of c.loop-session.sessions.items ≡ replicate n (initial_state limits))
    (omega (arith, c.loop-session-test.false, c.loop-session.auto._session-end)) c.loop-session.invariant.0
