use Rattle.daide_log.proofs.Common.{◌∙◌, [], arith, refl, subst, sym, IsIdle}
use Rattle.daide_log.proofs.PartLemmas.{parts_next, parts_over, idle_next, one_less}
use Rattle.daide_log.proofs.PlayLemmas.{appends_none}
use Rattle.daide_log.proofs.explained.put_parts.Goals as goal

pub sessions-preserved : goal.sessions-preserved
sessions-preserved g c = (
  parts_next c.args.version c.sessions.number _ c.sessions.count c.in_ok-count.field-0 _ c.sessions.rest.now
      c.session-item.result _ _ _ c.sessions.invariant.0 c.in-len1-up.len_at_least (omega arith) c.session-item.is
      (rw c.number_in.ensures at c.in_ok-count.ensures.text),
  omega (arith, c.sessions.invariant.1, c.in_ok-count.ensures.few),
  one_less c.sessions.rest.now _ c.sessions.number _ c.sessions.invariant.2 c.in-len1-up.len_at_least (omega arith),
  idle_next c.sessions.rest.now _ c.sessions.invariant.3 c.in-len1-up.len_at_least (omega arith),
  c.put_session.ensures.same_writer ∙ c.sessions.invariant.4,
)

pub sessions-init : goal.sessions-init
sessions-init g c = (
  record { done = []; whole = refl; put = (refl, appends_none _) },
  omega arith,
  refl,
  c.requires.idle,
  refl,
)

pub overflow_add-count : goal.overflow_add-count
overflow_add-count g c =
    omega (arith, c.sessions.invariant.1, c.sessions.invariant.2, c.requires.few, c.in_ok-count.ensures.few)

pub overflow_add-number : goal.overflow_add-number
overflow_add-number g c = omega (arith, c.sessions.invariant.2, c.requires.few)

pub returns-clause-few : goal.returns-clause-few
returns-clause-few g c = omega (arith, c.sessions.invariant.1, c.sessions.invariant.2, c.requires.few)

pub put_session-requires : goal.put_session-requires
put_session-requires g c =
    subst IsIdle (sym c.session-item.is)
    (c.sessions.invariant.3 0 c.session-item.result (omega (arith, c.in-len1-up.len_at_least)))

pub returns-in_err-count-clause-same_writer : goal.returns-in_err-count-clause-same_writer
returns-in_err-count-clause-same_writer g c = c.put_session.ensures.same_writer ∙ c.sessions.invariant.4

pub returns-clause-text : goal.returns-clause-text
returns-clause-text g c =
    parts_over c.args.version c.sessions.number c.sessions.count _ c.sessions.rest.now _ _ c.sessions.invariant.0
    c.in_default.len_below

pub returns-clause-same_writer : goal.returns-clause-same_writer
returns-clause-same_writer g c = c.sessions.invariant.4
