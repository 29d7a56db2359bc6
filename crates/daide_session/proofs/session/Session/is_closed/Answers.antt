use Rattle.daide_session.proofs.Common.{◌≡◌, true, false, sym, ◌∙◌, is_over, no_frame}
use Rattle.daide_session.proofs.SessionFronts.{none_waits}
use Rattle.daide_session.proofs.session.Session.is_closed.Goals.{then-is_over, else-is_over}
use Rattle.daide_session.proofs.session.Session.is_closed.Goals as goal

-- the queue of the bot's wire is empty
pub returns-then-is_empty : goal.returns-then-is_empty
returns-then-is_empty g c =
    let now = c.args.self.now in
    let server = none_waits c.front-then-is_empty.result.now now.wires.server _ c.is_empty-then-is_empty.ensures
    c.front-then-is_empty.ensures.front in
    elim c.if-is_over.branch [
      | then-is_over w ↦
          let over : is_over now.state.phase ≡ true = sym c.is_over.ensures ∙ w.if-is_over.true in
          let bot : no_frame now.wires.bot ≡ true =
          sym (none_waits w.front.result.now now.wires.bot _ w.is_empty.ensures w.front.ensures.front)
          ∙ (sym w.value-is ∙ c.if-is_empty.true) in
          rw (over, bot) server
      | else-is_over w ↦
          absurd (let f : false ≡ true = sym w.if-is_over.false ∙ (sym w.value-is ∙ c.if-is_empty.true) in cc)
    ]

-- the queue of the bot's wire is not empty, or the session is not over
pub returns-else-is_empty : goal.returns-else-is_empty
returns-else-is_empty g c =
    let now = c.args.self.now in
    elim c.if-is_over.branch [
      | then-is_over w ↦
          let over : is_over now.state.phase ≡ true = sym c.is_over.ensures ∙ w.if-is_over.true in
          let bot : no_frame now.wires.bot ≡ false =
          sym (none_waits w.front.result.now now.wires.bot _ w.is_empty.ensures w.front.ensures.front)
          ∙ (sym w.value-is ∙ c.if-is_empty.false) in
          rw (over, bot) c.if-is_empty.false
      | else-is_over w ↦
          let live : is_over now.state.phase ≡ false = sym c.is_over.ensures ∙ w.if-is_over.false in
          rw live c.if-is_empty.false
    ]
