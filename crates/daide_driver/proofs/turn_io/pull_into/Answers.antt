use Rattle.std.proofs.Common.{◌≡◌, [], ◌∷◌, length, take, refl, ap, ◌∙◌, rules}
use Rattle.daide_protocol.specs.declared.note.Note.TheVariants as Note
use Rattle.daide_frame.specs.Side.{other}
use Rattle.daide_protocol.specs.Events.{Ends, bytes_come}
use Rattle.daide_protocol.proofs.LimitsKept.{runs_limits}
use Rattle.daide_io.specs.declared.ports.Pull.{Pull}
use Rattle.daide_io.specs.declared.ports.Pull.TheVariants.{Got, Idle, Ended}
use Rattle.daide_io.specs.Ports.{Pulled}
use Rattle.daide_driver.specs.Meter.{pull_moved, Moving}
use Rattle.daide_driver.specs.Totals.{Working}
use Rattle.daide_driver.specs.Turn.{Pulls}
use Rattle.daide_driver.proofs.MeterLemmas.{pulls_as}
use Rattle.daide_driver.proofs.Stretches.{carries_one}
use Rattle.daide_driver.proofs.TurnLemmas.{whole_pull}
use Rattle.daide_session.proofs.WorkLemmas.{paid_held, paid_same}
use Rattle.daide_driver.proofs.AnswerWork.{works_got}
use Rattle.daide_driver.proofs.turn_io.pull_into.Goals as goal

pub returns-in-Got-clause-pulls : goal.returns-in-Got-clause-pulls
returns-in-Got-clause-pulls g c =
    let now = c.args.session.now in
    let len = length c.args.buffer.now in
    let new = c.feed.new.self in
    let bytes = take c.in-Got.n c.pull-pull.new.buffer in
    let counted : length bytes ≡ c.in-Got.n = search rules in
    let goes = c.feed.ensures.goes in
    let moved : c.add_pull.new.self ≡ pull_moved c.args.side (Got c.in-Got.n) c.args.moved.now =
    c.add_pull.ensures ∙ ap (λ (pull : Pull). pull_moved c.args.side pull c.args.moved.now) c.in-Got.is in
    carries_one g.P.Ports.transition (Moving c.args.moved.now c.add_pull.new.self (Working (Pulls c.args.side))) now new _ _
    (Pulled c.args.side len (Got c.in-Got.n) bytes)
    (pulls_as g.P.Ports.transition c.args.side len c.pull-pull.result (Got c.in-Got.n) _ _ _ c.in-Got.is
    c.pull-pull.ensures.transition) (
      (
        whole_pull c.args.side (Got c.in-Got.n) len bytes now new c.requires.room c.requires.len counted
            ((c.feed.result, goes), c.feed.ensures.fronts),
        works_got now new c.args.side len c.in-Got.n bytes c.feed.ensures.work
            (paid_same (other c.args.side) now new (runs_limits (bytes_come c.args.side bytes) now.state new.state goes.effects goes.run)
            c.feed.ensures.takes.other_side),
      ),
      moved,
    )

pub returns-in-Idle-clause-pulls : goal.returns-in-Idle-clause-pulls
returns-in-Idle-clause-pulls g c =
    let now = c.args.session.now in
    let len = length c.args.buffer.now in
    carries_one g.P.Ports.transition (Moving c.args.moved.now c.add_pull.new.self (Working (Pulls c.args.side))) now now _ _
    (Pulled c.args.side len Idle [])
    (pulls_as g.P.Ports.transition c.args.side len c.pull-pull.result Idle _ _ _ c.in-Idle.is c.pull-pull.ensures.transition) (
      (
        whole_pull c.args.side Idle len [] now now c.requires.room c.requires.len refl refl,
        λ side. paid_same side now now refl refl,
      ),
      c.add_pull.ensures ∙ ap (λ (pull : Pull). pull_moved c.args.side pull c.args.moved.now) c.in-Idle.is,
    )

pub returns-in-Ended-clause-pulls : goal.returns-in-Ended-clause-pulls
returns-in-Ended-clause-pulls g c =
    let now = c.args.session.now in
    let len = length c.args.buffer.now in
    let goes = c.ended.ensures.goes in
    carries_one g.P.Ports.transition (Moving c.args.moved.now c.add_pull.new.self (Working (Pulls c.args.side))) now
    c.ended.new.self _ _ (Pulled c.args.side len Ended [])
    (pulls_as g.P.Ports.transition c.args.side len c.pull-pull.result Ended _ _ _ c.in-Ended.is c.pull-pull.ensures.transition) (
      (
        whole_pull c.args.side Ended len [] now c.ended.new.self c.requires.room c.requires.len refl
            ((Note.Nothing, goes), c.ended.ensures.fronts),
        paid_held now c.ended.new.self
            (runs_limits (Ends c.args.side ∷ []) now.state c.ended.new.self.state goes.effects goes.run)
            c.ended.ensures.holds,
      ),
      c.add_pull.ensures ∙ ap (λ (pull : Pull). pull_moved c.args.side pull c.args.moved.now) c.in-Ended.is,
    )

pub returns-in-Got-clause-limits : goal.returns-in-Got-clause-limits
returns-in-Got-clause-limits g c =
    let goes = c.feed.ensures.goes in
    runs_limits _ _ _ goes.effects goes.run
