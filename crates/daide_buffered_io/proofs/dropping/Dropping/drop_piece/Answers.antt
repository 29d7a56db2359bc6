use Rattle.std.proofs.Common.{◌≡◌, ℕ, ◌<◌, List, [], Option, ap, sym, refl, subst, arith}
use Rattle.std.proofs.lemmas.Grind.{common_steps}
use Rattle.std.specs.Prelude.{min}
use Rattle.daide_io.specs.declared.ports.Pull.{Pull}
use Rattle.daide_io.specs.declared.ports.Pull.TheVariants.{Got, Ended}
use Rattle.daide_buffered_io.specs.declared.readiness.Readiness.{Readiness}
use Rattle.daide_buffered_io.specs.Buffers.{Buffer, IsBufferedPull}
use Rattle.daide_buffered_io.specs.Calls.{is_last_piece}
use Rattle.daide_io.specs.Streams.{StreamCall}
use Rattle.daide_buffered_io.proofs.dropping.Dropping.drop_piece.Goals as goal
use Rattle.daide_buffered_io.proofs.dropping.Dropping.drop_piece.Goals.{in-Got, in-Idle}

-- what a pull into a room of this size says, by the size that the room has
of_room : {S : Type 0} (calls : S → Option (List StreamCall)) (n m : ℕ) (known : Readiness) (old : Buffer S) (pull : Pull)
    (still : Readiness) (new : Buffer S) → IsBufferedPull calls n known old pull still new → n ≡ m →
    IsBufferedPull calls m known old pull still new
of_room calls n m known old pull still new h e =
    subst (λ (k : ℕ). IsBufferedPull calls k known old pull still new) e h

handed_by : (n m storage : ℕ) (pull : Pull) → (0 < storage → pull ≡ Got (min storage n)) → n ≡ m → 0 < storage →
    pull ≡ Got (min storage m)
handed_by n m storage pull h e some = subst (λ (k : ℕ). pull ≡ Got (min storage k)) e (h some)

pub returns-in-Ended-clause-pulled : goal.returns-in-Ended-clause-pulled
returns-in-Ended-clause-pulled g c = (
  Ended,
  of_room g.S.Duplex.calls _ _ _ c.args.stream.now Ended _ c.pull.new.self c.in-Ended.ensures.asked
      (grind (arith, common_steps)),
  handed_by _ _ _ Ended c.in-Ended.ensures.handed (grind (arith, common_steps)),
  refl,
)

pub returns-in-Ended-clause-dropped : goal.returns-in-Ended-clause-dropped
returns-in-Ended-clause-dropped g c = ([], omega arith, c.in-Ended.ensures.passes)

pub returns-clause-pulled : goal.returns-clause-pulled
returns-clause-pulled g c =
    let left = c.match-pull.self-inside.left in (
      c.pull.result,
      of_room g.S.Duplex.calls _ _ _ c.args.stream.now c.pull.result _ c.pull.new.self c.pull.ensures.asked
          (grind (arith, common_steps)),
      handed_by _ _ _ c.pull.result c.pull.ensures.handed (grind (arith, common_steps)),
      elim c.match-pull.branch [
        | in-Got w ↦ ap (λ (p : Pull). is_last_piece p left) (sym w.in-Got.is)
        | in-Idle w ↦ ap (λ (p : Pull). is_last_piece p left) (sym w.in-Idle.is)
      ],
    )
