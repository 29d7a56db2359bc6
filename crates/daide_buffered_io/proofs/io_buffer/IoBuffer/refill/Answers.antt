use Rattle.std.proofs.Common.{◌≡◌, ◌∙◌, ℕ, List, ap, sym, subst, take, length, rules, ◌≤◌}
use Rattle.std.proofs.lemmas.List.{places, with_items_is, length-take-le}
use Rattle.std.specs.Io.KnownBytes.{Consumes}
use Rattle.daide_io.specs.declared.ports.Pull.TheVariants.{Got}
use Rattle.daide_buffered_io.specs.Calls.{IsPull}
use Rattle.daide_buffered_io.proofs.CallLemmas.{filled, nothing_pulled}
use Rattle.daide_buffered_io.proofs.io_buffer.IoBuffer.refill.Goals as goal

pub returns-in-Got-clause-given : goal.returns-in-Got-clause-given
returns-in-Got-clause-given g c =
    let whole : length c.pull_from-pull.new.buffer ≡ c.self.inside.bytes.len = search (rules, places) in
    subst (λ (l : List ℕ). Consumes (g.S.Duplex.to_give c.args.stream.now)
    (g.S.Duplex.to_give c.pull_from-pull.new.stream) l)
    (sym (filled _ _ c.in-Got.count (with_items_is c.self.inside.bytes c.pull_from-pull.new.buffer whole)))
    c.in-Got.ensures.given

pub returns-in-Got-clause-asked : goal.returns-in-Got-clause-asked
returns-in-Got-clause-asked g c =
    let size : length c.as_mut_slice.result.now ≡ 16384 = c.as_mut_slice.ensures.len ∙ c.self.invariant.2 in
    subst (λ (free_space : ℕ). IsPull g.S.Duplex.calls free_space c.args.readiness.now c.args.stream.now (Got c.in-Got.count)
    c.pull_from-pull.new.readiness c.pull_from-pull.new.stream) size c.in-Got.ensures.asked

pub returns-in-Got-clause-count : goal.returns-in-Got-clause-count
returns-in-Got-clause-count g c =
    let whole : length c.pull_from-pull.new.buffer ≡ c.self.inside.bytes.len = search (rules, places) in
    ap length (filled _ _ c.in-Got.count (with_items_is c.self.inside.bytes c.pull_from-pull.new.buffer whole))
    ∙ length-take-le c.in-Got.count c.pull_from-pull.new.buffer
    (subst (λ (n : ℕ). c.in-Got.count ≤ n) (sym c.in-Got.ensures.len) c.in-Got.ensures.within)

pub returns-in_default : goal.returns-in_default
returns-in_default g c =
    let size : length c.as_mut_slice.result.now ≡ 16384 = c.as_mut_slice.ensures.len ∙ c.self.invariant.2 in
    let none = nothing_pulled c.pull_from-pull.result c.in_default.not-Got in
    record {
      given = subst (λ (n : ℕ). Consumes (g.S.Duplex.to_give c.args.stream.now)
          (g.S.Duplex.to_give c.pull_from-pull.new.stream) (take n c.pull_from-pull.new.buffer)) none
          c.pull_from-pull.ensures.given;
      asked = subst (λ (free_space : ℕ). IsPull g.S.Duplex.calls free_space c.args.readiness.now c.args.stream.now
          c.pull_from-pull.result c.pull_from-pull.new.readiness c.pull_from-pull.new.stream) size
          c.pull_from-pull.ensures.asked;
      count = sym none;
      apart = c.pull_from-pull.ensures.apart;
      writes = c.pull_from-pull.ensures.writes;
    }
