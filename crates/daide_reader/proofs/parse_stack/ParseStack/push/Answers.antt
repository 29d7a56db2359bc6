use Rattle.std.proofs.Common.{set}
use Rattle.std.proofs.Math.Seq.{take-suc-set}
use Rattle.daide_reader.proofs.Common.{◌≡◌, ◌≤◌, ◌<◌, ◌+◌, ◌++◌, ◌∷◌, [], List, ℕ, length, take, sym, ap, ◌∙◌, subst}
use Rattle.daide_reader.proofs.Common.{add-one, arith, length-append, length-take-le}
use Rattle.daide_reader.proofs.Counts.{next_within}
use Rattle.daide_reader.proofs.parse_stack.ParseStack.push.Goals as goal

-- if there are fewer symbols than cells, a cell is free
free : {S : Type 0} (cells old : List S) (count size : ℕ) → take count cells ≡ old → length cells ≡ size → count ≤ size
    → length old < size → count < size
free cells old count size same all inside less =
    let long : length old ≡ count = ap length (sym same) ∙ length-take-le count cells (omega (arith, all, inside)) in
    omega (arith, long, less)

-- the cell after the symbols holds the new one
pushed : {S : Type 0} (cells old : List S) (count : ℕ) (x : S) → take count cells ≡ old → count < length cells
    → take (count + 1) (set cells count x) ≡ old ++ x ∷ []
pushed {S = S} cells old count x same less =
    rw add-one (take-suc-set cells count x less ∙ ap (λ (l : List S). l ++ x ∷ []) same)

pub listed : goal.listed
listed g c =
    subst (λ (n : ℕ). c.self.inside.count < n) (sym c.self.told)
    (free c.self.inside.cells _ c.self.inside.count g.row.N c.self.view_is c.self.told c.self.invariant c.requires)

pub bounds-self-inside-self-inside : goal.bounds-self-inside-self-inside
bounds-self-inside-self-inside g c =
    free c.self.inside.cells _ c.self.inside.count g.row.N c.self.view_is c.self.told c.self.invariant c.requires

pub invariant_of-self : goal.invariant_of-self
invariant_of-self g c =
    next_within _ _
    (free c.self.inside.cells _ c.self.inside.count g.row.N c.self.view_is c.self.told c.self.invariant c.requires)

pub returns : goal.returns
returns g c =
    let more = free c.self.inside.cells _ c.self.inside.count g.row.N c.self.view_is c.self.told c.self.invariant
    c.requires in
    let items = pushed c.self.inside.cells _ c.self.inside.count c.args.symbol c.self.view_is
    (subst (λ (n : ℕ). c.self.inside.count < n) (sym c.self.told) more) in
    record { items = items; len = ap length items ∙ length-append _ _ }
