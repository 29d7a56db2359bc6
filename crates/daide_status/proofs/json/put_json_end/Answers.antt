use Rattle.std.proofs.Common.{ℕ, ◌++◌, List, codes, refl}
use Rattle.daide_status.specs.Json.{json_counters, json_ends, json_lost}
use Rattle.daide_status.proofs.Chains.{appended_as, chained, then_last}
use Rattle.daide_status.proofs.json.put_json_end.Goals as goal

pub returns : goal.returns
returns g c =
    let old : List ℕ = c.args.out.now.items in
    let counts = c.args.counts.now in
    let lost = json_lost counts in
    let frames = json_counters counts.bot counts.server in
    let between = codes "},\"ends\":{" in
    let ends = json_ends counts.ends in
    let middle = c.put_ends.new.out in
    let new = c.append-2.new.list in
    then_last _ c.args.out.now middle new c.append-2.result (lost ++ frames ++ between ++ ends) (codes "}}}\n")
    (chained old (lost ++ frames ++ between) ends _ _
    (chained old (lost ++ frames) between _ _
    (chained old lost frames _ _ c.in_ok-put_lost_members.ensures c.in_ok-put_counters.ensures)
    c.in_ok-append.ensures.appended) c.in_ok-put_ends.ensures)
    (appended_as _ middle new c.append-2.result _ _ c.append-2.ensures.appended c.append-2.ensures.refused refl)
