use Rattle.std.proofs.Common.{codes}
use Rattle.daide_status.specs.Json.{json_ended, json_further}
use Rattle.daide_status.proofs.Chains.{then_last}
use Rattle.daide_status.proofs.json.put_further.Goals as goal

pub returns : goal.returns
unfolding json_further
returns g c =
    then_last _ c.args.out.now c.append.new.list c.put_ended.new.out c.put_ended.result (codes ",")
    (json_ended c.args.cause c.args.count) c.in_ok-append.ensures.appended c.put_ended.ensures
