use Rattle.daide_channels.proofs.Common.{◌<◌, arith, first_len, at}
use Rattle.daide_channels.proofs.GoneLemmas.{lets_none_go, wrote_bytes, wrote_less}
use Rattle.daide_channels.proofs.channels.Channels.wrote.Goals as goal

pub returns-then-n-first_len-clause-lets_go : goal.returns-then-n-first_len-clause-lets_go
returns-then-n-first_len-clause-lets_go g c =
    let e = c.advance.ensures in
    lets_none_go c.args.self.now c.advance.new.self c.args.to c.args.n e.limits.0 e.limits.1 e.sides e.queued

pub returns-then-n-first_len-clause-queued : goal.returns-then-n-first_len-clause-queued
returns-then-n-first_len-clause-queued g c =
    let less : c.args.n < first_len (at c.args.self.now.queued c.args.to) = omega arith in
    wrote_less c.args.self.now.queued c.advance.new.self.queued c.args.to c.args.n less c.advance.ensures.queued

pub returns-then-n-first_len-clause-bytes : goal.returns-then-n-first_len-clause-bytes
returns-then-n-first_len-clause-bytes g c =
    let less : c.args.n < first_len (at c.args.self.now.queued c.args.to) = omega arith in
    wrote_bytes c.args.self.now.queued c.advance.new.self.queued c.args.to c.args.n less c.advance.ensures.queued

pub returns-then-n-first_len-clause-other_front : goal.returns-then-n-first_len-clause-other_front
returns-then-n-first_len-clause-other_front g c = c.advance.ensures.other_front

pub returns-then-n-first_len-clause-own_front : goal.returns-then-n-first_len-clause-own_front
returns-then-n-first_len-clause-own_front g c = λ _. c.advance.ensures.own_front

pub returns-else-n-first_len-clause-own_front : goal.returns-else-n-first_len-clause-own_front
returns-else-n-first_len-clause-own_front g c = λ less. absurd (omega (arith, less))

pub returns-then-n-first_len-clause-next : goal.returns-then-n-first_len-clause-next
returns-then-n-first_len-clause-next g c = λ all. absurd (omega (arith, all))

pub returns-else-n-first_len-clause-next : goal.returns-else-n-first_len-clause-next
returns-else-n-first_len-clause-next g c = λ _. c.drop_first.ensures.own_front
