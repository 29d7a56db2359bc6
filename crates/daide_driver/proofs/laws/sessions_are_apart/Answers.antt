use Rattle.daide_driver.proofs.ApartLemmas.{sessions_apart, ports_come_back, each_headline, opened_stand}
use Rattle.daide_driver.proofs.laws.sessions_are_apart.Goals as goal

pub returns-clause-kept : goal.returns-clause-kept
returns-clause-kept g c = λ calls old new run. sessions_apart g.P.Ports.transition calls old new run

pub returns-clause-taken_out : goal.returns-clause-taken_out
returns-clause-taken_out g c = λ calls i ports old new run. ports_come_back g.P.Ports.transition calls i ports old new run

pub returns-clause-headline : goal.returns-clause-headline
returns-clause-headline g c = λ calls old new run i life now e f h.
    each_headline g.P.Ports.transition calls old new run i life now e f h

pub returns-clause-stands : goal.returns-clause-stands
returns-clause-stands g c = λ calls old new run i life ports now e f o.
    opened_stand g.P.Ports.transition calls old new run i life ports now e f o
