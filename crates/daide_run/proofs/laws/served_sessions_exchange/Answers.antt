use Rattle.daide_sockets.specs.Timers.{streams_of}
use Rattle.daide_run.proofs.ExchangeLemmas.{served_exchange, transfers_within}
use Rattle.daide_run.proofs.laws.served_sessions_exchange.Goals as goal

pub returns : goal.returns
returns g c = λ settings trace now h.
    served_exchange (λ ports. streams_of ports.ports) g.S.Duplex.to_give g.S.Duplex.taken _
    (λ old call new moved. transfers_within g.S.Duplex.to_give g.S.Duplex.taken call _ _ moved.ports.0) settings trace now h
