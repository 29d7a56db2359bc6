-- Each law of `laws`, used once at a few calls. Each fact takes only the law, so that a weaker law does not check.
use Rattle.std.proofs.Common.{◌≡◌, ℕ, ◌+◌, true, false, List, [], ◌∷◌, Option, ap, ◌∙◌}
use Rattle.std.specs.Prelude.{Contains}
use Rattle.std.specs.Io.KnownBytes.{Consumes}
use Rattle.daide_frame.specs.declared.side.Side.TheVariants.{Bot}
use Rattle.daide_frame.specs.PerSide.{PerSide}
use Rattle.daide_protocol.specs.Machine.{Limits}
use Rattle.daide_io.specs.Ports.{PortCall, Pulled, EvolvesBy}
use Rattle.daide_io.specs.System.{no_orders, Polls, Accepts, Connects, TransitsBy}
use Rattle.daide_protocol.specs.Wires.{SessionView}
use Rattle.daide_io.specs.declared.ports.Pull.TheVariants.{Got}
use Rattle.daide_io.specs.declared.system.Connect.TheVariants.{Ready}
use Rattle.daide_driver.specs.Headline.{IsBoundedAndExact}
use Rattle.daide_settings.specs.declared.settings.Settings.{Settings}
use Rattle.daide_event_loop.specs.Served.{IsServed}
use Rattle.daide_buffered_io.specs.Buffers.{Buffer}
use Rattle.daide_io.specs.Streams.{StreamCall}
use Rattle.daide_buffered_io.specs.Streams.{Transfers}
use Rattle.daide_sockets.specs.Pairing.{Paired, RunSockets, Transits}
use Rattle.daide_run.specs.Accepted.{BotsAreCounted}
use Rattle.daide_driver.specs.Slab.{SlotView}
use Rattle.daide_run.specs.Exchanged.{SessionsExchange, ServedSessionsExchange}

-- two of three accepts returned a bot
two_came : {P S : Type 0} (to_give taken : S → Option (List ℕ)) (calls : S → Option (List StreamCall)) →
    BotsAreCounted P to_give taken calls → (pair : P → Paired S) (old new : RunSockets S) → old.came ≡ 0 →
    TransitsBy (Transits to_give taken calls pair) old
    (Polls true [] no_orders ∷ Accepts 0 true ∷ Accepts 1 false ∷ Accepts 1 true ∷ []) new → new.came ≡ 2
two_came to_give taken calls law pair old new none goes =
    law pair old new (Polls true [] no_orders ∷ Accepts 0 true ∷ Accepts 1 false ∷ Accepts 1 true ∷ []) goes ∙ ap (λ (n : ℕ). n + 2) none

-- one byte heard from the bot is the next byte of its stream
heard_one : {S : Type 0} (to_give got : S → Option (List ℕ)) → SessionsExchange to_give got → (limits : Limits)
    (first now : PerSide (Buffer S)) (g : SessionView) →
    EvolvesBy (Transfers to_give got) first (Pulled Bot 4 (Got 1) (7 ∷ []) ∷ []) now →
    IsBoundedAndExact limits (Pulled Bot 4 (Got 1) (7 ∷ []) ∷ []) g → first.bot.read_buffer ≡ [] →
    Consumes (to_give first.bot.stream) (to_give now.bot.stream) (7 ∷ now.bot.read_buffer)
heard_one to_give got law limits first now g moves exact none =
    (law limits (Pulled Bot 4 (Got 1) (7 ∷ []) ∷ []) first now g moves exact).heard Bot none

-- a session that a run served began with ports that a connect delivered
came_by_a_connect : {P S : Type 0} (transition : P → PortCall → P → Type 0) (streams : P → PerSide (Buffer S))
    (to_give taken : S → Option (List ℕ)) → ServedSessionsExchange transition streams to_give taken →
    (settings : Settings) (given : P) (now : SlotView P) →
    IsServed transition settings (Connects 3 (Ready given) ∷ []) now →
    (place : ℕ) × (ports : P) × Contains (Connects 3 (Ready given) ∷ []) (Connects place (Ready ports))
came_by_a_connect transition streams to_give taken law settings given now served =
    let exchanged = law settings (Connects 3 (Ready given) ∷ []) now served in
    (exchanged.0, exchanged.1, exchanged.2)
