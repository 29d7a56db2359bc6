-- The faults of a gateway, and its output.
use Rattle.std.specs.Prelude.{◌⊎◌, ℕ, List, Option, codes}
use Rattle.std.specs.Io.KnownBytes.{Appends}
use Rattle.daide_settings.specs.declared.settings.Settings.{Settings}
use Rattle.daide_settings.specs.declared.settings.key.Key.TheVariants as keys
use Rattle.daide_sockets.specs.Addresses.{MayBeUnknown}
use Rattle.daide_sockets.specs.declared.bound_sockets.BindError.{BindError}
use Rattle.daide_sockets.specs.declared.bound_sockets.BindError.TheVariants as BindErrors
use Rattle.daide_run.specs.declared.gateway.GatewayFault.{GatewayFault}
use Rattle.daide_run.specs.declared.gateway.GatewayFault.TheVariants.{Name, Listen, Memory, Serve}

-- the fault of a gateway that could not bind its sockets
abbrev pub fault_by : BindError → GatewayFault
fault_by (BindErrors.Name key) = Name key
fault_by (BindErrors.Listen cause) = Listen keys.Listen cause
fault_by BindErrors.Memory = Memory

-- a fault of these settings before the gateway serves: an address in digits is never called unknown
abbrev pub IsBeforeServing : Settings → GatewayFault → Type 0
IsBeforeServing settings (Name key) = MayBeUnknown settings key
IsBeforeServing settings (Listen key cause) = Unit {0}
IsBeforeServing settings Memory = Unit {0}
IsBeforeServing settings (Serve fault) = ⊥

-- `listening` is printed, and nothing else; or a write failed
abbrev pub Announces : Type 0 → Option (List ℕ) → Option (List ℕ) → Type 0
Announces failed old new = failed ⊎ Appends old new (codes "listening\n")
