-- The addresses of the settings, looked up and tried. The operating system decides what a name's addresses are; one in
-- digits is its own. (own)
use Rattle.std.specs.Prelude.{◌≡◌, ◌≢◌, ◌⊎◌, ℕ, List, [], All, Result, Ok, Err}
use Rattle.std.specs.Net.Grammar.{IsSocketText}
use Rattle.std.specs.declared.io.ErrorKind.TheVariants.{OutOfMemory}
use Rattle.std.specs.declared.net.socket_addr.SocketAddr.{SocketAddr}
use Rattle.daide_settings.specs.declared.settings.Settings.{Settings}
use Rattle.daide_settings.specs.declared.settings.key.Key.{Key}
use Rattle.daide_settings.specs.declared.settings.key.Key.TheVariants as keys
use Rattle.daide_sockets.specs.declared.addresses.AddressFault.{AddressFault}
use Rattle.daide_sockets.specs.declared.addresses.AddressFault.TheVariants.{Unknown, Refused}
use Rattle.daide_sockets.specs.declared.bound_sockets.BindError.{BindError}
use Rattle.daide_sockets.specs.declared.bound_sockets.BindError.TheVariants as bind_errors

-- a text is an address in digits, as `127.0.0.1:16713`
abbrev pub IsNumeric : List ℕ → Type 0
IsNumeric text = (address : SocketAddr) × IsSocketText text address

-- the addresses of a text: at least one, and of an address in digits no other
pub record AreAddressesOf (text : List ℕ) (all : List SocketAddr) : Type 0 where
  pub some : all ≢ []
  pub own : IsNumeric text → All (IsSocketText text) all

-- why a text has no address: its name is unknown, which digits never are, or memory was refused
abbrev pub IsLookUpFault : List ℕ → AddressFault → Type 0
IsLookUpFault text fault = ((fault ≡ Unknown) × ¬ IsNumeric text) ⊎ (fault ≡ Refused OutOfMemory)

-- the result of a trial: an address in digits is tried at itself, and is not unknown
abbrev pub IsTriedAt : List ℕ → Result SocketAddr AddressFault → Type 0
IsTriedAt text (Ok address) = IsNumeric text → IsSocketText text address
IsTriedAt text (Err fault) = IsNumeric text → fault ≢ Unknown

-- the error of binding after a look-up of the address of this key failed
abbrev pub IsLookUpError : Key → List ℕ → BindError → Type 0
IsLookUpError key text (bind_errors.Name other) = (other ≡ key) × ¬ IsNumeric text
IsLookUpError key text (bind_errors.Listen cause) = ⊥
IsLookUpError key text bind_errors.Memory = Unit {0}

-- the key of an address whose name may be unknown
abbrev pub MayBeUnknown : Settings → Key → Type 0
MayBeUnknown settings keys.Listen = ¬ IsNumeric settings.listen
MayBeUnknown settings keys.Server = ¬ IsNumeric settings.server
MayBeUnknown settings other = ⊥

-- an error of binding: a name is called unknown only if it may be
abbrev pub IsBindCause : Settings → BindError → Type 0
IsBindCause settings (bind_errors.Name key) = MayBeUnknown settings key
IsBindCause settings (bind_errors.Listen cause) = Unit {0}
IsBindCause settings bind_errors.Memory = Unit {0}
