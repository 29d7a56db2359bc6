-- The calls of a process on the network, with their results.
use Rattle.std.specs.Prelude.{ℕ, Bool, true, false, List, Option, Some, None, Result}
use Rattle.std.specs.declared.io.Error.{Error}
use Rattle.std.specs.declared.io.ErrorKind.{ErrorKind}
use Rattle.std.specs.declared.net.socket_addr.SocketAddr.{SocketAddr}
use Rattle.std.specs.declared.time.Duration.{Duration}
use Rattle.std.specs.declared.time.Instant.{Instant}
use Rattle.daide_io.specs.declared.network.SocketEvent.{SocketEvent}
use Rattle.daide_io.specs.declared.network.ConnectReport.{ConnectReport}
use Rattle.daide_io.specs.declared.network.ConnectStatus.{ConnectStatus}
use Rattle.daide_io.specs.declared.network.ConnectStatus.TheVariants.{Connected, Failed, Pending}

-- the state of a connect, by why it failed, if it did, and by whether it has a peer
abbrev pub connect_status : Option ErrorKind → Bool → ConnectStatus
connect_status (Some failure) has_peer = Failed
connect_status None true = Connected
connect_status None false = Pending

-- One call with its result: a reading of the clock; a poll, with its timeout and what it reported; the listener that is
-- followed under a key; whether so many descriptors are free; a connection that is accepted, with its peer's address; the end of
-- that listener; the listener for control connections that is followed under a key, if there is one; a control connection that is
-- accepted; a connect that begins; a connection that is followed under a key; and what is reported of a connect.
pub data NetworkCall (C : Type 0) : Type 0 where
  ReadsClock : (reading : Option Instant) → NetworkCall C
  Polls : (timeout : Option Duration) → (socket_events : List SocketEvent) → NetworkCall C
  Listens : (key : ℕ) → (is_followed : Bool) → NetworkCall C
  ChecksDescriptors : (count : ℕ) → (checked : Result (Unit {0}) Error) → NetworkCall C
  AcceptsConnection : (accepted : Result (C × SocketAddr) Error) → NetworkCall C
  StopsListening : NetworkCall C
  ListensForControl : (key : ℕ) → (is_followed : Option Bool) → NetworkCall C
  AcceptsControl : (accepted : Result C Error) → NetworkCall C
  BeginsConnect : (address : SocketAddr) → (begun : Result C Error) → NetworkCall C
  Follows : (before : C) → (key : ℕ) → (is_followed : Bool) → (after : C) → NetworkCall C
  AsksConnect : (connection : C) → (report : ConnectReport) → NetworkCall C
