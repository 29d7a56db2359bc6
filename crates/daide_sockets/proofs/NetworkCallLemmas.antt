-- Calls of the network, all of one kind.
use Rattle.std.proofs.Common.{◌≡◌, ℕ, zero, suc, Bool, true, List, [], ◌∷◌, ◌++◌, refl, subst}
use Rattle.std.proofs.Common.{inl, inr, Result, Ok, Err}
use Rattle.std.proofs.lemmas.List.Elements.{All-nil, All-cons, All-append}
use Rattle.std.specs.declared.io.Error.{Error}
use Rattle.std.specs.declared.net.socket_addr.SocketAddr.{SocketAddr}
use Rattle.daide_io.specs.Network.{NetworkCall, BeginsConnect, Follows, AsksConnect}
use Rattle.daide_sockets.specs.Accepting.{AsksAtMostOnce, ConnectsFrom, FollowsAtMostOnce, FollowsBegun, TriesOn}
use Rattle.daide_sockets.specs.Wakeups.{CallsNetworkBy, GoesBy, is_of_connect}

module _ {N C : Type 0} (transition : N → NetworkCall C → N → Type 0) where
  calls_then : (first second : List (NetworkCall C)) (old mid new : N) → CallsNetworkBy transition old first mid →
      CallsNetworkBy transition mid second new → CallsNetworkBy transition old (first ++ second) new
  calls_then [] second old mid new h k = subst (λ (n : N). CallsNetworkBy transition n second new) h k
  calls_then (call ∷ first) second old mid new h k = (h.0, h.1, calls_then first second h.0 mid new h.2 k)

  module _ (kind : NetworkCall C → Bool) where
    abbrev IsOfKind : NetworkCall C → Type 0
    IsOfKind call = kind call ≡ true

    pub none : (old new : N) → new ≡ old → GoesBy kind transition old new
    none old new e = ([], e, All-nil IsOfKind)

    pub one : (old new : N) (call : NetworkCall C) → kind call ≡ true → transition old call new → GoesBy kind transition old new
    one old new call is h = (call ∷ [], (new, h, refl), All-cons IsOfKind call [] is (All-nil IsOfKind))

    pub both : (old mid new : N) → GoesBy kind transition old mid → GoesBy kind transition mid new →
        GoesBy kind transition old new
    both old mid new h k =
        (h.0 ++ k.0, calls_then h.0 k.0 old mid new h.1 k.1, All-append IsOfKind h.0 k.0 h.2 k.2)

    -- a connection is followed, if calls of this kind may follow
    pub follows : ((before : C) (key : ℕ) (is_followed : Bool) (after : C) → kind (Follows before key is_followed after) ≡ true) →
        (connection : C) (old new : N) → FollowsAtMostOnce transition connection old new → GoesBy kind transition old new
    follows may connection old new (inl same) = none old new same
    follows may connection old new (inr h) =
        one old new (Follows connection h.0 h.1 h.2) (may connection h.0 h.1 h.2) h.3

  begun : (key : ℕ) (result : Result C Error) (old new : N) → FollowsBegun transition key result old new →
      GoesBy is_of_connect transition old new
  begun key (Ok connection) old new h = one is_of_connect old new (Follows connection key h.0 h.1) refl h.2
  begun key (Err error) old new h = none is_of_connect old new h

  connects : (addresses : List SocketAddr) (key place count : ℕ) (old new : N) →
      ConnectsFrom transition addresses key place count old new → GoesBy is_of_connect transition old new
  connects addresses key place zero old new h = none is_of_connect old new h
  connects addresses key place (suc count) old new h =
      both is_of_connect old h.0 new (connects addresses key place count old h.0 h.2)
      (both is_of_connect h.0 h.4.mid new (one is_of_connect h.0 h.4.mid (BeginsConnect h.1 h.4.begun) refl h.4.call)
      (begun key h.4.begun h.4.mid new h.4.rest))

  asks : (old new : N) → AsksAtMostOnce transition old new → GoesBy is_of_connect transition old new
  asks old new (inl same) = none is_of_connect old new same
  asks old new (inr h) = one is_of_connect old new (AsksConnect h.0 h.1) refl h.2

  pub tries : (addresses : List SocketAddr) (key before after : ℕ) (old new : N) →
      TriesOn transition addresses key before after old new → GoesBy is_of_connect transition old new
  tries addresses key before after old new h =
      both is_of_connect old h.mid new (asks old h.mid h.asks) (connects addresses key before h.count h.mid new h.connects)
