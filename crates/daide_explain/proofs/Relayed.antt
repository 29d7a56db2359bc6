-- A message is relayed if and only if its verdict is `Relay`.
use Rattle.daide_explain.proofs.Common.{◌≡◌, ℕ, List, refl, IsPaired, HasVerdict, IsRelayed, Verdict, Relay, Prn, Huh}

pub relay_is : (message : List ℕ → Type 0) (max_depth : ℕ) (m : List ℕ) (v : Verdict) →
    HasVerdict message max_depth m v → v ≡ Relay → IsRelayed message max_depth m
unfolding HasVerdict
relay_is message max_depth m Relay h e = h.1
relay_is message max_depth m Prn h e = absurd cc
relay_is message max_depth m (Huh i) h e = absurd cc

pub is_relay : (message : List ℕ → Type 0) (max_depth : ℕ) (m : List ℕ) (v : Verdict) → IsPaired m →
    HasVerdict message max_depth m v → IsRelayed message max_depth m → v ≡ Relay
unfolding HasVerdict
is_relay message max_depth m Relay paired h r = refl
is_relay message max_depth m Prn paired h r = absurd (h paired)
is_relay message max_depth m (Huh i) paired h r = absurd (h.1 r)
