-- The effect of one port call on a session's two streams.
use Rattle.std.proofs.Common.{◌≡◌, ℕ, true, false, List, [], Option, take, refl, sym}
use Rattle.std.proofs.Common.{◌∙◌, subst}
use Rattle.daide_frame.specs.declared.side.Side.{Side}
use Rattle.daide_frame.specs.declared.side.Side.TheVariants.{Bot, Server}
use Rattle.daide_frame.specs.PerSide.{PerSide, at}
use Rattle.daide_frame.specs.Side.{other}
use Rattle.daide_io.specs.declared.ports.ClockEvent.{ClockEvent}
use Rattle.daide_io.specs.Ports.{PortCall, TurnBegins, Clock, Pulled, Offered, took, pulled_len}
use Rattle.daide_protocol.proofs.WireLemmas.{same_self}
use Rattle.daide_io.specs.declared.ports.Pull.{Pull}
use Rattle.daide_io.specs.declared.ports.Pull.TheVariants.{Got, Idle, Ended}
use Rattle.daide_io.specs.declared.ports.Put.{Put}
use Rattle.daide_io.specs.declared.ports.Put.TheVariants.{Took, Failed}
use Rattle.daide_buffered_io.specs.Buffers.{Buffer, Passes, ReadsNothing}
use Rattle.daide_buffered_io.specs.Taking.{bytes_taken}
use Rattle.daide_buffered_io.specs.Streams.{pulled_bytes, is_of, Transfers}
use Rattle.daide_buffered_io.proofs.BufferLemmas.{same_passes}

true_not_false : true ≡ false → ⊥
true_not_false e = absurd (cc)

-- ---- one call

own_given : (side : Side) (buffer : ℕ) (pull : Pull) (bytes : List ℕ) →
    pulled_bytes side (Pulled side buffer pull (take (pulled_len pull) bytes)) ≡ take (pulled_len pull) bytes
own_given Bot buffer (Got n) bytes = refl
own_given Server buffer (Got n) bytes = refl
own_given side buffer Idle bytes = refl
own_given side buffer Ended bytes = refl

none_given : (side : Side) (buffer : ℕ) (pull : Pull) (bytes : List ℕ) →
    pulled_bytes (other side) (Pulled side buffer pull bytes) ≡ []
none_given Bot buffer (Got n) bytes = refl
none_given Server buffer (Got n) bytes = refl
none_given side buffer Idle bytes = refl
none_given side buffer Ended bytes = refl

own_taken : (side : Side) (bytes : List ℕ) (put : Put) → took side (Offered side bytes put) ≡ bytes_taken put bytes
own_taken Bot bytes (Took n) = refl
own_taken Server bytes (Took n) = refl
own_taken side bytes Failed = refl

none_taken : (side : Side) (bytes : List ℕ) (put : Put) → took (other side) (Offered side bytes put) ≡ []
none_taken Bot bytes (Took n) = refl
none_taken Server bytes (Took n) = refl
none_taken side bytes Failed = refl

-- a fact that holds for this side and for its peer holds for both
pub of_both : (Holds : Side → Type 0) (side : Side) → Holds side → Holds (other side) → (one : Side) → Holds one
of_both Holds Bot own rest Bot = own
of_both Holds Bot own rest Server = rest
of_both Holds Server own rest Bot = rest
of_both Holds Server own rest Server = own

module _ {S : Type 0} (to_give got : S → Option (List ℕ)) where
  passes_as : (old new : Buffer S) (out over more further : List ℕ) → more ≡ out → further ≡ over →
      Passes to_give got old out over new → Passes to_give got old more further new
  passes_as old new out over more further e f h = rw e (rw f h)

  module _ (old new : PerSide (Buffer S)) where
    -- a turn begins: neither stream is read, and each may write its write buffer
    pub begun_moves : Passes to_give got old.bot [] [] new.bot → ReadsNothing to_give old.bot new.bot →
        Passes to_give got old.server [] [] new.server → ReadsNothing to_give old.server new.server →
        Transfers to_give got old TurnBegins new
    begun_moves bot unread server also = record {
      passes = of_both (λ one. Passes to_give got (at old one) [] [] (at new one)) Bot bot server;
      unread = λ side f. of_both (λ one. ReadsNothing to_give (at old one) (at new one)) Bot unread also side;
      unchanged = λ f. absurd (true_not_false (sym f));
    }

    pub pulled_moves : (side : Side) (buffer : ℕ) (pull : Pull) (bytes : List ℕ) →
        Passes to_give got (at old side) (take (pulled_len pull) bytes) [] (at new side) →
        Passes to_give got (at old (other side)) [] [] (at new (other side)) →
        ReadsNothing to_give (at old (other side)) (at new (other side)) →
        Transfers to_give got old (Pulled side buffer pull (take (pulled_len pull) bytes)) new
    pulled_moves side buffer pull bytes own rest unread =
        let call = Pulled side buffer pull (take (pulled_len pull) bytes) in record {
          passes = of_both (λ one. Passes to_give got (at old one) (pulled_bytes one call) [] (at new one)) side
              (passes_as (at old side) (at new side) (take (pulled_len pull) bytes) [] (pulled_bytes side call) []
              (own_given side buffer pull bytes) refl own)
              (passes_as (at old (other side)) (at new (other side)) [] [] (pulled_bytes (other side) call) []
              (none_given side buffer pull (take (pulled_len pull) bytes)) refl rest);
          unread = of_both
              (λ one. is_of one call ≡ false → ReadsNothing to_give (at old one) (at new one)) side
              (λ f. absurd (true_not_false (sym (same_self side) ∙ f))) (λ f. unread);
          unchanged = λ f. absurd (true_not_false (sym f));
        }

    pub offered_moves : (side : Side) (bytes : List ℕ) (put : Put) →
        Passes to_give got (at old side) [] (bytes_taken put bytes) (at new side) →
        Passes to_give got (at old (other side)) [] [] (at new (other side)) →
        ReadsNothing to_give (at old (other side)) (at new (other side)) →
        Transfers to_give got old (Offered side bytes put) new
    offered_moves side bytes put own rest unread =
        let call = Offered side bytes put in record {
          passes = of_both (λ one. Passes to_give got (at old one) [] (took one call) (at new one)) side
              (passes_as (at old side) (at new side) [] (bytes_taken put bytes) [] (took side call)
              refl (own_taken side bytes put) own)
              (passes_as (at old (other side)) (at new (other side)) [] [] [] (took (other side) call)
              refl (none_taken side bytes put) rest);
          unread = of_both
              (λ one. is_of one call ≡ false → ReadsNothing to_give (at old one) (at new one)) side
              (λ f. absurd (true_not_false (sym (same_self side) ∙ f))) (λ f. unread);
          unchanged = λ f. absurd (true_not_false (sym f));
        }

    -- a call that returns and accepts no byte moves none
    pub still_moves : (answer : PortCall) → ((side : Side) → pulled_bytes side answer ≡ []) →
        ((side : Side) → took side answer ≡ []) → new ≡ old → Transfers to_give got old answer new
    still_moves answer none_pulled none_took e =
        subst (λ (streams : PerSide (Buffer S)). Transfers to_give got old answer streams) (sym e) (record {
          passes = λ side. passes_as (at old side) (at old side) [] [] (pulled_bytes side answer) (took side answer)
              (none_pulled side) (none_took side)
              (same_passes to_give got (at old side));
          unread = λ side f. record { read_buffer = refl; gives = refl };
          unchanged = λ f. refl;
        })

    -- a question moves none
    pub asked_moves : (event : ClockEvent) → new ≡ old → Transfers to_give got old (Clock event) new
    asked_moves event e = still_moves (Clock event) (λ side. refl) (λ side. refl) e
