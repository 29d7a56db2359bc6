-- After an accept that failed none is due at the same reading of the clock; and what was accepted is at most followed.
use Rattle.std.proofs.Common.{◌≡◌, ◌≤◌, ◌⊎◌, ℕ, ◌+◌, suc, length, true, false, Bool, Option, Some, None, Result, Ok, Err, List, refl, sym, ap, ◌∙◌, inl, inr, arith}
use Rattle.std.specs.declared.io.Error.{Error}
use Rattle.std.specs.declared.net.socket_addr.SocketAddr.{SocketAddr}
use Rattle.daide_io.specs.Network.{NetworkCall, Follows}
use Rattle.std.specs.Prelude.{◌&&◌, ◌||◌, not, slice_get}
use Rattle.std.specs.declared.time.Instant.{Instant}
use Rattle.daide_buffered_io.specs.declared.readiness.Readiness.{Readiness}
use Rattle.daide_sockets.specs.declared.admission.Acceptor.{Acceptor}
use Rattle.daide_sockets.specs.declared.admission.NoBot.TheVariants as NoBots
use Rattle.daide_sockets.specs.declared.listener.Listener.{Listener}
use Rattle.daide_sockets.specs.Accepting.{is_accept_made, is_accept_due, is_bot_due, accept_pause, connection_given, shut_if}
use Rattle.daide_sockets.specs.Accepting.{AcceptsBeside, AcceptsOnce, AcceptsOneBot, BringsBot, BringsNoBot, FollowsAtMostOnce, FollowsAccepted, ConnectsOnce, ConnectsFrom}
use Rattle.daide_sockets.specs.Accepting.{Fails, MayNotCome, IsRefused, TriesOn, IsUnreached, IsLate, TriedAll}
use Rattle.daide_sockets.specs.Table.{Table, freed, listener_key, report_at, without_report}
use Rattle.daide_sockets.specs.KeptRows.{ChangesRows}
use Rattle.daide_sockets.specs.Clock.{IsAfter, is_past}
use Rattle.daide_sockets.proofs.KeptRowLemmas.{changes_more, changes_then, freed_changes, report_cleared}

-- the end of a pause that began at a reading is not past
not_past : (now : Option Instant) (moment : Instant) → IsAfter now accept_pause (Some moment) →
    is_past now (Some moment) ≡ false
not_past None moment h = absurd (cc)
not_past (Some now) moment h = grind (arith, h)

-- none is due after a failure
pub failed_not_due : (now resumes_at : Option Instant) (may_accept : Bool) → may_accept ≡ false →
    (resumes_at ≡ None) ⊎ IsAfter now accept_pause resumes_at → is_accept_made now may_accept resumes_at ≡ false
failed_not_due now None may_accept none h = none
failed_not_due now (Some moment) may_accept none (inl e) = absurd (cc)
failed_not_due now (Some moment) may_accept none (inr h) = not_past now moment h

or_false : (b : Bool) → (b || false) ≡ b
or_false true = refl
or_false false = refl

no_accept : (is_open : Bool) → (is_open && false) ≡ false
no_accept true = refl
no_accept false = refl

-- a report that was taken makes none due
pub taken_not_due : (old new : Table) (key : ℕ) (listener : Listener) (now : Option Instant) → new ≡ without_report old key →
    now ≡ new.reading → is_accept_made now listener.may_accept listener.resumes_at ≡ false →
    is_accept_due new key listener ≡ false
taken_not_due old new key listener now taken reading none =
    let report = ap (λ (t : Table). report_at t key) taken ∙ report_cleared old.rows key in
    ap (λ (r : Option Instant). is_accept_made r (listener.may_accept || (report_at new key).may_read) listener.resumes_at)
    (sym reading)
    ∙ ap (λ (r : Readiness). is_accept_made now (listener.may_accept || r.may_read) listener.resumes_at) report
    ∙ ap (λ (b : Bool). is_accept_made now b listener.resumes_at) (or_false listener.may_accept) ∙ none

-- so none of a bot is due
pub no_bot_due : (old new : Table) (key : ℕ) (acceptor : Acceptor) → new ≡ without_report old key → key ≡ listener_key old →
    is_accept_due new key acceptor.listener ≡ false → is_bot_due new acceptor ≡ false
no_bot_due old new key acceptor taken is none =
    let own : listener_key new ≡ key = ap (λ (t : Table). listener_key t) taken ∙ sym is in
    ap (λ (b : Bool). not acceptor.is_closed && b)
    (ap (λ (k : ℕ). is_accept_due new k acceptor.listener) own ∙ none) ∙ no_accept (not acceptor.is_closed)

-- ---- rows

-- a listener that is closed loses no count of its bots
pub kept_came : (closes : Bool) (new old : Acceptor) → new ≡ shut_if closes old → new.came ≡ old.came
kept_came true new old e = ap (λ (a : Acceptor). a.came) e
kept_came false new old e = ap (λ (a : Acceptor). a.came) e

-- an accept changes the row of the listener alone
pub listened : (old new : Table) (key : ℕ) → ChangesRows (λ row. row ≡ listener_key old) old new →
    ChangesRows (λ row. (row ≡ listener_key old) ⊎ (row ≡ key)) old new
listened old new key h = changes_more (λ row. row ≡ listener_key old) (λ row. (row ≡ listener_key old) ⊎ (row ≡ key)) old new (λ row is. inl is) h

-- and then that of the connection is cleared
pub listened_followed : (old mid new : Table) (key : ℕ) → ChangesRows (λ row. row ≡ listener_key old) old mid →
    new ≡ freed mid key → ChangesRows (λ row. (row ≡ listener_key old) ⊎ (row ≡ key)) old new
listened_followed old mid new key h e =
    changes_then (λ row. (row ≡ listener_key old) ⊎ (row ≡ key)) old mid new (listened old mid key h)
    (changes_more (λ row. row ≡ key) (λ row. (row ≡ listener_key old) ⊎ (row ≡ key)) mid new (λ row is. inr is) (freed_changes mid new key e))

module _ {N C : Type 0} (transition : N → NetworkCall C → N → Type 0) (count : ℕ) where
  -- no call was made but one by which the given connection is followed
  abbrev pub FollowsGiven : Option (C × SocketAddr) → N → N → Type 0
  FollowsGiven None old new = new ≡ old
  FollowsGiven (Some came) old new = FollowsAtMostOnce transition came.0 old new

  given_accepted : (accepted : Result (C × SocketAddr) Error) (old new : N) → FollowsGiven (connection_given accepted) old new →
      FollowsAccepted transition accepted old new
  given_accepted (Ok came) old new h = h
  given_accepted (Err error) old new h = h

  -- one bot was accepted if the one accept is followed by no call but that by which its connection is followed
  pub accepts_one : (given : Option (C × SocketAddr)) (old mid new : N) → AcceptsOnce transition count old mid given →
      FollowsGiven given mid new → AcceptsOneBot transition count old new
  accepts_one given old mid new once rest = record {
    accepted = once.accepted;
    mid = mid;
    call = once.call;
    rest = given_accepted once.accepted mid new (rw once.given at rest);
  }

  -- ---- an accept that brings a bot, or none

  accepted_is : (accepted : Result (C × SocketAddr) Error) (came : C × SocketAddr) → Some came ≡ connection_given accepted →
      accepted ≡ Ok came
  accepted_is (Ok other) came h = cc
  accepted_is (Err error) came h = absurd (cc)

  accepts : (came : C × SocketAddr) (old mid : N) → AcceptsOnce transition count old mid (Some came) →
      AcceptsBeside transition count old mid (Ok came)
  accepts came old mid once = rw (accepted_is once.accepted came once.given) at once.call

  pub brings_bot : (given : C) (address : SocketAddr) (key : ℕ) (connection : C) (old mid new : N) →
      AcceptsOnce transition count old mid (Some (given, address)) → transition mid (Follows given key true connection) new →
      BringsBot transition count address key connection old new
  brings_bot given address key connection old mid new once follows = record {
    given = given;
    mid = mid;
    accepts = accepts (given, address) old mid once;
    follows = follows;
  }

  module _ (may_come : SocketAddr → Bool) (old mid : N) where
    failed : (accepted : Result (C × SocketAddr) Error) → AcceptsBeside transition count old mid accepted →
        None ≡ connection_given accepted →
        BringsNoBot transition count may_come old mid NoBots.NoneCame
    failed (Ok came) call h = absurd (cc)
    failed (Err error) call h = Fails error call refl

    pub brings_none : AcceptsOnce transition count old mid None → BringsNoBot transition count may_come old mid NoBots.NoneCame
    brings_none once = failed once.accepted once.call once.given

    pub brings_declined : (came : C × SocketAddr) → AcceptsOnce transition count old mid (Some came) → may_come came.1 ≡ false →
        BringsNoBot transition count may_come old mid (NoBots.MayNotCome came.1)
    brings_declined came once declined = MayNotCome came (accepts came old mid once) declined refl

    pub brings_refused : (came : C × SocketAddr) (new : N) (key : ℕ) (after : C) → AcceptsOnce transition count old mid (Some came) →
        transition mid (Follows came.0 key false after) new →
        BringsNoBot transition count may_come old new (NoBots.NotFollowed came.1)
    brings_refused came new key after once h = IsRefused came mid key after (accepts came old mid once) h refl

module _ {N C : Type 0} (transition : N → NetworkCall C → N → Type 0) where
  -- one more connect, to the next address
  pub connects_on : (addresses : List SocketAddr) (key place tried count : ℕ) (address : SocketAddr) (old mid new : N) →
      tried ≡ place + count → slice_get addresses tried ≡ Some address →
      ConnectsFrom transition addresses key place count old mid → ConnectsOnce transition key address mid new →
      (more : ℕ) × (tried + 1 ≡ place + more) × ConnectsFrom transition addresses key place more old new
  connects_on addresses key place tried count address old mid new at listed before once =
      (suc count, omega (arith, at), (mid, address, before, rw at at listed, once))

  -- ---- a connect that is given up

  pub unreached : (addresses : List SocketAddr) (key : ℕ) (reading due : Option Instant) (before after : ℕ) (old new : N) →
      (is_past reading due ≡ false → length addresses ≤ after) → TriesOn transition addresses key before after old new →
      IsUnreached transition addresses key reading due before old new
  unreached addresses key reading due before after old new all tries = by (is_past reading due) refl
    where
      by : (late : Bool) → is_past reading due ≡ late → IsUnreached transition addresses key reading due before old new
      by true late = IsLate late
      by false early = TriedAll after (all early) tries
