use Rattle.std.proofs.Common.{vec_capacity}
use Rattle.daide_log.proofs.Common.{◌≡◌, ◌≤◌, All, replicate, length, initial_state, limits_with, words_of, states_of}
use Rattle.daide_log.proofs.Common.{IsReady}
use Rattle.daide_log.proofs.opening.open_sessions.Given as goal

-- this number of sessions was created, and there is room for all
abbrev pub invariant-loop-session : goal.invariant-loop-session
invariant-loop-session g l =
    (states_of l.sessions.items ≡ replicate l._session (initial_state (limits_with l.head.limits.config (words_of l.head.words))))
    × All (IsReady l.head.limits.config (words_of l.head.words)) l.sessions.items × (length l.sessions.items ≡ l._session) × (l.count ≤ vec_capacity l.sessions)
