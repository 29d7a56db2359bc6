-- The places of a run that are to be visited: two lists, in which each place is at most once. (own)
use Rattle.std.specs.Prelude.{◌≡◌, ℕ, zero, suc, ◌+◌, ◌⊎◌, Bool, true, false, not, ◌&&◌, nat_lt, if◌then◌else◌, List, [], ◌∷◌, ◌++◌, get_or}

-- those that were at rest and became ready, those that had turns and have more to do, and how many places there are
pub record ReadyView : Type 0 where
  pub fresh : List ℕ
  pub moving : List ℕ
  pub places : ℕ

-- all places of a queue
abbrev pub queued_places : ReadyView → List ℕ
queued_places queue = queue.fresh ++ queue.moving

-- ---- each at most once

-- 1 if two places are the same, else 0
abbrev pub is_same : ℕ → ℕ → ℕ
is_same zero zero = 1
is_same zero (suc other) = 0
is_same (suc one) zero = 0
is_same (suc one) (suc other) = is_same one other

-- how often a place is in a list
abbrev pub occurrences_of : ℕ → List ℕ → ℕ
occurrences_of place [] = 0
occurrences_of place (one ∷ others) = is_same one place + occurrences_of place others

-- whether a place is in a list
abbrev pub is_among : ℕ → List ℕ → Bool
is_among place places = nat_lt 0 (occurrences_of place places)

abbrev pub one_if : Bool → ℕ
one_if true = 1
one_if false = 0

abbrev pub mark_at : List Bool → ℕ → Bool
mark_at marks place = get_or marks place false

-- a place is in the list once if it is marked, and else never
abbrev pub AreMarked : List Bool → List ℕ → Type 0
AreMarked marks places = (place : ℕ) → occurrences_of place places ≡ one_if (mark_at marks place)

-- ---- calls

abbrev pub is_queued : ReadyView → ℕ → Bool
is_queued queue place = is_among place (queued_places queue)

-- it is a place, and not in the queue
abbrev pub may_join : ReadyView → ℕ → Bool
may_join queue place = nat_lt place queue.places && not (is_queued queue place)

-- a place that may join goes to the end of `fresh`
abbrev pub woken : ReadyView → ℕ → ReadyView
woken queue place = if may_join queue place then record queue { fresh = queue.fresh ++ place ∷ [] } else queue

-- several places, one after another
abbrev pub woken_all : List ℕ → ReadyView → ReadyView
woken_all [] queue = queue
woken_all (place ∷ places) queue = woken_all places (woken queue place)

-- a place that may join goes to the end of `moving`
abbrev pub put_back : ReadyView → ℕ → ReadyView
put_back queue place = if may_join queue place then record queue { moving = queue.moving ++ place ∷ [] } else queue

-- this was the first place of `fresh`, or of `moving`
abbrev pub TakesFresh : ReadyView → ℕ → ReadyView → Type 0
TakesFresh old place new = old ≡ record new { fresh = place ∷ new.fresh }

abbrev pub TakesMoving : ReadyView → ℕ → ReadyView → Type 0
TakesMoving old place new = old ≡ record new { moving = place ∷ new.moving }

-- the next place is the first of `fresh`, or of `moving` if `fresh` has none; the other way round without `fresh_first`
abbrev pub TakesNext : Bool → ReadyView → ℕ → ReadyView → Type 0
TakesNext true old place new = TakesFresh old place new ⊎ ((old.fresh ≡ []) × TakesMoving old place new)
TakesNext false old place new = TakesMoving old place new ⊎ ((old.moving ≡ []) × TakesFresh old place new)
