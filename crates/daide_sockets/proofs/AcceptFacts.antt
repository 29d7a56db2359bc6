-- Over a network that is the list of its calls: those of a due accept have at most one accept, and the first connect is to the
-- first address.
use Rattle.std.proofs.Common.{◌≡◌, ◌≤◌, ℕ, zero, suc, ◌+◌, List, [], ◌∷◌, ◌++◌, Some, None, false, true, Result, Ok, Err, refl, ap, ◌∙◌, inl, inr, arith}
use Rattle.std.specs.declared.io.Error.{Error}
use Rattle.std.specs.declared.net.socket_addr.SocketAddr.{SocketAddr}
use Rattle.daide_io.specs.Network.{NetworkCall, AcceptsConnection, BeginsConnect}
use Rattle.daide_sockets.specs.Accepting.{IsNextTry, time_part, AcceptsBeside, LacksDescriptors, HasDescriptors, FollowsAtMostOnce, FollowsAccepted, FollowsBegun, ConnectsFrom, AcceptsThenConnects}

module _ {C : Type 0} where
  -- one more call was made
  abbrev Called : List (NetworkCall C) → NetworkCall C → List (NetworkCall C) → Type 0
  Called old call new = new ≡ old ++ call ∷ []

  abbrev is_accept : NetworkCall C → ℕ
  is_accept (AcceptsConnection accepted) = 1
  is_accept _ = 0

  -- the number of accepts
  abbrev accepts_in : List (NetworkCall C) → ℕ
  accepts_in [] = 0
  accepts_in (call ∷ calls) = is_accept call + accepts_in calls

  accepts_in_both : (xs ys : List (NetworkCall C)) → accepts_in (xs ++ ys) ≡ accepts_in xs + accepts_in ys
  accepts_in_both [] ys = omega arith
  accepts_in_both (call ∷ xs) ys = let rest = accepts_in_both xs ys in omega (arith, rest)

  after_call : (old new : List (NetworkCall C)) (call : NetworkCall C) → Called old call new →
      accepts_in new ≡ accepts_in old + is_accept call
  after_call old new call h =
      let whole = ap accepts_in h ∙ accepts_in_both old (call ∷ []) in
      omega (arith, whole)

  after_follow : (connection : C) (old new : List (NetworkCall C)) → FollowsAtMostOnce Called connection old new →
      accepts_in new ≡ accepts_in old
  after_follow connection old new (inl same) = ap accepts_in same
  after_follow connection old new (inr h) = let call = after_call old new _ h.3 in omega (arith, call)

  after_begun : (key : ℕ) (begun : Result C Error) (old new : List (NetworkCall C)) → FollowsBegun Called key begun old new →
      accepts_in new ≡ accepts_in old
  after_begun key (Ok connection) old new h = let call = after_call old new _ h.2 in omega (arith, call)
  after_begun key (Err error) old new h = ap accepts_in h

  after_accepted : (accepted : Result (C × SocketAddr) Error) (old new : List (NetworkCall C)) →
      FollowsAccepted Called accepted old new → accepts_in new ≡ accepts_in old
  after_accepted (Ok came) old new h = after_follow came.0 old new h
  after_accepted (Err error) old new h = ap accepts_in h

  after_connects : (addresses : List SocketAddr) (key place count : ℕ) (old new : List (NetworkCall C)) →
      ConnectsFrom Called addresses key place count old new → accepts_in new ≡ accepts_in old
  after_connects addresses key place zero old new h = ap accepts_in h
  after_connects addresses key place (suc count) old new h =
      let before = after_connects addresses key place count old h.0 h.2 in
      let call = after_call h.0 h.4.mid _ h.4.call in
      let rest = after_begun key h.4.begun h.4.mid new h.4.rest in
      omega (arith, before, call, rest)

  -- an accept without its descriptors is no accept
  after_beside : (count : ℕ) (accepted : Result (C × SocketAddr) Error) (old new : List (NetworkCall C)) →
      AcceptsBeside Called count old new accepted → accepts_in new ≤ accepts_in old + 1
  after_beside count accepted old new (LacksDescriptors error call e) =
      let checks = after_call old new _ call in omega (arith, checks)
  after_beside count accepted old new (HasDescriptors mid checked call) =
      let checks = after_call old mid _ checked in
      let accepts = after_call mid new _ call in
      omega (arith, checks, accepts)

  -- with them it is one
  after_given : (count : ℕ) (came : C × SocketAddr) (old new : List (NetworkCall C)) →
      AcceptsBeside Called count old new (Ok came) → accepts_in new ≡ accepts_in old + 1
  after_given count came old new (LacksDescriptors error call e) = absurd (cc)
  after_given count came old new (HasDescriptors mid checked call) =
      let checks = after_call old mid _ checked in
      let accepts = after_call mid new _ call in
      omega (arith, checks, accepts)

  at_most_one_is_accepted : (descriptors : ℕ) (servers : List SocketAddr) (key : ℕ) (calls : List (NetworkCall C)) →
      AcceptsThenConnects Called descriptors servers key [] calls → accepts_in calls ≤ 1
  at_most_one_is_accepted descriptors servers key calls h =
      let call = after_beside descriptors h.accepts.accepted [] h.accepts.mid h.accepts.call in
      let rest = after_accepted h.accepts.accepted h.accepts.mid h.mid h.accepts.rest in
      let connects = after_connects servers key 0 h.tried h.mid calls h.connects in
      omega (arith, call, rest, connects)

  first_address_is_first : (one two : SocketAddr) (key : ℕ) (calls : List (NetworkCall C)) →
      ConnectsFrom Called (one ∷ two ∷ []) key 0 1 [] calls →
      (begun : Result C Error) × (mid : List (NetworkCall C)) × (mid ≡ BeginsConnect one begun ∷ []) × FollowsBegun Called key begun mid calls
  first_address_is_first one two key calls h = (h.4.begun, h.4.mid, first, h.4.rest)
    where
      address : h.1 ≡ one
      address = let listed : Some one ≡ Some h.1 = h.3 in cc

      first : h.4.mid ≡ BeginsConnect one h.4.begun ∷ []
      first = h.4.call ∙ ap (λ (calls : List (NetworkCall C)). calls ++ BeginsConnect h.1 h.4.begun ∷ []) h.2
          ∙ ap (λ (a : SocketAddr). BeginsConnect a h.4.begun ∷ []) address

-- ---- the time of each address

-- of five seconds, in nanoseconds
parts_are_equal : (time_part 5000000000 1 ≡ 5000000000) × (time_part 5000000000 2 ≡ 2500000000) × (time_part 5000000000 3 ≡ 1666666666)
    × (time_part 5000000000 0 ≡ 5000000000)
parts_are_equal = (refl, refl, refl, refl)

none_is_next : IsNextTry None false 2500000000 None × IsNextTry None true 0 None
none_is_next = (refl, refl)
