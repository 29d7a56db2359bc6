-- Places of a hub: one that changes, one that is removed, and the sum of all weights.
use Rattle.std.proofs.Common.{◌≡◌, ℕ, ◌+◌, ◌*◌, ◌<◌, ◌≤◌, Bool, true, false, cond, List, [], ◌∷◌, ◌++◌, length, take}
use Rattle.std.proofs.Common.{drop}
use Rattle.std.proofs.Common.{map, get_or, set, suc, Some, refl, sym, ap, ◌∙◌, subst, arith, length-append}
use Rattle.std.specs.Prelude.{◌&&◌, ◌==◌, ◌%◌, nat_le, Ok, Err, Result, All, sum_by, slice_get, remove, option_map}
use Rattle.std.specs.Prelude.{Option, None, IsSome, is_some}
use Rattle.std.proofs.lemmas.List.{map-set, map-append, take-map, drop-map, length-map, length-set, get_or_read}
use Rattle.std.proofs.lemmas.List.Elements.{All-append, All-take, All-drop, All-get_or, All-set, All-push}
use Rattle.std.proofs.lemmas.List.Sums.{sum_by-cons}
use Rattle.std.proofs.lemmas.Option.{slice_get-map, slice_get_read}
use Rattle.daide_frame.specs.declared.side.Side.{Side}
use Rattle.daide_frame.specs.declared.side.Side.TheVariants.{Bot, Server}
use Rattle.daide_words.specs.declared.word.Word.{Word}
use Rattle.daide_protocol.specs.Machine.{Limits, SessionState}
use Rattle.daide_protocol.specs.Wires.{SessionView, holding, IsNew}
use Rattle.daide_protocol.specs.Weight.{weight_of}
use Rattle.daide_protocol.specs.declared.config.Config.{Config}
use Rattle.daide_protocol.specs.declared.config.ConfigError.{ConfigError}
use Rattle.daide_protocol.specs.declared.config.ConfigError.TheVariants as Errors
use Rattle.daide_protocol.specs.Config.{config_fault, is_level, is_body, is_depth}
use Rattle.daide_protocol.specs.Weight.{IsKeptSmall}
use Rattle.daide_protocol.specs.Config.{limits_with}
use Rattle.daide_driver.specs.Hub.{HubView, IsHubSession, with_places, session_bound}
use Rattle.std.proofs.lemmas.Bool.{leb-true}
use Rattle.std.proofs.Math.Nat.{add-mul}

-- ---- places

-- two reads at the same place return the same
pub same_read : {X : Type 0} (items : List X) (i : ℕ) (x y : X) → i < length items → x ≡ get_or items i x →
    y ≡ get_or items i y → x ≡ y
same_read items i x y lt e f = get_or_read items i x lt e y ∙ sym f

module _ {X P : Type 0} (v : X → SessionView × P) where
  pub place_inside : (limits : Limits) (max : ℕ) (items : List X) (i : ℕ) (now : HubView P) →
      ◌≡◌ {A = HubView P} (record { limits = limits; max = max; places = map v items }) now →
      i < length now.places → i < length items
  place_inside limits max items i now e lt =
      let places : map v items ≡ now.places = ap (λ (h : HubView P). h.places) e in
      omega (arith, length-map items v, ap length places)

  -- the pair at a place that was read
  pub place_read : (limits : Limits) (max : ℕ) (items : List X) (i : ℕ) (x : X) (now : HubView P) →
      ◌≡◌ {A = HubView P} (record { limits = limits; max = max; places = map v items }) now →
      i < length now.places → x ≡ get_or items i x → slice_get now.places i ≡ Some (v x)
  place_read limits max items i x now e lt read =
      let places : map v items ≡ now.places = ap (λ (h : HubView P). h.places) e in
      let inside = place_inside limits max items i now e lt in
      sym (ap (λ (ps : List (SessionView × P)). slice_get ps i) places)
      ∙ slice_get-map v items i ∙ ap (option_map v) (slice_get_read items (length items) i x refl inside read)

  -- one place changed
  pub place_set : (limits : Limits) (max : ℕ) (items : List X) (i : ℕ) (x : X) (now : HubView P) →
      ◌≡◌ {A = HubView P} (record { limits = limits; max = max; places = map v items }) now →
      ◌≡◌ {A = HubView P} (record { limits = limits; max = max; places = map v (set items i x) })
      (with_places now (set now.places i (v x)))
  place_set limits max items i x now e =
      subst (λ (h : HubView P). ◌≡◌ {A = HubView P}
      (record { limits = limits; max = max; places = map v (set items i x) }) (with_places h (set h.places i (v x)))) e
      (ap (λ (ps : List (SessionView × P)). record { limits = limits; max = max; places = ps }) (map-set v items i x))

  -- the number of places
  pub places_counted : (limits : Limits) (max : ℕ) (items : List X) (now : HubView P) →
      ◌≡◌ {A = HubView P} (record { limits = limits; max = max; places = map v items }) now →
      length items ≡ length now.places
  places_counted limits max items now e =
      sym (length-map items v) ∙ ap (λ (h : HubView P). length h.places) e

  -- there is a free place
  pub room_here : (limits : Limits) (max : ℕ) (items : List X) (now : HubView P) →
      ◌≡◌ {A = HubView P} (record { limits = limits; max = max; places = map v items }) now →
      length items < max → length now.places < now.max
  room_here limits max items now e lt =
      subst (λ (h : HubView P). length h.places < h.max) e (rw (length-map items v) lt)

  -- one place added
  pub place_added : (limits : Limits) (max : ℕ) (items : List X) (x : X) (now : HubView P) →
      ◌≡◌ {A = HubView P} (record { limits = limits; max = max; places = map v items }) now →
      ◌≡◌ {A = HubView P} (record { limits = limits; max = max; places = map v (items ++ x ∷ []) })
      (with_places now (now.places ++ v x ∷ []))
  place_added limits max items x now e =
      subst (λ (h : HubView P). ◌≡◌ {A = HubView P}
      (record { limits = limits; max = max; places = map v (items ++ x ∷ []) })
      (with_places h (h.places ++ v x ∷ []))) e
      (ap (λ (ps : List (SessionView × P)). record { limits = limits; max = max; places = ps })
      (map-append v items (x ∷ [])))

  map-remove : (items : List X) (i : ℕ) → map v (remove items i) ≡ remove (map v items) i
  map-remove items i =
      map-append v (take i items) (drop (suc i) items)
      ∙ rw (take-map v i items, drop-map v (suc i) items) refl

  -- one place removed
  pub place_removed : (limits : Limits) (max : ℕ) (items : List X) (i : ℕ) (now : HubView P) →
      ◌≡◌ {A = HubView P} (record { limits = limits; max = max; places = map v items }) now →
      ◌≡◌ {A = HubView P} (record { limits = limits; max = max; places = map v (remove items i) })
      (with_places now (remove now.places i))
  place_removed limits max items i now e =
      subst (λ (h : HubView P). ◌≡◌ {A = HubView P}
      (record { limits = limits; max = max; places = map v (remove items i) }) (with_places h (remove h.places i))) e
      (ap (λ (ps : List (SessionView × P)). record { limits = limits; max = max; places = ps }) (map-remove items i))

pub all_removed : {X : Type 0} (Q : X → Type 0) (items : List X) (i : ℕ) → All Q items → All Q (remove items i)
all_removed Q items i h =
    All-append Q (take i items) (drop (suc i) items) (All-take Q i items h) (All-drop Q (suc i) items h)

-- ---- the invariant between calls

module _ {X : Type 0} (seen : X → SessionView) (config : Config) (words : List Word) (max : ℕ) where
  abbrev Limited : X → Type 0
  Limited x = (seen x).state.limits ≡ limits_with config words

  -- one place changed, with the same limits
  pub hosting_set : (capacity : ℕ) (items : List X) (i : ℕ) (x y : X) → i < length items → x ≡ get_or items i x →
      (seen y).state.limits ≡ (seen x).state.limits →
      IsHubSession seen config words max capacity items → IsHubSession seen config words max capacity (set items i y)
  hosting_set capacity items i x y lt read same h =
      let old : Limited x =
      subst (λ (z : X). Limited z) (sym read) (All-get_or (λ (z : X). Limited z) items i x lt h.same_limits) in
      record {
        size = h.size;
        fits = let fits = h.fits in omega (arith, fits, length-set items i y);
        room = h.room;
        same_limits = All-set (λ (z : X). Limited z) items i y (same ∙ old) h.same_limits;
      }

  -- a new session was added
  pub hosting_added : (capacity : ℕ) (items : List X) (x : X) → length items < max → IsNew (limits_with config words) (seen x) →
      IsHubSession seen config words max capacity items → IsHubSession seen config words max capacity (items ++ x ∷ [])
  hosting_added capacity items x lt new h = record {
    size = h.size;
    fits = omega (arith, lt, length-append items (x ∷ []));
    room = h.room;
    same_limits = All-push (λ (z : X). Limited z) items x h.same_limits (ap (λ (s : SessionState). s.limits) new.state);
  }

-- ---- the weight

-- the greatest weight of one session, whatever it received
pub weight_small : (g : SessionView) → ((side : Side) → IsKeptSmall g.state.limits.cap (holding g side)) →
    ((side : Side) → (holding g side).entries ≤ 8 * g.state.limits.max_depth + 16) →
    (length g.wires.bot ≤ 3) × (length g.wires.server ≤ 3) → weight_of g ≤ session_bound g.state.limits
unfolding weight_of
weight_small g kept entries three =
    let bot = (kept Bot).bytes in
    let server = (kept Server).bytes in
    let bot_entries = entries Bot in
    let server_entries = entries Server in
    let to_bot = three.0 in
    let to_server = three.1 in
    omega (arith, bot, server, bot_entries, server_entries, to_bot, to_server)

and_both : (a b : Bool) → (a && b) ≡ true → (a ≡ true) × (b ≡ true)
and_both true true e = (refl, refl)
and_both true false e = absurd (cc)
and_both false b e = absurd (cc)

-- limits that passed their check are small
pub config_small : (config : Config) → config_fault config ≡ Ok tt →
    2 * config.max_body + 16 * config.max_depth + 96 ≤ 135212
config_small config e = go (is_level config.top_level) (is_body config.max_body) (is_depth config.max_depth) refl refl e
  where
    go : (l b d : Bool) → is_body config.max_body ≡ b → is_depth config.max_depth ≡ d →
        ◌≡◌ {A = Result (Unit {0}) ConfigError}
        (cond l (cond b (cond d (Ok tt) (Err Errors.Depth)) (Err Errors.Body)) (Err Errors.Level)) (Ok tt) →
        2 * config.max_body + 16 * config.max_depth + 96 ≤ 135212
    go true true true eb ed e =
        let body : config.max_body ≤ 65526 =
        leb-true config.max_body 65526
        (and_both (nat_le 512 config.max_body) _ (and_both (config.max_body % 2 == 0) _ eb).1).1 in
        let depth : config.max_depth ≤ 254 =
        leb-true config.max_depth 254 (and_both (nat_le 4 config.max_depth) _ ed).1 in
        omega (arith, body, depth)
    go true true false eb ed e = absurd (cc)
    go true false d eb ed e = absurd (cc)
    go false b d eb ed e = absurd (cc)

-- each place is within its bound
pub place_small : {X : Type 0} (seen : X → SessionView) (config : Config) (words : List Word) (max capacity : ℕ)
    (items : List X) (i : ℕ) (x : X) → IsHubSession seen config words max capacity items → i < length items → x ≡ get_or items i x →
    ((side : Side) → IsKeptSmall (seen x).state.limits.cap (holding (seen x) side)) →
    ((side : Side) → (holding (seen x) side).entries ≤ 8 * (seen x).state.limits.max_depth + 16) →
    (length (seen x).wires.bot ≤ 3) × (length (seen x).wires.server ≤ 3) →
    weight_of (seen x) ≤ session_bound (limits_with config words)
place_small {X} seen config words max capacity items i x h lt read kept entries three =
    let same : (seen x).state.limits ≡ limits_with config words =
    subst (λ (y : X). (seen y).state.limits ≡ limits_with config words) (sym read)
    (All-get_or (λ y. (seen y).state.limits ≡ limits_with config words) items i x lt h.same_limits) in
    subst (λ (l : Limits). weight_of (seen x) ≤ session_bound l) same (weight_small (seen x) kept entries three)

pub one_more : (n b total more : ℕ) → total ≤ n * b → more ≤ b → total + more ≤ (n + 1) * b
one_more n b total more h k = rw (add-mul n 1 b) (omega (arith, h, k))

-- the weight of a hub is the sum of its sessions' weights
pub sum_by-map : {X Y : Type 0} (f : Y → ℕ) (v : X → Y) (xs : List X) → sum_by f (map v xs) ≡ sum_by (λ x. f (v x)) xs
sum_by-map f v [] = refl
sum_by-map f v (x ∷ xs) =
    sum_by-cons f (v x) (map v xs) ∙ ap (λ (n : ℕ). f (v x) + n) (sum_by-map f v xs)
    ∙ sym (sum_by-cons (λ x. f (v x)) x xs)

-- ---- the ending of a session

pub is_there : {A : Type 0} (o : Option A) → is_some o ≡ true → IsSome o
is_there None e = absurd (cc)
is_there (Some x) e = refl

pub closed_over : (over quiet : Bool) → (over && quiet) ≡ true → over ≡ true
closed_over true quiet e = refl
closed_over false quiet e = absurd (cc)
