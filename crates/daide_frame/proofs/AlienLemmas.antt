-- The first alien token of a growing body.
use Rattle.std.proofs.Common.{◌≡◌, ℕ, zero, suc, ◌+◌, ◌-◌, ◌*◌, ◌%◌, ◌<◌, ◌≤◌, Bool, true, false, cond, List, [], ◌∷◌}
use Rattle.std.proofs.Common.{◌++◌, length, get_or, take, drop, Option, Some, None, refl, sym, ap, ◌∙◌, arith}
use Rattle.std.proofs.Common.{length-drop, length-take, drop-cons, subst, leb, inl, inr, ◌⊎◌, not}
use Rattle.daide_frame.proofs.Common.{leb_tells, take-append-drop, AreKnown}
use Rattle.daide_token.specs.Token.{token_of_bytes}
use Rattle.daide_token.specs.Class.{has_known_category}
use Rattle.daide_frame.specs.Frames.{is_alien, shifted_place, first_alien}

pub is_alien-is : (high low : ℕ) → is_alien high low ≡ not (has_known_category (token_of_bytes (high ∷ low ∷ [])))
unfolding is_alien
is_alien-is high low = refl

pub shifted_place-shifted_place : (a b : ℕ) (o : Option ℕ) → shifted_place a (shifted_place b o) ≡ shifted_place (a + b) o
shifted_place-shifted_place a b None = refl
shifted_place-shifted_place a b (Some n) = ap Some (omega arith)

shifted_place-none : (by : ℕ) (o : Option ℕ) → shifted_place by o ≡ None → o ≡ None
shifted_place-none by None e = refl
shifted_place-none by (Some n) e = absurd (cc)

-- what holds of a token and of the rest, if there is no alien token
none_first : (b : Bool) (o : Option ℕ) → cond b (Some 2) (shifted_place 2 o) ≡ None → (b ≡ false) × (o ≡ None)
none_first true o e = absurd (cc)
none_first false o e = (refl, shifted_place-none 2 o e)

abbrev some_of : Option ℕ → ℕ
some_of None = 0
some_of (Some n) = n

-- an offset in a list, and the bytes before it
pub record IsEndOf (v : List ℕ) (n : ℕ) : Type 0 where
  pub within : n ≤ length v
  pub told : first_alien (take n v) ≡ Some n

later_end : (high low : ℕ) (rest : List ℕ) (n k : ℕ) → is_alien high low ≡ false → IsEndOf rest k → n ≡ suc (suc k) →
    IsEndOf (high ∷ low ∷ rest) n
later_end high low rest n k b h e =
    rw e (record { within = omega (arith, h.within); told = rw b (ap (shifted_place 2) h.told ∙ ap Some (omega arith)) })

-- an alien token is the first one of the bytes up to its end
pub first_alien-end : (v : List ℕ) (n : ℕ) → first_alien v ≡ Some n → IsEndOf v n
first_alien-end [] n e = absurd (cc)
first_alien-end (high ∷ []) n e = absurd (cc)
first_alien-end (high ∷ low ∷ rest) n e =
    by_first (is_alien high low) refl (first_alien rest) refl (λ k. first_alien-end rest k)
  where
    by_first : (b : Bool) → is_alien high low ≡ b → (o : Option ℕ) → first_alien rest ≡ o →
        ((k : ℕ) → first_alien rest ≡ Some k → IsEndOf rest k) → IsEndOf (high ∷ low ∷ rest) n
    by_first true b o q later =
        let two : ◌≡◌ {A = Option ℕ} (Some 2) (Some n) =
        sym (ap (λ (t : Bool). cond t (Some 2) (shifted_place 2 (first_alien rest))) b) ∙ e in
        let same : 2 ≡ n = ap some_of two in
        rw (sym same) (record { within = omega arith; told = rw b refl })
    by_first false b None q later =
        let none : ◌≡◌ {A = Option ℕ} None (Some n) =
        sym (ap (λ (t : Bool). cond t (Some 2) (shifted_place 2 (first_alien rest))) b ∙ ap (shifted_place 2) q) ∙ e in
        absurd (cc)
    by_first false b (Some k) q later =
        let some : ◌≡◌ {A = Option ℕ} (Some (2 + k)) (Some n) =
        sym (ap (λ (t : Bool). cond t (Some 2) (shifted_place 2 (first_alien rest))) b ∙ ap (shifted_place 2) q) ∙ e in
        later_end high low rest n k b (later k q) (let same : 2 + k ≡ n = ap some_of some in omega arith)

-- further bytes do not move the first alien token
pub first_alien-grown : (v more : List ℕ) (n : ℕ) → first_alien v ≡ Some n → first_alien (v ++ more) ≡ Some n
first_alien-grown [] more n e = absurd (cc)
first_alien-grown (high ∷ []) more n e = absurd (cc)
first_alien-grown (high ∷ low ∷ rest) more n e =
    by_first (is_alien high low) refl (first_alien rest) refl (λ k. first_alien-grown rest more k)
  where
    by_first : (b : Bool) → is_alien high low ≡ b → (o : Option ℕ) → first_alien rest ≡ o →
        ((k : ℕ) → first_alien rest ≡ Some k → first_alien (rest ++ more) ≡ Some k) →
        first_alien (high ∷ low ∷ (rest ++ more)) ≡ Some n
    by_first true b o q later = rw b (sym (ap (λ (t : Bool). cond t (Some 2) (shifted_place 2 (first_alien rest))) b) ∙ e)
    by_first false b None q later =
        let none : ◌≡◌ {A = Option ℕ} None (Some n) =
        sym (ap (λ (t : Bool). cond t (Some 2) (shifted_place 2 (first_alien rest))) b ∙ ap (shifted_place 2) q) ∙ e in
        absurd (cc)
    by_first false b (Some k) q later =
        let some : ◌≡◌ {A = Option ℕ} (Some (2 + k)) (Some n) =
        sym (ap (λ (t : Bool). cond t (Some 2) (shifted_place 2 (first_alien rest))) b ∙ ap (shifted_place 2) q) ∙ e in
        rw b (ap (shifted_place 2) (later k q) ∙ some)

pub shifted_place-zero : (o : Option ℕ) → o ≡ shifted_place 0 o
shifted_place-zero None = refl
shifted_place-zero (Some n) = ap Some (omega arith)

-- if the first tokens are not alien, only the others matter
pub first_alien-past : (v more : List ℕ) → length v % 2 ≡ 0 → first_alien v ≡ None →
    first_alien (v ++ more) ≡ shifted_place (length v) (first_alien more)
first_alien-past [] more h e = shifted_place-zero (first_alien more)
first_alien-past (x ∷ []) more h e = absurd (omega arith)
first_alien-past (high ∷ low ∷ rest) more h e =
    let k = none_first (is_alien high low) (first_alien rest) e in
    rw k.0 (ap (shifted_place 2) (first_alien-past rest more (omega arith) k.1)
    ∙ shifted_place-shifted_place 2 (length rest) (first_alien more)
    ∙ ap (λ (n : ℕ). shifted_place n (first_alien more)) (omega arith))

-- the same for a list in two parts
pub first_alien-known : (v : List ℕ) (n : ℕ) → n % 2 ≡ 0 → n ≤ length v → first_alien (take n v) ≡ None →
    first_alien v ≡ shifted_place n (first_alien (drop n v))
first_alien-known v n h l e =
    let size : length (take n v) ≡ n = omega (arith, length-take n v) in
    ap first_alien (sym (take-append-drop n v)) ∙ first_alien-past (take n v) (drop n v) (omega arith) e
    ∙ ap (λ (m : ℕ). shifted_place m (first_alien (drop n v))) size

-- the first alien token from an index on, by the token at that index
pub first_alien-drop : (v : List ℕ) (n : ℕ) → n + 1 < length v →
    first_alien (drop n v)
    ≡ cond (is_alien (get_or v n 0) (get_or v (n + 1) 0)) (Some 2) (shifted_place 2 (first_alien (drop (n + 2) v)))
first_alien-drop v n h =
    let one : drop n v ≡ get_or v n 0 ∷ drop (suc n) v = drop-cons v n 0 (omega arith) in
    let two : drop (suc n) v ≡ get_or v (suc n) 0 ∷ drop (suc (suc n)) v = drop-cons v (suc n) 0 (omega arith) in
    let next : suc n ≡ n + 1 = omega arith in
    let after : suc (suc n) ≡ n + 2 = omega arith in
    ap first_alien (one ∙ ap (λ (t : List ℕ). get_or v n 0 ∷ t) two)
    ∙ ap (λ (m : ℕ). cond (is_alien (get_or v n 0) (get_or v m 0)) (Some 2)
    (shifted_place 2 (first_alien (drop (suc (suc n)) v)))) next
    ∙ ap (λ (m : ℕ). cond (is_alien (get_or v n 0) (get_or v (n + 1) 0)) (Some 2) (shifted_place 2 (first_alien (drop m v))))
    after

-- what a check of one token after the other finds, if no earlier token is alien

pub first_alien-here : (v : List ℕ) (n : ℕ) → n + 1 < length v → is_alien (get_or v n 0) (get_or v (n + 1) 0) ≡ true →
    first_alien v ≡ shifted_place n (first_alien (drop n v)) → Some (n + 2) ≡ first_alien v
first_alien-here v n h a e =
    sym (e ∙ ap (shifted_place n) (first_alien-drop v n h
    ∙ ap (λ (b : Bool). cond b (Some 2) (shifted_place 2 (first_alien (drop (n + 2) v)))) a))

pub first_alien-next : (v : List ℕ) (n m : ℕ) → m ≡ n + 2 → n + 1 < length v →
    is_alien (get_or v n 0) (get_or v (n + 1) 0) ≡ false → first_alien v ≡ shifted_place n (first_alien (drop n v)) →
    first_alien v ≡ shifted_place m (first_alien (drop m v))
first_alien-next v n m q h a e =
    e ∙ ap (shifted_place n) (first_alien-drop v n h
    ∙ ap (λ (b : Bool). cond b (Some 2) (shifted_place 2 (first_alien (drop (n + 2) v)))) a)
    ∙ shifted_place-shifted_place n 2 (first_alien (drop (n + 2) v)) ∙ ap (λ (k : ℕ). shifted_place k (first_alien (drop k v))) (sym q)

-- the same for a run of known tokens
pub first_alien-known_run : (v : List ℕ) (first n : ℕ) → 2 * (first + n) ≤ length v → AreKnown v first n →
    first_alien v ≡ shifted_place (2 * first) (first_alien (drop (2 * first) v)) →
    first_alien v ≡ shifted_place (2 * (first + n)) (first_alien (drop (2 * (first + n)) v))
first_alien-known_run v first zero inside known before =
    let none : first + 0 ≡ first = omega arith in
    rw none before
first_alien-known_run v first (suc n) inside known before =
    first_alien-next v (2 * (first + n)) (2 * (first + suc n)) (omega arith) (omega (arith, inside))
    (known n (omega arith))
    (first_alien-known_run v first n (omega (arith, inside)) (λ k less. known k (omega arith)) before)

-- one token more
pub known_more : (v : List ℕ) (first n : ℕ) → AreKnown v first n →
    is_alien (get_or v (2 * (first + n)) 0) (get_or v (2 * (first + n) + 1) 0) ≡ false → AreKnown v first (n + 1)
known_more v first n known here k less = by_place (leb_tells (k + 1) n)
  where
    by_place : ((leb (k + 1) n ≡ true) × (k + 1 ≤ n)) ⊎ ((leb (k + 1) n ≡ false) × (n < k + 1)) →
        is_alien (get_or v (2 * (first + k)) 0) (get_or v (2 * (first + k) + 1) 0) ≡ false
    by_place (inl t) = known k (omega (arith, t.1))
    by_place (inr t) =
        let same : n ≡ k = omega (arith, t.1, less) in
        subst (λ (p : ℕ). is_alien (get_or v (2 * (first + p)) 0) (get_or v (2 * (first + p) + 1) 0) ≡ false) same here

-- a part of a run of known tokens is a run of known tokens
pub known_from : (v : List ℕ) (first n later m : ℕ) → AreKnown v first n → first ≤ later → later + m ≡ first + n →
    AreKnown v later m
known_from v first n later m known below end k less =
    let same : first + (later - first + k) ≡ later + k = omega arith in
    subst (λ (p : ℕ). is_alien (get_or v (2 * p) 0) (get_or v (2 * p + 1) 0) ≡ false) same
    (known (later - first + k) (omega arith))

first_alien-short : (v : List ℕ) → length v ≤ 1 → first_alien v ≡ None
first_alien-short [] h = refl
first_alien-short (high ∷ []) h = refl
first_alien-short (high ∷ low ∷ rest) h = absurd (omega arith)

pub first_alien-none : (v : List ℕ) (n : ℕ) → length v ≤ n + 1 → first_alien v ≡ shifted_place n (first_alien (drop n v)) →
    None ≡ first_alien v
first_alien-none v n h e =
    sym (e ∙ ap (shifted_place n) (first_alien-short (drop n v) (omega (arith, length-drop n v))))

-- a part has no alien token if the whole has none
pub first_alien-part : (v more : List ℕ) → first_alien (v ++ more) ≡ None → first_alien v ≡ None
first_alien-part v more e = by_place (first_alien v) refl
  where
    by_place : (o : Option ℕ) → first_alien v ≡ o → first_alien v ≡ None
    by_place None q = q
    by_place (Some n) q = absurd (let k = first_alien-grown v more n q in cc)

-- whether the last token of a list is alien
abbrev pub ends_alien : List ℕ → Bool
ends_alien [] = false
ends_alien (high ∷ []) = false
ends_alien (high ∷ low ∷ []) = is_alien high low
ends_alien (high ∷ low ∷ x ∷ rest) = ends_alien (x ∷ rest)

ends_alien-past : (high low : ℕ) (rest : List ℕ) (x : ℕ) →
    ends_alien (high ∷ low ∷ (rest ++ x ∷ [])) ≡ ends_alien (rest ++ x ∷ [])
ends_alien-past high low [] x = refl
ends_alien-past high low (y ∷ rest) x = refl

shifted_place-cond : (b : Bool) (n : ℕ) → shifted_place 2 (cond b (Some (n + 1)) None) ≡ cond b (Some (suc (suc n) + 1)) None
shifted_place-cond true n = ap Some (omega arith)
shifted_place-cond false n = refl

-- one more byte can complete an alien token only at the end
pub alien-push : (w : List ℕ) (x : ℕ) → first_alien w ≡ None →
    first_alien (w ++ x ∷ []) ≡ cond (ends_alien (w ++ x ∷ [])) (Some (length w + 1)) None
alien-push [] x e = refl
alien-push (high ∷ []) x e = refl
alien-push (high ∷ low ∷ rest) x e =
    let k = none_first (is_alien high low) (first_alien rest) e in
    rw k.0 (rw (alien-push rest x k.1)
    (rw (ends_alien-past high low rest x) (shifted_place-cond (ends_alien (rest ++ x ∷ [])) (length rest))))
