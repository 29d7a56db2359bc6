-- The scan of an HLO after more of its tokens.
use Rattle.std.proofs.Common.{◌==◌, reverse, get_or}
use Rattle.std.proofs.lemmas.List.{reverse-append, length-reverse, get_or_append_left}
use Rattle.daide_protocol.proofs.Common.{◌≡◌, ℕ, zero, suc, ◌+◌, ◌*◌, ◌<◌, Bool, true, false, List, [], ◌∷◌, ◌++◌}
use Rattle.daide_protocol.proofs.Common.{length, take, Option, Some, None, refl, sym, ap, ◌∙◌, arith, append_assoc}
use Rattle.daide_protocol.proofs.Common.{append-nil, ℤ, if◌then◌else◌, hlo, tokens_of, lvl_scan_of}
use Rattle.daide_protocol.specs.declared.hlo.LvlScan.{LvlScan}
use Rattle.daide_protocol.specs.declared.hlo.LvlScan.TheVariants.{NoToken, NoHlo, NoNumber, Number}
use Rattle.daide_protocol.specs.HloLevel.{or_else, option_number, first_level, before_last, lvl_scan_by}

-- ---- the first option, with one more token

none_later : (o : Option ℤ) → or_else o None ≡ o
none_later None = refl
none_later (Some n) = refl

first_of_three : (a b c : Option ℤ) → or_else a (or_else b c) ≡ or_else (or_else a b) c
first_of_three None b c = refl
first_of_three (Some n) b c = refl

-- a token at the front is not one of the last ones
pub last_of_more : (places token : ℕ) (tokens : List ℕ) → places < length tokens →
    before_last places (token ∷ tokens) ≡ before_last places tokens
last_of_more places token tokens within =
    ap (λ (x : List ℕ). get_or x places 0) (reverse-append (token ∷ []) tokens)
    ∙ get_or_append_left (reverse tokens) (token ∷ []) 0 places (omega (arith, within, length-reverse tokens))

-- the option that one more token completes
abbrev ended : List ℕ → ℕ → Option ℤ
ended tokens t = option_number (before_last 2 tokens ∷ before_last 1 tokens ∷ before_last 0 tokens ∷ t ∷ [])

-- the first option is the first of the earlier tokens or, without one there, the one that the last token completes
pub first_level-next : (tokens : List ℕ) (t : ℕ) →
    first_level (tokens ++ t ∷ []) ≡ or_else (first_level tokens) (ended tokens t)
first_level-next [] t = refl
first_level-next (a ∷ []) t = refl
first_level-next (a ∷ b ∷ []) t = refl
first_level-next (a ∷ b ∷ c ∷ []) t = none_later (option_number (a ∷ b ∷ c ∷ t ∷ []))
first_level-next (a ∷ b ∷ c ∷ d ∷ rest) t =
    let here = option_number (a ∷ b ∷ c ∷ d ∷ rest) in
    let later = first_level (b ∷ c ∷ d ∷ rest) in
    ap (or_else here) (first_level-next (b ∷ c ∷ d ∷ rest) t)
    ∙ first_of_three here later (ended (b ∷ c ∷ d ∷ rest) t)
    ∙ ap (or_else (or_else here later)) (rw (
      last_of_more 2 a (b ∷ c ∷ d ∷ rest) (omega arith),
      last_of_more 1 a (b ∷ c ∷ d ∷ rest) (omega arith),
      last_of_more 0 a (b ∷ c ∷ d ∷ rest) (omega arith),
    ) refl)

-- ---- the scan after one more token

last_added : (tokens : List ℕ) (t : ℕ) → before_last 0 (tokens ++ t ∷ []) ≡ t
last_added tokens t = ap (λ (x : List ℕ). get_or x 0 0) (reverse-append tokens (t ∷ []))

moved_back : (places : ℕ) (tokens : List ℕ) (t : ℕ) →
    before_last (suc places) (tokens ++ t ∷ []) ≡ before_last places tokens
moved_back places tokens t = ap (λ (x : List ℕ). get_or x (suc places) 0) (reverse-append tokens (t ∷ []))

-- the scan from an HLO's last four tokens
abbrev pub found_with : Option ℤ → ℕ → ℕ → ℕ → LvlScan
found_with (Some number) second last t = Number number
found_with None second last t = NoNumber second last t

lvl_scan_by-next : (o : Option ℤ) (tokens : List ℕ) (t : ℕ) →
    lvl_scan_by o (tokens ++ t ∷ []) ≡ found_with o (before_last 1 tokens) (before_last 0 tokens) t
lvl_scan_by-next (Some number) tokens t = refl
lvl_scan_by-next None tokens t = rw (moved_back 1 tokens t, moved_back 0 tokens t, last_added tokens t) refl

-- there was no token yet
pub none_came : (tokens : List ℕ) → NoToken ≡ lvl_scan_of tokens → tokens ≡ []
none_came [] e = refl
none_came (x ∷ tokens) e = go (x == hlo) refl (first_level (x ∷ tokens)) refl
  where
    go : (k : Bool) → (x == hlo) ≡ k → (o : Option ℤ) → first_level (x ∷ tokens) ≡ o → x ∷ tokens ≡ []
    go false h o f = absurd (let e2 : NoToken ≡ NoHlo = e ∙ rw h refl in cc)
    go true h None f = absurd (let e2 : NoToken ≡ lvl_scan_by None (x ∷ tokens) = e ∙ rw (h, f) refl in cc)
    go true h (Some n) f = absurd (let e2 : NoToken ≡ Number n = e ∙ rw (h, f) refl in cc)

-- the first token
pub first_found : (t : ℕ) (k : Bool) → (t == hlo) ≡ k → lvl_scan_of (t ∷ []) ≡ (if k then NoNumber 0 0 t else NoHlo)
first_found t true e = rw e refl
first_found t false e = rw e refl

-- a first token other than HLO
pub no_hlo-begins : (tokens : List ℕ) (t : ℕ) → NoToken ≡ lvl_scan_of tokens → (t == hlo) ≡ false →
    NoHlo ≡ lvl_scan_of (tokens ++ t ∷ [])
no_hlo-begins tokens t none other =
    sym (ap (λ (l : List ℕ). lvl_scan_of (l ++ t ∷ [])) (none_came tokens none) ∙ first_found t false other)

-- a message that is no HLO stays one
pub no_hlo-next : (tokens : List ℕ) (t : ℕ) → NoHlo ≡ lvl_scan_of tokens → NoHlo ≡ lvl_scan_of (tokens ++ t ∷ [])
no_hlo-next [] t e = absurd (cc)
no_hlo-next (x ∷ tokens) t e = go (x == hlo) refl (first_level (x ∷ tokens)) refl
  where
    go : (k : Bool) → (x == hlo) ≡ k → (o : Option ℤ) → first_level (x ∷ tokens) ≡ o
        → NoHlo ≡ lvl_scan_of (x ∷ (tokens ++ t ∷ []))
    go false h o f = rw h refl
    go true h None f = absurd (let e2 : NoHlo ≡ lvl_scan_by None (x ∷ tokens) = e ∙ rw (h, f) refl in cc)
    go true h (Some n) f = absurd (let e2 : NoHlo ≡ Number n = e ∙ rw (h, f) refl in cc)

-- the number of the first option is kept
pub number-next : (tokens : List ℕ) (t : ℕ) (n : ℤ) → Number n ≡ lvl_scan_of tokens →
    Number n ≡ lvl_scan_of (tokens ++ t ∷ [])
number-next [] t n e = absurd (cc)
number-next (x ∷ tokens) t n e = go (x == hlo) refl (first_level (x ∷ tokens)) refl
  where
    go : (k : Bool) → (x == hlo) ≡ k → (o : Option ℤ) → first_level (x ∷ tokens) ≡ o
        → Number n ≡ lvl_scan_of (x ∷ (tokens ++ t ∷ []))
    go false h o f = absurd (let e2 : Number n ≡ NoHlo = e ∙ rw h refl in cc)
    go true h None f = absurd (let e2 : Number n ≡ lvl_scan_by None (x ∷ tokens) = e ∙ rw (h, f) refl in cc)
    go true h (Some m) f =
        let same : Number n ≡ Number m = e ∙ rw (h, f) refl in
        same ∙ rw (h, first_level-next (x ∷ tokens) t, f) refl

-- an HLO without an option so far
pub no_number-next : (tokens : List ℕ) (t third second last : ℕ) → NoNumber third second last ≡ lvl_scan_of tokens →
    found_with (option_number (third ∷ second ∷ last ∷ t ∷ [])) second last t ≡ lvl_scan_of (tokens ++ t ∷ [])
no_number-next [] t third second last e = absurd (cc)
no_number-next (x ∷ tokens) t third second last e = go (x == hlo) refl (first_level (x ∷ tokens)) refl
  where
    m : List ℕ
    m = x ∷ tokens

    go : (k : Bool) → (x == hlo) ≡ k → (o : Option ℤ) → first_level m ≡ o →
        found_with (option_number (third ∷ second ∷ last ∷ t ∷ [])) second last t ≡ lvl_scan_of (m ++ t ∷ [])
    go false h o f = absurd (let e2 : NoNumber third second last ≡ NoHlo = e ∙ rw h refl in cc)
    go true h (Some n) f = absurd (let e2 : NoNumber third second last ≡ Number n = e ∙ rw (h, f) refl in cc)
    go true h None f =
        let same : NoNumber third second last ≡ NoNumber (before_last 2 m) (before_last 1 m) (before_last 0 m)
        = e ∙ rw (h, f) refl in
        let a : third ≡ before_last 2 m = cc in
        let b : second ≡ before_last 1 m = cc in
        let c : last ≡ before_last 0 m = cc in
        rw (h, a, b, c) (sym (ap (λ (o : Option ℤ). lvl_scan_by o (m ++ t ∷ [])) (first_level-next m t ∙ rw f refl)
        ∙ lvl_scan_by-next (ended m t) m t))

-- ---- more tokens

pub no_hlo-stays : (tokens more : List ℕ) → NoHlo ≡ lvl_scan_of tokens → NoHlo ≡ lvl_scan_of (tokens ++ more)
no_hlo-stays tokens [] e = e ∙ ap lvl_scan_of (sym (append-nil tokens))
no_hlo-stays tokens (t ∷ more) e =
    no_hlo-stays (tokens ++ t ∷ []) more (no_hlo-next tokens t e) ∙ ap lvl_scan_of (append_assoc tokens (t ∷ []) more)

pub number-stays : (tokens more : List ℕ) (n : ℤ) → Number n ≡ lvl_scan_of tokens → Number n ≡ lvl_scan_of (tokens ++ more)
number-stays tokens [] n e = e ∙ ap lvl_scan_of (sym (append-nil tokens))
number-stays tokens (t ∷ more) n e =
    number-stays (tokens ++ t ∷ []) more n (number-next tokens t n e) ∙ ap lvl_scan_of (append_assoc tokens (t ∷ []) more)

-- ---- the tokens of a body

pub first_tokens : (i : ℕ) (b : List ℕ) → tokens_of (take (2 * i) b) ≡ take i (tokens_of b)
first_tokens zero b = refl
first_tokens (suc i) [] = let two : 2 * suc i ≡ suc (suc (2 * i)) = omega arith in rw two refl
first_tokens (suc i) (x ∷ []) = let two : 2 * suc i ≡ suc (suc (2 * i)) = omega arith in rw two refl
first_tokens (suc i) (x ∷ y ∷ b) =
    let two : 2 * suc i ≡ suc (suc (2 * i)) = omega arith in
    rw two (ap (λ (m : List ℕ). (x * 256 + y) ∷ m) (first_tokens i b))
