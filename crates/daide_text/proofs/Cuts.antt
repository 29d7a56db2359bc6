-- Each line has exactly one cut into pieces.
use Rattle.std.proofs.Common.{if◌then◌else◌, ◌≡◌, ◌==◌, ◌&&◌, not, ℕ, zero, suc, ◌≤◌, Bool, true, false}
use Rattle.std.proofs.Common.{List, [], ◌∷◌, ◌++◌, length, length-append, append_assoc, append-nil, refl, sym, ◌∙◌, ap, arith, subst}
use Rattle.std.specs.List.{list_all}
use Rattle.std.proofs.lemmas.Bool.{eqb-true}
use Rattle.std.proofs.lemmas.Bool.Decides.{nat_tests}
use Rattle.daide_text.specs.Line.{IsCut, IsPieceBefore, Piece, begins_in_word, bytes_of_piece, is_in_quote, is_in_word}
use Rattle.daide_text.specs.Line.{is_sign, is_space, Blank, Sign, Word, Quote, Unclosed}

pub both : (a b : Bool) → (a && b) ≡ true → (a ≡ true) × (b ≡ true)
both true b e = (refl, e)
both false b e = absurd (cc)

pub together : (a b : Bool) → a ≡ true → b ≡ true → (a && b) ≡ true
together a b e f = rw (e, f) refl

-- ---- existence

-- a text without quotes before a quote; or no quote at all
data QuoteSplit (line : List ℕ) : Type 0 where
  closed : (front after : List ℕ) → line ≡ front ++ 39 ∷ after → list_all is_in_quote front ≡ true → QuoteSplit line
  unclosed : list_all is_in_quote line ≡ true → QuoteSplit line

split_quote : (line : List ℕ) → QuoteSplit line
split_quote [] = unclosed refl
split_quote (c ∷ line) = go (c == 39) refl (split_quote line)
  where
    go : (b : Bool) → (c == 39) ≡ b → QuoteSplit line → QuoteSplit (c ∷ line)
    go true e s = closed [] line (ap (λ (d : ℕ). d ∷ line) (eqb-true c 39 e)) refl
    go false e (closed front after same all) =
        closed (c ∷ front) after (ap (λ (l : List ℕ). c ∷ l) same) (rw e all)
    go false e (unclosed all) = unclosed (rw e all)

-- the longest prefix of a word's bytes
data WordSplit (line : List ℕ) : Type 0 where
  split : (front after : List ℕ) → line ≡ front ++ after → list_all is_in_word front ≡ true →
      begins_in_word after ≡ false → WordSplit line

split_word : (line : List ℕ) → WordSplit line
split_word [] = split [] [] refl refl refl
split_word (c ∷ line) = go (is_in_word c) refl (split_word line)
  where
    go : (b : Bool) → is_in_word c ≡ b → WordSplit line → WordSplit (c ∷ line)
    go true e (split front after same all ended) =
        split (c ∷ front) after (ap (λ (l : List ℕ). c ∷ l) same) (together (is_in_word c) (list_all is_in_word front) e all)
        ended
    go false e s = split [] (c ∷ line) refl refl e

-- the piece that a byte begins
data Kind (c : ℕ) : Type 0 where
  space : is_space c ≡ true → Kind c
  sign : is_sign c ≡ true → Kind c
  quote : c ≡ 39 → Kind c
  other : is_in_word c ≡ true → Kind c

kind_of : (c : ℕ) → Kind c
kind_of c = go (is_space c) refl (is_sign c) refl (c == 39) refl
  where
    go : (a : Bool) → is_space c ≡ a → (b : Bool) → is_sign c ≡ b → (q : Bool) → (c == 39) ≡ q → Kind c
    go true e b f q g = space e
    go false e true f q g = sign f
    go false e false f true g = quote (eqb-true c 39 g)
    go false e false f false g = other (rw (e, f, g) refl)

abbrev HasCut : List ℕ → Type 0
HasCut line = (pieces : List Piece) × IsCut line pieces

shorter : (front after line : List ℕ) (n : ℕ) → line ≡ front ++ after → length line ≤ n → length after ≤ n
shorter front after line n same h = omega (arith, ap length same, length-append front after)

-- the cut of a line, from the cuts of all shorter lines
cut_more : (n : ℕ) (c : ℕ) (line : List ℕ) → length line ≤ n → ((shorter : List ℕ) → length shorter ≤ n → HasCut shorter)
    → Kind c → QuoteSplit line → WordSplit line → HasCut (c ∷ line)
cut_more n c line few cut (space e) q w =
    let rest = cut line few in (Blank c ∷ rest.0, (line, refl, e, rest.1))
cut_more n c line few cut (sign e) q w =
    let rest = cut line few in (Sign c ∷ rest.0, (line, refl, e, rest.1))
cut_more n c line few cut (quote e) (closed front after same all) w =
    let rest = cut after (shorter (front ++ 39 ∷ []) after line n
    (same ∙ sym (append_assoc front (39 ∷ []) after)) few) in (
      Quote front ∷ rest.0,
      (
        after,
        ap (λ (d : ℕ). d ∷ line) e ∙ ap (λ (l : List ℕ). 39 ∷ l) (same ∙ sym (append_assoc front (39 ∷ []) after)),
        all,
        rest.1,
      ),
    )
cut_more n c line few cut (quote e) (unclosed all) w = (
  Unclosed line ∷ [],
  (
    [],
    ap (λ (d : ℕ). d ∷ line) e ∙ ap (λ (l : List ℕ). 39 ∷ l) (sym (append-nil line)),
    (all, refl),
    refl,
  ),
)
cut_more n c line few cut (other e) q (split front after same all ended) =
    let rest = cut after (shorter front after line n same few) in (
      Word (c ∷ front) ∷ rest.0,
      (
        after,
        ap (λ (l : List ℕ). c ∷ l) same,
        (omega arith, together (is_in_word c) (list_all is_in_word front) e all, ended),
        rest.1,
      ),
    )

cut_within : (n : ℕ) (line : List ℕ) → length line ≤ n → HasCut line
cut_within n [] h = ([], refl)
cut_within zero (c ∷ line) h = absurd (omega arith)
cut_within (suc n) (c ∷ line) h =
    cut_more n c line (omega (arith, h)) (cut_within n) (kind_of c) (split_quote line) (split_word line)

pub each_line_has_a_cut : (line : List ℕ) → HasCut line
each_line_has_a_cut line = cut_within (length line) line (omega arith)

-- ---- uniqueness

-- the kind of piece that a byte begins
abbrev first_kind : ℕ → ℕ
first_kind c = if is_space c then 0 else if is_sign c then 1 else if c == 39 then 2 else 3

abbrev piece_kind : Piece → ℕ
piece_kind (Blank c) = 0
piece_kind (Sign c) = 1
piece_kind (Word word) = 3
piece_kind (Quote characters) = 2
piece_kind (Unclosed characters) = 2

abbrev BeginsWith : ℕ → List ℕ → Type 0
BeginsWith kind [] = ⊥
BeginsWith kind (c ∷ line) = first_kind c ≡ kind

space_first : (c : ℕ) → is_space c ≡ true → first_kind c ≡ 0
space_first c e = rw e refl

no_space_in : (c : ℕ) (b : Bool) → is_sign c ≡ true → is_space c ≡ b → b ≡ false
no_space_in c b e f = grind (arith, nat_tests)

sign_first : (c : ℕ) → is_sign c ≡ true → first_kind c ≡ 1
sign_first c e = rw (no_space_in c (is_space c) e refl, e) refl

word_kind : (a b q : Bool) → (not a && (not b && not q)) ≡ true →
    ◌≡◌ {A = ℕ} (if a then 0 else if b then 1 else if q then 2 else 3) 3
word_kind false false false e = refl
word_kind false false true e = absurd (cc)
word_kind false true q e = absurd (cc)
word_kind true b q e = absurd (cc)

word_first : (c : ℕ) → is_in_word c ≡ true → first_kind c ≡ 3
word_first c e = word_kind (is_space c) (is_sign c) (c == 39) e

begins : (piece : Piece) (rest : List ℕ) → IsPieceBefore piece rest →
    BeginsWith (piece_kind piece) (bytes_of_piece piece ++ rest)
begins (Blank c) rest h = space_first c h
begins (Sign c) rest h = sign_first c h
begins (Word []) rest h = absurd (omega (arith, h.0))
begins (Word (c ∷ word)) rest h = word_first c (both (is_in_word c) (list_all is_in_word word) h.1).0
begins (Quote characters) rest h = refl
begins (Unclosed characters) rest h = refl

one_kind : (line : List ℕ) (k l : ℕ) → BeginsWith k line → BeginsWith l line → k ≡ l
one_kind [] k l h i = absurd h
one_kind (c ∷ line) k l h i = sym h ∙ i

-- two words, two quotes

abbrev Same : Piece → Piece → List ℕ → List ℕ → Type 0
Same p q x y = (p ≡ q) × (x ≡ y)

words_agree : (w v x y : List ℕ) → list_all is_in_word w ≡ true → list_all is_in_word v ≡ true →
    begins_in_word x ≡ false → begins_in_word y ≡ false → w ++ x ≡ v ++ y → (w ≡ v) × (x ≡ y)
words_agree [] [] x y a b e f same = (refl, same)
words_agree [] (c ∷ v) [] y a b e f same = absurd (cc)
words_agree [] (c ∷ v) (d ∷ x) y a b e f same =
    let one : d ≡ c = cc in
    let g : false ≡ true = sym e ∙ ap is_in_word one ∙ (both (is_in_word c) (list_all is_in_word v) b).0 in
    absurd (cc)
words_agree (c ∷ w) [] x [] a b e f same = absurd (cc)
words_agree (c ∷ w) [] x (d ∷ y) a b e f same =
    let one : d ≡ c = cc in
    let g : false ≡ true = sym f ∙ ap is_in_word one ∙ (both (is_in_word c) (list_all is_in_word w) a).0 in
    absurd (cc)
words_agree (c ∷ w) (d ∷ v) x y a b e f same =
    let one : c ≡ d = cc in
    let others : w ++ x ≡ v ++ y = cc in
    let rest = words_agree w v x y (both (is_in_word c) (list_all is_in_word w) a).1
    (both (is_in_word d) (list_all is_in_word v) b).1 e f others in
    (ap (λ (b : ℕ). b ∷ w) one ∙ ap (λ (l : List ℕ). d ∷ l) rest.0, rest.1)

not_quote : (c : ℕ) → is_in_quote c ≡ true → c ≡ 39 → ⊥
not_quote c e f = let g : false ≡ true = sym (ap is_in_quote f) ∙ e in absurd (cc)

quotes_agree : (a b x y : List ℕ) → list_all is_in_quote a ≡ true → list_all is_in_quote b ≡ true →
    a ++ 39 ∷ x ≡ b ++ 39 ∷ y → (a ≡ b) × (x ≡ y)
quotes_agree [] [] x y h i same = (refl, cc)
quotes_agree [] (c ∷ b) x y h i same =
    let one : c ≡ 39 = cc in absurd (not_quote c (both (is_in_quote c) (list_all is_in_quote b) i).0 one)
quotes_agree (c ∷ a) [] x y h i same =
    let one : c ≡ 39 = cc in absurd (not_quote c (both (is_in_quote c) (list_all is_in_quote a) h).0 one)
quotes_agree (c ∷ a) (d ∷ b) x y h i same =
    let one : c ≡ d = cc in
    let others : a ++ 39 ∷ x ≡ b ++ 39 ∷ y = cc in
    let rest = quotes_agree a b x y (both (is_in_quote c) (list_all is_in_quote a) h).1
    (both (is_in_quote d) (list_all is_in_quote b) i).1 others in
    (ap (λ (e : ℕ). e ∷ a) one ∙ ap (λ (l : List ℕ). d ∷ l) rest.0, rest.1)

no_quote_within : (a b x : List ℕ) → list_all is_in_quote b ≡ true → a ++ 39 ∷ x ≡ b → ⊥
no_quote_within [] [] x i same = absurd (cc)
no_quote_within [] (c ∷ b) x i same =
    let one : c ≡ 39 = cc in not_quote c (both (is_in_quote c) (list_all is_in_quote b) i).0 one
no_quote_within (c ∷ a) [] x i same = absurd (cc)
no_quote_within (c ∷ a) (d ∷ b) x i same =
    let others : a ++ 39 ∷ x ≡ b = cc in
    no_quote_within a b x (both (is_in_quote d) (list_all is_in_quote b) i).1 others

closed_text : (a x : List ℕ) → (39 ∷ a ++ 39 ∷ []) ++ x ≡ 39 ∷ (a ++ 39 ∷ x)
closed_text a x = ap (λ (l : List ℕ). 39 ∷ l) (append_assoc a (39 ∷ []) x)

same_piece : (p q : Piece) (x y : List ℕ) → IsPieceBefore p x → IsPieceBefore q y → piece_kind p ≡ piece_kind q →
    bytes_of_piece p ++ x ≡ bytes_of_piece q ++ y → Same p q x y
same_piece (Blank c) (Blank d) x y h i k same = (let one : c ≡ d = cc in ap Blank one, cc)
same_piece (Sign c) (Sign d) x y h i k same = (let one : c ≡ d = cc in ap Sign one, cc)
same_piece (Word w) (Word v) x y h i k same =
    let r = words_agree w v x y h.1 i.1 h.2 i.2 same in (ap Word r.0, r.1)
same_piece (Quote a) (Quote b) x y h i k same =
    let inner : 39 ∷ (a ++ 39 ∷ x) ≡ 39 ∷ (b ++ 39 ∷ y) = sym (closed_text a x) ∙ same ∙ closed_text b y in
    let others : a ++ 39 ∷ x ≡ b ++ 39 ∷ y = cc in
    let r = quotes_agree a b x y h i others in (ap Quote r.0, r.1)
same_piece (Unclosed a) (Unclosed b) x y h i k same =
    let e : x ≡ [] = h.1 in
    let f : y ≡ [] = i.1 in
    let inner : 39 ∷ a ≡ 39 ∷ b =
    sym (append-nil (39 ∷ a)) ∙ ap (λ (l : List ℕ). 39 ∷ a ++ l) (sym e) ∙ same
    ∙ ap (λ (l : List ℕ). 39 ∷ b ++ l) f ∙ append-nil (39 ∷ b) in
    let one : a ≡ b = cc in
    (ap Unclosed one, e ∙ sym f)
same_piece (Quote a) (Unclosed b) x y h i k same =
    let inner : 39 ∷ (a ++ 39 ∷ x) ≡ 39 ∷ b =
    sym (closed_text a x) ∙ same ∙ ap (λ (l : List ℕ). 39 ∷ b ++ l) i.1 ∙ append-nil (39 ∷ b) in
    let others : a ++ 39 ∷ x ≡ b = cc in
    absurd (no_quote_within a b x i.0 others)
same_piece (Unclosed a) (Quote b) x y h i k same =
    let inner : 39 ∷ (b ++ 39 ∷ y) ≡ 39 ∷ a =
    sym (closed_text b y) ∙ sym same ∙ ap (λ (l : List ℕ). 39 ∷ a ++ l) h.1 ∙ append-nil (39 ∷ a) in
    let others : b ++ 39 ∷ y ≡ a = cc in
    absurd (no_quote_within b a y h.0 others)
same_piece (Blank c) (Sign d) x y h i k same = absurd (omega (arith, k))
same_piece (Blank c) (Word v) x y h i k same = absurd (omega (arith, k))
same_piece (Blank c) (Quote b) x y h i k same = absurd (omega (arith, k))
same_piece (Blank c) (Unclosed b) x y h i k same = absurd (omega (arith, k))
same_piece (Sign c) (Blank d) x y h i k same = absurd (omega (arith, k))
same_piece (Sign c) (Word v) x y h i k same = absurd (omega (arith, k))
same_piece (Sign c) (Quote b) x y h i k same = absurd (omega (arith, k))
same_piece (Sign c) (Unclosed b) x y h i k same = absurd (omega (arith, k))
same_piece (Word w) (Blank d) x y h i k same = absurd (omega (arith, k))
same_piece (Word w) (Sign d) x y h i k same = absurd (omega (arith, k))
same_piece (Word w) (Quote b) x y h i k same = absurd (omega (arith, k))
same_piece (Word w) (Unclosed b) x y h i k same = absurd (omega (arith, k))
same_piece (Quote a) (Blank d) x y h i k same = absurd (omega (arith, k))
same_piece (Quote a) (Sign d) x y h i k same = absurd (omega (arith, k))
same_piece (Quote a) (Word v) x y h i k same = absurd (omega (arith, k))
same_piece (Unclosed a) (Blank d) x y h i k same = absurd (omega (arith, k))
same_piece (Unclosed a) (Sign d) x y h i k same = absurd (omega (arith, k))
same_piece (Unclosed a) (Word v) x y h i k same = absurd (omega (arith, k))

nothing_begins : (line : List ℕ) (k : ℕ) → line ≡ [] → BeginsWith k line → ⊥
nothing_begins [] k e h = h
nothing_begins (c ∷ line) k e h = absurd (cc)

pub one_cut : (ps qs : List Piece) (line : List ℕ) → IsCut line ps → IsCut line qs → ps ≡ qs
one_cut [] [] line h i = refl
one_cut [] (q ∷ qs) line h i =
    absurd (nothing_begins (bytes_of_piece q ++ i.0) (piece_kind q) (sym i.1 ∙ h) (begins q i.0 i.2))
one_cut (p ∷ ps) [] line h i =
    absurd (nothing_begins (bytes_of_piece p ++ h.0) (piece_kind p) (sym h.1 ∙ i) (begins p h.0 h.2))
one_cut (p ∷ ps) (q ∷ qs) line h i =
    let same : bytes_of_piece p ++ h.0 ≡ bytes_of_piece q ++ i.0 = sym h.1 ∙ i.1 in
    let kind = one_kind (bytes_of_piece q ++ i.0) (piece_kind p) (piece_kind q)
    (subst (BeginsWith (piece_kind p)) same (begins p h.0 h.2)) (begins q i.0 i.2) in
    let r = same_piece p q h.0 i.0 h.2 i.2 kind same in
    let others = one_cut ps qs i.0 (subst (λ (l : List ℕ). IsCut l ps) r.1 h.3) i.3 in
    ap (λ (piece : Piece). piece ∷ ps) r.0 ∙ ap (λ (pieces : List Piece). q ∷ pieces) others
