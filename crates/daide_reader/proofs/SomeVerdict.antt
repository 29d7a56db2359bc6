-- Each list of tokens has a verdict, found with any table that satisfies the laws of prediction. The verdict is
-- computed, so that examples can use it.
use Rattle.std.proofs.lemmas.Bool.{eq-eqb}
use Rattle.daide_reader.proofs.Common.{◌≡◌, ◌≢◌, ℕ, zero, suc, ◌+◌, ◌-◌, ◌≤◌, ◌==◌, ◌&&◌, Bool, true, false, List, []}
use Rattle.daide_reader.proofs.Common.{◌∷◌, ◌++◌, length, reverse, drop, Option, None, Some, refl, sym, ap, subst, ◌∙◌}
use Rattle.daide_reader.proofs.Common.{arith, append_assoc, append-nil, if◌then◌else◌, ◌⊎◌, inl, inr, eqb-true}
use Rattle.daide_reader.proofs.Common.{length-append, list_all, Class, Level, Side2, Sym, TableEntry, is_bra, is_ket}
use Rattle.daide_reader.proofs.Common.{excess_or_none, count_one, IsCorrectPrediction, begins_with_prn, stack_after}
use Rattle.daide_reader.proofs.Common.{excess_or_none-snoc, Outline, Verdict, Relay, Prn, Huh, IsOutlineOf, first_is}
use Rattle.daide_reader.proofs.Common.{has_outer_brackets, Expects, HasErrorIndex, HasVerdict, IsMessageOf}
use Rattle.daide_token.specs.Class.{class_of as token_class}
use Rattle.daide_grammar.specs.SideMessages.{IsMessage}
use Rattle.daide_grammar.specs.Proofs.PlainLaws.{plain_laws, plain_begins}
use Rattle.daide_grammar.specs.Table.Symbols.{start_symbol_of, table_answer, may_end_of}
use Rattle.daide_reader.proofs.ErrorPlaceLemmas.{expects_start, expects_taken, wrong_here, place_kept}
use Rattle.daide_reader.proofs.PlainVerdicts.{plain_verdicts}
use Rattle.daide_reader.proofs.StackLemmas.{lawful_more}
use Rattle.daide_reader.proofs.VerdictLemmas.{ended, unended, placed, unbalanced, relayed_report, unpaired_report}

-- the outline of a list of tokens
abbrev outline_of : List ℕ → Outline
outline_of m = record {
  tokens = length m;
  is_prn = begins_with_prn m;
  second_is_bra = first_is is_bra (drop 1 m);
  last_is_ket = first_is is_ket (reverse m);
}

its_outline : (m : List ℕ) → IsOutlineOf (outline_of m) m
its_outline m = record { tokens = refl; begins = refl; second = refl; last = refl }

prn_front : (p m : List ℕ) (t : ℕ) → begins_with_prn (p ++ t ∷ []) ≡ begins_with_prn (p ++ t ∷ m)
prn_front [] m t = refl
prn_front (x ∷ p) m t = refl

-- the open brackets after a token that a table takes
abbrev open_after : Bool → Bool → ℕ → ℕ
open_after true closes n = n + 1
open_after false true n = n - 1
open_after false false n = n

open_counted : (opens closes : Bool) (n k : ℕ) → count_one opens closes (Some n) ≡ Some k →
    k ≡ open_after opens closes n
open_counted true closes n k e = cc
open_counted false true zero k e = cc
open_counted false true (suc n) k e = let same : n ≡ k = cc in omega (arith, same)
open_counted false false n k e = cc

both_tests : (a b : Bool) → (a && b) ≡ true → (a ≡ true) × (b ≡ true)
both_tests true true e = (refl, refl)
both_tests true false e = absurd cc
both_tests false b e = absurd cc

not_deeper : (n max_depth : ℕ) → (n == max_depth) ≡ false → n ≢ max_depth
not_deeper n max_depth e same =
    let f : (n == max_depth) ≡ true = eq-eqb n max_depth same in
    let g : true ≡ false = sym f ∙ e in
    cc

-- the result of a walk over tokens: the index of a wrong one, or the stack after them
pub data Walked : Type 0 where
  WrongAt : (place : ℕ) → Walked
  Left : (stack : List Sym) → Walked

module _ (class_of : ℕ → Class) (moves : Sym → Class → TableEntry) (may_end : Sym → Bool) (max_depth : ℕ) where
  -- the walk after `done` tokens, with this stack and this number of open brackets
  abbrev walk : List ℕ → List Sym → (opened done : ℕ) → Walked
  walk [] stack opened done = Left stack
  walk (t ∷ m) stack opened done =
      if is_bra t && (opened == max_depth) then WrongAt done
      else elim (stack_after moves (class_of t) stack) [
        | None ↦ WrongAt done
        | Some after ↦ walk m after (open_after (is_bra t) (is_ket t) opened) (done + 1)
      ]

  abbrev verdict_walked : ℕ → Walked → Verdict
  verdict_walked len (WrongAt place) = Huh place
  verdict_walked len (Left stack) = if list_all may_end stack then Relay else Huh len

  abbrev verdict_counted : Sym → List ℕ → Option ℕ → Verdict
  verdict_counted first m None = Prn
  verdict_counted first m (Some zero) = verdict_walked (length m) (walk m (first ∷ []) 0 0)
  verdict_counted first m (Some (suc n)) = Prn

  abbrev pub verdict_by : Sym → List ℕ → Verdict
  verdict_by first m =
      if begins_with_prn m then (if has_outer_brackets (outline_of m) then Relay else Prn)
      else verdict_counted first m (excess_or_none m)

module _ (class_of : ℕ → Class) (language : Sym → List ℕ → Type 0) (moves : Sym → Class → TableEntry)
    (may_end : Sym → Bool) (lawful : List Sym → ℕ → Type 0)
    (laws : IsCorrectPrediction class_of language moves may_end lawful) (first : Sym) (max_depth : ℕ)
    (begins : lawful (first ∷ []) 0) where
  -- what the result of a walk says about the tokens
  abbrev IsWalked : Walked → List ℕ → Type 0
  IsWalked (WrongAt i) m = HasErrorIndex (language first) max_depth m i
  IsWalked (Left stack) m = Expects language first max_depth stack m

  walk_right : (m p : List ℕ) (stack : List Sym) (n : ℕ) → begins_with_prn (p ++ m) ≡ false → excess_or_none p ≡ Some n →
      n ≤ max_depth → lawful stack n → Expects language first max_depth stack p →
      IsWalked (walk class_of moves may_end max_depth m stack n (length p)) (p ++ m)
  walk_right [] p stack n not_prn is_count few ok expects = rw append-nil expects
  walk_right (t ∷ m) p stack n not_prn is_count few ok expects =
      by_depth (is_bra t && (n == max_depth)) refl (λ after n' count' few' ok' expects'.
      walk_right m (p ++ t ∷ []) after n' (ap begins_with_prn (append_assoc p (t ∷ []) m) ∙ not_prn) count' few' ok'
      expects')
    where
      plain : begins_with_prn (p ++ t ∷ []) ≡ false
      plain = prn_front p m t ∙ not_prn

      wrong : ((is_bra t ≡ true) × (n ≡ max_depth)) ⊎ (stack_after moves (class_of t) stack ≡ None) →
          HasErrorIndex (language first) max_depth (p ++ t ∷ m) (length p)
      wrong why =
          subst (λ (z : List ℕ). HasErrorIndex (language first) max_depth z (length p)) (append_assoc p (t ∷ []) m)
          (place_kept (language first) max_depth (p ++ t ∷ []) m (length p)
          (wrong_here class_of language moves may_end lawful laws first max_depth p t n stack plain is_count expects
          why))

      Later : Type 0
      Later = (after : List Sym) (n' : ℕ) → excess_or_none (p ++ t ∷ []) ≡ Some n' → n' ≤ max_depth → lawful after n' →
          Expects language first max_depth after (p ++ t ∷ []) →
          IsWalked (walk class_of moves may_end max_depth m after n' (length (p ++ t ∷ []))) ((p ++ t ∷ []) ++ m)

      both : is_bra t && (n == max_depth) ≡ true → (is_bra t ≡ true) × (n ≡ max_depth)
      both e =
          let tests = both_tests (is_bra t) (n == max_depth) e in
          (tests.0, eqb-true n max_depth tests.1)

      fits_at : is_bra t && (n == max_depth) ≡ false → is_bra t ≡ true → n ≢ max_depth
      fits_at e opens = not_deeper n max_depth (rw opens at e)

      by_stack : is_bra t && (n == max_depth) ≡ false → (o : Option (List Sym)) →
          stack_after moves (class_of t) stack ≡ o → Later →
          IsWalked (walk class_of moves may_end max_depth (t ∷ m) stack n (length p)) (p ++ t ∷ m)
      by_stack d None e later = rw (d, e) (wrong (inr e))
      by_stack d (Some after) e later =
          let next = lawful_more class_of language moves may_end lawful laws t n max_depth stack after ok few
          (fits_at d) e in
          let more = later after next.0
          (excess_or_none-snoc p t ∙ (ap (count_one (is_bra t) (is_ket t)) is_count ∙ next.1)) next.2 next.3
          (expects_taken class_of language moves may_end lawful laws first max_depth p t n stack after plain is_count
          few (fits_at d) ok expects e) in
          let now = open_after (is_bra t) (is_ket t) n in
          let same = open_counted (is_bra t) (is_ket t) n next.0 next.1 in
          let whole = subst (IsWalked (walk class_of moves may_end max_depth m after now (length (p ++ t ∷ []))))
          (append_assoc p (t ∷ []) m)
          (subst (λ (k : ℕ). IsWalked (walk class_of moves may_end max_depth m after k (length (p ++ t ∷ [])))
          ((p ++ t ∷ []) ++ m))
          same more) in
          rw (d, e) (subst (λ (k : ℕ). IsWalked (walk class_of moves may_end max_depth m after now k) (p ++ t ∷ m))
          (length-append p (t ∷ [])) whole)

      by_depth : (b : Bool) → is_bra t && (n == max_depth) ≡ b → Later →
          IsWalked (walk class_of moves may_end max_depth (t ∷ m) stack n (length p)) (p ++ t ∷ m)
      by_depth true e later = rw e (wrong (inl (both e)))
      by_depth false e later = by_stack e (stack_after moves (class_of t) stack) refl later

  -- the verdict is that of the messages
  walked_right : (m : List ℕ) → begins_with_prn m ≡ false → excess_or_none m ≡ Some 0 → (w : Walked) → IsWalked w m →
      HasVerdict (IsMessageOf (language first)) max_depth m
      (verdict_walked class_of moves may_end max_depth (length m) w)
  walked_right m not_prn even (WrongAt i) has = placed (language first) max_depth m i not_prn even has
  walked_right m not_prn even (Left stack) expects = go (list_all may_end stack) refl
    where
      go : (b : Bool) → list_all may_end stack ≡ b → HasVerdict (IsMessageOf (language first)) max_depth m
          (verdict_walked class_of moves may_end max_depth (length m) (Left stack))
      go true e = rw e
          (ended class_of language moves may_end lawful laws first max_depth stack m not_prn even expects e)
      go false e = rw e
          (unended class_of language moves may_end lawful laws first max_depth stack m not_prn even expects e)

  counted_right : (m : List ℕ) → begins_with_prn m ≡ false → (o : Option ℕ) → excess_or_none m ≡ o →
      HasVerdict (IsMessageOf (language first)) max_depth m (verdict_counted class_of moves may_end max_depth first m o)
  counted_right m not_prn None e =
      unbalanced (language first) max_depth m not_prn (λ even. let f = sym e ∙ even in cc)
  counted_right m not_prn (Some zero) e =
      walked_right m not_prn e (walk class_of moves may_end max_depth m (first ∷ []) 0 0)
      (walk_right m [] (first ∷ []) 0 not_prn refl (omega arith) begins
      (expects_start class_of language moves may_end lawful laws first max_depth))
  counted_right m not_prn (Some (suc n)) e =
      unbalanced (language first) max_depth m not_prn (λ even. let f = sym e ∙ even in cc)

  pub verdict_by_right : (m : List ℕ) → HasVerdict (IsMessageOf (language first)) max_depth m
      (verdict_by class_of moves may_end max_depth first m)
  verdict_by_right m = go (begins_with_prn m) refl
    where
      report : begins_with_prn m ≡ true → (b : Bool) → has_outer_brackets (outline_of m) ≡ b →
          HasVerdict (IsMessageOf (language first)) max_depth m (if b then Relay else Prn)
      report is_report true e = relayed_report (language first) max_depth (outline_of m) m (its_outline m) is_report e
      report is_report false e = unpaired_report (language first) max_depth (outline_of m) m (its_outline m) is_report e

      go : (b : Bool) → begins_with_prn m ≡ b → HasVerdict (IsMessageOf (language first)) max_depth m
          (verdict_by class_of moves may_end max_depth first m)
      go true e = rw e (report e (has_outer_brackets (outline_of m)) refl)
      go false e = rw e (counted_right m e (excess_or_none m) refl)

-- ---- the protocol's own grammar

abbrev pub plain_verdict : Side2 → Level → ℕ → List ℕ → Verdict
plain_verdict side level max_depth m =
    verdict_by token_class table_answer may_end_of max_depth (start_symbol_of side level) m

pub plain_verdict_right : (side : Side2) (level : Level) (max_depth : ℕ) (m : List ℕ) →
    HasVerdict (IsMessage side level) max_depth m (plain_verdict side level max_depth m)
plain_verdict_right side level max_depth m =
    (plain_verdicts side level max_depth m (plain_verdict side level max_depth m)).0
    (verdict_by_right _ _ _ _ _ plain_laws (start_symbol_of side level) max_depth (plain_begins side level) m)
