-- One more token of a list that is filtered.
use Rattle.daide_explain.proofs.Common.{◌≡◌, ℕ, ◌+◌, ◌<◌, ◌≤◌, length, take, get_or, append_assoc, List, [], ◌∷◌, ◌++◌}
use Rattle.daide_explain.proofs.Common.{inl, inr, refl, sym, ◌∙◌, ap, subst, Named, take_all, IsFilteredBy, codes_of}
use Rattle.std.proofs.lemmas.List.{take_more, map-append}
use Rattle.daide_explain.specs.Listed.{IsAppendedIf}

module _ (P : ℕ → Type 0) where
  with_it : (ts kept : List ℕ) (t : ℕ) → P t → IsFilteredBy P ts kept → IsFilteredBy P (ts ++ t ∷ []) (kept ++ t ∷ [])
  unfolding IsFilteredBy
  with_it [] kept t here h = inl (here, [], ap (λ (l : List ℕ). l ++ t ∷ []) h, refl)
  with_it (x ∷ ts) kept t here (inl (first, rest, e, h)) =
      inl (first, rest ++ t ∷ [], ap (λ (l : List ℕ). l ++ t ∷ []) e, with_it ts rest t here h)
  with_it (x ∷ ts) kept t here (inr (none, h)) = inr (none, with_it ts kept t here h)

  without_it : (ts kept : List ℕ) (t : ℕ) → (¬ P t) → IsFilteredBy P ts kept → IsFilteredBy P (ts ++ t ∷ []) kept
  unfolding IsFilteredBy
  without_it [] kept t gone h = inr (gone, h)
  without_it (x ∷ ts) kept t gone (inl (first, rest, e, h)) = inl (first, rest, e, without_it ts rest t gone h)
  without_it (x ∷ ts) kept t gone (inr (none, h)) = inr (none, without_it ts kept t gone h)

  pub one_more : (ts old new : List ℕ) (t : ℕ) → IsFilteredBy P ts old → IsAppendedIf P t old new →
      IsFilteredBy P (ts ++ t ∷ []) new
  one_more ts old new t h (inl (here, e)) = subst (IsFilteredBy P (ts ++ t ∷ [])) (sym e) (with_it ts old t here h)
  one_more ts old new t h (inr (gone, e)) = subst (IsFilteredBy P (ts ++ t ∷ [])) (sym e) (without_it ts old t gone h)

  -- one more token of a list
  pub one_more_at : (done all : List ℕ) (i t : ℕ) (old new : List ℕ) → i < length all → t ≡ get_or all i 0 →
      IsFilteredBy P (done ++ take i all) old → IsAppendedIf P t old new → IsFilteredBy P (done ++ take (i + 1) all) new
  one_more_at done all i t old new inside same h k =
      let next : take (i + 1) all ≡ take i all ++ t ∷ [] =
      take_more all i 0 inside ∙ ap (λ (x : ℕ). take i all ++ x ∷ []) (sym same) in
      subst (λ (l : List ℕ). IsFilteredBy P l new)
      (append_assoc done (take i all) (t ∷ []) ∙ ap (λ (l : List ℕ). done ++ l) (sym next))
      (one_more (done ++ take i all) old new t h k)

  pub filtered_none : (kept : List ℕ) → kept ≡ [] → IsFilteredBy P [] kept
  unfolding IsFilteredBy
  filtered_none kept e = e

  -- the same for a list of names with their codes
  pub named_more : (done : List ℕ) (all : List Named) (i : ℕ) (item : Named) (old new : List ℕ) → i < length all →
      item ≡ get_or all i item → IsFilteredBy P (done ++ codes_of (take i all)) old → IsAppendedIf P item.0 old new →
      IsFilteredBy P (done ++ codes_of (take (i + 1) all)) new
  named_more done all i item old new inside same h k =
      let next : codes_of (take (i + 1) all) ≡ codes_of (take i all) ++ item.0 ∷ [] =
      ap codes_of (take_more all i item inside) ∙ (map-append (λ named. named.0) (take i all) (get_or all i item ∷ [])
      ∙ ap (λ (x : Named). codes_of (take i all) ++ x.0 ∷ []) (sym same)) in
      subst (λ (l : List ℕ). IsFilteredBy P l new)
      (append_assoc done (codes_of (take i all)) (item.0 ∷ []) ∙ ap (λ (l : List ℕ). done ++ l) (sym next))
      (one_more (done ++ codes_of (take i all)) old new item.0 h k)

  pub all_named : (done : List ℕ) (all names : List Named) (i : ℕ) (kept : List ℕ) → length all ≤ i → all ≡ names →
      IsFilteredBy P (done ++ codes_of (take i all)) kept → IsFilteredBy P (done ++ codes_of names) kept
  all_named done all names i kept over e h =
      subst (λ (l : List Named). IsFilteredBy P (done ++ codes_of l) kept) (take_all i all over ∙ e) h

  pub all_taken : (done all : List ℕ) (i : ℕ) (kept : List ℕ) → length all ≤ i →
      IsFilteredBy P (done ++ take i all) kept → IsFilteredBy P (done ++ all) kept
  all_taken done all i kept over h =
      subst (λ (l : List ℕ). IsFilteredBy P (done ++ l) kept) (take_all i all over) h
