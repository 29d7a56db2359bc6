-- The ends of records that were reported, by place.
use Rattle.std.proofs.Common.{◌≡◌, ◌⊎◌, ℕ, zero, suc, List, Option, None, Some, inl, inr, sym, subst}
use Rattle.std.specs.Prelude.{replicate, slice_get}
use Rattle.daide_log.specs.declared.record.RecordEnd.{RecordEnd}
use Rattle.daide_run.specs.declared.notices.RecordNotice.{RecordNotice}
use Rattle.daide_run.specs.Notices.{AreReported, ReportsEnd}

-- among places without an end there is none
none_there : {A B : Type 0} (count place : ℕ) (end : A) → slice_get (replicate count None) place ≡ Some (Some end) → B
none_there zero place end e = absurd (cc)
none_there (suc count) zero end e = absurd (cc)
none_there (suc count) (suc place) end e = none_there count place end e

module _ (Reported : RecordNotice → Type 0) where
  pub none_reported : (places : List (Option (ℕ × RecordEnd))) (count : ℕ) → places ≡ replicate count None →
      AreReported Reported places
  none_reported places count e =
      subst (λ (p : List (Option (ℕ × RecordEnd))). AreReported Reported p) (sym e)
      (λ place end is. none_there count place end is)

  -- each is, once a reported one is put at a place
  one_put : (end one : ℕ × RecordEnd) (old : List (Option (ℕ × RecordEnd))) (place : ℕ) → AreReported Reported old →
      ReportsEnd Reported end.0 end.1 → (slice_get old place ≡ Some (Some one)) ⊎ (one ≡ end) →
      ReportsEnd Reported one.0 one.1
  one_put end one old place all said (inl is) = all place one is
  one_put end one old place all said (inr same) = subst (λ (e : ℕ × RecordEnd). ReportsEnd Reported e.0 e.1) (sym same) said

  pub put_reported : (end : ℕ × RecordEnd) (old new : List (Option (ℕ × RecordEnd))) → AreReported Reported old →
      ReportsEnd Reported end.0 end.1 → ((place : ℕ) (one : ℕ × RecordEnd) → slice_get new place ≡ Some (Some one) →
      (slice_get old place ≡ Some (Some one)) ⊎ (one ≡ end)) → AreReported Reported new
  put_reported end old new all said put = λ place one is. one_put end one old place all said (put place one is)
