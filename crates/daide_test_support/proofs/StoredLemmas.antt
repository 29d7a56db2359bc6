-- The record of ports in memory after one more call.
use Rattle.std.proofs.Common.{◌≡◌, ℕ, List, [], ◌∷◌, ◌++◌, map, sym, ap, ◌∙◌, subst}
use Rattle.std.specs.Prelude.{Option, Some, None, Result, Ok, Err, IfOk, IfSome, MatchResult, IsOkAnd, Vec}
use Rattle.std.proofs.lemmas.List.{map-append}
use Rattle.daide_test_support.specs.declared.memory_ports.Call.{Call}
use Rattle.daide_test_support.specs.MemoryPorts.{answer_stored, answers_stored}
use Rattle.daide_io.specs.Ports.{PortCall, AppendsTo}

-- a call was appended to the record, or there is no record any more
pub tells : {A E : Type 0} (old calls after : Option (Vec (Call A) A)) (call : Result (Call A) E)
    (answer : PortCall) →
    calls ≡ old →
    IfSome after (λ v. (before : Vec (Call A) A) × (calls ≡ Some before)
    × ((one : Call A) × (call ≡ Ok one) × (v.items ≡ before.items ++ one ∷ []))) →
    IfOk call (λ one. answer_stored one ≡ answer) → AppendsTo (answers_stored old) (answer ∷ []) (answers_stored after)
tells old calls None call answer same h stored = tt
tells {A} {E} old calls (Some v) call answer same h stored = (
  map answer_stored h.0.items,
  ap answers_stored (sym same ∙ h.1),
  ap (map answer_stored) h.2.2
      ∙ (map-append answer_stored h.0.items (h.2.0 ∷ [])
      ∙ ap (λ (x : PortCall). map answer_stored h.0.items ++ x ∷ [])
      (subst (λ (r : Result (Call A) E). IfOk r (λ one. answer_stored one ≡ answer)) h.2.1 stored)),
)

-- a call that is made from a copy of these bytes
pub copied : {A E : Type 0} (came : Result (Vec ℕ A) E) (call : Result (Call A) E) (post : Vec ℕ A → Call A → Type 0)
    (bytes : List ℕ) (answer : PortCall) → MatchResult came (λ x. IsOkAnd call (post x)) (λ e. call ≡ Err e) →
    IfOk came (λ v. v.items ≡ bytes) →
    ((x : Vec ℕ A) (one : Call A) → x.items ≡ bytes → post x one → answer_stored one ≡ answer) →
    IfOk call (λ one. answer_stored one ≡ answer)
copied (Ok x) (Ok one) post bytes answer h items made = made x one items h
copied (Ok x) (Err e) post bytes answer h items made = tt
copied {A} {E} (Err e) call post bytes answer h items made =
    subst (λ (r : Result (Call A) E). IfOk r (λ one. answer_stored one ≡ answer)) (sym h) tt
