-- Properties of a result's value, mapped to another result.
use Rattle.daide_show.proofs.Common.{Result, Ok, Err, IfOk}

pub if_ok-more : {A E : Type 0} (r : Result A E) (P Q : A → Type 0) → IfOk r P → ((x : A) → P x → Q x) → IfOk r Q
if_ok-more (Ok x) P Q has more = more x has
if_ok-more (Err e) P Q has more = tt
