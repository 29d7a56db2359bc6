-- The account after one list of effects and then another, and after an answer.
use Rattle.daide_protocol.proofs.Common.{◌≡◌, ℕ, true, List, [], ◌∷◌, ◌++◌, refl, sym, ap, ◌∙◌, tokens_of, Side}
use Rattle.daide_protocol.proofs.Common.{Bot, Server, Head, Kind, Im, Rm, Dm, Fm, Em, Level, Verdict, Relay, Prn, Huh}
use Rattle.daide_protocol.proofs.Common.{Account, Deed, effect_accounted, accounted, name_after, answer_bytes}
use Rattle.daide_protocol.proofs.Common.{answer_head, Limits, Effect, deed_of, reply_to, SessionView}
use Rattle.daide_protocol.specs.declared.note.Deed.TheVariants as Deeds
use Rattle.daide_protocol.specs.declared.note.Note.TheVariants as Notes
use Rattle.daide_protocol.specs.Account.{frame_accounted}
use Rattle.daide_protocol.specs.Power.{power_after}
use Rattle.daide_protocol.specs.Wires.{account_after}
use Rattle.daide_protocol.proofs.CountLemmas.{behind_head}

pub accounted-append : (top : Level) (a b : List Effect) (account : Account) →
    accounted top (a ++ b) account ≡ accounted top b (accounted top a account)
accounted-append top [] b account = refl
accounted-append top (effect ∷ a) b account =
    accounted-append top a b (effect_accounted top effect.reported effect.sent account)

-- the account of a session after one list of effects, and after the next
pub accounted_then : (a b : List Effect) (old mid new : SessionView) → mid.state.limits ≡ old.state.limits →
    mid.account ≡ account_after old a → new.account ≡ account_after mid b → new.account ≡ account_after old (a ++ b)
accounted_then a b old mid new same first second =
    second
    ∙ (ap (λ (l : Limits). accounted l.top_level b mid.account) same
    ∙ (ap (accounted old.state.limits.top_level b) first
    ∙ sym (accounted-append old.state.limits.top_level a b old.account)))

-- a message that is returned changes the account in the same way, whatever its tokens are
returned_prn : (top : Level) (side : Side) (kind : Kind) (x y : List ℕ) (a : Account) →
    frame_accounted top side kind Deeds.Prn x a ≡ frame_accounted top side kind Deeds.Prn y a
returned_prn top Bot Im x y a = refl
returned_prn top Bot Rm x y a = refl
returned_prn top Bot Dm x y a = refl
returned_prn top Bot Fm x y a = refl
returned_prn top Bot Em x y a = refl
returned_prn top Server Im x y a = refl
returned_prn top Server Rm x y a = refl
returned_prn top Server Dm x y a = refl
returned_prn top Server Fm x y a = refl
returned_prn top Server Em x y a = refl

returned_huh : (top : Level) (side : Side) (kind : Kind) (place : ℕ) (x y : List ℕ) (a : Account) →
    frame_accounted top side kind (Deeds.Huh place) x a ≡ frame_accounted top side kind (Deeds.Huh place) y a
returned_huh top Bot Im place x y a = refl
returned_huh top Bot Rm place x y a = refl
returned_huh top Bot Dm place x y a = refl
returned_huh top Bot Fm place x y a = refl
returned_huh top Bot Em place x y a = refl
returned_huh top Server Im place x y a = refl
returned_huh top Server Rm place x y a = refl
returned_huh top Server Dm place x y a = refl
returned_huh top Server Fm place x y a = refl
returned_huh top Server Em place x y a = refl

-- an account whose name and power are those after one more frame
abbrev pub message_recorded : Side → Kind → Deed → List ℕ → Account → Account
message_recorded side kind deed tokens a = record a {
  name = name_after kind side deed tokens a.name;
  power = power_after kind side deed tokens a.power;
}

-- an answer is accounted by the body of its frame
pub answer_by_body : (top : Level) (side : Side) (head : Head) (body : List ℕ) (v : Verdict) (a : Account) →
    effect_accounted top (Notes.Frame head (deed_of true v)) (reply_to side head body v ∷ []) a
    ≡ frame_accounted top side head.kind (deed_of true v) (tokens_of body) a
unfolding answer_bytes
answer_by_body top side head body Relay a =
    ap (λ (b : List ℕ). frame_accounted top side head.kind Deeds.Relayed (tokens_of b) a)
    (behind_head (answer_head head Relay) body)
answer_by_body top side head body Prn a = returned_prn top side head.kind _ _ a
answer_by_body top side head body (Huh place) a = returned_huh top side head.kind place _ _ a

-- the counts and the level of a frame, and then the name and the power, are its account
pub recorded_account : (top : Level) (side : Side) (kind : Kind) (deed : Deed) (tokens : List ℕ) (a counted new : Account) →
    counted ≡ record (frame_accounted top side kind deed tokens a) { name = a.name; power = a.power } →
    new ≡ message_recorded side kind deed tokens counted → new ≡ frame_accounted top side kind deed tokens a
recorded_account top Bot kind deed tokens a counted new e k = k ∙ ap (message_recorded Bot kind deed tokens) e
recorded_account top Server kind deed tokens a counted new e k = k ∙ ap (message_recorded Server kind deed tokens) e
