-- Explanations of some messages of docs/PROTOCOL.md, computed from the definitions, so that a wrong row fails to check.
use Rattle.std.specs.Fmt.{digits}
use Rattle.daide_explain.proofs.Common.{◌≡◌, ℕ, ◌<◌, get_or, List, [], ◌∷◌, ◌++◌, codes, refl, sym, ◌∙◌, ap, subst}
use Rattle.daide_explain.proofs.Common.{arith, bra, ket, class_of, L0, L10, Client, Relay, Prn, Huh, IsErrorPlace}
use Rattle.daide_explain.proofs.Common.{HasVerdict, IsRelayed, IsExpected, IsEndExpected, IsExplained}
use Rattle.daide_grammar.specs.SideMessages.{IsMessage}
use Rattle.daide_grammar.specs.Table.Symbols.{entries, may_end_of, table_answer}
use Rattle.daide_reader.proofs.SomeVerdict.{plain_verdict, plain_verdict_right}
use Rattle.daide_explain.specs.declared.brackets.Unpaired.TheVariants.{Bra}
use Rattle.daide_explain.specs.Unpaired.{IsNeverClosed}
use Rattle.daide_explain.proofs.Relayed.{relay_is}

abbrev pub fra : ℕ
fra = 0x4102

abbrev pub gof : ℕ
gof = 0x4803

abbrev pub obs : ℕ
obs = 0x480F

abbrev pub snd : ℕ
snd = 0x4817

abbrev pub try : ℕ
try = 0x4A1A

-- a bot's messages without press, and with press of level 10
abbrev pub At0 : List ℕ → Type 0
At0 = IsMessage Client L0

abbrev pub At10 : List ℕ → Type 0
At10 = IsMessage Client L10

-- ---- the explanation of `GOF (`

not_before : (m : List ℕ) (j : ℕ) → m ≡ gof ∷ bra ∷ [] → j < 1 → ¬ IsNeverClosed m j
not_before m j e less ([], after, at, open_still) =
    let same : gof ∷ bra ∷ [] ≡ bra ∷ after = sym e ∙ at.whole in
    let first : ◌≡◌ {A = ℕ} gof bra = ap (λ (l : List ℕ). get_or l 0 0) same in
    absurd (omega arith)
not_before m j e less (x ∷ before, after, at, open_still) = absurd (let place = at.place in omega arith)

pub gof_open : IsExplained [] Client L0 254 (gof ∷ bra ∷ []) Prn (codes "unpaired: ( at 1" ++ 10 ∷ [])
unfolding digits
gof_open = (
  Bra 1,
  (
    refl,
    (gof ∷ [], [], record { whole = refl; place = refl }, refl),
    λ j less. not_before (gof ∷ bra ∷ []) j refl less,
  ),
  refl,
)

-- ---- `OBS GOF` is refused at index 1

obs_gof : plain_verdict Client L0 254 (obs ∷ gof ∷ []) ≡ Huh 1
unfolding entries may_end_of table_answer class_of
obs_gof = refl

refused_at_1 : HasVerdict At0 254 (obs ∷ gof ∷ []) (Huh 1)
refused_at_1 =
    subst (HasVerdict At0 254 (obs ∷ gof ∷ [])) obs_gof (plain_verdict_right Client L0 254 (obs ∷ gof ∷ []))

place_of : HasVerdict At0 254 (obs ∷ gof ∷ []) (Huh 1) → IsErrorPlace At0 254 (obs ∷ gof ∷ []) 1
unfolding HasVerdict
place_of h = h.2

pub obs_gof_place : IsErrorPlace At0 254 (obs ∷ gof ∷ []) 1
obs_gof_place = place_of refused_at_1

-- ---- the empty message is refused at index 0, its end

nothing_refused : plain_verdict Client L0 254 [] ≡ Huh 0
unfolding entries may_end_of table_answer class_of
nothing_refused = refl

nothing_at_0 : HasVerdict At0 254 [] (Huh 0)
nothing_at_0 = subst (HasVerdict At0 254 []) nothing_refused (plain_verdict_right Client L0 254 [])

end_of : HasVerdict At0 254 [] (Huh 0) → IsErrorPlace At0 254 [] 0
unfolding HasVerdict
end_of h = h.2

pub nothing_place : IsErrorPlace At0 254 [] 0
nothing_place = end_of nothing_at_0

not_relayed : HasVerdict At0 254 [] (Huh 0) → ¬ IsRelayed At0 254 []
unfolding HasVerdict
not_relayed h = h.1

pub nothing_is_no_message : ¬ IsRelayed At0 254 []
nothing_is_no_message = not_relayed nothing_at_0

-- ---- OBS is expected at the start, and the end after it

obs_relayed : plain_verdict Client L0 254 (obs ∷ []) ≡ Relay
unfolding entries may_end_of table_answer class_of
obs_relayed = refl

pub obs_expected : IsExpected At0 254 [] obs
obs_expected =
    let relayed = relay_is At0 254 (obs ∷ []) _ (plain_verdict_right Client L0 254 (obs ∷ [])) obs_relayed in
    record { viable = ([], relayed.is_message); shallow = relayed.shallow }

pub obs_ends : IsEndExpected At0 254 (obs ∷ [])
obs_ends = relay_is At0 254 (obs ∷ []) _ (plain_verdict_right Client L0 254 (obs ∷ [])) obs_relayed

-- ---- after `SND ( FRA ) ( TRY (` a token of an unknown category is expected

abbrev pub try_open : List ℕ
try_open = snd ∷ bra ∷ fra ∷ ket ∷ bra ∷ try ∷ bra ∷ []

unknown_relayed : plain_verdict Client L10 254 (try_open ++ 0x5800 ∷ ket ∷ ket ∷ []) ≡ Relay
unfolding entries may_end_of table_answer class_of
unknown_relayed = refl

pub unknown_tried : IsExpected At10 254 try_open 0x5800
unknown_tried =
    let whole = try_open ++ 0x5800 ∷ ket ∷ ket ∷ [] in
    let relayed = relay_is At10 254 whole _ (plain_verdict_right Client L10 254 whole) unknown_relayed in
    record { viable = (ket ∷ ket ∷ [], relayed.is_message); shallow = omega arith }
