-- Why a text gives no settings, or is not judged. (own)
use Rattle.std.specs.Prelude.{◌≡◌, ◌⊎◌, ℕ, List, Result, Ok, Err, IsSomeAnd}
use Rattle.toml.specs.Parse.{parse_document}
use Rattle.daide_causes.specs.Causes.{WasRefused}
use Rattle.daide_settings.specs.declared.settings.SettingsError.{SettingsError}
use Rattle.daide_settings.specs.declared.settings.SettingsError.TheVariants.{Memory}
use Rattle.daide_settings.specs.declared.settings.judged.JudgeFault.{JudgeFault}
use Rattle.daide_settings.specs.declared.settings.judged.JudgeFault.TheVariants as judge_faults
use Rattle.daide_settings.specs.Settings.{Given, judged_settings}

-- memory was refused for a copy of an address or of the path
abbrev pub IsCopyRefused : (List ℕ → Type 0) → Given → Type 0
IsCopyRefused Refuses given = Refuses given.listen ⊎ (Refuses given.server ⊎ IsSomeAnd given.control Refuses)

-- the fault of a judgement; without one, memory was refused for a copy
abbrev pub IsFaultBy : (List ℕ → Type 0) → Result Given SettingsError → SettingsError → Type 0
IsFaultBy Refuses (Ok given) fault = (fault ≡ Memory) × IsCopyRefused Refuses given
IsFaultBy Refuses (Err judged) fault = fault ≡ judged

-- Memory was refused for the document, or the fault is that of the judgement. `Refuses` is the relation of that name of
-- the memory.
abbrev pub IsSettingsCause : (List ℕ → Type 0) → List ℕ → SettingsError → Type 0
IsSettingsCause Refuses text fault =
    ((fault ≡ Memory) × Refuses text) ⊎ IsFaultBy Refuses (judged_settings (parse_document text)) fault

-- memory was refused, for a list or for a text
abbrev pub IsMemoryRefused : (ℕ → Type 0) → (List ℕ → Type 0) → Type 0
IsMemoryRefused Refuses RefusesText = WasRefused Refuses ⊎ ((text : List ℕ) × RefusesText text)

-- what happened outside, if a fault says so: refused memory, or a failed write
abbrev pub IsJudgeCause : Type 0 → Type 0 → JudgeFault → Type 0
IsJudgeCause refused write judge_faults.Write = write
IsJudgeCause refused write judge_faults.Memory = refused
