use Rattle.std.specs.BTreeMap.{keys}
use Rattle.daide_settings.proofs.Common.{◌≡◌, ◌++◌, map}
use Rattle.daide_settings.proofs.ReportLemmas.{unknown_of}
use Rattle.daide_settings.proofs.settings.judged.unknown_keys.Given as goal

-- the unknown keys so far, and those among the keys left, are all
abbrev pub invariant-loop-key : goal.invariant-loop-key
invariant-loop-key g l = map (λ key. key.now) l.unknown.items ++ unknown_of l.key-iterator ≡ unknown_of (keys l.table)
