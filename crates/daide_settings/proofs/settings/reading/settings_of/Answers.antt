use Rattle.std.proofs.Common.{rules}
use Rattle.daide_settings.proofs.Common.{◌∙◌, sym, refl, table_view, judged_members}
use Rattle.daide_settings.proofs.LimitLemmas.{fault_of_key, known_judged}
use Rattle.daide_settings.proofs.settings.reading.settings_of.Goals as goal

pub returns-then-not-has_only_known-clause-refused : goal.returns-then-not-has_only_known-clause-refused
unfolding judged_members
returns-then-not-has_only_known-clause-refused g c = rw (← c.if-not-has_only_known.ensures) refl

pub returns-in_err-listen-clause-refused : goal.returns-in_err-listen-clause-refused
returns-in_err-listen-clause-refused g c =
    fault_of_key g.A.SettingsMemory.Refuses (table_view c.args.table.now) c.from_residual.result c.in_err-listen.field-0.0
    c.from_residual.ensures.1
    (known_judged _ (sym c.if-not-has_only_known.ensures) ∙ rw c.in_err-listen.ensures refl)

pub returns-in_err-server-clause-refused : goal.returns-in_err-server-clause-refused
returns-in_err-server-clause-refused g c =
    fault_of_key g.A.SettingsMemory.Refuses (table_view c.args.table.now) c.from_residual-in_err-server.result c.in_err-server.field-0.0
    c.from_residual-in_err-server.ensures.1
    (known_judged _ (sym c.if-not-has_only_known.ensures) ∙ rw (c.in_ok-listen.ensures, c.in_err-server.ensures) refl)

pub returns-in_err-config-clause-refused : goal.returns-in_err-config-clause-refused
returns-in_err-config-clause-refused g c =
    fault_of_key g.A.SettingsMemory.Refuses (table_view c.args.table.now) c.from_residual-in_err-config.result c.in_err-config.field-0.0
    c.from_residual-in_err-config.ensures.1
    (known_judged _ (sym c.if-not-has_only_known.ensures) ∙ rw (
      c.in_ok-listen.ensures,
      c.in_ok-server.ensures,
      ← c.in_err-config.ensures.judged,
    ) refl)

pub returns-in_err-limits-clause-refused : goal.returns-in_err-limits-clause-refused
returns-in_err-limits-clause-refused g c =
    fault_of_key g.A.SettingsMemory.Refuses (table_view c.args.table.now) c.from_residual-in_err-limits.result c.in_err-limits.field-0.0
    c.from_residual-in_err-limits.ensures.1
    (known_judged _ (sym c.if-not-has_only_known.ensures) ∙ rw (
      c.in_ok-listen.ensures,
      c.in_ok-server.ensures,
      ← c.in_ok-config.ensures.judged,
      ← c.in_err-limits.ensures.judged,
    ) refl)

pub returns-in_err-words-clause-refused : goal.returns-in_err-words-clause-refused
returns-in_err-words-clause-refused g c =
    fault_of_key g.A.SettingsMemory.Refuses (table_view c.args.table.now) c.from_residual-in_err-words.result c.in_err-words.field-0.0
    c.from_residual-in_err-words.ensures.1
    (known_judged _ (sym c.if-not-has_only_known.ensures) ∙ rw (
      c.in_ok-listen.ensures,
      c.in_ok-server.ensures,
      ← c.in_ok-config.ensures.judged,
      ← c.in_ok-limits.ensures.judged,
      ← c.found.ensures,
      c.in_err-words.ensures,
    ) refl)

pub returns-in_err-stall_seconds-clause-refused : goal.returns-in_err-stall_seconds-clause-refused
returns-in_err-stall_seconds-clause-refused g c =
    fault_of_key g.A.SettingsMemory.Refuses (table_view c.args.table.now) c.from_residual-in_err-stall_seconds.result
    c.in_err-stall_seconds.field-0.0 c.from_residual-in_err-stall_seconds.ensures.1
    (known_judged _ (sym c.if-not-has_only_known.ensures) ∙ rw (
      c.in_ok-listen.ensures,
      c.in_ok-server.ensures,
      ← c.in_ok-config.ensures.judged,
      ← c.in_ok-limits.ensures.judged,
      ← c.found.ensures,
      c.in_ok-words.ensures,
      ← c.in_err-stall_seconds.ensures,
    ) refl)

pub returns-in_err-endless-clause-refused : goal.returns-in_err-endless-clause-refused
returns-in_err-endless-clause-refused g c =
    fault_of_key g.A.SettingsMemory.Refuses (table_view c.args.table.now) c.from_residual-in_err-endless.result c.in_err-endless.field-0.0
    c.from_residual-in_err-endless.ensures.1
    (known_judged _ (sym c.if-not-has_only_known.ensures) ∙ rw (
      c.in_ok-listen.ensures,
      c.in_ok-server.ensures,
      ← c.in_ok-config.ensures.judged,
      ← c.in_ok-limits.ensures.judged,
      ← c.found.ensures,
      c.in_ok-words.ensures,
      ← c.in_ok-stall_seconds.ensures,
      ← c.in_err-endless.ensures,
    ) refl)

pub returns-in_err-allow-clause-refused : goal.returns-in_err-allow-clause-refused
returns-in_err-allow-clause-refused g c =
    fault_of_key g.A.SettingsMemory.Refuses (table_view c.args.table.now) c.from_residual-in_err-allow.result c.in_err-allow.field-0.0
    c.from_residual-in_err-allow.ensures.1
    (known_judged _ (sym c.if-not-has_only_known.ensures) ∙ rw (
      c.in_ok-listen.ensures,
      c.in_ok-server.ensures,
      ← c.in_ok-config.ensures.judged,
      ← c.in_ok-limits.ensures.judged,
      ← c.found.ensures,
      c.in_ok-words.ensures,
      ← c.in_ok-stall_seconds.ensures,
      ← c.in_ok-endless.ensures,
      ← c.found-2.ensures,
      c.in_err-allow.ensures,
    ) refl)

pub returns-in_err-max_per_address-clause-refused : goal.returns-in_err-max_per_address-clause-refused
returns-in_err-max_per_address-clause-refused g c =
    fault_of_key g.A.SettingsMemory.Refuses (table_view c.args.table.now) c.from_residual-in_err-max_per_address.result
    c.in_err-max_per_address.field-0.0 c.from_residual-in_err-max_per_address.ensures.1
    (known_judged _ (sym c.if-not-has_only_known.ensures) ∙ rw (
      c.in_ok-listen.ensures,
      c.in_ok-server.ensures,
      ← c.in_ok-config.ensures.judged,
      ← c.in_ok-limits.ensures.judged,
      ← c.found.ensures,
      c.in_ok-words.ensures,
      ← c.in_ok-stall_seconds.ensures,
      ← c.in_ok-endless.ensures,
      ← c.found-2.ensures,
      c.in_ok-allow.ensures,
      ← c.in_err-max_per_address.ensures.judged,
    ) refl)

pub returns-in_err-max_refused-clause-refused : goal.returns-in_err-max_refused-clause-refused
returns-in_err-max_refused-clause-refused g c =
    fault_of_key g.A.SettingsMemory.Refuses (table_view c.args.table.now) c.from_residual-in_err-max_refused.result
    c.in_err-max_refused.field-0.0 c.from_residual-in_err-max_refused.ensures.1
    (known_judged _ (sym c.if-not-has_only_known.ensures) ∙ rw (
      c.in_ok-listen.ensures,
      c.in_ok-server.ensures,
      ← c.in_ok-config.ensures.judged,
      ← c.in_ok-limits.ensures.judged,
      ← c.found.ensures,
      c.in_ok-words.ensures,
      ← c.in_ok-stall_seconds.ensures,
      ← c.in_ok-endless.ensures,
      ← c.found-2.ensures,
      c.in_ok-allow.ensures,
      ← c.in_ok-max_per_address.ensures.judged,
      ← c.in_err-max_refused.ensures,
    ) refl)

pub returns-in_err-control-clause-refused : goal.returns-in_err-control-clause-refused
returns-in_err-control-clause-refused g c =
    fault_of_key g.A.SettingsMemory.Refuses (table_view c.args.table.now) c.from_residual-in_err-control.result c.in_err-control.field-0.0
    c.from_residual-in_err-control.ensures.1
    (known_judged _ (sym c.if-not-has_only_known.ensures) ∙ rw (
      c.in_ok-listen.ensures,
      c.in_ok-server.ensures,
      ← c.in_ok-config.ensures.judged,
      ← c.in_ok-limits.ensures.judged,
      ← c.found.ensures,
      c.in_ok-words.ensures,
      ← c.in_ok-stall_seconds.ensures,
      ← c.in_ok-endless.ensures,
      ← c.found-2.ensures,
      c.in_ok-allow.ensures,
      ← c.in_ok-max_per_address.ensures.judged,
      ← c.in_ok-max_refused.ensures,
      c.in_err-control.ensures,
    ) refl)

pub returns-in_default-clause-refused : goal.returns-in_default-clause-refused
returns-in_default-clause-refused g c =
    rw (
      known_judged _ (sym c.if-not-has_only_known.ensures),
      c.in_ok-listen.ensures,
      c.in_ok-server.ensures,
      ← c.in_ok-config.ensures.judged,
      ← c.in_ok-limits.ensures.judged,
      ← c.found.ensures,
      c.in_ok-words.ensures,
      ← c.in_ok-stall_seconds.ensures,
      ← c.in_ok-endless.ensures,
      ← c.found-2.ensures,
      c.in_ok-allow.ensures,
      ← c.in_ok-max_per_address.ensures.judged,
      ← c.in_ok-max_refused.ensures,
      c.in_ok-control.ensures,
    )
    (refl, c.in_default.ensures.refused)

pub returns-clause-judged : goal.returns-clause-judged
returns-clause-judged g c =
    known_judged _ (search rules) ∙ rw (
      c.in_ok-listen.ensures,
      c.in_ok-server.ensures,
      ← c.in_ok-config.ensures.judged,
      ← c.in_ok-limits.ensures.judged,
      ← c.found.ensures,
      c.in_ok-words.ensures,
      ← c.in_ok-stall_seconds.ensures,
      ← c.in_ok-endless.ensures,
      ← c.found-2.ensures,
      c.in_ok-allow.ensures,
      ← c.in_ok-max_per_address.ensures.judged,
      ← c.in_ok-max_refused.ensures,
      c.in_ok-control.ensures,
    )
    (cc (c.in-Ok.ensures.copied.0, c.in-Ok.ensures.copied.1, c.in-Ok.ensures.copied.2))
