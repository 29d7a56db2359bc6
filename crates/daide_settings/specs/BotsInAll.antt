-- The number of bots of a run.
use Rattle.std.specs.Prelude.{ℕ, if◌then◌else◌}
use Rattle.daide_settings.specs.declared.settings.Settings.{Settings}

-- the bots of a run in all: as many as the settings say; an endless run has a bot for each number from 1 to 2^32 - 1 (own)
abbrev pub bots_in_all : Settings → ℕ
bots_in_all settings = if settings.endless then 4294967295 else settings.sessions
