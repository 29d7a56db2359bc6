-- The keys from `top_level` to `idle_seconds` in two parts, each of which one function reads. `proofs/LimitLemmas`
-- proves that `judged_members` has these parts. (own)
use Rattle.std.specs.Prelude.{Result, Ok}
use Rattle.toml.specs.Data.{Members, get_member}
use Rattle.daide_protocol.specs.declared.config.Config.{Config}
use Rattle.daide_settings.specs.declared.settings.key.Key.TheVariants.{TopLevel, MaxBody, MaxDepth}
use Rattle.daide_settings.specs.declared.settings.key.Key.TheVariants.{ImSeconds, MaxSessions, Sessions, Turns, IdleSeconds}
use Rattle.daide_settings.specs.declared.settings.SettingsError.{SettingsError}
use Rattle.daide_settings.specs.declared.settings.reading.RunLimits.{RunLimits}
use Rattle.daide_settings.specs.Settings.{key_text, read_number, then_with}

-- the limits of each session, in the order of their keys
abbrev pub config_judged : Members → Result Config SettingsError
config_judged members =
    then_with (read_number TopLevel (get_member (key_text TopLevel) members)) (λ top_level.
    then_with (read_number MaxBody (get_member (key_text MaxBody) members)) (λ max_body.
    then_with (read_number MaxDepth (get_member (key_text MaxDepth) members)) (λ max_depth.
    Ok (record { top_level = top_level; max_body = max_body; max_depth = max_depth }))))

-- the limits of the whole run, in the order of their keys
abbrev pub run_limits_judged : Members → Result RunLimits SettingsError
run_limits_judged members =
    then_with (read_number ImSeconds (get_member (key_text ImSeconds) members)) (λ im_seconds.
    then_with (read_number MaxSessions (get_member (key_text MaxSessions) members)) (λ max_sessions.
    then_with (read_number Sessions (get_member (key_text Sessions) members)) (λ sessions.
    then_with (read_number Turns (get_member (key_text Turns) members)) (λ turns.
    then_with (read_number IdleSeconds (get_member (key_text IdleSeconds) members)) (λ idle_seconds.
    Ok (record {
      im_seconds = im_seconds;
      max_sessions = max_sessions;
      sessions = sessions;
      turns = turns;
      idle_seconds = idle_seconds;
    }))))))
