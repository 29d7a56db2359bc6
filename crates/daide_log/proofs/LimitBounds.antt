-- The limits that a session accepts, as bounds.
use Rattle.daide_log.proofs.Common.{◌≡◌, ◌≤◌, Bool, true, false, cond, Result, Ok, Err, refl, leb, ◌&&◌, ◌==◌, ◌%◌}
use Rattle.daide_log.proofs.Common.{and_parts, leb-true, Config, ConfigError, config_fault, is_level, is_body, is_depth}
use Rattle.daide_protocol.specs.declared.config.ConfigError.TheVariants as errors
use Rattle.daide_protocol.specs.Bounds.{least_depth, greatest_depth, longest_body}

record AreWithin (config : Config) : Type 0 where
  pub low : least_depth ≤ config.max_depth
  pub high : config.max_depth ≤ greatest_depth
  pub body : config.max_body ≤ longest_body

are_within : (config : Config) → config_fault config ≡ Ok tt → AreWithin config
are_within config h = go (is_level config.top_level) (is_body config.max_body) (is_depth config.max_depth) refl refl h
  where
    go : (a b c : Bool) → is_body config.max_body ≡ b → is_depth config.max_depth ≡ c →
        ◌≡◌ {A = Result (Unit {0}) ConfigError}
        (cond a (cond b (cond c (Ok tt) (Err errors.Depth)) (Err errors.Body)) (Err errors.Level)) (Ok tt) → AreWithin config
    go true true true f g h =
        let body = and_parts (config.max_body % 2 == 0) (leb 512 config.max_body && leb config.max_body 65526) f in
        let most = (and_parts (leb 512 config.max_body) (leb config.max_body 65526) body.1).1 in
        let deep = and_parts (leb 4 config.max_depth) (leb config.max_depth 254) g in
        record {
          low = leb-true 4 config.max_depth deep.0;
          high = leb-true config.max_depth 254 deep.1;
          body = leb-true config.max_body 65526 most;
        }
    go true true false f g h = absurd (cc)
    go true false c f g h = absurd (cc)
    go false b c f g h = absurd (cc)

pub depth_within : (config : Config) → config_fault config ≡ Ok tt →
    (least_depth ≤ config.max_depth) × (config.max_depth ≤ greatest_depth)
depth_within config h = let w = are_within config h in (w.low, w.high)

pub body_within : (config : Config) → config_fault config ≡ Ok tt → config.max_body ≤ longest_body
body_within config h = (are_within config h).body
