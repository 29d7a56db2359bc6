-- The keys of a document, with its limits in the two parts in which the code reads them.
use Rattle.std.specs.Result.{IfErr, IsErrAnd}
use Rattle.daide_settings.proofs.Common.{◌≡◌, ℕ, List, true, Result, Ok, Err, refl, Members, get_member, Listen, Server, Words}
use Rattle.daide_settings.proofs.Common.{StallSeconds, Endless, Allow, MaxPerAddress, MaxRefused, Control, SettingsError, Given}
use Rattle.daide_settings.proofs.Common.{key_text, address_of, read_number, read_flag, read_text, then_with}
use Rattle.daide_settings.proofs.Common.{has_only_known, judged_members, keys_judged, words_judged}
use Rattle.daide_settings.specs.Causes.{IsFaultBy}
use Rattle.daide_settings.specs.LimitSettings.{config_judged, run_limits_judged}
use Rattle.daide_settings.specs.Ranges.{allow_judged}

-- checks that follow a chain of checks extend the chain
extended :
    {A B C : Type 0} (first : Result A SettingsError) (second : A → Result B SettingsError)
    (further : B → Result C SettingsError) →
    then_with (then_with first second) further ≡ then_with first (λ x. then_with (second x) further)
extended (Ok x) second further = refl
extended (Err fault) second further = refl

abbrev pub judged_in_parts : Members → Result Given SettingsError
judged_in_parts members =
    then_with (address_of Listen (get_member (key_text Listen) members)) (λ listen.
    then_with (address_of Server (get_member (key_text Server) members)) (λ server.
    then_with (config_judged members) (λ config.
    then_with (run_limits_judged members) (λ limits.
    then_with (words_judged (get_member (key_text Words) members)) (λ words.
    then_with (read_number StallSeconds (get_member (key_text StallSeconds) members)) (λ stall_seconds.
    then_with (read_flag Endless (get_member (key_text Endless) members)) (λ endless.
    then_with (allow_judged (get_member (key_text Allow) members)) (λ allow.
    then_with (read_number MaxPerAddress (get_member (key_text MaxPerAddress) members)) (λ max_per_address.
    then_with (read_number MaxRefused (get_member (key_text MaxRefused) members)) (λ max_refused.
    then_with (read_text Control (get_member (key_text Control) members)) (λ control.
    Ok (record {
      listen = listen;
      server = server;
      top_level = config.top_level;
      max_body = config.max_body;
      max_depth = config.max_depth;
      im_seconds = limits.im_seconds;
      max_sessions = limits.max_sessions;
      sessions = limits.sessions;
      turns = limits.turns;
      idle_seconds = limits.idle_seconds;
      words = words;
      stall_seconds = stall_seconds;
      endless = endless;
      allow = allow;
      max_per_address = max_per_address;
      max_refused = max_refused;
      control = control;
    }))))))))))))

in_parts : (members : Members) → keys_judged members ≡ judged_in_parts members
in_parts _ = simp extended

-- without an unknown key the parts are judged
pub known_judged :
    (members : Members) → has_only_known members ≡ true → judged_members members ≡ judged_in_parts members
unfolding judged_members
known_judged members known = rw known (in_parts members)

-- the fault of a key is returned
pub fault_of_key :
    {A : Type 0} (Refuses : List ℕ → Type 0) (members : Members) (result : Result A SettingsError) (fault : SettingsError) →
    IsErrAnd result (λ returned. returned ≡ fault) → judged_members members ≡ Err fault →
    IfErr result (IsFaultBy Refuses (judged_members members))
fault_of_key _ _ (Ok _) _ _ _ = tt
fault_of_key _ _ (Err _) _ same judged = rw judged same
