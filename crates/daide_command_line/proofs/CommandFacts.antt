-- The parse of some complete command lines. The expected values follow the help.
use Rattle.std.proofs.Common.{◌≡◌, true, List, [], ◌∷◌, Some, None, option_map, refl, codes}
use Rattle.clap.specs.Words.{Text, all_of, fault_of, first_of, subcommand_of}
use Rattle.clap.specs.declared.error.kind.ErrorKind.TheVariants.{MissingRequiredArgument, UnknownArgument}
use Rattle.clap.proofs.OnLiterals.{clap_on_literals}
use Rattle.daide_command_line.specs.CommandLine.{gate_app, is_set}

-- a frame of the server, with words and an explanation
abbrev shown : List Text
shown = codes "daide-gate" ∷ codes "show" ∷ codes "--side" ∷ codes "server" ∷ codes "--words=a.toml" ∷ codes "--explain"
    ∷ codes "02" ∷ codes "00" ∷ []

shown_command : option_map (λ p. p.0) (subcommand_of gate_app shown) ≡ Some (codes "show")
unfolding clap_on_literals
shown_command = refl

shown_side : option_map (λ p. first_of (codes "side") p.1) (subcommand_of gate_app shown) ≡ Some (Some (codes "server"))
unfolding clap_on_literals
shown_side = refl

shown_level : option_map (λ p. first_of (codes "level") p.1) (subcommand_of gate_app shown) ≡ Some None
unfolding clap_on_literals
shown_level = refl

shown_words : option_map (λ p. first_of (codes "words") p.1) (subcommand_of gate_app shown) ≡ Some (Some (codes "a.toml"))
unfolding clap_on_literals
shown_words = refl

shown_explained : option_map (λ p. is_set (codes "explain") p.1) (subcommand_of gate_app shown) ≡ Some true
unfolding clap_on_literals
shown_explained = refl

shown_typed : option_map (λ p. all_of (codes "HEX") p.1) (subcommand_of gate_app shown)
    ≡ Some (Some (codes "02" ∷ codes "00" ∷ []))
unfolding clap_on_literals
shown_typed = refl

shown_is_taken : fault_of gate_app shown ≡ []
unfolding clap_on_literals
shown_is_taken = refl

-- two logs, and the messages of one as objects
abbrev checked : List Text
checked = codes "daide-gate" ∷ codes "check" ∷ codes "a.log" ∷ codes "--explain" ∷ codes "b.log" ∷ []

checked_files : option_map (λ p. all_of (codes "FILE") p.1) (subcommand_of gate_app checked)
    ≡ Some (Some (codes "a.log" ∷ codes "b.log" ∷ []))
unfolding clap_on_literals
checked_files = refl

abbrev transcribed : List Text
transcribed = codes "daide-gate" ∷ codes "transcript" ∷ codes "--format" ∷ codes "json" ∷ codes "a.log" ∷ []

transcribed_format : option_map (λ p. first_of (codes "format") p.1) (subcommand_of gate_app transcribed)
    ≡ Some (Some (codes "json"))
unfolding clap_on_literals
transcribed_format = refl

transcribed_records : option_map (λ p. all_of (codes "RECORD") p.1) (subcommand_of gate_app transcribed)
    ≡ Some (Some (codes "a.log" ∷ []))
unfolding clap_on_literals
transcribed_records = refl

-- the status of two runs
abbrev asked : List Text
asked = codes "daide-gate" ∷ codes "status" ∷ codes "a.toml" ∷ codes "b.toml" ∷ []

asked_settings : option_map (λ p. all_of (codes "SETTINGS") p.1) (subcommand_of gate_app asked)
    ≡ Some (Some (codes "a.toml" ∷ codes "b.toml" ∷ []))
unfolding clap_on_literals
asked_settings = refl

asked_without_settings : fault_of gate_app (codes "daide-gate" ∷ codes "status" ∷ []) ≡ MissingRequiredArgument ∷ []
unfolding clap_on_literals
asked_without_settings = refl

-- a run with records
abbrev recorded : List Text
recorded = codes "daide-gate" ∷ codes "run" ∷ codes "--record" ∷ codes "logs" ∷ codes "a.toml" ∷ []

recorded_settings : option_map (λ p. first_of (codes "SETTINGS") p.1) (subcommand_of gate_app recorded)
    ≡ Some (Some (codes "a.toml"))
unfolding clap_on_literals
recorded_settings = refl

recorded_folder : option_map (λ p. first_of (codes "record") p.1) (subcommand_of gate_app recorded)
    ≡ Some (Some (codes "logs"))
unfolding clap_on_literals
recorded_folder = refl

-- a letter in place of `--verbose`
abbrev lettered : List Text
lettered = codes "daide-gate" ∷ codes "run" ∷ codes "-v" ∷ codes "a.toml" ∷ []

lettered_is_verbose : option_map (λ p. is_set (codes "verbose") p.1) (subcommand_of gate_app lettered) ≡ Some true
unfolding clap_on_literals
lettered_is_verbose = refl

lettered_is_taken : fault_of gate_app lettered ≡ []
unfolding clap_on_literals
lettered_is_taken = refl

-- settings whose addresses are tried
abbrev tried : List Text
tried = codes "daide-gate" ∷ codes "settings" ∷ codes "--try" ∷ codes "a.toml" ∷ []

tried_is_tried : option_map (λ p. is_set (codes "try") p.1) (subcommand_of gate_app tried) ≡ Some true
unfolding clap_on_literals
tried_is_tried = refl

tried_is_taken : fault_of gate_app tried ≡ []
unfolding clap_on_literals
tried_is_taken = refl

-- no command; a run without settings; an unknown option
nothing_asked : subcommand_of gate_app (codes "daide-gate" ∷ []) ≡ None
unfolding clap_on_literals
nothing_asked = refl

settings_missing : fault_of gate_app (codes "daide-gate" ∷ codes "run" ∷ []) ≡ MissingRequiredArgument ∷ []
unfolding clap_on_literals
settings_missing = refl

unknown_option : fault_of gate_app (codes "daide-gate" ∷ codes "check" ∷ codes "--loud" ∷ []) ≡ UnknownArgument ∷ []
unfolding clap_on_literals
unknown_option = refl
