-- Lines of the log of a match and of its report, computed from the definitions, so that a wrong definition fails to
-- check.
use Rattle.daide_log.proofs.Common.{◌≡◌, [], ◌∷◌, ◌++◌, Some, None, refl, codes, digits, Bot, Server, Im, Relayed}
use Rattle.daide_log.proofs.Common.{Nothing, Frame, Config, name_of, token_named, names, Single, Match, parted_at_space}
use Rattle.daide_log.proofs.Common.{plain_number, match_config_of_line, version_of, append_word, source_text}
use Rattle.daide_log.proofs.Common.{reported_text, move_line, own_line}
use Rattle.daide_log_lines.proofs.LineFacts.{xyz, gof}

-- ---- the head

versions : (version_of (codes "daide-log 1") ≡ Some Single) × (version_of (codes "daide-log 2") ≡ Some Match)
    × (version_of (codes "daide-log 3") ≡ None) × (version_of (codes "daide-log 2 ") ≡ None)
versions = (refl, refl, refl, refl)

unfoldable pub limits : Config
limits = record { top_level = 60; max_body = 1024; max_depth = 16 }

sessions_and_words :
    (match_config_of_line (codes "config 60 1024 16 2 1") ≡ Some (record { config = limits; sessions = 2; words = 1 }))
    × (match_config_of_line (codes "config 60 1024 16 256 16") ≡ Some (record { config = limits; sessions = 256; words = 16 }))
    × (match_config_of_line (codes "config 60 1024 16 1 0") ≡ Some (record { config = limits; sessions = 1; words = 0 }))
    × (match_config_of_line (codes "config 60 1024 16 0 1") ≡ None)
    × (match_config_of_line (codes "config 60 1024 16 257 1") ≡ None)
    × (match_config_of_line (codes "config 60 1024 16 2 17") ≡ None)
    × (match_config_of_line (codes "config 60 1024 16 02 1") ≡ None)
    × (match_config_of_line (codes "config 60 1024 16 2 01") ≡ None)
    × (match_config_of_line (codes "config 60 1024 16 2 1 ") ≡ None)
    × (match_config_of_line (codes "config 60 1024 16 2") ≡ None)
    × (match_config_of_line (codes "config 61 1024 16 2 1") ≡ None)
unfolding match_config_of_line parted_at_space plain_number limits
sessions_and_words = (refl, refl, refl, refl, refl, refl, refl, refl, refl, refl, refl)

-- ---- words

-- a name of the protocol is not accepted as a word, and no word is accepted twice
accepted : (append_word [] (Some xyz) ≡ Some (xyz ∷ [])) × (append_word [] (Some gof) ≡ None)
    × (append_word (xyz ∷ []) (Some xyz) ≡ None)
unfolding name_of token_named names xyz gof
accepted = (refl, refl, refl)

-- ---- lines

-- the lines of a session's own log
own_lines : (own_line 2 (codes "2 timer") ≡ codes "timer") × (own_line 2 (codes "12 timer") ≡ codes "#")
    × (own_line 2 (codes "1 bot 00") ≡ codes "#") × (own_line 2 (codes "# 2 timer") ≡ codes "# 2 timer")
    × (own_line 2 [] ≡ [])
unfolding parted_at_space plain_number
own_lines = (refl, refl, refl, refl, refl)

-- ---- the report

moves_reported :
    (move_line (record { line = 4; session = Some 1 }) Bot (Frame (record { kind = Im; len = 4 }) Relayed)
    ≡ codes "4 1 bot IM 4 relay" ++ 10 ∷ [])
    × (move_line (record { line = 4; session = Some 256 }) Server Nothing ≡ codes "4 256 server end" ++ 10 ∷ [])
    × (move_line (record { line = 4; session = None }) Server Nothing ≡ codes "4 server end" ++ 10 ∷ [])
unfolding move_line source_text reported_text digits
moves_reported = (refl, refl, refl)
