-- The second line of a log has the form of docs/FORMATS.md.
use Rattle.daide_log.proofs.Common.{◌≡◌, ℕ, ◌++◌, List, codes, leb, ◌&&◌, Option, Some, None, Result, Ok, Err, refl, ap, ◌∙◌}
use Rattle.daide_log.proofs.Common.{append_assoc, decimal, same_Some, Config, ConfigError, config_fault, plain_number, parted_at_space}
use Rattle.daide_log.proofs.Common.{within, match_config_of_line, match_config_of_numbers, config_of_line, MatchConfig}
use Rattle.daide_log_lines.specs.LogLine.{Parted, strip_prefix}
use Rattle.daide_log_lines.proofs.FormLemmas.{begins_with, chosen, parted_is, plain_decimal}
use Rattle.daide_log.specs.ConfigLine.{right_or_none, config_of_numbers, config_of_two, config_of_three, config_of_rest}
use Rattle.daide_log.specs.ConfigLine.{match_config_of_counts, match_config_of_depth, match_config_of_body}
use Rattle.daide_log.specs.ConfigLine.{match_config_of_level, match_config_of_rest}

-- three plain numbers are the digits of the limits
record AreNumbers (level body depth : List ℕ) (config : Config) : Type 0 where
  level_is : level ≡ decimal config.top_level
  body_is : body ≡ decimal config.max_body
  depth_is : depth ≡ decimal config.max_depth

numbers_are : (level body depth : List ℕ) (config : Config) →
    config_of_numbers (plain_number level) (plain_number body) (plain_number depth) ≡ Some config →
    AreNumbers level body depth config
numbers_are level body depth config e = go (plain_number level) refl (plain_number body) refl (plain_number depth) refl e
  where
    right : (given : Config) (r : Result (Unit {0}) ConfigError) → right_or_none given r ≡ Some config → given ≡ config
    right given (Ok good) h = same_Some given config h
    right given (Err fault) h = absurd cc

    go : (l : Option ℕ) → plain_number level ≡ l → (b : Option ℕ) → plain_number body ≡ b → (d : Option ℕ) →
        plain_number depth ≡ d → config_of_numbers l b d ≡ Some config → AreNumbers level body depth config
    go None li b bi d di h = absurd cc
    go (Some l) li None bi d di h = absurd cc
    go (Some l) li (Some b) bi None di h = absurd cc
    go (Some l) li (Some b) bi (Some d) di h =
        let given : Config = record { top_level = l; max_body = b; max_depth = d } in
        let is = right given (config_fault given) h in record {
          level_is = (plain_decimal level l li).0 ∙ ap (λ (c : Config). decimal c.top_level) is;
          body_is = (plain_decimal body b bi).0 ∙ ap (λ (c : Config). decimal c.max_body) is;
          depth_is = (plain_decimal depth d di).0 ∙ ap (λ (c : Config). decimal c.max_depth) is;
        }

pub config_line_is : (line : List ℕ) (config : Config) → config_of_line line ≡ Some config →
    line ≡ codes "config " ++ decimal config.top_level ++ codes " " ++ decimal config.max_body ++ codes " "
    ++ decimal config.max_depth
unfolding config_of_line
config_line_is line config e = by_rest (strip_prefix (codes "config ") line) refl e
  where
    whole : (text : List ℕ) → strip_prefix (codes "config ") line ≡ Some text → (one two : Parted) →
        parted_at_space text ≡ Some one → parted_at_space one.rest ≡ Some two →
        AreNumbers one.word two.word two.rest config →
        line ≡ codes "config " ++ decimal config.top_level ++ codes " " ++ decimal config.max_body ++ codes " "
        ++ decimal config.max_depth
    whole text s one two a b are =
        begins_with (codes "config ") line text s ∙ ap (λ (l : List ℕ). codes "config " ++ l) (parted_is text one a
        ∙ ap (λ (l : List ℕ). one.word ++ codes " " ++ l) (parted_is one.rest two b)
        ∙ ap (λ (l : List ℕ). l ++ codes " " ++ (two.word ++ codes " " ++ two.rest)) are.level_is
        ∙ ap (λ (l : List ℕ). decimal config.top_level ++ codes " " ++ (l ++ codes " " ++ two.rest)) are.body_is
        ∙ ap (λ (l : List ℕ). decimal config.top_level ++ codes " " ++ (decimal config.max_body ++ codes " " ++ l)) are.depth_is)
        ∙ simp append_assoc

    by_two : (text : List ℕ) → strip_prefix (codes "config ") line ≡ Some text → (one : Parted) →
        parted_at_space text ≡ Some one → (o : Option Parted) → parted_at_space one.rest ≡ o →
        config_of_two one.word o ≡ Some config →
        line ≡ codes "config " ++ decimal config.top_level ++ codes " " ++ decimal config.max_body ++ codes " "
        ++ decimal config.max_depth
    by_two text s one a None b h = absurd cc
    by_two text s one a (Some two) b h =
        whole text s one two a b (numbers_are one.word two.word two.rest config h)

    by_one : (text : List ℕ) → strip_prefix (codes "config ") line ≡ Some text → (o : Option Parted) →
        parted_at_space text ≡ o → config_of_three o ≡ Some config →
        line ≡ codes "config " ++ decimal config.top_level ++ codes " " ++ decimal config.max_body ++ codes " "
        ++ decimal config.max_depth
    by_one text s None a h = absurd cc
    by_one text s (Some one) a h = by_two text s one a (parted_at_space one.rest) refl h

    by_rest : (o : Option (List ℕ)) → strip_prefix (codes "config ") line ≡ o → config_of_rest o ≡ Some config →
        line ≡ codes "config " ++ decimal config.top_level ++ codes " " ++ decimal config.max_body ++ codes " "
        ++ decimal config.max_depth
    by_rest None s h = absurd cc
    by_rest (Some text) s h = by_one text s (parted_at_space text) refl h

-- ---- version 2

-- the second line of a match's log
abbrev pub IsMatchConfigLine : List ℕ → MatchConfig → Type 0
IsMatchConfigLine line limits =
    line ≡ codes "config " ++ decimal limits.config.top_level ++ codes " " ++ decimal limits.config.max_body ++ codes " "
    ++ decimal limits.config.max_depth ++ codes " " ++ decimal limits.sessions ++ codes " " ++ decimal limits.words

within_is : (least most n : ℕ) (digits : List ℕ) → within least most (plain_number digits) ≡ Some n → digits ≡ decimal n
within_is least most n digits e = go (plain_number digits) refl e
  where
    go : (o : Option ℕ) → plain_number digits ≡ o → within least most o ≡ Some n → digits ≡ decimal n
    go None is h = absurd cc
    go (Some k) is h =
        (plain_decimal digits k is).0
        ∙ ap decimal (same_Some k n (chosen (leb least k && leb k most) (Some k) n h).1)

counts_are : (level body depth sessions words : List ℕ) (limits : MatchConfig) →
    match_config_of_numbers (config_of_numbers (plain_number level) (plain_number body) (plain_number depth))
    (within 1 256 (plain_number sessions)) (within 0 16 (plain_number words)) ≡ Some limits →
    AreNumbers level body depth limits.config × (sessions ≡ decimal limits.sessions) × (words ≡ decimal limits.words)
counts_are level body depth sessions words limits e =
    go (config_of_numbers (plain_number level) (plain_number body) (plain_number depth)) (numbers_are level body depth)
    (within 1 256 (plain_number sessions)) (λ n. within_is 1 256 n sessions) (within 0 16 (plain_number words))
    (λ n. within_is 0 16 n words) e
  where
    go : (c : Option Config) → ((config : Config) → c ≡ Some config → AreNumbers level body depth config) →
        (s : Option ℕ) → ((n : ℕ) → s ≡ Some n → sessions ≡ decimal n) →
        (w : Option ℕ) → ((n : ℕ) → w ≡ Some n → words ≡ decimal n) → match_config_of_numbers c s w ≡ Some limits →
        AreNumbers level body depth limits.config × (sessions ≡ decimal limits.sessions) × (words ≡ decimal limits.words)
    go None ci s si w wi h = absurd cc
    go (Some config) ci None si w wi h = absurd cc
    go (Some config) ci (Some s) si None wi h = absurd cc
    go (Some config) ci (Some s) si (Some w) wi h =
        let is : record { config = config; sessions = s; words = w } ≡ limits = same_Some _ _ h in (
          ci limits.config (ap (λ (m : MatchConfig). Some m.config) is),
          si s refl ∙ ap (λ (m : MatchConfig). decimal m.sessions) is,
          wi w refl ∙ ap (λ (m : MatchConfig). decimal m.words) is,
        )

five_parts : (text : List ℕ) (limits : MatchConfig) (one two three four : Parted) → parted_at_space text ≡ Some one →
    parted_at_space one.rest ≡ Some two → parted_at_space two.rest ≡ Some three → parted_at_space three.rest ≡ Some four →
    match_config_of_numbers (config_of_numbers (plain_number one.word) (plain_number two.word) (plain_number three.word))
    (within 1 256 (plain_number four.word)) (within 0 16 (plain_number four.rest)) ≡ Some limits →
    codes "config " ++ text ≡ codes "config " ++ decimal limits.config.top_level ++ codes " "
    ++ decimal limits.config.max_body ++ codes " " ++ decimal limits.config.max_depth ++ codes " "
    ++ decimal limits.sessions ++ codes " " ++ decimal limits.words
five_parts text limits one two three four a b c d h =
    let are = counts_are one.word two.word three.word four.word four.rest limits h in
    let level = decimal limits.config.top_level in
    let body = decimal limits.config.max_body in
    let depth = decimal limits.config.max_depth in
    ap (λ (l : List ℕ). codes "config " ++ l) (parted_is text one a
    ∙ ap (λ (l : List ℕ). one.word ++ codes " " ++ l) (parted_is one.rest two b
    ∙ ap (λ (l : List ℕ). two.word ++ codes " " ++ l) (parted_is two.rest three c
    ∙ ap (λ (l : List ℕ). three.word ++ codes " " ++ l) (parted_is three.rest four d
    ∙ ap (λ (l : List ℕ). l ++ codes " " ++ four.rest) are.1
    ∙ ap (λ (l : List ℕ). decimal limits.sessions ++ codes " " ++ l) are.2)
    ∙ ap (λ (l : List ℕ). l ++ codes " " ++ (decimal limits.sessions ++ codes " " ++ decimal limits.words)) are.0.depth_is)
    ∙ ap (λ (l : List ℕ). l ++ codes " " ++ (depth ++ codes " " ++ (decimal limits.sessions ++ codes " " ++ decimal limits.words)))
    are.0.body_is)
    ∙ ap (λ (l : List ℕ). l ++ codes " " ++ (body ++ codes " " ++ (depth ++ codes " "
    ++ (decimal limits.sessions ++ codes " " ++ decimal limits.words)))) are.0.level_is)
    ∙ simp append_assoc

pub match_config_line_is : (line : List ℕ) (limits : MatchConfig) → match_config_of_line line ≡ Some limits →
    IsMatchConfigLine line limits
unfolding match_config_of_line
match_config_line_is line limits e = by_rest (strip_prefix (codes "config ") line) refl e
  where
    by_four : (text : List ℕ) → strip_prefix (codes "config ") line ≡ Some text → (one two three : Parted) →
        parted_at_space text ≡ Some one → parted_at_space one.rest ≡ Some two → parted_at_space two.rest ≡ Some three →
        (o : Option Parted) → parted_at_space three.rest ≡ o →
        match_config_of_counts (config_of_numbers (plain_number one.word) (plain_number two.word) (plain_number three.word)) o
        ≡ Some limits → IsMatchConfigLine line limits
    by_four text s one two three a b c None d h = absurd cc
    by_four text s one two three a b c (Some four) d h =
        begins_with (codes "config ") line text s ∙ five_parts text limits one two three four a b c d h

    by_three : (text : List ℕ) → strip_prefix (codes "config ") line ≡ Some text → (one two : Parted) →
        parted_at_space text ≡ Some one → parted_at_space one.rest ≡ Some two → (o : Option Parted) →
        parted_at_space two.rest ≡ o → match_config_of_depth one.word two.word o ≡ Some limits → IsMatchConfigLine line limits
    by_three text s one two a b None c h = absurd cc
    by_three text s one two a b (Some three) c h = by_four text s one two three a b c (parted_at_space three.rest) refl h

    by_two : (text : List ℕ) → strip_prefix (codes "config ") line ≡ Some text → (one : Parted) →
        parted_at_space text ≡ Some one → (o : Option Parted) → parted_at_space one.rest ≡ o →
        match_config_of_body one.word o ≡ Some limits → IsMatchConfigLine line limits
    by_two text s one a None b h = absurd cc
    by_two text s one a (Some two) b h = by_three text s one two a b (parted_at_space two.rest) refl h

    by_one : (text : List ℕ) → strip_prefix (codes "config ") line ≡ Some text → (o : Option Parted) →
        parted_at_space text ≡ o → match_config_of_level o ≡ Some limits → IsMatchConfigLine line limits
    by_one text s None a h = absurd cc
    by_one text s (Some one) a h = by_two text s one a (parted_at_space one.rest) refl h

    by_rest : (o : Option (List ℕ)) → strip_prefix (codes "config ") line ≡ o → match_config_of_rest o ≡ Some limits →
        IsMatchConfigLine line limits
    by_rest None s h = absurd cc
    by_rest (Some text) s h = by_one text s (parted_at_space text) refl h
