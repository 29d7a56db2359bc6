-- The lines that are parsed have the forms of docs/FORMATS.md.
use Rattle.std.proofs.Common.{◌≡◌, ℕ, ◌+◌, ◌-◌, ◌*◌, ◌/◌, ◌%◌, ◌<◌, ◌≤◌, Bool, true, false, ◌&&◌, cond, eqb, leb}
use Rattle.std.proofs.Common.{◌⊎◌, inl, inr, List, [], ◌∷◌, ◌++◌, length, take, drop, codes, Option, Some, None, Result, Ok, Err}
use Rattle.std.proofs.Common.{refl, sym, ap, ◌∙◌, subst, arith, append_assoc, append-nil}
use Rattle.std.proofs.lemmas.Bool.{leb-true, eqb-true, and_parts}
use Rattle.std.proofs.lemmas.Bool.Decides.{eqb_tells}
use Rattle.std.proofs.lemmas.Fmt.{decimal_digit, decimal_step}
use Rattle.std.proofs.lemmas.List.{take-append-drop}
use Rattle.std.proofs.lemmas.Option.{same_Some}
use Rattle.std.proofs.lemmas.Slice.Eq.{bytes_eq-Decides}
use Rattle.std.specs.Fmt.{decimal}
use Rattle.std.specs.Str.{bytes_eq}
use Rattle.hex.specs.Hex.{decode_of}
use Rattle.hex.specs.declared.error.FromHexError.{FromHexError}
use Rattle.daide_frame.specs.declared.side.Side.{Side}
use Rattle.daide_frame.specs.declared.side.Side.TheVariants.{Bot, Server}
use Rattle.daide_log_lines.specs.LogLine.{LogEvent, Received, EndOf, ImTimerLine, StopLine, Silence, strip_prefix, number_on}
use Rattle.daide_log_lines.specs.LogLine.{plain_number, Parted, with_first, parted_at_space, decoded, parse_received}
use Rattle.daide_log_lines.specs.LogLine.{is_comment, event_of_word, event_by, event_of_line}
use Rattle.daide_token.specs.Token.{token_of_bytes}
use Rattle.daide_grammar.specs.declared.level.Level.{Level}
use Rattle.daide_grammar.specs.declared.level.Level.TheVariants.{L0}
use Rattle.daide_grammar.specs.Level.{level_number, levels_down, level_among}
use Rattle.daide_words.proofs.NamesRead.{slot_names, operand_names}
use Rattle.daide_words.specs.WordNames.{slot_name, slot_named, operand_name, operand_named, word_of_parts}
use Rattle.daide_words.specs.declared.operand.Operand.{Operand}
use Rattle.daide_words.specs.declared.slot.Slot.{Slot}
use Rattle.daide_words.specs.declared.word.Word.{Word}
use Rattle.daide_log_lines.specs.MatchLine.{MatchEvent, Of, Quiet, within, loud, event_of_session, match_event_of_parts}
use Rattle.daide_log_lines.specs.MatchLine.{match_event_of_line}
use Rattle.daide_log_lines.specs.WordLine.{parse_name, parse_code, code_of_bytes, parse_level, level_of_option, word_of_level}
use Rattle.daide_log_lines.specs.WordLine.{word_of_slot, word_of_code, word_of_name, word_of_rest, word_of_line}
use Rattle.daide_log_lines.specs.Forms.{AreDigitsOf, IsComment, IsEventLine, IsMatchEventLine, IsWordLine}

-- ---- the parts of a line

-- a choice that has no other value than this one
pub chosen : {A : Type 0} (b : Bool) (x : Option A) (a : A) → cond b x None ≡ Some a → (b ≡ true) × (x ≡ Some a)
chosen true x a e = (refl, e)
chosen false x a e = absurd cc

pub begins_with : (prefix line rest : List ℕ) → strip_prefix prefix line ≡ Some rest → line ≡ prefix ++ rest
begins_with prefix line rest e =
    let both = chosen (bytes_eq (take (length prefix) line) prefix) (Some (drop (length prefix) line)) rest e in
    sym (take-append-drop (length prefix) line)
    ∙ ap (λ (l : List ℕ). l ++ drop (length prefix) line)
    ((bytes_eq-Decides (take (length prefix) line) prefix).0 both.0)
    ∙ ap (λ (l : List ℕ). prefix ++ l) (same_Some _ _ both.1)

-- a text, parted at a space
pub parted_is : (text : List ℕ) (parted : Parted) → parted_at_space text ≡ Some parted →
    text ≡ parted.word ++ codes " " ++ parted.rest
unfolding parted_at_space
parted_is [] parted e = absurd cc
parted_is (c ∷ cs) parted e = go (eqb c 32) refl (parted_at_space cs) (parted_is cs) e
  where
    go : (b : Bool) → eqb c 32 ≡ b → (o : Option Parted) →
        ((p : Parted) → o ≡ Some p → cs ≡ p.word ++ codes " " ++ p.rest) →
        cond b (Some (record { word = []; rest = cs })) (with_first c o) ≡ Some parted →
        c ∷ cs ≡ parted.word ++ codes " " ++ parted.rest
    go true t o next h =
        ap (λ (x : ℕ). x ∷ cs) (eqb-true c 32 t)
        ∙ ap (λ (p : Parted). p.word ++ codes " " ++ p.rest) (same_Some (record { word = []; rest = cs }) parted h)
    go false t None next h = absurd cc
    go false t (Some p) next h =
        ap (λ (l : List ℕ). c ∷ l) (next p refl)
        ∙ ap (λ (q : Parted). q.word ++ codes " " ++ q.rest)
        (same_Some (record { word = c ∷ p.word; rest = p.rest }) parted h)

-- ---- numbers

-- the digits after those of a number above 0
number_after : (n : ℕ) (digits : List ℕ) (k : ℕ) → 0 < n → n ≤ 65535 → number_on n digits ≡ Some k →
    (decimal k ≡ decimal n ++ digits) × (k ≤ 65535)
number_after n [] k some few e =
    let same : n ≡ k = same_Some _ _ e in (ap decimal (sym same) ∙ sym (append-nil (decimal n)), omega (arith, same, few))
number_after n (c ∷ cs) k some few e =
    let m : ℕ = 10 * n + (c - 48) in
    let both = chosen ((leb 48 c && leb c 57) && leb m 65535) (number_on m cs) k e in
    let tests = and_parts (leb 48 c && leb c 57) (leb m 65535) both.0 in
    let digit = and_parts (leb 48 c) (leb c 57) tests.0 in
    let least : 48 ≤ c = leb-true 48 c digit.0 in
    let most : c ≤ 57 = leb-true c 57 digit.1 in
    let fits : m ≤ 65535 = leb-true m 65535 tests.1 in
    let after = number_after m cs k (omega arith) fits both.1 in
    let front : m / 10 ≡ n = omega arith in
    let last : 48 + m % 10 ≡ c = omega arith in (
      after.0 ∙ ap (λ (l : List ℕ). l ++ cs)
          (decimal_step m (omega arith) (omega arith) ∙ ap (λ (d : ℕ). decimal (m / 10) ++ d ∷ []) last
          ∙ ap (λ (d : ℕ). decimal d ++ c ∷ []) front) ∙ append_assoc (decimal n) (c ∷ []) cs,
      after.1,
    )

-- the first digit
first_digit : (c : ℕ) (cs : List ℕ) (k : ℕ) → number_on 0 (c ∷ cs) ≡ Some k →
    (48 ≤ c) × (c ≤ 57) × (number_on (c - 48) cs ≡ Some k)
first_digit c cs k e =
    let m : ℕ = 10 * 0 + (c - 48) in
    let both = chosen ((leb 48 c && leb c 57) && leb m 65535) (number_on m cs) k e in
    let tests = and_parts (leb 48 c && leb c 57) (leb m 65535) both.0 in
    let digit = and_parts (leb 48 c) (leb c 57) tests.0 in (
      leb-true 48 c digit.0,
      leb-true c 57 digit.1,
      subst (λ (n : ℕ). number_on n cs ≡ Some k) (omega arith) both.1,
    )

-- a plain number is the decimal digits of its value
pub plain_decimal : (digits : List ℕ) (k : ℕ) → plain_number digits ≡ Some k → (digits ≡ decimal k) × (k ≤ 65535)
unfolding plain_number
plain_decimal [] k e = absurd cc
plain_decimal (c ∷ []) k e =
    let first = first_digit c [] k e in
    let same : c - 48 ≡ k = same_Some _ _ first.2 in
    let digit : 48 + k ≡ c = omega (arith, same, first.0) in (
      sym (decimal_digit k (omega (arith, same, first.1)) ∙ ap (λ (d : ℕ). d ∷ []) digit),
      omega (arith, same, first.1),
    )
plain_decimal (c ∷ d ∷ cs) k e = go (eqb_tells c 48) e
  where
    go : ((eqb c 48 ≡ true) × (c ≡ 48)) ⊎ ((eqb c 48 ≡ false) × (c ≡ 48 → ⊥)) →
        cond (eqb c 48) None (number_on 0 (c ∷ d ∷ cs)) ≡ Some k → ((c ∷ d ∷ cs) ≡ decimal k) × (k ≤ 65535)
    go (inl t) h = absurd (let n : cond true None (number_on 0 (c ∷ d ∷ cs)) ≡ Some k = rw t.0 at h in cc)
    go (inr t) h =
        let first = first_digit c (d ∷ cs) k (rw t.0 at h) in
        let after = number_after (c - 48) (d ∷ cs) k (omega (arith, first.0, t.1)) (omega (arith, first.1)) first.2 in
        let digit : 48 + (c - 48) ≡ c = omega (arith, first.0) in (
          sym (after.0 ∙ ap (λ (l : List ℕ). l ++ (d ∷ cs))
              (decimal_digit (c - 48) (omega (arith, first.1)) ∙ ap (λ (x : ℕ). x ∷ []) digit)),
          after.1,
        )

-- ---- events

comment_is : (line : List ℕ) → is_comment line ≡ true → IsComment line
comment_is [] e = inl refl
comment_is (c ∷ cs) e = inr (cs, ap (λ (x : ℕ). x ∷ cs) (eqb-true c 35 e))

received_is : (side : Side) (digits : List ℕ) (event : LogEvent) → parse_received side digits ≡ Some event →
    (bytes : List ℕ) × (event ≡ Received side bytes) × AreDigitsOf digits bytes
received_is side digits event e =
    let both = chosen (leb 2 (length digits) && leb (length digits) 2048) (decoded side (decode_of digits)) event e in
    let tests = and_parts (leb 2 (length digits)) (leb (length digits) 2048) both.0 in
    go (decode_of digits) refl both.1 (leb-true 2 (length digits) tests.0) (leb-true (length digits) 2048 tests.1)
  where
    go : (r : Result (List ℕ) FromHexError) → decode_of digits ≡ r → decoded side r ≡ Some event →
        2 ≤ length digits → length digits ≤ 2048 →
        (bytes : List ℕ) × (event ≡ Received side bytes) × AreDigitsOf digits bytes
    go (Ok bytes) is h least most = (bytes, sym (same_Some _ _ h), (least, most, is))
    go (Err fault) is h least most = absurd cc

-- a line of one word, or one of the words after it
word_or : (line word : List ℕ) (here event : LogEvent) (others : Option LogEvent) →
    cond (bytes_eq line word) (Some here) others ≡ Some event → ((line ≡ word) × (here ≡ event)) ⊎ (others ≡ Some event)
word_or line word here event others e = go (bytes_eq line word) refl e
  where
    go : (b : Bool) → bytes_eq line word ≡ b → cond b (Some here) others ≡ Some event →
        ((line ≡ word) × (here ≡ event)) ⊎ (others ≡ Some event)
    go true t h = inl ((bytes_eq-Decides line word).0 t, same_Some _ _ h)
    go false t h = inr h

word_is : (line : List ℕ) (event : LogEvent) → event_of_word line ≡ Some event → IsEventLine line event
word_is line event e = by_comment (is_comment line) refl e
  where
    after_bot : Option LogEvent
    after_bot = cond (bytes_eq line (codes "end server")) (Some (EndOf Server)) None

    after_stop : Option LogEvent
    after_stop = cond (bytes_eq line (codes "end bot")) (Some (EndOf Bot)) after_bot

    after_timer : Option LogEvent
    after_timer = cond (bytes_eq line (codes "stop")) (Some StopLine) after_stop

    by_bot : after_bot ≡ Some event → IsEventLine line event
    by_bot h = elim (word_or line (codes "end server") (EndOf Server) event None h) [
      | inl a ↦ subst (IsEventLine line) a.1 a.0
      | inr rest ↦ absurd cc
    ]

    by_stop : after_stop ≡ Some event → IsEventLine line event
    by_stop h = elim (word_or line (codes "end bot") (EndOf Bot) event after_bot h) [
      | inl a ↦ subst (IsEventLine line) a.1 a.0
      | inr more ↦ by_bot more
    ]

    by_timer : after_timer ≡ Some event → IsEventLine line event
    by_timer h = elim (word_or line (codes "stop") StopLine event after_stop h) [
      | inl a ↦ subst (IsEventLine line) a.1 a.0
      | inr more ↦ by_stop more
    ]

    by_comment : (b : Bool) → is_comment line ≡ b →
        cond b (Some Silence) (cond (bytes_eq line (codes "timer")) (Some ImTimerLine) after_timer) ≡ Some event →
        IsEventLine line event
    by_comment true t h = subst (IsEventLine line) (same_Some _ _ h) (comment_is line t)
    by_comment false t h = elim (word_or line (codes "timer") ImTimerLine event after_timer h) [
      | inl a ↦ subst (IsEventLine line) a.1 a.0
      | inr more ↦ by_timer more
    ]

pub event_is : (line : List ℕ) (event : LogEvent) → event_of_line line ≡ Some event → IsEventLine line event
unfolding event_of_line
event_is line event e = go (strip_prefix (codes "bot ") line) refl (strip_prefix (codes "server ") line) refl e
  where
    go : (bot : Option (List ℕ)) → strip_prefix (codes "bot ") line ≡ bot → (server : Option (List ℕ)) →
        strip_prefix (codes "server ") line ≡ server → event_by bot server line ≡ Some event → IsEventLine line event
    go (Some digits) b server s h =
        let r = received_is Bot digits event h in
        subst (IsEventLine line) (sym r.1) (digits, begins_with (codes "bot ") line digits b, r.2)
    go None b (Some digits) s h =
        let r = received_is Server digits event h in
        subst (IsEventLine line) (sym r.1) (digits, begins_with (codes "server ") line digits s, r.2)
    go None b None s h = word_is line event h

-- ---- the events of a match

loud_is : (found : Option LogEvent) (event : LogEvent) → loud found ≡ Some event →
    (found ≡ Some event) × (event ≡ Silence → ⊥)
loud_is None event h = absurd cc
loud_is (Some (Received side bytes)) event h = (h, λ silent. cc)
loud_is (Some (EndOf side)) event h = (h, λ silent. cc)
loud_is (Some ImTimerLine) event h = (h, λ silent. cc)
loud_is (Some StopLine) event h = (h, λ silent. cc)
loud_is (Some Silence) event h = absurd cc

session_is : (sessions : ℕ) (line : List ℕ) (parted : Parted) (event : MatchEvent) → parted_at_space line ≡ Some parted →
    event_of_session (within 1 sessions (plain_number parted.word)) (loud (event_of_line parted.rest)) ≡ Some event →
    IsMatchEventLine sessions line event
session_is sessions line parted event p h = by_number (plain_number parted.word) refl h
  where
    by_event : (number : ℕ) → plain_number parted.word ≡ Some number → (1 ≤ number) × (number ≤ sessions) →
        (found : Option LogEvent) → loud (event_of_line parted.rest) ≡ found →
        event_of_session (Some number) found ≡ Some event → IsMatchEventLine sessions line event
    by_event number n within None f h = absurd cc
    by_event number n within (Some loud_event) f h =
        let sound = loud_is (event_of_line parted.rest) loud_event f in
        subst (IsMatchEventLine sessions line) (same_Some (Of number loud_event) event h) (
          parted.rest,
          parted_is line parted p
              ∙ ap (λ (l : List ℕ). l ++ codes " " ++ parted.rest) (plain_decimal parted.word number n).0,
          within.0,
          within.1,
          event_is parted.rest loud_event sound.0,
          sound.1,
        )

    by_limits : (number : ℕ) → plain_number parted.word ≡ Some number → (b : Bool) →
        (leb 1 number && leb number sessions) ≡ b →
        event_of_session (cond b (Some number) None) (loud (event_of_line parted.rest)) ≡ Some event →
        IsMatchEventLine sessions line event
    by_limits number n true b h =
        let both = and_parts (leb 1 number) (leb number sessions) b in
        by_event number n (leb-true 1 number both.0, leb-true number sessions both.1) (loud (event_of_line parted.rest)) refl h
    by_limits number n false b h = absurd cc

    by_number : (o : Option ℕ) → plain_number parted.word ≡ o →
        event_of_session (within 1 sessions o) (loud (event_of_line parted.rest)) ≡ Some event →
        IsMatchEventLine sessions line event
    by_number None n h = absurd cc
    by_number (Some number) n h = by_limits number n (leb 1 number && leb number sessions) refl h

pub match_event_is : (sessions : ℕ) (line : List ℕ) (event : MatchEvent) → match_event_of_line sessions line ≡ Some event →
    IsMatchEventLine sessions line event
unfolding match_event_of_line
match_event_is sessions line event e = by_comment (is_comment line) refl e
  where
    by_parts : (o : Option Parted) → parted_at_space line ≡ o → match_event_of_parts sessions o ≡ Some event →
        IsMatchEventLine sessions line event
    by_parts None p h = absurd cc
    by_parts (Some parted) p h = session_is sessions line parted event p h

    by_comment : (b : Bool) → is_comment line ≡ b →
        cond b (Some Quiet) (match_event_of_parts sessions (parted_at_space line)) ≡ Some event →
        IsMatchEventLine sessions line event
    by_comment true t h = subst (IsMatchEventLine sessions line) (same_Some Quiet event h) (comment_is line t)
    by_comment false t h = by_parts (parted_at_space line) refl h

-- ---- words

code_is : (digits : List ℕ) (code : ℕ) → parse_code digits ≡ Some code →
    (bytes : List ℕ) × (length digits ≡ 4) × (decode_of digits ≡ Ok bytes) × (code ≡ token_of_bytes bytes)
code_is digits code e =
    let both = chosen (eqb (length digits) 4) (code_of_bytes (decode_of digits)) code e in
    go (decode_of digits) refl both.1 (eqb-true (length digits) 4 both.0)
  where
    go : (r : Result (List ℕ) FromHexError) → decode_of digits ≡ r → code_of_bytes r ≡ Some code → length digits ≡ 4 →
        (bytes : List ℕ) × (length digits ≡ 4) × (decode_of digits ≡ Ok bytes) × (code ≡ token_of_bytes bytes)
    go (Ok bytes) is h four = (bytes, four, is, sym (same_Some _ _ h))
    go (Err fault) is h four = absurd cc

among_is : (number : ℕ) (levels : List Level) (level : Level) → level_among number levels ≡ Some level →
    number ≡ level_number level
among_is number [] level e = absurd cc
among_is number (l ∷ ls) level e = go (eqb (level_number l) number) refl e (among_is number ls level)
  where
    go : (b : Bool) → eqb (level_number l) number ≡ b → cond b (Some l) (level_among number ls) ≡ Some level →
        (level_among number ls ≡ Some level → number ≡ level_number level) → number ≡ level_number level
    go true t h more = sym (eqb-true (level_number l) number t) ∙ ap level_number (same_Some l level h)
    go false t h more = more h

level_is : (digits : List ℕ) (level : Level) → parse_level digits ≡ Some level → digits ≡ decimal (level_number level)
level_is digits level e = go (plain_number digits) refl e
  where
    go : (o : Option ℕ) → plain_number digits ≡ o → level_of_option o ≡ Some level → digits ≡ decimal (level_number level)
    go None n h = absurd cc
    go (Some number) n h = (plain_decimal digits number n).0 ∙ ap decimal (among_is number (L0 ∷ levels_down) level h)

-- the parts of a word's line
record HasParts (name digits slot level operand : List ℕ) (word : Word) : Type 0 where
  name_is : name ≡ word.name
  three : length name ≡ 3
  code : (bytes : List ℕ) × (length digits ≡ 4) × (decode_of digits ≡ Ok bytes) × (word.code ≡ token_of_bytes bytes)
  slot_is : slot ≡ slot_name word.slot
  level_is : level ≡ decimal (level_number word.level)
  operand_is : operand ≡ operand_name word.operand

parts_are : (name digits slot level operand : List ℕ) (word : Word) →
    word_of_parts (parse_name name) (parse_code digits) (slot_named slot) (parse_level level) (operand_named operand) ≡ Some word →
    HasParts name digits slot level operand word
parts_are name digits slot level operand word e =
    go (parse_name name) refl (parse_code digits) refl (slot_named slot) refl (parse_level level) refl (operand_named operand) refl e
  where
    go : (n : Option (List ℕ)) → parse_name name ≡ n → (c : Option ℕ) → parse_code digits ≡ c →
        (s : Option Slot) → slot_named slot ≡ s → (l : Option Level) → parse_level level ≡ l →
        (o : Option Operand) → operand_named operand ≡ o → word_of_parts n c s l o ≡ Some word →
        HasParts name digits slot level operand word
    go (Some n) ni (Some c) ci (Some s) si (Some l) li (Some o) oi h =
        let is : record { name = n; code = c; slot = s; level = l; operand = o } ≡ word = same_Some _ _ h in
        let named = chosen (eqb (length name) 3) (Some name) n ni in
        subst (HasParts name digits slot level operand) is (record {
          name_is = same_Some name n named.1;
          three = eqb-true (length name) 3 named.0;
          code = code_is digits c ci;
          slot_is = (slot_names slot s).0 si;
          level_is = level_is level l li;
          operand_is = (operand_names operand o).0 oi;
        })
    go None ni c ci s si l li o oi h = absurd cc
    go (Some n) ni None ci s si l li o oi h = absurd cc
    go (Some n) ni (Some c) ci None si l li o oi h = absurd cc
    go (Some n) ni (Some c) ci (Some s) si None li o oi h = absurd cc
    go (Some n) ni (Some c) ci (Some s) si (Some l) li None oi h = absurd cc

-- the text after `word `
abbrev IsWordText : List ℕ → Word → Type 0
IsWordText text word =
    (name digits slot level operand : List ℕ)
    × (text ≡ name ++ codes " " ++ digits ++ codes " " ++ slot ++ codes " " ++ level ++ codes " " ++ operand)
    × HasParts name digits slot level operand word

word_text_is : (text : List ℕ) (word : Word) → word_of_name (parted_at_space text) ≡ Some word → IsWordText text word
word_text_is text word e = by_name (parted_at_space text) refl e
  where
    by_level : (one two three four : Parted) → parted_at_space text ≡ Some one → parted_at_space one.rest ≡ Some two →
        parted_at_space two.rest ≡ Some three → parted_at_space three.rest ≡ Some four →
        word_of_level one.word two.word three.word (Some four) ≡ Some word → IsWordText text word
    by_level one two three four a b c d h = (
      one.word,
      two.word,
      three.word,
      four.word,
      four.rest,
      parted_is text one a ∙ ap (λ (l : List ℕ). one.word ++ codes " " ++ l) (parted_is one.rest two b
          ∙ ap (λ (l : List ℕ). two.word ++ codes " " ++ l) (parted_is two.rest three c
          ∙ ap (λ (l : List ℕ). three.word ++ codes " " ++ l) (parted_is three.rest four d)))
          ∙ simp append_assoc,
      parts_are one.word two.word three.word four.word four.rest word h,
    )

    by_slot : (one two three : Parted) → parted_at_space text ≡ Some one → parted_at_space one.rest ≡ Some two →
        parted_at_space two.rest ≡ Some three → (o : Option Parted) → parted_at_space three.rest ≡ o →
        word_of_level one.word two.word three.word o ≡ Some word → IsWordText text word
    by_slot one two three a b c None d h = absurd cc
    by_slot one two three a b c (Some four) d h = by_level one two three four a b c d h

    by_code : (one two : Parted) → parted_at_space text ≡ Some one → parted_at_space one.rest ≡ Some two →
        (o : Option Parted) → parted_at_space two.rest ≡ o → word_of_slot one.word two.word o ≡ Some word →
        IsWordText text word
    by_code one two a b None c h = absurd cc
    by_code one two a b (Some three) c h = by_slot one two three a b c (parted_at_space three.rest) refl h

    by_rest : (one : Parted) → parted_at_space text ≡ Some one → (o : Option Parted) → parted_at_space one.rest ≡ o →
        word_of_code one.word o ≡ Some word → IsWordText text word
    by_rest one a None b h = absurd cc
    by_rest one a (Some two) b h = by_code one two a b (parted_at_space two.rest) refl h

    by_name : (o : Option Parted) → parted_at_space text ≡ o → word_of_name o ≡ Some word → IsWordText text word
    by_name None a h = absurd cc
    by_name (Some one) a h = by_rest one a (parted_at_space one.rest) refl h

pub word_line_is : (line : List ℕ) (word : Word) → word_of_line line ≡ Some word → IsWordLine line word
unfolding word_of_line
word_line_is line word e = go (strip_prefix (codes "word ") line) refl e
  where
    go : (o : Option (List ℕ)) → strip_prefix (codes "word ") line ≡ o → word_of_rest o ≡ Some word → IsWordLine line word
    go None s h = absurd cc
    go (Some text) s h =
        let t = word_text_is text word h in
        let parts : HasParts t.0 t.1 t.2 t.3 t.4 word = t.6 in (
          t.1,
          parts.code.0,
          begins_with (codes "word ") line text s ∙ ap (λ (l : List ℕ). codes "word " ++ l) (t.5
              ∙ ap (λ (l : List ℕ). l ++ codes " " ++ t.1 ++ codes " " ++ t.2 ++ codes " " ++ t.3 ++ codes " " ++ t.4) parts.name_is
              ∙ ap (λ (l : List ℕ). word.name ++ codes " " ++ t.1 ++ codes " " ++ l ++ codes " " ++ t.3 ++ codes " " ++ t.4) parts.slot_is
              ∙ ap (λ (l : List ℕ). word.name ++ codes " " ++ t.1 ++ codes " " ++ slot_name word.slot ++ codes " " ++ l ++ codes " " ++ t.4) parts.level_is
              ∙ ap (λ (l : List ℕ). word.name ++ codes " " ++ t.1 ++ codes " " ++ slot_name word.slot ++ codes " "
              ++ decimal (level_number word.level) ++ codes " " ++ l) parts.operand_is) ∙ simp append_assoc,
          ap length (sym parts.name_is) ∙ parts.three,
          parts.code.1,
          parts.code.2,
          parts.code.3,
        )
