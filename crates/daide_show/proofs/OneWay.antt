-- What is shown of an input is unique.
use Rattle.std.proofs.Common.{ltb, MatchResult}
use Rattle.daide_show.proofs.Common.{◌≡◌, ℕ, Bool, true, false, List, [], length, Result, Ok, Err, ap, sym, subst, ◌∙◌}
use Rattle.daide_show.proofs.Common.{MatchBool, FromHexError, tokens_of, Kind, Im, Rm, Dm, Fm, Em, IsMessageOver}
use Rattle.daide_show.proofs.Common.{grammar_words, Verdict, verdict_is_one, longest_body, greatest_depth, ShowFault}
use Rattle.daide_show.proofs.Common.{TooLong, NotHex, limit, parse_hex, side2_of}
use Rattle.daide_explain.specs.Explained.{IsExplained}
use Rattle.daide_show.specs.Shown.{ShowRequest, Shown, OneFrame, faulty, whole, not_one, parse_frame, message_shown}
use Rattle.daide_show.specs.Shown.{AreLines, IsMessageShownAs, IsFrameShownAs, IsOneShownAs, AreShownAs, IsShownAs}

-- the explanation is unique, for each body and verdict
abbrev pub IsOneExplanation : ShowRequest → Type 0
IsOneExplanation asked =
    (m : List ℕ) (verdict : Verdict) (one other : List ℕ) →
    IsExplained asked.words (side2_of asked.side) asked.level greatest_depth m verdict one →
    IsExplained asked.words (side2_of asked.side) asked.level greatest_depth m verdict other → one ≡ other

-- what is shown of an input's bytes, if it could be decoded
abbrev pub Decoded : ShowRequest → Result (List ℕ) FromHexError → Result Shown ShowFault → Type 0
Decoded asked bytes outcome =
    MatchResult bytes (λ b. AreShownAs asked b outcome) (λ _. outcome ≡ Err NotHex)

module _ (asked : ShowRequest) (once : IsOneExplanation asked) where
  lines_are_one : (explained : Bool) (m : List ℕ) (verdict : Verdict) (one other : List ℕ) →
      MatchBool explained
      (IsExplained asked.words (side2_of asked.side) asked.level greatest_depth m verdict one) (one ≡ []) →
      MatchBool explained
      (IsExplained asked.words (side2_of asked.side) asked.level greatest_depth m verdict other) (other ≡ []) →
      one ≡ other
  lines_are_one true m verdict one other x y = once m verdict one other x y
  lines_are_one false m verdict one other x y = x ∙ sym y

  message_is_one : (len : ℕ) (body : List ℕ) (s t : Shown) → IsMessageShownAs asked len body s →
      IsMessageShownAs asked len body t → s ≡ t
  message_is_one len body s t x y =
      let m = tokens_of body in
      let same : x.0 ≡ y.0 =
      verdict_is_one (IsMessageOver (grammar_words asked.words) (side2_of asked.side) asked.level) greatest_depth m
      x.0 y.0 x.2 y.2 in
      let lines : x.1 ≡ y.1 =
      lines_are_one asked.explained m y.0 x.1 y.1 (subst (λ (v : Verdict). AreLines asked m v x.1) same x.3) y.3 in
      x.4 ∙ ap (λ (v : Verdict). message_shown asked.words len body v x.1) same
      ∙ ap (λ (l : List ℕ). message_shown asked.words len body y.0 l) lines ∙ sym y.4

  frame_is_one : (kind : Kind) (len : ℕ) (body : List ℕ) (s t : Shown) → IsFrameShownAs asked kind len body s →
      IsFrameShownAs asked kind len body t → s ≡ t
  frame_is_one Im len body s t x y = x ∙ sym y
  frame_is_one Rm len body s t x y = x ∙ sym y
  frame_is_one Dm len body s t x y = message_is_one len body s t x y
  frame_is_one Fm len body s t x y = x ∙ sym y
  frame_is_one Em len body s t x y = x ∙ sym y

  one_is_one : (bytes : List ℕ) (frame : OneFrame) (one other : Result Shown ShowFault) →
      IsOneShownAs asked bytes frame one → IsOneShownAs asked bytes frame other → one ≡ other
  one_is_one bytes (faulty code) one other x y = x ∙ sym y
  one_is_one bytes not_one one other x y = x ∙ sym y
  one_is_one bytes (whole head body) one other x y =
      x.1 ∙ ap (λ (s : Shown). Ok s) (frame_is_one head.kind head.len body x.0 y.0 x.2 y.2) ∙ sym y.1

  bytes_are_one : (bytes : Result (List ℕ) FromHexError) (one other : Result Shown ShowFault) →
      Decoded asked bytes one → Decoded asked bytes other → one ≡ other
  bytes_are_one (Ok bytes) one other x y = one_is_one bytes (parse_frame longest_body bytes) one other x y
  bytes_are_one (Err e) one other x y = x ∙ sym y

  pub shown_is_one : (input : List ℕ) (one other : Result Shown ShowFault) → IsShownAs asked input one →
      IsShownAs asked input other → one ≡ other
  shown_is_one input one other x y = by_length (ltb limit (length input)) x y
    where
      by_length : (long : Bool) → MatchBool long (one ≡ Err TooLong) (Decoded asked (parse_hex input) one) →
          MatchBool long (other ≡ Err TooLong) (Decoded asked (parse_hex input) other) → one ≡ other
      by_length true x y = x ∙ sym y
      by_length false x y = bytes_are_one (parse_hex input) one other x y
