-- An explanation only adds lines to what is shown without it.
use Rattle.std.proofs.Common.{ltb}
use Rattle.daide_show.proofs.Common.{◌≡◌, ℕ, Bool, true, false, List, [], ◌++◌, length, Result, Ok, Err, ap, sym, subst}
use Rattle.daide_show.proofs.Common.{refl, ◌∙◌, append-nil, codes, MatchBool, FromHexError, tokens_of, Code, Kind, Im}
use Rattle.daide_show.proofs.Common.{Rm, Dm, Fm, Em, Level, IsMessageOver, Word, grammar_words, Verdict, Relay, Prn}
use Rattle.daide_show.proofs.Common.{Huh, verdict_is_one, longest_body, greatest_depth, side2_of, ShowFault, TooLong}
use Rattle.daide_show.proofs.Common.{NotHex, NotOneFrame, limit, parse_hex}
use Rattle.daide_frame.specs.declared.side.Side.{Side}
use Rattle.daide_frame.specs.Code.{code_digits}
use Rattle.daide_frame.specs.InitialMessage.{im_of}
use Rattle.daide_explain.specs.Explained.{IsExplained}
use Rattle.daide_show.specs.Shown.{ShowRequest, Shown, OneFrame, faulty, whole, not_one, parse_frame}
use Rattle.daide_show.specs.Shown.{kind_line, line, printed, verdict_lines, is_relay, message_shown, im_shown}
use Rattle.daide_show.specs.Shown.{cause_lines, frame_fault_lines, relayed_shown, fault_shown, OnlyAdds, IsMessageShownAs, IsFrameShownAs}
use Rattle.daide_show.specs.Shown.{IsOneShownAs, IsShownAs}
use Rattle.daide_show.proofs.OneWay.{Decoded}

adds_nothing : (r s t : Shown) → s ≡ r → t ≡ r → OnlyAdds (Ok s) (Ok t)
adds_nothing r s t x y =
    let same : t ≡ s = y ∙ sym x in
    ([], ap (λ (v : Shown). v.text) same ∙ sym (append-nil s.text), ap (λ (v : Shown). v.relayed) same, λ _. refl)

adds_cause : (code : Code) (lines : List ℕ) (s t : Shown) → s ≡ fault_shown code [] → t ≡ fault_shown code lines →
    OnlyAdds (Ok s) (Ok t)
adds_cause code lines s t x y =
    let front = line (codes "fault " ++ code_digits code) in
    let plain : front ≡ s.text = sym (append-nil front) ∙ ap (λ (v : Shown). v.text) (sym x) in
    let refused : s.relayed ≡ false = ap (λ (v : Shown). v.relayed) x in (
      lines,
      ap (λ (v : Shown). v.text) y ∙ ap (λ (l : List ℕ). l ++ lines) plain,
      ap (λ (v : Shown). v.relayed) y ∙ sym refused,
      λ relayed. absurd cc,
    )

moved : (one other a b : Result Shown ShowFault) → one ≡ a → other ≡ b → OnlyAdds a b → OnlyAdds one other
moved one other a b x y adds =
    subst (λ (o : Result Shown ShowFault). OnlyAdds o other) (sym x)
    (subst (λ (o : Result Shown ShowFault). OnlyAdds a o) (sym y) adds)

module _ (words : List Word) (side : Side) (level : Level) where
  abbrev pub plainly : ShowRequest
  plainly = record { words = words; side = side; level = level; explained = false }

  abbrev pub explaining : ShowRequest
  explaining = record { words = words; side = side; level = level; explained = true }

  -- a message that is relayed has no explanation
  none_if_relayed : (m : List ℕ) (verdict : Verdict) (lines : List ℕ) →
      IsExplained words (side2_of side) level greatest_depth m verdict lines → is_relay verdict ≡ true → lines ≡ []
  none_if_relayed m Relay lines explained relayed = explained
  none_if_relayed m Prn lines explained relayed = absurd cc
  none_if_relayed m (Huh place) lines explained relayed = absurd cc

  adds_lines : (len : ℕ) (body : List ℕ) (s t : Shown) → IsMessageShownAs plainly len body s →
      IsMessageShownAs explaining len body t → OnlyAdds (Ok s) (Ok t)
  adds_lines len body s t x y =
      let m = tokens_of body in
      let same : y.0 ≡ x.0 =
      verdict_is_one (IsMessageOver (grammar_words words) (side2_of side) level) greatest_depth m y.0 x.0 y.2 x.2 in
      let front = λ (v : Verdict).
      (kind_line Dm len ++ line (printed words (tokens_of body))) ++ verdict_lines words v body in
      let is_t : t ≡ message_shown words len body x.0 y.1 =
      y.4 ∙ ap (λ (v : Verdict). message_shown words len body v y.1) same in
      let is_s : s ≡ message_shown words len body x.0 [] =
      x.4 ∙ ap (λ (l : List ℕ). message_shown words len body x.0 l) x.3 in
      let plain_text : front x.0 ≡ s.text = sym (append-nil (front x.0)) ∙ ap (λ (v : Shown). v.text) (sym is_s) in (
        y.1,
        ap (λ (v : Shown). v.text) is_t ∙ ap (λ (l : List ℕ). l ++ y.1) plain_text,
        ap (λ (v : Shown). v.relayed) is_t ∙ ap (λ (v : Shown). v.relayed) (sym is_s),
        λ relayed.
            none_if_relayed m y.0 y.1 y.3
            (ap is_relay same ∙ (ap (λ (v : Shown). v.relayed) (sym is_s) ∙ relayed)),
      )

  im_adds : (len : ℕ) (body : List ℕ) (checked : Result (Unit {0}) Code) (s t : Shown) →
      s ≡ im_shown false len body checked → t ≡ im_shown true len body checked → OnlyAdds (Ok s) (Ok t)
  im_adds len body (Ok good) s t x y = adds_nothing (relayed_shown Im len) s t x y
  im_adds len body (Err code) s t x y = adds_cause code (cause_lines code [] body) s t x y

  frame_adds : (kind : Kind) (len : ℕ) (body : List ℕ) (s t : Shown) → IsFrameShownAs plainly kind len body s →
      IsFrameShownAs explaining kind len body t → OnlyAdds (Ok s) (Ok t)
  frame_adds Im len body s t x y = im_adds len body (im_of body) s t x y
  frame_adds Rm len body s t x y = adds_nothing (relayed_shown Rm len) s t x y
  frame_adds Dm len body s t x y = adds_lines len body s t x y
  frame_adds Fm len body s t x y = adds_nothing (relayed_shown Fm len) s t x y
  frame_adds Em len body s t x y = adds_nothing (relayed_shown Em len) s t x y

  one_adds : (bytes : List ℕ) (frame : OneFrame) (one other : Result Shown ShowFault) →
      IsOneShownAs plainly bytes frame one → IsOneShownAs explaining bytes frame other → OnlyAdds one other
  one_adds bytes (faulty code) one other x y =
      let lines = frame_fault_lines longest_body code bytes in
      moved one other (Ok (fault_shown code [])) (Ok (fault_shown code lines)) x y
      (adds_cause code lines (fault_shown code []) (fault_shown code lines) refl refl)
  one_adds bytes not_one one other x y = moved one other (Err NotOneFrame) (Err NotOneFrame) x y refl
  one_adds bytes (whole head body) one other x y =
      moved one other (Ok x.0) (Ok y.0) x.1 y.1 (frame_adds head.kind head.len body x.0 y.0 x.2 y.2)

  bytes_add : (bytes : Result (List ℕ) FromHexError) (one other : Result Shown ShowFault) →
      Decoded plainly bytes one → Decoded explaining bytes other → OnlyAdds one other
  bytes_add (Ok bytes) one other x y = one_adds bytes (parse_frame longest_body bytes) one other x y
  bytes_add (Err e) one other x y = moved one other (Err NotHex) (Err NotHex) x y refl

  pub only_adds : (input : List ℕ) (one other : Result Shown ShowFault) → IsShownAs plainly input one →
      IsShownAs explaining input other → OnlyAdds one other
  only_adds input one other x y = by_length (ltb limit (length input)) x y
    where
      by_length : (long : Bool) → MatchBool long (one ≡ Err TooLong) (Decoded plainly (parse_hex input) one) →
          MatchBool long (other ≡ Err TooLong) (Decoded explaining (parse_hex input) other) → OnlyAdds one other
      by_length true x y = moved one other (Err TooLong) (Err TooLong) x y refl
      by_length false x y = bytes_add (parse_hex input) one other x y
