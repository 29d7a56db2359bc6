-- The names that several proofs of this crate cite, passed on from one place.
pub use Rattle.std.proofs.Common.{◌≡◌, ℕ, ◌+◌, ◌*◌, ◌%◌, ◌^◌, List, [], ◌∷◌, length, refl, Some, true, ◌++◌, drop, sym}
pub use Rattle.std.proofs.Common.{ap, ◌∙◌, Bool, false, cond, Option, None, Result, Ok, Err, subst, zero, suc, ◌≤◌}
pub use Rattle.std.proofs.Common.{take, arith, append_assoc, length-append, if◌then◌else◌, ◌||◌, nat_lt, append-nil}
pub use Rattle.std.proofs.Common.{◌⊎◌, inl, inr, eqb, ◌<◌, ⊎_elim, ℤ, map, replicate, codes, ◌-◌, rules}
pub use Rattle.std.proofs.lemmas.Bool.{eqb-true, eq-eqb}
pub use Rattle.std.proofs.lemmas.Bool.Decides.{nat_tests}
pub use Rattle.std.proofs.lemmas.List.{take-append-drop}
pub use Rattle.std.specs.List.{All, range_with_len}
unfoldable pub use Rattle.daide_token.specs.Class.{class_of}
unfoldable pub use Rattle.daide_token.specs.Text.{text_with}
pub use Rattle.daide_token.specs.Token.{bra, bytes_of_tokens, tokens_of, ket, prn, huh, err, hlo, token_bytes}
pub use Rattle.daide_frame.specs.Frames.{FrameEvent, Begun, Whole, Wrong, frame_events_of}
unfoldable pub use Rattle.daide_frame.specs.Frames.{is_alien, first_items, last_items, cut, missing, announced, head_in}
pub use Rattle.daide_frame.specs.Head.{is_im, has_right_length}
unfoldable pub use Rattle.daide_frame.specs.Head.{head_bytes, parse_head}
unfoldable pub use Rattle.daide_frame.specs.InitialMessage.{im_of}
pub use Rattle.daide_frame.specs.Side.{other, same_side}
pub use Rattle.daide_frame.specs.declared.code.Code.{Code}
pub use Rattle.daide_frame.specs.declared.code.Code.TheVariants.{InvalidToken, ImTimeout, WrongLength}
pub use Rattle.daide_frame.specs.declared.head.Head.{Head}
pub use Rattle.daide_frame.specs.declared.head.Kind.{Kind}
pub use Rattle.daide_frame.specs.declared.head.Kind.TheVariants.{Im, Rm, Dm, Fm, Em}
pub use Rattle.daide_frame.specs.declared.side.Side.{Side}
pub use Rattle.daide_frame.specs.declared.side.Side.TheVariants.{Bot, Server}
unfoldable pub use Rattle.daide_grammar.specs.Table.Symbols.{entries, may_end_of, table_answer}
pub use Rattle.daide_grammar.specs.Words.{Words}
pub use Rattle.daide_grammar.specs.declared.level.Level.{Level}
pub use Rattle.daide_grammar.specs.declared.level.Level.TheVariants.{L0, L20, L30, L60, L10}
pub use Rattle.daide_grammar.specs.declared.side.Side2.TheVariants.{ServerEnd, Client}
pub use Rattle.daide_reader.proofs.BodyLemmas.{tokens_of-length}
pub use Rattle.daide_reader.specs.declared.verdict.Verdict.{Verdict}
pub use Rattle.daide_reader.specs.declared.verdict.Verdict.TheVariants.{Relay, Prn, Huh}
pub use Rattle.daide_words.proofs.AcceptedCodes.{accepted_free}
pub use Rattle.daide_words.specs.Word.{grammar_words}
pub use Rattle.daide_protocol.specs.Account.{effect_accounted, accounted, summary_of, nothing_accounted}
pub use Rattle.daide_protocol.specs.Answers.{answer_head, answer_body}
unfoldable pub use Rattle.daide_protocol.specs.Answers.{answer_bytes}
pub use Rattle.daide_protocol.specs.BotName.{name_after, token_of_character, characters, iam, kept, name_text, nme}
pub use Rattle.daide_protocol.specs.Events.{Event, Ends, Loses, ImTimerExpired, OperatorStops, bytes_come, Comes}
pub use Rattle.daide_protocol.specs.Heard.{bytes_from, heard_at, items_heard}
pub use Rattle.daide_protocol.specs.HloLevel.{level_reported, lvl_scan_of}
pub use Rattle.daide_protocol.specs.Machine.{SessionState, Sent, initial_state, Limits, Effect, deed_of, reply_to}
pub use Rattle.daide_protocol.specs.Machine.{Successor, Runs, coming, with_pending, destination, is_over, is_sent}
pub use Rattle.daide_protocol.specs.Machine.{phase_after, answered, im_answered, fault, untimely, header_outcome}
pub use Rattle.daide_protocol.specs.Machine.{item_outcome, items_outcome, im_timer_expired, event_outcome, Coming}
pub use Rattle.daide_protocol.specs.Machine.{Transition, with_coming, nothing, question, end, stop, em_to, fm_to}
pub use Rattle.daide_protocol.specs.Machine.{with_noted, level_in, ending_in, frame_outcome, IsCorrectVerdict, asked_by}
pub use Rattle.daide_protocol.specs.Machine.{question_of, Question, is_dm, plain_phase, side2_of, fm_bytes}
pub use Rattle.daide_protocol.specs.Summary.{nothing_counted, count_note, counted_on, one_more, tallied, reduced}
pub use Rattle.daide_protocol.specs.Wires.{SessionView, IsNew, queued, sent_to, sent_bytes, Holding, note_of}
pub use Rattle.daide_protocol.specs.declared.account.Account.{Account}
pub use Rattle.daide_protocol.specs.declared.bot_name.BotName.{BotName}
pub use Rattle.daide_protocol.specs.declared.bot_name.BotName.TheVariants.{Unknown, Nme, Iam}
pub use Rattle.daide_protocol.specs.declared.bot_name.NameText.{NameText}
pub use Rattle.daide_protocol.specs.declared.ending.Ending.{Ending}
pub use Rattle.daide_protocol.specs.declared.ending.Ending.TheVariants.{Ended, Lost, Final, Error, Fault, Stopped}
pub use Rattle.daide_protocol.specs.declared.note.Deed.{Deed}
pub use Rattle.daide_protocol.specs.declared.note.Note.{Note}
pub use Rattle.daide_protocol.specs.declared.phase.Phase.{Phase}
pub use Rattle.daide_protocol.specs.declared.phase.SessionPhase.{SessionPhase}
pub use Rattle.daide_protocol.specs.declared.phase.SessionPhase.TheVariants.{WaitIm, WaitRm, Open, Over}
pub use Rattle.daide_protocol.specs.declared.summary.Summary.{Summary}
