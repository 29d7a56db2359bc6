-- The names that several proofs of this crate cite, passed on from one place.
pub use Rattle.std.proofs.Common.{◌≡◌, ℕ, Bool, true, false, cond, List, [], ◌∷◌, ◌++◌, Option, Some, None, refl, sym}
pub use Rattle.std.proofs.Common.{ap, ◌∙◌, subst, append-nil, ◌<◌, ◌≤◌, length, arith, ◌==◌, drop, ◌⊎◌, inl, inr}
pub use Rattle.std.proofs.Common.{⊎_elim, Ok, ◌+◌, take, eqb, Result, Err, ◌||◌, nat_lt, is_some, rules}
pub use Rattle.std.proofs.lemmas.Bool.Decides.{nat_tests}
pub use Rattle.std.specs.List.{All}
pub use Rattle.std.specs.Option.{unwrap_or}
pub use Rattle.daide_token.specs.Token.{tokens_of, bra}
pub use Rattle.daide_frame.proofs.FramesLemmas.{head_in-short}
pub use Rattle.daide_frame.specs.Frames.{FrameEvent, Begun, Whole, Wrong}
unfoldable pub use Rattle.daide_frame.specs.Frames.{missing, last_items, head_in, announced}
pub use Rattle.daide_frame.specs.Head.{is_im, kind_number}
unfoldable pub use Rattle.daide_frame.specs.Head.{head_bytes, parse_head}
unfoldable pub use Rattle.daide_frame.specs.InitialMessage.{im_of}
pub use Rattle.daide_frame.specs.PerSide.{PerSide, at, put}
pub use Rattle.daide_frame.specs.Side.{other, same_side}
pub use Rattle.daide_frame.specs.declared.code.Code.{Code}
pub use Rattle.daide_frame.specs.declared.cutter.Step.{Step}
pub use Rattle.daide_frame.specs.declared.head.Head.{Head}
pub use Rattle.daide_frame.specs.declared.head.Kind.{Kind}
pub use Rattle.daide_frame.specs.declared.head.Kind.TheVariants.{Im, Rm, Dm, Fm, Em}
pub use Rattle.daide_frame.specs.declared.side.Side.{Side}
pub use Rattle.daide_frame.specs.declared.side.Side.TheVariants.{Bot, Server}
pub use Rattle.daide_grammar.specs.Depth.{depth_of}
pub use Rattle.daide_grammar.specs.Level.{level_number}
pub use Rattle.daide_grammar.specs.SideMessages.{IsMessageOver}
pub use Rattle.daide_grammar.specs.Words.{Words}
pub use Rattle.daide_grammar.specs.declared.level.Level.{Level}
pub use Rattle.daide_grammar.specs.declared.level.Level.TheVariants.{L0}
pub use Rattle.daide_reader.specs.Reading.{IsRaised}
pub use Rattle.daide_reader.specs.declared.verdict.Verdict.{Verdict}
pub use Rattle.daide_reader.specs.declared.verdict.Verdict.TheVariants.{Relay, Prn, Huh}
pub use Rattle.daide_words.proofs.AcceptedCodes.{accepted_free}
pub use Rattle.daide_words.specs.Table.OverWords.{are_free}
pub use Rattle.daide_words.specs.Word.{grammar_words}
pub use Rattle.daide_words.specs.declared.word.Word.{Word}
pub use Rattle.daide_protocol.proofs.AnswerBytes.{frame_whole}
pub use Rattle.daide_protocol.proofs.FateLemmas.{run_fates}
pub use Rattle.daide_protocol.proofs.FramesHeard.{not_both}
pub use Rattle.daide_protocol.proofs.LimitsKept.{runs_limits}
pub use Rattle.daide_protocol.proofs.PassingLemmas.{IsGood, AreGood, run_good, only_messages}
pub use Rattle.daide_protocol.specs.Account.{accounted, frame_accounted}
unfoldable pub use Rattle.daide_protocol.specs.Answers.{answer_bytes}
pub use Rattle.daide_protocol.specs.Bounds.{longest_body}
pub use Rattle.daide_protocol.specs.Events.{bytes_come, Event, Comes, Ends, Loses, ImTimerExpired, OperatorStops}
pub use Rattle.daide_protocol.specs.Fates.{Fault, Came, IsJudged, EventCause, Frame, End, Timeout, Stop, came_in}
pub use Rattle.daide_protocol.specs.Fates.{frames_from, IsFate, HaveFates}
pub use Rattle.daide_protocol.specs.Machine.{Sent, Coming, fm_to, coming, is_over, Effect, Successor, SessionState}
pub use Rattle.daide_protocol.specs.Machine.{Runs, IsCorrectVerdict, with_pending, asked_by, with_noted, is_dm, is_sent}
pub use Rattle.daide_protocol.specs.Machine.{level_in, frame_outcome, answered, im_answered, reply_to, deed_of, Limits}
pub use Rattle.daide_protocol.specs.Machine.{side2_of, initial_state, Transition, header_outcome, event_outcome}
pub use Rattle.daide_protocol.specs.Passing.{IsFrame, HasCome, IsWithinPrn, IsWithinHuh, MayBeSent, no_message, passed}
pub use Rattle.daide_protocol.specs.Passing.{within_prn, within_huh}
pub use Rattle.daide_protocol.specs.Weight.{frame_tokens, steps_bound}
pub use Rattle.daide_protocol.specs.Wires.{SessionView, queued, frames_to, is_awaited, Holding, account_after, holding}
pub use Rattle.daide_protocol.specs.Wires.{sent_to, note_of, frame_bytes_after, is_dm_head, Refines, sent_bytes, IsFrontOf}
pub use Rattle.daide_protocol.specs.Wires.{no_frame, parts_of, Lost, steps_of}
unfoldable pub use Rattle.daide_protocol.specs.Wires.{room_of}
pub use Rattle.daide_protocol.specs.declared.account.Account.{Account}
pub use Rattle.daide_protocol.specs.declared.ending.Ending.{Ending}
pub use Rattle.daide_protocol.specs.declared.note.Deed.{Deed}
pub use Rattle.daide_protocol.specs.declared.note.Note.{Note}
pub use Rattle.daide_protocol.specs.declared.phase.SessionPhase.{SessionPhase}
pub use Rattle.daide_protocol.specs.declared.phase.SessionPhase.TheVariants.{WaitIm, WaitRm, Open, Over}
pub use Rattle.daide_channels.proofs.FrontsKept.{fronts_stay}
pub use Rattle.daide_channels.specs.Channels.{Channels, posted, final_frame_to, pending, has_final_frame}
pub use Rattle.daide_channels.specs.Fronts.{AreFresh, KeepsFront}
pub use Rattle.daide_channels.specs.Receiver.{tokens_ended, ReaderLimits}
pub use Rattle.daide_session.specs.FrameEvents.{Emits, KeepsSides, Asks, HandlesFrameEvents, stopped, terminated}
pub use Rattle.daide_session.specs.InARow.{IsVerdictAtOneLevel, passes, too_deep, IsVerdictOfNext, at_one_level, lower}
pub use Rattle.daide_session.specs.Session.{state_of, view_of, Dropped}
pub use Rattle.daide_session.specs.Work.{IsPaidBy, HoldsNoMore}
pub use Rattle.daide_session.specs.declared.protocol_state.ProtocolState.{ProtocolState}
