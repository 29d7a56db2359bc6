-- The names that several proofs of this crate cite, passed on from one place.
pub use Rattle.std.proofs.Common.{◌≡◌, ℕ, zero, suc, ◌+◌, ◌-◌, ◌<◌, Bool, true, false, cond, eqb, leb, ◌⊎◌, inl, inr}
pub use Rattle.std.proofs.Common.{◌≢◌, List, [], ◌∷◌, ◌++◌, length, map, set, replicate, codes, Option, Some, None, Ok}
pub use Rattle.std.proofs.Common.{Result, refl, sym, ap, ◌∙◌, subst, arith, ◌&&◌, slice_get, option_map, ◌≤◌, take}
pub use Rattle.std.proofs.Common.{get_or, append_assoc, Err, ◌*◌, IfOk, OnOk, All, IfErr, ◌==◌, drop, ◌/◌, ◌%◌}
pub use Rattle.std.proofs.Common.{append-nil, length-append, IfSome, slice_set, not, is_ok, if◌then◌else◌, nat_lt, ◌^◌}
pub use Rattle.std.proofs.lemmas.Bool.{leb-true, eqb-true, and_parts, cases_lt}
pub use Rattle.std.proofs.lemmas.Bool.Decides.{eqb_tells, nat_tests}
pub use Rattle.std.proofs.lemmas.List.{length-map, take_more, map-append, take-append-drop}
pub use Rattle.std.proofs.lemmas.Option.{same_Some}
pub use Rattle.std.specs.Bool.{MatchBool}
unfoldable pub use Rattle.std.specs.Fmt.{digits}
pub use Rattle.std.specs.Fmt.{decimal}
pub use Rattle.std.specs.Io.KnownBytes.{Keeps, Appends, append_known}
pub use Rattle.std.specs.List.{AllByRecursion, list_all}
pub use Rattle.std.specs.Prelude.{⊤}
pub use Rattle.hex.proofs.HexLemmas.{decode_of-encode_upper, length-encode_with}
pub use Rattle.hex.specs.Hex.{IsBytes, encode_upper, upper_digits, decode_of}
unfoldable pub use Rattle.hex.specs.Hex.{decode_pairs, encode_with}
pub use Rattle.jiff_core.specs.declared.civil.datetime.DateTime.{DateTime}
unfoldable pub use Rattle.daide_token.specs.Names.{name_of, token_named, names}
pub use Rattle.daide_token.specs.TextSteps.{place_past, some_text}
pub use Rattle.daide_token.specs.Token.{tokens_of}
pub use Rattle.daide_token.specs.declared.text.PrinterState.{PrinterState}
pub use Rattle.daide_token.specs.declared.text.PrinterState.TheVariants.{Start}
unfoldable pub use Rattle.daide_frame.specs.Head.{parse_head}
unfoldable pub use Rattle.daide_frame.specs.InitialMessage.{im_of}
pub use Rattle.daide_frame.specs.declared.code.Code.{Code}
pub use Rattle.daide_frame.specs.declared.code.Code.TheVariants.{InvalidToken, ImTimeout}
pub use Rattle.daide_frame.specs.declared.head.Head.{Head}
pub use Rattle.daide_frame.specs.declared.head.Kind.TheVariants.{Im, Rm, Dm, Fm}
pub use Rattle.daide_frame.specs.declared.side.Side.{Side}
pub use Rattle.daide_frame.specs.declared.side.Side.TheVariants.{Bot, Server}
pub use Rattle.daide_grammar.specs.declared.level.Level.{Level}
pub use Rattle.daide_grammar.specs.declared.level.Level.TheVariants.{L0, L10, L20, L30, L60}
pub use Rattle.daide_reader.specs.declared.verdict.Verdict.{Verdict}
pub use Rattle.daide_reader.specs.declared.verdict.Verdict.TheVariants.{Relay, Prn, Huh}
pub use Rattle.daide_words.specs.Accepted.{are_accepted, are_accepted_after, is_capital, is_free_name, word_fault}
pub use Rattle.daide_words.specs.Word.{grammar_words, names_of}
pub use Rattle.daide_words.specs.Words.{word_at}
unfoldable pub use Rattle.daide_words.specs.Words.{words_of}
pub use Rattle.daide_words.specs.declared.word.Word.{Word}
pub use Rattle.daide_words.specs.declared.word.WordError.{WordError}
pub use Rattle.daide_protocol.proofs.GrowthLemmas.{no_more, more_by, more_then, less_room}
pub use Rattle.daide_protocol.proofs.LimitsKept.{runs_limits}
pub use Rattle.daide_protocol.proofs.OneRun.{one_run}
pub use Rattle.daide_protocol.proofs.PieceRuns.{over_stays}
pub use Rattle.daide_protocol.specs.Config.{limits_with, config_fault, is_level, is_body, is_depth}
pub use Rattle.daide_protocol.specs.Events.{Event, bytes_come, Ends, ImTimerExpired, OperatorStops}
pub use Rattle.daide_protocol.specs.Machine.{SessionState, Effect, Runs, initial_state, Limits, Successor, Transition}
pub use Rattle.daide_protocol.specs.Machine.{coming, with_pending, is_over, items_outcome, level_in, Question, is_dm}
pub use Rattle.daide_protocol.specs.Machine.{side2_of, question, answered, im_answered, frame_outcome, header_outcome}
pub use Rattle.daide_protocol.specs.Machine.{untimely, with_noted, event_outcome, im_timer_expired, fm_to}
pub use Rattle.daide_protocol.specs.Summary.{nothing_counted, IsMoreBy, count_note, HasRoom}
pub use Rattle.daide_protocol.specs.Wires.{SessionView, holding, note_of}
pub use Rattle.daide_protocol.specs.declared.config.Config.{Config}
pub use Rattle.daide_protocol.specs.declared.config.ConfigError.{ConfigError}
pub use Rattle.daide_protocol.specs.declared.ending.Ending.{Ending}
pub use Rattle.daide_protocol.specs.declared.note.Deed.{Deed}
pub use Rattle.daide_protocol.specs.declared.note.Deed.TheVariants.{Relayed}
pub use Rattle.daide_protocol.specs.declared.note.Note.{Note}
pub use Rattle.daide_protocol.specs.declared.note.Note.TheVariants.{Stopped, Nothing, Frame, Fault}
pub use Rattle.daide_protocol.specs.declared.phase.SessionPhase.{SessionPhase}
pub use Rattle.daide_protocol.specs.declared.phase.SessionPhase.TheVariants.{WaitIm, WaitRm, Open, Over}
pub use Rattle.daide_protocol.specs.declared.summary.Summary.{Summary}
pub use Rattle.daide_io.specs.Ports.{PortCall, Clock, EvolvesBy}
pub use Rattle.daide_log_lines.proofs.PageLemmas.{appends_and_keeps, keeps_appends}
pub use Rattle.daide_log_lines.specs.Lines.{IsFound}
pub use Rattle.daide_log_lines.specs.LogLine.{LogEvent, Received, EndOf, ImTimerLine, StopLine, most_lines}
pub use Rattle.daide_log_lines.specs.LogLine.{longest_line, IsUnbroken, without_cr}
unfoldable pub use Rattle.daide_log_lines.specs.LogLine.{event_of_line, plain_number, parted_at_space}
pub use Rattle.daide_log_lines.specs.MatchLine.{MatchEvent, Of, Quiet, loud, within, event_of_session}
pub use Rattle.daide_log_lines.specs.MatchLine.{match_event_of_parts}
unfoldable pub use Rattle.daide_log_lines.specs.MatchLine.{match_event_of_line}
pub use Rattle.daide_log_lines.specs.Output.{all_of, IsSameWriter}
pub use Rattle.daide_log_lines.specs.ParsedEvents.{event_reported}
pub use Rattle.daide_log_lines.specs.Reader.{Reader}
pub use Rattle.daide_log_lines.specs.declared.fault.LogFault.{LogFault}
pub use Rattle.daide_log_lines.specs.declared.fault.LogFault.TheVariants.{BadLine, LineTooLong, TooManyLines}
pub use Rattle.daide_log_lines.specs.declared.lines.LineEnd.{LineEnd}
pub use Rattle.daide_log_lines.specs.declared.lines.LineEnd.TheVariants.{Held, Line, Last, End}
pub use Rattle.daide_log.specs.ConfigLine.{match_config_of_numbers}
unfoldable pub use Rattle.daide_log.specs.ConfigLine.{config_of_line, match_config_of_line}
pub use Rattle.daide_log.specs.Heading.{Preamble, Heading, Unnamed, Named, Headed, single_session, heading_after}
pub use Rattle.daide_log.specs.Heading.{version_of, append_word, has_all_words}
pub use Rattle.daide_log.specs.Laws.{own_line, own_reported, SessionsAreAlone, IsLines}
pub use Rattle.daide_log.specs.PreambleKnown.{preamble_of, heading_of}
pub use Rattle.daide_log.specs.Progress.{StartsReport, IsFaultAfter, IsFinished, Judges, states_of, HasFault, HasRead}
pub use Rattle.daide_log.specs.Progress.{HasReadAll, GivesInTime, IsOpened, IsOpenedBy, IsPreambleProgress}
pub use Rattle.daide_log.specs.Recording.{Written, GetsText, Recorded, Records, KeepsText, GetsLine, HasFailed}
pub use Rattle.daide_log.specs.Report.{ReportEntry, events_of_line, side_of, entries_of, lines_of, counted_all}
pub use Rattle.daide_log.specs.Report.{texts_of, counted_over}
unfoldable pub use Rattle.daide_log.specs.Report.{summary_line, move_line, source_text, reported_text}
pub use Rattle.daide_log.specs.ReportForm.{ReportForm, IsWritableForm}
pub use Rattle.daide_log.specs.Reporting.{IsReady, IsLateFault, ReportsEvents, IsOneEffect, IsIdle, Moves}
pub use Rattle.daide_log.specs.declared.config_line.MatchConfig.{MatchConfig}
pub use Rattle.daide_log.specs.declared.heading.Version.{Version}
pub use Rattle.daide_log.specs.declared.heading.Version.TheVariants.{Single, Match}
pub use Rattle.daide_log.specs.declared.moment.Moment.{Moment}
pub use Rattle.daide_log.specs.declared.opening.Opened.{Opened}
pub use Rattle.daide_log.specs.declared.opening.PreambleProgress.TheVariants.{More}
pub use Rattle.daide_log.specs.declared.record.RecordEnd.{RecordEnd}
pub use Rattle.daide_log.specs.declared.record.RecordEnd.TheVariants.{Whole, Failed}
pub use Rattle.daide_log.specs.declared.report.ReportKey.{ReportKey}
