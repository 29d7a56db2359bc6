-- The head of a log as the code has it, and the state after each of its lines. (own)
use Rattle.std.specs.Prelude.{⊤, ℕ, ◌+◌, true, false, if◌then◌else◌, Option, Some, None, Result, Ok, Err}
use Rattle.daide_words.specs.Words.{words_of}
use Rattle.daide_log_lines.specs.declared.fault.LogFault.{LogFault}
use Rattle.daide_log_lines.specs.declared.fault.LogFault.TheVariants.{BadLine}
use Rattle.daide_log_lines.specs.declared.lines.LineEnd.{LineEnd}
use Rattle.daide_log_lines.specs.declared.lines.LineEnd.TheVariants.{Held, Line, Last, End}
use Rattle.daide_log.specs.declared.heading.Preamble as heads
use Rattle.daide_log.specs.declared.heading.Heading as headings
use Rattle.daide_log.specs.declared.heading.Heading.TheVariants as Variants
use Rattle.daide_log.specs.declared.opening.PreambleProgress.{PreambleProgress}
use Rattle.daide_log.specs.declared.opening.PreambleProgress.TheVariants.{More, Done}
use Rattle.daide_log.specs.Heading.{Preamble, Heading, Unnamed, Named, Headed, HasSessions, has_all_words}

abbrev pub preamble_of : heads.Preamble → Preamble
preamble_of head = record { version = head.version; limits = head.limits; words = words_of head.words }

abbrev pub heading_of : headings.Heading → Heading
heading_of Variants.Unnamed = Unnamed
heading_of (Variants.Named version) = Named version
heading_of (Variants.Headed head) = Headed (preamble_of head)

-- once the number of sessions is known, it is within its limits
abbrev pub IsPreambleKnown : headings.Heading → Type 0
IsPreambleKnown Variants.Unnamed = ⊤
IsPreambleKnown (Variants.Named version) = ⊤
IsPreambleKnown (Variants.Headed head) = HasSessions head.limits

-- the head, if it is complete
abbrev pub whole_preamble : headings.Heading → Option heads.Preamble
whole_preamble Variants.Unnamed = None
whole_preamble (Variants.Named version) = None
whole_preamble (Variants.Headed head) = if has_all_words (preamble_of head) then Some head else None

-- the state after this number of lines, the last one with its line feed
abbrev pub preamble_after : headings.Heading → ℕ → Option heads.Preamble → PreambleProgress
preamble_after heading lines None = More heading
preamble_after heading lines (Some head) = Done (record { head = head; lines = lines; is_ended = true })

-- the same, with the last line at the end of the log
abbrev pub at_last : ℕ → Option heads.Preamble → Result PreambleProgress LogFault
at_last lines None = Err (BadLine (lines + 1))
at_last lines (Some head) = Ok (Done (record { head = head; lines = lines; is_ended = false }))

-- the state after the next line; the heading includes it, and the count does not
abbrev pub after_line : Result LineEnd LogFault → Option headings.Heading → ℕ → Result PreambleProgress LogFault
after_line (Err fault) heading count = Err fault
after_line (Ok Line) (Some heading) count = Ok (preamble_after heading (count + 1) (whole_preamble heading))
after_line (Ok Line) None count = Err (BadLine (count + 1))
after_line (Ok (Held n)) (Some heading) count = Ok (preamble_after heading (count + 1) (whole_preamble heading))
after_line (Ok (Held n)) None count = Err (BadLine (count + 1))
after_line (Ok Last) (Some heading) count = at_last (count + 1) (whole_preamble heading)
after_line (Ok Last) None count = Err (BadLine (count + 1))
after_line (Ok End) heading count = Err (BadLine (count + 1))
