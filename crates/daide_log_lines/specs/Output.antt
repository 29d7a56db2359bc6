-- The buffered writer of a report. (own)
use Rattle.std.specs.Prelude.{◌≡◌, ℕ, List, Option}
use Rattle.std.specs.Io.KnownBytes.{append_known}
use Rattle.daide_log_lines.specs.declared.output.Output.{Output}

-- the capacity of a page, in bytes
abbrev pub page_size : ℕ
page_size = 8192

-- what the writer has, followed by the page
abbrev pub all_of : {W : Type 0} → (W → Option (List ℕ)) → Output W → Option (List ℕ)
all_of contents output = append_known (contents output.writer.now) output.page.items

-- both have the same writer
abbrev pub IsSameWriter : {W : Type 0} → Output W → Output W → Type 0
IsSameWriter old new = new.writer.ghost_name ≡ old.writer.ghost_name
