-- The result of cutting an input as one frame. (own)
use Rattle.std.specs.Prelude.{ℕ, Bool, true, false, List}
use Rattle.daide_frame.specs.declared.cutter.Step.{Step}
use Rattle.daide_frame.specs.declared.cutter.Step.TheVariants.{More, Headed, Bodied}
use Rattle.daide_frame.specs.declared.cutter.Step.TheVariants as step
use Rattle.daide_show.specs.declared.frame_view.one_frame.ParsedInput.{ParsedInput}
use Rattle.daide_show.specs.declared.frame_view.one_frame.ParsedInput.TheVariants.{Fault, Whole, NotOneFrame}
use Rattle.daide_show.specs.Shown.{OneFrame, faulty, whole, not_one}

-- the result after a cutter's last step, by whether it got all bytes
abbrev pub parsed_input_of : Step → Bool → ParsedInput
parsed_input_of More all = NotOneFrame
parsed_input_of (Headed head) all = NotOneFrame
parsed_input_of (step.Fault code) all = Fault code
parsed_input_of (Bodied head) false = NotOneFrame
parsed_input_of (Bodied head) true = Whole head

-- the result, with the body that was cut off
abbrev pub parsed_input_by : ParsedInput → List ℕ → OneFrame
parsed_input_by (Fault code) body = faulty code
parsed_input_by (Whole head) body = whole head body
parsed_input_by NotOneFrame body = not_one
