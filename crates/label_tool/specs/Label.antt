-- What the label tool prints for a program's text: its word on a line of its own, or the refusal as the run tool prints it.
use Rattle.std.specs.Prelude.{List, [], ◌∷◌}
use Rattle.theory.specs.Text.{Bytes, line_of}
use Rattle.theory.specs.ProgramText.{Command}
use Rattle.theory.specs.Translation.{word_text}
use Rattle.theory.specs.TurnedDown.{mapped, read_text}
use Rattle.theory.specs.RunTool.{printed}

-- The word of a program, and LF
abbrev pub word_line : List Command → Bytes
word_line p = line_of (word_text p ∷ [])

unfoldable pub label : Bytes → Bytes
label t = printed (mapped word_line (read_text t))
