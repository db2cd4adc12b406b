-- What a form adds after the plain word of a program of K variables.
use Rattle.std.specs.Prelude.{List, [], ℕ}
use Rattle.theory.specs.Word.{Instruction}
use Rattle.tidy.specs.declared.Form.{Form}
use Rattle.tidy.specs.declared.Form.TheVariants.{Plain, Tidy}
use Rattle.tidy.specs.Forms.{clears}

abbrev pub added : Form → ℕ → List Instruction
added Plain K = []
added Tidy K = clears K
