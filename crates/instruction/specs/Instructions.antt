-- Instructions as a word spells them, put into an output.
use Rattle.std.specs.Prelude.{List, ℕ}
use Rattle.theory.specs.Text.{Bytes}
use Rattle.theory.specs.Word.{Entry, spell_entries, bytes_of}
use Rattle.output.specs.Puts.{Put}

-- The symbols of some entries: of each its operand times 1, and then its kind times #
abbrev pub text : List Entry → Bytes
text t = bytes_of (spell_entries t)

-- They were put at a place, over `before`, which is then `after`, up to another place
pub record Spelt (t : List Entry) (place : ℕ) (before after : Bytes) (end : ℕ) : Type 0 where
  pub put : Put (text t) place before after end
