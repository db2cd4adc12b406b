-- What calls on programs hand back is packed as the answer for which it stands.
use mathlib.Core.Path.{◌≡◌, refl}
use mathlib.Core.List.{List}
use Rattle.theory.specs.ProgramText.{Command}
use Rattle.theory.specs.TurnedDown.{Answer, done, refused}
use Rattle.list.specs.Answers as Programs
use Rattle.tidy.specs.declared.Form.{Form}
use Rattle.translation.specs.Answers.{size_answer}
use Rattle.packing.specs.Packed.{packed, commands, sizes}
use Rattle.program_packing.specs.Answered.{program_read, translated}

pub packs_program_read : (a : Answer (List Command)) → program_read (Programs.checked a) ≡ packed commands a
unfolding packed
packs_program_read (done p) = refl
packs_program_read (refused r) = refl

pub packs_translated : (form : Form) (a : Answer (List Command)) → translated (size_answer form a) ≡ packed (sizes form) a
unfolding packed
packs_translated form (done p) = refl
packs_translated form (refused r) = refl
