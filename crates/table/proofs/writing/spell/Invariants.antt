-- `spell` meets its contract. The loop's invariant: the entries passed are spelled, and `at` is where they end.
use lib.ListN.{take}
use Rattle.instruction.specs.Instructions.{Spelt}
use Rattle.word.specs.Answers.{zipped}
use Rattle.table.proofs.writing.spell.Given as goal

abbrev pub invariant-loop-i : goal.invariant-loop-i
invariant-loop-i l = Spelt (take l.i (zipped l.kinds l.operands)) 0 l.initial.word l.word l.at
