-- `value` meets its contract: rule 10, then whether every length but the first is 0, and the first length.
use mathlib.Core.Path.{sym, ◌∙◌}
use Rattle.memory.proofs.RegisterOne.{first-length, value_refused, value_read, value_untidy}
use Rattle.memory.proofs.value.Goals as goal

pub returns-then-not-is_memory : goal.returns-then-not-is_memory
returns-then-not-is_memory c = rw c.refused.ensures (value_refused _ (sym c.is_memory.ensures ∙ c.if-not-is_memory.true))

pub bounds-lengths-0 : goal.bounds-lengths-0
bounds-lengths-0 c =
    first-length _ (sym c.is_memory.ensures ∙ c.if-not-is_memory.false)

pub returns-then-is_tidy : goal.returns-then-is_tidy
returns-then-is_tidy c =
    rw c.wide.ensures
    (value_read _ (sym c.is_memory.ensures ∙ c.if-not-is_memory.false) (sym c.is_tidy.ensures ∙ c.if-is_tidy.true))

pub returns-else-is_tidy : goal.returns-else-is_tidy
returns-else-is_tidy c =
    value_untidy _ (sym c.is_memory.ensures ∙ c.if-not-is_memory.false) (sym c.is_tidy.ensures ∙ c.if-is_tidy.false)
