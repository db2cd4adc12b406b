-- What a fresh state is, as the definitions have it.
use mathlib.Core.Path.{◌≡◌, refl, ap, fun_ext}
use mathlib.Core.List.{List}
use Prim.Native.Nat.{ℕ, zero, suc}
use lib.ListN.{get_or, replicate}
use Rattle.theory.specs.Limits.{state_passes}
use Rattle.theory.specs.Machines.{SourceState}
use Rattle.source_state.specs.Answers.{fresh_state, Fresh}

all_zero : (n d : ℕ) → ◌≡◌ {A = ℕ} (get_or (replicate n 0) d 0) 0
all_zero zero d = refl
all_zero (suc n) zero = refl
all_zero (suc n) (suc d) = all_zero n d

pub fresh-back : (capacities values : List ℕ) → Fresh capacities values (fresh_state capacities values)
fresh-back capacities values = record {
  state = refl;
  stands = ap {B = SourceState}
      (λ f. record { capacities = capacities; steps = 0; state = record { line = 1; values = λ i. get_or values i 0; passes = f } })
      (fun_ext λ d. all_zero state_passes d);
}
