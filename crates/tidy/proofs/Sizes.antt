-- Sizes of the tidy word: the clears add at most 31 times 3 instructions and 48 symbols, and name no further register.
use mathlib.Core.Path.{◌≡◌}
use mathlib.Core.List.{List, ◌++◌}
use Prim.Native.Nat.{ℕ, zero, suc, ◌+◌, ◌*◌, ◌≤◌}
use native.Mathlib.Nat.{suc-mul}
use native.Mathlib.Omega.{arith}
use lib.ListN.{length, length-append}
use Rattle.theory.specs.Basics.{EachOf}
use Rattle.theory.specs.ProgramText.{Command, variables}
use Rattle.theory.specs.Word.{Instruction, operand}
use Rattle.theory.specs.Translation.{clearing, word_of}
use Rattle.theory.specs.Claims.{Accepted, NamesAtMost, Sized}
use Rattle.theory.proofs.Nesting.{few_variables}
use Rattle.theory.proofs.Sizes.{weight, spelled, weight_append, each_append, each_map, Fits, clearing_fits, word_fits, word-limits}
use Rattle.theory.proofs.Sizes.{words_fit, fits_a_set}
use Rattle.tidy.specs.Forms.{clears, tidy_word_of, tidy_text}
use Rattle.tidy.specs.Claims.{TidyWordsFit}
use Rattle.tidy.proofs.Tidy.{tidy_word_is}

pub clears_short : (K : ℕ) → length (clears K) ≤ 3 * K
unfolding clears
clears_short zero = omega arith
clears_short (suc zero) = omega arith
clears_short (suc (suc n)) = omega (arith, length-append (clears (suc n)) (clearing (suc (suc n))), clears_short (suc n))

-- where K is at most `most`
pub clears_light : (most K : ℕ) → K ≤ most → weight (clears K) ≤ K * (most + 16)
unfolding clears
clears_light most zero h = omega arith
clears_light most (suc zero) h = omega arith
clears_light most (suc (suc n)) h =
    let before : weight (clears (suc n)) ≤ suc n * (most + 16) = clears_light most (suc n) (omega arith) in
    let next : suc (suc n) * (most + 16) ≡ suc n * (most + 16) + (most + 16) = suc-mul (suc n) (most + 16) in
    omega (arith, weight_append (clears (suc n)) (clearing (suc (suc n))))

clears_fit : (most K : ℕ) → K ≤ most → EachOf (Fits most) (clears K)
unfolding clears
clears_fit most zero h = tt
clears_fit most (suc zero) h = tt
clears_fit most (suc (suc n)) h =
    let last : _ = clearing_fits most (suc (suc n)) (omega arith, h) in
    each_append (Fits most) (clears (suc n)) (clearing (suc (suc n))) (clears_fit most (suc n) (omega arith)) last

tidy-sized : (p : List Command) → Accepted p → Sized (variables p) (tidy_word_of p)
tidy-sized p a =
    let K : ℕ = variables p in
    let w : List Instruction = word_of p ++ clears K in
    let few : K ≤ 32 = omega (arith, few_variables p a) in
    let limits : _ = word-limits p a in
    let longer : length w ≡ length (word_of p) + length (clears K) = length-append (word_of p) (clears K) in
    let heavier : weight w ≡ weight (word_of p) + weight (clears K) = weight_append (word_of p) (clears K) in
    let fit : EachOf (Fits (K + 17)) w =
    each_append (Fits (K + 17)) (word_of p) (clears K) (word_fits p a) (clears_fit (K + 17) K (omega arith)) in
    rw (tidy_word_is p a)
    (record {
      some_instruction = omega (arith, longer, (words_fit p a).sized.some_instruction);
      few_symbols = omega (arith, spelled w, heavier, limits.0, clears_light 32 K few);
      few_instructions = omega (arith, longer, limits.1, clears_short K);
      operands_from_1 = each_map (Fits (K + 17)) (λ i. 1 ≤ operand i) (λ i f. f.operand) w fit;
      low_registers = each_map (Fits (K + 17)) (NamesAtMost (K + 17)) (λ i f. f.register) w fit;
      few_variables = few_variables p a;
    })

pub tidy_words_fit : TidyWordsFit
unfolding tidy_text
tidy_words_fit p a = fits_a_set (variables p) (tidy_word_of p) (tidy-sized p a)
