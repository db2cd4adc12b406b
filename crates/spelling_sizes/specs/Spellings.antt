-- A command's line, by its three numbers.
use Rattle.std.specs.Prelude.{cond, ◌++◌, ℕ, eqb}
use Rattle.theory.specs.Text.{Bytes, bytes, name_of}

-- The spelling and LF, of a kind from 1 to 7
unfoldable pub command_line : ℕ → ℕ → ℕ → Bytes
command_line k i j =
    cond (eqb k 1) (name_of i ++ bytes " <- 0\n")
    (cond (eqb k 2) ((name_of i ++ bytes " <- ") ++ (name_of i ++ bytes " + 1\n"))
    (cond (eqb k 3) ((name_of i ++ bytes " <- ") ++ (name_of j ++ bytes "\n"))
    (cond (eqb k 4) (bytes "loop " ++ (name_of i ++ bytes "\n"))
    (cond (eqb k 5) (bytes "endloop " ++ (name_of i ++ bytes "\n"))
    (cond (eqb k 6) (bytes "while " ++ (name_of i ++ bytes " != 0\n"))
    (bytes "endwhile " ++ (name_of i ++ bytes " != 0\n")))))))
