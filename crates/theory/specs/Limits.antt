-- The limits of document 01, each under one name.
use Rattle.std.specs.Prelude.{ℕ, suc}

-- A program: "16,384 bytes, 512 lines, index 31, 16 pairs open together, LOOP and WHILE counted alike"
abbrev pub most_bytes : ℕ
most_bytes = 16384

abbrev pub most_lines : ℕ
most_lines = 512

abbrev pub most_index : ℕ
most_index = 31

abbrev pub most_open : ℕ
most_open = 16

-- A source state has a value for each index, 0 to 31, and "16 passes-left, one for each number of enclosing loops", 0 to 15
abbrev pub state_values : ℕ
state_values = suc most_index

abbrev pub state_passes : ℕ
state_passes = most_open

-- A word (rules 11 and 14)
abbrev pub most_symbols : ℕ
most_symbols = 600000

abbrev pub most_instructions : ℕ
most_instructions = 8192

-- A machine of the set: "Registers number 1 to 64"; "Each register gets its own capacity, 1 to 1,024" (document 02, request 5)
abbrev pub most_registers : ℕ
most_registers = 64

abbrev pub most_capacity : ℕ
most_capacity = 1024

-- "Both machines keep their steps as an unsigned 32-bit count"
abbrev pub last_count : ℕ
last_count = 4294967295

-- A run sheet
abbrev pub most_sheet_bytes : ℕ
most_sheet_bytes = 4096

-- The run tool: "64 registers, capacity 1,024, budget 100,000 for the source and 1,000,000 for the word. Its word buffer has 65,536 bytes"
abbrev pub tool_registers : ℕ
tool_registers = 64

abbrev pub tool_capacity : ℕ
tool_capacity = 1024

abbrev pub tool_source_budget : ℕ
tool_source_budget = 100000

abbrev pub tool_word_budget : ℕ
tool_word_budget = 1000000

abbrev pub tool_word_bytes : ℕ
tool_word_bytes = 65536
