-- Meaning: the lines of a file.
use Rattle.std.specs.Prelude.{ℕ, List}
use Rattle.std.specs.Str.Lines.{lines}

-- A line ends with LF or CR LF, and the last may end with the file. The lines are the parts between line feeds;
-- a part before a line feed loses one CR at its end, and an empty part after the last line feed is no line.
abbrev pub lines_of : List ℕ → List (List ℕ)
lines_of bytes = lines bytes
