-- Design: the text of each fault.
use Rattle.std.specs.Prelude.{ℕ, ◌++◌, List, codes, decimal}
use Rattle.stream_tokens.specs.declared.job_text.TextFault.{TextFault}
use Rattle.stream_tokens.specs.declared.job_text.TextFault.TheVariants.{Syntax, NoMemory}

-- the bytes of the message
abbrev pub text_fault_text : TextFault → List ℕ
text_fault_text (Syntax line) = codes "line " ++ (decimal line ++ codes ": syntax")
text_fault_text NoMemory = codes "out of memory"
