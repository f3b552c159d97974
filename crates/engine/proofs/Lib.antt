mod OutcomeLemmas
mod RunLemmas
mod WorkedFiles
