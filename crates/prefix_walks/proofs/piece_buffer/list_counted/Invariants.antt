use Rattle.std.proofs.Common.{◌≡◌, ℕ, ◌+◌, ◌<◌, length, get_or}
use Rattle.prefix_walks.proofs.piece_buffer.list_counted.Given as goal

abbrev pub invariant-loop-i : goal.invariant-loop-i
invariant-loop-i l = (length l.places ≡ length l.fn.places) × ((k : ℕ) → k < l.i → get_or l.places k 0 ≡ l.first + k)
