-- Meaning: where words stop being the beginning of a text of a grammar.
use Rattle.std.specs.Prelude.{ℕ, ◌+◌, ◌<◌, ◌≤◌, List, ◌++◌, length, take}

-- some text of a grammar begins with these words
abbrev pub Begins : {W : Type 0} → (List W → Type 0) → List W → Type 0
Begins {W} G ws = (more : List W) × G (ws ++ more)

-- the words are no text of a grammar, and n is the place of the first word where the words up to and with it begin no
-- text of the grammar; if there is none, n is the number of words
pub record StopsAt {W : Type 0} (G : List W → Type 0) (ws : List W) (n : ℕ) : Type 0 where
  pub within : n ≤ length ws
  pub outside : G ws → ⊥
  pub begins : Begins G (take n ws)
  pub stops : n < length ws → Begins G (take (n + 1) ws) → ⊥
