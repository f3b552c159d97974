-- Condition: tokens within a text.
use Rattle.std.specs.Prelude.{ℕ, ◌<◌, ◌≤◌, All, List, length}
use Rattle.stream_tokens.specs.declared.token.Token.{Token}

-- each token stands within the text
abbrev pub StandIn : List ℕ → List Token → Type 0
StandIn text ts = All (λ t. (t.from < t.to) × (t.to ≤ length text)) ts
