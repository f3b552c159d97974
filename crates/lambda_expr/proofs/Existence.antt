-- Any words are an expression, or stop at a place.
use Rattle.std.proofs.Common.{◌≡◌, ◌≢◌, ◌⊎◌, inl, inr, ℕ, zero, suc, ◌+◌, ◌<◌, List, [], length, take, Option, Some}
use Rattle.std.proofs.Common.{None, refl, subst, arith}
use Rattle.std.proofs.lemmas.List.{take_all}
use Rattle.lambda_expr.specs.declared.lexeme.Lexeme.{Lexeme}
use Rattle.lambda_expr.specs.Grammar.{Shape, Expression}
use Rattle.lambda_expr.specs.Stops.{StopsAt}
use Rattle.lambda_expr.specs.Reader.{State, wants, has, owns, dots, calls, at_cell, opens_cell, names_cell, parts_cell}
use Rattle.lambda_expr.specs.Reader.{places_cell, at_row, opens_row, stuck, reads, result_of}
use Rattle.lambda_expr.proofs.ReaderStateLemmas.{stops_at, stops_end, reads_expression}

-- a state is stuck or not
is_stuck : (s : State) → (s ≡ stuck) ⊎ (s ≢ stuck)
is_stuck (wants fs) = inr (λ e. cc)
is_stuck (has fs e) = inr (λ e. cc)
is_stuck (owns fs o) = inr (λ e. cc)
is_stuck (dots fs o) = inr (λ e. cc)
is_stuck (calls fs o n) = inr (λ e. cc)
is_stuck (at_cell fs) = inr (λ e. cc)
is_stuck (opens_cell fs) = inr (λ e. cc)
is_stuck (names_cell fs i) = inr (λ e. cc)
is_stuck (parts_cell fs i) = inr (λ e. cc)
is_stuck (places_cell fs i p) = inr (λ e. cc)
is_stuck (at_row fs) = inr (λ e. cc)
is_stuck (opens_row fs) = inr (λ e. cc)
is_stuck stuck = inl refl

-- no word is stuck, or there is a first one that is
abbrev Stuck : List Lexeme → Type 0
Stuck ws = (reads (wants []) ws ≢ stuck) ⊎ ((n : ℕ) × StopsAt Expression ws n)

searched : (ws : List Lexeme) (n : ℕ) → n < length ws → reads (wants []) (take n ws) ≢ stuck
    → (reads (wants []) (take (n + 1) ws) ≡ stuck) ⊎ (reads (wants []) (take (n + 1) ws) ≢ stuck)
    → (reads (wants []) (take (n + 1) ws) ≢ stuck → Stuck ws) → Stuck ws
searched ws n lt on (inl e) later = inr (n, stops_at ws n lt on e)
searched ws n lt on (inr o) later = later o

search_from : (ws : List Lexeme) (k n : ℕ) → n + k ≡ length ws → reads (wants []) (take n ws) ≢ stuck → Stuck ws
search_from ws zero n h on = inl (subst (λ v. reads (wants []) v ≢ stuck) (take_all n ws (omega arith)) on)
search_from ws (suc k) n h on = searched ws n (omega arith) on (is_stuck (reads (wants []) (take (n + 1) ws)))
    (λ o. search_from ws k (n + 1) (omega arith) o)

answered_by : (ws : List Lexeme) (o : Option Shape) → reads (wants []) ws ≢ stuck → result_of (reads (wants []) ws) ≡ o
    → Expression ws ⊎ ((n : ℕ) × StopsAt Expression ws n)
answered_by ws None on is = inr (length ws, stops_end ws on is)
answered_by ws (Some e) on is = inl (e, reads_expression ws e is)

found : (ws : List Lexeme) → Stuck ws → Expression ws ⊎ ((n : ℕ) × StopsAt Expression ws n)
found ws (inl on) = answered_by ws (result_of (reads (wants []) ws)) on refl
found ws (inr x) = inr x

pub each_answer : (ws : List Lexeme) → Expression ws ⊎ ((n : ℕ) × StopsAt Expression ws n)
each_answer ws = found ws (search_from ws (length ws) 0 (omega arith) (λ e. cc))
