-- What the reader keeps from word to word, and where words stop.
use Rattle.std.proofs.Common.{◌≡◌, ◌≢◌, ℕ, ◌+◌, ◌<◌, ◌≤◌, Bool, true, false, List, [], ◌∷◌, ◌++◌, length, take, drop}
use Rattle.std.proofs.Common.{Some, None, refl, sym, ap, subst, ◌∙◌, append_assoc, append-nil, arith}
use Rattle.std.proofs.lemmas.List.{take_all, take-append-drop}
use Rattle.lambda_expr.specs.declared.lexeme.ClassName.{ClassName as Class}
use Rattle.lambda_expr.specs.declared.lexeme.ClassName.TheVariants.{Long}
use Rattle.lambda_expr.specs.declared.sign.Sign.TheVariants.{Comma}
use Rattle.lambda_expr.specs.declared.step.Opening.TheVariants.{Call}
use Rattle.lambda_expr.specs.declared.lexeme.Lexeme.{Lexeme}
use Rattle.lambda_expr.specs.declared.lexeme.Lexeme.TheVariants as word
use Rattle.lambda_expr.specs.declared.lexeme.Name.{Name}
use Rattle.lambda_expr.specs.declared.lexeme.Name.TheVariants.{Plain, ClassName, Truth, LowerLong, Cell, Row}
use Rattle.lambda_expr.specs.declared.lexeme.Numeral.TheVariants.{Places}
use Rattle.lambda_expr.specs.Grammar.{Shape, number, cell, decimal_cell, row, constant, enclosed, opening, spells}
use Rattle.lambda_expr.specs.Grammar.{Binds, IsExpression, Expression}
use Rattle.lambda_expr.specs.Signs.{level, is_prefix}
use Rattle.lambda_expr.specs.Stops.{Begins, StopsAt}
use Rattle.lambda_expr.specs.Reader.{Frame, opened, signed, left, question, joined, takes, State, wants, has, owns}
use Rattle.lambda_expr.specs.Reader.{dots, calls, at_cell, opens_cell, names_cell, parts_cell, places_cell, at_row}
use Rattle.lambda_expr.specs.Reader.{opens_row, stuck, when, answers_at, shuts_at, follows, called, cell_opened}
use Rattle.lambda_expr.specs.Reader.{cell_named, cell_closed, cell_placed, decimal_closed, row_opened, row_closed, read}
use Rattle.lambda_expr.specs.Reader.{reads, settled, only, result_of, result_at}
use Rattle.lambda_expr.proofs.Frames.{before, wanted, Ordered, after, filled, spells_filled, binds_filled, wanted_high}
use Rattle.lambda_expr.proofs.Frames.{binds_lower, level_high, Keeps, join_keeps, join_stops, not_two, taken}
use Rattle.lambda_expr.proofs.Leads.{at_top, reads_back, stuck_begins_none}

-- which state belongs to these words
abbrev pub Stands : List Lexeme → State → Type 0
Stands ws (wants fs) = (before fs ≡ ws) × Ordered fs
Stands ws (has fs e) = (before fs ++ spells e ≡ ws) × Ordered fs × Binds 13 e
Stands ws (owns fs o) = (before fs ++ word.Name (ClassName o) ∷ [] ≡ ws) × Ordered fs
Stands ws (dots fs o) = (before fs ++ word.Name (ClassName o) ∷ word.Dot ∷ [] ≡ ws) × Ordered fs
Stands ws (calls fs o i) = (before fs ++ word.Name (ClassName o) ∷ word.Dot ∷ word.Name i ∷ [] ≡ ws) × Ordered fs
Stands ws (at_cell fs) = (before fs ++ word.Name Cell ∷ [] ≡ ws) × Ordered fs
Stands ws (opens_cell fs) = (before fs ++ word.Name Cell ∷ word.Open ∷ [] ≡ ws) × Ordered fs
Stands ws (names_cell fs i) = (before fs ++ word.Name Cell ∷ word.Open ∷ word.Text i ∷ [] ≡ ws) × Ordered fs
Stands ws (parts_cell fs i) = (before fs ++ word.Name Cell ∷ word.Open ∷ word.Text i ∷ word.Sign Comma ∷ [] ≡ ws)
    × Ordered fs
Stands ws (places_cell fs i p) = (before fs ++ word.Name Cell ∷ word.Open ∷ word.Text i ∷ word.Sign Comma
    ∷ word.Number (Places p) ∷ [] ≡ ws) × Ordered fs
Stands ws (at_row fs) = (before fs ++ word.Name Row ∷ [] ≡ ws) × Ordered fs
Stands ws (opens_row fs) = (before fs ++ word.Name Row ∷ word.Open ∷ [] ≡ ws) × Ordered fs
Stands ws stuck = Unit {0}

-- what stands can be completed
completes : (ws : List Lexeme) (fs : List Frame) (e : Shape) (front rest : List Lexeme) → before fs ++ front ≡ ws
    → spells e ≡ front ++ rest → Ordered fs → Binds (wanted fs) e → Begins Expression ws
completes ws fs e front rest h s o b = (
  rest ++ after fs,
  (
    filled fs e,
    record {
      binds = binds_filled fs e o b;
      spelled =
          spells_filled fs e ∙ ap (λ v. before fs ++ (v ++ after fs)) s
          ∙ (let flat : before fs ++ ((front ++ rest) ++ after fs) ≡ (before fs ++ front) ++ (rest ++ after fs) =
          simp append_assoc in flat)
          ∙ ap (λ v. v ++ (rest ++ after fs)) h;
    },
  ),
)

abbrev some_call : Class → Name → Shape
some_call o i = enclosed (Call o i) (number (Places 0))

pub begins_of : (ws : List Lexeme) (s : State) → s ≢ stuck → Stands ws s → Begins Expression ws
begins_of ws (wants fs) n s = completes ws fs (number (Places 0)) [] (word.Number (Places 0) ∷ [])
    (append-nil (before fs) ∙ s.0) refl s.1 tt
begins_of ws (has fs e) n s = completes ws fs e (spells e) [] s.0 (sym (append-nil (spells e))) s.1
    (let h = wanted_high fs in let k : wanted fs ≤ 13 = omega arith in binds_lower e 13 (wanted fs) k s.2)
begins_of ws (owns fs o) n s = completes ws fs (some_call o LowerLong) (word.Name (ClassName o) ∷ [])
    (word.Dot ∷ word.Name LowerLong ∷ word.Open ∷ word.Number (Places 0) ∷ word.Close ∷ []) s.0 refl s.1 tt
begins_of ws (dots fs o) n s = completes ws fs (some_call o LowerLong) (word.Name (ClassName o) ∷ word.Dot ∷ [])
    (word.Name LowerLong ∷ word.Open ∷ word.Number (Places 0) ∷ word.Close ∷ []) s.0 refl s.1 tt
begins_of ws (calls fs o i) n s = completes ws fs (some_call o i)
    (word.Name (ClassName o) ∷ word.Dot ∷ word.Name i ∷ []) (word.Open ∷ word.Number (Places 0) ∷ word.Close ∷ []) s.0
    refl s.1 tt
begins_of ws (at_cell fs) n s = completes ws fs (cell 0) (word.Name Cell ∷ [])
    (word.Open ∷ word.Text 0 ∷ word.Close ∷ []) s.0 refl s.1 tt
begins_of ws (opens_cell fs) n s = completes ws fs (cell 0) (word.Name Cell ∷ word.Open ∷ [])
    (word.Text 0 ∷ word.Close ∷ []) s.0 refl s.1 tt
begins_of ws (names_cell fs i) n s = completes ws fs (cell i) (word.Name Cell ∷ word.Open ∷ word.Text i ∷ [])
    (word.Close ∷ []) s.0 refl s.1 tt
begins_of ws (parts_cell fs i) n s = completes ws fs (decimal_cell i 0)
    (word.Name Cell ∷ word.Open ∷ word.Text i ∷ word.Sign Comma ∷ []) (word.Number (Places 0) ∷ word.Close ∷ []) s.0
    refl s.1 tt
begins_of ws (places_cell fs i p) n s = completes ws fs (decimal_cell i p)
    (word.Name Cell ∷ word.Open ∷ word.Text i ∷ word.Sign Comma ∷ word.Number (Places p) ∷ []) (word.Close ∷ []) s.0
    refl s.1 tt
begins_of ws (at_row fs) n s = completes ws fs row (word.Name Row ∷ []) (word.Open ∷ word.Close ∷ []) s.0 refl s.1 tt
begins_of ws (opens_row fs) n s = completes ws fs row (word.Name Row ∷ word.Open ∷ []) (word.Close ∷ []) s.0 refl s.1 tt
begins_of ws stuck n s = absurd (n refl)

when_stands : (ws : List Lexeme) (b : Bool) (s : State) → (b ≡ true → Stands ws s) → Stands ws (when b s)
when_stands ws true s h = h refl
when_stands ws false s h = tt

abbrev put : List Lexeme → Lexeme → List Lexeme
put ws w = ws ++ w ∷ []

more : (ws front : List Lexeme) (w : Lexeme) (fs : List Frame) → before fs ++ front ≡ ws
    → before fs ++ (front ++ w ∷ []) ≡ put ws w
more ws front w fs h = sym (append_assoc (before fs) front (w ∷ [])) ∙ ap (λ v. v ++ w ∷ []) h

answered : (ws : List Lexeme) (fs : List Frame) (e : Shape) → before fs ++ spells e ≡ ws → Ordered fs
    → Binds (wanted fs) e → Stands (put ws word.Colon) (answers_at fs e)
answered ws (question c ∷ fs) e h o b =
    let flat : ((before fs ++ (spells c ++ word.Question ∷ [])) ++ spells e) ++ word.Colon ∷ []
    ≡ ws ++ word.Colon ∷ [] = ap (λ v. v ++ word.Colon ∷ []) h in
    let words : before fs ++ (spells c ++ word.Question ∷ (spells e ++ word.Colon ∷ [])) ≡ ws ++ word.Colon ∷ [] =
    simp append_assoc at flat in
    (words, (o.0, o.1, b, o.2))
answered ws x e h o b = tt

shut : (ws : List Lexeme) (fs : List Frame) (e : Shape) → before fs ++ spells e ≡ ws → Ordered fs → Binds (wanted fs) e
    → Stands (put ws word.Close) (shuts_at fs e)
shut ws (opened p ∷ fs) e h o b =
    let flat : ((before fs ++ opening p) ++ spells e) ++ word.Close ∷ [] ≡ ws ++ word.Close ∷ [] =
    ap (λ v. v ++ word.Close ∷ []) h in
    let words : before fs ++ (opening p ++ (spells e ++ word.Close ∷ [])) ≡ ws ++ word.Close ∷ [] =
    simp append_assoc at flat in
    (words, o, b)
shut ws x e h o b = tt

joins_all : (n : ℕ) (fs : List Frame) (e : Shape) → n ≤ 12 → Ordered fs → Binds 13 e → Keeps n fs e (joined n fs e)
joins_all n fs e h o b =
    let high = wanted_high fs in
    let low : wanted fs ≤ 13 = omega arith in
    let small : n ≤ 13 = omega arith in
    join_keeps n fs e h o (binds_lower e 13 (wanted fs) low b) (binds_lower e 13 n small b)

followed : (ws : List Lexeme) (fs : List Frame) (e : Shape) (w : Lexeme) → Stands ws (has fs e)
    → Stands (put ws w) (follows (at_top fs e) w)
followed ws fs e (word.Sign x) s =
    let j = joins_all (level x) fs e (omega (arith, level_high x)) s.1 s.2 in
    let t = joined (level x) fs e in
    when_stands (put ws (word.Sign x)) (takes x t.frames) (wants (left t.shape x ∷ t.frames)) (λ y.
    let k = taken x fs e y in
    (more ws (spells t.shape) (word.Sign x) t.frames (j.words ∙ s.0), (k.low, k.between, j.binds, j.ordered)))
followed ws fs e word.Question s =
    let j = joins_all 2 fs e (omega arith) s.1 s.2 in
    let t = joined 2 fs e in (
      more ws (spells t.shape) word.Question t.frames (j.words ∙ s.0),
      (not_two t.frames (join_stops 2 fs e (omega arith)), j.binds, j.ordered),
    )
followed ws fs e word.Colon s =
    let j = joins_all 0 fs e (omega arith) s.1 s.2 in
    answered ws (joined 0 fs e).frames (joined 0 fs e).shape (j.words ∙ s.0) j.ordered j.tight
followed ws fs e word.Close s =
    let j = joins_all 0 fs e (omega arith) s.1 s.2 in
    shut ws (joined 0 fs e).frames (joined 0 fs e).shape (j.words ∙ s.0) j.ordered j.tight
followed ws fs e (word.Name i) s = tt
followed ws fs e x s = tt

started : (ws : List Lexeme) (fs : List Frame) (w : Lexeme) → Stands ws (wants fs)
    → Stands (put ws w) (read (wants fs) w)
started ws fs (word.Name (Plain i)) s = (ap (λ v. v ++ word.Name (Plain i) ∷ []) s.0, s.1, tt)
started ws fs (word.Name (ClassName o)) s = (ap (λ v. v ++ word.Name (ClassName o) ∷ []) s.0, s.1)
started ws fs (word.Name (Truth b)) s = (ap (λ v. v ++ word.Name (Truth b) ∷ []) s.0, s.1, tt)
started ws fs (word.Name Cell) s = (ap (λ v. v ++ word.Name Cell ∷ []) s.0, s.1)
started ws fs (word.Name Row) s = (ap (λ v. v ++ word.Name Row ∷ []) s.0, s.1)
started ws fs (word.Number i) s = (ap (λ v. v ++ word.Number i ∷ []) s.0, s.1, tt)
started ws fs (word.Reference i) s = (ap (λ v. v ++ word.Reference i ∷ []) s.0, s.1, tt)
started ws fs (word.Sign x) s = when_stands (put ws (word.Sign x)) (is_prefix x) (wants (signed x ∷ fs))
    (λ y. (ap (λ v. v ++ word.Sign x ∷ []) s.0, (y, s.1)))
started ws fs word.Open s = (ap (λ v. v ++ word.Open ∷ []) s.0, s.1)
started ws fs x s = tt

owned_on : (ws : List Lexeme) (fs : List Frame) (o : Class) (w : Lexeme) → Stands ws (owns fs o)
    → Stands (put ws w) (read (owns fs o) w)
owned_on ws fs o word.Dot s = (more ws (word.Name (ClassName o) ∷ []) word.Dot fs s.0, s.1)
owned_on ws fs o y s = tt

dotted_on : (ws : List Lexeme) (fs : List Frame) (o : Class) (w : Lexeme) → Stands ws (dots fs o)
    → Stands (put ws w) (read (dots fs o) w)
dotted_on ws fs o (word.Name i) s = (more ws (word.Name (ClassName o) ∷ word.Dot ∷ []) (word.Name i) fs s.0, s.1)
dotted_on ws fs o y s = tt

called_on : (ws : List Lexeme) (fs : List Frame) (o : Class) (i : Name) (w : Lexeme) → Stands ws (calls fs o i)
    → Stands (put ws w) (called fs o i w)
called_on ws fs o i word.Open s = (
  more ws (word.Name (ClassName o) ∷ word.Dot ∷ word.Name i ∷ []) word.Open fs s.0,
  s.1,
)
called_on ws fs Long i p s = followed ws fs (constant i) p (s.0, s.1, tt)
called_on ws fs y i p s = tt

opened_on : (ws : List Lexeme) (fs : List Frame) (w : Lexeme) → Stands ws (at_cell fs)
    → Stands (put ws w) (cell_opened fs w)
opened_on ws fs word.Open s = (more ws (word.Name Cell ∷ []) word.Open fs s.0, s.1)
opened_on ws fs y s = tt

named_on : (ws : List Lexeme) (fs : List Frame) (w : Lexeme) → Stands ws (opens_cell fs)
    → Stands (put ws w) (cell_named fs w)
named_on ws fs (word.Text i) s = (more ws (word.Name Cell ∷ word.Open ∷ []) (word.Text i) fs s.0, s.1)
named_on ws fs y s = tt

closed_on : (ws : List Lexeme) (fs : List Frame) (i : ℕ) (w : Lexeme) → Stands ws (names_cell fs i)
    → Stands (put ws w) (cell_closed fs i w)
closed_on ws fs i word.Close s = (more ws (word.Name Cell ∷ word.Open ∷ word.Text i ∷ []) word.Close fs s.0, s.1, tt)
closed_on ws fs i (word.Sign Comma) s = (
  more ws (word.Name Cell ∷ word.Open ∷ word.Text i ∷ []) (word.Sign Comma) fs
      s.0,
  s.1,
)
closed_on ws fs i y s = tt

placed_on : (ws : List Lexeme) (fs : List Frame) (i : ℕ) (w : Lexeme) → Stands ws (parts_cell fs i)
    → Stands (put ws w) (cell_placed fs i w)
placed_on ws fs i (word.Number (Places p)) s =
    (more ws (word.Name Cell ∷ word.Open ∷ word.Text i ∷ word.Sign Comma ∷ []) (word.Number (Places p)) fs s.0, s.1)
placed_on ws fs i y s = tt

decimal_closed_on : (ws : List Lexeme) (fs : List Frame) (i p : ℕ) (w : Lexeme) → Stands ws (places_cell fs i p)
    → Stands (put ws w) (decimal_closed fs i p w)
decimal_closed_on ws fs i p word.Close s = (
  more ws (word.Name Cell ∷ word.Open ∷ word.Text i ∷ word.Sign Comma ∷ word.Number (Places p) ∷ []) word.Close fs
      s.0,
  s.1,
  tt,
)
decimal_closed_on ws fs i p y s = tt

row_opened_on : (ws : List Lexeme) (fs : List Frame) (w : Lexeme) → Stands ws (at_row fs)
    → Stands (put ws w) (row_opened fs w)
row_opened_on ws fs word.Open s = (more ws (word.Name Row ∷ []) word.Open fs s.0, s.1)
row_opened_on ws fs y s = tt

row_closed_on : (ws : List Lexeme) (fs : List Frame) (w : Lexeme) → Stands ws (opens_row fs)
    → Stands (put ws w) (row_closed fs w)
row_closed_on ws fs word.Close s = (more ws (word.Name Row ∷ word.Open ∷ []) word.Close fs s.0, s.1, tt)
row_closed_on ws fs y s = tt

-- one more word keeps what stands
keeps : (ws : List Lexeme) (s : State) (w : Lexeme) → Stands ws s → Stands (put ws w) (read s w)
keeps ws (wants fs) w s = started ws fs w s
keeps ws (has fs e) w s = followed ws fs e w s
keeps ws (owns fs o) w s = owned_on ws fs o w s
keeps ws (dots fs o) w s = dotted_on ws fs o w s
keeps ws (calls fs o i) w s = called_on ws fs o i w s
keeps ws (at_cell fs) w s = opened_on ws fs w s
keeps ws (opens_cell fs) w s = named_on ws fs w s
keeps ws (names_cell fs i) w s = closed_on ws fs i w s
keeps ws (parts_cell fs i) w s = placed_on ws fs i w s
keeps ws (places_cell fs i p) w s = decimal_closed_on ws fs i p w s
keeps ws (at_row fs) w s = row_opened_on ws fs w s
keeps ws (opens_row fs) w s = row_closed_on ws fs w s
keeps ws stuck w s = tt

stands_from : (ws vs : List Lexeme) (s : State) → Stands ws s → Stands (ws ++ vs) (reads s vs)
stands_from ws [] s h = subst (λ v. Stands v s) (sym (append-nil ws)) h
stands_from ws (w ∷ vs) s h = subst (λ v. Stands v (reads (read s w) vs)) (append_assoc ws (w ∷ []) vs)
    (stands_from (put ws w) vs (read s w) (keeps ws s w h))

-- the state after words belongs to them, whatever they are
pub stands : (ws : List Lexeme) → Stands ws (reads (wants []) ws)
stands ws = stands_from [] ws (wants []) (refl, tt)

-- the first word that is stuck is where the words stop
pub stops_at : (ws : List Lexeme) (n : ℕ) → n < length ws → reads (wants []) (take n ws) ≢ stuck
    → reads (wants []) (take (n + 1) ws) ≡ stuck → StopsAt Expression ws n
stops_at ws n lt on off =
    let none_begins = stuck_begins_none (take (n + 1) ws) off in
    record {
      within = omega arith;
      outside = λ x. none_begins (drop (n + 1) ws, subst Expression (sym (take-append-drop (n + 1) ws)) x);
      begins = begins_of (take n ws) (reads (wants []) (take n ws)) on (stands (take n ws));
      stops = λ _ b. none_begins b;
    }

-- where no word is stuck but they are no expression, they stop at their end
pub stops_end : (ws : List Lexeme) → reads (wants []) ws ≢ stuck → result_of (reads (wants []) ws) ≡ None
    → StopsAt Expression ws (length ws)
stops_end ws on none_read =
    let all : take (length ws) ws ≡ ws = take_all (length ws) ws (omega arith) in
    record {
      within = omega arith;
      outside = λ x. let e : result_of (reads (wants []) (spells x.0)) ≡ None =
          ap (λ v. result_of (reads (wants []) v)) x.1.spelled ∙ none_read in let f = reads_back x.0 x.1.binds in cc;
      begins = subst (Begins Expression) (sym all) (begins_of ws (reads (wants []) ws) on (stands ws));
      stops = λ lt b. absurd (omega arith);
    }

whole_at : (ws : List Lexeme) (fs : List Frame) (e f : Shape) → before fs ++ spells e ≡ ws → Binds (wanted fs) e
    → only fs e ≡ Some f → IsExpression ws f
whole_at ws [] e f h b is = let same : e ≡ f = cc in subst (IsExpression ws) same (record { binds = b; spelled = h })
whole_at ws (p ∷ fs) e f h b is = absurd cc

result_is : (ws : List Lexeme) (s : State) (f : Shape) → Stands ws s → result_at s ≡ Some f → IsExpression ws f
result_is ws (has fs e) f s is =
    let j = joins_all 0 fs e (omega arith) s.1 s.2 in
    whole_at ws (joined 0 fs e).frames (joined 0 fs e).shape f (j.words ∙ s.0) j.tight is
result_is ws (wants fs) f s is = absurd cc
result_is ws x f s is = absurd cc

settled_stands : (ws : List Lexeme) (s : State) → Stands ws s → Stands ws (settled s)
settled_stands ws (calls fs Long i) s = (s.0, s.1, tt)
settled_stands ws x s = s

-- what is read at the end is the expression that the words are
pub reads_expression : (ws : List Lexeme) (f : Shape) → result_of (reads (wants []) ws) ≡ Some f → IsExpression ws f
reads_expression ws f is = result_is ws (settled (reads (wants []) ws)) f
    (settled_stands ws (reads (wants []) ws) (stands ws)) is
