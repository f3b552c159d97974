-- Any words are a job, or they are none.
use Rattle.std.proofs.Common.{◌≡◌, ◌⊎◌, inl, inr, ℕ, zero, suc, ◌<◌, ◌≤◌, Bool, true, false, List, [], ◌∷◌, ◌++◌, drop}
use Rattle.std.proofs.Common.{length, Option, Some, None, refl, sym, ap, subst, ◌∙◌, append-nil, arith}
use Rattle.std.specs.Prelude.{codes, nat_eq}
use Rattle.std.specs.Cmp.Lexicographic.{pointwise, same_text}
use Rattle.std.specs.List.{list_all}
use Rattle.std.proofs.lemmas.List.{length-append}
use Rattle.stream_tokens.specs.declared.symbol.Symbol.{Symbol}
use Rattle.stream_tokens.specs.declared.symbol.Symbol.TheVariants as symbol
use Rattle.lambda_expr.specs.Words.{Word, named, sign}
use Rattle.job_language.specs.declared.operation.Operation.{Operation}
use Rattle.job_language.specs.declared.operation.Operation.TheVariants as op
use Rattle.job_language.specs.declared.operation.Role.{Role}
use Rattle.job_language.specs.declared.operation.Role.TheVariants as role
use Rattle.job_language.specs.declared.piece.Mark.TheVariants as mark
use Rattle.job_language.specs.Table.{allows, name_of, operation_of, role_of}
use Rattle.job_language.specs.Calls.{Call}
use Rattle.job_language.specs.Splitting.{Completes, IsNoCallOf, IsOpen, State, inside, closed, fits_from, reads, start}
use Rattle.job_language.specs.Grammar.{Job, IsJob, IsNoJob, IsSpelled, Piece, call, begin_concat, owner, comma, close}
use Rattle.job_language.specs.Grammar.{dot, semicolon, is_sound, job_pieces, piece_words, pieces_words}
use Rattle.job_language.specs.Reading.{ArePieces, IsPiece}
use Rattle.job_language.specs.Reading as job
use Rattle.job_language.specs.Shapes.{IsNoPiece, IsNotSpelled, begins_job, mark_of_symbol}
use Rattle.job_language.proofs.CallReads.{fit_again, fit_all, is_open, reads_call}
use Rattle.job_language.proofs.Names.{named_back}
use Rattle.job_language.proofs.PieceReads.{is_concat, names, no_call_for}
use Rattle.job_language.proofs.PieceLemmas.{call_tail, first_word, later_words, next_piece, no_pieces, words_of_piece}
use Rattle.job_language.proofs.ShapeLemmas.{after_two, are_job, job_in, last_job, no_start, no_unsound_job}
use Rattle.job_language.proofs.ShapeLemmas.{no_unspelled_job, prefix, reads_last, stands}
use Rattle.job_language.proofs.Splits.{reads_written}
use Rattle.job_language.proofs.JobReaderLemmas.{Stands, last_state}

-- ---- a call after its parenthesis

abbrev HasCall : Operation → List Word → Type 0
HasCall o ws = (parts : List (List Word)) × (rest : List Word)
    × Completes (record { operation = o; parts = parts }) rest ws

same_parts : (o : Operation) (xs parts : List (List Word)) (rest ws : List Word) → reads start ws ≡ closed xs
    → Completes (record { operation = o; parts = parts }) rest ws → parts ≡ xs
same_parts o xs parts rest ws h k = let e : closed parts ≡ closed xs =
    sym (reads_call (record { operation = o; parts = parts }) rest ws k) ∙ h in cc

by_fit : (o : Operation) (xs : List (List Word)) (ws : List Word) → reads start ws ≡ closed xs
    → allows o (length xs) ≡ true → (b : Bool) → fits_from o (length xs) 0 xs ≡ b → HasCall o ws ⊎ IsNoCallOf o ws
by_fit o xs ws h a true f =
    let w = reads_written ws xs h in
    inl (
      xs,
      w.rest,
      record {
        call = record { pair = w.pair; allowed = a; fit = fit_all o (length xs) 0 xs f };
        spelled = w.spelled;
      },
    )
by_fit o xs ws h a false f = inr (λ parts rest k.
    let same = same_parts o xs parts rest ws h k in
    let e : true ≡ false = sym (fit_again o (length parts) 0 parts k.call.fit)
    ∙ ap (λ v. fits_from o (length v) 0 v) same ∙ f in
    absurd cc)

by_allowed : (o : Operation) (xs : List (List Word)) (ws : List Word) → reads start ws ≡ closed xs → (b : Bool)
    → allows o (length xs) ≡ b → HasCall o ws ⊎ IsNoCallOf o ws
by_allowed o xs ws h true a = by_fit o xs ws h a (fits_from o (length xs) 0 xs) refl
by_allowed o xs ws h false a = inr (λ parts rest k.
    let same = same_parts o xs parts rest ws h k in
    let e : true ≡ false = sym k.call.allowed ∙ ap (λ v. allows o (length v)) same ∙ a in
    absurd cc)

by_split : (o : Operation) (ws : List Word) (s : State) → reads start ws ≡ s → HasCall o ws ⊎ IsNoCallOf o ws
by_split o ws (inside done a d) h = inr (λ parts rest k. is_open (record { operation = o; parts = parts }) rest ws
    (subst IsOpen (sym h) tt) k)
by_split o ws (closed xs) h = by_allowed o xs ws h (allows o (length xs)) refl

each_call : (o : Operation) (ws : List Word) → HasCall o ws ⊎ IsNoCallOf o ws
each_call o ws = by_split o ws (reads start ws) refl

-- ---- a piece at the front

abbrev HasPiece : List Word → Type 0
HasPiece ws = (p : Piece) × (rest : List Word) × IsPiece p × (piece_words p ++ rest ≡ ws)

abbrev Fronted : List Word → Type 0
Fronted ws = HasPiece ws ⊎ IsNoPiece ws

no_piece_by : (w : Word) (ws : List Word) → ((p : Piece) → first_word p ≡ w → ⊥) → IsNoPiece (w ∷ ws)
no_piece_by w ws none_first p rest k e =
    let f : first_word p ∷ (later_words p ++ rest) ≡ w ∷ ws = ap (λ v. v ++ rest) (sym (words_of_piece p)) ∙ e in
    none_first p cc

-- signs
sign_first : (p : Piece) (s : Symbol) → mark_of_symbol s ≡ None → first_word p ≡ sign s → ⊥
sign_first comma s h e = let same : symbol.Comma ≡ s = cc in
    let f : Some mark.Comma ≡ None = ap mark_of_symbol same ∙ h in absurd cc
sign_first close s h e = let same : symbol.Close ≡ s = cc in
    let f : Some mark.Close ≡ None = ap mark_of_symbol same ∙ h in absurd cc
sign_first dot s h e = let same : symbol.Dot ≡ s = cc in let f : Some mark.Dot ≡ None = ap mark_of_symbol same ∙ h in
    absurd cc
sign_first semicolon s h e = let same : symbol.Semicolon ≡ s = cc in
    let f : Some mark.Semicolon ≡ None = ap mark_of_symbol same ∙ h in absurd cc
sign_first x s h e = absurd cc

front_sign : (s : Symbol) (ws : List Word) → Fronted (sign s ∷ ws)
front_sign symbol.Comma ws = inl (comma, ws, tt, refl)
front_sign symbol.Close ws = inl (close, ws, tt, refl)
front_sign symbol.Dot ws = inl (dot, ws, tt, refl)
front_sign symbol.Semicolon ws = inl (semicolon, ws, tt, refl)
front_sign s ws = inr (no_piece_by (sign s) ws (λ p e. sign_first p s refl e))

-- names
unnamed : (p : Piece) (n : List ℕ) → (n ≡ codes "LongStream" → ⊥) → operation_of n ≡ None → first_word p ≡ named n → ⊥
unnamed (call c) n other h e = let same : name_of c.operation ≡ n = cc in
    let f : Some c.operation ≡ None = sym (named_back c.operation) ∙ ap operation_of same ∙ h in absurd cc
unnamed begin_concat n other h e = let same : name_of op.Concat ≡ n = cc in
    let f : Some op.Concat ≡ None = sym (named_back op.Concat) ∙ ap operation_of same ∙ h in absurd cc
unnamed owner n other h e = other (let same : codes "LongStream" ≡ n = cc in sym same)
unnamed x n other h e = absurd cc

name_alone : (n : List ℕ) → (n ≡ codes "LongStream" → ⊥) → IsNoPiece (named n ∷ [])
name_alone n other owner rest k e = other (let same : codes "LongStream" ≡ n = cc in sym same)
name_alone n other p rest k e = absurd cc

not_opened : (n : List ℕ) (w : Word) (ws : List Word) → (n ≡ codes "LongStream" → ⊥) → (w ≡ sign symbol.Open → ⊥)
    → IsNoPiece (named n ∷ w ∷ ws)
not_opened n w ws other shut (call c) rest k e = shut (let same : sign symbol.Open ≡ w = cc in sym same)
not_opened n w ws other shut begin_concat rest k e = shut (let same : sign symbol.Open ≡ w = cc in sym same)
not_opened n w ws other shut owner rest k e = other (let same : codes "LongStream" ≡ n = cc in sym same)
not_opened n w ws other shut p rest k e = absurd cc

concat_or_not : (r : Role) → (r ≡ role.Concatenation) ⊎ (r ≡ role.Concatenation → ⊥)
concat_or_not role.Concatenation = inl refl
concat_or_not r = inr (λ e. cc)

by_call : (o : Operation) (ws : List Word) → (role_of o ≡ role.Concatenation → ⊥) → HasCall o ws ⊎ IsNoCallOf o ws
    → Fronted (named (name_of o) ∷ sign symbol.Open ∷ ws)
by_call o ws other (inl (parts, rest, k)) =
    let c : Call = record { operation = o; parts = parts } in
    inl (call c, rest, k.call, call_tail c rest ∙ ap (λ v. named (name_of o) ∷ sign symbol.Open ∷ v) k.spelled)
by_call o ws other (inr none_there) = inr (no_call_for o ws none_there other)

by_role : (o : Operation) (ws : List Word) → (role_of o ≡ role.Concatenation) ⊎ (role_of o ≡ role.Concatenation → ⊥)
    → Fronted (named (name_of o) ∷ sign symbol.Open ∷ ws)
by_role o ws (inl r) = inl (
  begin_concat,
  ws,
  tt,
  ap (λ p. named (name_of p) ∷ sign symbol.Open ∷ ws) (sym (is_concat o r)),
)
by_role o ws (inr other) = by_call o ws other (each_call o ws)

by_second : (n : List ℕ) (o : Operation) (ws : List Word) → (n ≡ codes "LongStream" → ⊥) → n ≡ name_of o
    → Fronted (named n ∷ ws)
by_second n o [] other is = inr (name_alone n other)
by_second n o (sign symbol.Open ∷ ws) other is =
    subst (λ m. Fronted (named m ∷ sign symbol.Open ∷ ws)) (sym is) (by_role o ws (concat_or_not (role_of o)))
by_second n o (w ∷ ws) other is = inr (not_opened n w ws other (λ e. cc))

by_operation : (n : List ℕ) (ws : List Word) → (n ≡ codes "LongStream" → ⊥) → (o : Option Operation)
    → operation_of n ≡ o → Fronted (named n ∷ ws)
by_operation n ws other None h = inr (no_piece_by (named n) ws (λ p e. unnamed p n other h e))
by_operation n ws other (Some o) h = by_second n o ws other
    (let is : named n ≡ named (name_of o) = names (named n) o h in cc)

by_owner : (n : List ℕ) (ws : List Word) (b : Bool) → pointwise nat_eq n (codes "LongStream") ≡ b
    → Fronted (named n ∷ ws)
by_owner n ws true h = inl (owner, ws, tt, ap (λ m. named m ∷ ws) (sym (same_text n (codes "LongStream") (sym h))))
by_owner n ws false h = by_operation n ws
    (λ e. let f : true ≡ false = ap (λ m. pointwise nat_eq m (codes "LongStream")) (sym e) ∙ h in absurd cc)
    (operation_of n) refl

-- other words
no_word : (p : Piece) (w : Word) → ((n : List ℕ) → w ≡ named n → ⊥) → ((s : Symbol) → w ≡ sign s → ⊥) → first_word p ≡ w
    → ⊥
no_word (call c) w a b e = a (name_of c.operation) (sym e)
no_word begin_concat w a b e = a (name_of op.Concat) (sym e)
no_word owner w a b e = a (codes "LongStream") (sym e)
no_word comma w a b e = b symbol.Comma (sym e)
no_word close w a b e = b symbol.Close (sym e)
no_word dot w a b e = b symbol.Dot (sym e)
no_word semicolon w a b e = b symbol.Semicolon (sym e)

each_front : (w : Word) (ws : List Word) → Fronted (w ∷ ws)
each_front (named n) ws = by_owner n ws (pointwise nat_eq n (codes "LongStream")) refl
each_front (sign s) ws = front_sign s ws
each_front w ws = inr (no_piece_by w ws (λ p e. no_word p w (λ n e. cc) (λ s e. cc) e))

-- ---- pieces

abbrev HasPieces : List Word → Type 0
HasPieces ws = (ps : List Piece) × ArePieces ps × (pieces_words ps ≡ ws)

abbrev AreNoPieces : List Word → Type 0
AreNoPieces ws = (ps : List Piece) → ArePieces ps → pieces_words ps ≡ ws → ⊥

shorter : (p : Piece) (rest ws : List Word) → piece_words p ++ rest ≡ ws → length rest < length ws
shorter p rest ws e =
    let all : length (first_word p ∷ (later_words p ++ rest)) ≡ length ws =
    ap length (ap (λ v. v ++ rest) (sym (words_of_piece p)) ∙ e) in
    omega (arith, length-append (later_words p) rest)

no_pieces_there : (w : Word) (ws : List Word) → IsNoPiece (w ∷ ws) → AreNoPieces (w ∷ ws)
no_pieces_there w ws none_first [] k e = absurd cc
no_pieces_there w ws none_first (p ∷ ps) k e = none_first p (pieces_words ps) k.0 e

then_pieces : (p : Piece) (rest ws : List Word) → IsPiece p → piece_words p ++ rest ≡ ws
    → HasPieces rest ⊎ AreNoPieces rest → HasPieces ws ⊎ AreNoPieces ws
then_pieces p rest ws k e (inl (ps, are, spelled)) = inl (p ∷ ps, (k, are), ap (λ v. piece_words p ++ v) spelled ∙ e)
then_pieces p rest ws k e (inr none_left) =
    inr (λ qs kq eq. let n = next_piece p qs rest k kq (eq ∙ sym e) in none_left n.0 n.2 n.3)

by_front : (w : Word) (ws : List Word) →
    ((rest : List Word) → length rest < length (w ∷ ws) → HasPieces rest ⊎ AreNoPieces rest) → Fronted (w ∷ ws)
    → HasPieces (w ∷ ws) ⊎ AreNoPieces (w ∷ ws)
by_front w ws later (inl (p, rest, k, e)) = then_pieces p rest (w ∷ ws) k e (later rest (shorter p rest (w ∷ ws) e))
by_front w ws later (inr none_first) = inr (no_pieces_there w ws none_first)

pieces_within : (size : ℕ) (ws : List Word) → length ws ≤ size → HasPieces ws ⊎ AreNoPieces ws
pieces_within size [] le = inl ([], tt, refl)
pieces_within zero (w ∷ ws) le = absurd (omega arith)
pieces_within (suc size) (w ∷ ws) le = by_front w ws (λ rest lt. pieces_within size rest (omega arith))
    (each_front w ws)

-- ---- a job

not_last : (ws : List Word) (ps : List Piece) (s : job.State) → ArePieces ps → pieces_words ps ≡ drop 2 ws
    → job.reads job.begins ps ≡ s → ((name : List ℕ) → job_in name s ≡ None) → IsNotSpelled ws
not_last ws ps s are spelled h none_there j k =
    let q = prefix ps (job_pieces j) [] are (are_job ws j k)
    (append-nil (pieces_words ps) ∙ spelled ∙ sym (after_two ws j k)) in
    let empty : q.0 ≡ [] = no_pieces q.0 q.3 in
    let same : job_pieces j ≡ ps = q.1 ∙ ap (λ v. ps ++ v) empty ∙ append-nil ps in
    let last : last_state j ≡ s = sym (reads_last ws j k) ∙ ap (job.reads job.begins) same ∙ h in
    let e : Some j ≡ None = sym (last_job j) ∙ ap (job_in j.name) last ∙ none_there j.name in
    absurd cc

abbrev Spelled : List Word → Type 0
Spelled ws = ((j : Job) × IsSpelled ws j) ⊎ IsNotSpelled ws

by_state : (ws : List Word) (n : List ℕ) (vs : List Word) (ps : List Piece) → ws ≡ named n ∷ sign symbol.Assign ∷ vs
    → pieces_words ps ≡ vs → ArePieces ps → (s : job.State) → job.reads job.begins ps ≡ s → Stands ps s → Spelled ws
by_state ws n vs ps is spelled are (job.ended s gs c) h st = inl (
  record { name = n; source = s; stages = gs; terminal = c; fallback = None; semicolon = false },
  record {
    source = st.1;
    stages = st.2;
    terminal = st.3;
    fallback = tt;
    spelled = ap (λ v. named n ∷ sign symbol.Assign ∷ v) (ap pieces_words st.0 ∙ spelled) ∙ sym is;
  },
)
by_state ws n vs ps is spelled are (job.replaced s gs c f) h st = inl (
  record { name = n; source = s; stages = gs; terminal = c; fallback = Some f; semicolon = false },
  record {
    source = st.1;
    stages = st.2;
    terminal = st.3;
    fallback = st.4;
    spelled = ap (λ v. named n ∷ sign symbol.Assign ∷ v) (ap pieces_words st.0 ∙ spelled) ∙ sym is;
  },
)
by_state ws n vs ps is spelled are (job.finished s gs c o) h st = inl (
  record { name = n; source = s; stages = gs; terminal = c; fallback = o; semicolon = true },
  record {
    source = st.1;
    stages = st.2;
    terminal = st.3;
    fallback = st.4;
    spelled = ap (λ v. named n ∷ sign symbol.Assign ∷ v) (ap pieces_words st.0 ∙ spelled) ∙ sym is;
  },
)
by_state ws n vs ps is spelled are s h st = inr (not_last ws ps s are (spelled ∙ ap (drop 2) (sym is)) h (λ name. refl))

by_pieces : (ws : List Word) (n : List ℕ) (vs : List Word) → ws ≡ named n ∷ sign symbol.Assign ∷ vs
    → HasPieces vs ⊎ AreNoPieces vs → Spelled ws
by_pieces ws n vs is (inl (ps, are, spelled)) =
    by_state ws n vs ps is spelled are (job.reads job.begins ps) refl (stands ps are)
by_pieces ws n vs is (inr none_there) = inr
    (λ j k. none_there (job_pieces j) (are_job ws j k) (after_two ws j k ∙ ap (drop 2) is))

begun_words : (ws : List Word) → begins_job ws ≡ true
    → (n : List ℕ) × (vs : List Word) × (ws ≡ named n ∷ sign symbol.Assign ∷ vs)
begun_words (named n ∷ sign symbol.Assign ∷ vs) h = (n, vs, refl)
begun_words ws h = absurd cc

by_start : (ws : List Word) (b : Bool) → begins_job ws ≡ b → Spelled ws
by_start ws true h = let w = begun_words ws h in by_pieces ws w.0 w.1 w.2 (pieces_within (length w.1) w.1 (omega arith))
by_start ws false h = inr (no_start ws h)

sound_job : (ws : List Word) → list_all is_sound ws ≡ true → Spelled ws → ((j : Job) × IsJob ws j) ⊎ IsNoJob ws
sound_job ws sound (inl j) = inl (j.0, record { sound = sound; spelled = j.1 })
sound_job ws sound (inr none_there) = inr (no_unspelled_job ws none_there)

by_sound : (ws : List Word) (b : Bool) → list_all is_sound ws ≡ b → ((j : Job) × IsJob ws j) ⊎ IsNoJob ws
by_sound ws true h = sound_job ws h (by_start ws (begins_job ws) refl)
by_sound ws false h = inr (no_unsound_job ws h)

pub each_job : (ws : List Word) → ((j : Job) × IsJob ws j) ⊎ IsNoJob ws
each_job ws = by_sound ws (list_all is_sound ws) refl
