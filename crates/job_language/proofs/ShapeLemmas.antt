-- The reader of a job, one piece at a time.
use Rattle.std.proofs.Common.{◌≡◌, ℕ, suc, ◌+◌, ◌<◌, ◌≤◌, Bool, true, false, List, [], ◌∷◌, ◌++◌, length, drop, reverse}
use Rattle.std.proofs.Common.{Option, Some, None, refl, sym, ap, subst, ◌∙◌, append_assoc, append-nil, arith}
use Rattle.std.proofs.Common.{length-drop}
use Rattle.std.specs.List.{list_all}
use Rattle.std.proofs.lemmas.List.{drop_all, length-append}
use Rattle.stream_tokens.specs.declared.symbol.Symbol.TheVariants as symbol
use Rattle.lambda_expr.specs.Words.{Word, named, sign}
use Rattle.job_language.specs.declared.piece.Mark.{Mark}
use Rattle.job_language.specs.declared.mode.Mode.{Mode}
use Rattle.job_language.specs.declared.mode.Mode.TheVariants as mode
use Rattle.job_language.specs.declared.shape.Reader as code
use Rattle.job_language.specs.declared.piece.WrittenCall as written
use Rattle.job_language.specs.Calls.{Call}
use Rattle.job_language.specs.Grammar.{Source, Sources, plain, concat, two, more, Job, Piece, call, comma, close, dot}
use Rattle.job_language.specs.Grammar.{piece_words, pieces_words, source_pieces, sources_pieces, steps_pieces, ending}
use Rattle.job_language.specs.Grammar.{fallback_pieces, fallback_calls, job_pieces, IsSource, AreSources, AreStages}
use Rattle.job_language.specs.Grammar.{IsFallback, IsSpelled, IsNoJob, is_sound, calls_of, plain_sources}
use Rattle.job_language.specs.Reading.{Place, State, ended, replaced, finished, stuck, read, reads, begins, coded}
use Rattle.job_language.specs.Reading.{moves, moved, mark_of, ArePieces}
use Rattle.job_language.specs.Shapes.{begins_job, IsNotSpelled, AreCallsOf, IsNoPiece, Begins, is_last, call_in}
use Rattle.job_language.specs.Shapes.{all_placed, placed_in, piece_from, IsReading, StandIn, StandsIn}
use Rattle.job_language.specs.Verdicts.{placed}
use Rattle.job_language.proofs.JobReaderLemmas.{Stands, keeps, reads_append, reads_job, stuck_stays, follows}
use Rattle.job_language.proofs.JobReaderLemmas.{last_after, last_state}
use Rattle.job_language.proofs.PieceLemmas.{pieces_append, calls_append, are_append, name_is, next_piece, no_pieces}

stands_from : (ps qs : List Piece) (s : State) → ArePieces qs → Stands ps s → Stands (ps ++ qs) (reads s qs)
stands_from ps [] s k h = subst (λ v. Stands v s) (sym (append-nil ps)) h
stands_from ps (q ∷ qs) s k h = subst (λ v. Stands v (reads (read s q) qs)) (append_assoc ps (q ∷ []) qs)
    (stands_from (ps ++ q ∷ []) qs (read s q) k.1 (keeps ps s q k.0 h))

pub stands : (ps : List Piece) → ArePieces ps → Stands ps (reads begins ps)
stands ps k = stands_from [] ps begins k (refl, tt)

-- the calls of a job are the calls of its pieces
calls_steps : (cs : List Call) → calls_of (steps_pieces cs) ≡ cs
calls_steps [] = refl
calls_steps (c ∷ cs) = ap (λ v. c ∷ v) (calls_steps cs)

calls_ending : (b : Bool) → calls_of (ending b) ≡ []
calls_ending true = refl
calls_ending false = refl

calls_fallback : (o : Option Call) → calls_of (fallback_pieces o) ≡ fallback_calls o
calls_fallback None = refl
calls_fallback (Some c) = refl

calls_tail : (j : Job) → calls_of (fallback_pieces j.fallback ++ ending j.semicolon) ≡ fallback_calls j.fallback
calls_tail j =
    calls_append (fallback_pieces j.fallback) (ending j.semicolon)
    ∙ ap (λ v. calls_of (fallback_pieces j.fallback) ++ v) (calls_ending j.semicolon)
    ∙ append-nil (calls_of (fallback_pieces j.fallback))
    ∙ calls_fallback j.fallback

pub calls_job : (j : Job) → calls_of (job_pieces j)
    ≡ plain_sources j.source ++ (j.stages ++ j.terminal ∷ fallback_calls j.fallback)
calls_job j =
    let last = fallback_pieces j.fallback ++ ending j.semicolon in
    let tail = dot ∷ call j.terminal ∷ last in
    calls_append (source_pieces j.source) (steps_pieces j.stages ++ tail)
    ∙ ap (λ v. plain_sources j.source ++ v)
    (calls_append (steps_pieces j.stages) tail ∙ ap (λ v. v ++ j.terminal ∷ calls_of last) (calls_steps j.stages)
    ∙ ap (λ v. j.stages ++ j.terminal ∷ v) (calls_tail j))

-- the pieces of a job are as the rows of their operations say
mutual
  are_source : (s : Source) → IsSource s → ArePieces (source_pieces s)
  are_source (plain true c) h = (tt, (tt, (h.call, tt)))
  are_source (plain false c) h = (h.call, tt)
  are_source (concat true ss) h = (
    tt,
    (
      tt,
      (tt, are_append (sources_pieces ss) (close ∷ []) (are_sources ss h) (tt, tt)),
    ),
  )
  are_source (concat false ss) h = (tt, are_append (sources_pieces ss) (close ∷ []) (are_sources ss h) (tt, tt))

  are_sources : (ss : Sources) → AreSources ss → ArePieces (sources_pieces ss)
  are_sources (two a b) h = are_append (source_pieces a) (comma ∷ source_pieces b) (are_source a h.0)
      (tt, are_source b h.1)
  are_sources (more ss s) h = are_append (sources_pieces ss) (comma ∷ source_pieces s) (are_sources ss h.0)
      (tt, are_source s h.1)

are_steps : (cs : List Call) → AreStages cs → ArePieces (steps_pieces cs)
are_steps [] h = tt
are_steps (c ∷ cs) h = (tt, (h.0.call, are_steps cs h.1))

are_ending : (b : Bool) → ArePieces (ending b)
are_ending true = (tt, tt)
are_ending false = tt

are_fallback : (o : Option Call) → IsFallback o → ArePieces (fallback_pieces o)
are_fallback None h = tt
are_fallback (Some c) h = (tt, (h.call, tt))

pub are_job : (ws : List Word) (j : Job) → IsSpelled ws j → ArePieces (job_pieces j)
are_job ws j h =
    let last = fallback_pieces j.fallback ++ ending j.semicolon in
    let tail = dot ∷ call j.terminal ∷ last in
    are_append (source_pieces j.source) (steps_pieces j.stages ++ tail) (are_source j.source h.source)
    (are_append (steps_pieces j.stages) tail (are_steps j.stages h.stages) (
      tt,
      (
        h.terminal.call,
        are_append (fallback_pieces j.fallback) (ending j.semicolon)
            (are_fallback j.fallback h.fallback) (are_ending j.semicolon),
      ),
    ))

-- a job with these words has the pieces that were read, and then others
pub prefix : (done ps : List Piece) (r : List Word) → ArePieces done → ArePieces ps
    → pieces_words done ++ r ≡ pieces_words ps
    → (qs : List Piece) × (ps ≡ done ++ qs) × ArePieces qs × (pieces_words qs ≡ r)
prefix [] ps r h k e = (ps, refl, k, sym e)
prefix (p ∷ done) ps r h k e =
    let n = next_piece p ps (pieces_words done ++ r) h.0 k
    (sym e ∙ append_assoc (piece_words p) (pieces_words done) r) in
    let m = prefix done n.0 r h.1 n.2 (sym n.3) in
    (m.0, n.1 ∙ ap (λ v. p ∷ v) m.1, m.2, m.3)

pub after_two : (ws : List Word) (j : Job) → IsSpelled ws j → pieces_words (job_pieces j) ≡ drop 2 ws
after_two ws j h = ap (drop 2) h.spelled

left : (ws : List Word) (r : code.Reader) (h : IsReading ws r) (j : Job) → IsSpelled ws j
    → (qs : List Piece) × (job_pieces j ≡ h.done ++ qs) × ArePieces qs × (pieces_words qs ≡ drop r.at ws)
left ws r h j k = prefix h.done (job_pieces j) (drop r.at ws) h.pieces (are_job ws j k)
    (h.spelled ∙ sym (after_two ws j k))

pub no_start : (ws : List Word) → begins_job ws ≡ false → IsNotSpelled ws
no_start ws h j k = let e : true ≡ false = ap begins_job k.spelled ∙ h in absurd cc

none_left : (ws : List Word) (at : ℕ) → at < length ws → drop at ws ≡ [] → ⊥
none_left ws at lt h = let e = length-drop at ws in let f : length (drop at ws) ≡ 0 = ap length h in omega arith

pub no_piece_there : (ws : List Word) (r : code.Reader) → IsReading ws r → r.at < length ws → IsNoPiece (drop r.at ws)
    → IsNotSpelled ws
no_piece_there ws r h lt n j k =
    let l = left ws r h j k in
    no_first l.0 l.2 l.3
  where
    no_first : (qs : List Piece) → ArePieces qs → pieces_words qs ≡ drop r.at ws → ⊥
    no_first [] are e = none_left ws r.at lt (sym e)
    no_first (q ∷ qs) are e = n q (pieces_words qs) are.0 e

abbrev at_mode : Mode → List Bool → Place
at_mode k bs = Some (k, bs)

abbrev mode_in : Place → Mode
mode_in None = mode.Source
mode_in (Some p) = p.0

same_mode : (k l : Mode) (bs cs : List Bool) → at_mode k bs ≡ at_mode l cs → k ≡ l
same_mode k l bs cs h = ap mode_in h

is_stuck : (s : State) → coded s ≡ None → s ≡ stuck
is_stuck stuck h = refl
is_stuck x h = absurd cc

last_mode : (j : Job) → (k : Mode) × (bs : List Bool) × (coded (last_state j) ≡ Some (k, bs)) × (is_last k ≡ true)
last_mode j = last_of j.fallback j.semicolon
  where
    last_of : (o : Option Call) (b : Bool)
        → (k : Mode) × (bs : List Bool) × (coded (last_after j.source j.stages j.terminal o b) ≡ Some (k, bs))
        × (is_last k ≡ true)
    last_of o true = (mode.End, [], refl, refl)
    last_of None false = (mode.AfterTerminal, [], refl, refl)
    last_of (Some f) false = (mode.AfterFallback, [], refl, refl)

pub reads_last : (ws : List Word) (j : Job) → IsSpelled ws j → reads begins (job_pieces j) ≡ last_state j
reads_last ws j h = reads_job j h.source h.stages h.terminal h.fallback

pub no_move : (ws : List Word) (r : code.Reader) (p : Piece) (to : ℕ) → IsReading ws r → Begins ws r.at p to
    → moved r.mode (reverse r.commas.items) (mark_of p) ≡ None → IsNotSpelled ws
no_move ws r p to h b n j k =
    let l = left ws r h j k in
    let m = next_piece p l.0 (drop to ws) b.piece l.2 (l.3 ∙ b.spelled) in
    let st = reads begins h.done in
    let gone : read st p ≡ stuck = is_stuck (read st p)
    (follows st p b.piece ∙ ap (λ q. moves q (mark_of p)) h.place ∙ n) in
    let all : job_pieces j ≡ h.done ++ p ∷ m.0 = l.1 ∙ ap (λ v. h.done ++ v) m.1 in
    let end : stuck ≡ last_state j = sym
    (ap (reads begins) all ∙ reads_append begins h.done (p ∷ m.0) ∙ ap (λ s. reads s m.0) gone ∙ stuck_stays m.0)
    ∙ reads_last ws j k in
    let last = last_mode j in
    let e : None ≡ at_mode last.0 last.1 = ap coded end ∙ last.2 in
    absurd cc

pub no_end : (ws : List Word) (r : code.Reader) → IsReading ws r → length ws ≤ r.at → is_last r.mode ≡ false
    → IsNotSpelled ws
no_end ws r h far n j k =
    let l = left ws r h j k in
    let none : l.0 ≡ [] = no_pieces l.0 (l.3 ∙ drop_all r.at ws far) in
    let all : job_pieces j ≡ h.done = l.1 ∙ ap (λ v. h.done ++ v) none ∙ append-nil h.done in
    let last = last_mode j in
    let e : at_mode r.mode (reverse r.commas.items) ≡ at_mode last.0 last.1 =
    sym h.place ∙ ap (λ v. coded (reads begins v)) (sym all) ∙ ap coded (reads_last ws j k) ∙ last.2 in
    let f : r.mode ≡ last.0 = same_mode r.mode last.0 (reverse r.commas.items) last.1 e in
    let g : false ≡ true = sym n ∙ ap is_last f ∙ last.3 in
    absurd cc

after_both : (n : ℕ) (p : Piece) (ps : List Piece)
    → n + length (piece_words p) + length (pieces_words ps) ≡ n + length (piece_words p ++ pieces_words ps)
after_both n p ps = let both = length-append (piece_words p) (pieces_words ps) in omega arith

placed_append : (n : ℕ) (ps qs : List Piece)
    → placed n (ps ++ qs) ≡ placed n ps ++ placed (n + length (pieces_words ps)) qs
placed_append n [] qs = let e : n ≡ n + 0 = omega arith in ap (λ k. placed k qs) e
placed_append n ((call c) ∷ ps) qs = ap (λ v. record { opened = suc n; call = c } ∷ v)
    (placed_append (n + length (piece_words (call c))) ps qs
    ∙ ap (λ m. placed (n + length (piece_words (call c))) ps ++ placed m qs) (after_both n (call c) ps))
placed_append n (p ∷ ps) qs = placed_append (n + length (piece_words p)) ps qs
    ∙ ap (λ m. placed (n + length (piece_words p)) ps ++ placed m qs) (after_both n p ps)

ends_there : (ws : List Word) (at to : ℕ) (p : Piece) (n : ℕ) → Begins ws at p to → at ≡ n
    → to ≡ n + length (piece_words p)
ends_there ws at to p n b e =
    let whole : length (drop at ws) ≡ length (piece_words p ++ drop to ws) = ap length b.spelled in
    omega (arith, length-append (piece_words p) (drop to ws), length-drop at ws, length-drop to ws, b.further, b.within)

longer : (ps : List Piece) (p : Piece) → 2 + length (pieces_words (ps ++ p ∷ []))
    ≡ 2 + length (pieces_words ps) + length (piece_words p)
longer ps p =
    let all : length (pieces_words (ps ++ p ∷ [])) ≡ length (pieces_words ps ++ piece_words p) =
    ap length (pieces_append ps (p ∷ []) ∙ ap (λ v. pieces_words ps ++ v) (append-nil (piece_words p))) in
    omega (arith, length-append (pieces_words ps) (piece_words p))

pub reading_on : (ws : List Word) (r s : code.Reader) (p : Piece) → (h : IsReading ws r) → Begins ws r.at p s.at
    → moved r.mode (reverse r.commas.items) (mark_of p) ≡ Some (s.mode, reverse s.commas.items)
    → all_placed ws s.calls.items ≡ all_placed ws r.calls.items ++ placed r.at (p ∷ []) → StandIn ws s.calls.items
    → IsReading ws s
reading_on ws r s p h b m c k =
    let st = reads begins h.done in
    record {
      done = h.done ++ p ∷ [];
      pieces = are_append h.done (p ∷ []) h.pieces (b.piece, tt);
      spelled =
          ap (λ v. v ++ drop s.at ws) (pieces_append h.done (p ∷ [])
          ∙ ap (λ v. pieces_words h.done ++ v) (append-nil (piece_words p)))
          ∙ append_assoc (pieces_words h.done) (piece_words p) (drop s.at ws)
          ∙ ap (λ v. pieces_words h.done ++ v) (sym b.spelled)
          ∙ h.spelled;
      place = ap coded (reads_append begins h.done (p ∷ [])) ∙ follows st p b.piece
          ∙ ap (λ q. moves q (mark_of p)) h.place ∙ m;
      stand = k;
      calls =
          c ∙ ap (λ v. v ++ placed r.at (p ∷ [])) h.calls ∙ ap (λ n. placed 2 h.done ++ placed n (p ∷ [])) h.far
          ∙ sym (placed_append 2 h.done (p ∷ []));
      far = ends_there ws r.at s.at p (2 + length (pieces_words h.done)) b h.far ∙ sym (longer h.done p);
      within = b.within;
    }

-- the job that was read
other_mode : (k l : Mode) (bs cs : List Bool) → at_mode k bs ≡ at_mode l cs → is_last k ≡ false → is_last l ≡ true → ⊥
other_mode k l bs cs h n m = let e : k ≡ l = same_mode k l bs cs h in let f : false ≡ true = sym n ∙ ap is_last e ∙ m in
    absurd cc

job_of : (ws : List Word) (name : List ℕ) (ps : List Piece) (s : State) (k : Mode) (bs : List Bool)
    → coded s ≡ Some (k, bs) → is_last k ≡ true → Stands ps s → named name ∷ sign symbol.Assign ∷ pieces_words ps ≡ ws
    → AreCallsOf ws (placed 2 ps)
job_of ws name ps stuck k bs h l st e = absurd cc
job_of ws name ps (ended s gs c) k bs h l st e =
    let j : Job = record { name = name; source = s; stages = gs; terminal = c; fallback = None; semicolon = false } in
    record {
      job = j;
      spelled = record {
        source = st.1;
        stages = st.2;
        terminal = st.3;
        fallback = tt;
        spelled = ap (λ v. named name ∷ sign symbol.Assign ∷ pieces_words v) st.0 ∙ e;
      };
      calls = ap (placed 2) (sym st.0);
    }
job_of ws name ps (replaced s gs c f) k bs h l st e =
    let j : Job = record { name = name; source = s; stages = gs; terminal = c; fallback = Some f; semicolon = false } in
    record {
      job = j;
      spelled = record {
        source = st.1;
        stages = st.2;
        terminal = st.3;
        fallback = st.4;
        spelled = ap (λ v. named name ∷ sign symbol.Assign ∷ pieces_words v) st.0 ∙ e;
      };
      calls = ap (placed 2) (sym st.0);
    }
job_of ws name ps (finished s gs c o) k bs h l st e =
    let j : Job = record { name = name; source = s; stages = gs; terminal = c; fallback = o; semicolon = true } in
    record {
      job = j;
      spelled = record {
        source = st.1;
        stages = st.2;
        terminal = st.3;
        fallback = st.4;
        spelled = ap (λ v. named name ∷ sign symbol.Assign ∷ pieces_words v) st.0 ∙ e;
      };
      calls = ap (placed 2) (sym st.0);
    }
job_of ws name ps x k bs h l st e = absurd (other_mode _ k _ bs h refl l)

heads : (ws : List Word) → begins_job ws ≡ true → (name : List ℕ) × (named name ∷ sign symbol.Assign ∷ drop 2 ws ≡ ws)
heads (named n ∷ sign symbol.Assign ∷ ws) h = (n, refl)
heads ws h = absurd cc

pub reads_all : (ws : List Word) (r : code.Reader) → begins_job ws ≡ true → IsReading ws r → length ws ≤ r.at
    → is_last r.mode ≡ true → AreCallsOf ws (all_placed ws r.calls.items)
reads_all ws r start h far last =
    let head = heads ws start in
    let all : pieces_words h.done ≡ drop 2 ws =
    sym (append-nil (pieces_words h.done)) ∙ ap (λ v. pieces_words h.done ++ v) (sym (drop_all r.at ws far))
    ∙ h.spelled in
    subst (AreCallsOf ws) (sym h.calls) (job_of ws head.0 h.done (reads begins h.done) r.mode (reverse r.commas.items)
    h.place last (stands h.done h.pieces) (ap (λ v. named head.0 ∷ sign symbol.Assign ∷ v) all ∙ head.1))

pub begun : (ws : List Word) (r : code.Reader) → begins_job ws ≡ true → r.mode ≡ mode.Source → r.commas.items ≡ []
    → r.calls.items ≡ [] → r.at ≡ 2 → IsReading ws r
begun ws r start m c k a = record {
  done = [];
  pieces = tt;
  spelled = ap (λ n. drop n ws) a;
  place = sym (ap (λ v. at_mode v (reverse r.commas.items)) m ∙ ap (λ v. at_mode mode.Source (reverse v)) c);
  calls = ap (all_placed ws) k;
  far = a;
  stand = subst (StandIn ws) (sym k) tt;
  within = let two_ = long_enough ws start in omega arith;
}
  where
    long_enough : (ws : List Word) → begins_job ws ≡ true → 2 ≤ length ws
    long_enough (named n ∷ sign symbol.Assign ∷ ws) h = omega arith
    long_enough ws h = absurd cc

pub calls_more : (ws : List Word) (cs ds : List written.WrittenCall)
    → all_placed ws (cs ++ ds) ≡ all_placed ws cs ++ all_placed ws ds
calls_more ws [] ds = refl
calls_more ws (c ∷ cs) ds = ap (λ v. placed_in ws c ∷ v) (calls_more ws cs ds)

pub one_placed : (ws : List Word) (n : ℕ) (m : Mark) (c : written.WrittenCall) → c.opened ≡ suc n
    → placed_in ws c ∷ [] ≡ placed n (piece_from ws m (Some c) ∷ [])
one_placed ws n m c h = ap (λ k. record { opened = k; call = call_in ws c } ∷ []) h

-- words are one job at most
abbrev pub job_in : List ℕ → State → Option Job
job_in name (ended s gs c) = Some (record
    { name = name; source = s; stages = gs; terminal = c; fallback = None; semicolon = false })
job_in name (replaced s gs c f) = Some (record
    { name = name; source = s; stages = gs; terminal = c; fallback = Some f; semicolon = false })
job_in name (finished s gs c o) = Some (record
    { name = name; source = s; stages = gs; terminal = c; fallback = o; semicolon = true })
job_in name s = None

pub last_job : (j : Job) → job_in j.name (last_state j) ≡ Some j
last_job j = for_end j.fallback j.semicolon refl refl
  where
    for_end : (o : Option Call) (b : Bool) → j.fallback ≡ o → j.semicolon ≡ b → job_in j.name (last_state j) ≡ Some j
    for_end o true f h = rw h refl
    for_end None false f h = rw (f, h) refl
    for_end (Some c) false f h = rw (f, h) refl

pub one_spelled : (ws : List Word) (j k : Job) → IsSpelled ws j → IsSpelled ws k → j ≡ k
one_spelled ws j k h l =
    let pieces = prefix (job_pieces j) (job_pieces k) [] (are_job ws j h) (are_job ws k l)
    (append-nil (pieces_words (job_pieces j)) ∙ after_two ws j h ∙ sym (after_two ws k l)) in
    let none : pieces.0 ≡ [] = no_pieces pieces.0 pieces.3 in
    let same : job_pieces k ≡ job_pieces j = pieces.1 ∙ ap (λ v. job_pieces j ++ v) none ∙ append-nil (job_pieces j) in
    let states : last_state j ≡ last_state k =
    sym (reads_last ws j h) ∙ ap (reads begins) (sym same) ∙ reads_last ws k l in
    let name : j.name ≡ k.name = name_is j.name k.name _ _ (h.spelled ∙ sym l.spelled) in
    let jobs : Some j ≡ Some k = sym (last_job j) ∙ ap (job_in j.name) states ∙ ap (λ n. job_in n (last_state k)) name
    ∙ last_job k in
    cc

-- words with an unsound one are no job
pub no_unsound_job : (ws : List Word) → list_all is_sound ws ≡ false → IsNoJob ws
no_unsound_job ws h j k = let e : true ≡ false = sym k.sound ∙ h in absurd cc

pub no_unspelled_job : (ws : List Word) → IsNotSpelled ws → IsNoJob ws
no_unspelled_job ws h j k = h j k.spelled

pub stand_more : (ws : List Word) (cs : List written.WrittenCall) (c : written.WrittenCall) → StandIn ws cs
    → StandsIn ws c → StandIn ws (cs ++ c ∷ [])
stand_more ws [] c h k = (k, tt)
stand_more ws (d ∷ cs) c h k = (h.0, stand_more ws cs c h.1 k)
