-- The reader of a job gives the job that was written, and holds the pieces that it has read.
use Rattle.std.proofs.Common.{◌≡◌, ℕ, Bool, true, false, List, [], ◌∷◌, ◌++◌, length, Option, Some, None, refl, sym, ap}
use Rattle.std.proofs.Common.{◌∙◌, append_assoc, append-nil}
use Rattle.job_language.specs.declared.operation.Role.{Role}
use Rattle.job_language.specs.declared.operation.Role.TheVariants as role
use Rattle.job_language.specs.declared.operation.Operation.{Operation}
use Rattle.job_language.specs.declared.operation.Operation.TheVariants as op
use Rattle.job_language.specs.declared.piece.Mark.TheVariants as mark
use Rattle.job_language.specs.declared.mode.Mode.TheVariants as mode
use Rattle.job_language.specs.Table.{role_of, allows}
use Rattle.job_language.specs.Calls.{Call, IsCall}
use Rattle.job_language.specs.Grammar.{Source, Sources, plain, concat, two, more, Job, Piece, call, begin_concat, owner}
use Rattle.job_language.specs.Grammar.{comma, close, dot, semicolon, owned, source_pieces, sources_pieces, steps_pieces}
use Rattle.job_language.specs.Grammar.{ending, fallback_pieces, job_pieces, IsCallAs, IsSource, AreSources, AreStages}
use Rattle.job_language.specs.Grammar.{IsFallback}
use Rattle.job_language.specs.Reading.{Frame, opened, first, several, State, wants, owns, bare, has, asks, staged}
use Rattle.job_language.specs.Reading.{ended, falls, replaced, finished, stuck, leaf, stepped, fallen, read, reads}
use Rattle.job_language.specs.Reading.{begins, coded, commas, at_source, moves, moved, mark_of, IsPiece}

pub reads_append : (s : State) (a b : List Piece) → reads s (a ++ b) ≡ reads (reads s a) b
reads_append s [] b = refl
reads_append s (p ∷ a) b = reads_append (read s p) a b

pub stuck_stays : (ps : List Piece) → reads stuck ps ≡ stuck
stuck_stays [] = refl
stuck_stays (p ∷ ps) = stuck_stays ps

-- the left inverse: the pieces of a source are read to that source
abbrev after_all : Bool → List Frame → Sources → State
after_all q fs (two a b) = has (first q a ∷ fs) b
after_all q fs (more ss s) = has (several q ss ∷ fs) s

then_comma : (q : Bool) (fs : List Frame) (ss : Sources) → read (after_all q fs ss) comma ≡ wants (several q ss ∷ fs)
then_comma q fs (two a b) = refl
then_comma q fs (more ss s) = refl

then_close : (q : Bool) (fs : List Frame) (ss : Sources) → read (after_all q fs ss) close ≡ has fs (concat q ss)
then_close q fs (two a b) = refl
then_close q fs (more ss s) = refl

reads_leaf : (q : Bool) (c : Call) (fs : List Frame) (rest : List Piece) → IsCallAs role.Source c
    → reads (wants fs) ((owned q ++ call c ∷ []) ++ rest) ≡ reads (has fs (plain q c)) rest
reads_leaf true c fs rest h = ap (λ r. reads (leaf true fs c r) rest) h.role
reads_leaf false c fs rest h = ap (λ r. reads (leaf false fs c r) rest) h.role

opens : (q : Bool) (fs : List Frame) (rest : List Piece)
    → reads (wants fs) (owned q ++ begin_concat ∷ rest) ≡ reads (wants (opened q ∷ fs)) rest
opens true fs rest = refl
opens false fs rest = refl

mutual
  pub reads_source : (s : Source) (fs : List Frame) (rest : List Piece) → IsSource s
      → reads (wants fs) (source_pieces s ++ rest) ≡ reads (has fs s) rest
  reads_source (plain q c) fs rest h = reads_leaf q c fs rest h
  reads_source (concat q ss) fs rest h =
      ap (reads (wants fs)) (append_assoc (owned q) (begin_concat ∷ (sources_pieces ss ++ close ∷ [])) rest)
      ∙ opens q fs ((sources_pieces ss ++ close ∷ []) ++ rest)
      ∙ ap (reads (wants (opened q ∷ fs))) (append_assoc (sources_pieces ss) (close ∷ []) rest)
      ∙ reads_sources ss q fs (close ∷ rest) h
      ∙ ap (λ s. reads s rest) (then_close q fs ss)

  pub reads_sources : (ss : Sources) (q : Bool) (fs : List Frame) (rest : List Piece) → AreSources ss
      → reads (wants (opened q ∷ fs)) (sources_pieces ss ++ rest) ≡ reads (after_all q fs ss) rest
  reads_sources (two a b) q fs rest h =
      ap (reads (wants (opened q ∷ fs))) (append_assoc (source_pieces a) (comma ∷ source_pieces b) rest)
      ∙ reads_source a (opened q ∷ fs) (comma ∷ (source_pieces b ++ rest)) h.0
      ∙ reads_source b (first q a ∷ fs) rest h.1
  reads_sources (more ss s) q fs rest h =
      ap (reads (wants (opened q ∷ fs))) (append_assoc (sources_pieces ss) (comma ∷ source_pieces s) rest)
      ∙ reads_sources ss q fs (comma ∷ (source_pieces s ++ rest)) h.0
      ∙ ap (λ t. reads t (source_pieces s ++ rest)) (then_comma q fs ss)
      ∙ reads_source s (several q ss ∷ fs) rest h.1

reads_stages : (s : Source) (gs cs : List Call) (rest : List Piece) → AreStages cs
    → reads (staged s gs) (steps_pieces cs ++ rest) ≡ reads (staged s (gs ++ cs)) rest
reads_stages s gs [] rest h = ap (λ v. reads (staged s v) rest) (sym (append-nil gs))
reads_stages s gs (c ∷ cs) rest h =
    ap (λ r. reads (stepped s gs c r) (steps_pieces cs ++ rest)) h.0.role
    ∙ reads_stages s (gs ++ c ∷ []) cs rest h.1
    ∙ ap (λ v. reads (staged s v) rest) (append_assoc gs (c ∷ []) cs)

-- after a source the stages stand as after a stage, but for the dot
reads_steps : (s : Source) (cs : List Call) (rest : List Piece) → AreStages cs
    → reads (has [] s) (steps_pieces cs ++ dot ∷ rest) ≡ reads (asks s cs) rest
reads_steps s [] rest h = refl
reads_steps s (c ∷ cs) rest h =
    ap (λ r. reads (stepped s [] c r) (steps_pieces cs ++ dot ∷ rest)) h.0.role
    ∙ reads_stages s (c ∷ []) cs (dot ∷ rest) h.1

-- the state after all pieces, by the fallback and the semicolon
abbrev pub last_after : Source → List Call → Call → Option Call → Bool → State
last_after s gs c o true = finished s gs c o
last_after s gs c None false = ended s gs c
last_after s gs c (Some f) false = replaced s gs c f

abbrev pub last_state : Job → State
last_state j = last_after j.source j.stages j.terminal j.fallback j.semicolon

ends : (s : Source) (gs : List Call) (c : Call) (o : Option Call) (e : Bool) → IsFallback o
    → reads (ended s gs c) (fallback_pieces o ++ ending e) ≡ last_after s gs c o e
ends s gs c None true h = refl
ends s gs c None false h = refl
ends s gs c (Some f) true h = ap (λ r. read (fallen s gs c f r) semicolon) h.role
ends s gs c (Some f) false h = ap (fallen s gs c f) h.role

pub reads_job : (j : Job) → IsSource j.source → AreStages j.stages → IsCallAs role.Terminal j.terminal
    → IsFallback j.fallback → reads begins (job_pieces j) ≡ last_state j
reads_job j source stages terminal fallback =
    let tail = fallback_pieces j.fallback ++ ending j.semicolon in
    reads_source j.source [] (steps_pieces j.stages ++ dot ∷ call j.terminal ∷ tail) source
    ∙ reads_steps j.source j.stages (call j.terminal ∷ tail) stages
    ∙ ap (λ r. reads (stepped j.source j.stages j.terminal r) tail) terminal.role
    ∙ ends j.source j.stages j.terminal j.fallback j.semicolon fallback

-- what is read spells the pieces so far
abbrev before : List Frame → List Piece
before [] = []
before (opened q ∷ fs) = before fs ++ (owned q ++ begin_concat ∷ [])
before (first q a ∷ fs) = before fs ++ (owned q ++ begin_concat ∷ (source_pieces a ++ comma ∷ []))
before (several q ss ∷ fs) = before fs ++ (owned q ++ begin_concat ∷ (sources_pieces ss ++ comma ∷ []))

abbrev Are : List Frame → Type 0
Are [] = Unit {0}
Are (opened q ∷ fs) = Are fs
Are (first q a ∷ fs) = IsSource a × Are fs
Are (several q ss ∷ fs) = AreSources ss × Are fs

abbrev pub Stands : List Piece → State → Type 0
Stands ps (wants fs) = (before fs ≡ ps) × Are fs
Stands ps (owns fs) = (before fs ++ owner ∷ [] ≡ ps) × Are fs
Stands ps (bare fs) = (before fs ++ owner ∷ dot ∷ [] ≡ ps) × Are fs
Stands ps (has fs s) = (before fs ++ source_pieces s ≡ ps) × Are fs × IsSource s
Stands ps (asks s gs) = (source_pieces s ++ (steps_pieces gs ++ dot ∷ []) ≡ ps) × IsSource s × AreStages gs
Stands ps (staged s gs) = (source_pieces s ++ steps_pieces gs ≡ ps) × IsSource s × AreStages gs
Stands ps (ended s gs c) = (source_pieces s ++ (steps_pieces gs ++ dot ∷ call c ∷ []) ≡ ps) × IsSource s × AreStages gs
    × IsCallAs role.Terminal c
Stands ps (falls s gs c) = (source_pieces s ++ (steps_pieces gs ++ dot ∷ call c ∷ dot ∷ []) ≡ ps) × IsSource s
    × AreStages gs × IsCallAs role.Terminal c
Stands ps (replaced s gs c f) =
    (source_pieces s ++ (steps_pieces gs ++ dot ∷ call c ∷ dot ∷ call f ∷ []) ≡ ps) × IsSource s × AreStages gs
    × IsCallAs role.Terminal c × IsCallAs role.Fallback f
Stands ps (finished s gs c o) =
    (source_pieces s ++ (steps_pieces gs ++ dot ∷ call c ∷ (fallback_pieces o ++ semicolon ∷ [])) ≡ ps) × IsSource s
    × AreStages gs × IsCallAs role.Terminal c
    × IsFallback o
Stands ps stuck = Unit {0}

put : (ps : List Piece) (p : Piece) (a b : List Piece) → a ++ b ≡ ps → a ++ (b ++ p ∷ []) ≡ ps ++ p ∷ []
put ps p a b h = sym (append_assoc a b (p ∷ [])) ∙ ap (λ v. v ++ p ∷ []) h

put_two : (ps : List Piece) (p : Piece) (a b c : List Piece) → a ++ (b ++ c) ≡ ps
    → a ++ (b ++ (c ++ p ∷ [])) ≡ ps ++ p ∷ []
put_two ps p a b c h = ap (λ v. a ++ v) (sym (append_assoc b c (p ∷ []))) ∙ put ps p a (b ++ c) h

steps_more : (gs : List Call) (c : Call) → steps_pieces (gs ++ c ∷ []) ≡ steps_pieces gs ++ dot ∷ call c ∷ []
steps_more [] c = refl
steps_more (g ∷ gs) c = ap (λ v. dot ∷ call g ∷ v) (steps_more gs c)

stages_more : (gs : List Call) (c : Call) → AreStages gs → IsCallAs role.Stage c → AreStages (gs ++ c ∷ [])
stages_more [] c h k = (k, tt)
stages_more (g ∷ gs) c h k = (h.0, stages_more gs c h.1 k)

keeps_leaf : (ps : List Piece) (fs : List Frame) (q : Bool) (c : Call) (r : Role) → role_of c.operation ≡ r → IsCall c
    → before fs ++ owned q ≡ ps → Are fs → Stands (ps ++ call c ∷ []) (leaf q fs c r)
keeps_leaf ps fs q c role.Source is k h a = (put ps (call c) (before fs) (owned q) h, a, record { role = is; call = k })
keeps_leaf ps fs q c x is k h a = tt

keeps_step : (ps : List Piece) (s : Source) (gs : List Call) (c : Call) (r : Role) → role_of c.operation ≡ r → IsCall c
    → Stands ps (asks s gs) → Stands (ps ++ call c ∷ []) (stepped s gs c r)
keeps_step ps s gs c role.Stage is k h = (
  ap (λ v. source_pieces s ++ v) (steps_more gs c)
      ∙ put_two ps (call c) (source_pieces s) (steps_pieces gs) (dot ∷ []) h.0,
  h.1,
  stages_more gs c h.2 (record { role = is; call = k }),
)
keeps_step ps s gs c role.Terminal is k h =
    (put_two ps (call c) (source_pieces s) (steps_pieces gs) (dot ∷ []) h.0, h.1, h.2, record { role = is; call = k })
keeps_step ps s gs c x is k h = tt

keeps_fall : (ps : List Piece) (s : Source) (gs : List Call) (c f : Call) (r : Role) → role_of f.operation ≡ r
    → IsCall f → Stands ps (falls s gs c) → Stands (ps ++ call f ∷ []) (fallen s gs c f r)
keeps_fall ps s gs c f role.Fallback is k h = (
  put_two ps (call f) (source_pieces s) (steps_pieces gs) (dot ∷ call c ∷ dot ∷ []) h.0,
  h.1,
  h.2,
  h.3,
  record { role = is; call = k },
)
keeps_fall ps s gs c f x is k h = tt

nothing : (ps : List Piece) (fs : List Frame) → before fs ≡ ps → before fs ++ owned false ≡ ps
nothing ps fs h = append-nil (before fs) ∙ h

-- a comma or a parenthesis after the last source of an open `concat`
inner : (ps : List Piece) (p : Piece) (f : List Piece) (q : Bool) (a b : List Piece)
    → (f ++ (owned q ++ begin_concat ∷ a)) ++ b ≡ ps
    → f ++ (owned q ++ begin_concat ∷ (a ++ (b ++ p ∷ []))) ≡ ps ++ p ∷ []
inner ps p f true a b h = ap (λ v. f ++ owner ∷ dot ∷ begin_concat ∷ v) (sym (append_assoc a b (p ∷ [])))
    ∙ put ps p f (owner ∷ dot ∷ begin_concat ∷ (a ++ b)) (sym (append_assoc f (owner ∷ dot ∷ begin_concat ∷ a) b) ∙ h)
inner ps p f false a b h = ap (λ v. f ++ begin_concat ∷ v) (sym (append_assoc a b (p ∷ [])))
    ∙ put ps p f (begin_concat ∷ (a ++ b)) (sym (append_assoc f (begin_concat ∷ a) b) ∙ h)

-- a comma or a parenthesis after the last source of an open `concat`, where the pieces of the sources end with a comma
inner_more : (ps : List Piece) (p : Piece) (f : List Piece) (q : Bool) (a b : List Piece)
    → (f ++ (owned q ++ begin_concat ∷ (a ++ comma ∷ []))) ++ b ≡ ps
    → f ++ (owned q ++ begin_concat ∷ ((a ++ comma ∷ b) ++ p ∷ [])) ≡ ps ++ p ∷ []
inner_more ps p f q a b h =
    ap (λ v. f ++ (owned q ++ begin_concat ∷ v))
    (append_assoc a (comma ∷ b) (p ∷ []) ∙ sym (append_assoc a (comma ∷ []) (b ++ p ∷ [])))
    ∙ inner ps p f q (a ++ comma ∷ []) b h

pub keeps : (ps : List Piece) (s : State) (p : Piece) → IsPiece p → Stands ps s → Stands (ps ++ p ∷ []) (read s p)
keeps ps (wants fs) owner k h = (ap (λ v. v ++ owner ∷ []) h.0, h.1)
keeps ps (wants fs) (call c) k h = keeps_leaf ps fs false c (role_of c.operation) refl k (nothing ps fs h.0) h.1
keeps ps (wants fs) begin_concat k h = (ap (λ v. v ++ begin_concat ∷ []) h.0, h.1)
keeps ps (owns fs) dot k h = (put ps dot (before fs) (owner ∷ []) h.0, h.1)
keeps ps (bare fs) (call c) k h = keeps_leaf ps fs true c (role_of c.operation) refl k h.0 h.1
keeps ps (bare fs) begin_concat k h = (put ps begin_concat (before fs) (owner ∷ dot ∷ []) h.0, h.1)
keeps ps (has (opened q ∷ fs) s) comma k h = (inner ps comma (before fs) q [] (source_pieces s) h.0, (h.2, h.1))
keeps ps (has (first q a ∷ fs) s) comma k h =
    (inner_more ps comma (before fs) q (source_pieces a) (source_pieces s) h.0, ((h.1.0, h.2), h.1.1))
keeps ps (has (several q ss ∷ fs) s) comma k h =
    (inner_more ps comma (before fs) q (sources_pieces ss) (source_pieces s) h.0, ((h.1.0, h.2), h.1.1))
keeps ps (has (first q a ∷ fs) s) close k h =
    (inner_more ps close (before fs) q (source_pieces a) (source_pieces s) h.0, h.1.1, (h.1.0, h.2))
keeps ps (has (several q ss ∷ fs) s) close k h =
    (inner_more ps close (before fs) q (sources_pieces ss) (source_pieces s) h.0, h.1.1, (h.1.0, h.2))
keeps ps (has [] s) dot k h = (ap (λ v. v ++ dot ∷ []) h.0, h.2, tt)
keeps ps (asks s gs) (call c) k h = keeps_step ps s gs c (role_of c.operation) refl k h
keeps ps (staged s gs) dot k h = (put ps dot (source_pieces s) (steps_pieces gs) h.0, h.1, h.2)
keeps ps (ended s gs c) dot k h = (
  put_two ps dot (source_pieces s) (steps_pieces gs) (dot ∷ call c ∷ []) h.0,
  h.1,
  h.2,
  h.3,
)
keeps ps (ended s gs c) semicolon k h = (
  put_two ps semicolon (source_pieces s) (steps_pieces gs) (dot ∷ call c ∷ [])
      h.0,
  h.1,
  h.2,
  h.3,
  tt,
)
keeps ps (falls s gs c) (call f) k h = keeps_fall ps s gs c f (role_of f.operation) refl k h
keeps ps (replaced s gs c f) semicolon k h = (
  put_two ps semicolon (source_pieces s) (steps_pieces gs) (dot ∷ call c ∷ dot ∷ call f ∷ []) h.0,
  h.1,
  h.2,
  h.3,
  h.4,
)
keeps ps s p k h = tt

no_concat : (o : Operation) (n : ℕ) → role_of o ≡ role.Concatenation → allows o n ≡ true → ⊥
no_concat op.Concat n h k = absurd cc
no_concat o n h k = absurd cc

follows_leaf : (q : Bool) (fs : List Frame) (c : Call) (r : Role) → role_of c.operation ≡ r → IsCall c
    → coded (leaf q fs c r) ≡ at_source (commas fs) (mark.Call r)
follows_leaf q fs c role.Concatenation h k = absurd (no_concat c.operation (length c.parts) h k.allowed)
follows_leaf q fs c x h k = refl

follows_step : (s : Source) (gs : List Call) (c : Call) (r : Role)
    → coded (stepped s gs c r) ≡ moved mode.Step [] (mark.Call r)
follows_step s gs c role.Source = refl
follows_step s gs c x = refl

follows_fall : (s : Source) (gs : List Call) (c f : Call) (r : Role)
    → coded (fallen s gs c f r) ≡ moved mode.Fallback [] (mark.Call r)
follows_fall s gs c f role.Source = refl
follows_fall s gs c f x = refl

-- the program's mode and list of commas follow the reader
pub follows : (s : State) (p : Piece) → IsPiece p → coded (read s p) ≡ moves (coded s) (mark_of p)
follows (wants fs) (call c) h = follows_leaf false fs c (role_of c.operation) refl h
follows (owns fs) dot h = refl
follows (bare fs) (call c) h = follows_leaf true fs c (role_of c.operation) refl h
follows (has [] s) (call c) h = refl
follows (has (opened q ∷ fs) s) dot h = refl
follows (has (first q a ∷ fs) s) dot h = refl
follows (has (several q ss ∷ fs) s) dot h = refl
follows (asks s gs) (call c) h = follows_step s gs c (role_of c.operation)
follows (staged s gs) dot h = refl
follows (ended s gs c) dot h = refl
follows (falls s gs c) (call f) h = follows_fall s gs c f (role_of f.operation)
follows (replaced s gs c f) dot h = refl
follows (finished s gs c o) dot h = refl
follows stuck dot h = refl
follows x p h = refl
