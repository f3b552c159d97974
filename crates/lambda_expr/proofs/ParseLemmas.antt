-- What the loop over words answers.
use Rattle.std.proofs.Common.{◌≡◌, ◌≢◌, ℕ, ◌+◌, ◌<◌, ◌≤◌, List, [], ◌∷◌, ◌++◌, length, take, get_or, Some, None, Err}
use Rattle.std.proofs.Common.{refl, sym, ap, subst, ◌∙◌}
use Rattle.std.proofs.lemmas.List.{take_more, take_all}
use Rattle.lambda_expr.specs.declared.lexeme.Lexeme.{Lexeme}
use Rattle.lambda_expr.specs.declared.lexeme.Lexeme.TheVariants as word
use Rattle.lambda_expr.specs.declared.parse.Pending.{Pending}
use Rattle.lambda_expr.specs.declared.parse.Pending.TheVariants as pending
use Rattle.lambda_expr.specs.declared.step.ParseStep.{ParseStep}
use Rattle.lambda_expr.specs.declared.parse.Held.{Held}
use Rattle.lambda_expr.specs.declared.parse.Held.TheVariants as held
use Rattle.lambda_expr.specs.declared.parse.ParseStop.{ParseStop}
use Rattle.lambda_expr.specs.declared.parse.ParseStop.TheVariants.{At, NoMemory}
use Rattle.lambda_expr.specs.Grammar.{Shape, Expression}
use Rattle.lambda_expr.specs.Stops.{StopsAt}
use Rattle.lambda_expr.specs.Reader.{State, wants, stuck, read, reads, settled, only, whole, result_of, result_at}
use Rattle.lambda_expr.specs.Reader.{joins}
use Rattle.lambda_expr.specs.Codes.{state_of, top_of, frames_of, shape_on, run, IsAt, IsCoded, Turns, IsStop}
use Rattle.lambda_expr.specs.Codes.{ArePostfix}
use Rattle.lambda_expr.proofs.Leads.{reads_append}
use Rattle.lambda_expr.proofs.ReaderStateLemmas.{stops_at, stops_end, reads_expression}

-- after the words up to a place and with it
next : (ws : List Lexeme) (at : ℕ) (w : Lexeme) → at < length ws → get_or ws at word.Other ≡ w
    → reads (wants []) (take (at + 1) ws) ≡ read (reads (wants []) (take at ws)) w
next ws at w lt is = ap (reads (wants [])) (take_more ws at word.Other lt ∙ ap (λ v. take at ws ++ v ∷ []) is)
    ∙ reads_append (wants []) (take at ws) (w ∷ [])

never_stuck : (ps : List Pending) (ss : List ParseStep) (h : Held) → state_of ps ss h ≢ stuck
never_stuck ps ss held.Nothing e = cc
never_stuck ps ss x e = cc

pub goes_on : (ws : List Lexeme) (at : ℕ) (w : Lexeme) (ps qs : List Pending) (ss ts : List ParseStep) (h k : Held)
    → at < length ws → get_or ws at word.Other ≡ w → IsAt ps ss h (reads (wants []) (take at ws))
    → IsAt qs ts k (read (state_of ps ss h) w) → IsAt qs ts k (reads (wants []) (take (at + 1) ws))
goes_on ws at w ps qs ss ts h k lt is stood now =
    subst (IsAt qs ts k) (ap (λ s. read s w) stood.state ∙ sym (next ws at w lt is)) now

pub stops_here : (ws : List Lexeme) (at : ℕ) (w : Lexeme) (ps qs : List Pending) (ss ts : List ParseStep) (h : Held)
    (stop : ParseStop) → at < length ws → get_or ws at word.Other ≡ w → IsAt ps ss h (reads (wants []) (take at ws))
    → Turns (read (state_of ps ss h) w) at qs ts (Err stop) → IsStop Expression ws stop
stops_here ws at w ps qs ss ts h (At n) lt is stood t =
    let on : reads (wants []) (take at ws) ≢ stuck = λ e. never_stuck ps ss h (stood.state ∙ e) in
    subst (StopsAt Expression ws) (sym t.0)
    (stops_at ws at lt on (next ws at w lt is ∙ ap (λ s. read s w) (sym stood.state) ∙ t.1))
stops_here ws at w ps qs ss ts h NoMemory lt is stood t = tt

-- all words were read
pub at_end : (ws : List Lexeme) (n : ℕ) (ps : List Pending) (ss : List ParseStep) (h : Held) → length ws ≤ n
    → IsAt ps ss h (reads (wants []) (take n ws)) → state_of ps ss h ≡ reads (wants []) ws
at_end ws n ps ss h past a = a.state ∙ ap (reads (wants [])) (take_all n ws past)

pub ends_early : (ws : List Lexeme) (ps : List Pending) (ss : List ParseStep) (h : Held)
    → state_of ps ss h ≡ reads (wants []) ws → result_of (state_of ps ss h) ≡ None → StopsAt Expression ws (length ws)
ends_early ws ps ss h is none_read = stops_end ws (λ e. never_stuck ps ss h (is ∙ e))
    (sym (ap result_of is) ∙ none_read)

only_waits : (ps : List Pending) (vs : List Shape) (e : Shape) → ps ≢ [] → only (frames_of ps vs) e ≡ None
only_waits [] vs e n = absurd (n refl)
only_waits (pending.Opened o ∷ ps) vs e n = refl
only_waits (w ∷ ps) vs e n = refl

-- what is joined at the end is what the reader gives
result_joined : (s : State) (ps qs : List Pending) (ss ts : List ParseStep) → IsAt ps ss held.Complete (settled s)
    → joins 0 (top_of ps ss) ≡ top_of qs ts → result_of s ≡ whole (top_of qs ts)
result_joined s ps qs ss ts a j = ap result_at (sym a.state) ∙ ap whole j

pub ends_open : (ws : List Lexeme) (ps qs rs : List Pending) (ss ts us : List ParseStep) (h : Held)
    → state_of ps ss h ≡ reads (wants []) ws → IsAt qs ts held.Complete (settled (state_of ps ss h))
    → joins 0 (top_of qs ts) ≡ top_of rs us → rs ≢ [] → StopsAt Expression ws (length ws)
ends_open ws ps qs rs ss ts us h is a j n =
    ends_early ws ps ss h is (result_joined (state_of ps ss h) qs rs ts us a j ∙ only_waits rs _ _ n)

pub ends_whole : (ws : List Lexeme) (ps qs rs : List Pending) (ss ts us : List ParseStep) (h : Held)
    → state_of ps ss h ≡ reads (wants []) ws → IsAt qs ts held.Complete (settled (state_of ps ss h))
    → joins 0 (top_of qs ts) ≡ top_of rs us → IsCoded rs us held.Complete → rs ≡ [] → ArePostfix ws us
ends_whole ws ps qs rs ss ts us h is a j coded none_left =
    let e = shape_on (run [] us) in
    let k = subst (λ rs. joins 0 (top_of qs ts) ≡ top_of rs us) none_left j in
    let read_as : result_of (reads (wants []) ws) ≡ Some e =
    ap result_of (sym is) ∙ result_joined (state_of ps ss h) qs [] ts us a k in
    (e, reads_expression ws e read_as, sym (subst (λ rs. IsCoded rs us held.Complete) none_left coded))
