-- The lexemes of a part of a text, place by place.
use Rattle.std.proofs.Common.{◌≡◌, ℕ, Bool, zero, suc, ◌+◌, ◌-◌, ◌<◌, ◌≤◌, Option, None, List, [], ◌∷◌, length, take}
use Rattle.std.proofs.Common.{drop, get_or, refl, sym, ap, ◌∙◌, arith, length-drop, length-take, option_copied}
use Rattle.std.specs.Prelude.{slice_range}
use Rattle.stream_tokens.specs.CutTexts.{TokenizedText}
use Rattle.std.proofs.lemmas.List.{drop-drop, drop-take, get_or-drop, get_or-take, take_all}
use Rattle.lambda_expr.specs.declared.lexeme.Lexeme.{Lexeme}
use Rattle.lambda_expr.specs.declared.lexeme.Lexemes.TheInside.{Inside}
use Rattle.lambda_expr.specs.CodeWords.{words_in}
use Rattle.lambda_expr.specs.LexemeParts.{IsPart, part_of}
use Rattle.lambda_expr.specs.Lexemes.{first_name, lexeme_of, lexemes_from, lexemes_of}
use Rattle.lambda_expr.specs.Words.{Word, bad}
use Rattle.lambda_expr.proofs.WordList.{length-words_of}

length-lexemes_from : (cells : Bool) (first second : Option (List ℕ)) (at : ℕ) (ws : List Word)
    → length (lexemes_from cells first second at ws) ≡ length ws
length-lexemes_from cells first second at [] = refl
length-lexemes_from cells first second at (w ∷ ws) = ap suc (length-lexemes_from cells first second (suc at) ws)

get_or-lexemes_from : (cells : Bool) (first second : Option (List ℕ)) (at : ℕ) (ws : List Word) (i : ℕ) (d : Lexeme)
    → i < length ws → get_or (lexemes_from cells first second at ws) i d
    ≡ lexeme_of cells first second (at + i) (get_or ws i bad)
get_or-lexemes_from cells first second at [] i d lt = absurd (omega arith)
get_or-lexemes_from cells first second at (w ∷ ws) zero d lt = let e : at ≡ at + 0 = omega arith in
    ap (λ n. lexeme_of cells first second n w) e
get_or-lexemes_from cells first second at (w ∷ ws) (suc i) d lt =
    let e : suc at + i ≡ at + suc i = omega arith in
    get_or-lexemes_from cells first second (suc at) ws i d (omega arith)
    ∙ ap (λ n. lexeme_of cells first second n (get_or ws i bad)) e

-- the lexemes of the whole text
abbrev whole : Inside → List Lexeme
whole l = lexemes_from l.cells (option_copied l.first) (option_copied l.second) 0 (words_in l.text.now)

length-whole : (l : Inside) → length (whole l) ≡ length l.text.now.tokens
length-whole l = length-lexemes_from l.cells (option_copied l.first) (option_copied l.second) 0 (words_in l.text.now)
    ∙ length-words_of l.text.now.bytes l.text.now.tokens

pub whole_text : (cells : Bool) (first second : Option (List ℕ)) (t : TokenizedText) (n : ℕ)
    → first ≡ first_name cells None (words_in t) → second ≡ first_name cells first (words_in t) → n ≡ length t.tokens
    → slice_range (lexemes_from cells first second 0 (words_in t)) 0 n ≡ lexemes_of cells t.bytes t.tokens
whole_text cells first second t n is was count =
    let ws = words_in t in
    let all = length-lexemes_from cells first second 0 ws in
    let same = length-words_of t.bytes t.tokens in
    take_all (n - 0) (lexemes_from cells first second 0 ws) (omega arith)
    ∙ ap (λ o. lexemes_from cells first o 0 ws) was
    ∙ ap (λ o. lexemes_from cells o (first_name cells o ws) 0 ws) is

pub length-part : (l : Inside) (ls : List Lexeme) → IsPart l → part_of l ≡ ls → length ls ≡ l.to - l.from
length-part l ls is h =
    let within = is.within in
    let count = length-take (l.to - l.from) (drop l.from (whole l)) in
    let left = length-drop l.from (whole l) in
    let all = length-whole l in
    sym (ap length h) ∙ (let e : length (part_of l) ≡ l.to - l.from = omega arith in e)

pub get_or-part : (l : Inside) (ls : List Lexeme) (i : ℕ) (d : Lexeme) → IsPart l → part_of l ≡ ls → i < length ls
    → lexeme_of l.cells (option_copied l.first) (option_copied l.second) (l.from + i)
    (get_or (words_in l.text.now) (l.from + i) bad) ≡ get_or ls i d
get_or-part l ls i d is h lt =
    let count = length-part l ls is h in
    let within = is.within in
    let all = length-words_of l.text.now.bytes l.text.now.tokens in
    let e : 0 + (l.from + i) ≡ l.from + i = omega arith in
    let there = get_or-lexemes_from l.cells (option_copied l.first) (option_copied l.second) 0 (words_in l.text.now)
    (l.from + i) d (omega arith) in
    let here = there ∙ ap (λ n. lexeme_of l.cells (option_copied l.first) (option_copied l.second) n
    (get_or (words_in l.text.now) (l.from + i) bad)) e in
    sym (get_or-take (l.to - l.from) (drop l.from (whole l)) i d (omega arith) ∙ get_or-drop l.from (whole l) i d
    ∙ here) ∙ ap (λ v. get_or v i d) h

pub rest_part : (l : Inside) (ls : List Lexeme) (n : ℕ) → IsPart l → part_of l ≡ ls → n ≤ length ls
    → slice_range (whole l) (l.from + n) l.to ≡ drop n ls
rest_part l ls n is h le =
    let count = length-part l ls is h in
    let left : l.to - l.from ≡ n + (l.to - (l.from + n)) = omega arith in
    sym (ap (drop n) (sym h ∙ ap (λ k. take k (drop l.from (whole l))) left)
    ∙ drop-take n (l.to - (l.from + n)) (drop l.from (whole l))
    ∙ ap (take (l.to - (l.from + n))) (drop-drop n l.from (whole l)))
