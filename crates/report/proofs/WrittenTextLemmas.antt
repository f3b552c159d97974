-- Texts that are appended one after the other.
use Rattle.std.proofs.Common.{◌≡◌, ℕ, List, ◌++◌, Result, Ok, Err, OnOk, is_ok, ap, sym, ◌∙◌, append_assoc}
use Rattle.std.specs.Prelude.{codes, if◌then◌else◌}

-- three texts were appended, the last by the call that this is the result of
pub appended_three : {T E : Type 0} (r : Result T E) (start one two whole a b c : List ℕ) → one ≡ start ++ a
    → two ≡ one ++ b
    → whole ≡ (if is_ok r then two ++ c else two) → OnOk r (whole ≡ start ++ (a ++ b ++ c))
appended_three (Ok x) start one two whole a b c first second third =
    third ∙ ap (λ s. s ++ c) (second ∙ ap (λ s. s ++ b) first ∙ append_assoc start a b) ∙ append_assoc start (a ++ b) c
appended_three (Err e) start one two whole a b c first second third = tt

-- the line of an array was written: up to its numbers, then they, then its end
pub array_written : {T E : Type 0} (r : Result T E) (pieces last named begun pieces' last' whole name numbers : List ℕ)
    → named ≡ last ++ name → begun ≡ named ++ codes " = ["
    → pieces' ++ last' ≡ (pieces ++ begun) ++ numbers → whole ≡ (if is_ok r then last' ++ codes "]\n" else last')
    → OnOk r (pieces' ++ whole ≡ (pieces ++ last)
    ++ (name ++ codes " = " ++ (codes "[" ++ numbers ++ codes "]") ++ codes "\n"))
array_written (Ok x) pieces last named begun pieces' last' whole name numbers first begin further end =
    let start = name ++ codes " = [" in
    let rest = numbers ++ codes "]\n" in
    let array = codes "[" ++ numbers ++ codes "]" in
    let before : begun ≡ last ++ start =
    begin ∙ ap (λ l. l ++ codes " = [") first ∙ append_assoc last name (codes " = [") in
    let joined : pieces' ++ whole ≡ (pieces ++ last) ++ (start ++ rest) =
    ap (λ l. pieces' ++ l) end ∙ sym (append_assoc pieces' last' (codes "]\n"))
    ∙ ap (λ l. l ++ codes "]\n") (further ∙ ap (λ l. (pieces ++ l) ++ numbers) before)
    ∙ append_assoc (pieces ++ (last ++ start)) numbers (codes "]\n")
    ∙ ap (λ l. l ++ rest) (sym (append_assoc pieces last start))
    ∙ append_assoc (pieces ++ last) start rest in
    let right : name ++ codes " = " ++ array ++ codes "\n"
    ≡ name ++ (codes " = [" ++ (numbers ++ codes "]" ++ codes "\n")) =
    append_assoc (name ++ codes " = ") array (codes "\n") ∙ append_assoc name (codes " = ") (array ++ codes "\n") in
    let inner : numbers ++ codes "]" ++ codes "\n" ≡ rest = append_assoc numbers (codes "]") (codes "\n") in
    joined ∙ ap (λ l. (pieces ++ last) ++ l)
    (append_assoc name (codes " = [") rest ∙ sym (right ∙ ap (λ l. name ++ (codes " = [" ++ l)) inner))
array_written (Err e) pieces last named begun pieces' last' whole name numbers first begin further end = tt

-- two texts were appended, the last by the call that this is the result of, where `pieces` is what stands before
pub appended_two : {T E : Type 0} (r : Result T E) (pieces last one whole a b : List ℕ) → one ≡ last ++ a
    → OnOk r (whole ≡ (pieces ++ one) ++ b)
    → OnOk r (whole ≡ (pieces ++ last) ++ (a ++ b))
appended_two (Ok x) pieces last one whole a b first second =
    second ∙ ap (λ l. (pieces ++ l) ++ b) first ∙ ap (λ l. l ++ b) (sym (append_assoc pieces last a))
    ∙ append_assoc (pieces ++ last) a b
appended_two (Err e) pieces last one whole a b first second = tt
