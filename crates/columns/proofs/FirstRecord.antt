-- The first record of a text, byte by byte.
use Rattle.std.proofs.Common.{◌≡◌, ◌<◌, ◌+◌, ◌++◌, ◌∷◌, ◌∙◌, [], ℕ, List, true, false, Some, ap, append_assoc, length}
use Rattle.std.proofs.Common.{refl, take, get_or}
use Rattle.std.proofs.lemmas.List.{take_more}
use Rattle.csv.specs.Machine.{field_after, fields_after, is_end, next_record, step}
use Rattle.csv.specs.declared.parser.State.{State}
use Rattle.csv.specs.declared.parser.State.TheVariants as st
use Rattle.columns.specs.TableForms.{config_of}
use Rattle.columns.specs.TextRows.{EndsFirst, IsBetween}

-- a byte that ends no record
pub goes_on : (d : ℕ) (s : State) (fields : List (List ℕ)) (field : List ℕ) (c : ℕ) (rest : List ℕ)
    → is_end (step (config_of d) s c).1 ≡ false
    → next_record (config_of d) s fields field (c ∷ rest)
    ≡ next_record (config_of d) (step (config_of d) s c).0 (fields_after (step (config_of d) s c).1 fields field)
    (field_after (step (config_of d) s c).1 c field) rest
unfolding next_record
goes_on d s fields field c rest h = rw h refl

pub stops : (d : ℕ) (s : State) (fields : List (List ℕ)) (field : List ℕ) (c : ℕ) (rest : List ℕ)
    → is_end (step (config_of d) s c).1 ≡ true
    → next_record (config_of d) s fields field (c ∷ rest)
    ≡ Some (fields_after (step (config_of d) s c).1 fields field, (step (config_of d) s c).0, rest)
unfolding next_record
stops d s fields field c rest h = rw h refl

-- a text whose first record was read as far as a place, whatever comes after it
pub record ReadAsFar (d : ℕ) (text : List ℕ) (s : State) (at : ℕ) : Type 0 where
  pub fields : List (List ℕ)
  pub field : List ℕ
  pub same : (rest : List ℕ) → next_record (config_of d) st.StartRecord [] [] (take at text ++ rest)
      ≡ next_record (config_of d) s fields field rest

one_more : (text : List ℕ) (at : ℕ) (rest : List ℕ) → at < length text
    → take (at + 1) text ++ rest ≡ take at text ++ (get_or text at 0 ∷ rest)
one_more text at rest h = ap (λ l. l ++ rest) (take_more text at 0 h)
    ∙ append_assoc (take at text) (get_or text at 0 ∷ []) rest

pub ReadAsFar-none : (d : ℕ) (text : List ℕ) → ReadAsFar d text st.StartRecord 0
ReadAsFar-none d text = record { fields = []; field = []; same = λ rest. refl }

pub ReadAsFar-more : (d : ℕ) (text : List ℕ) (s t : State) (at : ℕ) → at < length text
    → is_end (step (config_of d) s (get_or text at 0)).1 ≡ false
    → (step (config_of d) s (get_or text at 0)).0 ≡ t → ReadAsFar d text s at → ReadAsFar d text t (at + 1)
ReadAsFar-more d text s t at h goes is so_far =
    let c = get_or text at 0 in
    record {
      fields = fields_after (step (config_of d) s c).1 so_far.fields so_far.field;
      field = field_after (step (config_of d) s c).1 c so_far.field;
      same = λ rest. ap (next_record (config_of d) st.StartRecord [] []) (one_more text at rest h)
          ∙ so_far.same (c ∷ rest) ∙ goes_on d s so_far.fields so_far.field c rest goes
          ∙ ap (λ u. next_record (config_of d) u (fields_after (step (config_of d) s c).1 so_far.fields so_far.field)
          (field_after (step (config_of d) s c).1 c so_far.field) rest) is;
    }

pub EndsFirst-stop : (d : ℕ) (text : List ℕ) (s : State) (at : ℕ) → at < length text
    → is_end (step (config_of d) s (get_or text at 0)).1 ≡ true
    → IsBetween (step (config_of d) s (get_or text at 0)).0 → ReadAsFar d text s at → EndsFirst d text (at + 1)
EndsFirst-stop d text s at h ends is so_far =
    let c = get_or text at 0 in
    record {
      fields = fields_after (step (config_of d) s c).1 so_far.fields so_far.field;
      state = (step (config_of d) s c).0;
      between = is;
      reads = λ rest. ap (next_record (config_of d) st.StartRecord [] []) (one_more text at rest h)
          ∙ so_far.same (c ∷ rest) ∙ stops d s so_far.fields so_far.field c rest ends;
    }
