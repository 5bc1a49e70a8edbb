-- A buffer that is filled from the front with the records of a selection.
use Rattle.std.proofs.Common.{◌≡◌, ℕ, ◌+◌, ◌<◌, ◌≤◌, true, false, cond, List, [], ◌∷◌, ◌++◌, length, get_or, take, drop, set, replicate, Ok, Err, sym, ap, ◌∙◌, arith}
use Rattle.std.proofs.lemmas.List.Elements.{filter-append, filter_more}
use Rattle.std.proofs.lemmas.List.{append-nil, length-append, length_push, take-append-drop}
use Rattle.std.proofs.lemmas.Bool.Decides.{nat_tests}
use Rattle.boxes.proofs.Places.{put_next}
use Rattle.domain.specs.declared.attributes.Bounds.{Bounds}
use Rattle.domain.specs.declared.refusals.Refusal.TheVariants.{BufferTooShort}
use Rattle.sources.specs.declared.record.Record.{Record}
use Rattle.sources.specs.Answers.{answer_of, buffer_of}
use Rattle.sources.specs.Records.{blank, inside}
use Rattle.sources.specs.Selections.{selection}

-- the first `count` places of the buffer hold the records found so far, and the others what they held before
pub record Filled (found before out : List Record) (count : ℕ) : Type 0 where
  pub counted : count ≡ length found
  pub fits : length found ≤ length before
  pub places : out ≡ found ++ drop (length found) before

-- one record more
pub filled_more : {found before out : List Record} {count : ℕ} (x : Record) → Filled found before out count → count < length before → Filled (found ++ x ∷ []) before (set out count x) (count + 1)
filled_more {found} {before} {out} {count} x f room =
    let long = length_push found x in
    let next : count + 1 ≡ length (found ++ x ∷ []) = omega (arith, f.counted, long) in
    record {
      counted = next;
      fits = omega (arith, f.counted, long);
      places =
          put_next found before count x f.counted (f.places ∙ ap (λ n. found ++ drop n before) (sym f.counted)) room
          ∙ ap (λ n. (found ++ x ∷ []) ++ drop n before) next;
    }

-- the answer and the buffer, where all that is to be found is found
pub filled_all : {found all before out : List Record} {count : ℕ} → Filled found before out count → found ≡ all → (Ok count ≡ answer_of all (length before)) × (out ≡ buffer_of all before)
filled_all f whole = (grind (arith, nat_tests), grind (arith, nat_tests))

-- and where there are more records than places
pub overfull : (found before : List Record) (n : ℕ) → n ≡ length before → length before < length found → (Err BufferTooShort ≡ answer_of found (length before)) × (replicate n blank ≡ buffer_of found before)
overfull found before n long over = (grind (arith, nat_tests), grind (arith, nat_tests))

-- the selection, one record further
module _ (b : Bounds) (rs : List Record) (i : ℕ) (d : Record) (here : i < length rs) where
  pub selection_yes : inside b (get_or rs i d) ≡ true → selection b (take (i + 1) rs) ≡ selection b (take i rs) ++ get_or rs i d ∷ []
  unfolding selection
  selection_yes e = filter_more (inside b) rs i d here ∙ ap (λ t. selection b (take i rs) ++ cond t (get_or rs i d ∷ []) []) e

  pub selection_no : inside b (get_or rs i d) ≡ false → selection b (take (i + 1) rs) ≡ selection b (take i rs)
  unfolding selection
  selection_no e =
      filter_more (inside b) rs i d here
      ∙ (ap (λ t. selection b (take i rs) ++ cond t (get_or rs i d ∷ []) []) e ∙ append-nil (selection b (take i rs)))

  -- it is longer than what was found before, if this one is to be found too
  pub selection_longer : inside b (get_or rs i d) ≡ true → length (selection b (take i rs)) < length (selection b rs)
  unfolding selection
  selection_longer e =
      let parts = ap (selection b) (sym (take-append-drop (i + 1) rs)) ∙ filter-append (inside b) (take (i + 1) rs) (drop (i + 1) rs) in
      omega (
        arith,
        ap length parts,
        length-append (selection b (take (i + 1) rs)) (selection b (drop (i + 1) rs)),
        ap length (selection_yes e),
        length_push (selection b (take i rs)) (get_or rs i d),
      )
