-- What the front of the buffer holds, where a question is answered.
use Rattle.std.proofs.Common.{◌≡◌, ℕ, leb, List, length, take, drop, IfOk, Result, sym, refl, subst, arith}
use Rattle.std.proofs.lemmas.Bool.{cases_Bool}
use Rattle.std.proofs.lemmas.Bool.Decides.{nat_tests}
use Rattle.std.proofs.lemmas.List.{take_at}
use Rattle.std.proofs.lemmas.Result.{IfOk-weaker}
use Rattle.domain.specs.declared.attributes.Bounds.{Bounds}
use Rattle.domain.specs.declared.refusals.Refusal.{Refusal}
use Rattle.sources.proofs.Sameness.{selection_laws}
use Rattle.sources.specs.declared.record.Record.{Record}
use Rattle.sources.specs.Answers.{Answers, answer_of, buffer_of}
use Rattle.sources.specs.Selections.{LawfulRelation, Selected}

-- the records found
pub answered_front : (found before : List Record) → IfOk (answer_of found (length before)) (λ k. take k (buffer_of found before) ≡ found)
answered_front found before = grind (arith, nat_tests, cases_Bool (leb (length found) (length before)), take_at found (drop (length found) before) (length found) refl)

-- which are those of the relation that lie in the box, each once
pub answered_selected : (relation : List Record) (b : Bounds) (before : List Record) (r : Result ℕ Refusal) (after : List Record)
    → LawfulRelation relation → Answers relation b before r after → IfOk r (λ k. Selected b relation (take k after))
answered_selected relation b before r after l a =
    let selected : Selected b relation a.found = (selection_laws.each_once b relation a.found l).0 a.selects in
    let front = IfOk-weaker (answer_of a.found (length before)) _ _ (λ k e. subst (Selected b relation) (sym e) selected) (answered_front a.found before) in
    rw (a.value, a.buffer) front
