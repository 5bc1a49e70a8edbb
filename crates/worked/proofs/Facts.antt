-- The examples that speak of every box, or of every pair of boxes.
use Rattle.std.proofs.Common.{◌≡◌, ℕ, ◌+◌, ◌-◌, ◌≤◌, min, max, true, List, [], ◌∷◌, ◌++◌, Some, None, refl, ap, ◌∙◌, inl, inr, arith}
use Rattle.std.proofs.lemmas.Bool.{cases_Bool, cond-false, cond-true, le-ltb}
use Rattle.std.proofs.lemmas.Bool.Decides.{nat_tests}
use Rattle.std.specs.Option.{option_and_then, option_map, option_to_list}
use Rattle.domain.specs.declared.attributes.Axis.{Axis}
use Rattle.domain.specs.declared.attributes.Axis.TheVariants.{Birth, Service, Band}
use Rattle.domain.specs.declared.attributes.Bounds.{Bounds}
use Rattle.domain.specs.declared.attributes.Cell.{Cell}
use Rattle.domain.specs.declared.attributes.Span.{Span}
use Rattle.domain.specs.Attributes.{Lawful, LawfulSpan, cells_of, meet, span_of, with_span}
use Rattle.domain.specs.Cells.{Covers, ShareCell, holds, within}
use Rattle.domain.proofs.Meeting.{meet_decides, three_from, three_parts}
use Rattle.boxes.proofs.Narrowing.{same_span}
use Rattle.boxes.specs.Cuts.{cut_of, cut_order, lower_span, narrow_span, narrowed, remnants, upper_span}
use Rattle.boxes.specs.Splits.{split_of, unbroken}
use Rattle.worked.specs.Examples.{box, to}

-- one cell
one_wide : (x : ℕ) → x + 1 - x ≡ 1
one_wide x = omega arith

pub single_cell : (c : Cell) → cells_of (box (to c.birth c.birth) (to c.service c.service) (to c.band c.band)) ≡ 1
single_cell c = simp one_wide

-- a split by one region is a cut
by_one : (q r : Bounds) (ps : List Bounds) → cut_of q r ≡ ps → split_of q (r ∷ []) ≡ option_and_then Some (unbroken (ps ++ []))
by_one q r ps e = ap (λ qs. option_and_then Some (unbroken (qs ++ []))) e

pub apart_leaves : (q r : Bounds) → (ShareCell q r → ⊥) → split_of q (r ∷ []) ≡ Some (q ∷ [])
apart_leaves q r h = elim (cases_Bool (meet q r)) [
  | inl e ↦ absurd (h ((meet_decides q r).0 e))
  | inr e ↦ by_one q r (q ∷ []) (cond-false _ _ _ e)
]

-- a range inside another one leaves no remnant, and narrowing leaves it
abbrev Inside : Span → Span → Type 0
Inside p b = (b.low ≤ p.low) × (p.high ≤ b.high)

no_lower : (p b : Span) → Inside p b → lower_span p b ≡ None
no_lower p b i = cond-false _ _ _ (le-ltb _ _ i.0)

no_upper : (p b : Span) → Inside p b → upper_span p b ≡ None
no_upper p b i = cond-false _ _ _ (le-ltb _ _ i.1)

narrow_same : (p b : Span) → Inside p b → narrow_span p b ≡ p
narrow_same p b i =
    let low : max p.low b.low ≡ p.low = omega arith in
    let high : min p.high b.high ≡ p.high = omega arith in
    λ k. record { low = low k; high = high k }

no_remnants : (order : List Axis) (q r : Bounds) → ((a : Axis) → Inside (span_of a q) (span_of a r)) → remnants order q r ≡ []
no_remnants [] q r i = refl
no_remnants (a ∷ order) q r i =
    ap (λ o. (option_to_list (option_map (λ s. with_span a s q) o) ++ option_to_list (option_map (λ s. with_span a s q) (upper_span (span_of a q) (span_of a r)))) ++ remnants order (narrowed a q r) r) (no_lower _ _ (i a))
    ∙ (ap (λ o. option_to_list (option_map (λ s. with_span a s q) o) ++ remnants order (narrowed a q r) r) (no_upper _ _ (i a))
    ∙ (ap (λ s. remnants order (with_span a s q) r) (narrow_same (span_of a q) (span_of a r) (i a))
    ∙ (ap (λ p. remnants order p r) (same_span a q) ∙ no_remnants order q r i)))

-- a box that is covered lies inside along each attribute, by its first cell and its last
span_ends : (n : ℕ) (s : Span) → LawfulSpan n s → (within s s.low ≡ true) × (within s s.high ≡ true)
span_ends n s l = (grind (arith, nat_tests), grind (arith, nat_tests))

from_ends : (p b : Span) → within b p.low ≡ true → within b p.high ≡ true → Inside p b
from_ends p b e f = grind (arith, nat_tests)

covers_inside : (q r : Bounds) → Lawful q → Covers r q → (a : Axis) → Inside (span_of a q) (span_of a r)
covers_inside q r l h =
    let x = span_ends 1536 q.birth l.0 in
    let y = span_ends 720 q.service l.1 in
    let z = span_ends 16 q.band l.2 in
    let first = h (record { birth = q.birth.low; service = q.service.low; band = q.band.low }) (three_from _ _ _ x.0 y.0 z.0) in
    let last = h (record { birth = q.birth.high; service = q.service.high; band = q.band.high }) (three_from _ _ _ x.1 y.1 z.1) in
    let low = three_parts (within r.birth q.birth.low) (within r.service q.service.low) (within r.band q.band.low) first in
    let high = three_parts (within r.birth q.birth.high) (within r.service q.service.high) (within r.band q.band.high) last in
    elim [
      | Birth ↦ from_ends q.birth r.birth low.0 high.0
      | Service ↦ from_ends q.service r.service low.1 high.1
      | Band ↦ from_ends q.band r.band low.2 high.2
    ]

-- it has a cell, so it meets what covers it
covers_meet : (q r : Bounds) → Lawful q → Covers r q → meet q r ≡ true
covers_meet q r l h =
    let c : Cell = record { birth = q.birth.low; service = q.service.low; band = q.band.low } in
    let here : holds q c ≡ true = three_from _ _ _ (span_ends 1536 q.birth l.0).0 (span_ends 720 q.service l.1).0 (span_ends 16 q.band l.2).0 in
    (meet_decides q r).1 (c, here, h c here)

pub covered_leaves_none : (q r : Bounds) → Lawful q → Covers r q → split_of q (r ∷ []) ≡ Some []
covered_leaves_none q r l h = by_one q r [] (cond-true _ _ _ (covers_meet q r l h) ∙ no_remnants cut_order q r (covers_inside q r l h))
