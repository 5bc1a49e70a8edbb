-- What follows of remainder boxes from their division: they are lawful and disjoint, and their cells add up.
use Rattle.std.proofs.Common.{◌≡◌, ℕ, ◌≤◌, Bool, true, false, not, ◌&&◌, ltb, List, [], ◌∷◌, Some, None, Option, sym, refl, ap, ◌∙◌, subst, inl, inr, not-suc-le-zero, arith}
use Rattle.std.proofs.lemmas.List.Elements.{All-append, All-cons, All-head, All-nil, All-tail}
use Rattle.std.proofs.lemmas.Bool.{cond_both, leb-true, ltb-true, or_cases, true≢false}
use Rattle.std.specs.Option.{option_map, option_to_list}
use Rattle.std.specs.List.{All}
use Rattle.domain.specs.declared.attributes.Axis.{Axis}
use Rattle.domain.specs.declared.attributes.Bounds.{Bounds}
use Rattle.domain.specs.declared.attributes.Cell.{Cell}
use Rattle.domain.specs.declared.attributes.Span.{Span}
use Rattle.domain.specs.Attributes.{Lawful, LawfulSpan, limit_of, meet, shares, span_of, with_span}
use Rattle.domain.specs.Cells.{Divides, count, covered, holders, holds, indicator, missing, total_cells}
use Rattle.boxes.specs.Cuts.{cut_in, cut_of, cut_order, lower_of, lower_span, narrow_span, narrowed, remnants, remnants_along, upper_span}
use Rattle.boxes.specs.Splits.{Remainder, cut_all_in, split_from, split_of}
use Rattle.boxes.proofs.Counting.{cells_bound, cells_of_all, cells_of_box, cells_same}
use Rattle.boxes.proofs.Division.{cut_divides_missing, split_divides, split_next}
use Rattle.boxes.proofs.Lawfulness.{lawful_along, lawful_with}
use Rattle.boxes.proofs.Narrowing.{meet_narrowed}
use Rattle.domain.proofs.Meeting.{meet_along}

-- what a cut of a lawful piece leaves is lawful
abbrev LawfulIfAny : ℕ → Option Span → Type 0
LawfulIfAny n None = Unit {0}
LawfulIfAny n (Some s) = LawfulSpan n s

module _ (n : ℕ) (p b : Span) (l : LawfulSpan n p) (e : shares p b ≡ true) where
  lower_lawful : LawfulIfAny n (lower_span p b)
  lower_lawful =
      let h = leb-true _ _ e in
      cond_both (ltb p.low b.low) _ _ (LawfulIfAny n) (λ t. let k = ltb-true p.low b.low t in omega arith) (λ _. tt)

  upper_lawful : LawfulIfAny n (upper_span p b)
  upper_lawful = cond_both (ltb b.high p.high) _ _ (LawfulIfAny n) (λ t. let k = ltb-true b.high p.high t in omega arith) (λ _. tt)

  narrow_lawful : LawfulSpan n (narrow_span p b)
  narrow_lawful = let h = leb-true _ _ e in omega arith

remnant_lawful : (a : Axis) (p : Bounds) (o : Option Span) → Lawful p → LawfulIfAny (limit_of a) o → All Lawful (option_to_list (option_map (λ s. with_span a s p) o))
remnant_lawful a p None l h = All-nil Lawful
remnant_lawful a p (Some s) l h = All-cons Lawful (with_span a s p) [] (lawful_with a s p h l) (All-nil Lawful)

remnants_lawful : (order : List Axis) (p b : Bounds) → Lawful p → meet p b ≡ true → All Lawful (remnants order p b)
remnants_lawful [] p b l e = All-nil Lawful
remnants_lawful (a ∷ order) p b l e =
    let s : Span = span_of a p in
    let t : Span = span_of a b in
    let k = lawful_along a p l in
    let h = meet_along a p b e in
    All-append Lawful (remnants_along a p b) _
    (All-append Lawful (option_to_list (lower_of a p b)) _
    (remnant_lawful a p (lower_span s t) l (lower_lawful (limit_of a) s t k h))
    (remnant_lawful a p (upper_span s t) l (upper_lawful (limit_of a) s t k h)))
    (remnants_lawful order (narrowed a p b) b (lawful_with a (narrow_span s t) p (narrow_lawful (limit_of a) s t k h) l) (meet_narrowed a p b ∙ e))

one_lawful : (p : Bounds) → Lawful p → All Lawful (p ∷ [])
one_lawful p l = All-cons Lawful p [] l (All-nil Lawful)

cut_lawful : (order : List Axis) (p b : Bounds) → Lawful p → All Lawful (cut_in order p b)
cut_lawful order p b l = cond_both (meet p b) (remnants order p b) (p ∷ []) (All Lawful) (λ e. remnants_lawful order p b l e) (λ _. one_lawful p l)

all_lawful : (order : List Axis) (ps : List Bounds) (r : Bounds) → All Lawful ps → All Lawful (cut_all_in order ps r)
all_lawful order [] r l = All-nil Lawful
all_lawful order (p ∷ ps) r l = All-append Lawful (cut_in order p r) _ (cut_lawful order p r (All-head Lawful p ps l)) (all_lawful order ps r (All-tail Lawful p ps l))

split_from_lawful : (order : List Axis) (ps rs qs : List Bounds) → All Lawful ps → split_from order ps rs ≡ Some qs → All Lawful qs
split_from_lawful order ps [] qs l e = let same : ps ≡ qs = cc in subst (All Lawful) same l
split_from_lawful order ps (r ∷ rs) qs l e = split_from_lawful order (cut_all_in order ps r) rs qs (all_lawful order ps r l) (split_next order ps rs qs r e)

-- a cell that is covered has a holder
covered_holders : (bs : List Bounds) (c : Cell) → covered bs c ≡ true → 1 ≤ holders bs c
covered_holders [] c e = absurd (true≢false (sym e))
covered_holders (b ∷ bs) c e = elim (or_cases (holds b c) (covered bs c) e) [
  | inl h ↦ omega (arith, ap indicator h)
  | inr h ↦ omega (arith, covered_holders bs c h)
]

indicator_fits : (t : Bool) → indicator t ≤ 1
indicator_fits true = omega arith
indicator_fits false = omega arith

indicator_and_fits : (x y : Bool) → indicator (x && y) ≤ indicator x
indicator_and_fits true y = indicator_fits y
indicator_and_fits false y = omega arith

second_fails : (x y : Bool) → 1 ≤ indicator (x && not y) → y ≡ false
second_fails true true h = absurd (not-suc-le-zero h)
second_fails true false h = refl
second_fails false y h = absurd (not-suc-le-zero h)

-- lawful boxes that divide the missing cells are a remainder
pub remainder_from : (q : Bounds) (rs ps : List Bounds) → Lawful q → All Lawful ps → Divides ps (missing q rs) → Remainder q rs ps
remainder_from q rs ps l all d =
    let counted : total_cells ps ≡ count (missing q rs) = cells_of_all ps all ∙ cells_same (holders ps) (λ c. indicator (missing q rs c)) d in
    record {
      divides = d;
      count = counted;
      bound =
          omega (
            arith,
            cells_bound (λ c. indicator (missing q rs c)) (λ c. indicator (holds q c)) (λ c. indicator_and_fits (holds q c) (not (covered rs c))),
            cells_of_box q l,
          );
      disjoint = λ c. omega (arith, d c, indicator_fits (missing q rs c));
      apart = λ c h. second_fails (holds q c) (covered rs c) (omega (arith, covered_holders ps c h, d c));
    }

pub split_remainder : (q : Bounds) (rs ps : List Bounds) → Lawful q → split_of q rs ≡ Some ps → Remainder q rs ps
split_remainder q rs ps l e = remainder_from q rs ps l (split_from_lawful cut_order (q ∷ []) rs ps (one_lawful q l) e) (split_divides q rs ps e)

pub cut_remainder : (p b : Bounds) → Lawful p → Remainder p (b ∷ []) (cut_of p b)
cut_remainder p b l = remainder_from p (b ∷ []) (cut_of p b) l (cut_lawful cut_order p b l) (cut_divides_missing p b)
