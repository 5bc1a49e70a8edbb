-- Ranges that have a value in common, and boxes that share a cell.
use Rattle.std.proofs.Common.{◌≡◌, ℕ, max, Bool, true, IsTrue, ◌&&◌, ◌↔◌, arith}
use Rattle.std.proofs.lemmas.Bool.{and_from, and_parts}
use Rattle.std.proofs.lemmas.Bool.Decides.{nat_tests}
use Rattle.domain.specs.declared.attributes.Axis.{Axis}
use Rattle.domain.specs.declared.attributes.Axis.TheVariants.{Birth, Service, Band}
use Rattle.domain.specs.declared.attributes.Bounds.{Bounds}
use Rattle.domain.specs.declared.attributes.Span.{Span}
use Rattle.domain.specs.Attributes.{shares, meet, span_of}
use Rattle.domain.specs.Cells.{ShareCell, within}

-- a test in three parts, one for each attribute
pub three_parts : (x y z : Bool) → (x && (y && z)) ≡ true → (x ≡ true) × (y ≡ true) × (z ≡ true)
three_parts x y z e = let p = and_parts x (y && z) e in let q = and_parts y z p.1 in (p.0, q.0, q.1)

pub three_from : (x y z : Bool) → x ≡ true → y ≡ true → z ≡ true → (x && (y && z)) ≡ true
three_from x y z p q r = and_from _ _ p (and_from _ _ q r)

pub meet_along : (a : Axis) (p b : Bounds) → meet p b ≡ true → shares (span_of a p) (span_of a b) ≡ true
meet_along a p b e =
    let h = three_parts (shares p.birth b.birth) (shares p.service b.service) (shares p.band b.band) e in
    elim a as (λ k. shares (span_of k p) (span_of k b) ≡ true) [ Birth ↦ h.0 | Service ↦ h.1 | Band ↦ h.2 ]

-- the greater of the lower ends lies in both ranges, if any value does
first_shared : (s t : Span) → shares s t ≡ true → (within s (max s.low t.low) ≡ true) × (within t (max s.low t.low) ≡ true)
first_shared s t e = (grind (arith, nat_tests), grind (arith, nat_tests))

within_shares : (s t : Span) (x : ℕ) → within s x ≡ true → within t x ≡ true → shares s t ≡ true
within_shares s t x e f = grind (arith, nat_tests)

meet_shares : (a b : Bounds) → meet a b ≡ true → ShareCell a b
meet_shares a b e =
    let x = first_shared a.birth b.birth (meet_along Birth a b e) in
    let y = first_shared a.service b.service (meet_along Service a b e) in
    let z = first_shared a.band b.band (meet_along Band a b e) in (
      record { birth = max a.birth.low b.birth.low; service = max a.service.low b.service.low; band = max a.band.low b.band.low },
      three_from _ _ _ x.0 y.0 z.0,
      three_from _ _ _ x.1 y.1 z.1,
    )

shares_meet : (a b : Bounds) → ShareCell a b → meet a b ≡ true
shares_meet a b (c, e, f) =
    let p = three_parts (within a.birth c.birth) (within a.service c.service) (within a.band c.band) e in
    let q = three_parts (within b.birth c.birth) (within b.service c.service) (within b.band c.band) f in
    three_from _ _ _
    (within_shares a.birth b.birth c.birth p.0 q.0)
    (within_shares a.service b.service c.service p.1 q.1)
    (within_shares a.band b.band c.band p.2 q.2)

-- two boxes meet exactly when they share a cell
pub meet_decides : (a b : Bounds) → IsTrue (meet a b) ↔ ShareCell a b
meet_decides a b = (meet_shares a b, shares_meet a b)
