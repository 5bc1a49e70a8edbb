-- Narrowing a piece along one attribute.
use Rattle.std.proofs.Common.{◌≡◌, ◌&&◌, refl, ap, arith}
use Rattle.std.proofs.lemmas.Bool.Decides.{nat_tests}
use Rattle.domain.specs.declared.attributes.Axis.{Axis}
use Rattle.domain.specs.declared.attributes.Axis.TheVariants.{Birth, Service, Band}
use Rattle.domain.specs.declared.attributes.Bounds.{Bounds}
use Rattle.domain.specs.declared.attributes.Span.{Span}
use Rattle.domain.specs.Attributes.{meet, shares, span_of, with_span}
use Rattle.boxes.specs.Cuts.{narrow_span, narrowed}

-- narrowing to its own range leaves a piece
pub same_span : (a : Axis) (b : Bounds) → with_span a (span_of a b) b ≡ b
same_span Birth b = refl
same_span Service b = refl
same_span Band b = refl

-- a piece that was narrowed to a box still meets it
shares_narrow : (p b : Span) → shares (narrow_span p b) b ≡ shares p b
shares_narrow p b = grind (arith, nat_tests)

pub meet_narrowed : (a : Axis) (p b : Bounds) → meet (narrowed a p b) b ≡ meet p b
meet_narrowed Birth p b = ap (λ t. t && (shares p.service b.service && shares p.band b.band)) (shares_narrow p.birth b.birth)
meet_narrowed Service p b = ap (λ t. shares p.birth b.birth && (t && shares p.band b.band)) (shares_narrow p.service b.service)
meet_narrowed Band p b = ap (λ t. shares p.birth b.birth && (shares p.service b.service && t)) (shares_narrow p.band b.band)
