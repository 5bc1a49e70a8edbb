-- The pieces of a cut, and of a split, hold each cell that is left exactly once: for every order of the attributes.
use Rattle.std.proofs.Common.{◌≡◌, ℕ, zero, suc, ◌+◌, ◌*◌, Bool, true, false, cond, not, ◌&&◌, ◌||◌, leb, ◌⊎◌, List, [], ◌∷◌, ◌++◌, length, Some, None, Option, sym, refl, ap, ◌∙◌, subst, inl, inr, le_of_suc-le-suc, not-suc-le-zero, add-zero, add-mul, zero-add, zero-mul, arith}
use Rattle.std.proofs.Math.Bool.{or-false}
use Rattle.std.proofs.lemmas.Bool.{cases_Bool, cond-true, cond-false, true≢false}
use Rattle.std.proofs.lemmas.Bool.Decides.{nat_tests}
use Rattle.std.specs.Option.{option_map, option_to_list}
use Rattle.std.specs.List.{Contains}
use Rattle.domain.specs.declared.attributes.Axis.{Axis}
use Rattle.domain.specs.declared.attributes.Axis.TheVariants.{Birth, Service, Band}
use Rattle.domain.specs.declared.attributes.Bounds.{Bounds}
use Rattle.domain.specs.declared.attributes.Cell.{Cell}
use Rattle.domain.specs.declared.attributes.Span.{Span}
use Rattle.domain.specs.Attributes.{shares, meet, span_of, with_span}
use Rattle.domain.specs.Cells.{within, holds, indicator, holders, covered, missing, Divides}
use Rattle.boxes.specs.Cuts.{lower_span, upper_span, narrow_span, lower_of, upper_of, narrowed, remnants_along, remnants, cut_in, cut_of, cut_order, Complete}
use Rattle.boxes.specs.Splits.{cut_all_in, split_from, split_of, DividesInAnyOrder}
use Rattle.boxes.proofs.Counting.{indicator_and}
use Rattle.boxes.proofs.Narrowing.{meet_narrowed, same_span}
use Rattle.domain.proofs.Meeting.{meet_along, meet_decides}

-- the value of a cell along an attribute, and whether the cell lies in a box along the two others
abbrev at : Axis → Cell → ℕ
at Birth c = c.birth
at Service c = c.service
at Band c = c.band

abbrev beside : Axis → Bounds → Cell → Bool
beside Birth b c = within b.service c.service && within b.band c.band
beside Service b c = within b.birth c.birth && within b.band c.band
beside Band b c = within b.birth c.birth && within b.service c.service

second_first : (x y z : Bool) → (x && (y && z)) ≡ (y && (x && z))
second_first x y z = grind (arith, cases_Bool x, cases_Bool y, cases_Bool z)

third_first : (x y z : Bool) → (x && (y && z)) ≡ (z && (x && y))
third_first x y z = grind (arith, cases_Bool x, cases_Bool y, cases_Bool z)

with_holds : (a : Axis) (s : Span) (b : Bounds) (c : Cell) → holds (with_span a s b) c ≡ (within s (at a c) && beside a b c)
with_holds Birth s b c = refl
with_holds Service s b c = second_first (within b.birth c.birth) (within s c.service) (within b.band c.band)
with_holds Band s b c = third_first (within b.birth c.birth) (within b.service c.service) (within s c.band)

with_indicator : (a : Axis) (s : Span) (b : Bounds) (c : Cell) → indicator (holds (with_span a s b) c) ≡ indicator (within s (at a c)) * indicator (beside a b c)
with_indicator a s b c = ap indicator (with_holds a s b c) ∙ indicator_and (within s (at a c)) (beside a b c)

-- along one attribute: the lower remnant, the upper one and the narrowed range divide the range
abbrev within_some : Option Span → ℕ → ℕ
within_some None x = 0
within_some (Some s) x = indicator (within s x)

range_divides : (p b : Span) (x : ℕ) → shares p b ≡ true
    → within_some (lower_span p b) x + within_some (upper_span p b) x + indicator (within (narrow_span p b) x) ≡ indicator (within p x)
range_divides p b x e = grind (arith, nat_tests)

pub holders_append : (xs ys : List Bounds) (c : Cell) → holders (xs ++ ys) c ≡ holders xs c + holders ys c
holders_append [] ys c = sym (zero-add (holders ys c))
holders_append (x ∷ xs) ys c = omega (arith, holders_append xs ys c)

remnant_holders : (a : Axis) (p : Bounds) (o : Option Span) (c : Cell)
    → holders (option_to_list (option_map (λ s. with_span a s p) o)) c ≡ within_some o (at a c) * indicator (beside a p c)
remnant_holders a p None c = sym (zero-mul _)
remnant_holders a p (Some s) c = add-zero _ ∙ with_indicator a s p c

along_divides : (a : Axis) (p b : Bounds) (c : Cell) → shares (span_of a p) (span_of a b) ≡ true
    → holders (remnants_along a p b) c + indicator (holds (narrowed a p b) c) ≡ indicator (holds p c)
along_divides a p b c e =
    let s : Span = span_of a p in
    let t : Span = span_of a b in
    let k : ℕ = indicator (beside a p c) in
    let lower : ℕ = within_some (lower_span s t) (at a c) in
    let upper : ℕ = within_some (upper_span s t) (at a c) in
    let middle : ℕ = indicator (within (narrow_span s t) (at a c)) in
    omega (
      arith,
      holders_append (option_to_list (lower_of a p b)) (option_to_list (upper_of a p b)) c,
      remnant_holders a p (lower_span s t) c,
      remnant_holders a p (upper_span s t) c,
      with_indicator a (narrow_span s t) p c,
      ap (λ q. indicator (holds q c)) (same_span a p),
      with_indicator a s p c,
      ap (λ n. n * k) (range_divides s t (at a c) e),
      add-mul (lower + upper) middle k,
      add-mul lower upper k,
    )

-- a piece narrowed along one attribute after another
abbrev core : List Axis → Bounds → Bounds → Bounds
core [] p b = p
core (a ∷ order) p b = core order (narrowed a p b) b

-- the remnants and what they leave divide the piece
remnants_divide : (order : List Axis) (p b : Bounds) (c : Cell) → meet p b ≡ true
    → holders (remnants order p b) c + indicator (holds (core order p b) c) ≡ indicator (holds p c)
remnants_divide [] p b c e = zero-add _
remnants_divide (a ∷ order) p b c e =
    omega (
      arith,
      holders_append (remnants_along a p b) (remnants order (narrowed a p b) b) c,
      remnants_divide order (narrowed a p b) b c (meet_narrowed a p b ∙ e),
      along_divides a p b c (meet_along a p b e),
    )

-- narrowing along one attribute narrows the range of that one, and leaves the two others
range_narrowed : (a k : Axis) (p b : Bounds) → (span_of k (narrowed a p b) ≡ span_of k p) ⊎ (span_of k (narrowed a p b) ≡ narrow_span (span_of k p) (span_of k b))
range_narrowed Birth Birth p b = inr refl
range_narrowed Birth Service p b = inl refl
range_narrowed Birth Band p b = inl refl
range_narrowed Service Birth p b = inl refl
range_narrowed Service Service p b = inr refl
range_narrowed Service Band p b = inl refl
range_narrowed Band Birth p b = inl refl
range_narrowed Band Service p b = inl refl
range_narrowed Band Band p b = inr refl

own_range : (k : Axis) (p b : Bounds) → span_of k (narrowed k p b) ≡ narrow_span (span_of k p) (span_of k b)
own_range Birth p b = refl
own_range Service p b = refl
own_range Band p b = refl

-- the values that a range has in common with another one
abbrev both : Span → Span → ℕ → Bool
both s t x = within s x && within t x

both_narrow : (s t : Span) (x : ℕ) → both (narrow_span s t) t x ≡ both s t x
both_narrow s t x = grind (arith, nat_tests)

within_narrow : (s t : Span) (x : ℕ) → within (narrow_span s t) x ≡ both (narrow_span s t) t x
within_narrow s t x = grind (arith, nat_tests)

-- narrowing takes nothing that the two have in common
both_narrowed : (a k : Axis) (p b : Bounds) (x : ℕ) → both (span_of k (narrowed a p b)) (span_of k b) x ≡ both (span_of k p) (span_of k b) x
both_narrowed a k p b x = elim (range_narrowed a k p b) [
  | inl e ↦ ap (λ s. both s (span_of k b) x) e
  | inr e ↦ ap (λ s. both s (span_of k b) x) e ∙ both_narrow (span_of k p) (span_of k b) x
]

-- a range that lies inside the other one stays inside it
inside_stays : (a k : Axis) (p b : Bounds) → ((x : ℕ) → within (span_of k p) x ≡ both (span_of k p) (span_of k b) x)
    → (x : ℕ) → within (span_of k (narrowed a p b)) x ≡ both (span_of k (narrowed a p b)) (span_of k b) x
inside_stays a k p b h x = elim (range_narrowed a k p b) [
  | inl e ↦ subst (λ s. within s x ≡ both s (span_of k b) x) (sym e) (h x)
  | inr e ↦ subst (λ s. within s x ≡ both s (span_of k b) x) (sym e) (within_narrow (span_of k p) (span_of k b) x)
]

core_inside : (order : List Axis) (k : Axis) (p b : Bounds) → ((x : ℕ) → within (span_of k p) x ≡ both (span_of k p) (span_of k b) x)
    → (x : ℕ) → within (span_of k (core order p b)) x ≡ both (span_of k p) (span_of k b) x
core_inside [] k p b h x = h x
core_inside (a ∷ order) k p b h x = core_inside order k (narrowed a p b) b (inside_stays a k p b h) x ∙ both_narrowed a k p b x

-- an attribute that has its turn is narrowed to what the two have in common
core_within : (order : List Axis) (k : Axis) → Contains order k → (p b : Bounds) (x : ℕ) → within (span_of k (core order p b)) x ≡ both (span_of k p) (span_of k b) x
core_within [] k (i, h, is) p b x = absurd (not-suc-le-zero h)
core_within (a ∷ order) k (zero, h, is) p b x =
    ap (λ o. within (span_of k (core order (narrowed o p b) b)) x) is
    ∙ (core_inside order k (narrowed k p b) b (λ y. subst (λ s. within s y ≡ both s (span_of k b) y) (sym (own_range k p b)) (within_narrow (span_of k p) (span_of k b) y)) x
    ∙ both_narrowed k k p b x)
core_within (a ∷ order) k (suc i, h, is) p b x = core_within order k (i, le_of_suc-le-suc h, is) (narrowed a p b) b x ∙ both_narrowed a k p b x

regrouped : (x y z u v w : Bool) → ((x && u) && ((y && v) && (z && w))) ≡ ((x && (y && z)) && (u && (v && w)))
regrouped x y z u v w = grind (arith, cases_Bool x, cases_Bool y, cases_Bool z, cases_Bool u, cases_Bool v, cases_Bool w)

-- what the remnants leave is what the piece and the box share
core_holds : (order : List Axis) → Complete order → (p b : Bounds) (c : Cell) → holds (core order p b) c ≡ (holds p c && holds b c)
core_holds order all p b c =
    let q : Bounds = core order p b in
    let x : within q.birth c.birth ≡ both p.birth b.birth c.birth = core_within order Birth (all Birth) p b c.birth in
    let y : within q.service c.service ≡ both p.service b.service c.service = core_within order Service (all Service) p b c.service in
    let z : within q.band c.band ≡ both p.band b.band c.band = core_within order Band (all Band) p b c.band in
    ap (λ t. t && (within q.service c.service && within q.band c.band)) x
    ∙ (ap (λ t. both p.birth b.birth c.birth && (t && within q.band c.band)) y
    ∙ (ap (λ t. both p.birth b.birth c.birth && (both p.service b.service c.service && t)) z
    ∙ regrouped (within p.birth c.birth) (within p.service c.service) (within p.band c.band)
    (within b.birth c.birth) (within b.service c.service) (within b.band c.band)))

without : (x y : Bool) (n : ℕ) → n + indicator (x && y) ≡ indicator x → n ≡ indicator (x && not y)
without true true n e = omega arith
without true false n e = omega arith
without false y n e = omega arith

apart : (x y : Bool) → (x ≡ true → y ≡ true → ⊥) → indicator x ≡ indicator (x && not y)
apart true true h = absurd (h refl refl)
apart true false h = refl
apart false y h = refl

-- a cut leaves each cell of the piece outside the box once, and no other cell
cut_divides : (order : List Axis) → Complete order → (p b : Bounds) (c : Cell) → holders (cut_in order p b) c ≡ indicator (holds p c && not (holds b c))
cut_divides order all p b c = elim (cases_Bool (meet p b)) [
  | inl e ↦ ap (λ bs. holders bs c) (cond-true (meet p b) (remnants order p b) (p ∷ []) e)
      ∙ without (holds p c) (holds b c) (holders (remnants order p b) c)
      (ap (λ t. holders (remnants order p b) c + indicator t) (sym (core_holds order all p b c)) ∙ remnants_divide order p b c e)
  | inr e ↦ ap (λ bs. holders bs c) (cond-false (meet p b) (remnants order p b) (p ∷ []) e)
      ∙ (add-zero _ ∙ apart (holds p c) (holds b c) (λ x y. true≢false (sym ((meet_decides p b).1 (c, x, y)) ∙ e)))
]

taken_off : (x y : Bool) (m n : ℕ) → m ≡ indicator (x && not y) → m + cond y 0 n ≡ cond y 0 (indicator x + n)
taken_off true true m n e = omega arith
taken_off true false m n e = omega arith
taken_off false true m n e = omega arith
taken_off false false m n e = omega arith

-- a region takes its cells from the pieces
all_divide : (order : List Axis) → Complete order → (ps : List Bounds) (r : Bounds) (c : Cell) → holders (cut_all_in order ps r) c ≡ cond (holds r c) 0 (holders ps c)
all_divide order all [] r c = elim (holds r c) as (λ t. ◌≡◌ {A = ℕ} 0 (cond t 0 0)) [ true ↦ refl | false ↦ refl ]
all_divide order all (p ∷ ps) r c =
    holders_append (cut_in order p r) (cut_all_in order ps r) c
    ∙ (ap (λ n. holders (cut_in order p r) c + n) (all_divide order all ps r c)
    ∙ taken_off (holds p c) (holds r c) (holders (cut_in order p r) c) (holders ps c) (cut_divides order all p r c))

one_or_other : (x y : Bool) (n : ℕ) → cond y 0 (cond x 0 n) ≡ cond (x || y) 0 n
one_or_other true true n = refl
one_or_other true false n = refl
one_or_other false y n = refl

-- one region further; or there were too many pieces, and the split is broken
pub split_next : (order : List Axis) (ps rs qs : List Bounds) (r : Bounds) → split_from order ps (r ∷ rs) ≡ Some qs → split_from order (cut_all_in order ps r) rs ≡ Some qs
split_next order ps rs qs r e = grind (arith, cases_Bool (leb (length (cut_all_in order ps r)) 32))

split_from_divides : (order : List Axis) → Complete order → (ps rs qs : List Bounds) (c : Cell) → split_from order ps rs ≡ Some qs
    → holders qs c ≡ cond (covered rs c) 0 (holders ps c)
split_from_divides order all ps [] qs c e = let same : ps ≡ qs = cc in ap (λ bs. holders bs c) (sym same)
split_from_divides order all ps (r ∷ rs) qs c e =
    split_from_divides order all (cut_all_in order ps r) rs qs c (split_next order ps rs qs r e)
    ∙ (ap (λ n. cond (covered rs c) 0 n) (all_divide order all ps r c) ∙ one_or_other (holds r c) (covered rs c) (holders ps c))

of_one : (x y : Bool) → cond y 0 (indicator x + 0) ≡ indicator (x && not y)
of_one true true = refl
of_one true false = refl
of_one false true = refl
of_one false false = refl

pub split_divides_in_any_order : DividesInAnyOrder
split_divides_in_any_order order all q rs ps e c = split_from_divides order all (q ∷ []) rs ps c e ∙ of_one (holds q c) (covered rs c)

pub cut_order_complete : Complete cut_order
cut_order_complete Birth = (0, omega arith, refl)
cut_order_complete Service = (1, omega arith, refl)
cut_order_complete Band = (2, omega arith, refl)

-- the remainder boxes of a question divide its missing cells
pub split_divides : (q : Bounds) (rs ps : List Bounds) → split_of q rs ≡ Some ps → Divides ps (missing q rs)
split_divides q rs ps e = split_divides_in_any_order cut_order cut_order_complete q rs ps e

-- so does a cut: it is a split by one region
pub cut_divides_missing : (p b : Bounds) → Divides (cut_of p b) (missing p (b ∷ []))
cut_divides_missing p b c = cut_divides cut_order cut_order_complete p b c ∙ ap (λ y. indicator (holds p c && not y)) (sym (or-false (holds b c)))
