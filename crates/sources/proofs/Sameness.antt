-- Lists that have the same records.
use Rattle.std.proofs.Common.{◌≡◌, ℕ, ◌+◌, ◌*◌, ◌<◌, ◌≤◌, Bool, true, cond, ◌&&◌, eqb, ◌≢◌, ◌↔◌, List, [], ◌∷◌, ◌++◌, length, Contains, Decides, sum_by, count_by, filter, sym, refl, ap, ◌∙◌, mul-add, arith}
use Rattle.std.proofs.lemmas.List.Elements.{All-contains}
use Rattle.std.proofs.lemmas.List.Kept.{AllPairs-filter}
use Rattle.std.proofs.lemmas.List.Sums.{sum_by-append, sum_by-cons, sum_by-le}
use Rattle.std.proofs.lemmas.Bool.{cases_Bool, and_from}
use Rattle.std.proofs.lemmas.Bool.Decides.{nat_tests}
use Rattle.std.specs.List.{flat_map}
use Rattle.domain.specs.declared.attributes.Bounds.{Bounds}
use Rattle.domain.specs.declared.attributes.Cell.{Cell}
use Rattle.domain.specs.Cells.{Divides, holders, indicator}
use Rattle.sources.proofs.Counts.{count_from_has, count_kept, counts_distinct, counts_same, distinct_counts, has_counts, has_from_count, mark, sum_by_both, sum_by_same}
use Rattle.sources.proofs.Members.{kept_has}
use Rattle.sources.specs.declared.record.Record.{Record}
use Rattle.sources.specs.Pairs.{Distinct}
use Rattle.sources.specs.Records.{LawfulRecord, blank, cell_of, inside}
use Rattle.sources.specs.Selections.{LawfulRelation, SameRecords, Selected, SelectionLaws, selection}

pub same_refl : (xs : List Record) → SameRecords xs xs
unfolding SameRecords
same_refl xs test = refl

pub same_sym : (xs ys : List Record) → SameRecords xs ys → SameRecords ys xs
unfolding SameRecords
same_sym xs ys a test = sym (a test)

pub same_trans : (xs ys zs : List Record) → SameRecords xs ys → SameRecords ys zs → SameRecords xs zs
unfolding SameRecords
same_trans xs ys zs a b test = a test ∙ b test

pub same_append : (xs ys zs ws : List Record) → SameRecords xs ys → SameRecords zs ws → SameRecords (xs ++ zs) (ys ++ ws)
unfolding SameRecords
same_append xs ys zs ws a b test = omega (arith, sum_by-append (mark test) xs zs, sum_by-append (mark test) ys ws, a test, b test)

-- what one test keeps of both
pub same_kept : (p : Record → Bool) (xs ys : List Record) → SameRecords xs ys → SameRecords (filter p xs) (filter p ys)
unfolding SameRecords
same_kept p xs ys a test = count_kept p test xs ∙ (a (λ x. p x && test x) ∙ sym (count_kept p test ys))

-- and so what lies in one box
pub same_selection : (b : Bounds) (xs ys : List Record) → SameRecords xs ys → SameRecords (selection b xs) (selection b ys)
unfolding selection
same_selection b xs ys a = same_kept (inside b) xs ys a

pub same_length : (xs ys : List Record) → SameRecords xs ys → length xs ≡ length ys
unfolding SameRecords
same_length xs ys a = sym (count_all xs) ∙ (a (λ x. true) ∙ count_all ys)
  where
    count_all : (zs : List Record) → count_by (λ x. true) zs ≡ length zs
    count_all [] = refl
    count_all (z ∷ zs) = omega (arith, sum_by-cons (mark {X = Record} (λ x. true)) z zs, count_all zs)

-- a test of two records for equality: field by field
fields : Record → Record → Bool
fields x y =
    eqb x.number y.number
    && (eqb x.birth y.birth && (eqb x.service y.service && (eqb x.band y.band && eqb x.pension y.pension)))

fields_decide : (x y : Record) → Decides (fields x y) (x ≡ y)
unfolding fields
fields_decide x y = (λ e. grind (arith, nat_tests), λ e. grind (arith, nat_tests))

-- so what is counted stands in a list, what stands there is counted, and what stands there once is counted once
stands : (rs : List Record) (r : Record) → 0 < count_by (fields r) rs → Contains rs r
stands rs r h = has_from_count fields fields_decide rs r h

counted : (rs : List Record) (r : Record) → Contains rs r → 0 < count_by (fields r) rs
counted rs r h = count_from_has fields fields_decide rs r h

counted_once : (rs : List Record) → Distinct rs → (r : Record) → count_by (fields r) rs ≤ 1
counted_once rs apart r = distinct_counts fields fields_decide rs apart r

-- a record stands in a selection exactly if it is in the list and in the box
selection_has : (b : Bounds) (rs : List Record) (r : Record) → Contains (selection b rs) r ↔ (Contains rs r × (inside b r ≡ true))
unfolding selection
selection_has b rs r = (
  kept_has (inside b) rs r,
  λ (h, e). stands (selection b rs) r (omega (
    arith,
    count_kept (inside b) (fields r) rs,
    has_counts (λ x. inside b x && fields r x) rs r h (and_from _ _ e ((fields_decide r r).1 refl)),
  )),
)

selection_distinct : (b : Bounds) (rs : List Record) → Distinct rs → Distinct (selection b rs)
unfolding selection
selection_distinct b rs apart = AllPairs-filter (λ x y. x ≢ y) (inside b) rs apart

-- two numbers up to 1 that are above 0 together
zero_or_one : (m n : ℕ) → m ≤ 1 → n ≤ 1 → (0 < m → 0 < n) → (0 < n → 0 < m) → m ≡ n
zero_or_one m n a b to from = grind arith

module _ (b : Bounds) (relation answer : List Record) (l : LawfulRelation relation) where
  selected_from_same : SameRecords answer (selection b relation) → Selected b relation answer
  unfolding SameRecords
  selected_from_same same =
      let found = selection b relation in
      record {
        exactly = λ r. (
          λ h. (selection_has b relation r).0 (stands found r (omega (arith, same (fields r), counted answer r h))),
          λ h. stands answer r (omega (arith, same (fields r), counted found r ((selection_has b relation r).1 h))),
        );
        once = counts_distinct fields fields_decide answer (λ r. omega (arith, same (fields r), counted_once found (selection_distinct b relation l.distinct) r));
      }

  same_from_selected : Selected b relation answer → SameRecords answer (selection b relation)
  unfolding SameRecords
  same_from_selected s =
      let found = selection b relation in
      counts_same fields fields_decide answer found
      (λ r.
      zero_or_one _ _
      (counted_once answer s.once r)
      (counted_once found (selection_distinct b relation l.distinct) r)
      (λ h. counted found r ((selection_has b relation r).1 ((s.exactly r).0 (stands answer r h))))
      (λ h. counted answer r ((s.exactly r).1 ((selection_has b relation r).0 (stands found r h)))))

-- what passes a test of what another test keeps, as a sum over the whole list
both_marks : (s t : Bool) → cond (s && t) 1 0 ≡ cond t 1 0 * indicator s
both_marks s t = grind (arith, cases_Bool s, cases_Bool t)

kept_sum : (p q : Record → Bool) (rs : List Record) → count_by p (filter q rs) ≡ sum_by (λ r. mark p r * indicator (q r)) rs
kept_sum p q rs = count_kept q p rs ∙ sum_by_same (mark (λ r. q r && p r)) (λ r. mark p r * indicator (q r)) (λ r. both_marks (q r) (p r)) rs

-- what passes a test of the selections by some boxes: each record as often as boxes hold its cell
joined_sum : (p : Record → Bool) (bs : List Bounds) (rs : List Record) → count_by p (flat_map (λ b. selection b rs) bs) ≡ sum_by (λ r. mark p r * holders bs (cell_of r)) rs
unfolding selection
joined_sum p [] rs = omega (arith, sum_by-le (λ r. mark p r * 0) 0 rs (λ k d h. omega arith))
joined_sum p (b ∷ bs) rs =
    let first : Record → ℕ = λ r. mark p r * indicator (inside b r) in
    let later : Record → ℕ = λ r. mark p r * holders bs (cell_of r) in
    let whole : Record → ℕ = λ r. mark p r * holders (b ∷ bs) (cell_of r) in
    omega (
      arith,
      sum_by-append (mark p) (selection b rs) (flat_map (λ c. selection c rs) bs),
      kept_sum p (inside b) rs,
      joined_sum p bs rs,
      sum_by_same whole (λ r. first r + later r) (λ r. mul-add (mark p r) (indicator (inside b r)) (holders bs (cell_of r))) rs,
      sum_by_both first later rs,
    )

-- so boxes that divide cells divide records
pub selections_divide : (bs : List Bounds) (test : Cell → Bool) (rs : List Record) → Divides bs test → SameRecords (flat_map (λ b. selection b rs) bs) (filter (λ r. test (cell_of r)) rs)
unfolding SameRecords
selections_divide bs test rs divides p =
    let held : Record → ℕ = λ r. mark p r * holders bs (cell_of r) in
    let passed : Record → ℕ = λ r. mark p r * indicator (test (cell_of r)) in
    joined_sum p bs rs
    ∙ (sum_by_same held passed (λ r. ap (λ n. mark p r * n) (divides (cell_of r))) rs ∙ sym (kept_sum p (λ r. test (cell_of r)) rs))

pub selection_laws : SelectionLaws
selection_laws = record {
  each_once = λ b relation answer l. (selected_from_same b relation answer l, same_from_selected b relation answer l);
  divided = selections_divide;
  counted = same_length;
  appended = same_append;
  filtered = same_kept;
  never_blank = λ relation l h. omega (arith, (All-contains LawfulRecord relation blank l.members h).0);
}
