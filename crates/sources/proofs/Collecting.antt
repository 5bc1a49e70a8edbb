-- What makes a collection: one test after another, and in plain words.
use Rattle.std.proofs.Common.{◌≡◌, ℕ, ◌<◌, true, List, [], ◌∷◌, All, Decides, refl, ap, arith}
use Rattle.std.proofs.lemmas.Bool.{cond_both}
use Rattle.std.proofs.lemmas.Bool.Decides.{nat_tests}
use Rattle.std.proofs.lemmas.List.Elements.{All-nil, All-cons, All-head, All-tail, All-weaker}
use Rattle.std.proofs.lemmas.List.Kept.{AllPairs-cons, AllPairs-filter}
use Rattle.domain.specs.declared.attributes.Bounds.{Bounds}
use Rattle.sources.proofs.Members.{pairs_head, pairs_none, pairs_tail}
use Rattle.sources.specs.declared.record.Record.{Record}
use Rattle.sources.specs.Collections.{Collection, Rising, collection_of, follow_on, is_collection}
use Rattle.sources.specs.Records.{LawfulRecord, inside}
use Rattle.sources.specs.Selections.{LawfulRelation, selection}

-- the number of the record is above n
abbrev Above : ℕ → Record → Type 0
Above n r = n < r.number

-- the number of the one is below that of the other
abbrev Below : Record → Record → Type 0
Below r s = r.number < s.number

-- the tests that the first record passes
first : (n : ℕ) (r : Record) (rs : List Record) → follow_on n (r ∷ rs) ≡ true → (n < r.number) × LawfulRecord r × (follow_on r.number rs ≡ true)
first n r rs e = (grind (arith, nat_tests), (grind (arith, nat_tests), grind (arith, nat_tests)), grind (arith, nat_tests))

above : (n : ℕ) (rs : List Record) → follow_on n rs ≡ true → All (Above n) rs
above n [] e = All-nil (Above n)
above n (r ∷ rs) e =
    let p = first n r rs e in
    All-cons (Above n) r rs p.0 (All-weaker (Above r.number) (Above n) (λ s h. omega (arith, p.0)) rs (above r.number rs p.2))

rising : (n : ℕ) (rs : List Record) → follow_on n rs ≡ true → Rising rs
rising n [] e = pairs_none Below
rising n (r ∷ rs) e = let p = first n r rs e in AllPairs-cons Below r rs (above r.number rs p.2) (rising r.number rs p.2)

lawful_members : (n : ℕ) (rs : List Record) → follow_on n rs ≡ true → All LawfulRecord rs
lawful_members n [] e = All-nil LawfulRecord
lawful_members n (r ∷ rs) e = let p = first n r rs e in All-cons LawfulRecord r rs p.1 (lawful_members r.number rs p.2)

collection_from_test : (rs : List Record) → is_collection rs ≡ true → Collection rs
collection_from_test rs e = record { few = grind (arith, nat_tests); rises = rising 0 rs (grind (arith, nat_tests)); members = lawful_members 0 rs (grind (arith, nat_tests)) }

-- and the other way round: records that rise pass one test after another
following : (n : ℕ) (rs : List Record) → All (Above n) rs → Rising rs → All LawfulRecord rs → follow_on n rs ≡ true
following n [] low up members = refl
following n (r ∷ rs) low up members =
    let here = All-head (Above n) r rs low in
    let member = All-head LawfulRecord r rs members in
    let rest = following r.number rs (pairs_head Below r rs up) (pairs_tail Below r rs up) (All-tail LawfulRecord r rs members) in
    grind (arith, nat_tests)

test_from_collection : (rs : List Record) → Collection rs → is_collection rs ≡ true
test_from_collection rs c =
    let all = following 0 rs (All-weaker LawfulRecord (Above 0) (λ r h. h.0) rs c.members) c.rises c.members in
    grind (arith, nat_tests)

pub collection_decides : (rs : List Record) → Decides (is_collection rs) (Collection rs)
collection_decides rs = (collection_from_test rs, test_from_collection rs)

-- a source may have the records of a collection
pub collection_lawful : (rs : List Record) → is_collection rs ≡ true → LawfulRelation rs
collection_lawful rs e =
    let c = collection_from_test rs e in
    record { distinct = λ i j d h k same. omega (arith, ap (λ (r : Record). r.number) same, c.rises i j d h k); members = c.members }

-- what lies in a box of them rises too
pub selection_rises : (b : Bounds) (rs : List Record) → is_collection rs ≡ true → Rising (selection b rs)
unfolding selection
selection_rises b rs e = AllPairs-filter Below (inside b) rs (collection_from_test rs e).rises

-- so the records of a collection, or none, are lawful
pub collection_of_lawful : (rs : List Record) → LawfulRelation (collection_of rs)
collection_of_lawful rs = cond_both (is_collection rs) rs [] LawfulRelation (collection_lawful rs) (λ _. collection_lawful [] refl)
