-- How many items of a list pass a test, and which items stand in it: over any type.
use Rattle.std.proofs.Common.{◌≡◌, ℕ, ◌+◌, ◌<◌, ◌≤◌, Bool, true, cond, ◌&&◌, ◌≢◌, List, [], ◌∷◌, Contains, Decides, sum_by, count_by, filter, sym, refl, ap, ◌∙◌, subst, inl, inr, arith}
use Rattle.std.proofs.lemmas.List.Elements.{All-contains, Contains-get_or}
use Rattle.std.proofs.lemmas.List.Kept.{AllPairs-cons}
use Rattle.std.proofs.lemmas.List.Sums.{get_or-le-sum_by, length-filter, sum_by-cons, sum_by-le-sum_by, sum_by-remove}
use Rattle.std.proofs.lemmas.Bool.{cases_Bool}
use Rattle.std.specs.List.{remove}
use Rattle.sources.proofs.Members.{has_first, has_some, kept_has, pairs_head, pairs_none, pairs_tail}
use Rattle.sources.specs.Pairs.{Distinct}

-- 1 for an item that passes the test, 0 for one that does not
abbrev pub mark : {X : Type 0} → (X → Bool) → X → ℕ
mark p x = cond (p x) 1 0

module _ {X : Type 0} where
  -- the sum over a list of sums
  pub sum_by_both : (f g : X → ℕ) (xs : List X) → sum_by (λ x. f x + g x) xs ≡ sum_by f xs + sum_by g xs
  sum_by_both f g [] = refl
  sum_by_both f g (x ∷ xs) =
      omega (arith, sum_by-cons (λ y. f y + g y) x xs, sum_by-cons f x xs, sum_by-cons g x xs, sum_by_both f g xs)

  pub sum_by_same : (f g : X → ℕ) → ((x : X) → f x ≡ g x) → (xs : List X) → sum_by f xs ≡ sum_by g xs
  sum_by_same f g e xs = omega (arith, sum_by-le-sum_by f g xs (λ x. omega (arith, e x)), sum_by-le-sum_by g f xs (λ x. omega (arith, e x)))

  -- what passes p of what passes q
  pub count_kept : (q p : X → Bool) (xs : List X) → count_by p (filter q xs) ≡ count_by (λ x. q x && p x) xs
  count_kept q p [] = refl
  count_kept q p (x ∷ xs) =
      grind (arith, cases_Bool (q x), sum_by-cons (mark p) x (filter q xs), count_kept q p xs, sum_by-cons (mark (λ y. q y && p y)) x xs)

  -- what stands in a list and passes is counted, and what is counted stands there and passes
  pub has_counts : (p : X → Bool) (xs : List X) (x : X) → Contains xs x → p x ≡ true → 0 < count_by p xs
  has_counts p xs x (k, h, at) e = grind (arith, get_or-le-sum_by (mark p) xs k x h)

  pub counts_has : (p : X → Bool) (xs : List X) → 0 < count_by p xs → (x : X) × Contains xs x × (p x ≡ true)
  counts_has p xs h =
      let found = has_some (filter p xs) (omega (arith, length-filter p xs)) in
      let kept = kept_has p xs found.0 found.1 in
      (found.0, kept.0, kept.1)

-- over a type whose equality a test decides
module _ {X : Type 0} (same : X → X → Bool) (decides : (x y : X) → Decides (same x y) (x ≡ y)) where
  pub has_from_count : (xs : List X) (x : X) → 0 < count_by (same x) xs → Contains xs x
  has_from_count xs x h =
      let found = counts_has (same x) xs h in
      subst (Contains xs) (sym ((decides x found.0).0 found.2)) found.1

  pub count_from_has : (xs : List X) (x : X) → Contains xs x → 0 < count_by (same x) xs
  count_from_has xs x h = has_counts (same x) xs x h ((decides x x).1 refl)

  -- no item stands twice exactly if none is counted twice
  pub distinct_counts : (xs : List X) → Distinct xs → (x : X) → count_by (same x) xs ≤ 1
  distinct_counts [] apart x = omega arith
  distinct_counts (y ∷ ys) apart x =
      let whole = sum_by-cons (mark (same x)) y ys in
      elim (cases_Bool (same x y)) [
        | inl e ↦
            let again : 0 < count_by (same x) ys → ⊥ = λ h. All-contains (λ z. y ≢ z) ys x (pairs_head (λ a b. a ≢ b) y ys apart) (has_from_count ys x h) (sym ((decides x y).0 e)) in
            grind (arith, whole, again)
        | inr e ↦ grind (arith, whole, distinct_counts ys (pairs_tail (λ a b. a ≢ b) y ys apart) x)
      ]

  pub counts_distinct : (xs : List X) → ((x : X) → count_by (same x) xs ≤ 1) → Distinct xs
  counts_distinct [] few = pairs_none (λ a b. a ≢ b)
  counts_distinct (y ∷ ys) few =
      AllPairs-cons (λ a b. a ≢ b) y ys
      (λ k d h e. grind (arith, few y, sum_by-cons (mark (same y)) y ys, (decides y y).1 refl, count_from_has ys y (subst (Contains ys) (sym e) (Contains-get_or ys k d h))))
      (counts_distinct ys (λ x. omega (arith, few x, sum_by-cons (mark (same x)) y ys)))

  -- lists that have each item as often pass every test as often
  pub counts_same : (xs ys : List X) → ((x : X) → count_by (same x) xs ≡ count_by (same x) ys) → (p : X → Bool) → count_by p xs ≡ count_by p ys
  counts_same [] [] e p = refl
  counts_same [] (y ∷ ys) e p = absurd (omega (arith, e y, count_from_has (y ∷ ys) y (has_first y ys)))
  counts_same (x ∷ xs) ys e p =
      let (k, h, at) = has_from_count ys x (omega (arith, e x, count_from_has (x ∷ xs) x (has_first x xs))) in
      let rest : List X = remove ys k in
      let out : (q : X → Bool) → count_by q ys ≡ count_by q rest + mark q x = λ q. sym (sum_by-remove (mark q) ys k x h) ∙ ap (λ y. count_by q rest + mark q y) at in
      let same_rest = counts_same xs rest (λ z. omega (arith, e z, out (same z), sum_by-cons (mark (same z)) x xs)) p in
      omega (arith, sum_by-cons (mark p) x xs, out p, same_rest)
