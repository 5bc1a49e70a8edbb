-- Which items stand in a list, and what holds of every two of them: over any type.
use Rattle.std.proofs.Common.{◌≡◌, ◌<◌, zero, suc, Bool, true, ◌⊎◌, List, [], ◌∷◌, length, All, AllPairs, Contains, filter, refl, inl, inr, suc-le-suc, le_of_suc-le-suc, not-suc-le-zero, arith}
use Rattle.std.proofs.lemmas.List.Elements.{All-contains, All-contains_itself, All-filter, filter_passes}

module _ {X : Type 0} where
  -- an item stands first, or later
  pub has_first : (x : X) (xs : List X) → Contains (x ∷ xs) x
  has_first x xs = (0, omega arith, refl)

  pub has_cases : (x y : X) (xs : List X) → Contains (x ∷ xs) y → (x ≡ y) ⊎ Contains xs y
  has_cases x y xs (zero, h, at) = inl at
  has_cases x y xs (suc k, h, at) = inr (k, le_of_suc-le-suc h, at)

  -- some item stands in a list that is not empty
  pub has_some : (xs : List X) → 0 < length xs → (x : X) × Contains xs x
  has_some [] h = absurd (not-suc-le-zero h)
  has_some (x ∷ xs) h = (x, has_first x xs)

  -- what a filter keeps
  pub kept_has : (p : X → Bool) (xs : List X) (x : X) → Contains (filter p xs) x → Contains xs x × (p x ≡ true)
  kept_has p xs x h = (
    All-contains (Contains xs) (filter p xs) x (All-filter p (Contains xs) xs (All-contains_itself xs)) h,
    All-contains (λ y. p y ≡ true) (filter p xs) x (filter_passes p xs) h,
  )

  -- what holds of every two items holds of the first and each later one, and of every two later ones
  module _ (R : X → X → Type 0) where
    pub pairs_head : (x : X) (xs : List X) → AllPairs R (x ∷ xs) → All (R x) xs
    pairs_head x xs all k d h = all 0 (suc k) d (omega arith) (suc-le-suc h)

    pub pairs_tail : (x : X) (xs : List X) → AllPairs R (x ∷ xs) → AllPairs R xs
    pairs_tail x xs all i j d h k = all (suc i) (suc j) d (suc-le-suc h) (suc-le-suc k)

    pub pairs_none : AllPairs R []
    pairs_none i j d h k = absurd (not-suc-le-zero k)
