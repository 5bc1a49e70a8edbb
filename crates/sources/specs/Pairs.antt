-- Lists in which no item stands twice.
use Rattle.std.specs.Prelude.{◌≢◌, List, AllPairs}

-- no item stands twice
abbrev pub Distinct : {X : Type 0} → List X → Type 0
Distinct xs = AllPairs (λ x y. x ≢ y) xs
