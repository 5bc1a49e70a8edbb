-- Collections: the lists of records that can be kept and handed on.
use Rattle.std.specs.Prelude.{ℕ, ◌<◌, ◌≤◌, Bool, true, if◌then◌else◌, ◌&&◌, List, [], ◌∷◌, length, nat_le, nat_lt, All, AllPairs}
use Rattle.sources.specs.declared.record.Record.{Record}
use Rattle.sources.specs.Records.{LawfulRecord, is_lawful_record}

-- the most records of a collection
abbrev pub max_records : ℕ
max_records = 2048

-- the numbers of the records rise strictly
abbrev pub Rising : List Record → Type 0
Rising rs = AllPairs (λ r s. r.number < s.number) rs

-- COLLECTION: the records make one
pub record Collection (rs : List Record) : Type 0 where
  pub few : length rs ≤ max_records
  pub rises : Rising rs
  -- every number is at least 1, and every attribute in its span
  pub members : All LawfulRecord rs

-- the record may come after one that has this number
abbrev pub may_follow : ℕ → Record → Bool
may_follow last r = nat_lt last r.number && is_lawful_record r

-- each record may come after the one before it, and the first after the number
abbrev pub follow_on : ℕ → List Record → Bool
follow_on last [] = true
follow_on last (r ∷ rs) = may_follow last r && follow_on r.number rs

-- the test of `Collection`
abbrev pub is_collection : List Record → Bool
is_collection rs = nat_le (length rs) max_records && follow_on 0 rs

-- the records, if they make a collection; otherwise none
abbrev pub collection_of : List Record → List Record
collection_of rs = if is_collection rs then rs else []
