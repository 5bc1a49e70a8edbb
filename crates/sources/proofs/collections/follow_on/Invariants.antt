use Rattle.std.proofs.Common.{◌≡◌, drop}
use Rattle.sources.specs.Collections.{follow_on}
use Rattle.sources.proofs.collections.follow_on.Given as goal

abbrev pub invariant-loop-record : goal.invariant-loop-record
invariant-loop-record l = follow_on l.last (drop l.record-index l.records) ≡ follow_on 0 l.records
