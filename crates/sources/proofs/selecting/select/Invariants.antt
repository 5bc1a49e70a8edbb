use Rattle.std.proofs.Common.{take}
use Rattle.sources.proofs.Filling.{Filled}
use Rattle.sources.specs.Selections.{selection}
use Rattle.sources.proofs.selecting.select.Given as goal

abbrev pub invariant-loop-record : goal.invariant-loop-record
invariant-loop-record l = Filled (selection l.area.bounds (take l.record-index l.records)) l.initial.out l.out l.count
