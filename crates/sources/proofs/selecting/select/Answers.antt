use Rattle.std.proofs.Common.{ℕ, ◌<◌, List, length, get_or, sym, refl, subst, ◌∙◌, zero-le, arith}
use Rattle.std.proofs.lemmas.List.{take_all}
use Rattle.sources.proofs.Filling.{Filled, filled_all, filled_more, overfull, selection_longer, selection_no, selection_yes}
use Rattle.sources.proofs.Sameness.{selection_laws}
use Rattle.sources.specs.declared.record.Record.{Record}
use Rattle.sources.specs.Records.{blank}
use Rattle.sources.specs.Selections.{selection}
use Rattle.sources.proofs.selecting.select.Goals as goal
use Rattle.sources.proofs.selecting.select.Goals.{else-lies_in, then-lies_in+else-count-out}

pub loop-record-init : goal.loop-record-init
unfolding selection
loop-record-init c = record { counted = refl; fits = zero-le; places = refl }

pub returns-then-count-out : goal.returns-then-count-out
returns-then-count-out c =
    let longer = selection_longer c.args.area.bounds c.args.records.now c.loop-record.record-index blank c.loop-record-test.true (sym c.if-lies_in.ensures.value) in
    let over = overfull (selection c.args.area.bounds c.args.records.now) c.args.out.now _ c.loop-record.auto.out (omega (arith, longer)) in
    record { value = over.0; after = c.blank_all.ensures.after ∙ over.1; selection_laws = selection_laws }

pub loop-record-preserved : goal.loop-record-preserved
loop-record-preserved c =
    let b = c.args.area.bounds in
    let rs : List Record = c.args.records.now in
    let i : ℕ = c.loop-record.record-index in
    let here : i < length rs = c.loop-record-test.true in
    elim c.if-lies_in.branch [
      | then-lies_in+else-count-out w ↦
          let room : c.loop-record.count < length c.args.out.now = omega (arith, w.if-count-out.false) in
          simp (w.out-is, w.count-is, selection_yes b rs i blank here (sym w.if-lies_in.ensures.value)) (filled_more (get_or rs i blank) c.loop-record.invariant room)
      | else-lies_in w ↦
          simp (w.out-is, w.count-is, selection_no b rs i blank here (sym w.if-lies_in.ensures.value)) c.loop-record.invariant
    ]

pub returns : goal.returns
returns c =
    let all = take_all c.loop-record.record-index c.args.records.now c.loop-record-test.false in
    let whole = subst (λ rs. Filled (selection c.args.area.bounds rs) c.args.out.now c.loop-record.out c.loop-record.count) all c.loop-record.invariant in
    let found = filled_all whole refl in
    record { value = found.0; after = found.1; selection_laws = selection_laws }
