use Rattle.std.proofs.Common.{◌≡◌, sym, ◌∙◌, arith}
use Rattle.std.proofs.lemmas.Bool.Decides.{Decides-at, nat_tests}
use Rattle.sources.proofs.Collecting.{collection_decides, collection_lawful}
use Rattle.sources.specs.Collections.{is_collection}
use Rattle.sources.proofs.collections.is_collection.Goals as goal

pub returns-then-records-le-MAX_RECORDS : goal.returns-then-records-le-MAX_RECORDS
returns-then-records-le-MAX_RECORDS c =
    let rs = c.args.records.now in
    let is : c.follow_on.result ≡ is_collection rs = grind (arith, nat_tests) in
    record { value = is; cases = Decides-at _ _ is (collection_decides rs); lawful = λ e. collection_lawful rs (sym is ∙ e) }
