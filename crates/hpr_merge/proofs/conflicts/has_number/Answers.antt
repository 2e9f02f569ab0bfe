use Rattle.std.proofs.Common.{◌≡◌}
use Rattle.std.specs.Result.{is_ok}
use Rattle.hpr_merge.proofs.Searches.{number_found}
use Rattle.hpr_merge.proofs.conflicts.has_number.Goals as goal

pub returns : goal.returns
returns c =
    let found : c.is_ok.result ≡ is_ok c.binary_search.result = c.is_ok.ensures.value in
    rw found (number_found c.args.numbers.now c.args.number c.binary_search.result c.requires c.binary_search.ensures.bound c.binary_search.ensures.position)
