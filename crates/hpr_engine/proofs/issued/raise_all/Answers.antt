use Rattle.std.proofs.Common.{sym, subst}
use Rattle.hpr_syntax.specs.Issued.{IsIssued}
use Rattle.hpr_engine.proofs.IssuedRows.{issued_number}
use Rattle.hpr_engine.proofs.issued.raise_all.Goals as goal

pub raise-requires : goal.raise-requires
raise-requires c =
    let rows = c.rows-author-items in
    let issued : IsIssued rows.result.now = subst IsIssued (sym rows.ensures.rows) rows.ensures.issued in
    issued_number rows.result.now c.loop-author.author-index (0, 0) issued c.loop-author-test.true
