use Rattle.std.proofs.Common.{◌≡◌, string_bytes, append_assoc}
use Rattle.hpr_report.proofs.table.table_line.Goals as goal

pub returns : goal.returns
returns c =
    let named : string_bytes c.in_ok-line.line ≡ c.args.name.now = c.in_ok-line.ensures.ok in
    rw (c.in_ok-put_cells.ensures, named) (simp append_assoc)
