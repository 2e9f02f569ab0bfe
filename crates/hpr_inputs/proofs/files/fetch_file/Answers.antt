use Rattle.std.proofs.Common.{rules, arith, refl}
use Rattle.hpr_inputs.proofs.FileLemmas.{longer_file, too_long, whole_file}
use Rattle.hpr_inputs.proofs.files.fetch_file.Goals as goal

pub returns-then-len-gt-MAX_FILE-clause-fetches : goal.returns-then-len-gt-MAX_FILE-clause-fetches
returns-then-len-gt-MAX_FILE-clause-fetches g c =
    let told = g.S.Shelf.files c.args.shelf.now in
    let far = longer_file told c.args.file.now c.in-Ok.bytes.items 4194305 refl c.in-Ok.ensures.bytes (omega arith) in
    too_long told c.args.file.now _ _ c.refused.result far (search rules) c.refused.ensures

pub returns-else-len-gt-MAX_FILE-clause-fetches : goal.returns-else-len-gt-MAX_FILE-clause-fetches
returns-else-len-gt-MAX_FILE-clause-fetches g c =
    (whole_file (g.S.Shelf.files c.args.shelf.now) c.args.file.now c.in-Ok.bytes.items 4194305 refl c.in-Ok.ensures.bytes (omega arith), search rules)
