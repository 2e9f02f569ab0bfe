use Rattle.std.proofs.Common.{drop}
use Rattle.hpr_io.specs.Files.{files_in}
use Rattle.hpr_c.proofs.PackedLemmas.{Filed}
use Rattle.hpr_c.proofs.packed.files_of.Given as goal

abbrev pub invariant-loop-length : goal.invariant-loop-length
invariant-loop-length l =
    Filed l.fn.names l.fn.lengths l.fn.bytes (files_in l.files.items) l.more_names (drop l.length-index l.lengths) l.rest
