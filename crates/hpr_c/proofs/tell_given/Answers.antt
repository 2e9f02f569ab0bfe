use Rattle.std.proofs.Common.{List, String, map, string_bytes, subst, sym}
use Rattle.std.specs.Global.{Global}
use Rattle.hpr_io.specs.Files.{Files, files_in}
use Rattle.hpr_words.specs.Request.{Text}
use Rattle.hpr_c.specs.Call.{TellsOver}
use Rattle.hpr_c.proofs.PackedLemmas.{one_call}
use Rattle.hpr_c.proofs.tell_given.Goals as goal

pub returns-in-Ok-clause-does : goal.returns-in-Ok-clause-does
returns-in-Ok-clause-does c texts files is =
    let told = c.tell_over.result in
    let one = one_call c.args.words.now c.args.names.now c.args.lengths.now c.args.bytes.now (map string_bytes c.in-Ok.words.items) texts
    (files_in c.in-Ok.files.items) files c.in-Ok.ensures.call is in
    let words = subst (λ (ws : List (String Global)). TellsOver (map string_bytes ws) (files_in c.in-Ok.files.items) told.number told.out.items told.err.items)
    c.as_slice.ensures.value c.tell_over.ensures in
    subst (λ (ts : List Text). TellsOver ts files told.number told.out.items told.err.items) (sym one.0)
    (subst (λ (fs : Files). TellsOver (map string_bytes c.in-Ok.words.items) fs told.number told.out.items told.err.items) (sym one.1) words)
