use Rattle.std.proofs.Common.{◌∙◌, ap, map, string_bytes, sym}
use Rattle.hpr_io.specs.Files.{files_in}
use Rattle.hpr_c.proofs.DataLemmas.{same_data, same_kept}
use Rattle.hpr_c.proofs.PackedLemmas.{one_call}
use Rattle.hpr_c.proofs.data_given.Goals as goal

pub returns-in-Ok-clause-does : goal.returns-in-Ok-clause-does
returns-in-Ok-clause-does c texts files is =
    let one = one_call c.args.words.now c.args.names.now c.args.lengths.now c.args.bytes.now (map string_bytes c.in-Ok.words.items) texts
    (files_in c.in-Ok.files.items) files c.in-Ok.ensures.call is in
    same_data texts _ files _ c.data_over.result.number c.data_over.result.text.items (ap (map string_bytes) c.as_slice.ensures.value ∙ sym one.0)
    (ap files_in c.as_slice-in-Ok.ensures.value ∙ sym one.1) c.data_over.ensures.does

pub returns-in-Ok-clause-keeps : goal.returns-in-Ok-clause-keeps
returns-in-Ok-clause-keeps c texts files request is =
    let one = one_call c.args.words.now c.args.names.now c.args.lengths.now c.args.bytes.now (map string_bytes c.in-Ok.words.items) texts
    (files_in c.in-Ok.files.items) files c.in-Ok.ensures.call is in
    same_kept texts _ files _ c.data_over.result.number c.data_over.result.text.items (ap (map string_bytes) c.as_slice.ensures.value ∙ sym one.0)
    (ap files_in c.as_slice-in-Ok.ensures.value ∙ sym one.1) c.data_over.ensures.keeps request
