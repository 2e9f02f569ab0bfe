use Rattle.std.proofs.Common.{rules, ◌≡◌, ◌++◌, flat_map, string_bytes, get_or, pos, refl}
use Rattle.std.proofs.lemmas.List.{get_or_default}
use Rattle.hpr_report.specs.Texts.{comma_number}
use Rattle.hpr_report.proofs.Lines.{put_next}
use Rattle.hpr_report.proofs.values.put_more.Goals as goal

pub loop-number-preserved : goal.loop-number-preserved
loop-number-preserved c =
    let xs = c.args.numbers.now in
    let i = c.loop-number.number-index in
    let item = get_or xs i (pos 0) in
    let put : string_bytes c.put_one_more.new.text ≡ string_bytes c.loop-number.text ++ comma_number item = search rules in
    put_next (flat_map comma_number) comma_number (λ x rest. refl) xs i item (string_bytes c.loop-number.text) (string_bytes c.put_one_more.new.text) _
    c.loop-number-test.true (get_or_default xs i (pos 0) item c.loop-number-test.true) c.loop-number.invariant put
