use Rattle.std.proofs.Common.{arith, drop, drop-cons, get_or}
use Rattle.std.proofs.lemmas.List.{drop_all}
use Rattle.hpr_io.specs.Files.{files_in}
use Rattle.hpr_c.proofs.PackedLemmas.{filed_rest, left_file, nothing_left, some_left}
use Rattle.hpr_c.proofs.packed.files_of.Goals as goal
use Rattle.hpr_c.proofs.packed.files_of.Goals.{else-is_empty-via-then-is_empty+else-is_empty-2, else-is_empty-via-else-is_empty}

pub returns-in_default-clause-form : goal.returns-in_default-clause-form
returns-in_default-clause-form c _ files are =
    let more = filed_rest c.args.names.now c.args.lengths.now c.args.bytes.now (files_in c.loop-length.files.items) c.loop-length.more_names.now
    (drop c.loop-length.length-index c.args.lengths.now) c.loop-length.rest.now c.loop-length.invariant files are in
    let file = left_file c.loop-length.more_names.now (drop c.loop-length.length-index c.args.lengths.now) c.loop-length.rest.now more.0
    (get_or c.args.lengths.now c.loop-length.length-index 0) _ (drop-cons c.args.lengths.now c.loop-length.length-index 0 c.loop-length-test.true) more.1 in
    c.in_default.ensures.none file.0 file.1 file.2

pub returns-in_default-split_at_checked-clause-form : goal.returns-in_default-split_at_checked-clause-form
returns-in_default-split_at_checked-clause-form c _ files are =
    let more = filed_rest c.args.names.now c.args.lengths.now c.args.bytes.now (files_in c.loop-length.files.items) c.loop-length.more_names.now
    (drop c.loop-length.length-index c.args.lengths.now) c.loop-length.rest.now c.loop-length.invariant files are in
    let file = left_file c.loop-length.more_names.now (drop c.loop-length.length-index c.args.lengths.now) c.loop-length.rest.now more.0
    (get_or c.args.lengths.now c.loop-length.length-index 0) _ (drop-cons c.args.lengths.now c.loop-length.length-index 0 c.loop-length-test.true) more.1 in
    let fits = file.3 in
    let short = c.in_default-split_at_checked.ensures.cases in
    absurd (omega (arith, fits, short))

pub returns-else-is_empty-clause-form : goal.returns-else-is_empty-clause-form
returns-else-is_empty-clause-form c _ files are =
    let more = filed_rest c.args.names.now c.args.lengths.now c.args.bytes.now (files_in c.loop-length.files.items) c.loop-length.more_names.now
    (drop c.loop-length.length-index c.args.lengths.now) c.loop-length.rest.now c.loop-length.invariant files are in
    let empty = nothing_left c.loop-length.more_names.now (drop c.loop-length.length-index c.args.lengths.now) c.loop-length.rest.now more.0
    (drop_all c.loop-length.length-index c.args.lengths.now c.loop-length-test.false) more.1 in
    elim c.else-is_empty.branch [
      | else-is_empty-via-then-is_empty+else-is_empty-2 w ↦
          some_left w.is_empty-then-is_empty.result c.loop-length.rest.now w.is_empty-then-is_empty.ensures w.if-is_empty-2.false empty.1
      | else-is_empty-via-else-is_empty w ↦ some_left c.is_empty.result c.loop-length.more_names.now c.is_empty.ensures w.if-is_empty.false empty.0
    ]
