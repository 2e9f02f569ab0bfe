use Rattle.std.proofs.Common.{◌≡◌, ℕ, List, true, sym, subst, ◌∙◌, ◌<◌, length, arith}
use Rattle.std.proofs.lemmas.List.Sums.{prefix_len-le-length}
use Rattle.hpr_terms.specs.Names.{is_name_byte}
use Rattle.hpr_scan.specs.Words.{begins}
use Rattle.hpr_scan.proofs.Runs.{next_word_is}
use Rattle.hpr_scan.proofs.word.next_word.Goals as goal

pub returns-then-begins : goal.returns-then-begins
returns-then-begins g c =
    let length_is = c.count_letters-length.ensures in
    let most = prefix_len-le-length is_name_byte c.args.bytes.now in
    let more : c.count_letters-length.result < length c.args.bytes.now = omega (arith, length_is, most, c.if-length-bytes.false) in
    next_word_is g.M.TokenMachine.next c.args.machine.now c.args.bytes.now c.in-Ok.word.now c.count_letters-length.result length_is (omega (arith, c.if-length-eq0.false)) more c.in-Ok.ensures.cases.0
    (subst (λ (w : List ℕ). begins g.M.TokenMachine.next c.args.machine.now w ≡ true) c.as_bytes.ensures.value (sym c.begins.ensures ∙ c.if-begins.true))
