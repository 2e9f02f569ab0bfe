use Rattle.std.proofs.Common.{ℕ, ◌==◌, not, take, length, ap, arith}
use Rattle.std.proofs.Math.Nat.{min-le_left}
use Rattle.std.proofs.Math.ListN.{length-take}
use Rattle.std.proofs.lemmas.List.Sums.{count_by-le-length, suffix_len-le-length}
use Rattle.hpr_located.specs.declared.marks.Mark.{Mark}
use Rattle.hpr_located.proofs.marks.passed.Goals as goal

pub loop-at-init : goal.loop-at-init
loop-at-init c =
    let n = c.args.mark.byte in
    let line = ap (λ (m : Mark). m.line) c.requires.mark in
    let column = ap (λ (m : Mark). m.column) c.requires.mark in
    let short = length-take n c.args.bytes.now in
    let less = min-le_left n (length c.args.bytes.now) in
    let lines = count_by-le-length (λ (b : ℕ). b == 10) (take n c.args.bytes.now) in
    let columns = suffix_len-le-length (λ (b : ℕ). not (b == 10)) (take n c.args.bytes.now) in
    record { line = line; column = column; few_lines = omega (arith, line, lines, short, less); few_columns = omega (arith, column, columns, short, less) }
