use Rattle.std.proofs.Common.{ℕ, bit_and, subst}
use Rattle.hpr_merge.specs.Words.{HasBit}
use Rattle.hpr_merge.proofs.Bits.{and_bit, left_bit, no_bit}
use Rattle.hpr_merge.proofs.added.more_word.Goals as goal

pub returns-then-inside-eq0 : goal.returns-then-inside-eq0
returns-then-inside-eq0 c = λ i few.
    (let both = and_bit c.args.waiting c.inside_word.result i in
    let none : ¬ HasBit (bit_and c.args.waiting c.inside_word.result) i = λ h. no_bit i (subst (λ (w : ℕ). HasBit w i) c.if-inside-eq0.true h) in
    (λ h. absurd (none h), λ (waits, (inside, new)). absurd (none (both.1 (waits, (c.inside_word.ensures i).1 inside)))))

pub returns-then-not-has_sorted : goal.returns-then-not-has_sorted
returns-then-not-has_sorted c = λ i few.
    (let both = and_bit c.args.waiting c.inside_word.result i in (
      λ h. (let (waits, inside) = both.0 h in (waits, ((c.inside_word.ensures i).0 inside, λ (has, own). absurd (let t = c.has_sorted.ensures.1 has in let f = c.if-not-has_sorted.true in cc)))),
      λ (waits, (inside, new)). both.1 (waits, (c.inside_word.ensures i).1 inside),
    ))

pub returns : goal.returns
returns c = λ i few.
    (let both = and_bit c.args.waiting c.inside_word.result i in
    let left = left_bit (bit_and c.args.waiting c.inside_word.result) c.inside_word-2.result i c.inside_word-2.type_inv few in (
      λ h. (let (a, not_own) = left.0 h in let (waits, inside) = both.0 a in (waits, ((c.inside_word.ensures i).0 inside, λ (has, own). not_own ((c.inside_word-2.ensures i).1 own)))),
      λ (waits, (inside, new)). left.1 (both.1 (waits, (c.inside_word.ensures i).1 inside), λ own. new (c.has_sorted.ensures.0 c.if-not-has_sorted.false, (c.inside_word-2.ensures i).0 own)),
    ))
