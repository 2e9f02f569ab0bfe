use Rattle.std.proofs.Common.{◌*◌, ◌%◌, ◌^◌, ℕ, bit_or, set, ap}
use Rattle.hpr_merge.proofs.Bits.{own_item, put_bits}
use Rattle.hpr_merge.proofs.words.put_bit.Goals as goal

pub returns-clause-bits : goal.returns-clause-bits
returns-clause-bits c =
    put_bits c.args.words.now.items _ c.args.at c.args.bit c.requires.at c.requires.bit
    (ap (λ (w : ℕ). set c.args.words.now.items c.args.at (bit_or w (1 * 2 ^ c.args.bit % 2 ^ 64))) (own_item c.args.words.now.items c.args.at c.index_mut.result.now c.requires.at c.index_mut.ensures.value))
