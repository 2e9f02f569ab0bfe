use Rattle.std.proofs.Common.{◌∙◌, ℕ, bit_or, get_or, set, sym, ap}
use Rattle.hpr_merge.proofs.Bits.{own_item, not_same, not_other}
use Rattle.hpr_merge.proofs.Spreads.{spread_one, more_one, same_one, closed_one}
use Rattle.hpr_merge.proofs.words.widen.Goals as goal

pub returns-clause-spread : goal.returns-clause-spread
returns-clause-spread c =
    let ws = c.args.words.now.items in
    let own = own_item ws c.args.step.0 c.index-own.result.now c.requires.from c.index-own.ensures in
    let other = own_item ws c.args.step.1 c.index.result.now c.requires.to c.index.ensures in
    spread_one ws _ c.args.step.0 c.args.step.1 c.requires.from (ap (λ (w : ℕ). set ws c.args.step.0 (bit_or w c.index.result.now)) own ∙ ap (λ (w : ℕ). set ws c.args.step.0 (bit_or (get_or ws c.args.step.0 0) w)) other)

pub returns-clause-more : goal.returns-clause-more
returns-clause-more c = λ e.
    (let ws = c.args.words.now.items in
    let own = own_item ws c.args.step.0 c.index-own.result.now c.requires.from c.index-own.ensures in
    let other = own_item ws c.args.step.1 c.index.result.now c.requires.to c.index.ensures in
    more_one ws _ c.args.step.0 c.args.step.1 c.requires.from (ap (λ (w : ℕ). set ws c.args.step.0 (bit_or w c.index.result.now)) own ∙ ap (λ (w : ℕ). set ws c.args.step.0 (bit_or (get_or ws c.args.step.0 0) w)) other)
    (λ same. not_other (bit_or c.index-own.result.now c.index.result.now) c.index-own.result.now e (ap (λ (w : ℕ). bit_or w c.index.result.now) own ∙ ap (λ (w : ℕ). bit_or (get_or ws c.args.step.0 0) w) other ∙ same ∙ sym own)))

pub returns-clause-same : goal.returns-clause-same
returns-clause-same c = λ e.
    (let ws = c.args.words.now.items in
    let own = own_item ws c.args.step.0 c.index-own.result.now c.requires.from c.index-own.ensures in
    let other = own_item ws c.args.step.1 c.index.result.now c.requires.to c.index.ensures in
    same_one ws _ c.args.step.0 c.args.step.1 c.requires.from (ap (λ (w : ℕ). set ws c.args.step.0 (bit_or w c.index.result.now)) own ∙ ap (λ (w : ℕ). set ws c.args.step.0 (bit_or (get_or ws c.args.step.0 0) w)) other)
    (sym (ap (λ (w : ℕ). bit_or w c.index.result.now) own ∙ ap (λ (w : ℕ). bit_or (get_or ws c.args.step.0 0) w) other) ∙ not_same (bit_or c.index-own.result.now c.index.result.now) c.index-own.result.now e ∙ own))

pub returns-clause-closed : goal.returns-clause-closed
returns-clause-closed c = λ e.
    (let ws = c.args.words.now.items in
    let own = own_item ws c.args.step.0 c.index-own.result.now c.requires.from c.index-own.ensures in
    let other = own_item ws c.args.step.1 c.index.result.now c.requires.to c.index.ensures in
    closed_one ws _ c.args.step.0 c.args.step.1 c.requires.from (ap (λ (w : ℕ). set ws c.args.step.0 (bit_or w c.index.result.now)) own ∙ ap (λ (w : ℕ). set ws c.args.step.0 (bit_or (get_or ws c.args.step.0 0) w)) other)
    (sym (ap (λ (w : ℕ). bit_or w c.index.result.now) own ∙ ap (λ (w : ℕ). bit_or (get_or ws c.args.step.0 0) w) other) ∙ not_same (bit_or c.index-own.result.now c.index.result.now) c.index-own.result.now e ∙ own))
