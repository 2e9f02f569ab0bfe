use Rattle.std.proofs.Common.{◌≡◌, ℕ, Bool, false, List, cond, eqb, sym, ◌∙◌, rules}
use Rattle.std.proofs.lemmas.Bool.{ne_eqb}
use Rattle.hpr_forest.specs.Marks.{is_in}
use Rattle.hpr_region.proofs.flows.Flows.is_left.Goals as goal

-- another item without a mark is left where it stands in the block
left_is : (placed : List ℕ) (c u : ℕ) (b : Bool) → (u ≡ c → ⊥) → is_in placed u ≡ false
    → b ≡ cond (eqb u c) false (cond (is_in placed u) false b)
left_is placed c u b other fresh = rw (ne_eqb u c other, fresh)

pub returns : goal.returns
returns c = c.in_one_block.ensures ∙ left_is c.args.placed.now c.args.child c.args.reader _ c.if-reader-child.false
    (sym (c.requires.marks c.args.reader) ∙ search rules)
