use Rattle.std.proofs.Common.{sym, ◌∙◌, arith}
use Rattle.hpr_region.proofs.Made.{names_below}
use Rattle.hpr_region.proofs.tables.flows_by.Goals as goal

pub invariant_of-result : goal.invariant_of-result
invariant_of-result c = record {
  variable_count = c.in_ok-variables.ensures.count ∙ sym c.in_ok-slots.ensures.count;
  use_count = c.in_ok-uses.ensures.count ∙ sym c.in_ok-slots.ensures.count;
  reader_count = c.requires.count ∙ sym c.in_ok-slots.ensures.count;
  within = λ k u h. omega (arith, c.requires.within k u h, c.in_ok-slots.ensures.count);
  named = λ k v e. names_below c.args.names.now c.args.items.now c.in_ok-variables.variables c.in_ok-variables.ensures.count c.in_ok-variables.ensures.variables k v e;
}
