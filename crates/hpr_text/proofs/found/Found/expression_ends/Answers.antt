use Rattle.hpr_expressions.specs.Expression.{ended}
use Rattle.hpr_text.specs.Machine.{limit}
use Rattle.hpr_text.proofs.Going.{assignment_ends, test_ends, guard_ends, output_ends, store_ends}
use Rattle.hpr_text.proofs.found.Found.expression_ends.Goals as goal

pub returns-in_ok-add_assignment-in-Assign : goal.returns-in_ok-add_assignment-in-Assign
returns-in_ok-add_assignment-in-Assign c =
    assignment_ends limit c.args.self.now c.add_assignment.new.self c.args.purpose (ended c.args.reading) c.in-Assign.tag c.in-Assign.name c.in_ok-value.value c.in-Assign.is c.in_ok-value.ensures c.in_ok-add_assignment-in-Assign.ensures

pub returns-in_ok-begin_then-in-Test : goal.returns-in_ok-begin_then-in-Test
returns-in_ok-begin_then-in-Test c =
    test_ends limit c.args.self.now c.begin_then.new.self c.args.purpose (ended c.args.reading) c.in-Test.tag c.in_ok-value.value c.in-Test.is c.in_ok-value.ensures c.in_ok-begin_then-in-Test.ensures

pub returns-in_ok-begin_loop-in-Guard : goal.returns-in_ok-begin_loop-in-Guard
returns-in_ok-begin_loop-in-Guard c =
    guard_ends limit c.args.self.now c.begin_loop.new.self c.args.purpose (ended c.args.reading) c.in-Guard.tag c.in_ok-value.value c.in-Guard.is c.in_ok-value.ensures c.in_ok-begin_loop-in-Guard.ensures

pub returns-in_ok-add_write-in-Output : goal.returns-in_ok-add_write-in-Output
returns-in_ok-add_write-in-Output c =
    output_ends limit c.args.self.now c.add_write.new.self c.args.purpose (ended c.args.reading) c.in-Output.tag c.in_ok-value.value c.in-Output.is c.in_ok-value.ensures c.in_ok-add_write-in-Output.ensures

pub returns-in_ok-add_store-in-Store : goal.returns-in_ok-add_store-in-Store
returns-in_ok-add_store-in-Store c =
    store_ends limit c.args.self.now c.add_store.new.self c.args.purpose (ended c.args.reading) c.in-Store.tag c.in-Store.array c.in-Store.index c.in_ok-value.value c.in-Store.is c.in_ok-value.ensures c.in_ok-add_store-in-Store.ensures
