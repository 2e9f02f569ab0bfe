use Rattle.std.proofs.Common.{rules}
use Rattle.hpr_run.proofs.values.eval_binary.Goals as goal

pub returns-after-x-ne0 : goal.returns-after-x-ne0
returns-after-x-ne0 c = search rules

pub returns-after-x-ne0-2 : goal.returns-after-x-ne0-2
returns-after-x-ne0-2 c = search rules

pub returns-in-Equal : goal.returns-in-Equal
returns-in-Equal c = search rules

pub returns-in-Differ : goal.returns-in-Differ
returns-in-Differ c = search rules

pub returns-in-Less : goal.returns-in-Less
returns-in-Less c = search rules

pub returns-in-LessEqual : goal.returns-in-LessEqual
returns-in-LessEqual c = search rules

pub returns-in-Greater : goal.returns-in-Greater
returns-in-Greater c = search rules

pub returns-in-GreaterEqual : goal.returns-in-GreaterEqual
returns-in-GreaterEqual c = search rules

pub returns-in-Add : goal.returns-in-Add
returns-in-Add c = search rules

pub returns-in-Sub : goal.returns-in-Sub
returns-in-Sub c = search rules

pub returns-in-Mul : goal.returns-in-Mul
returns-in-Mul c = search rules

pub returns-in-Div : goal.returns-in-Div
returns-in-Div c = search rules

pub returns-in-Rem : goal.returns-in-Rem
returns-in-Rem c = search rules
