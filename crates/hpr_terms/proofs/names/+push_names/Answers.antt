use Rattle.std.proofs.Common.{rules, append_assoc}
use Rattle.hpr_terms.proofs.names.+push_names.Goals as goal

pub returns-in_ok-push_names-in-Infix : goal.returns-in_ok-push_names-in-Infix
returns-in_ok-push_names-in-Infix t c = search (rules, append_assoc)
