use Rattle.hpr_edit.proofs.Fresh.{after_command}
use Rattle.hpr_edit.proofs.laws.issued_numbers_rise.Goals as goal

pub returns-clause-command : goal.returns-clause-command
returns-clause-command c p is command author q i h = (after_command p q command author i h).rises is.proper.ascending
