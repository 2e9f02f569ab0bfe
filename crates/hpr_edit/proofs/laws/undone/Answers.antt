use Rattle.hpr_edit.proofs.Undone.{undone}
use Rattle.hpr_edit.proofs.Back.{ready, back_program, undoes_again, issued_again}
use Rattle.hpr_edit.proofs.laws.undone.Goals as goal

pub returns-clause-restored : goal.returns-clause-restored
returns-clause-restored c = undone

pub returns-clause-ready : goal.returns-clause-ready
returns-clause-ready c = ready

pub returns-clause-program : goal.returns-clause-program
returns-clause-program c old i q is u h = back_program i q is old u h

pub returns-clause-again : goal.returns-clause-again
returns-clause-again c old i p q u h b f rise = (undoes_again old i p q u b f, issued_again i p q h rise)
