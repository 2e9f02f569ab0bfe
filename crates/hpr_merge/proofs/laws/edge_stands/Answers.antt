use Rattle.hpr_merge.proofs.ProgramStands as proof
use Rattle.hpr_merge.proofs.laws.edge_stands.Goals as goal

pub returns-clause-stands : goal.returns-clause-stands
returns-clause-stands c = λ base vs is all i v. proof.stands base vs is all i v

pub returns-clause-kept_or_added : goal.returns-clause-kept_or_added
returns-clause-kept_or_added c = λ base vs is all i v. proof.kept_or_added base vs is all i v

pub returns-clause-told : goal.returns-clause-told
returns-clause-told c = proof.told
