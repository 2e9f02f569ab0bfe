use Rattle.hpr_graph.specs.Answer.{merged_of_all}
use Rattle.hpr_engine.proofs.OneSideWhole.{only_whole}
use Rattle.hpr_engine.proofs.SearchedFor.{fitting_content, none_split_off, of_b, of_later, one_content, one_split_off, some_split_off}
use Rattle.hpr_engine.proofs.laws.split_off.Goals as goal

pub returns-clause-one : goal.returns-clause-one
returns-clause-one c = one_split_off

pub returns-clause-some : goal.returns-clause-some
returns-clause-some c = some_split_off

pub returns-clause-later : goal.returns-clause-later
returns-clause-later c = of_later

pub returns-clause-b : goal.returns-clause-b
returns-clause-b c = of_b

pub returns-clause-one_content : goal.returns-clause-one_content
returns-clause-one_content c = λ base vs rs is all are. one_content base vs is all rs are

pub returns-clause-alike : goal.returns-clause-alike
returns-clause-alike c = λ base vs rs split one. none_split_off base vs one rs split

pub returns-clause-none : goal.returns-clause-none
returns-clause-none c = λ base v vs rs is is_v only split.
    none_split_off base vs (fitting_content (merged_of_all base vs) v is_v (only_whole base v vs only is is_v)) rs split
