use Rattle.hpr_paths.proofs.PathLaws.{path_of_numbers, numbers_of_path}
use Rattle.hpr_paths.proofs.laws.paths_by_number.Goals as goal

pub returns-clause-sound : goal.returns-clause-sound
returns-clause-sound c = λ t p q a z steps path na nz. path_of_numbers t (λ _. ⊥) (λ _. ⊥) (λ _ _ _ h. h) a z path na nz

pub returns-clause-complete : goal.returns-clause-complete
returns-clause-complete c = λ t p a z marks prog na path. numbers_of_path t (λ _. ⊥) (λ _. ⊥) prog (λ _ _ _ h. h) p na path
