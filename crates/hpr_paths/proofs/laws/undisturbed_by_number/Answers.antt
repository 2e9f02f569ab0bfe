use Rattle.std.proofs.Common.{◌≡◌, Some}
use Rattle.hpr_syntax.specs.Paths.{DefinesAt}
use Rattle.hpr_paths.specs.Spots.{defined_at}
use Rattle.hpr_paths.specs.Successors.{spots}
use Rattle.hpr_paths.proofs.Defines.{defines_of_number, number_of_defines}
use Rattle.hpr_paths.proofs.PathLaws.{path_of_numbers, numbers_of_path}
use Rattle.hpr_paths.proofs.laws.undisturbed_by_number.Goals as goal

pub returns-clause-sound : goal.returns-clause-sound
returns-clause-sound c = λ t x p q a z steps prog path na nz.
    path_of_numbers t (λ b. defined_at (spots t) b ≡ Some x) (DefinesAt t.body x) (λ b y nb h. number_of_defines t b y x prog nb h) a z path na nz

pub returns-clause-complete : goal.returns-clause-complete
returns-clause-complete c = λ t x p a z marks prog na path.
    numbers_of_path t (λ b. defined_at (spots t) b ≡ Some x) (DefinesAt t.body x) prog (λ b y nb h. defines_of_number t b y x nb h) p na path
