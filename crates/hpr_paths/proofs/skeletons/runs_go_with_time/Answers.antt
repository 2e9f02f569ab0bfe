use Rattle.std.proofs.Common.{◌≡◌, ℕ, true, []}
use Rattle.hpr_paths.proofs.Steps.{steps_ascend}
use Rattle.hpr_paths.proofs.skeletons.runs_go_with_time.Goals as goal

pub returns : goal.returns
returns f = λ sk truth gives steps over log di run. steps_ascend ℕ truth (λ t before v. gives t before v ≡ true) sk 0 [] [] steps over log di run
