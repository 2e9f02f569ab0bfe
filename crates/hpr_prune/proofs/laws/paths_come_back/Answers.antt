use Rattle.std.proofs.Common.{◌≡◌, Bool, true, false, refl}
use Rattle.hpr_paths.proofs.Among.{no_both}
use Rattle.hpr_prune.proofs.Up.{path_up}
use Rattle.hpr_prune.proofs.laws.paths_come_back.Goals as goal

is_true? : (b : Bool) → Dec (b ≡ true)
is_true? true = yes refl
is_true? false = no (λ e. no_both e refl)

pub returns : goal.returns
returns f = λ keeps sk rest stops a z left r p closed. path_up (λ t. keeps t ≡ true) r (λ q. stops q ≡ true) (λ q. is_true? (stops q)) a z left p closed
