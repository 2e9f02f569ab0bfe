-- The steps that a search takes.
--
-- is_at name defined           == a point that defines this defines the name; none does where there is no
--                                 name
-- is_back_to loops s           == the step is a back edge to one of the loops
-- targets loops steps          == where those of the steps lead that are no back edge to one of the loops
-- open_steps spots name loops p == where a path goes on to from p: nowhere where p defines the name
-- Stops spots name p           == the point p defines the name; none does where there is no name
-- ReachesPast spots Stops loops p q == a path goes from p to q that no point strictly in between stops, with
--                                      no back edge to one of the loops
use Rattle.std.specs.Prelude.{◌≡◌, ℕ, Bool, false, ◌&&◌, ◌==◌, if◌then◌else◌, Option, Some, None, List, [], ◌∷◌}
use Rattle.std.specs.List.{list_any}
use Rattle.std.specs.Str.{bytes_eq}
use Rattle.hpr_syntax.specs.Paths.{Path}
use Rattle.hpr_paths.specs.declared.spot.Step.{Step}
use Rattle.hpr_paths.specs.Spots.{Spot, next_at, defined_at}
use Rattle.hpr_paths.specs.Numbers.{Leads}
use Rattle.hpr_reach.specs.Reaches.{AvoidsLoops}

abbrev pub is_at : Option (List ℕ) → Option (List ℕ) → Bool
is_at None defined = false
is_at (Some x) None = false
is_at (Some x) (Some y) = bytes_eq x y

abbrev pub is_back_to : List ℕ → Step → Bool
is_back_to loops s = s.back && list_any (λ w. w == s.to) loops

abbrev pub targets : List ℕ → List Step → List ℕ
targets loops [] = []
targets loops (s ∷ steps) = if is_back_to loops s then targets loops steps else s.to ∷ targets loops steps

abbrev pub open_steps : List Spot → Option (List ℕ) → List ℕ → ℕ → List ℕ
open_steps spots name loops p = if is_at name (defined_at spots p) then [] else targets loops (next_at spots p)

abbrev pub Stops : List Spot → Option (List ℕ) → ℕ → Type 0
Stops spots None p = ⊥
Stops spots (Some x) p = defined_at spots p ≡ Some x

abbrev pub ReachesPast : List Spot → (ℕ → Type 0) → List ℕ → ℕ → ℕ → Type 0
ReachesPast spots Stops loops p q = (steps : List Step) × Path (Leads spots) Stops p q steps × AvoidsLoops loops steps
