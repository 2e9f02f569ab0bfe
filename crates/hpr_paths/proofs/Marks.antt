-- Pairs, nests and paths of a program, by number.
use Rattle.std.proofs.Common.{◌≡◌, ℕ, Option, Some, List, refl, sym, ap, subst}
use Rattle.std.specs.List.{slice_get, Contains}
use Rattle.hpr_terms.specs.declared.tag.Tag.{Tag}
use Rattle.hpr_syntax.specs.Tree.{Tree}
use Rattle.hpr_syntax.specs.Skeleton.{Point}
use Rattle.hpr_syntax.specs.Pairs.{IsPair}
use Rattle.hpr_syntax.specs.Shape.{IsProgram}
use Rattle.hpr_paths.specs.declared.spot.Step.{Step}
use Rattle.hpr_paths.specs.Spots.{Spot, steps_of, next_at}
use Rattle.hpr_paths.specs.Successors.{spots}
use Rattle.hpr_paths.specs.Numbers.{IsNumberOf, mark_of, Leads}
use Rattle.hpr_paths.proofs.Stands.{WholeIn, get_of_whole}
use Rattle.hpr_paths.proofs.Names.{StepOf, role_of_get}
use Rattle.hpr_paths.proofs.Whole.{step_of_pair}
use Rattle.hpr_paths.proofs.Tags.{number_once}

pub step_from : (t : Tree) (p : ℕ) (a z : Point) (m : Option Tag) → IsProgram t → IsNumberOf (spots t) p a → IsPair t.body a z m
    → (q : ℕ) × (s : Step) × Leads (spots t) p q s × IsNumberOf (spots t) q z × (m ≡ mark_of (spots t) s)
step_from t p a z m prog na pair =
    let S : List Spot = spots t in
    let k : StepOf S (WholeIn t) a (z, m) = step_of_pair t a z m pair in
    let get : slice_get S k.from ≡ Some k.spot = get_of_whole t k.from k.spot k.stands in
    let same : k.from ≡ p = number_once t k.from p a prog (k.spot.role, role_of_get S k.from k.spot get, k.point) na in
    let P : List Step → Type 0 = λ xs. Contains xs k.step in
    let Q : ℕ → Type 0 = λ n. Contains (next_at S n) k.step in
    let there : Contains (next_at S p) k.step = subst Q same (subst P (sym (ap steps_of get)) k.there) in
    (k.step.to, k.step, (there, refl), (k.named.0, k.named.1, ap (λ (y : Point × Option Tag). y.0) k.named.2), ap (λ (y : Point × Option Tag). y.1) k.named.2)
