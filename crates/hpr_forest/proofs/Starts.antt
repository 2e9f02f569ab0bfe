-- The orders of a forest as the engine gives them.
use Rattle.std.proofs.Common.{◌≡◌, ℕ, Bool, true, false, List, [], length, vec_len, IsTrue, IsFalse, Contains, All, get_or, ◌<◌, refl, sym, ap, ◌∙◌, subst, rules}
use Rattle.std.proofs.lemmas.List.Elements.{Contains-get_or}
use Rattle.hpr_forest.specs.Choices.{IsWhole, IsBacktrackFree}
use Rattle.hpr_forest.specs.Lists.{LexLess, IsListOf}
use Rattle.hpr_forest.specs.Leaves.{from_here}
use Rattle.hpr_forest.proofs.Leaves.{all_leaves, at_whole}
use Rattle.hpr_forest.proofs.Unique.{in_none}
use Rattle.hpr_forest.specs.declared.blocks.Blocks.{Blocks}
use Rattle.hpr_forest.specs.Remaining.{forest_of, can_of, remaining}
use Rattle.hpr_forest.proofs.Progress.{is_open}

pub blocks_open : (b : Blocks) → IsBacktrackFree (can_of b) (vec_len b.parents)
blocks_open b = let e : length b.parents.items ≡ vec_len b.parents = search rules in subst (IsBacktrackFree (can_of b)) e (is_open (forest_of b) b.forest)

pub starts : (b : Blocks) (old new : List ℕ) (more : Bool) → old ≡ []
    → (IsTrue more → IsWhole (can_of b) (vec_len b.parents) new)
    → (IsTrue more → from_here (can_of b) (vec_len b.parents) new ≡ from_here (can_of b) (vec_len b.parents) old)
    → (IsFalse more → (l : List ℕ) → IsWhole (can_of b) (vec_len b.parents) l → ⊥)
    → IsListOf LexLess (IsWhole (can_of b) (vec_len b.parents)) (remaining b new more)
starts b old new true none whole same dead =
    let w : IsWhole (can_of b) (vec_len b.parents) new = whole refl in
    subst (IsListOf LexLess (IsWhole (can_of b) (vec_len b.parents)))
    (ap (from_here (can_of b) (vec_len b.parents)) (sym none) ∙ sym (same refl) ∙ at_whole (can_of b) (vec_len b.parents) new w.len)
    (all_leaves (can_of b) (vec_len b.parents) (blocks_open b))
starts b old new false none whole same dead = record {
  sound = λ x h. absurd (in_none x h);
  complete = λ x w. absurd (dead refl x w);
  ascending = tt;
}

pub children_within : (b : Blocks) (x : ℕ) (row : List ℕ) → row ≡ (forest_of b).children x → All (λ y. y < vec_len b.parents) row
children_within b x row e = λ k d h. let e' : length b.parents.items ≡ vec_len b.parents = search rules in
    subst (λ n. get_or row k d < n) e' (b.forest.down x (get_or row k d) (subst (λ r. Contains r (get_or row k d)) e (Contains-get_or row k d h))).0

pub before_within : (b : Blocks) (x : ℕ) (row : List ℕ) → row ≡ (forest_of b).before x → All (λ y. y < vec_len b.parents) row
before_within b x row e = λ k d h. let e' : length b.parents.items ≡ vec_len b.parents = search rules in
    subst (λ n. get_or row k d < n) e' (b.forest.siblings x (get_or row k d) (subst (λ r. Contains r (get_or row k d)) e (Contains-get_or row k d h))).1
