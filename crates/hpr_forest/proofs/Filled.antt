-- An order is found by placing what may be placed.
use Rattle.std.proofs.Common.{◌≡◌, ℕ, ◌<◌, Bool, true, false, cond, ltb, Option, List, [], length, vec_len, get_or, refl, sym, ◌∙◌, arith, rules}
use Rattle.std.proofs.lemmas.Bool.{ltb-true}
use Rattle.hpr_forest.specs.Choices.{Follows, IsWhole}
use Rattle.hpr_forest.specs.Forest.{all_in, is_in}
use Rattle.hpr_forest.specs.Open.{can_under, same_parent}
use Rattle.hpr_forest.specs.Pending.{AreOpen}
use Rattle.hpr_forest.specs.Remaining.{can_of, forest_of}
use Rattle.hpr_forest.specs.declared.blocks.Blocks.{Blocks}
use Rattle.hpr_forest.proofs.Starts.{blocks_open}

-- where nothing may come next, there is no order, unless all is placed
pub dead_end : (b : Blocks) (q : List ℕ) → Follows (can_of b) [] q → length q < vec_len b.parents → ((d : ℕ) → d < vec_len b.parents → can_of b q d ≡ false)
    → (l : List ℕ) → ¬ IsWhole (can_of b) (vec_len b.parents) l
dead_end b q follows short none l whole =
    let (c, may) = (blocks_open b).goes_on q l follows short whole in
    let no : true ≡ false = sym may ∙ none c ((blocks_open b).within q c may) in
    absurd cc

-- an item without a mark may not come next
pub shut : (b : Blocks) (q : List ℕ) (row : List Bool) → AreOpen b.before.items q row → (under : Option ℕ) (d : ℕ) → get_or row d false ≡ false → can_under (forest_of b) q under d ≡ false
shut b q row open_ under d none =
    at (ltb d (forest_of b).count) refl (is_in q d) refl (same_parent under ((forest_of b).parent d)) (all_in q ((forest_of b).before d)) refl
  where
    at : (s : Bool) → ltb d (forest_of b).count ≡ s → (t : Bool) → is_in q d ≡ t → (u v : Bool) → all_in q ((forest_of b).before d) ≡ v → cond s (cond t false (cond u v false)) false ≡ false
    at false is t is' u v is'' = refl
    at true is true is' u v is'' = refl
    at true is false is' false v is'' = refl
    at true is false is' true false is'' = refl
    at true is false is' true true is'' =
        let e : length b.parents.items ≡ vec_len b.parents = search rules in
        let e' : length b.before.items ≡ vec_len b.before = search rules in
        let both : true ≡ false = sym (open_ d (omega (arith, ltb-true d (forest_of b).count is, e, e', b.befores)) is' is'') ∙ none in
        absurd cc
