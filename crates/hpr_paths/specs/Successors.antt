-- The points of a program with their steps and loops.
--
-- step_to n                       == the step to the point n, by no back edge
-- first_step body first follow    == the step into a block whose first part has this number: to that part, or
--                                    what follows the block where it is empty
-- spot_of next nest role          == the point with these steps and loops, and this role
-- spots_of body first follow nest == the parts of a block in preorder, the first of which has this number;
--                                    this step follows the block, and these loops enclose it
-- spots tree                      == the points of a program: 0 is Enter, then the parts in preorder, the
--                                    last is Exit
-- AreSpots spots                  == what holds of them: the first and the last are no parts, all others are;
--                                    steps lead to points; nests are of loops, and the loops of a nest up to
--                                    one of them are that one's own nest
use Rattle.std.specs.Prelude.{◌≡◌, ℕ, ◌+◌, ◌<◌, ◌≤◌, ◌⊎◌, ◌↔◌, true, false, Some, None, List, [], ◌∷◌, ◌++◌, length, take, All}
use Rattle.std.specs.List.{slice_get}
use Rattle.hpr_syntax.specs.declared.rows.Content.TheVariants.{If, While}
use Rattle.hpr_syntax.specs.Rows.{content_by}
use Rattle.hpr_syntax.specs.Body.{Body, done, action, branch, loop, part_count}
use Rattle.hpr_syntax.specs.Tree.{Tree}
use Rattle.hpr_paths.specs.declared.spot.Step.{Step}
use Rattle.hpr_paths.specs.Spots.{Role, enter, part, exit, Spot, next_at, nest_at, tag_at, IsLoopAt}

abbrev pub step_to : ℕ → Step
step_to n = record { to = n; back = false }

abbrev pub first_step : Body → ℕ → Step → Step
first_step done first follow = follow
first_step (action t d rest) first follow = step_to first
first_step (branch t e a b rest) first follow = step_to first
first_step (loop t e b rest) first follow = step_to first

abbrev pub spot_of : List Step → List ℕ → Role → Spot
spot_of next nest role = record { next = next; nest = nest; role = role }

-- After the last part of a loop's body its predicate follows, by a back edge.
abbrev pub spots_of : Body → ℕ → Step → List ℕ → List Spot
spots_of done first follow nest = []
spots_of (action t d rest) first follow nest =
    spot_of (first_step rest (first + 1) follow ∷ []) nest (part t (content_by d)) ∷ spots_of rest (first + 1) follow nest
spots_of (branch t e a b rest) first follow nest =
    let no = first + 1 + part_count a in
    let next = no + part_count b in
    let after = first_step rest next follow in
    spot_of (first_step a (first + 1) after ∷ first_step b no after ∷ []) nest (part t (If e))
    ∷ (spots_of a (first + 1) after nest ++ (spots_of b no after nest ++ spots_of rest next follow nest))
spots_of (loop t e b rest) first follow nest =
    let next = first + 1 + part_count b in
    let again : Step = record { to = first; back = true } in
    let inside = nest ++ first ∷ [] in
    spot_of (first_step b (first + 1) again ∷ first_step rest next follow ∷ []) inside (part t (While e))
    ∷ (spots_of b (first + 1) again inside ++ spots_of rest next follow nest)

abbrev pub spots : Tree → List Spot
spots tree =
    let end = step_to (part_count tree.body + 1) in
    spot_of (first_step tree.body 1 end ∷ []) [] enter ∷ (spots_of tree.body 1 end [] ++ spot_of [] [] (exit tree.finals) ∷ [])

pub record AreSpots (spots : List Spot) : Type 0 where
  pub two : 2 ≤ length spots
  pub ends : (p : ℕ) → p < length spots → (tag_at spots p ≡ None) ↔ ((p ≡ 0) ⊎ (p + 1 ≡ length spots))
  pub within : (p : ℕ) → All (λ s. s.to < length spots) (next_at spots p)
  pub loops : (p : ℕ) → All (λ w. IsLoopAt spots w) (nest_at spots p)
  pub chain : (p i w : ℕ) → slice_get (nest_at spots p) i ≡ Some w → nest_at spots w ≡ take (i + 1) (nest_at spots p)
