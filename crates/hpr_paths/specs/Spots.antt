-- What is known of the points of a program, in their order.
--
-- Role              == what stands at a point: Enter, a part with its tag and what it says, or Exit with the
--                      names of `end`
-- Spot              == a point: the steps from it, the loops that enclose it from the outermost on, and its
--                      role
-- point_of role     == the point by its tag
-- tag_of role       == the part's tag; none at Enter and at Exit
-- names_of role     == the names that the part uses; at Exit the names of `end`
-- defined role      == the name that the part defines; none at a predicate, at Enter and at Exit
-- RoleUses role x   == the part uses x; Exit uses the names of `end`
-- uses_of role      == the names that the role uses, if there is one
-- steps_of spot     == the steps from the point, if there is one
-- loops_of spot     == the loops that enclose the point, if there is one
-- next_at spots p   == the steps from the point p
-- nest_at spots p   == the loops that enclose the point p, from the outermost on; a loop's predicate has its
--                      own loop as the last
-- role_at spots p   == the role of the point p, if there are so many points
-- tag_at spots p    == the tag of the part p
-- defined_at spots p == the name that the point p defines
-- UsesAt spots p x  == the point p uses x
-- used_at spots p   == the names that the point p uses, from left to right, each as often as it stands there,
--                      and behind them a write's stream or a store's array
-- IsLoopAt spots p  == the point p is the predicate of a loop
use Rattle.std.specs.Prelude.{◌≡◌, ℕ, Option, Some, None, List, [], Contains}
use Rattle.std.specs.List.{slice_get}
use Rattle.std.specs.Option.{option_map, option_and_then}
use Rattle.hpr_terms.specs.declared.tag.Tag.{Tag}
use Rattle.hpr_terms.specs.declared.expr.Expr.{Expr}
use Rattle.hpr_syntax.specs.Contents.{UsesIn, used_names}
use Rattle.hpr_syntax.specs.declared.rows.Content.{Content}
use Rattle.hpr_syntax.specs.declared.rows.Content.TheVariants.{While}
use Rattle.hpr_syntax.specs.Skeleton as points
use Rattle.hpr_syntax.specs.Rows.{assigned}
use Rattle.hpr_paths.specs.declared.spot.Step.{Step}

pub data Role : Type 0 where
  enter : Role
  part : (tag : Tag) → (content : Content) → Role
  exit : (finals : List (List ℕ)) → Role

pub record Spot : Type 0 where
  pub next : List Step
  pub nest : List ℕ
  pub role : Role

abbrev pub point_of : Role → points.Point
point_of enter = points.enter
point_of (part t c) = points.at t
point_of (exit finals) = points.exit

abbrev pub tag_of : Role → Option Tag
tag_of enter = None
tag_of (part t c) = Some t
tag_of (exit finals) = None

abbrev pub defined : Role → Option (List ℕ)
defined enter = None
defined (part t c) = assigned c
defined (exit finals) = None

abbrev pub names_of : Role → List (List ℕ)
names_of enter = []
names_of (part t c) = used_names c
names_of (exit finals) = finals

abbrev pub RoleUses : Role → List ℕ → Type 0
RoleUses enter x = ⊥
RoleUses (part t c) x = UsesIn c x
RoleUses (exit finals) x = Contains finals x

abbrev pub uses_of : Option Role → List (List ℕ)
uses_of None = []
uses_of (Some r) = names_of r

abbrev pub steps_of : Option Spot → List Step
steps_of None = []
steps_of (Some s) = s.next

abbrev pub loops_of : Option Spot → List ℕ
loops_of None = []
loops_of (Some s) = s.nest

abbrev pub next_at : List Spot → ℕ → List Step
next_at spots p = steps_of (slice_get spots p)

abbrev pub nest_at : List Spot → ℕ → List ℕ
nest_at spots p = loops_of (slice_get spots p)

abbrev pub role_at : List Spot → ℕ → Option Role
role_at spots p = option_map (λ s. s.role) (slice_get spots p)

abbrev pub tag_at : List Spot → ℕ → Option Tag
tag_at spots p = option_and_then tag_of (role_at spots p)

abbrev pub defined_at : List Spot → ℕ → Option (List ℕ)
defined_at spots p = option_and_then defined (role_at spots p)

abbrev pub UsesAt : List Spot → ℕ → List ℕ → Type 0
UsesAt spots p x = (r : Role) × (role_at spots p ≡ Some r) × RoleUses r x

abbrev pub used_at : List Spot → ℕ → List (List ℕ)
used_at spots p = uses_of (role_at spots p)

abbrev pub IsLoopAt : List Spot → ℕ → Type 0
IsLoopAt spots p = (t : Tag) × (e : Expr) × (role_at spots p ≡ Some (part t (While e)))
