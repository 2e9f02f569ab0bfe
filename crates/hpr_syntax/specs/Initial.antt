-- Uses at points, and the initial definitions of a program.
--
-- UsedBy tree x a  == the point a uses x: a part by its expression, Exit by the names of `end`
-- IsInitial tree x == an undisturbed path for x goes from Enter to a point that uses x
use Rattle.std.specs.Prelude.{ℕ, List, Option, Contains}
use Rattle.hpr_terms.specs.declared.tag.Tag.{Tag}
use Rattle.hpr_syntax.specs.Contents.{UsesIn}
use Rattle.hpr_syntax.specs.declared.rows.Content.{Content}
use Rattle.hpr_syntax.specs.Tree.{Tree}
use Rattle.hpr_syntax.specs.Skeleton.{Point, enter, at, exit}
use Rattle.hpr_syntax.specs.Nests.{Says}
use Rattle.hpr_syntax.specs.Paths.{IsUndisturbed}

abbrev pub UsedBy : Tree → List ℕ → Point → Type 0
UsedBy tree x enter = ⊥
UsedBy tree x (at v) = (c : Content) × Says tree.body v c × UsesIn c x
UsedBy tree x exit = Contains tree.finals x

abbrev pub IsInitial : Tree → List ℕ → Type 0
IsInitial tree x = (a : Point) × (marks : List (Option Tag)) × IsUndisturbed tree.body x enter a marks × UsedBy tree x a
