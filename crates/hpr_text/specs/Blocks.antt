-- Open blocks.
--
-- kind_of blocks == what the innermost open block is
use Rattle.std.specs.Prelude.{List, [], ◌∷◌}
use Rattle.hpr_text.specs.declared.blocks.Begun.{Begun}
use Rattle.hpr_text.specs.declared.blocks.Begun.TheVariants.{Then, Else, Loop}
use Rattle.hpr_text.specs.declared.blocks.Kind.{Kind}
use Rattle.hpr_text.specs.declared.blocks.Kind.TheVariants as kind

abbrev pub kind_of : List Begun → Kind
kind_of [] = kind.Top
kind_of (Then r ∷ os) = kind.Then
kind_of (Else r first ∷ os) = kind.Else
kind_of (Loop r ∷ os) = kind.Loop
