-- Tags of a tree that are replaced one to one, and issued numbers that allow the new ones.
--
-- IsTagOf t u      == the tree t has a part with the tag u
-- IsOneToOne f t   == f gives different tags of the tree different ones, whether the tree has these or not
-- AreAllowed f i t == i are issued numbers, and each tag of the tree, once f renamed it, was issued by them
use Rattle.std.specs.Prelude.{◌≡◌, ◌≤◌, [], Contains}
use Rattle.hpr_terms.specs.declared.tag.Tag.{Tag}
use Rattle.hpr_syntax.specs.Issued.{Issued, issued_to}
use Rattle.hpr_syntax.specs.Parts.{tags_of}
use Rattle.hpr_syntax.specs.Proper.{IsProperIssued}
use Rattle.hpr_syntax.specs.Tree.{Tree}

abbrev pub IsTagOf : Tree → Tag → Type 0
IsTagOf t u = Contains (tags_of t.body []) u

abbrev pub IsOneToOne : (Tag → Tag) → Tree → Type 0
IsOneToOne f t = (u v : Tag) → IsTagOf t u → IsTagOf t v → f u ≡ f v → u ≡ v

pub record AreAllowed (f : Tag → Tag) (issued : Issued) (t : Tree) : Type 0 where
  pub numbers : IsProperIssued issued
  pub tags : (u : Tag) → IsTagOf t u → (1 ≤ (f u).serial) × ((f u).serial ≤ issued_to (f u).author issued)
