-- Lists of commands and reverts, and the tags that they give to new parts.
--
-- new_tags author issued c == the tag that the command gives to a new part, if it makes one
-- Steps author p ts r      == an editor of this author comes from p to r by commands and reverts, and ts are
--                             the tags of the new parts, the first first
-- Apart ts                 == no two of the tags are the same
-- Fresh p ts               == none of the tags is a part's in p, none was issued before, and no two are the
--                             same
use Rattle.std.specs.Prelude.{◌≡◌, ◌≢◌, ℕ, ◌<◌, None, List, [], ◌∷◌, ◌++◌}
use Rattle.std.specs.List.{AllByRecursion}
use Rattle.hpr_terms.specs.declared.tag.Tag.{Tag}
use Rattle.hpr_syntax.specs.Parts.{find_stmt}
use Rattle.hpr_syntax.specs.Issued.{Issued, issued_to}
use Rattle.hpr_syntax.specs.Tree.{Tree}
use Rattle.hpr_edit.specs.declared.command.Command.{Command}
use Rattle.hpr_edit.specs.declared.command.Command.TheVariants.{Insert, Wrap}
use Rattle.hpr_edit.specs.declared.command.Inverse.{Inverse}
use Rattle.hpr_edit.specs.Edited.{edited, becomes, next_tag}
use Rattle.hpr_edit.specs.Reverted.{reverted}

abbrev pub new_tags : ℕ → Issued → Command → List Tag
new_tags author issued (Insert place c) = next_tag author issued ∷ []
new_tags author issued (Wrap t c) = next_tag author issued ∷ []
new_tags author issued _ = []

-- a revert may be of any inverse
pub data Steps : ℕ → Tree → List Tag → Tree → Type 0 where
  none : (author : ℕ) → (p : Tree) → Steps author p [] p
  command : (author : ℕ) → (p q r : Tree) → (c : Command) → (i : Inverse) → (ts : List Tag) → (is : edited p c author ≡ becomes q i)
      → (more : Steps author q ts r) → Steps author p (new_tags author p.issued c ++ ts) r
  revert : (author : ℕ) → (p r : Tree) → (i : Inverse) → (ts : List Tag) → (more : Steps author (reverted i p) ts r) → Steps author p ts r

abbrev pub Apart : List Tag → Type 0
Apart [] = Unit {0}
Apart (t ∷ ts) = AllByRecursion (λ u. t ≢ u) ts × Apart ts

pub record Fresh (p : Tree) (ts : List Tag) : Type 0 where
  pub absent : AllByRecursion (λ t. find_stmt t p.body ≡ None) ts
  pub unissued : AllByRecursion (λ t. issued_to t.author p.issued < t.serial) ts
  pub apart : Apart ts
