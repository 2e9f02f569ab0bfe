-- Laws of texts.
--
-- tags_from a n k    == the tags of author a with the serials n, n + 1, .. : k of them
-- last_issued a k    == author a with the number k, or none where k is 0
-- IsInOrder a t      == the tree's parts have the tags of author a from 1 on, in preorder, and its issued
--                       numbers are the last of them, if there is one
-- OneTree            == bytes spell at most one tree in one form
-- TagsInOrder        == what an untagged text spells is in the order of its author's tags
use Rattle.std.specs.Prelude.{◌≡◌, ℕ, zero, suc, ◌+◌, List, [], ◌∷◌}
use Rattle.hpr_terms.specs.declared.tag.Tag.{Tag}
use Rattle.hpr_syntax.specs.Body.{part_count}
use Rattle.hpr_syntax.specs.Parts.{tags_of}
use Rattle.hpr_syntax.specs.Issued.{Issued}
use Rattle.hpr_syntax.specs.Tree.{Tree}
use Rattle.hpr_syntax.specs.Grammar.{Form, untagged}
use Rattle.hpr_syntax.specs.Spelling.{Spells}

abbrev pub OneTree : Type 0
OneTree = (form : Form) (bytes : List ℕ) (t u : Tree) → Spells form bytes t → Spells form bytes u → t ≡ u

abbrev pub tags_from : ℕ → ℕ → ℕ → List Tag
tags_from a n zero = []
tags_from a n (suc k) = record { author = a; serial = n } ∷ tags_from a (n + 1) k

abbrev pub last_issued : ℕ → ℕ → Issued
last_issued a zero = []
last_issued a (suc k) = (a, suc k) ∷ []

pub record IsInOrder (a : ℕ) (t : Tree) : Type 0 where
  pub tags : tags_of t.body [] ≡ tags_from a 1 (part_count t.body)
  pub issued : t.issued ≡ last_issued a (part_count t.body)

abbrev pub TagsInOrder : Type 0
TagsInOrder = (a : ℕ) (bytes : List ℕ) (t : Tree) → Spells (untagged a) bytes t → IsInOrder a t
