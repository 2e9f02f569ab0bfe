-- The skeleton of a block: its parts by their tags, and which of them are acts, conditionals and loops. What
-- stands where, and the paths of a program, are said over the skeleton alone.
--
-- Skeleton          == nil, or a part and what follows it in its block: an act; a fork with its two branches;
--                      a round with its body
-- Point             == Enter, a part, or Exit
-- skeleton body     == the skeleton of a block
-- StandsIn sk p     == the point p is a part of the skeleton
-- Apart b c         == no point stands in both
-- Distinct sk       == no tag stands twice
use Rattle.std.specs.Prelude.{◌≡◌, ◌⊎◌}
use Rattle.hpr_terms.specs.declared.tag.Tag.{Tag}
use Rattle.hpr_syntax.specs.Body.{Body, done, action, branch, loop}

pub data Skeleton : Type 0 where
  nil : Skeleton
  act : (tag : Tag) → (rest : Skeleton) → Skeleton
  fork : (tag : Tag) → (yes no : Skeleton) → (rest : Skeleton) → Skeleton
  round : (tag : Tag) → (body : Skeleton) → (rest : Skeleton) → Skeleton

pub data Point : Type 0 where
  enter : Point
  at : (tag : Tag) → Point
  exit : Point

abbrev pub skeleton : Body → Skeleton
skeleton done = nil
skeleton (action t d rest) = act t (skeleton rest)
skeleton (branch t e a b rest) = fork t (skeleton a) (skeleton b) (skeleton rest)
skeleton (loop t e b rest) = round t (skeleton b) (skeleton rest)

abbrev pub StandsIn : Skeleton → Point → Type 0
StandsIn nil p = ⊥
StandsIn (act t k) p = (p ≡ at t) ⊎ StandsIn k p
StandsIn (fork t b c k) p = (p ≡ at t) ⊎ (StandsIn b p ⊎ (StandsIn c p ⊎ StandsIn k p))
StandsIn (round t b k) p = (p ≡ at t) ⊎ (StandsIn b p ⊎ StandsIn k p)

abbrev pub Apart : Skeleton → Skeleton → Type 0
Apart b c = (p : Point) → StandsIn b p → ¬ StandsIn c p

abbrev pub Distinct : Skeleton → Type 0
Distinct nil = Unit {0}
Distinct (act t k) = (¬ StandsIn k (at t)) × Distinct k
Distinct (fork t b c k) =
    (¬ StandsIn b (at t)) × (¬ StandsIn c (at t)) × (¬ StandsIn k (at t)) × Apart b c × Apart b k × Apart c k × Distinct b × Distinct c × Distinct k
Distinct (round t b k) = (¬ StandsIn b (at t)) × (¬ StandsIn k (at t)) × Apart b k × Distinct b × Distinct k
