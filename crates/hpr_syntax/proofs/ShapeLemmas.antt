-- The tags of a block, and their number.
use Rattle.std.proofs.Common.{◌≡◌, ◌+◌, List, [], ◌∷◌, ◌++◌, length, refl, ap, ◌∙◌, arith}
use Rattle.hpr_terms.specs.declared.tag.Tag.{Tag}
use Rattle.hpr_syntax.specs.Body.{Body, done, action, branch, loop, part_count}
use Rattle.hpr_syntax.specs.declared.tree.Stmt.{Stmt}
use Rattle.hpr_syntax.specs.declared.tree.Stmt.TheVariants.{If, While}
use Rattle.hpr_syntax.specs.BodyOf.{before}
use Rattle.hpr_syntax.specs.Parts.{tags_of}
use Rattle.hpr_syntax.specs.Tree.{Tree}
use Rattle.hpr_syntax.specs.Shape.{shape}
use Rattle.hpr_syntax.specs.Private.Refusals.{tag_refusal}

count_then : (b : Body) (ts : List Tag) → length (tags_of b ts) ≡ part_count b + length ts
count_then done ts = omega arith
count_then (action t d rest) ts = omega (arith, count_then rest ts)
count_then (branch t e a b rest) ts = omega (arith, count_then a (tags_of b (tags_of rest ts)), count_then b (tags_of rest ts), count_then rest ts)
count_then (loop t e b rest) ts = omega (arith, count_then b (tags_of rest ts), count_then rest ts)

pub count_tags : (b : Body) → length (tags_of b []) ≡ part_count b
count_tags b = omega (arith, count_then b [])

pub tags_append : (b : Body) (ts us : List Tag) → tags_of b (ts ++ us) ≡ tags_of b ts ++ us
tags_append done ts us = refl
tags_append (action t d rest) ts us = ap (λ x. t ∷ x) (tags_append rest ts us)
tags_append (branch t e a b rest) ts us =
    ap (λ x. t ∷ x) (ap (λ x. tags_of a (tags_of b x)) (tags_append rest ts us) ∙ ap (tags_of a) (tags_append b (tags_of rest ts) us) ∙ tags_append a (tags_of b (tags_of rest ts)) us)
tags_append (loop t e b rest) ts us = ap (λ x. t ∷ x) (ap (tags_of b) (tags_append rest ts us) ∙ tags_append b (tags_of rest ts) us)

pub tags_before : (s : Stmt) (rest : Body) → tags_of (before s rest) [] ≡ tags_of (before s done) [] ++ tags_of rest []
tags_before (If t e a b) rest = ap (λ x. t ∷ x) (ap (tags_of a) (tags_append b [] (tags_of rest [])) ∙ tags_append a (tags_of b []) (tags_of rest []))
tags_before (While t e b) rest = ap (λ x. t ∷ x) (tags_append b [] (tags_of rest []))
tags_before s rest = refl

-- the tests, cut into steps
pub refused_by_tags : (t : Tree) → shape t ≡ tag_refusal t.issued (tags_of t.body []) t.body t.finals
unfolding shape
refused_by_tags t = rw (count_tags t.body) refl
